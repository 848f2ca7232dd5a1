-- Lists stay lawful by what the calls make of them.
use Rattle.std.proofs.Common.{◌≡◌, ℕ, ◌+◌, ◌*◌, ◌<◌, ◌≤◌, true, false, List, ◌++◌, All, refl, ap, inl, inr, ⊎_elim, arith, eq-eqb, ne_eqb, map}
use Rattle.std.specs.List.{Contains}
use Rattle.std.proofs.lemmas.Bool.{true≢false, cases_eq, cases_lt}
use Rattle.std.proofs.lemmas.List.Elements.{All-append, All-contains}
use Rattle.dude_base.specs.declared.limits.TheConstants.{PAGE}
use Rattle.dude_base.specs.Records.{Covers, HasNumbers, RedoBundle, RedoRecord, first_of}
use Rattle.redo_record.specs.Waiting.{AddsWaiting, IsEnd, KeepsOver, Lead, Waiting, Waits}
use Rattle.redo_record.proofs.WaitingRecords.{consecutive_reach, consecutive_up, waiting_law}
use Rattle.back_store.specs.Backlog.{BacklogState, IsLawful, StopsAfter}
use Rattle.back_store.specs.Lane.{released_lane}
use Rattle.back_store.specs.Lanes.{no_lane, waiting_in, waiting_of}
use Rattle.back_store.proofs.AddedRecords.{added_waiting}
use Rattle.back_store.proofs.ReleasedRecords.{released_waiting}
use Rattle.back_store.proofs.WaitingLanes.{waits_in}
use Rattle.back_store.specs.Back.{BackState, IsEnd as IsLastEnd, MayPersist, waiting_now, waiting_of_ring}
use Rattle.back_store.specs.Answers.{announced, reproduced, with_record}
use Rattle.back_store.proofs.KeptLogs.{durable_upto}
use Rattle.stm_slots.specs.KnownLists.{BackLists, LawfulLists, LiveLists, lists}
use Rattle.stm_slots.specs.Records.{AreNew, HasRecord, IsReached, JoinsJust, LacksRecord}
use Rattle.stm_slots.proofs.JoinedRecords.{all_numbers, distinct_both, has_either_list, joins_front, joins_more, lacks_from, not_both, over_reached, reached_more}

-- what waits is over the reproduced number
pub waits_over : (v : BacklogState) → IsLawful v → (w : Waiting) → Contains (waiting_of v.lanes) w → v.reproduced < first_of w.redo
waits_over v lawful w among =
    let at = waits_in 0 v.lanes w among in
    All-contains (λ (q : RedoBundle). v.reproduced < first_of q) _ w.redo (lawful.over at.lane no_lane at.within) (at.among no_lane)

module _ (first : ℕ) (l : BackLists) (lawful : LawfulLists first l) (alive : l.state.dead ≡ false) where
  abbrev v : BackState
  v = l.state

  live : LiveLists first l
  live = lawful.live alive

  -- all up to a number to which waiting bundles lead was handed over
  pub reached_by : (to : ℕ) (bs : List RedoBundle) → Lead (waiting_now v) v.log.reproduced bs to → IsReached first l.records to
  reached_by to bs lead m lt le = ⊎_elim
      (λ high.
      let found = consecutive_reach (Waits (waiting_now v)) v.log.reproduced to m bs lead.wait lead.consecutive high le in
      (live.waits _ found.holds.is_one).has m found.covers)
      (λ low. let up = consecutive_up v.log.reproduced v.log.durable lawful.log.led.records lawful.log.led.lead.consecutive in live.reached m lt (omega arith))
      (cases_lt v.log.reproduced m)

  -- the end to which waiting records lead: all up to it was handed over, the next one wasn't, and it is no less than the durable number
  pub record EndOf (end : ℕ) : Type 0 where
    pub reached : IsReached first l.records end
    pub next : LacksRecord l.records (end + 1)
    pub up : v.log.durable ≤ end

  pub end_of : (end : ℕ) → IsLastEnd v end → EndOf end
  end_of end is =
      let over = consecutive_up v.log.reproduced end is.records is.lead.consecutive in
      record {
        reached = reached_by end is.records is.lead;
        next = lacks_from l.records (end + 1) (λ h. let w = live.logged (end + 1) h (omega arith) in
            waiting_law.uncovered (waiting_now v) v.log.reproduced end w.0 lawful.log.lanes.distinct is w.1 (waits_over v.log lawful.log w.0 w.1) w.2);
        up = durable_upto v end lawful.log is;
      }

  -- the numbers of new records are over the durable one, and nothing that waits covers one of them
  module _ (b : RedoBundle) (more : List RedoRecord) (joined : JoinsJust more b) (new : AreNew first l.records more) where
    first_new : HasRecord more (first_of b)
    first_new = joined.joins.has (first_of b) (record { low = omega arith; high = omega arith })

    over_durable : v.log.durable < first_of b
    over_durable = over_reached first v.log.durable (first_of b) l.records (new.over (first_of b) first_new) (new.lacks (first_of b) first_new) live.reached

    none_covers : (w : Waiting) (number : ℕ) → Contains (waiting_now v) w → Covers w.redo number → Covers b number → ⊥
    none_covers w number among covers too = not_both l.records number ((live.waits w among).has number covers) (new.lacks number (joined.joins.has number too))

    -- so the bundle may be persisted in a ring where it is the newest
    pub may_persist : (ring : ℕ) → ring < v.log.sizes.rings → HasNumbers b → All (λ q. q.last < first_of b) (waiting_of_ring v ring) → All (λ w. w.at < v.log.sizes.pages * PAGE) b.writes → MayPersist v ring b
    may_persist ring exists numbers newest home = record { exists = exists; numbers = numbers; newest = newest; over = over_durable; new = none_covers; home = home }

    lists_with : (w : BackState) → IsLawful w.log → w.log.reproduced ≡ v.log.reproduced → (w.dead ≡ false → LiveLists first (lists w (more ++ l.records))) → LawfulLists first (lists w (more ++ l.records))
    lists_with w log same live_new = record {
      log = log;
      once = distinct_both more l.records joined.once lawful.once new.lacks;
      over = All-append (λ (r : RedoRecord). first < r.number) more l.records (all_numbers (λ n. first < n) more new.over) lawful.over;
      from = (let from = lawful.from in omega arith);
      live = live_new;
    }

    pub lawful_persisted : (ring : ℕ) → ring < v.log.sizes.rings → IsLawful (with_record ring b v).log → LawfulLists first (lists (with_record ring b v) (more ++ l.records))
    lawful_persisted ring inside log =
        let adds : AddsWaiting (waiting_in ring b) (waiting_now v) (waiting_now (with_record ring b v)) = added_waiting v.log.lanes ring b (let count = lawful.log.lanes.count in omega arith) in
        lists_with (with_record ring b v) log refl (λ _. record {
          reached = reached_more first v.log.durable more l.records live.reached;
          waits = λ w among. ⊎_elim
              (λ old. joins_more first l.records more new w.redo (live.waits w old))
              (λ is. let same : w.redo ≡ b = ap (λ (u : Waiting). u.redo) is in rw same (joins_front first l.records more new b joined.joins))
              (adds.only w among);
          logged = λ n h up. ⊎_elim
              (λ here. (waiting_in ring b, adds.one, joined.only n here))
              (λ old. let w = live.logged n old up in (w.0, adds.others w.0 w.1, w.2))
              (has_either_list more l.records n h);
        })

    pub lawful_died_persisting : IsLawful v.log → LawfulLists first (lists (record v { dead = true }) (more ++ l.records))
    lawful_died_persisting log = lists_with (record v { dead = true }) log refl (λ no. absurd (true≢false no))

  pub lawful_announced : (end : ℕ) → IsLastEnd v end → IsLawful (announced v end).log → LawfulLists first (lists (announced v end) l.records)
  lawful_announced end is log = record {
    log = log;
    once = lawful.once;
    over = lawful.over;
    from = lawful.from;
    live = λ _. record { reached = reached_by end is.records is.lead; waits = live.waits; logged = live.logged };
  }

  -- the records up to a number to which waiting bundles lead are in the home
  pub lawful_without : (n : ℕ) → n ≤ v.log.durable → IsEnd (waiting_now v) v.log.reproduced n → IsLawful (reproduced v n).log → LawfulLists first (lists (reproduced v n) l.records)
  lawful_without n upto end log = elim (cases_eq n v.log.reproduced) [
    | inl same ↦ rw (eq-eqb n v.log.reproduced same) lawful
    | inr other ↦
        let keeps : KeepsOver n (waiting_of v.log.lanes) (waiting_of (map (released_lane n) v.log.lanes)) = released_waiting n v.log.lanes in
        let up = consecutive_up v.log.reproduced n end.records end.lead.consecutive in
        let log_n = rw (ne_eqb n v.log.reproduced other) at log in
        rw (ne_eqb n v.log.reproduced other) (record {
          log = log_n;
          once = lawful.once;
          over = lawful.over;
          from = (let from = lawful.from in omega arith);
          live = λ _. record {
            reached = live.reached;
            waits = λ w among. live.waits w (keeps.only w among).0;
            logged = λ m h lt. let w = live.logged m h (omega arith) in let covers = w.2 in let high = covers.high in (w.0, keeps.kept w.0 w.1 (omega arith), w.2);
          };
        })
  ]

  -- where a reproduction stops: at an end that is announced
  pub stop_end : (most n : ℕ) → StopsAfter v.log most n → (n ≤ v.log.durable) × IsEnd (waiting_now v) v.log.reproduced n
  stop_end most n (inl near) = (near.0.announced, near.0.end)
  stop_end most n (inr next) = (next.3.least v.log.durable (record { records = lawful.log.led.records; lead = lawful.log.led.lead }) next.1, next.3.end)

pub lawful_dead : (first : ℕ) (l : BackLists) → LawfulLists first l → LawfulLists first (lists (record l.state { dead = true }) l.records)
lawful_dead first l lawful = record { log = lawful.log; once = lawful.once; over = lawful.over; from = lawful.from; live = λ alive. absurd (true≢false alive) }
