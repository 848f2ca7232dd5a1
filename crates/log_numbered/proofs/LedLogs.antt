-- Whatever the medium: where waiting records lead up to a number, they do behind each call.
use Rattle.std.proofs.Common.{◌≡◌, ℕ, ◌+◌, ◌*◌, ◌/◌, ◌<◌, ◌≤◌, max, Bool, if◌then◌else◌, List, [], ◌∷◌, ◌++◌, All, length, eq-eqb, refl, sym, ap, ◌∙◌, subst, inl, inr, ⊎_elim, arith}
use Rattle.std.specs.List.{Contains}
use Rattle.std.proofs.lemmas.Bool.{cases_eq, ne_eqb}
use Rattle.std.proofs.lemmas.List.Elements.{All-contains, Contains-get_or}
use Rattle.dude_base.specs.declared.limits.TheConstants.{MAX_NUMBER}
use Rattle.dude_base.specs.declared.sizes.Sizes.{Sizes}
use Rattle.dude_base.specs.Sizes.{IsAccepted}
use Rattle.dude_base.specs.Records.{Covers, RedoBundle, first_of}
use Rattle.redo_record.specs.Record.{cells_for}
use Rattle.redo_record.specs.Waiting.{AddsWaiting, AreDisjoint, Waiting}
use Rattle.redo_record.proofs.WaitingRecords.{lead_more, waiting_law}
use Rattle.back_store.specs.Lane.{used_by}
use Rattle.back_store.specs.Lanes.{lane_at, no_lane, waiting_in}
use Rattle.back_store.specs.Backlog.{StopsAfter, without_records_to}
use Rattle.back_store.proofs.AddedRecords.{added_distinct, added_lawful, added_waiting}
use Rattle.back_store.proofs.EmptyLanes.{empty_lawful, none_waiting}
use Rattle.back_store.proofs.Merging.{led_up}
use Rattle.back_store.proofs.ReleasedRecords.{released_lawful, released_waiting}
use Rattle.back_store.proofs.WaitingLanes.{waits_in, waits_of_ring}
use Rattle.back_store.specs.Back.{BackState, IsEnd, IsRingFull, idle, waiting_now, waiting_of_ring}
use Rattle.back_store.specs.Answers.{announced, reproduced, with_record}
use Rattle.back_store.proofs.KeptLogs.{durable_upto}
use Rattle.log_numbered.specs.Backs.{LeadsUpTo}

pub few_cells : (count : ℕ) → count ≤ 24 → max 1 ((count + 2) / 3) ≤ 8
few_cells count few = omega arith

empty_from_none : (rs : List RedoBundle) → ((r : RedoBundle) → Contains rs r → ⊥) → rs ≡ []
empty_from_none [] none = refl
empty_from_none (r ∷ rs) none = absurd (none r (0, omega arith, refl))

pub leads_idle : (s : Sizes) (number : ℕ) → IsAccepted s → number ≤ MAX_NUMBER → LeadsUpTo (idle s number) number
leads_idle s number accepted small =
    let none : (w : Waiting) → Contains (waiting_now (idle s number)) w → ⊥ = none_waiting s in
    record {
      alive = refl;
      lawful = empty_lawful s number accepted small;
      end = record { records = []; lead = waiting_law.here (waiting_now (idle s number)) number; greatest = λ w among. absurd (none w among) };
      small = small;
      none_over = λ w among. absurd (none w among);
    }

module _ (v : BackState) (last : ℕ) (leads : LeadsUpTo v last) where
  pub durable_least : v.log.durable ≤ last
  durable_least = durable_upto v last leads.lawful leads.end

  pub reproduced_least : v.log.reproduced ≤ v.log.durable
  reproduced_least = led_up v.log.lanes v.log.reproduced v.log.durable leads.lawful.led

  pub ring_newest : (ring : ℕ) (b : RedoBundle) → first_of b ≡ last + 1 → All (λ q. q.last < first_of b) (waiting_of_ring v ring)
  ring_newest ring b is k d lt =
      let below = leads.none_over _ (waits_of_ring v.log.lanes ring _ (Contains-get_or (waiting_of_ring v ring) k d lt)) in
      omega arith

  pub none_covers : (b : RedoBundle) → first_of b ≡ last + 1 → (w : Waiting) (number : ℕ) → Contains (waiting_now v) w → Covers w.redo number → Covers b number → ⊥
  none_covers b is w number among one other = let below = leads.none_over w among in let high = one.high in let low = other.low in omega arith

  pub inside : (ring : ℕ) → ring < v.log.sizes.rings → ring < length v.log.lanes
  inside ring below = let count = leads.lawful.lanes.count in omega arith

  module _ (ring : ℕ) (b : RedoBundle) (below : ring < v.log.sizes.rings) (next : first_of b ≡ last + 1) where
    pub adds : AddsWaiting (waiting_in ring b) (waiting_now v) (waiting_now (with_record ring b v))
    adds = added_waiting v.log.lanes ring b (inside ring below)

    pub disjoint_added : AreDisjoint (waiting_now (with_record ring b v))
    disjoint_added = added_distinct v.log.lanes ring b (inside ring below) leads.lawful.lanes.distinct (none_covers b next)

    upto_next : (w : Waiting) → Contains (waiting_now (with_record ring b v)) w → w.redo.last ≤ b.last
    upto_next w among = ⊎_elim
        (λ old. let le = leads.none_over w old in omega arith)
        (λ new. let same : w.redo.last ≡ b.last = ap (λ (u : Waiting). u.redo.last) new in omega arith)
        (adds.only w among)

    pub end_added : IsEnd (with_record ring b v) b.last
    end_added = record {
      records = leads.end.records ++ b ∷ [];
      lead = waiting_law.next (waiting_now (with_record ring b v)) v.log.reproduced last leads.end.records b (lead_more adds leads.end.lead) (record { ring = ring; is_one = adds.one }) next;
      greatest = λ w among same. let le = upto_next w among in omega arith;
    }

    pub leads_added : (IsRingFull v ring b → ⊥) → b.last ≤ MAX_NUMBER → All (λ w. w.at < v.log.sizes.pages * 64) b.writes → LeadsUpTo (with_record ring b v) b.last
    leads_added room small home = record {
      alive = leads.alive;
      lawful = added_lawful v.log ring b leads.lawful below room (record { low = omega arith; high = small }) home (none_covers b next) (let up = durable_least in omega arith);
      end = end_added;
      small = small;
      none_over = upto_next;
    }

  pub leads_announced : LeadsUpTo (announced v last) last
  leads_announced = record {
    alive = leads.alive;
    lawful = record {
      accepted = leads.lawful.accepted;
      lanes = leads.lawful.lanes;
      over = leads.lawful.over;
      led = record { records = leads.end.records; lead = leads.end.lead };
      small = leads.small;
    };
    end = leads.end;
    small = leads.small;
    none_over = leads.none_over;
  }

  -- where all up to the last number is in the home nothing waits
  none_left : v.log.reproduced ≡ last → (ring : ℕ) → ring < v.log.sizes.rings → (b : RedoBundle) → Contains (waiting_of_ring v ring) b → ⊥
  none_left all ring below b among =
      let up : v.log.reproduced < first_of b = All-contains (λ (q : RedoBundle). v.log.reproduced < first_of q) (waiting_of_ring v ring) b (leads.lawful.over ring no_lane (inside ring below)) among in
      let low : b.last ≤ last = leads.none_over (waiting_in ring b) (waits_of_ring v.log.lanes ring b among) in
      omega arith

  none_in_ring : (ring : ℕ) → ring < v.log.sizes.rings → v.log.reproduced ≡ last → waiting_of_ring v ring ≡ []
  none_in_ring ring below all = empty_from_none (waiting_of_ring v ring) (none_left all ring below)

  pub none_waits : v.log.reproduced ≡ last → (w : Waiting) → Contains (waiting_now v) w → ⊥
  none_waits all w among =
      let at = waits_in 0 v.log.lanes w among in
      let count = leads.lawful.lanes.count in
      let within = at.within in
      none_left all at.lane (omega arith) w.redo (at.among no_lane)

  pub has_room : (ring : ℕ) (b : RedoBundle) → ring < v.log.sizes.rings → v.log.reproduced ≡ last → cells_for (length b.writes) ≤ v.log.sizes.cells → IsRingFull v ring b → ⊥
  has_room ring b below all short full =
      let used : used_by (waiting_of_ring v ring) ≡ 0 = ap used_by (none_in_ring ring below all) in
      let cells : (lane_at v.log.lanes ring).ring.sizes.cells ≡ v.log.sizes.cells = ap (λ (s : Sizes). s.cells) (leads.lawful.lanes.each ring no_lane (inside ring below)).sizes in
      omega arith

  -- where all is announced, all is reproduced
  pub stop_last : (most number : ℕ) → MAX_NUMBER ≤ most → v.log.durable ≡ last → StopsAfter v.log most number → number ≡ last
  stop_last most number great all stops = ⊎_elim
      (λ at. let up = at.0.announced in let down = at.0.last last (record { records = leads.end.records; lead = leads.end.lead }) (omega arith) (let small = leads.small in omega arith) in omega arith)
      (λ none. let over = none.1 in let down = none.2.last last (record { records = leads.end.records; lead = leads.end.lead }) (omega arith) (let small = leads.small in omega arith) in absurd (omega arith))
      stops

  module _ (all : v.log.durable ≡ last) where
    abbrev without : BackState
    without = record v { log = without_records_to last v.log }

    upto_last : (w : Waiting) → Contains (waiting_now without) w → w.redo.last ≤ last
    upto_last w among = leads.none_over w ((released_waiting last v.log.lanes).only w among).0

    leads_without : LeadsUpTo without last
    leads_without = record {
      alive = leads.alive;
      lawful = released_lawful v.log last leads.lawful (record { records = leads.end.records; lead = leads.end.lead }) (omega arith);
      end = record { records = []; lead = waiting_law.here (waiting_now without) last; greatest = λ w among same. let le = upto_last w among in omega arith };
      small = leads.small;
      none_over = upto_last;
    }

    reproduced_last : LeadsUpTo (reproduced v last) last
    reproduced_last = elim (cases_eq last v.log.reproduced) [
      | inl same ↦ subst (λ w. LeadsUpTo w last) (sym (ap (λ (b : Bool). if b then v else without) (eq-eqb last v.log.reproduced same))) leads
      | inr apart ↦ subst (λ w. LeadsUpTo w last) (sym (ap (λ (b : Bool). if b then v else without) (ne_eqb last v.log.reproduced apart))) leads_without
    ]

    pub leads_reproduced : (number : ℕ) → number ≡ last → LeadsUpTo (reproduced v number) last
    leads_reproduced number is = subst (λ n. LeadsUpTo (reproduced v n) last) (sym is) reproduced_last

  -- what a reproduction leaves of the numbers and the sizes
  pub record Reproduced (w : BackState) : Type 0 where
    pub reproduced : w.log.reproduced ≡ last
    pub durable : w.log.durable ≡ v.log.durable
    pub sizes : w.log.sizes ≡ v.log.sizes

  pub numbers_reproduced : (number : ℕ) → number ≡ last → Reproduced (reproduced v number)
  numbers_reproduced number is = elim (cases_eq number v.log.reproduced) [
    | inl same ↦ subst Reproduced (sym (ap (λ (b : Bool). if b then v else record v { log = without_records_to number v.log }) (eq-eqb number v.log.reproduced same))) (record { reproduced = sym same ∙ is; durable = refl; sizes = refl })
    | inr apart ↦ subst Reproduced (sym (ap (λ (b : Bool). if b then v else record v { log = without_records_to number v.log }) (ne_eqb number v.log.reproduced apart))) (record { reproduced = is; durable = refl; sizes = refl })
  ]
