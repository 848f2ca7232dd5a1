-- What the back is under way when it was handed the next bundle.
use Rattle.std.proofs.Common.{◌≡◌, ◌↔◌, ◌⊎◌, ℕ, ◌+◌, ◌*◌, ◌<◌, ◌≤◌, true, false, List, [], ◌∷◌, ◌++◌, length, get_or, refl, sym, ap, ◌∙◌, subst, inl, inr, ⊎_elim, eq-eqb, ne_eqb, arith}
use Rattle.std.specs.Prelude.{Result, Err, IfErr, IsErrOf, Some}
use Rattle.std.specs.List.{All, Contains}
use Rattle.std.proofs.lemmas.List.{get_or_default}
use Rattle.std.proofs.lemmas.List.Elements.{All-nil, All-cons, All-weaker}
use mathlib.Core.Logic.{dite}
use native.Mathlib.Decide.{ℕ_discrete, dec_lt}
use Rattle.dude_base.specs.declared.limits.TheConstants.{PAGE}
use Rattle.dude_base.specs.declared.write.Write.{Write}
use Rattle.dude_base.specs.Records.{HasNumbers, RedoBundle, RedoRecord, first_of}
use Rattle.dude_base.specs.Writes.{written}
use Rattle.pmem_trait.specs.Sights.{Sight}
use Rattle.back_store.specs.Answers.{after_persist, with_record}
use Rattle.back_store.specs.Back.{BackState, IsPersistFault, IsRingFull, MayPersist, ring_full, waiting_of_ring}
use Rattle.back_store.specs.declared.back_fault.BackFault.{BackFault}
use Rattle.back_store.specs.declared.back_fault.BackFault.TheVariants.{RingFull}
use Rattle.core_events.specs.Entries.{writes_of}
use Rattle.stm_slots.specs.Known.{Known}
use Rattle.stm_slots.specs.KnownLists.{lists}
use Rattle.stm_slots.specs.Records.{AreNew, HasRecord, LacksRecord, writes_in}
use Rattle.stm_slots.proofs.JoinedRecords.{has_behind, has_either_list, has_front, lacks_from, not_both, over_reached, writes_behind, writes_front}
use Rattle.stm_slots.proofs.Lawful.{may_persist}
use Rattle.run_threads.specs.Bundled.{IsBundled}
use Rattle.run_threads.specs.Ending.{Ending, HasDied, IsKnownBy, IsRestOf, IsUnderWay, LeavesFrom, since}
use Rattle.run_threads.specs.Rest.{AreUnder, IsWithin, at, number_at}
use Rattle.run_threads.specs.declared.open_bundle.OpenBundle.{OpenBundle}
use Rattle.run_threads.proofs.RestRises.{of_rest, rising_at}
use Rattle.stm_slots.proofs.Following.{waits_with_record}
use Rattle.stm_turns.proofs.Past.{full_late}
use Rattle.tiny_stm.specs.Ended.{IsOfRest}
use Rattle.tiny_stm.specs.declared.posted.Posted.{Posted}

-- ---- words that are written
some_written : (w : Write) (ws : List Write) → written (w ∷ ws) w.at ≡ Some w.value
some_written w ws = rw (eq-eqb w.at w.at refl) refl

-- where only words under a place are written, all writes are of such
all_under : (words : ℕ) (ws : List Write) → AreUnder words ws → All (λ w. w.at < words) ws
all_under words [] under = All-nil (λ (w : Write). w.at < words)
all_under words (w ∷ ws) under = All-cons (λ (v : Write). v.at < words) w ws (under w.at w.value (some_written w ws)) (all_under words ws (λ i x is. dite (ℕ_discrete w.at i)
    (λ e. under i w.value (rw (eq-eqb w.at i e) refl))
    (λ o. under i x (rw (ne_eqb w.at i o) is))))

none_newer : (xs : List RedoBundle) (n : ℕ) → ((q : RedoBundle) → Contains xs q → q.last < n) → All (λ q. q.last < n) xs
none_newer xs n each q d lt = each (get_or xs q d) (q, lt, get_or_default xs q (get_or xs q d) d lt)

all_home : (e : Ending) (rest : List Posted) → IsRestOf e rest → All (λ q. AreUnder (e.sizes.pages * PAGE) q.redo.writes) rest
all_home e rest is = All-weaker (IsOfRest e.setup e.sizes.rings e.entries e.last) (λ (q : Posted). AreUnder (e.sizes.pages * PAGE) q.redo.writes)
    (λ q of i x w. let lt = of.home i x w in let same : e.sizes.pages ≡ e.setup.pages = is.pages in subst (λ (p : ℕ). i < p * PAGE) (sym same) lt) rest is.posted.each

module _ (e : Ending) (rest : List Posted) (from : ℕ) (v : BackState) (s : Sight) (u : IsUnderWay e rest from v s) (o : OpenBundle) (b : IsBundled v.log.sizes.cells rest from o) where
  abbrev bundle : RedoBundle
  bundle = o.bundle

  abbrev more : List RedoRecord
  more = b.records

  abbrev rs : List RedoRecord
  rs = u.records

  inside : from < length rest
  inside = let a = b.some in let c = b.within in omega arith

  first_of_rest : IsOfRest e.setup e.sizes.rings e.entries e.last (at rest from)
  first_of_rest = of_rest e rest u.of from inside

  -- a number of the bundle, as that of a record of the rest
  of_bundle : (n : ℕ) → HasRecord more n → (i : ℕ) × (from ≤ i) × (i < o.end) × (i < length rest) × (number_at rest i ≡ n)
  of_bundle n has = let w = b.only n has in let h = w.high in let c = b.within in (w.place, w.low, w.high, omega arith, w.is)

  has_last : HasRecord more bundle.last
  has_last = b.joins.joins.has bundle.last (record { low = omega arith; high = omega arith })

  pub new_records : AreNew e.setup.first rs more
  new_records = record {
    over = λ n has. let w = of_bundle n has in let of = of_rest e rest u.of w.0 w.3 in let over = of.over in let is = w.4 in omega arith;
    lacks = λ n has. let w = of_bundle n has in subst (LacksRecord rs) w.4 (u.left.lacks w.0 w.1 w.3);
  }

  numbers : HasNumbers bundle
  numbers = record {
    low = (let f = b.first in let of = first_of_rest in let over = of.over in omega arith);
    high = (let w = of_bundle bundle.last has_last in let of = of_rest e rest u.of w.0 w.3 in let upto = of.upto in let is = w.4 in let small = u.of.small in omega arith);
  }

  ring_inside : o.ring < v.log.sizes.rings
  ring_inside = let r = b.ring in let of = first_of_rest in let lt = of.ring in let sizes = ap (λ z. z.rings) u.known.sizes in omega arith

  ring_lane : o.ring < length v.log.lanes
  ring_lane = let r = ring_inside in let count = u.known.known.lawful.log.lanes.count in omega arith

  newest : All (λ q. q.last < first_of bundle) (waiting_of_ring v o.ring)
  newest = none_newer (waiting_of_ring v o.ring) (first_of bundle) (λ q among.
      let f = b.first in let lt = u.left.newest from q (omega arith) inside (subst (λ (t : ℕ). Contains (waiting_of_ring v t) q) b.ring among) in omega arith)

  over_durable : v.log.durable < first_of bundle
  over_durable =
      let f = b.first in let of = first_of_rest in
      let lt = over_reached e.setup.first v.log.durable (number_at rest from) rs of.over (u.left.lacks from (omega arith) inside) (u.known.known.lawful.live u.left.alive).reached in omega arith

  home : All (λ w. w.at < v.log.sizes.pages * PAGE) bundle.writes
  home = subst (λ (p : ℕ). All (λ w. w.at < p * PAGE) bundle.writes) (sym (ap (λ z. z.pages) u.known.sizes)) (all_under (e.sizes.pages * PAGE) bundle.writes (b.home (e.sizes.pages * PAGE) (all_home e rest u.of)))

  -- it may be persisted
  pub may_hand : MayPersist v o.ring bundle
  may_hand = may_persist e.setup.first (lists v rs) u.known.known.lawful u.left.alive bundle more b.joins new_records o.ring ring_inside numbers newest home

  -- ---- its records were handed over, or perhaps were
  listed_more : (n : ℕ) → HasRecord (more ++ rs) n → (n ≤ e.last) × (writes_in (more ++ rs) n ≡ writes_of e.entries n)
  listed_more n has = ⊎_elim
      (λ new.
      let w = of_bundle n new in let of = of_rest e rest u.of w.0 w.3 in
      subst (λ (m : ℕ). (m ≤ e.last) × (writes_in (more ++ rs) m ≡ writes_of e.entries m)) w.4
      (of.upto, writes_front more rs (number_at rest w.0) (b.has w.0 w.1 w.2).0 ∙ ((b.has w.0 w.1 w.2).1 ∙ of.writes)))
      (λ old.
      let is = u.known.listed n old in
      (is.0, writes_behind more rs n (lacks_from more n (λ new. not_both rs n old (new_records.lacks n new))) ∙ is.1))
      (has_either_list more rs n has)

  pub known_more : (w : BackState) (t : Sight) → Known (since e) (lists w (more ++ rs)) t → w.log.sizes ≡ v.log.sizes → v.log.durable ≤ w.log.durable → IsKnownBy e (more ++ rs) w t
  known_more w t known sizes durable = record { known = known; listed = listed_more; sizes = sizes ∙ u.known.sizes; announced = (let a = u.known.announced in omega arith) }

  placed_more : (n : ℕ) → e.setup.first < n → n ≤ e.last → HasRecord (more ++ rs) n ⊎ IsWithin rest o.end (length rest) n
  placed_more n over upto = ⊎_elim
      (λ old. inl (has_behind more rs n old))
      (λ w. dite (dec_lt w.place o.end)
      (λ before. inl (subst (HasRecord (more ++ rs)) w.is (has_front more rs (number_at rest w.place) (b.has w.place w.low before).0)))
      (λ behind. inr (record { place = w.place; low = (omega arith); high = w.high; is = w.is })))
      (u.left.placed n over upto)

  lacks_more : (i : ℕ) → o.end ≤ i → i < length rest → LacksRecord (more ++ rs) (number_at rest i)
  lacks_more i low lt = lacks_from (more ++ rs) (number_at rest i) (λ has. ⊎_elim
      (λ new. let w = of_bundle (number_at rest i) new in let less = rising_at rest u.of.posted.rising w.0 i (let h = w.2 in omega arith) lt in let is = w.4 in absurd (omega arith))
      (λ old. not_both rs (number_at rest i) old (u.left.lacks i (let a = b.some in omega arith) lt))
      (has_either_list more rs (number_at rest i) has))

  newest_more : (i : ℕ) (q : RedoBundle) → o.end ≤ i → i < length rest → Contains (waiting_of_ring (with_record o.ring bundle v) (at rest i).ring) q → q.last < number_at rest i
  newest_more i q low lt among = ⊎_elim
      (λ old. u.left.newest i q (let a = b.some in omega arith) lt old)
      (λ new. let w = of_bundle bundle.last has_last in let less = rising_at rest u.of.posted.rising w.0 i (let h = w.2 in omega arith) lt in let is = w.4 in let same = ap (λ (c : RedoBundle). c.last) new.1 in omega arith)
      (waits_with_record v o.ring bundle ring_lane (at rest i).ring q among)

  pub handed_on : (w : BackState) (t : Sight) → w ≡ with_record o.ring bundle v → Known (since e) (lists w (more ++ rs)) t → IsUnderWay e rest o.end w t
  handed_on w t is known = record {
    of = u.of;
    records = more ++ rs;
    known = known_more w t known (ap (λ (x : BackState). x.log.sizes) is) (let d = ap (λ (x : BackState). x.log.durable) is in omega arith);
    left = record {
      alive = ap (λ (x : BackState). x.dead) is ∙ u.left.alive;
      placed = placed_more;
      lacks = lacks_more;
      newest = λ i q low lt among. newest_more i q low lt (subst (λ (x : BackState). Contains (waiting_of_ring x (at rest i).ring) q) is among);
    };
  }

  -- the device failed
  pub died_handing : (w : BackState) (t : Sight) → w ≡ record v { dead = true } → Known (since e) (lists w (more ++ rs)) t → HasDied e w t
  died_handing w t is known = record {
    dead = ap (λ (x : BackState). x.dead) is;
    kept = record { records = more ++ rs; known = known_more w t known (ap (λ (x : BackState). x.log.sizes) is) (let d = ap (λ (x : BackState). x.log.durable) is in omega arith) };
  }

  -- its ring had no room
  pub full_hand : (result : Result (Unit {0}) BackFault) (used need : ℕ) → result ≡ Err (RingFull used need) → (w : BackState) → w ≡ after_persist result o.ring bundle v → IfErr result (IsPersistFault v o.ring bundle) → (IsErrOf result (ring_full v o.ring bundle) ↔ ((v.dead ≡ false) × IsRingFull v o.ring bundle)) → (w ≡ v) × (v.log.reproduced + 1 < first_of bundle)
  full_hand result used need full w state only cause =
      let late = full_late e.setup.first v rs u.known.known.lawful o.ring bundle ring_lane over_durable newest b.short result used need full w state only cause in (late.0.0, late.1)

-- nothing changed
pub same_under : (e : Ending) (rest : List Posted) (from : ℕ) (v w : BackState) (s t : Sight) → (u : IsUnderWay e rest from v s) → w ≡ v → Known (since e) (lists w u.records) t → IsUnderWay e rest from w t
same_under e rest from v w s t u is known = record {
  of = u.of;
  records = u.records;
  known = record { known = known; listed = u.known.listed; sizes = ap (λ (x : BackState). x.log.sizes) is ∙ u.known.sizes; announced = (let d = ap (λ (x : BackState). x.log.durable) is in let a = u.known.announced in omega arith) };
  left = subst (LeavesFrom e rest from u.records) (sym is) u.left;
}
