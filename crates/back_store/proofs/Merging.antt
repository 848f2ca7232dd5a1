-- One waiting record after another, in the order of their numbers.
use Rattle.std.proofs.Common.{◌≡◌, ◌⊎◌, ℕ, ◌+◌, ◌<◌, ◌*◌, ◌≤◌, List, [], ◌∷◌, ◌++◌, All, Some, slice_get, length, get_or, set, sym, ap, ◌∙◌, subst, inl, inr, arith, get_or-set_same, get_or-set_other}
use Rattle.std.specs.Prelude.{slice_index}
use Rattle.std.proofs.lemmas.Bool.{cases_eq, cases_lt}
use Rattle.std.proofs.lemmas.List.Elements.{Contains-get_or, All-append, All-head, All-same}
use Rattle.std.proofs.lemmas.List.{get_or_default}
use Rattle.std.proofs.lemmas.Option.{get_or_from_slice_get, slice_get-get_or}
use Rattle.dude_base.specs.declared.limits.TheConstants.{MAX_CELLS, MAX_NUMBER, MAX_RINGS}
use Rattle.dude_base.specs.declared.sizes.Sizes.{Sizes}
use Rattle.dude_base.specs.Records.{RedoBundle, Covers, HasNumbers, first_of}
use Rattle.dude_base.specs.Sizes.{IsAccepted}
use Rattle.redo_record.specs.Waiting.{Waiting, Waits, Lead, AreDisjoint}
use Rattle.redo_record.specs.Record.{cells_for}
use Rattle.redo_record.specs.Recovery.{AreConsecutive}
use Rattle.redo_record.proofs.WaitingRecords.{waiting_law, Split, consecutive_up, end_reached, one_record, split}
use Rattle.redo_record.proofs.RingRoom.{all_rest}
use Rattle.back_store.specs.Lane.{LaneState, HasAt, IsFront, used_by}
use Rattle.back_store.specs.Lanes.{AreLanes, AreLed, no_lane, waiting_in, waiting_of}
use Rattle.back_store.specs.Fronts.{AreFronts, HasNext, NoneHas}
use Rattle.back_store.proofs.LaneRecords.{length-used}
use Rattle.back_store.proofs.TakenCells.{taken_cells, taken_next, taken_few}
use Rattle.back_store.proofs.WaitingLanes.{in_lane, waits_at, none_waits}

-- a bundle that no log has
abbrev pub no_record : RedoBundle
no_record = record { last = 0; span = 0; writes = [] }

-- the bundle at the front of a lane is taken
front_next : (rs : List RedoBundle) (taken number e : ℕ) → IsFront rs taken number → HasAt rs taken (number + 1) → ((d : RedoBundle) → (get_or rs taken d).last ≡ e) → IsFront rs (taken + 1) e
front_next rs taken number e (le, low, high) has is = (
  (let in_range = has.within in omega arith),
  (λ i d z lt. elim (cases_eq i taken) [
    | inl same ↦ let at : (get_or rs i d).last ≡ e = ap (λ k. (get_or rs k d).last) same ∙ is d in omega arith
    | inr before ↦ let upto = low i d z (omega arith) in let first = has.first_is d in let last = is d in omega arith
  ]),
  (λ i d z lt. let over = has.later i d (omega arith) lt in let last = is d in omega arith),
)

-- no bundle of the lane ends between
front_stays : (rs : List RedoBundle) (taken number e : ℕ) → IsFront rs taken number → number ≤ e → ((i : ℕ) (d : RedoBundle) → i < length rs → number < (get_or rs i d).last → (get_or rs i d).last ≤ e → ⊥) → IsFront rs taken e
front_stays rs taken number e (le, low, high) up none = (
  le,
  (λ i d z lt. let upto = low i d z lt in omega arith),
  (λ i d z lt. past i d (high i d z lt) lt (cases_lt e (get_or rs i d).last)),
)
  where
    past : (i : ℕ) (d : RedoBundle) → number < (get_or rs i d).last → i < length rs → (e < (get_or rs i d).last) ⊎ ((get_or rs i d).last ≤ e) → e < (get_or rs i d).last
    past i d over lt (inl more) = more
    past i d over lt (inr under) = absurd (none i d lt over under)

module _ (lanes : List LaneState) (distinct : AreDisjoint (waiting_of lanes)) where
  -- where the next bundle is taken from its lane, the bundles up to its last number are taken
  pub fronts_next : (fronts : List ℕ) (number k e : ℕ) → length lanes ≤ length fronts → AreFronts lanes fronts number → HasNext lanes fronts (number + 1) k
      → ((d : LaneState) (q : RedoBundle) → (get_or (get_or lanes k d).waiting (slice_index fronts k) q).last ≡ e) → AreFronts lanes (set fronts k (slice_index fronts k + 1)) e
  fronts_next fronts number k e long are (lt, has) is j d jl = elim (cases_eq j k) [
    | inl same ↦
        let at = has d in
        let front : slice_index (set fronts k (slice_index fronts k + 1)) j ≡ slice_index fronts k + 1 = ap (slice_index (set fronts k (slice_index fronts k + 1))) same ∙ get_or-set_same fronts k (slice_index fronts k + 1) 0 (omega arith) in
        rw (front, same) (front_next (get_or lanes k d).waiting (slice_index fronts k) number e (are k d lt) at (is d))
    | inr apart ↦
        let at = has d in
        let own = at.first_is no_record in
        let last = is d no_record in
        rw (get_or-set_other fronts k j (slice_index fronts k + 1) 0 apart) (front_stays (get_or lanes j d).waiting (slice_index fronts j) number e (are j d jl) (omega arith) (λ i q il over under.
        let r : RedoBundle = get_or (get_or lanes j d).waiting i q in
        let t : RedoBundle = get_or (get_or lanes k d).waiting (slice_index fronts k) q in
        let one = in_lane 0 lanes j d r jl (Contains-get_or (get_or lanes j d).waiting i q il) in
        let other = in_lane 0 lanes k d t lt (Contains-get_or (get_or lanes k d).waiting (slice_index fronts k) q at.within) in
        let first = at.first_is q in
        let ends = is d q in
        let covers : Covers r r.last = record { low = omega arith; high = omega arith } in
        let too : Covers t r.last = record { low = omega arith; high = omega arith } in
        let both : waiting_in (0 + j) r ≡ waiting_in (0 + k) t = distinct (waiting_in (0 + j) r) (waiting_in (0 + k) t) r.last one other covers too in
        let rings : 0 + j ≡ 0 + k = ap (λ (w : Waiting). w.ring) both in
        apart (omega arith)))
  ]

  -- the bundle that is next
  pub next_waits : (fronts : List ℕ) (number k : ℕ) (d : LaneState) (r : RedoBundle) → HasNext lanes fronts number k → get_or (get_or lanes k d).waiting (slice_index fronts k) r ≡ r
      → Waits (waiting_of lanes) r × (first_of r ≡ number)
  next_waits fronts number k d r (lt, has) is =
      let at = has d in
      (waits_at lanes k d r lt (slice_index fronts k, at.within, is), sym (ap first_of is) ∙ at.first_is r)

  -- it leads on
  pub lead_next : (fronts : List ℕ) (from number k : ℕ) (rs : List RedoBundle) (d : LaneState) (r : RedoBundle) → Lead (waiting_of lanes) from rs number → HasNext lanes fronts (number + 1) k
      → get_or (get_or lanes k d).waiting (slice_index fronts k) r ≡ r → Lead (waiting_of lanes) from (rs ++ r ∷ []) r.last
  lead_next fronts from number k rs d r lead next is =
      let waits = next_waits fronts (number + 1) k d r next is in
      waiting_law.next (waiting_of lanes) from number rs r lead waits.0 waits.1

module _ (s : Sizes) (accepted : IsAccepted s) (lanes : List LaneState) (are : AreLanes s lanes) where
  -- the last number of the next bundle is one that a bundle may have, and isn't below its first
  pub number_next : (fronts : List ℕ) (number k : ℕ) (d : LaneState) (q : RedoBundle) → HasNext lanes fronts number k
      → ((get_or (get_or lanes k d).waiting (slice_index fronts k) q).last ≤ MAX_NUMBER) × (number ≤ (get_or (get_or lanes k d).waiting (slice_index fronts k) q).last)
  number_next fronts number k d q (lt, has) =
      let at = has d in
      let is : HasNumbers (get_or (get_or lanes k d).waiting (slice_index fronts k) q) = (are.each k d lt).numbers (slice_index fronts k) q at.within in
      let first = at.first_is q in
      (is.high, omega arith)

  used_in : (k : ℕ) (d : LaneState) → k < length lanes → used_by (get_or lanes k d).waiting ≤ s.cells
  used_in k d lt = (are.each k d lt).used

  -- no more records are taken from a lane than it has cells
  pub front_small : (fronts : List ℕ) (number k : ℕ) → HasNext lanes fronts number k → slice_index fronts k < MAX_CELLS
  front_small fronts number k (lt, has) =
      let at = has no_lane in
      let within = at.within in
      let few = length-used (get_or lanes k no_lane).waiting in
      let used = used_in k no_lane lt in
      let most = accepted.cells.high in
      omega arith

  pub few_rings : length lanes ≤ MAX_RINGS
  few_rings = let most = accepted.rings.high in let count = are.count in omega arith

  -- no more cells are taken than the rings have
  pub taken_room : (fronts : List ℕ) → taken_cells 0 lanes fronts ≤ s.rings * s.cells
  taken_room fronts =
      let bound = taken_few 0 lanes fronts s.cells used_in in
      let product : length lanes * s.cells ≡ s.rings * s.cells = ap (λ n. n * s.cells) are.count in
      omega arith

  -- with the next record there are at most three writes for each cell taken
  pub writes_next : (fronts : List ℕ) (number k n : ℕ) (d : LaneState) (r : RedoBundle) → length fronts ≡ MAX_RINGS → HasNext lanes fronts number k → get_or (get_or lanes k d).waiting (slice_index fronts k) r ≡ r
      → n ≤ 3 * taken_cells 0 lanes fronts → n + length r.writes ≤ 3 * taken_cells 0 lanes (set fronts k (slice_index fronts k + 1))
  writes_next fronts number k n d r long next is few =
      let at = next.1 d in
      let rings = few_rings in
      let lt = next.0 in
      let more : taken_cells 0 lanes (set fronts k (slice_index fronts k + 1)) ≡ taken_cells 0 lanes fronts + cells_for (length r.writes) = taken_next 0 lanes fronts k k d r (omega arith) next.0 (omega arith) at.within is in
      omega arith

-- where no lane has the next number, this is the contiguous end
pub no_further : (lanes : List LaneState) (from to number : ℕ) → AreDisjoint (waiting_of lanes) → AreLed lanes from to → AreLed lanes from number → NoneHas lanes (number + 1) → to ≤ number
no_further lanes from to number distinct led here none =
    end_reached distinct (λ r waits. waits) (record { records = here.records; lead = here.lead; greatest = none_waits lanes (number + 1) none }) led.lead

-- the bundle at the front of a lane, whatever stands in for what isn't there
pub at_front : (lanes : List LaneState) (k t : ℕ) (v : LaneState) (r : RedoBundle) → k < length lanes → v ≡ get_or lanes k v → slice_get v.waiting t ≡ Some r
    → (d : LaneState) (q : RedoBundle) → get_or (get_or lanes k d).waiting t q ≡ r
at_front lanes k t v r lt is there d q =
    ap (λ (u : LaneState). get_or u.waiting t q) (get_or_default lanes k d v lt ∙ sym is) ∙ get_or_from_slice_get v.waiting t r q there

-- the bundle at the front of a lane
abbrev pub front_of : LaneState → List ℕ → ℕ → RedoBundle
front_of v fronts k = get_or v.waiting (slice_index fronts k) no_record

pub front_is : (lanes : List LaneState) (fronts : List ℕ) (number k : ℕ) (v : LaneState) → HasNext lanes fronts number k → v ≡ get_or lanes k v → slice_get v.waiting (slice_index fronts k) ≡ Some (front_of v fronts k)
front_is lanes fronts number k v next is =
    let at = next.1 v in
    slice_get-get_or v.waiting (slice_index fronts k) no_record (subst (λ (u : LaneState). slice_index fronts k < length u.waiting) (sym is) at.within)

-- the next bundle leads no further than an end behind this one
pub next_upto : (waiting : List Waiting) (from number to : ℕ) (rs : List RedoBundle) (r : RedoBundle) → AreDisjoint waiting → Lead waiting from rs number → Waits waiting r → first_of r ≡ number + 1
    → (ts : List RedoBundle) → Lead waiting from ts to → number < to → r.last ≤ to
next_upto waiting from number to rs r distinct lead waits first ts other low =
    by both.rest both.consecutive (all_rest (Waits waiting) rs both.rest (All-same (Waits waiting) (rs ++ both.rest) ts (sym both.whole) other.wait))
  where
    both : Split rs ts number to
    both = split distinct from number to rs ts lead.wait other.wait lead.consecutive other.consecutive (omega arith)

    by : (us : List RedoBundle) → AreConsecutive number us to → All (Waits waiting) us → r.last ≤ to
    by [] is all = absurd (let last : number ≡ to = is in omega arith)
    by (u ∷ us) is all =
        let same : r ≡ u = one_record distinct waits (All-head (Waits waiting) u us all) (first ∙ sym is.0) in
        let up = consecutive_up u.last to us is.1 in
        let last : r.last ≡ u.last = ap (λ (b : RedoBundle). b.last) same in
        omega arith

-- its last number is one that a bundle may have, and isn't below its first
pub taken_last : (s : Sizes) (accepted : IsAccepted s) (lanes : List LaneState) → AreLanes s lanes → (fronts : List ℕ) (number k : ℕ) (v : LaneState) (r : RedoBundle) → HasNext lanes fronts (number + 1) k
    → v ≡ get_or lanes k v → slice_get v.waiting (slice_index fronts k) ≡ Some r → (r.last ≤ MAX_NUMBER) × (number + 1 ≤ r.last)
taken_last s accepted lanes are fronts number k v r next is there =
    let both = number_next s accepted lanes are fronts (number + 1) k no_lane no_record next in
    let same : (get_or (get_or lanes k no_lane).waiting (slice_index fronts k) no_record).last ≡ r.last = ap (λ (b : RedoBundle). b.last) (at_front lanes k (slice_index fronts k) v r next.0 is there no_lane no_record) in
    let high = both.0 in
    let low = both.1 in
    (omega arith, omega arith)

-- it leads on from the others, and no further than an end behind them
pub taken_leads : (lanes : List LaneState) → AreDisjoint (waiting_of lanes) → (fronts : List ℕ) (from number k : ℕ) (v : LaneState) (r : RedoBundle) (rs : List RedoBundle) → HasNext lanes fronts (number + 1) k
    → v ≡ get_or lanes k v → slice_get v.waiting (slice_index fronts k) ≡ Some r → Lead (waiting_of lanes) from rs number
    → Lead (waiting_of lanes) from (rs ++ r ∷ []) r.last × ((to : ℕ) (ts : List RedoBundle) → Lead (waiting_of lanes) from ts to → number < to → r.last ≤ to)
taken_leads lanes distinct fronts from number k v r rs next is there lead =
    let own = at_front lanes k (slice_index fronts k) v r next.0 is there no_lane r in
    let waits = next_waits lanes distinct fronts (number + 1) k no_lane r next own in
    (lead_next lanes distinct fronts from number k rs no_lane r lead next own, λ to ts other low. next_upto (waiting_of lanes) from number to rs r distinct lead waits.0 waits.1 ts other low)

pub led_up : (lanes : List LaneState) (from to : ℕ) → AreLed lanes from to → from ≤ to
led_up lanes from to led = consecutive_up from to led.records led.lead.consecutive

-- waiting records lead on from where others end
pub lead_on : (waiting : List Waiting) (from mid to : ℕ) (rs ts : List RedoBundle) → Lead waiting from rs mid → Lead waiting mid ts to → Lead waiting from (rs ++ ts) to
lead_on waiting from mid to rs ts one other = record {
  wait = All-append (Waits waiting) rs ts one.wait other.wait;
  consecutive = consecutive_on from mid to rs ts one.consecutive other.consecutive;
}
  where
    consecutive_on : (from mid to : ℕ) (rs ts : List RedoBundle) → AreConsecutive from rs mid → AreConsecutive mid ts to → AreConsecutive from (rs ++ ts) to
    consecutive_on from mid to [] ts is on = subst (λ n. AreConsecutive n ts to) (sym is) on
    consecutive_on from mid to (r ∷ rs) ts is on = (is.0, consecutive_on r.last mid to rs ts is.1 on)
