-- What a scan knows at its end.
use Rattle.std.proofs.Common.{◌≡◌, ◌⊎◌, inl, inr, ℕ, suc, ◌+◌, ◌*◌, ◌<◌, ◌≤◌, List, [], ◌∷◌, length, map, get_or, Option, Some, None, MatchOption, All, refl, sym, ap, ◌∙◌, subst, arith}
use Rattle.std.proofs.Math.Nat.{mul-le-mul_right}
use Rattle.std.proofs.lemmas.Bool.{cases_order}
use Rattle.std.proofs.lemmas.List.{length-map, get_or-map}
use Rattle.std.proofs.lemmas.Option.{slice_get-get_or, get_or_from_slice_get, slice_get_within}
use Rattle.std.proofs.lemmas.List.Elements.{All-map}
use Rattle.std.proofs.lemmas.Map.Entries.{place_from_lookup, btree_map_get_place}
use Rattle.std.proofs.lemmas.Map.Keys.{below_from_sorted}
use Rattle.std.proofs.lemmas.Map.Made.{Contains-values_of}
use Rattle.std.specs.List.{Contains, AllPairs}
use Rattle.std.specs.List.Sorted.{IsStrictlySortedBy}
use Rattle.std.specs.Cmp.{nat_cmp_total}
use Rattle.std.specs.Ordering.{nat_cmp}
use Rattle.std.specs.Map.{keys_of, values_of}
use Rattle.std.specs.BTreeMap.{IsOrdered, get, is_at}
use Rattle.dude_base.specs.declared.sizes.Sizes.{Sizes}
use Rattle.dude_base.specs.Records.{RedoBundle, first_of, Covers}
use Rattle.dude_base.specs.Image.{Cell}
use Rattle.redo_record.specs.Cells.{IsCell, line_of}
use Rattle.redo_record.specs.Images.{bundle_at, IsComplete, IsNewHead, IsSound}
use Rattle.redo_record.specs.Damage.{IsDuplicateHead, IsLeastLine, IsUndamaged, IsDamagedAt}
use Rattle.log_ring.specs.declared.head.Head.{Head}
use Rattle.log_ring.specs.declared.scan_state.ScanState.{ScanState}
use Rattle.log_ring.specs.Heads.{bundle_of_head, cell_of, head_at}
use Rattle.redo_record.specs.Recovery.{HasRecord}
use Rattle.log_ring.specs.Scan.{AreHeads}
use Rattle.log_ring.specs.Scanning.{KnowsBelow}
use Rattle.log_ring.proofs.ScanSteps.{one_cell}

-- keys that are the last numbers of the values
keys_are_last : (es : List (ℕ × Head)) → ((i : ℕ) (d : ℕ × Head) → i < length es → (get_or es i d).1.last ≡ (get_or es i d).0) → keys_of es ≡ map (λ h. h.last) (values_of es)
keys_are_last [] each = refl
keys_are_last (e ∷ es) each =
    let first : e.1.last ≡ e.0 = each 0 e (omega arith) in
    let rest = keys_are_last es (λ i d lt. each (suc i) d (omega arith)) in
    cc

-- The head is one of the image's, and tells the numbers of its bundle.
record IsHeadOf (s : Sizes) (above : ℕ) (image : List ℕ) (h : Head) : Type 0 where
  new : IsNewHead s above image (cell_of h)
  same : head_at s image (cell_of h) ≡ h

head_of_cell : (s : Sizes) (above : ℕ) (image : List ℕ) (cell : Cell) (h : Head) → IsNewHead s above image cell → head_at s image cell ≡ h → IsHeadOf s above image h
head_of_cell s above image cell h new same = subst (λ (x : Head). IsHeadOf s above image x) same (record { new = new; same = refl })

module _ (s : Sizes) (above : ℕ) (image : List ℕ) (found : ScanState) (knows : KnowsBelow s above image (2 + s.rings * s.cells) found) where
  -- every cell was looked at
  below : (cell : Cell) → IsCell s cell → line_of s cell < 2 + s.rings * s.cells
  below cell is_cell =
      let slot = is_cell.slot_is in
      let ring = is_cell.ring_is in
      let rings : (cell.ring + 1) * s.cells ≤ s.rings * s.cells = mul-le-mul_right s.cells (omega arith) in
      omega arith

  whole : (cell : Cell) → IsNewHead s above image cell → IsSound s above image cell
  whole cell new = knows.complete cell (below cell new.cell) new

  -- a duplicate head is damage
  pub damaged_duplicate : (line : ℕ) → found.duplicate ≡ Some line → IsDamagedAt s above image line
  damaged_duplicate line is = inr (
    (λ cell torn. torn.incomplete (whole cell torn.head)),
    subst (λ (o : Option ℕ). MatchOption o ((cell : Cell) → line_of s cell < 2 + s.rings * s.cells → ¬ IsDuplicateHead s above image cell) (IsLeastLine s (IsDuplicateHead s above image))) is knows.duplicate,
  )

  module _ (ordered : IsOrdered nat_cmp found.heads) (none : found.duplicate ≡ None) where
    no_duplicate : (cell : Cell) → ¬ IsDuplicateHead s above image cell
    no_duplicate cell duplicate =
        (subst (λ (o : Option ℕ). MatchOption o ((cell : Cell) → line_of s cell < 2 + s.rings * s.cells → ¬ IsDuplicateHead s above image cell) (IsLeastLine s (IsDuplicateHead s above image))) none knows.duplicate)
        cell (below cell duplicate.head.cell) duplicate

    undamaged : IsUndamaged s above image
    undamaged = record {
      complete = whole;
      single = λ head other number a b covers too. by head other number a b covers too (cases_order (line_of s head) (line_of s other));
    }
      where
        by : (head other : Cell) (number : ℕ) → IsNewHead s above image head → IsNewHead s above image other → Covers (bundle_at s image head) number → Covers (bundle_at s image other) number
            → (line_of s head ≡ line_of s other) ⊎ ((line_of s head < line_of s other) ⊎ (line_of s other < line_of s head)) → head ≡ other
        by head other number a b covers too (inl line) = one_cell s head other a.cell b.cell line
        by head other number a b covers too (inr (inl lt)) = absurd (no_duplicate other (record { head = b; other = head; other_head = a; lower = lt; number = number; covered = too; too = covers }))
        by head other number a b covers too (inr (inr gt)) = absurd (no_duplicate head (record { head = a; other = other; other_head = b; lower = gt; number = number; covered = covers; too = too }))

    entry : (i : ℕ) (d : ℕ × Head) → i < length found.heads.entries → get nat_cmp found.heads (get_or found.heads.entries i d).0 ≡ Some (get_or found.heads.entries i d).1
    entry i d lt = btree_map_get_place nat_cmp_total found.heads i _ _ ordered (slice_get-get_or found.heads.entries i d lt)

    numbered : (i : ℕ) (d : ℕ × Head) → i < length found.heads.entries → (get_or found.heads.entries i d).1.last ≡ (get_or found.heads.entries i d).0
    numbered i d lt = (knows.source _ _ (entry i d lt)).4

    abbrev pub heads : List Head
    heads = values_of found.heads.entries

    abbrev bundles : List RedoBundle
    bundles = map (bundle_of_head s image) heads

    -- each head is one of the image's
    each : All (IsHeadOf s above image) heads
    each = All-map (IsHeadOf s above image) (λ (e : ℕ × Head). e.1) found.heads.entries
        (λ i d lt. let from = knows.source _ _ (entry i d lt) in head_of_cell s above image from.0 _ from.2 from.3)

    new : All (λ h. IsNewHead s above image (cell_of h)) heads
    new i d lt = (each i d lt).new

    long : length bundles ≡ length heads
    long = length-map heads (bundle_of_head s image)

    at : (i : ℕ) (d : RedoBundle) (e : Head) → i < length heads → get_or bundles i d ≡ bundle_of_head s image (get_or heads i e)
    at i d e lt = get_or-map (bundle_of_head s image) heads i e d lt

    logged : All (HasRecord s above image) bundles
    logged = All-map (HasRecord s above image) (bundle_of_head s image) heads (λ i d lt. record { head = cell_of (get_or heads i d); new = new i d lt; same = refl })

    lasts : (i j : ℕ) (d : Head) → i < j → j < length heads → (get_or heads i d).last < (get_or heads j d).last
    lasts i j d lt inside =
        let numbers : List ℕ = map (λ (h : Head). h.last) heads in
        let same : keys_of found.heads.entries ≡ numbers = keys_are_last found.heads.entries numbered in
        let size : length numbers ≡ length heads = length-map heads (λ (h : Head). h.last) in
        let less : get_or numbers i 0 < get_or numbers j 0 = below_from_sorted numbers i j 0 (subst (IsStrictlySortedBy nat_cmp) same ordered) lt (omega arith) in
        let first : get_or numbers i 0 ≡ (get_or heads i d).last = get_or-map (λ (h : Head). h.last) heads i d 0 (omega arith) in
        let last : get_or numbers j 0 ≡ (get_or heads j d).last = get_or-map (λ (h : Head). h.last) heads j d 0 (omega arith) in
        omega arith

    bundle_lasts : (i j : ℕ) (d : RedoBundle) → i < j → j < length bundles → (get_or bundles i d).last < (get_or bundles j d).last
    bundle_lasts i j d lt inside =
        let none : Head = record { last = 0; span = 0; ring = 0; slot = 0 } in
        let first : (get_or bundles i d).last ≡ (get_or heads i none).last = ap (λ (r : RedoBundle). r.last) (at i d none (omega (arith, long))) ∙ ap (λ (h : Head). h.last) (each i none (omega (arith, long))).same in
        let last : (get_or bundles j d).last ≡ (get_or heads j none).last = ap (λ (r : RedoBundle). r.last) (at j d none (omega (arith, long))) ∙ ap (λ (h : Head). h.last) (each j none (omega (arith, long))).same in
        let less = lasts i j none lt (omega (arith, long)) in
        omega arith

    -- bundles of which no two cover one number rise as a whole where their last numbers rise
    rising : AllPairs (λ (r t : RedoBundle). r.last < first_of t) bundles
    rising i j d lt inside = by (cases_order low.last (first_of high))
      where
        low : RedoBundle
        low = get_or bundles i d

        high : RedoBundle
        high = get_or bundles j d

        less : low.last < high.last
        less = bundle_lasts i j d lt inside

        one : HasRecord s above image low
        one = logged i d (omega arith)

        other : HasRecord s above image high
        other = logged j d inside

        meet : first_of high ≤ low.last → ⊥
        meet under =
            let covers : Covers (bundle_at s image one.head) low.last = subst (λ (x : RedoBundle). Covers x low.last) (sym one.same) (record { low = omega arith; high = omega arith }) in
            let too : Covers (bundle_at s image other.head) low.last = subst (λ (x : RedoBundle). Covers x low.last) (sym other.same) (record { low = under; high = (let up = less in omega arith) }) in
            let head : one.head ≡ other.head = undamaged.single one.head other.head low.last one.new other.new covers too in
            let same : low ≡ high = sym one.same ∙ (ap (bundle_at s image) head ∙ other.same) in
            let lasts_same : low.last ≡ high.last = ap (λ (x : RedoBundle). x.last) same in
            let up = less in
            omega arith

        by : (low.last ≡ first_of high) ⊎ ((low.last < first_of high) ⊎ (first_of high < low.last)) → low.last < first_of high
        by (inl same) = absurd (meet (omega arith))
        by (inr (inl fine)) = fine
        by (inr (inr gt)) = absurd (meet (omega arith))

    contains_bundle : (h : Head) → Contains heads h → Contains bundles (bundle_of_head s image h)
    contains_bundle h (k, lt, is) = (k, omega (arith, long), at k (bundle_of_head s image h) h lt ∙ ap (bundle_of_head s image) is)

    every : (r : RedoBundle) → HasRecord s above image r → Contains bundles r
    every r is =
        let h : Head = head_at s image is.head in
        let found_at : get nat_cmp found.heads (bundle_at s image is.head).last ≡ Some h = knows.held none is.head (below is.head is.new.cell) is.new in
        let place = place_from_lookup (is_at (nat_cmp (bundle_at s image is.head).last)) found.heads.entries h found_at in
        subst (Contains bundles) is.same (contains_bundle h (Contains-values_of found.heads.entries place.1 h (
          place.0,
          slice_get_within found.heads.entries place.0 (place.1, h) place.2,
          get_or_from_slice_get found.heads.entries place.0 (place.1, h) (place.1, h) place.2,
        )))

    pub are_heads : AreHeads s above image heads
    are_heads = record { new = new; scanned = record { undamaged = undamaged; rising = rising; logged = logged; every = every } }

-- each of the heads has its complete record
pub heads_complete : (s : Sizes) (above : ℕ) (image : List ℕ) (heads : List Head) → AreHeads s above image heads → All (λ h. IsComplete s image (cell_of h)) heads
heads_complete s above image heads are i d lt = (are.scanned.undamaged.complete (cell_of (get_or heads i d)) (are.new i d lt)).complete
