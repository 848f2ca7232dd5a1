-- What a scan knows: one cell more.
use Rattle.std.proofs.Common.{◌≡◌, ◌≢◌, ◌⊎◌, inl, inr, ⊎_elim, ℕ, ◌+◌, ◌*◌, ◌<◌, ◌≤◌, false, true≢false, List, [], Option, Some, None, is_some, MatchOption, refl, sym, ap, ◌∙◌, subst, arith, rules}
use Rattle.std.proofs.Math.Nat.{mul-le-mul_right}
use Rattle.std.proofs.lemmas.Bool.{cases_eq, cases_order}
use Rattle.std.specs.Option.{option_or}
use Rattle.std.specs.Ordering.{nat_cmp}
use Rattle.std.specs.Map.{lookup}
use Rattle.std.specs.BTreeMap.{get, is_at, Updates}
use Rattle.dude_base.specs.declared.sizes.Sizes.{Sizes}
use Rattle.dude_base.specs.Records.{Covers}
use Rattle.dude_base.specs.Image.{Cell}
use Rattle.redo_record.specs.Cells.{IsCell, line_of}
use Rattle.redo_record.specs.Images.{bundle_at, IsNewHead, IsSound}
use Rattle.redo_record.specs.Damage.{IsTorn, IsDuplicateHead, IsLeastLine}
use Rattle.redo_record.proofs.RingHeads.{cell_is}
use Rattle.log_ring.specs.declared.head.Head.{Head}
use Rattle.log_ring.specs.declared.scan_state.ScanState.{ScanState}
use Rattle.log_ring.specs.Heads.{head_at, numbers_of}
use Rattle.log_ring.specs.Scanning.{AreKept, MeetsKept, MissesKept, TakesHead, KnowsBelow}

-- a cell of a lower ring stands at a lower line
lower_ring : (s : Sizes) (a b : Cell) → IsCell s a → a.ring < b.ring → line_of s a < line_of s b
lower_ring s a b is_cell lt =
    let slot = is_cell.slot_is in
    let rings : (a.ring + 1) * s.cells ≤ b.ring * s.cells = mul-le-mul_right s.cells (omega arith) in
    omega arith

-- cells at one line are one cell
pub one_cell : (s : Sizes) (a b : Cell) → IsCell s a → IsCell s b → line_of s a ≡ line_of s b → a ≡ b
one_cell s a b is_a is_b same = by (cases_order a.ring b.ring)
  where
    by : (a.ring ≡ b.ring) ⊎ ((a.ring < b.ring) ⊎ (b.ring < a.ring)) → a ≡ b
    by (inl ring) = let rings : a.ring * s.cells ≡ b.ring * s.cells = ap (λ r. r * s.cells) ring in cell_is a b ring (omega arith)
    by (inr (inl lt)) = absurd (let lower = lower_ring s a b is_a lt in omega arith)
    by (inr (inr gt)) = absurd (let lower = lower_ring s b a is_b gt in omega arith)

-- a head covers just the numbers of its bundle
module _ (s : Sizes) (image : List ℕ) (cell : Cell) (h : Head) (number : ℕ) (same : head_at s image cell ≡ h) where
  pub covered_by_bundle : Covers (numbers_of h) number → Covers (bundle_at s image cell) number
  covered_by_bundle covers =
      let own = subst (λ (x : Head). Covers (numbers_of x) number) (sym same) covers in
      record { low = own.low; high = own.high }

  pub covered_by_head : Covers (bundle_at s image cell) number → Covers (numbers_of h) number
  covered_by_head covers = subst (λ (x : Head). Covers (numbers_of x) number) same (record { low = covers.low; high = covers.high })

-- other keys
pub other_key : (k q : ℕ) → q ≢ k → is_at (nat_cmp k) q ≡ false
other_key k q other = grind (arith, other)

module _ (s : Sizes) (above : ℕ) (image : List ℕ) (cell : Cell) (is_cell : IsCell s cell) where
  -- a head up to this cell is one at a lower line, or this one
  before_or_here : (other : Cell) → line_of s other < line_of s cell + 1 → IsNewHead s above image other → (line_of s other < line_of s cell) ⊎ (other ≡ cell)
  before_or_here other lt new = ⊎_elim
      (λ (same : line_of s other ≡ line_of s cell). inr (one_cell s other cell new.cell is_cell same))
      (λ (apart : line_of s other ≢ line_of s cell). let lower : line_of s other < line_of s cell = omega (arith, apart) in inl lower)
      (cases_eq (line_of s other) (line_of s cell))

  -- no duplicate head, or the first of them: a line more
  duplicate_more : (o : Option ℕ) → ((other : Cell) → line_of s other < line_of s cell + 1 → IsDuplicateHead s above image other → line_of s other < line_of s cell)
      → MatchOption o ((other : Cell) → line_of s other < line_of s cell → ¬ IsDuplicateHead s above image other) (IsLeastLine s (IsDuplicateHead s above image))
      → MatchOption o ((other : Cell) → line_of s other < line_of s cell + 1 → ¬ IsDuplicateHead s above image other) (IsLeastLine s (IsDuplicateHead s above image))
  duplicate_more None only none = λ other lt is. none other (only other lt is) is
  duplicate_more (Some l) only least = least

  -- a cell that is no head
  pub knows_skip : (found : ScanState) → ¬ IsNewHead s above image cell → KnowsBelow s above image (line_of s cell) found → KnowsBelow s above image (line_of s cell + 1) found
  knows_skip found no_head knows = record {
    complete = λ other lt new. knows.complete other (before other lt new) new;
    held = λ none other lt new. knows.held none other (before other lt new) new;
    source = λ n r is. let from = knows.source n r is in let lt = from.1 in (from.0, omega arith, from.2, from.3, from.4);
    duplicate = duplicate_more found.duplicate (λ other lt is. before other lt is.head) knows.duplicate;
  }
    where
      before : (other : Cell) → line_of s other < line_of s cell + 1 → IsNewHead s above image other → line_of s other < line_of s cell
      before other lt new = ⊎_elim (λ lower. lower) (λ same. absurd (no_head (subst (IsNewHead s above image) same new))) (before_or_here other lt new)

  -- what is kept while no head is a duplicate
  pub are_kept : (found : ScanState) → KnowsBelow s above image (line_of s cell) found → found.duplicate ≡ None → AreKept found
  are_kept found knows none = record {
    keyed = λ n r is. (knows.source n r is).4;
    apart = λ n m r q number one other covers too.
        let a = knows.source n r one in
        let b = knows.source m q other in
        sym a.4 ∙ (ap (λ (x : Head). x.last) (sym a.3 ∙ (ap (head_at s image) (single a.0 b.0 number a.1 b.1 a.2 b.2 (covered_by_bundle s image a.0 r number a.3 covers)
        (covered_by_bundle s image b.0 q number b.3 too)) ∙ b.3)) ∙ b.4);
  }
    where
      no : (other : Cell) → line_of s other < line_of s cell → ¬ IsDuplicateHead s above image other
      no = subst (λ (o : Option ℕ). MatchOption o ((other : Cell) → line_of s other < line_of s cell → ¬ IsDuplicateHead s above image other) (IsLeastLine s (IsDuplicateHead s above image))) none knows.duplicate

      single : (a b : Cell) (number : ℕ) → line_of s a < line_of s cell → line_of s b < line_of s cell → IsNewHead s above image a → IsNewHead s above image b
          → Covers (bundle_at s image a) number → Covers (bundle_at s image b) number → a ≡ b
      single a b number low below new other covers too = by (cases_order (line_of s a) (line_of s b))
        where
          by : (line_of s a ≡ line_of s b) ⊎ ((line_of s a < line_of s b) ⊎ (line_of s b < line_of s a)) → a ≡ b
          by (inl same) = one_cell s a b new.cell other.cell same
          by (inr (inl lt)) = absurd (no b below (record { head = other; other = a; other_head = new; lower = lt; number = number; covered = too; too = covers }))
          by (inr (inr gt)) = absurd (no a low (record { head = new; other = b; other_head = other; lower = gt; number = number; covered = covers; too = too }))

  module _ (b : Head) (old new : ScanState) (head : IsNewHead s above image cell) (sound : IsSound s above image cell) (same : head_at s image cell ≡ b)
      (knows : KnowsBelow s above image (line_of s cell) old) where
    complete_more : (other : Cell) → line_of s other < line_of s cell + 1 → IsNewHead s above image other → IsSound s above image other
    complete_more other lt is = ⊎_elim (λ lower. knows.complete other lower is) (λ here. subst (IsSound s above image) (sym here) sound) (before_or_here other lt is)

    -- a head that is kept covers one of its numbers
    module _ (meets : MeetsKept old b) (heads : new.heads ≡ old.heads) (duplicate : new.duplicate ≡ option_or old.duplicate (Some (line_of s cell))) where
      here_duplicate : IsDuplicateHead s above image cell
      here_duplicate =
          let from = knows.source meets.0 meets.1 meets.3 in
          record {
            head = head;
            other = from.0;
            other_head = from.2;
            lower = from.1;
            number = meets.2;
            covered = covered_by_bundle s image cell b meets.2 same meets.5;
            too = covered_by_bundle s image from.0 meets.1 meets.2 from.3 meets.4;
          }

      some : (o : Option ℕ) → option_or o (Some (line_of s cell)) ≡ None → ⊥
      some None is = absurd (search rules)
      some (Some l) is = absurd (search rules)

      duplicate_again : (o p : Option ℕ) → p ≡ option_or o (Some (line_of s cell))
          → MatchOption o ((other : Cell) → line_of s other < line_of s cell → ¬ IsDuplicateHead s above image other) (IsLeastLine s (IsDuplicateHead s above image))
          → MatchOption p ((other : Cell) → line_of s other < line_of s cell + 1 → ¬ IsDuplicateHead s above image other) (IsLeastLine s (IsDuplicateHead s above image))
      duplicate_again o p is was = subst (λ (q : Option ℕ). MatchOption q ((other : Cell) → line_of s other < line_of s cell + 1 → ¬ IsDuplicateHead s above image other) (IsLeastLine s (IsDuplicateHead s above image))) (sym is) (by o was)
        where
          by : (o : Option ℕ) → MatchOption o ((other : Cell) → line_of s other < line_of s cell → ¬ IsDuplicateHead s above image other) (IsLeastLine s (IsDuplicateHead s above image))
              → MatchOption (option_or o (Some (line_of s cell))) ((other : Cell) → line_of s other < line_of s cell + 1 → ¬ IsDuplicateHead s above image other) (IsLeastLine s (IsDuplicateHead s above image))
          by None none = (cell, here_duplicate, refl, none)
          by (Some l) least = least

      knows_again : KnowsBelow s above image (line_of s cell + 1) new
      knows_again = record {
        complete = complete_more;
        held = λ none. absurd (some old.duplicate (sym duplicate ∙ none));
        source = λ n q is. let from = knows.source n q (ap (λ m. get nat_cmp m n) (sym heads) ∙ is) in let lt = from.1 in (from.0, omega arith, from.2, from.3, from.4);
        duplicate = duplicate_again old.duplicate new.duplicate duplicate knows.duplicate;
      }

    -- it is kept
    module _ (misses : AreKept old → MissesKept old b) (updates : Updates nat_cmp old.heads new.heads b.last (Some b)) (duplicate : new.duplicate ≡ old.duplicate) where
      source_kept : (n : ℕ) (q : Head) → get nat_cmp new.heads n ≡ Some q
          → (other : Cell) × (line_of s other < line_of s cell + 1) × IsNewHead s above image other × (head_at s image other ≡ q) × (q.last ≡ n)
      source_kept n q is = ⊎_elim
          (λ (key : n ≡ b.last).
          let found : get nat_cmp new.heads b.last ≡ Some q = ap (get nat_cmp new.heads) (sym key) ∙ is in
          let one : b ≡ q = search (rules, sym updates.1 ∙ found) in
          (cell, omega arith, head, same ∙ one, ap (λ (x : Head). x.last) (sym one) ∙ sym key))
          (λ (apart : n ≢ b.last).
          let from = knows.source n q (sym (updates.2 n (other_key b.last n apart)) ∙ is) in
          let lt = from.1 in
          (from.0, omega arith, from.2, from.3, from.4))
          (cases_eq n b.last)

      -- while there is no duplicate, no head at a lower line covers one of its numbers
      none_meets : old.duplicate ≡ None → (other : Cell) (number : ℕ) → line_of s other < line_of s cell → IsNewHead s above image other → Covers (bundle_at s image other) number → Covers (numbers_of b) number → ⊥
      none_meets none other number lt is covers too =
          misses (are_kept old knows none) (bundle_at s image other).last (head_at s image other) number (knows.held none other lt is) (covered_by_head s image other (head_at s image other) number refl covers) too

      held_kept : new.duplicate ≡ None → (other : Cell) → line_of s other < line_of s cell + 1 → IsNewHead s above image other → get nat_cmp new.heads (bundle_at s image other).last ≡ Some (head_at s image other)
      held_kept none other lt is = ⊎_elim
          (λ lower.
          let first : old.duplicate ≡ None = sym duplicate ∙ none in
          let apart : (bundle_at s image other).last ≢ b.last = λ key. none_meets first other b.last lower is (record { low = omega arith; high = omega arith }) (record { low = omega arith; high = omega arith }) in
          updates.2 _ (other_key b.last _ apart) ∙ knows.held first other lower is)
          (λ (here : other ≡ cell).
          let is_b : head_at s image other ≡ b = ap (head_at s image) here ∙ same in
          subst (λ (x : Head). get nat_cmp new.heads x.last ≡ Some x) (sym is_b) updates.1)
          (before_or_here other lt is)

      no_duplicate : old.duplicate ≡ None → (other : Cell) → line_of s other < line_of s cell + 1 → IsDuplicateHead s above image other → line_of s other < line_of s cell
      no_duplicate none other lt is = ⊎_elim (λ lower. lower)
          (λ (here : other ≡ cell).
          let lines : line_of s other ≡ line_of s cell = ap (line_of s) here in
          let lower = is.lower in
          let is_b : head_at s image other ≡ b = ap (head_at s image) here ∙ same in
          absurd (none_meets none is.other is.number (omega arith) is.other_head is.too (covered_by_head s image other b is.number is_b is.covered)))
          (before_or_here other lt is.head)

      duplicate_kept : (o : Option ℕ) → old.duplicate ≡ o
          → MatchOption o ((other : Cell) → line_of s other < line_of s cell → ¬ IsDuplicateHead s above image other) (IsLeastLine s (IsDuplicateHead s above image))
          → MatchOption o ((other : Cell) → line_of s other < line_of s cell + 1 → ¬ IsDuplicateHead s above image other) (IsLeastLine s (IsDuplicateHead s above image))
      duplicate_kept None is none = λ other lt again. none other (no_duplicate is other lt again) again
      duplicate_kept (Some l) is least = least

      knows_kept : KnowsBelow s above image (line_of s cell + 1) new
      knows_kept = record {
        complete = complete_more;
        held = held_kept;
        source = source_kept;
        duplicate = subst (λ (o : Option ℕ). MatchOption o ((other : Cell) → line_of s other < line_of s cell + 1 → ¬ IsDuplicateHead s above image other) (IsLeastLine s (IsDuplicateHead s above image))) (sym duplicate)
            (duplicate_kept old.duplicate refl knows.duplicate);
      }

    -- a head that was taken in
    pub knows_more : TakesHead (line_of s cell) b old new → KnowsBelow s above image (line_of s cell + 1) new
    knows_more (inl again) = knows_again again.0 again.1 again.2
    knows_more (inr kept) = knows_kept kept.0 kept.1 kept.2

-- nothing was looked at
pub knows_nothing : (s : Sizes) (above : ℕ) (image : List ℕ) (line : ℕ) (found : ScanState) → line ≤ 2 → found.heads.entries ≡ [] → found.duplicate ≡ None → KnowsBelow s above image line found
knows_nothing s above image line found low empty none = record {
  complete = λ cell lt new. absurd (omega arith);
  held = λ none cell lt new. absurd (omega arith);
  source = λ n r is. absurd (true≢false (sym (ap is_some is) ∙ ap (λ (es : List (ℕ × Head)). is_some (lookup (is_at (nat_cmp n)) es)) empty));
  duplicate = subst (λ (o : Option ℕ). MatchOption o ((cell : Cell) → line_of s cell < line → ¬ IsDuplicateHead s above image cell) (IsLeastLine s (IsDuplicateHead s above image))) (sym none) (λ cell lt is. omega arith);
}

-- a head without its record, behind cells that are known, is the first
pub torn_first : (s : Sizes) (above : ℕ) (image : List ℕ) (cell : Cell) (found : ScanState) → IsTorn s above image cell → KnowsBelow s above image (line_of s cell) found → IsLeastLine s (IsTorn s above image) (line_of s cell)
torn_first s above image cell found torn knows = (cell, torn, refl, λ before lt is. is.incomplete (knows.complete before lt is.head))
