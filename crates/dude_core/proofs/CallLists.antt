-- Calls that were made, against a list.
use Rattle.std.proofs.Common.{◌≡◌, ◌≢◌, ℕ, zero, suc, ◌+◌, ◌<◌, ◌≤◌, List, [], ◌∷◌, ◌++◌, length, map, drop, get_or, refl, sym, ap, ◌∙◌, arith, length-append}
use Rattle.std.specs.Prelude.{Some, slice_get}
use Rattle.std.specs.List.{range_with_len}
use Rattle.std.proofs.lemmas.Option.{get_or_from_slice_get}
use Rattle.pmem_trait.specs.declared.call.Call.{Call}
use Rattle.pmem_trait.specs.declared.call.Call.TheVariants.{Read}
use Rattle.dude_core.specs.CallFits.{GoesOn}

-- the elements of a front are those of the list
at_front : (made later : List Call) (k : ℕ) (d : Call) → k < length made → get_or (made ++ later) k d ≡ get_or made k d
at_front [] later k d lt = absurd (omega arith)
at_front (x ∷ xs) later zero d lt = refl
at_front (x ∷ xs) later (suc k) d lt = at_front xs later k d (omega arith)

at_end : (made left : List Call) (call d : Call) → get_or (made ++ call ∷ left) (length made) d ≡ call
at_end [] left call d = refl
at_end (x ∷ xs) left call d = at_end xs left call d

module _ (list made : List Call) (call : Call) where
  pub too_short : length list ≤ length made → (left : List Call) → GoesOn list made call left → ⊥
  too_short short left e = let n : length list ≡ length (made ++ call ∷ left) = ap length e in let m : length (made ++ call ∷ left) ≡ length made + length (call ∷ left) = length-append made (call ∷ left) in omega arith

  pub other_made : (k : ℕ) (x y : Call) → k < length made → x ≡ get_or list k x → y ≡ get_or made k x → x ≢ y → (left : List Call) → GoesOn list made call left → ⊥
  other_made k x y lt is was other left e = other (is ∙ (ap (λ (l : List Call). get_or l k x) e ∙ (at_front made (call ∷ left) k x lt ∙ sym was)))

  pub other_call : (x : Call) → x ≡ get_or list (length made) x → x ≢ call → (left : List Call) → GoesOn list made call left → ⊥
  other_call x is other left e = other (is ∙ (ap (λ (l : List Call). get_or l (length made) x) e ∙ at_end made left call x))

-- a list whose first elements are those made, and then the call
goes_on : (list made : List Call) (call : Call) → length made < length list → ((k : ℕ) (d : Call) → k < length made → get_or list k d ≡ get_or made k d)
    → ((d : Call) → get_or list (length made) d ≡ call) → GoesOn list made call (drop (suc (length made)) list)
goes_on [] [] call long same here = absurd (omega arith)
goes_on (x ∷ xs) [] call long same here = ap (λ (c : Call). c ∷ xs) (here x)
goes_on [] (y ∷ ys) call long same here = absurd (omega arith)
goes_on (x ∷ xs) (y ∷ ys) call long same here =
    let one : x ≡ y = same zero x (omega arith) in
    let rest : GoesOn xs ys call (drop (suc (length ys)) xs) = goes_on xs ys call (omega arith) (λ k d lt. same (suc k) d (omega arith)) here in
    ap (λ (c : Call). c ∷ xs) one ∙ ap (λ (cs : List Call). y ∷ cs) rest

left_none : (list : List Call) (n : ℕ) → length list ≤ n → drop n list ≡ []
left_none [] zero h = refl
left_none [] (suc n) h = refl
left_none (x ∷ xs) zero h = absurd (omega arith)
left_none (x ∷ xs) (suc n) h = left_none xs n (omega arith)

left_some : (list : List Call) (n : ℕ) (d : Call) → n < length list → drop n list ≡ get_or list n d ∷ drop (suc n) list
left_some [] n d h = absurd (omega arith)
left_some (x ∷ xs) zero d h = refl
left_some (x ∷ xs) (suc n) d h = left_some xs n d (omega arith)

-- a list whose first elements are those made, and then the call: it is all of the list, or some are left
module _ (list made : List Call) (call got : Call) (long : length made < length list) (same : (k : ℕ) (d : Call) → k < length made → get_or list k d ≡ get_or made k d)
    (at : slice_get list (length made) ≡ Some got) (is : got ≡ call) where
  begins : GoesOn list made call (drop (suc (length made)) list)
  begins = goes_on list made call long same (λ d. get_or_from_slice_get list (length made) got d at ∙ is)

  pub is_whole : length list ≤ suc (length made) → GoesOn list made call []
  is_whole all = begins ∙ ap (λ (cs : List Call). made ++ call ∷ cs) (left_none list (suc (length made)) all)

  pub is_front : suc (length made) < length list → (next : Call) × (later : List Call) × GoesOn list made call (next ∷ later)
  is_front more = (
    get_or list (suc (length made)) call,
    drop (suc (suc (length made))) list,
    begins ∙ ap (λ (cs : List Call). made ++ call ∷ cs) (left_some list (suc (length made)) call more),
  )

-- ---- the reads of words in a row
pub reads_at : (start n k : ℕ) → k < n → slice_get (map Read (range_with_len start n)) k ≡ Some (Read (start + k))
reads_at start zero k lt = absurd (omega arith)
reads_at start (suc n) zero lt = let e : start ≡ start + 0 = omega arith in ap (λ (m : ℕ). Some (Read m)) e
reads_at start (suc n) (suc k) lt = let e : start + 1 + k ≡ start + suc k = omega arith in reads_at (start + 1) n k (omega arith) ∙ ap (λ (m : ℕ). Some (Read m)) e
