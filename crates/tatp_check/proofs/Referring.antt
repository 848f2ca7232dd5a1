-- Whether a record refers to one that is there.
use Rattle.std.proofs.Common.{◌≡◌, ◌⊎◌, inl, inr, ℕ, ◌+◌, ◌/◌, ◌<◌, ◌≤◌, ◌↔◌, List, ◌∷◌, ◌++◌, take, drop, get_or, Bool, All, Any, Contains, Option, IsSomeAnd, is_some, length, slice_index, refl, sym, ap, ◌∙◌, subst, arith}
use Rattle.std.specs.Bool.{IsTrue}
use Rattle.std.proofs.lemmas.List.{drop_more, take_all, take-append-drop}
use Rattle.std.proofs.lemmas.List.Elements.{Contains-append_right}
use Rattle.dude_base.specs.declared.sizes.Sizes.{Sizes}
use Rattle.tatp_check.specs.Taken.{Finds}
use Rattle.tatp_check.specs.declared.table_kind.TableKind.{TableKind}
use Rattle.tatp_check.specs.declared.table_kind.TableKind.TheVariants.{Subscribers, Numbers, Access, Facilities, Calls}
use Rattle.tatp_check.specs.Content.{table_of}
use Rattle.tatp_check.specs.declared.walked.Walked.{Walked}
use Rattle.tatp_check.specs.References.{AreBound, IsUnbound, Refers, reference_offset}
use Rattle.tatp_check.specs.Walked.{AreWalked, records_of_kind}
use Rattle.tatp_check.proofs.Found.{found_any, found_with, wide, word_inside}

iff_then : {A B C : Type 0} → A ↔ B → B ↔ C → A ↔ C
iff_then f g = ((λ a. g.0 (f.0 a)), (λ c. f.1 (g.1 c)))

module _ (s : Sizes) (array : List ℕ) (walked : Walked) (w : AreWalked s array walked) (kind : TableKind) (at : ℕ) (answer : Bool) (found : Option ℕ) where
  -- a subscriber
  pub refers_number : kind ≡ Subscribers → Finds array (records_of_kind walked Numbers) (slice_index array (at + 7)) found
      → IsTrue answer ↔ IsSomeAnd found (λ n. slice_index array (n + 2) ≡ slice_index array at) → IsTrue answer ↔ Refers array (records_of_kind walked) kind at
  refers_number is finds says =
      subst (λ k. IsTrue answer ↔ Refers array (records_of_kind walked) k at) (sym is)
      (iff_then says (found_with s array Numbers (records_of_kind walked Numbers) (w.each Numbers).whole (λ n. slice_index array (n + 2) ≡ slice_index array at) (slice_index array (at + 7)) found finds))

  -- a number record
  pub refers_subscriber : kind ≡ Numbers → Finds array (records_of_kind walked Subscribers) (slice_index array (at + 2)) found
      → IsTrue answer ↔ IsSomeAnd found (λ n. slice_index array (n + 7) ≡ slice_index array at) → IsTrue answer ↔ Refers array (records_of_kind walked) kind at
  refers_subscriber is finds says =
      subst (λ k. IsTrue answer ↔ Refers array (records_of_kind walked) k at) (sym is)
      (iff_then says (found_with s array Subscribers (records_of_kind walked Subscribers) (w.each Subscribers).whole (λ n. slice_index array (n + 7) ≡ slice_index array at) (slice_index array (at + 2)) found finds))

  -- a row of a subscriber
  pub refers_owner : (kind ≡ Access) ⊎ (kind ≡ Facilities) → Finds array (records_of_kind walked Subscribers) (slice_index array at / 4) found → answer ≡ is_some found
      → IsTrue answer ↔ Refers array (records_of_kind walked) kind at
  refers_owner is finds says =
      let found_there = subst (λ b. IsTrue b ↔ Any (λ x. slice_index array x ≡ slice_index array at / 4) (records_of_kind walked Subscribers)) (sym says)
      (found_any s array Subscribers (records_of_kind walked Subscribers) (w.each Subscribers).whole (slice_index array at / 4) found finds) in
      elim is [
        | inl access ↦ subst (λ k. IsTrue answer ↔ Refers array (records_of_kind walked) k at) (sym access) found_there
        | inr facility ↦ subst (λ k. IsTrue answer ↔ Refers array (records_of_kind walked) k at) (sym facility) found_there
      ]

  -- a call row
  pub refers_facility : kind ≡ Calls → Finds array (records_of_kind walked Facilities) (slice_index array at / 3) found → answer ≡ is_some found
      → IsTrue answer ↔ Refers array (records_of_kind walked) kind at
  refers_facility is finds says =
      subst (λ k. IsTrue answer ↔ Refers array (records_of_kind walked) k at) (sym is)
      (subst (λ b. IsTrue b ↔ Any (λ x. slice_index array x ≡ slice_index array at / 3) (records_of_kind walked Facilities)) (sym says)
      (found_any s array Facilities (records_of_kind walked Facilities) (w.each Facilities).whole (slice_index array at / 3) found finds))

-- the words of records of one kind
module _ (s : Sizes) (array : List ℕ) (walked : Walked) (w : AreWalked s array walked) (kind : TableKind) (at : ℕ) (c : Contains (records_of_kind walked kind) at) where
  pub subscriber_inside : kind ≡ Subscribers → at + 7 < length array
  subscriber_inside is = word_inside s array walked w Subscribers at 7 (subst (λ k. Contains (records_of_kind walked k) at) is c) (omega arith)

  pub number_inside : kind ≡ Numbers → at + 2 < length array
  number_inside is = word_inside s array walked w Numbers at 2 (subst (λ k. Contains (records_of_kind walked k) at) is c) (omega arith)

  pub front_inside : at < length array
  front_inside = omega (arith, word_inside s array walked w kind at 0 c (omega (arith, wide kind s)))

-- ---- the first of one table

module _ (array : List ℕ) (records : TableKind → List ℕ) (kind : TableKind) (i : ℕ) where
  -- those before it refer to records that are there
  pub unbound_at : (at : ℕ) → i < length (records kind) → at ≡ get_or (records kind) i 0 → All (Refers array records kind) (take i (records kind)) → ¬ Refers array records kind at → IsUnbound array records kind at
  unbound_at at inside is bound unbound = record {
    before = take i (records kind);
    behind = drop (i + 1) (records kind);
    split = sym (take-append-drop i (records kind)) ∙ ap (λ l. take i (records kind) ++ l) (drop_more (records kind) i 0 inside ∙ ap (λ x. x ∷ drop (i + 1) (records kind)) (sym is));
    bound = bound;
    unbound = unbound;
  }

  -- all do
  pub bound_all : length (records kind) ≤ i → All (Refers array records kind) (take i (records kind)) → AreBound array records kind
  bound_all past bound = subst (All (Refers array records kind)) (take_all i (records kind) past) bound

-- the word that is named lies in the array
pub unbound_inside : (s : Sizes) (array : List ℕ) (walked : Walked) → AreWalked s array walked → (kind : TableKind) (at : ℕ) → IsUnbound array (records_of_kind walked) kind at → at + reference_offset kind < length array
unbound_inside s array walked w kind at unbound =
    let there : Contains (records_of_kind walked kind) at = subst (λ l. Contains l at) (sym unbound.split) (Contains-append_right unbound.before (at ∷ unbound.behind) at (0, omega arith, refl)) in
    word_inside s array walked w kind at (reference_offset kind) there (by kind)
  where
    by : (k : TableKind) → reference_offset k < (table_of k s).pool.size
    by Subscribers = omega arith
    by Numbers = omega arith
    by Access = omega arith
    by Facilities = omega arith
    by Calls = omega arith
