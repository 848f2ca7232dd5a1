-- The map from keys to records that an array and a list of records make.
use Rattle.std.proofs.Common.{◌≡◌, ◌≢◌, ℕ, inl, inr, List, [], ◌∷◌, ◌++◌, All, Contains, Option, Some, None, slice_index, refl, sym, ap, ◌∙◌, subst, cond, arith}
use Rattle.std.proofs.lemmas.List.Elements.{All-contains, All-tail}
use Rattle.std.proofs.lemmas.Bool.{cases_eq, eq-eqb, ne_eqb}
use Rattle.hash_table.specs.Table.{lookup}
use Rattle.hash_table.proofs.Chains.{first_or_other, first_among, other_among}

step_here : (array : List ℕ) (x : ℕ) (xs : List ℕ) (key : ℕ) → slice_index array x ≡ key → lookup array (x ∷ xs) key ≡ Some x
step_here array x xs key same = ap (λ b. cond b (Some x) (lookup array xs key)) (eq-eqb (slice_index array x) key same)

step_on : (array : List ℕ) (x : ℕ) (xs : List ℕ) (key : ℕ) → slice_index array x ≢ key → lookup array (x ∷ xs) key ≡ lookup array xs key
step_on array x xs key differ = ap (λ b. cond b (Some x) (lookup array xs key)) (ne_eqb (slice_index array x) key differ)

-- what is said of the map at a key
abbrev pub IsAt : List ℕ → List ℕ → ℕ → Option ℕ → Type 0
IsAt array xs key None = (x : ℕ) → Contains xs x → slice_index array x ≢ key
IsAt array xs key (Some x) = Contains xs x × (slice_index array x ≡ key)

is_at_on : (array : List ℕ) (x : ℕ) (xs : List ℕ) (key : ℕ) (r : Option ℕ) → slice_index array x ≢ key → IsAt array xs key r → IsAt array (x ∷ xs) key r
is_at_on array x xs key None differ h = λ y c same. elim (first_or_other y x xs c) [ inl first ↦ differ (ap (λ z. slice_index array z) (sym first) ∙ same) | inr other ↦ h y other same ]
is_at_on array x xs key (Some y) differ h = (other_among y x xs h.0, h.1)

-- a fact of a value, of an equal one
pub along : {A : Type 0} (P : A → Type 0) (a b : A) → a ≡ b → P a → P b
along P a b e h = subst P e h

pub lookup-is_at : (array xs : List ℕ) (key : ℕ) → IsAt array xs key (lookup array xs key)
lookup-is_at array [] key = λ x c same. omega (arith, c.1)
lookup-is_at array (x ∷ xs) key =
    elim (cases_eq (slice_index array x) key) [
      | inl same ↦ along (IsAt array (x ∷ xs) key) _ _ (sym (step_here array x xs key same)) (first_among x xs, same)
      | inr differ ↦ along (IsAt array (x ∷ xs) key) _ _ (sym (step_on array x xs key differ)) (is_at_on array x xs key _ differ (lookup-is_at array xs key))
    ]

-- no two records have one key
abbrev pub HasKeysApart : List ℕ → List ℕ → Type 0
HasKeysApart array xs = (x y : ℕ) → Contains xs x → Contains xs y → slice_index array x ≡ slice_index array y → x ≡ y

same_answer : (array xs : List ℕ) (key : ℕ) → HasKeysApart array xs → (r s : Option ℕ) → IsAt array xs key r → IsAt array xs key s → r ≡ s
same_answer array xs key apart None None h k = refl
same_answer array xs key apart None (Some y) h k = absurd (h y k.0 k.1)
same_answer array xs key apart (Some x) None h k = absurd (k x h.0 h.1)
same_answer array xs key apart (Some x) (Some y) h k = ap Some (apart x y h.0 k.0 (h.1 ∙ sym k.1))

-- the map's value, by what is said of it
pub lookup-is : (array xs : List ℕ) (key : ℕ) → HasKeysApart array xs → (r : Option ℕ) → IsAt array xs key r → lookup array xs key ≡ r
lookup-is array xs key apart r h = same_answer array xs key apart (lookup array xs key) r (lookup-is_at array xs key) h

moved : (a b xs ys : List ℕ) (key : ℕ) → ((x : ℕ) → Contains xs x → slice_index a x ≡ key → Contains ys x × (slice_index b x ≡ key)) → ((y : ℕ) → Contains ys y → slice_index b y ≡ key → Contains xs y × (slice_index a y ≡ key)) → (r : Option ℕ) → IsAt a xs key r → IsAt b ys key r
moved a b xs ys key on back None h = λ y c same. h y (back y c same).0 (back y c same).1
moved a b xs ys key on back (Some x) h = on x h.0 h.1

-- two maps that have the same records with a key have one value there
pub lookup-same : (a b xs ys : List ℕ) (key : ℕ) → HasKeysApart b ys → ((x : ℕ) → Contains xs x → slice_index a x ≡ key → Contains ys x × (slice_index b x ≡ key)) → ((y : ℕ) → Contains ys y → slice_index b y ≡ key → Contains xs y × (slice_index a y ≡ key)) → lookup b ys key ≡ lookup a xs key
lookup-same a b xs ys key apart on back = lookup-is b ys key apart (lookup a xs key) (moved a b xs ys key on back (lookup a xs key) (lookup-is_at a xs key))

-- no record has the key
pub lookup_absent : (array xs : List ℕ) (key : ℕ) → All (λ x. slice_index array x ≢ key) xs → lookup array xs key ≡ None
lookup_absent array [] key absent = refl
lookup_absent array (x ∷ xs) key absent =
    step_on array x xs key (All-contains (λ y. slice_index array y ≢ key) (x ∷ xs) x absent (first_among x xs)) ∙ lookup_absent array xs key (All-tail (λ y. slice_index array y ≢ key) x xs absent)

-- a record has the key, and none before it
pub lookup_amid : (array before behind : List ℕ) (x key : ℕ) → All (λ y. slice_index array y ≢ key) before → slice_index array x ≡ key → lookup array (before ++ x ∷ behind) key ≡ Some x
lookup_amid array [] behind x key absent holds = step_here array x behind key holds
lookup_amid array (y ∷ ys) behind x key absent holds =
    step_on array y (ys ++ x ∷ behind) key (All-contains (λ y. slice_index array y ≢ key) (y ∷ ys) y absent (first_among y ys)) ∙ lookup_amid array ys behind x key (All-tail (λ y. slice_index array y ≢ key) y ys absent) holds
