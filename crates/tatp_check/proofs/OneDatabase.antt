-- An array stands for at most one database.
use Rattle.std.proofs.Common.{◌≡◌, ◌⊎◌, inl, inr, ℕ, zero, suc, ◌<◌, List, [], ◌∷◌, map, All, Contains, refl, sym, ap, ◌∙◌, subst, arith}
use Rattle.std.proofs.lemmas.List.{length-map}
use Rattle.std.proofs.lemmas.List.Elements.{All-contains}
use Rattle.std.proofs.lemmas.Map.Keys.{below_from_sorted, sorted_from_strictly_increasing, sorted_tail}
use Rattle.std.specs.List.Sorted.{IsStrictlyIncreasing, IsStrictlySortedBy}
use Rattle.std.specs.Ordering.{nat_cmp}
use Rattle.dude_base.specs.declared.sizes.Sizes.{Sizes}
use Rattle.hash_table.specs.declared.table.Table.{Table}
use Rattle.hash_table.specs.Table.{records_in}
use Rattle.tatp_model.specs.Database.{Database, IsSubRow, IsAccessRow, IsFacRow, IsCallRow}
use Rattle.tatp_layout.specs.Decoding.{subscriber_in, access_in, facility_in, call_in}
use Rattle.tatp_layout.specs.Layout.{subscriber_table, access_table, facility_table, call_table}
use Rattle.tatp_layout.specs.Records.{RowForm, HoldsRow, subscriber_form, access_form, facility_form, call_form}
use Rattle.tatp_layout.specs.StandsFor.{HasRows, StandsFor}
use Rattle.tatp_layout.specs.Decoded.{subscriber_back, access_back, facility_back, call_back}
use Rattle.tatp_check.proofs.Mapped.{get_or-map}
use Rattle.tatp_check.specs.declared.table_kind.TableKind.{TableKind}
use Rattle.tatp_check.specs.declared.table_kind.TableKind.TheVariants.{Subscribers, Access, Facilities, Calls}
use Rattle.tatp_check.proofs.Lawful.{lawful_records, lawful_whole}
use Rattle.tatp_check.proofs.OneWord.{same_records}

-- the first element or one of the others
first_or_other : {R : Type 0} (x y : R) (ys : List R) → Contains (y ∷ ys) x → (y ≡ x) ⊎ Contains ys x
first_or_other x y ys (zero, below, is) = inl is
first_or_other x y ys (suc k, below, is) = inr (k, omega (arith, below), is)

other : {R : Type 0} (x y : R) (ys : List R) → Contains ys x → Contains (y ∷ ys) x
other x y ys (k, below, is) = (suc k, omega (arith, below), is)

-- the first of a list that rises has the least key
first_least : {R : Type 0} (key : R → ℕ) (x z : R) (xs : List R) → IsStrictlySortedBy nat_cmp (map key (x ∷ xs)) → Contains xs z → key x < key z
first_least key x z xs sorted (k, below, is) =
    let rises = below_from_sorted (key x ∷ map key xs) 0 (suc k) (key z) sorted (omega arith) (omega (arith, below, length-map xs key)) in
    omega (arith, rises, get_or-map key xs k z, ap key is)

-- lists that rise by a key and have the same elements
rising_one : {R : Type 0} (key : R → ℕ) (xs ys : List R) → IsStrictlySortedBy nat_cmp (map key xs) → IsStrictlySortedBy nat_cmp (map key ys)
    → ((r : R) → Contains xs r → Contains ys r) → ((r : R) → Contains ys r → Contains xs r) → xs ≡ ys
rising_one key [] [] sx sy there back = refl
rising_one key [] (y ∷ ys) sx sy there back = absurd (omega (arith, (back y (0, omega arith, refl)).1))
rising_one key (x ∷ xs) [] sx sy there back = absurd (omega (arith, (there x (0, omega arith, refl)).1))
rising_one key (x ∷ xs) (y ∷ ys) sx sy there back =
    let same : y ≡ x = firsts (first_or_other x y ys (there x (0, omega arith, refl))) (first_or_other y x xs (back y (0, omega arith, refl))) in
    ap (λ v. v ∷ xs) (sym same) ∙ ap (λ l. y ∷ l) (rising_one key xs ys (sorted_tail nat_cmp (key x) (map key xs) sx) (sorted_tail nat_cmp (key y) (map key ys) sy)
    (λ r c. elim (first_or_other r y ys (there r (other r x xs c))) [
      | inl first ↦ absurd (let less = first_least key x r xs sx c in omega (arith, less, ap key same, ap key first))
      | inr rest ↦ rest
    ])
    (λ r c. elim (first_or_other r x xs (back r (other r y ys c))) [
      | inl first ↦ absurd (let less = first_least key y r ys sy c in omega (arith, less, ap key same, ap key first))
      | inr rest ↦ rest
    ]))
  where
    firsts : (y ≡ x) ⊎ Contains ys x → (x ≡ y) ⊎ Contains xs y → y ≡ x
    firsts (inl is) other_way = is
    firsts (inr later) (inl is) = sym is
    firsts (inr later) (inr too) = absurd (let one = first_least key y x ys sy later in let two = first_least key x y xs sx too in omega (arith, one, two))

-- the rows of one table are within those of another
rows_within : {R : Type 0} (form : RowForm R) (InRange : R → Type 0) (row_in : ℕ → R) (table : Table) (array : List ℕ) → ((at : ℕ) (r : R) → InRange r → HoldsRow form array at r → row_in at ≡ r)
    → (xs ys : List R) (first : HasRows form table array xs) (second : HasRows form table array ys) → records_in first.chains ≡ records_in second.chains → All InRange xs → All InRange ys → (r : R) → Contains xs r → Contains ys r
rows_within form InRange row_in table array back xs ys first second same rx ry r c =
    let at = first.held r c in
    let h = second.holds at.0 (subst (λ l. Contains l at.0) same at.1) in
    subst (Contains ys) (sym (back at.0 h.0 (All-contains InRange ys h.0 ry h.1) h.2) ∙ back at.0 r (All-contains InRange xs r rx c) at.2) h.1

-- and so they are the same rows
pub rows_one : {R : Type 0} (form : RowForm R) (InRange : R → Type 0) (row_in : ℕ → R) (table : Table) (array : List ℕ) → ((at : ℕ) (r : R) → InRange r → HoldsRow form array at r → row_in at ≡ r)
    → (xs ys : List R) (first : HasRows form table array xs) (second : HasRows form table array ys) → records_in first.chains ≡ records_in second.chains → All InRange xs → All InRange ys
    → IsStrictlyIncreasing (map form.key xs) → IsStrictlyIncreasing (map form.key ys) → xs ≡ ys
rows_one form InRange row_in table array back xs ys first second same rx ry ix iy =
    rising_one form.key xs ys (sorted_from_strictly_increasing (map form.key xs) ix) (sorted_from_strictly_increasing (map form.key ys) iy)
    (rows_within form InRange row_in table array back xs ys first second same rx ry)
    (rows_within form InRange row_in table array back ys xs second first (sym same) ry rx)

pub one_database : (s : Sizes) (array : List ℕ) (db other : Database) → StandsFor s array db → StandsFor s array other → db ≡ other
one_database s array db other a b =
    let same = λ (kind : TableKind). same_records s array kind (lawful_records s array db a kind) (lawful_records s array other b kind) (lawful_whole s array db a kind) (lawful_whole s array other b kind) in
    let subscribers : db.subscribers ≡ other.subscribers = rows_one subscriber_form IsSubRow (subscriber_in array) (subscriber_table s) array (λ at r range held. subscriber_back range held) db.subscribers other.subscribers a.subscribers b.subscribers (same Subscribers)
    a.in_order.subscribers_in_range b.in_order.subscribers_in_range a.in_order.subscribers_rise b.in_order.subscribers_rise in
    let access : db.access ≡ other.access = rows_one access_form IsAccessRow (access_in array) (access_table s) array (λ at r range held. access_back range held) db.access other.access a.access b.access (same Access)
    a.in_order.access_in_range b.in_order.access_in_range a.in_order.access_rise b.in_order.access_rise in
    let facilities : db.facilities ≡ other.facilities = rows_one facility_form IsFacRow (facility_in array) (facility_table s) array (λ at r range held. facility_back range held) db.facilities other.facilities a.facilities b.facilities (same Facilities)
    a.in_order.facilities_in_range b.in_order.facilities_in_range a.in_order.facilities_rise b.in_order.facilities_rise in
    let calls : db.calls ≡ other.calls = rows_one call_form IsCallRow (call_in array) (call_table s) array (λ at r range held. call_back range held) db.calls other.calls a.calls b.calls (same Calls)
    a.in_order.calls_in_range b.in_order.calls_in_range a.in_order.calls_rise b.in_order.calls_rise in
    λ i. record { subscribers = subscribers i; access = access i; facilities = facilities i; calls = calls i }
