-- Records of walked tables: where they lie, and how they are found.
use Rattle.std.proofs.Common.{◌≡◌, ℕ, ◌+◌, ◌<◌, ◌≤◌, ◌↔◌, List, length, Any, Contains, Option, Some, None, IfSome, IsSomeAnd, is_some, slice_index, refl, sym, ap, ◌∙◌, subst, arith, All, get_or}
use Rattle.std.specs.Bool.{IsTrue}
use Rattle.std.proofs.lemmas.Bool.{false≢true}
use Rattle.std.proofs.lemmas.List.Elements.{Contains-append_left, Contains-get_or}
use Rattle.dude_base.specs.declared.sizes.Sizes.{Sizes}
use Rattle.record_heap.specs.Pool.{IsRecord}
use Rattle.hash_table.specs.Table.{records_in}
use Rattle.tatp_check.specs.Taken.{Finds, records_by_key}
use Rattle.tatp_check.proofs.ByKey.{by_key_in}
use Rattle.tatp_check.proofs.LawfulTable.{HoldsContent, content_at, each_place, one_record}
use Rattle.tatp_check.specs.declared.table_kind.TableKind.{TableKind}
use Rattle.tatp_check.specs.declared.table_kind.TableKind.TheVariants.{Subscribers, Numbers, Access, Facilities, Calls}
use Rattle.tatp_check.specs.Content.{content_of, table_of}
use Rattle.tatp_check.specs.declared.walked.Walked.{Walked}
use Rattle.tatp_check.specs.Order.{IsWholeKind}
use Rattle.tatp_check.specs.Walked.{AreWalked, records_of_kind, taken_of}

pub wide : (kind : TableKind) (s : Sizes) → 2 ≤ (table_of kind s).pool.size
wide Subscribers s = omega arith
wide Numbers s = omega arith
wide Access s = omega arith
wide Facilities s = omega arith
wide Calls s = omega arith

-- a record is found among these where some of them has the key
pub found_some : (array records : List ℕ) (key : ℕ) (found : Option ℕ) → Finds array records key found → IsTrue (is_some found) ↔ Any (λ x. slice_index array x ≡ key) records
found_some array records key None finds = ((λ t. absurd (false≢true t)), (λ any. absurd (finds any.0 any.1 any.2 (ap (slice_index array) any.3 ∙ any.4))))
found_some array records key (Some at) finds = ((λ t. (finds.0.0, at, finds.0.1, finds.0.2, finds.1)), (λ any. refl))

-- In a table where nothing is wrong:
module _ (s : Sizes) (array : List ℕ) (kind : TableKind) (records : List ℕ) (whole : IsWholeKind s array kind records) where
  in_chains : (at : ℕ) → Contains records at → Contains (records_in whole.chains) at
  in_chains at c = subst (λ l. Contains l at) whole.taken_is c

  pub record_place : (at : ℕ) → Contains records at → IsRecord (table_of kind s).pool at
  record_place at c =
      each_place (content_of kind) (table_of kind s) array (wide kind s) whole.chains whole.free whole.whole at (Contains-append_left (records_in whole.chains) whole.free at (in_chains at c))

  pub record_content : (at : ℕ) → Contains records at → HoldsContent (content_of kind) (table_of kind s) array at
  record_content at c = content_at (content_of kind) (table_of kind s) array (wide kind s) whole.chains whole.free whole.whole at (in_chains at c)

  -- one record has a key
  pub one_with_key : (x y : ℕ) → Contains records x → Contains records y → slice_index array x ≡ slice_index array y → x ≡ y
  one_with_key x y cx cy same = one_record (content_of kind) (table_of kind s) array (wide kind s) whole.chains whole.free whole.whole x y (in_chains x cx) (in_chains y cy) same

  -- a record is found where some record has the key
  pub found_any : (key : ℕ) (found : Option ℕ) → Finds array records key found → IsTrue (is_some found) ↔ Any (λ x. slice_index array x ≡ key) records
  found_any = found_some array records

  -- and so is one that holds more
  pub found_with : (P : ℕ → Type 0) (key : ℕ) (found : Option ℕ) → Finds array records key found → IsSomeAnd found P ↔ Any (λ x. (slice_index array x ≡ key) × P x) records
  found_with P key None finds = ((λ n. absurd n), (λ any. absurd (finds any.0 any.1 any.2 (ap (slice_index array) any.3 ∙ any.4.0))))
  found_with P key (Some at) finds = (
    (λ p. (finds.0.0, at, finds.0.1, finds.0.2, (finds.1, p))),
    (λ any. subst P (one_with_key any.1 at (any.0, any.2, any.3) finds.0 (any.4.0 ∙ sym finds.1)) any.4.1),
  )

-- In walked tables:
module _ (s : Sizes) (array : List ℕ) (walked : Walked) (w : AreWalked s array walked) where
  -- the words of a record lie in the array
  pub word_inside : (kind : TableKind) (at offset : ℕ) → Contains (records_of_kind walked kind) at → offset < (table_of kind s).pool.size → at + offset < length array
  word_inside kind at offset c below = omega (arith, (w.fits kind).pool.inside at (record_place s array kind (records_of_kind walked kind) (w.each kind).whole at c), below)

  -- and those of a record that is found
  pub found_inside : (kind : TableKind) (key offset : ℕ) (found : Option ℕ) → Finds array (records_of_kind walked kind) key found → offset < (table_of kind s).pool.size → IfSome found (λ at. at + offset < length array)
  found_inside kind key offset None finds below = tt
  found_inside kind key offset (Some at) finds below = word_inside kind at offset finds.0 below

  -- the records in rising order of key lie in the array
  pub ordered_inside : (kind : TableKind) → All (λ at. at + (table_of kind s).pool.size ≤ length array) (records_by_key (taken_of walked kind))
  ordered_inside kind k d below =
      let vs = records_by_key (taken_of walked kind) in
      let c = by_key_in array (records_of_kind walked kind) (taken_of walked kind) (w.each kind).keeps (get_or vs k d) (Contains-get_or vs k d below) in
      (w.fits kind).pool.inside (get_or vs k d) (record_place s array kind (records_of_kind walked kind) (w.each kind).whole (get_or vs k d) c)
