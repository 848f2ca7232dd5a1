-- The subscriber whose id the number table tells.
use Rattle.std.proofs.Common.{◌≡◌, ℕ, ◌+◌, Bool, true, inl, inr, List, [], ◌∷◌, Contains, Option, Some, None, slice_index, refl, sym, ap, ◌∙◌, subst}
use Rattle.std.specs.Prelude.{find, option_map}
use Rattle.std.proofs.lemmas.Bool.{cases_Bool, eqb-true}
use Rattle.std.proofs.lemmas.List.Elements.{All-contains, All-contains_itself}
use Rattle.dude_base.specs.declared.sizes.Sizes.{Sizes}
use Rattle.tatp_model.specs.declared.sub_row.SubRow.{SubRow}
use Rattle.tatp_model.specs.Database.{Database, IsSubRow}
use Rattle.tatp_model.specs.Ranges.{IsId}
use Rattle.tatp_model.specs.Transaction.{has_phone}
use Rattle.tatp_model.proofs.Rows.{All-find}
use Rattle.hash_table.specs.Table.{FindsAll}
use Rattle.tatp_layout.specs.Layout.{number_table}
use Rattle.tatp_layout.specs.StandsFor.{StandsFor}
use Rattle.tatp_layout.proofs.Found.{find_found, find_none, number_tells_id, same_row, tests_phone, told_number}
use Rattle.tatp_core.specs.Phones.{FindsId, id_by_phone}

-- the one that a look-up of the number finds, and its id
pub record HasPhone (db : Database) (sub_nbr s_id : ℕ) : Type 0 where
  pub row : SubRow
  pub found : find (has_phone sub_nbr) db.subscribers ≡ Some row
  pub id : row.s_id ≡ s_id
  pub range : IsId s_id
  pub among : Contains db.subscribers row
  pub passes : has_phone sub_nbr row ≡ true
  pub only : (r : SubRow) → Contains db.subscribers r → has_phone sub_nbr r ≡ true → r ≡ row

-- what the id of a number tells
abbrev pub TellsId : Database → ℕ → Option ℕ → Type 0
TellsId db sub_nbr None = find (has_phone sub_nbr) db.subscribers ≡ None
TellsId db sub_nbr (Some s_id) = HasPhone db sub_nbr s_id

find_passes : {R : Type 0} (p : R → Bool) (rows : List R) (r : R) → find p rows ≡ Some r → p r ≡ true
find_passes p [] r found = cc
find_passes p (x ∷ rows) r found =
    elim (cases_Bool (p x)) [
      | inl here ↦ let is : x ≡ r = (let one = rw here at found in cc) in ap p (sym is) ∙ here
      | inr not_here ↦ let later = rw not_here at found in find_passes p rows r later
    ]

module _ {s : Sizes} {a : List ℕ} {db : Database} (sub_nbr : ℕ) (stands : StandsFor s a db) where
  by_row : (o : Option SubRow) (r : Option ℕ) → find (has_phone sub_nbr) db.subscribers ≡ o → r ≡ option_map (λ row. row.s_id) o → TellsId db sub_nbr r
  by_row None None found is = found
  by_row None (Some s_id) found is = cc
  by_row (Some row) None found is = cc
  by_row (Some row) (Some s_id) found is =
      let id : row.s_id ≡ s_id = cc in
      let among = All-find (Contains db.subscribers) (has_phone sub_nbr) db.subscribers row (All-contains_itself db.subscribers) found in
      let passes = find_passes (has_phone sub_nbr) db.subscribers row found in
      let in_range = All-contains IsSubRow db.subscribers row stands.in_order.subscribers_in_range among in
      record {
        row = row;
        found = found;
        id = id;
        range = subst IsId id in_range.s_id;
        among = among;
        passes = passes;
        only = λ r c same. same_row (λ (t : SubRow). t.sub_nbr) db.subscribers r row (record { apart = stands.in_order.phones_differ }) c among (eqb-true r.sub_nbr sub_nbr same ∙ sym (eqb-true row.sub_nbr sub_nbr passes));
      }

  pub tells_id : (r : Option ℕ) → r ≡ id_by_phone db sub_nbr → TellsId db sub_nbr r
  tells_id r is = by_row (find (has_phone sub_nbr) db.subscribers) r refl is

  -- by what a look-up of the number found
  pub unknown : {r : Option ℕ} → r ≡ None → FindsId s sub_nbr a r → find (has_phone sub_nbr) db.subscribers ≡ None
  unknown is finds = tells_id None (sym is ∙ finds db stands)

  pub known : {r : Option ℕ} {s_id : ℕ} → r ≡ Some s_id → FindsId s sub_nbr a r → HasPhone db sub_nbr s_id
  known {s_id = s_id} is finds = tells_id (Some s_id) (sym is ∙ finds db stands)

  -- from the words of the number table
  pub no_id : FindsAll (number_table s) a sub_nbr None → None ≡ id_by_phone db sub_nbr
  no_id finds = sym (ap (option_map (λ (row : SubRow). row.s_id)) (find_none (has_phone sub_nbr) (tests_phone db.subscribers sub_nbr) (told_number stands sub_nbr None finds)))

  pub id_read : (number s_id : ℕ) → FindsAll (number_table s) a sub_nbr (Some number) → s_id ≡ slice_index a (number + 2) → Some s_id ≡ id_by_phone db sub_nbr
  id_read number s_id finds read =
      let found = told_number stands sub_nbr (Some number) finds in
      ap Some (read ∙ number_tells_id found) ∙ sym (ap (option_map (λ (row : SubRow). row.s_id)) (find_found (has_phone sub_nbr) (tests_phone db.subscribers sub_nbr) found))

  -- which is in its range
  pub id_in_range : (number s_id : ℕ) → FindsAll (number_table s) a sub_nbr (Some number) → s_id ≡ slice_index a (number + 2) → IsId s_id
  id_in_range number s_id finds read = (tells_id (Some s_id) (id_read number s_id finds read)).range
