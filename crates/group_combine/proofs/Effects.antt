-- What the last writes of records do to an array.
use Rattle.std.proofs.Common.{◌≡◌, ℕ, ◌<◌, List, [], ◌∷◌, Option, Some, None, unwrap_or, All, AllPairs, length, get_or, refl, sym, ap, ◌∙◌, arith}
use Rattle.std.specs.Prelude.{slice_index}
use Rattle.std.specs.Option.{option_or}
use Rattle.std.proofs.lemmas.List.{ext_get_or}
use Rattle.std.proofs.lemmas.List.Elements.{Contains-append_right}
use Rattle.dude_base.specs.declared.write.Write.{Write}
use Rattle.dude_base.specs.Records.{RedoBundle, overwritten_by_all}
use Rattle.dude_base.specs.Writes.{written, overwritten}
use Rattle.dude_base.proofs.WriteLists.{written_at}
use Rattle.dude_base.proofs.Overwriting.{length-overwritten, index-overwritten, length-overwritten_by_all}
use Rattle.group_combine.specs.Group.{last_written, IsWrittenBy}

unwrap_or-option_or : (o p : Option ℕ) (x : ℕ) → unwrap_or o (unwrap_or p x) ≡ unwrap_or (option_or o p) x
unwrap_or-option_or None p x = refl
unwrap_or-option_or (Some y) p x = refl

index-overwritten_by_all : (rs : List RedoBundle) (array : List ℕ) (i : ℕ) → i < length array → slice_index (overwritten_by_all rs array) i ≡ unwrap_or (last_written rs i) (slice_index array i)
index-overwritten_by_all [] array i lt = refl
index-overwritten_by_all (r ∷ rs) array i lt =
    index-overwritten_by_all rs (overwritten r.writes array) i (omega (arith, length-overwritten r.writes array))
    ∙ ap (unwrap_or (last_written rs i)) (index-overwritten r.writes array i lt)
    ∙ unwrap_or-option_or (last_written rs i) (written r.writes i) (slice_index array i)

-- writes that leave in each word what the last records leave have the effect of the records
pub overwritten-last : (rs : List RedoBundle) (ws : List Write) (array : List ℕ) → ((i : ℕ) → written ws i ≡ last_written rs i) → overwritten ws array ≡ overwritten_by_all rs array
overwritten-last rs ws array last =
    let long = length-overwritten ws array in
    ext_get_or 0 (overwritten ws array) (overwritten_by_all rs array) (long ∙ sym (length-overwritten_by_all rs array)) (λ i lt.
    let inside : i < length array = omega arith in
    index-overwritten ws array i inside ∙ ap (λ o. unwrap_or o (slice_index array i)) (last i) ∙ sym (index-overwritten_by_all rs array i inside))

writer_first : (r : RedoBundle) (rs : List RedoBundle) (w : Write) (o : Option ℕ) → (o ≡ Some w.value → IsWrittenBy rs w) → option_or o (written r.writes w.at) ≡ Some w.value → IsWrittenBy (r ∷ rs) w
writer_first r rs w None rest is = record { writer = r; among = (0, omega arith, refl); writes = is }
writer_first r rs w (Some x) rest is =
    let found = rest is in
    record { writer = found.writer; among = Contains-append_right (r ∷ []) rs found.writer found.among; writes = found.writes }

writer_of : (rs : List RedoBundle) (w : Write) → last_written rs w.at ≡ Some w.value → IsWrittenBy rs w
writer_of [] w is = cc
writer_of (r ∷ rs) w is = writer_first r rs w (last_written rs w.at) (writer_of rs w) is

-- each of them is made by a record
pub written_by_records : (rs : List RedoBundle) (ws : List Write) → AllPairs (λ v w. v.at < w.at) ws → ((i : ℕ) → written ws i ≡ last_written rs i) → All (IsWrittenBy rs) ws
written_by_records rs ws rising last k d lt =
    let w : Write = get_or ws k d in
    writer_of rs w (sym (last w.at) ∙ written_at ws w.at k d (λ i j e ij jl same. let up = rising i j e ij jl in omega arith) lt refl)
