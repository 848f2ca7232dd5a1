-- The text of a dump, table by table.
use Rattle.std.proofs.Common.{ℕ, ◌≡◌, List, [], ◌++◌, append_assoc}
use Rattle.std.specs.List.{flat_map}
use Rattle.std.proofs.lemmas.List.Concat.{flat_map-append}
use Rattle.tatp_text.specs.RecordText.{record_text}

-- the records of five lists, written one list after another
pub five_written : (start w1 w2 w3 w4 text : List ℕ) (a b c d e : List (List (List ℕ))) → start ≡ []
    → w1 ≡ start ++ flat_map record_text a
    → w2 ≡ w1 ++ flat_map record_text b
    → w3 ≡ w2 ++ flat_map record_text c
    → w4 ≡ w3 ++ flat_map record_text d
    → text ≡ w4 ++ flat_map record_text e
    → text ≡ flat_map record_text (a ++ b ++ c ++ d ++ e)
five_written start w1 w2 w3 w4 text a b c d e none is1 is2 is3 is4 is5 = rw (is5, is4, is3, is2, is1, none) (simp (flat_map-append, append_assoc))
