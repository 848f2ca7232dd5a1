-- The array to which waiting bundles lead has the values at their last number.
use Rattle.std.proofs.Common.{◌≡◌, ℕ, zero, suc, ◌+◌, ◌<◌, ◌≤◌, List, [], ◌∷◌, length, refl, sym, ap, ◌∙◌, arith, All, unwrap_or}
use Rattle.std.specs.Prelude.{Option, Some, None, slice_index}
use Rattle.std.specs.Option.{option_or}
use Rattle.std.specs.List.{Contains}
use Rattle.std.proofs.lemmas.List.Elements.{All-head, All-tail}
use Rattle.dude_base.specs.Records.{RedoBundle, first_of, overwritten_by_all}
use Rattle.dude_base.specs.Writes.{written, overwritten}
use Rattle.dude_base.proofs.Overwriting.{length-overwritten, index-overwritten}
use Rattle.redo_record.specs.Recovery.{AreConsecutive}
use Rattle.redo_record.specs.Waiting.{Waiting, Waits}
use Rattle.core_events.specs.Keyed.{or_else}
use Rattle.core_events.specs.Entries.{History, value}
use Rattle.core_events.proofs.Values.{value_next}
use Rattle.core_medium.specs.KeptLog.{last_write}

unwrap_is : (o : Option ℕ) (d : ℕ) → unwrap_or o d ≡ or_else o d
unwrap_is None d = refl
unwrap_is (Some x) d = refl

over_both : (a b : Option ℕ) (d : ℕ) → or_else (option_or a b) d ≡ or_else a (or_else b d)
over_both None b d = refl
over_both (Some x) b d = refl

-- the value behind some numbers, by what the last of them wrote
value_behind : (opening : List ℕ) (hist : History) (from more i : ℕ) → or_else (last_write hist (from + 1) more i) (value opening hist from i) ≡ value opening hist (from + 1 + more) i
value_behind opening hist from zero i =
    let e : from + 1 + zero ≡ from + 1 = omega arith in
    sym (value_next opening hist from i) ∙ ap (λ (n : ℕ). value opening hist n i) (sym e)
value_behind opening hist from (suc more) i =
    let e : from + 1 + suc more ≡ from + 1 + more + 1 = omega arith in
    over_both (written (hist (from + 1 + suc more)) i) (last_write hist (from + 1) more i) (value opening hist from i)
    ∙ (ap (λ (x : ℕ). or_else (written (hist (from + 1 + suc more)) i) x) (value_behind opening hist from more i)
    ∙ (ap (λ (n : ℕ). or_else (written (hist n) i) (value opening hist (from + 1 + more) i)) e
    ∙ (sym (value_next opening hist (from + 1 + more) i) ∙ ap (λ (n : ℕ). value opening hist n i) (sym e))))

module _ (opening : List ℕ) (hist : History) (waiting : List Waiting)
    (each : (w : Waiting) → Contains waiting w → (i : ℕ) → written w.redo.writes i ≡ last_write hist (first_of w.redo) w.redo.span i) (words : ℕ) where
  -- one bundle more
  over_one : (w : Waiting) (from : ℕ) (array : List ℕ) → Contains waiting w → first_of w.redo ≡ from + 1 → words ≤ length array
      → ((i : ℕ) → i < words → slice_index array i ≡ value opening hist from i) → (i : ℕ) → i < words → slice_index (overwritten w.redo.writes array) i ≡ value opening hist w.redo.last i
  over_one w from array there next long is i lt =
      let last : from + 1 + w.redo.span ≡ w.redo.last = omega arith in
      index-overwritten w.redo.writes array i (omega arith)
      ∙ (unwrap_is (written w.redo.writes i) (slice_index array i)
      ∙ (ap (λ (o : Option ℕ). or_else o (slice_index array i)) (each w there i)
      ∙ (ap (λ (x : ℕ). or_else (last_write hist (first_of w.redo) w.redo.span i) x) (is i lt)
      ∙ (ap (λ (n : ℕ). or_else (last_write hist n w.redo.span i) (value opening hist from i)) next
      ∙ (value_behind opening hist from w.redo.span i ∙ ap (λ (n : ℕ). value opening hist n i) last)))))

  pub lead_values : (rs : List RedoBundle) (from to : ℕ) (array : List ℕ) → All (Waits waiting) rs → AreConsecutive from rs to → words ≤ length array
      → ((i : ℕ) → i < words → slice_index array i ≡ value opening hist from i) → (i : ℕ) → i < words → slice_index (overwritten_by_all rs array) i ≡ value opening hist to i
  lead_values [] from to array all are long is i lt = is i lt ∙ ap (λ (n : ℕ). value opening hist n i) are
  lead_values (r ∷ rs) from to array all are long is i lt =
      let waits = All-head (Waits waiting) r rs all in
      lead_values rs r.last to (overwritten r.writes array) (All-tail (Waits waiting) r rs all) are.1 (omega (arith, length-overwritten r.writes array))
      (λ j small. over_one (record { ring = waits.ring; redo = r }) from array waits.is_one are.0 long is j small) i lt
