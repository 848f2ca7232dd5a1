-- The arrays that records make.
use Rattle.std.proofs.Common.{◌≡◌, ℕ, zero, suc, ◌+◌, ◌-◌, List, [], ◌∷◌, ◌++◌, All, refl, sym, ap, ◌∙◌, subst, arith}
use Rattle.std.specs.Prelude.{Option, Some, None, unwrap_or}
use Rattle.std.specs.Option.{option_or}
use Rattle.std.proofs.lemmas.List.Elements.{All-head, All-tail}
use Rattle.dude_base.specs.Records.{RedoBundle, RedoRecord, first_of, overwritten_by_all}
use Rattle.dude_base.specs.Writes.{written, overwritten}
use Rattle.dude_base.proofs.Overwriting.{length-overwritten, index-overwritten}
use Rattle.redo_record.specs.Recovery.{AreConsecutive}
use Rattle.core_events.specs.Keyed.{or_else}
use Rattle.core_events.specs.Entries.{History, value}
use Rattle.core_events.proofs.Values.{value_agree, value_next}
use Rattle.stm_slots.specs.Records.{AreNew, HasValues, IsReached, JoinsRecords, last_written, writes_in}
use Rattle.stm_slots.proofs.JoinedRecords.{lacks_from, over_reached, writes_behind}

-- values stay with new records
pub values_more : (opening : List ℕ) (first : ℕ) (more rs : List RedoRecord) (n : ℕ) (array : List ℕ) → AreNew first rs more → IsReached first rs n → HasValues opening (writes_in rs) n array
    → HasValues opening (writes_in (more ++ rs)) n array
values_more opening first more rs n array new reached is = record {
  size = is.size;
  words = λ i below. is.words i below ∙ sym (value_agree opening (writes_in rs) (writes_in (more ++ rs)) n i
      (λ m le. writes_behind more rs m (lacks_from more m (λ h. let over = over_reached first n m rs (new.over m h) (new.lacks m h) reached in omega arith))));
}

same_else : (o : Option ℕ) (d : ℕ) → unwrap_or o d ≡ or_else o d
same_else None d = refl
same_else (Some x) d = refl

or_both : (a b : Option ℕ) (d : ℕ) → or_else (option_or a b) d ≡ or_else a (or_else b d)
or_both (Some x) b d = refl
or_both None b d = refl

-- the value behind so many numbers
pub value_behind : (opening : List ℕ) (hist : History) (from n i : ℕ) → value opening hist (from + n) i ≡ or_else (last_written hist (from + 1) n i) (value opening hist from i)
value_behind opening hist from zero i = let e : from + 0 ≡ from = omega arith in ap (λ m. value opening hist m i) e
value_behind opening hist from (suc n) i =
    let e : from + suc n ≡ (from + n) + 1 = omega arith in
    let f : (from + n) + 1 ≡ from + 1 + n = omega arith in
    ap (λ m. value opening hist m i) e ∙ (value_next opening hist (from + n) i ∙ (ap (λ m. or_else (written (hist m) i) (value opening hist (from + n) i)) f
    ∙ (ap (λ x. or_else (written (hist (from + 1 + n)) i) x) (value_behind opening hist from n i) ∙ sym (or_both (written (hist (from + 1 + n)) i) (last_written hist (from + 1) n i) (value opening hist from i)))))

-- an array overwritten by a bundle that joins the records of the next numbers has the values behind them
pub values_behind : (opening : List ℕ) (rs : List RedoRecord) (from : ℕ) (b : RedoBundle) (array : List ℕ) → HasValues opening (writes_in rs) from array → first_of b ≡ from + 1 → JoinsRecords rs b
    → HasValues opening (writes_in rs) b.last (overwritten b.writes array)
values_behind opening rs from b array is first joins =
    let hist = writes_in rs in
    let count : ℕ = b.last + 1 - first_of b in
    let same : (i : ℕ) → written b.writes i ≡ last_written hist (from + 1) count i = (λ i. joins.same i ∙ ap (λ f. last_written hist f count i) first) in
    let end : from + count ≡ b.last = omega arith in
    record {
      size = length-overwritten b.writes array ∙ is.size;
      words = λ i below. let size = is.size in
          index-overwritten b.writes array i (omega arith) ∙ (same_else (written b.writes i) _ ∙ (ap (λ (x : ℕ). or_else (written b.writes i) x) (is.words i below) ∙ (ap (λ (w : Option ℕ). or_else w (value opening hist from i)) (same i)
          ∙ (sym (value_behind opening hist from count i) ∙ ap (λ m. value opening hist m i) end))));
    }

-- and behind all of a list, each of which begins behind the one before
pub values_behind_all : (opening : List ℕ) (rs : List RedoRecord) (from to : ℕ) (bs : List RedoBundle) (array : List ℕ) → HasValues opening (writes_in rs) from array → AreConsecutive from bs to → All (JoinsRecords rs) bs
    → HasValues opening (writes_in rs) to (overwritten_by_all bs array)
values_behind_all opening rs from to [] array is e all = subst (λ n. HasValues opening (writes_in rs) n array) e is
values_behind_all opening rs from to (b ∷ bs) array is c all =
    values_behind_all opening rs b.last to bs (overwritten b.writes array) (values_behind opening rs from b array is c.0 (All-head (JoinsRecords rs) b bs all)) c.1 (All-tail (JoinsRecords rs) b bs all)
