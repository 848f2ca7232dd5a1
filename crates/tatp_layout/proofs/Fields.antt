-- A field of a record is changed: what a read and a write of its word leave.
use Rattle.std.proofs.Common.{◌≡◌, ◌∙◌, ℕ, ◌≤◌, List, [], ◌∷◌, Result, Ok, None, Some, slice_set, sym, ap, subst}
use Rattle.std.specs.Prelude.{IsErr}
use Rattle.std.specs.Result.{IsErrAnd}
use Rattle.std.proofs.lemmas.Result.{IfOk-from_err}
use Rattle.word_space.specs.declared.stop.Stop.{Stop}
use Rattle.word_space.specs.Sights.{IsBelow, WordsSight, shown}
use Rattle.word_space.specs.Steps.{WordsUsed, WritesWord}
use Rattle.word_space.proofs.Runs.{below_before, shown_same, used_handed, used_then, wrote_none, wrote_one, wrote_then}
use Rattle.record_heap.specs.Changes.{ChangesOnly}
use Rattle.record_heap.proofs.Arrays.{changes_more, changes_none}
use Rattle.tatp_layout.specs.RecordCalls.{ChangesField}

module _ {S : Type 0} {sight : S → WordsSight} {turns_into : S → S → Type 0} {word : ℕ} {Sets : List ℕ → List ℕ → Unit {0} → Type 0} where
  -- a Stop was handed on
  pub field_left : {e : Stop} {k l : ℕ} {old new : S} (r : Result (Unit {0}) Stop) → IsErr r → IsErrAnd r (λ f. f ≡ e) → WordsUsed sight turns_into k l (Some e) old new → k ≤ 1 → l ≤ 1 → ChangesField sight turns_into word Sets r old new
  field_left r err handed used reads writes = record { uses = used_handed r handed used reads writes; wrote = IfOk-from_err _ _ err; changes = IfOk-from_err _ _ err; holds = IfOk-from_err _ _ err }

  -- the word was read and written
  pub field_set : {done : Unit {0}} {value : ℕ} {old middle new : S} → WordsUsed sight turns_into 1 0 None old middle → WordsUsed sight turns_into 0 1 None middle new → WritesWord word value (Ok done) (sight middle) (sight new)
      → ((array : List ℕ) → shown (sight new) array ≡ slice_set (shown (sight middle) array) word value)
      → ((array : List ℕ) → IsBelow (sight middle) array → Sets (shown (sight old) array) (slice_set (shown (sight old) array) word value) done) → ChangesField sight turns_into word Sets (Ok done) old new
  field_set {done} {value} {old} {middle} {new} read write writes gives sets =
      let is : (array : List ℕ) → shown (sight new) array ≡ slice_set (shown (sight old) array) word value = λ array. gives array ∙ ap (λ (seen : List ℕ). slice_set seen word value) (shown_same read array) in
      record {
        uses = used_then read write;
        wrote = wrote_then (wrote_none read) (wrote_one writes);
        changes = λ array below. subst (λ (seen : List ℕ). ChangesOnly (word ∷ []) (shown (sight old) array) seen) (sym (is array)) (changes_more word value changes_none);
        holds = λ array below. subst (λ (seen : List ℕ). Sets (shown (sight old) array) seen done) (sym (is array)) (sets array (below_before write below));
      }
