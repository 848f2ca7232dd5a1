use Rattle.std.proofs.Common.{◌≡◌, ◌+◌, ◌≤◌, ◌<◌, ℕ, List, slice_set, length, length-set, slice_index, ap, sym, ◌∙◌, arith, get_or-set_other, get_or-set_same, get_or-take, length-take-le, inl, inr, lit≤}
use Rattle.std.proofs.lemmas.Bool.{cases_eq}
use Rattle.std.proofs.lemmas.List.{length-replicate}
use Rattle.std.specs.Prelude.{replicate}
use Rattle.word_space.specs.Sights.{shown}
use Rattle.word_space.proofs.Runs.{below_before, shown_same, used_until, used_handed, used_more, used_then}
use Rattle.std.proofs.lemmas.Result.{IfOk-from_err}
use Rattle.tatp_layout.proofs.record_words.read_record.Goals as goal

pub returns-in_err-words : goal.returns-in_err-words
returns-in_err-words g c = let r = c.from_residual in record { uses = used_handed r.result r.ensures.1 c.in_err-words.ensures.uses (omega arith) (lit≤ tt); words = IfOk-from_err _ _ r.ensures.0 }

pub returns-in_err-words-2 : goal.returns-in_err-words-2
returns-in_err-words-2 g c = let r = c.from_residual-in_err-words-2 in record { uses = used_handed r.result r.ensures.1 (used_until c.loop-k.invariant.uses c.in_err-words-2.ensures.uses) (omega arith) (lit≤ tt); words = IfOk-from_err _ _ r.ensures.0 }

pub returns-clause-uses : goal.returns-clause-uses
returns-clause-uses g c = used_more c.loop-k.invariant.uses (omega arith) (lit≤ tt)

-- one more field was read
fields_more : (words array : List ℕ) (at k value : ℕ) → k < length words → value ≡ slice_index array (at + k)
    → ((j : ℕ) → 2 ≤ j → j < k → slice_index words j ≡ slice_index array (at + j))
    → (j : ℕ) → 2 ≤ j → j < k + 1 → slice_index (slice_set words k value) j ≡ slice_index array (at + j)
fields_more words array at k value inside is before j from under =
    elim (cases_eq j k) [
      | inl same ↦ ap (λ i. slice_index (slice_set words k value) i) same ∙ get_or-set_same words k value 0 inside ∙ is ∙ ap (λ i. slice_index array (at + i)) (sym same)
      | inr other ↦ get_or-set_other words k j value 0 other ∙ before j from (omega arith)
    ]

pub loop-k-init : goal.loop-k-init
loop-k-init g c =
    let read = c.in_ok-words.ensures in
    let none : List ℕ = replicate 8 0 in
    let many : length none ≡ 8 = length-replicate {A = ℕ} 8 0 in
    record {
      uses = read.uses;
      long = length-set none 0 c.in_ok-words.field-0 ∙ many;
      key = λ array below. get_or-set_same none 0 c.in_ok-words.field-0 0 (omega (arith, many, c.requires.wide)) ∙ read.value array below;
      fields = λ array below j from under. absurd (omega arith);
    }

pub read-requires-in-loop-k : goal.read-requires-in-loop-k
read-requires-in-loop-k g c = record { inside = omega (arith, c.loop-k.invariant.uses.count) }

pub loop-k-preserved : goal.loop-k-preserved
loop-k-preserved g c =
    let before = c.loop-k.invariant in
    let k = c.loop-k.k in
    let value = c.in_ok-words-2.field-0 in
    let read = c.in_ok-words-2.ensures in
    record {
      uses = used_more (used_then before.uses read.uses) (omega arith) (lit≤ tt);
      long = length-set c.loop-k.words k value ∙ before.long;
      key = λ array below. get_or-set_other c.loop-k.words k 0 value 0 (omega arith) ∙ before.key array (below_before read.uses below);
      fields = λ array below.
          fields_more c.loop-k.words (shown (g.W.Words.sight c.args.w.now) array) c.args.at k value (omega (arith, before.long))
          (read.value array below ∙ ap (λ seen. slice_index seen (c.args.at + k)) (shown_same before.uses array))
          (before.fields array (below_before read.uses below));
    }

pub returns-clause-words : goal.returns-clause-words
returns-clause-words g c = λ array below.
    let read = c.loop-k.invariant in
    let words = c.loop-k.words in
    let count = c.args.count in
    record {
      long = length-take-le count words (omega (arith, read.long));
      key = get_or-take count words 0 0 (omega arith) ∙ read.key array below;
      fields = λ k from under. get_or-take count words k 0 under ∙ read.fields array below k from (omega arith);
    }
