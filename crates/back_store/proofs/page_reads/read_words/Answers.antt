use Rattle.std.proofs.Common.{◌≡◌, ◌+◌, List, map, is_ok, false, IsTrue, refl, ap, ◌∙◌, inl, inr, arith, rules, get_or-set_same, get_or-set_other}
use Rattle.std.specs.List.{range_with_len}
use Rattle.std.proofs.lemmas.Bool.{cases_eq}
use Rattle.std.proofs.lemmas.List.FromFn.{length-map-range_with_len, get_or-map-range_with_len}
use Rattle.pmem_trait.specs.declared.call.Call.{Call}
use Rattle.pmem_trait.specs.declared.call.Call.TheVariants.{Read}
use Rattle.pmem_trait.specs.Words.{State, value_of}
use Rattle.pmem_trait.specs.Sights.{CallsMade.none}
use Rattle.pmem_trait.proofs.Runs.{made_next, made_cut, made_later}
use Rattle.back_store.proofs.PageReads.{reads_front_state}
use Rattle.back_store.proofs.page_reads.read_words.Goals as goal

pub loop-i-init : goal.loop-i-init
loop-i-init g c = record { len = refl; made = none; words = λ told j lt. absurd (omega arith) }

pub returns-in_err-into-clause-made : goal.returns-in_err-into-clause-made
returns-in_err-into-clause-made g c =
    let err : is_ok c.from_residual.result ≡ false = search rules in
    let all : List Call = map (λ x. Read x) (range_with_len c.args.at 64) in
    rw err (made_cut all (c.loop-i.i + 1) (made_next all c.loop-i.i (Read (c.args.at + c.loop-i.i)) {ok = false} (omega (arith, length-map-range_with_len (λ x. Read x) c.args.at 64))
    (get_or-map-range_with_len (λ x. Read x) c.args.at 64 c.loop-i.i (c.args.at + c.loop-i.i) (Read (c.args.at + c.loop-i.i)) c.loop-i-test.true refl) c.loop-i.invariant.made c.in_err-into.ensures.one_call))

pub loop-i-preserved : goal.loop-i-preserved
loop-i-preserved g c =
    let all : List Call = map (λ x. Read x) (range_with_len c.args.at 64) in
    record {
      len = omega arith;
      made = made_next all c.loop-i.i (Read (c.args.at + c.loop-i.i)) (omega (arith, length-map-range_with_len (λ x. Read x) c.args.at 64))
          (get_or-map-range_with_len (λ x. Read x) c.args.at 64 c.loop-i.i (c.args.at + c.loop-i.i) (Read (c.args.at + c.loop-i.i)) c.loop-i-test.true refl) c.loop-i.invariant.made c.in_ok-into.ensures.one_call;
      words = λ told j lt. elim (cases_eq j c.loop-i.i) [
        | inl same ↦
            let visible : IsTrue (g.M.Medium.sight c.loop-i.m).is_visible = (made_later c.loop-i.invariant.made).is_visible ∙ told in
            let state = reads_front_state c.args.at 64 c.loop-i.i (omega arith) c.loop-i.invariant.made told in
            rw same (get_or-set_same c.loop-i.into c.loop-i.i c.in_ok-into.field-0 0 (omega arith) ∙ c.in_ok-into.ensures.value visible ∙ ap (λ (p : State). value_of (p.word (c.args.at + c.loop-i.i))) state)
        | inr apart ↦ get_or-set_other c.loop-i.into c.loop-i.i j c.in_ok-into.field-0 0 apart ∙ c.loop-i.invariant.words told j (omega arith)
      ];
    }
