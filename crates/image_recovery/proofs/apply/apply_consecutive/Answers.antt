use Rattle.std.proofs.Common.{◌≡◌, ◌+◌, ◌++◌, [], ◌∷◌, true, Err, List, ℕ, get_or, map, take, sym, ap, ◌∙◌, subst, arith, rules}
use Rattle.std.proofs.lemmas.List.{get_or_default}
use Rattle.dude_base.specs.Records.{RedoBundle, first_of}
use Rattle.dude_base.specs.Writes.{overwritten}
use Rattle.pmem_trait.proofs.ReadRuns.{reads_then, content_before}
use Rattle.redo_record.specs.Images.{IsComplete}
use Rattle.redo_record.specs.Recovery.{AreConsecutive, overwritten_by_all}
use Rattle.redo_record.proofs.WaitingRecords.{consecutive_push}
use Rattle.log_ring.specs.declared.head.Head.{Head}
use Rattle.log_ring.specs.declared.scan_fault.ScanFault.TheVariants.{Damaged}
use Rattle.log_ring.specs.Heads.{bundle_of_head, cell_of}
use Rattle.log_ring.proofs.ScanReads.{made_again}
use Rattle.log_ring.proofs.ScanEnd.{heads_complete}
use Rattle.image_recovery.proofs.Applied.{overwritten_by_all-push, applied_heads, next_bundles}
use Rattle.image_recovery.proofs.apply.apply_consecutive.Goals as goal

abbrev no_head : Head
no_head = record { last = 0; span = 0; ring = 0; slot = 0 }

pub returns-in_err-bundle-clause-reads : goal.returns-in_err-bundle-clause-reads
returns-in_err-bundle-clause-reads g c =
    made_again c.from_residual.result c.read_bundle.result c.in_err-bundle.field-0.0 _ (g.M.Medium.sight c.loop-head.m) _ (search rules) c.in_err-bundle.was c.loop-head.invariant.reads c.read_bundle.ensures.reads

pub returns-in_err-bundle-clause-damaged : goal.returns-in_err-bundle-clause-damaged
returns-in_err-bundle-clause-damaged g c line is = λ told content holds are.
    let was : c.read_bundle.result ≡ Err (Damaged line) = search (rules, is) in
    let head : Head = get_or c.args.log.now c.loop-head.head-index no_head in
    content_before {P = λ l. ¬ IsComplete c.args.place.now l (cell_of head)} {ok = true} c.loop-head.invariant.reads (c.read_bundle.ensures.damaged line was) told content holds
    (heads_complete c.args.place.now c.args.mark content c.args.log.now are c.loop-head.head-index no_head c.loop-head-test.true)

pub returns-then-first-number-clause-applied : goal.returns-then-first-number-clause-applied
returns-then-first-number-clause-applied g c = λ told content holds are.
    let log : List Head = c.args.log.now in
    let i : ℕ = c.loop-head.head-index in
    let own : c.in_ok-bundle.bundle ≡ bundle_of_head c.args.place.now content (get_or log i no_head) =
    content_before {P = λ l. c.in_ok-bundle.bundle ≡ bundle_of_head c.args.place.now l (get_or log i no_head)} {ok = true} c.loop-head.invariant.reads c.in_ok-bundle.ensures.bundle told content holds in
    applied_heads c.args.place.now c.args.mark content log are c.loop-head.number i c.args.words.now c.loop-head.words
    (c.loop-head.invariant.lead told content holds) (c.loop-head.invariant.result told content holds)
    (λ d below is. c.if-first-number.true (c.first.ensures ∙ ap (λ (r : RedoBundle). first_of r) own ∙ ap (λ (h : Head). first_of (bundle_of_head c.args.place.now content h)) (get_or_default log i no_head d below) ∙ is))

pub loop-head-preserved : goal.loop-head-preserved
loop-head-preserved g c =
    let log : List Head = c.args.log.now in
    let i : ℕ = c.loop-head.head-index in
    let b : RedoBundle = c.in_ok-bundle.bundle in
    let numbers = c.in_ok-bundle.ensures.replayable.number in
    record {
      len = c.in_ok-bundle.ensures.len ∙ c.loop-head.invariant.len;
      reads = reads_then c.loop-head.invariant.reads c.in_ok-bundle.ensures.reads;
      few = (let before = c.loop-head.invariant.few in let more = c.in_ok-bundle.ensures.few in omega arith);
      small = (let high = numbers.high in omega (arith, c.last-number.ensures));
      size = omega (arith, c.apply_to.auto.words, c.loop-head.invariant.size);
      lead = λ told content is.
          let own : b ≡ bundle_of_head c.args.place.now content (get_or log i no_head) =
          content_before {P = λ l. b ≡ bundle_of_head c.args.place.now l (get_or log i no_head)} {ok = true} c.loop-head.invariant.reads c.in_ok-bundle.ensures.bundle told content is in
          let first : first_of b ≡ c.loop-head.number + 1 = sym c.first.ensures ∙ c.if-first-number.false in
          let last : c.last-number.result ≡ b.last = c.last-number.ensures in
          let before : List RedoBundle = map (bundle_of_head c.args.place.now content) (take i log) in
          subst (λ (rs : List RedoBundle). AreConsecutive c.args.mark rs c.last-number.result) (sym (next_bundles c.args.place.now content log i no_head c.loop-head-test.true))
          (subst (λ (r : RedoBundle). AreConsecutive c.args.mark (before ++ r ∷ []) c.last-number.result) own
          (subst (AreConsecutive c.args.mark (before ++ b ∷ [])) (sym last) (consecutive_push c.args.mark c.loop-head.number before b (c.loop-head.invariant.lead told content is) first)));
      result = λ told content is.
          let own : b ≡ bundle_of_head c.args.place.now content (get_or log i no_head) =
          content_before {P = λ l. b ≡ bundle_of_head c.args.place.now l (get_or log i no_head)} {ok = true} c.loop-head.invariant.reads c.in_ok-bundle.ensures.bundle told content is in
          let before : List RedoBundle = map (bundle_of_head c.args.place.now content) (take i log) in
          c.apply_to.ensures ∙ ap (overwritten b.writes) (c.loop-head.invariant.result told content is) ∙ sym (overwritten_by_all-push before b c.args.words.now)
          ∙ ap (λ (r : RedoBundle). overwritten_by_all (before ++ r ∷ []) c.args.words.now) own
          ∙ ap (λ (rs : List RedoBundle). overwritten_by_all rs c.args.words.now) (sym (next_bundles c.args.place.now content log i no_head c.loop-head-test.true));
    }

pub returns-clause-applied : goal.returns-clause-applied
returns-clause-applied g c = λ told content holds are.
    applied_heads c.args.place.now c.args.mark content c.args.log.now are c.loop-head.number c.loop-head.head-index c.args.words.now c.loop-head.words
    (c.loop-head.invariant.lead told content holds) (c.loop-head.invariant.result told content holds)
    (λ d below is. let end = c.loop-head-test.false in omega arith)
