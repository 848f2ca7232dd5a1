use Rattle.std.proofs.Common.{◌≡◌, ℕ, true, false, List, length, map, inl, inr, refl, sym, ap, ◌∙◌, subst, arith, rules}
use Rattle.std.proofs.lemmas.List.{with_items_is}
use Rattle.dude_base.specs.declared.sizes.Sizes.{Sizes}
use Rattle.pmem_trait.proofs.Runs.{made_cause}
use Rattle.pmem_trait.proofs.ReadRuns.{reads_then, read_alone, read_content, content_before}
use Rattle.redo_record.specs.Images.{mark_of, home_of}
use Rattle.redo_record.specs.Damage.{IsDamagedAt}
use Rattle.redo_record.specs.Recovery.{Recovers}
use Rattle.log_ring.specs.declared.head.Head.{Head}
use Rattle.log_ring.specs.Heads.{bundle_of_head}
use Rattle.log_ring.specs.Scan.{AreHeads}
use Rattle.image_recovery.specs.Replays.{AreApplied, HasSizes}
use Rattle.image_recovery.proofs.ReplayReading.{made_at_device, made_again, made_by_scan, read_cause, replay_by_scan, replay_unread}
use Rattle.image_recovery.proofs.ReplayedContent.{at_content, recovered}
use Rattle.image_recovery.proofs.replaying.replay.Goals as goal

pub returns-in_err-sizes-clause-cause : goal.returns-in_err-sizes-clause-cause
returns-in_err-sizes-clause-cause g c = λ is. made_cause c.in_err-sizes.ensures.reads.made

pub returns-in_err-mark-clause-cause : goal.returns-in_err-mark-clause-cause
returns-in_err-mark-clause-cause g c = λ is. made_cause (reads_then c.in_ok-sizes.ensures.reads (read_alone {ok = false} c.in_err-mark.ensures.one_call)).made

pub returns-then-mark-gt-MAX_NUMBER-clause-refused : goal.returns-then-mark-gt-MAX_NUMBER-clause-refused
returns-then-mark-gt-MAX_NUMBER-clause-refused g c = λ told content holds.
    let has = subst (λ found. HasSizes found content) c.in-Some.is (c.in_ok-sizes.ensures.sizes told content holds) in
    let mark : mark_of content ≡ c.in_ok-mark.mark = read_content 8 c.in_ok-sizes.ensures.reads (omega arith) c.in_ok-mark.ensures.value told content holds in
    (has.0, inl (omega arith, refl))

pub returns-in_err-log-clause-reads : goal.returns-in_err-log-clause-reads
returns-in_err-log-clause-reads g c =
    made_by_scan c.from_residual-in_err-log.result c.heads.result c.in_err-log.field-0.0 _ (g.M.Medium.sight c.read.new.self) _ (search rules) c.in_err-log.was
    (reads_then c.in_ok-sizes.ensures.reads (read_alone c.in_ok-mark.ensures.one_call)) c.heads.ensures.reads

pub returns-in_err-log-clause-cause : goal.returns-in_err-log-clause-cause
returns-in_err-log-clause-cause g c = read_cause c.from_residual-in_err-log.result _ _
    (made_by_scan c.from_residual-in_err-log.result c.heads.result c.in_err-log.field-0.0 (g.M.Medium.sight c.args.m.now) (g.M.Medium.sight c.read.new.self) (g.M.Medium.sight c.heads.new.m) (search rules) c.in_err-log.was
    (reads_then c.in_ok-sizes.ensures.reads (read_alone c.in_ok-mark.ensures.one_call)) c.heads.ensures.reads)

pub returns-in_err-log-clause-refused : goal.returns-in_err-log-clause-refused
returns-in_err-log-clause-refused g c = replay_by_scan c.from_residual-in_err-log.result c.heads.result c.in_err-log.field-0.0 (g.M.Medium.sight c.args.m.now) (search rules) c.in_err-log.was (λ line is told content holds.
    let has = subst (λ found. HasSizes found content) c.in-Some.is (c.in_ok-sizes.ensures.sizes told content holds) in
    let mark : mark_of content ≡ c.in_ok-mark.mark = read_content 8 c.in_ok-sizes.ensures.reads (omega arith) c.in_ok-mark.ensures.value told content holds in
    let before = reads_then c.in_ok-sizes.ensures.reads (read_alone {ok = true} c.in_ok-mark.ensures.one_call) in
    let at = content_before {P = λ l. IsDamagedAt c.of-place.result c.in_ok-mark.mark l line} before (c.heads.ensures.damaged line is) told content holds in
    (has.0, inr (omega arith, at_content c.of-place.result c.in_ok-mark.mark content (has.1 ∙ sym c.of-place.ensures) mark (λ s m. IsDamagedAt s m content line) at)))

pub apply_consecutive-requires : goal.apply_consecutive-requires
apply_consecutive-requires g c = record {
  in_limits = omega arith;
  inside = search rules;
  room = search rules;
  size = search rules;
}

pub returns-in_err-words-clause-reads : goal.returns-in_err-words-clause-reads
returns-in_err-words-clause-reads g c =
    made_again c.from_residual-in_err-words.result c.read_home.result c.in_err-words.field-0.0 _ (g.M.Medium.sight c.heads.new.m) _ (search rules) c.in_err-words.was
    (reads_then (reads_then c.in_ok-sizes.ensures.reads (read_alone c.in_ok-mark.ensures.one_call)) c.in_ok-log.ensures.reads) c.read_home.ensures.reads

pub returns-in_err-words-clause-cause : goal.returns-in_err-words-clause-cause
returns-in_err-words-clause-cause g c = read_cause c.from_residual-in_err-words.result _ _
    (made_again c.from_residual-in_err-words.result c.read_home.result c.in_err-words.field-0.0 (g.M.Medium.sight c.args.m.now) (g.M.Medium.sight c.heads.new.m) (g.M.Medium.sight c.read_home.new.m) (search rules) c.in_err-words.was
    (reads_then (reads_then c.in_ok-sizes.ensures.reads (read_alone c.in_ok-mark.ensures.one_call)) c.in_ok-log.ensures.reads) c.read_home.ensures.reads)

pub returns-in_err-words-clause-refused : goal.returns-in_err-words-clause-refused
returns-in_err-words-clause-refused g c = replay_unread c.from_residual-in_err-words.result c.read_home.result c.in_err-words.field-0.0 (g.M.Medium.sight c.args.m.now) (search rules) c.in_err-words.was c.read_home.ensures.fault

pub returns-in_err-number-clause-reads : goal.returns-in_err-number-clause-reads
returns-in_err-number-clause-reads g c =
    made_by_scan c.from_residual-in_err-number.result c.apply_consecutive.result c.in_err-number.field-0.0 _ (g.M.Medium.sight c.read_home.new.m) _ (search rules) c.in_err-number.was
    (reads_then (reads_then (reads_then c.in_ok-sizes.ensures.reads (read_alone c.in_ok-mark.ensures.one_call)) c.in_ok-log.ensures.reads) c.in_ok-words.ensures.reads) c.apply_consecutive.ensures.reads

pub returns-in_err-number-clause-cause : goal.returns-in_err-number-clause-cause
returns-in_err-number-clause-cause g c = read_cause c.from_residual-in_err-number.result _ _
    (made_by_scan c.from_residual-in_err-number.result c.apply_consecutive.result c.in_err-number.field-0.0 (g.M.Medium.sight c.args.m.now) (g.M.Medium.sight c.read_home.new.m) (g.M.Medium.sight c.apply_consecutive.new.m) (search rules) c.in_err-number.was
    (reads_then (reads_then (reads_then c.in_ok-sizes.ensures.reads (read_alone c.in_ok-mark.ensures.one_call)) c.in_ok-log.ensures.reads) c.in_ok-words.ensures.reads) c.apply_consecutive.ensures.reads)

pub returns-in_err-number-clause-refused : goal.returns-in_err-number-clause-refused
returns-in_err-number-clause-refused g c = replay_by_scan c.from_residual-in_err-number.result c.apply_consecutive.result c.in_err-number.field-0.0 (g.M.Medium.sight c.args.m.now) (search rules) c.in_err-number.was (λ line is told content holds.
    let before = reads_then c.in_ok-sizes.ensures.reads (read_alone {ok = true} c.in_ok-mark.ensures.one_call) in
    let heads = content_before {P = λ l. AreHeads c.of-place.result c.in_ok-mark.mark l c.in_ok-log.log.items} before c.in_ok-log.ensures.heads told content holds in
    let log = subst (λ (l : List Head). AreHeads c.of-place.result c.in_ok-mark.mark content l) (sym c.deref.ensures.value) heads in
    absurd (content_before {P = λ l. AreHeads c.of-place.result c.in_ok-mark.mark l c.deref.result.now → ⊥} (reads_then (reads_then before c.in_ok-log.ensures.reads) c.in_ok-words.ensures.reads)
    (c.apply_consecutive.ensures.damaged line is) told content holds log))

pub returns-clause-replayed : goal.returns-clause-replayed
returns-clause-replayed g c = λ told content holds.
    let has = subst (λ found. HasSizes found content) c.in-Some.is (c.in_ok-sizes.ensures.sizes told content holds) in
    let mark : mark_of content ≡ c.in_ok-mark.mark = read_content 8 c.in_ok-sizes.ensures.reads (omega arith) c.in_ok-mark.ensures.value told content holds in
    let place : Sizes = c.of-place.result in
    let before = reads_then c.in_ok-sizes.ensures.reads (read_alone {ok = true} c.in_ok-mark.ensures.one_call) in
    let found = content_before {P = λ l. AreHeads place c.in_ok-mark.mark l c.in_ok-log.log.items} before c.in_ok-log.ensures.heads told content holds in
    let home = content_before {P = λ l. c.in_ok-words.words.items ≡ home_of place l} (reads_then before c.in_ok-log.ensures.reads) c.in_ok-words.ensures.words told content holds in
    let log = subst (λ (l : List Head). AreHeads place c.in_ok-mark.mark content l) (sym c.deref.ensures.value) found in
    let applied =
    content_before {P = λ l. AreHeads place c.in_ok-mark.mark l c.deref.result.now → AreApplied (map (bundle_of_head place l) c.deref.result.now) c.in_ok-mark.mark c.deref_mut.result.now c.apply_consecutive.new.words c.in_ok-number.number}
    (reads_then (reads_then before c.in_ok-log.ensures.reads) c.in_ok-words.ensures.reads) c.in_ok-number.ensures.applied told content holds log in
    let P : List ℕ → Type 0 = λ words. Recovers content c.in_ok-number.number words in
    let long : length c.apply_consecutive.new.words ≡ c.in_ok-words.words.len = omega (arith, c.apply_consecutive.auto.words, c.deref_mut.ensures.len, c.in_ok-words.words.ok, ap (λ (l : List ℕ). length l) c.deref_mut.ensures.value) in
    record {
      recovered = subst P (sym (with_items_is c.in_ok-words.words c.apply_consecutive.new.words long))
          (recovered place c.in_ok-mark.mark content (has.1 ∙ sym c.of-place.ensures) mark (map (bundle_of_head place content) c.deref.result.now) log.scanned c.deref_mut.result.now c.apply_consecutive.new.words c.in_ok-number.number
          has.0 (omega arith) (c.deref_mut.ensures.value ∙ home) (λ over rising. applied));
      same_sizes = has.1;
    }

pub returns-in_err-mark-clause-reads : goal.returns-in_err-mark-clause-reads
returns-in_err-mark-clause-reads g c = made_at_device c.from_residual-in_err-mark.result (search rules) (reads_then c.in_ok-sizes.ensures.reads (read_alone c.in_err-mark.ensures.one_call))

pub returns-then-mark-gt-MAX_NUMBER-clause-reads : goal.returns-then-mark-gt-MAX_NUMBER-clause-reads
returns-then-mark-gt-MAX_NUMBER-clause-reads g c = reads_then c.in_ok-sizes.ensures.reads (read_alone c.in_ok-mark.ensures.one_call)

pub returns-clause-reads : goal.returns-clause-reads
returns-clause-reads g c =
    reads_then (reads_then (reads_then (reads_then c.in_ok-sizes.ensures.reads (read_alone c.in_ok-mark.ensures.one_call)) c.in_ok-log.ensures.reads) c.in_ok-words.ensures.reads) c.in_ok-number.ensures.reads
