use Rattle.std.proofs.Common.{◌∙◌, ◌≡◌}
use Rattle.std.specs.Prelude.{◌↔◌}
use Rattle.dude_audit.proofs.Files.{of_run, lines_of, verdict_read, verdict_misformed, if_ok}
use Rattle.dude_audit.proofs.Law.{law}
use Rattle.dude_audit.specs.declared.verdict.Verdict.TheVariants.{Yes}
use Rattle.dude_audit.specs.Verdict.{HasVerdict}
use Rattle.dude_audit.specs.PrintedRun.{IsVerdict, IsPrintedRun}
use Rattle.tatp_model.specs.Database.{database_of}
use Rattle.tatp_model.specs.Files.{requests_in}
use Rattle.dude_audit.proofs.judge.audit.Goals as goal

pub audit_claims-requires-clause-lines : goal.audit_claims-requires-clause-lines
audit_claims-requires-clause-lines c =
    let lines = lines_of c.in_ok-blanks.blanks.items c.deref.result.now c.args.printed.now c.in_ok-line.field-0 c.in-Lines.claims c.deref-in-Lines.result.now c.in-Lines.last c.deref.ensures.value c.in_ok-line.ensures c.in-Lines.is c.deref-in-Lines.ensures.value in
    of_run (requests_in c.args.files.now) c.args.printed.now c.deref-in-Lines.result.now (lines.requests ∙ c.in_ok-blanks.ensures.requests) lines.each c.requires.in_range

pub returns : goal.returns
returns c =
    let db = database_of c.args.t.now in
    let files = requests_in c.args.files.now in
    let lines = lines_of c.in_ok-blanks.blanks.items c.deref.result.now c.args.printed.now c.in_ok-line.field-0 c.in-Lines.claims c.deref-in-Lines.result.now c.in-Lines.last c.deref.ensures.value c.in_ok-line.ensures c.in-Lines.is c.deref-in-Lines.ensures.value in
    let verdict = if_ok (HasVerdict c.args.number c.args.limit db c.args.printed.now c.deref-in-Lines.result.now c.in-Lines.last) (IsVerdict c.args.number c.args.limit db files c.args.printed.now) c.audit_claims.result
    (λ v h. verdict_read c.args.number c.args.limit db files c.args.printed.now c.in_ok-blanks.blanks.items c.deref-in-Lines.result.now c.in-Lines.last v
    c.in_ok-blanks.ensures lines h)
    c.audit_claims.ensures in
    record {
      yes = if_ok (IsVerdict c.args.number c.args.limit db files c.args.printed.now) (λ v. (v ≡ Yes) ↔ IsPrintedRun c.args.number c.args.limit db files c.args.printed.now) c.audit_claims.result
          (λ v is. law c.args.number c.args.limit db files c.args.printed.now v c.requires.in_range c.requires.in_order c.requires.room is) verdict;
      verdict = verdict;
    }

pub returns-in-Misformed : goal.returns-in-Misformed
returns-in-Misformed c =
    let db = database_of c.args.t.now in
    let files = requests_in c.args.files.now in
    let is = verdict_misformed c.args.number c.args.limit db files c.args.printed.now c.in_ok-blanks.blanks.items c.deref.result.now c.in_ok-line.field-0 c.in-Misformed.line
    c.in_ok-blanks.ensures c.deref.ensures.value c.in_ok-line.ensures c.in-Misformed.is in
    record {
      yes = law c.args.number c.args.limit db files c.args.printed.now _ c.requires.in_range c.requires.in_order c.requires.room is;
      verdict = is;
    }
