-- The law of printed runs.
use Rattle.std.proofs.Common.{◌≡◌, ℕ, List, ◌≤◌, refl, ⊎_elim, length}
use Rattle.std.specs.Prelude.{◌↔◌}
use Rattle.std.specs.List.{All}
use Rattle.tatp_model.specs.declared.request.Request.{Request}
use Rattle.tatp_model.specs.Request.{IsInRange}
use Rattle.tatp_model.specs.Database.{Database, IsInOrder}
use Rattle.dude_audit.specs.declared.verdict.Verdict.{Verdict}
use Rattle.dude_audit.specs.declared.verdict.Verdict.TheVariants.{Yes, No}
use Rattle.dude_audit.proofs.Passing.{passing}
use Rattle.dude_audit.proofs.Necessary.{passes, excluded}
use Rattle.dude_audit.specs.PrintedRun.{IsVerdict, IsPrintedRun}
use Rattle.dude_audit.proofs.Printing.{are_claims, printed_from, run_of_lines, no_miss, no_end_missed, no_surplus}

yes_so : (first limit : ℕ) (db : Database) (files : List (List Request)) (printed : List ℕ) (v : Verdict) → IsVerdict first limit db files printed v → v ≡ Yes → IsPrintedRun first limit db files printed
yes_so first limit db files printed Yes is e =
    let r = is.verdict in
    printed_from first limit db files printed is.blanks r.claims r.last r.lines
    (passing first limit db files printed r.claims r.last (are_claims files printed is.blanks r.claims r.last is.are r.lines) r.verdict)
yes_so first limit db files printed (No line) is e = cc

no_not : (first limit : ℕ) (db : Database) (files : List (List Request)) (printed : List ℕ) (v : Verdict) → All (All IsInRange) files → IsInOrder db → length db.calls ≤ limit → IsVerdict first limit db files printed v → IsPrintedRun first limit db files printed → v ≡ Yes
no_not first limit db files printed Yes ranges order room is run = refl
no_not first limit db files printed (No line) ranges order room is run =
    ⊎_elim
    (λ form. ⊎_elim (λ miss. absurd (no_miss first limit db files printed ranges order room is.blanks is.are run line miss))
    (λ other. ⊎_elim (λ miss. absurd (no_end_missed first limit db files printed ranges order room is.blanks is.are run line miss))
    (λ more. absurd (no_surplus first limit db files printed ranges order room is.blanks is.are run line more)) other) form)
    (λ r. let one = run_of_lines first limit db files printed ranges order room is.blanks is.are run r.claims r.last r.lines in
    absurd (excluded first limit db printed r.claims r.last line r.verdict (passes first limit db files printed r.claims r.last (are_claims files printed is.blanks r.claims r.last is.are r.lines) one)))
    is.verdict

pub law : (first limit : ℕ) (db : Database) (files : List (List Request)) (printed : List ℕ) (v : Verdict) → All (All IsInRange) files → IsInOrder db → length db.calls ≤ limit → IsVerdict first limit db files printed v → (v ≡ Yes) ↔ IsPrintedRun first limit db files printed
law first limit db files printed v ranges order room is = (yes_so first limit db files printed v is, no_not first limit db files printed v ranges order room is)
