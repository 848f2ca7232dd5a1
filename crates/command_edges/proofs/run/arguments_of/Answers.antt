use Rattle.std.proofs.Common.{◌≡◌, ◌∙◌, length, arith, map, drop, sym, ap}
use Rattle.std.specs.Rc.{rc_str_bytes}
use Rattle.std.proofs.lemmas.List.{length-map}
use Rattle.clap.specs.Words.{app_of, is_simple_and_free}
use Rattle.command_edges.specs.Command.{run_given, run_words}
use Rattle.command_edges.specs.Run.{as_words}
use Rattle.command_edges.proofs.RunWalk.{simple-run}
use Rattle.command_edges.proofs.RunWords.{behind-first, run-refused, run-taken, run-unformed}
use Rattle.command_edges.proofs.run.arguments_of.Goals as goal

pub matches_in-requires : goal.matches_in-requires
matches_in-requires c = ap is_simple_and_free c.in_ok-run_command.ensures ∙ simple-run

pub returns : goal.returns
returns c =
    let words = map rc_str_bytes c.args.words.now in
    let behind = behind-first rc_str_bytes c.args.words.now c.in-Some.behind.now c.in-Some.field-0-0.now c.in-Some.ensures.cases.0 in
    let given : as_words c.run_words-given.result ≡ run_words (drop 1 words) = c.run_words-given.ensures ∙ ap run_words (sym behind) in
    let same : length words ≡ length c.args.words.now = length-map c.args.words.now rc_str_bytes in
    let count = c.in-Some.ensures.cases.1 in
    run-taken (app_of c.in_ok-run_command.field-0) words (as_words c.run_words-given.result) c.in_ok-matches.field-0 c.in-Some-2.matches c.number_at.result c.number_at-2.result
    c.in_ok-run_command.ensures (omega arith) (omega arith) given (sym c.has_run_form.ensures ∙ c.if-not-has_run_form.false)
    c.in-Some-2.is c.in_ok-matches.ensures c.number_at.ensures c.number_at-2.ensures

pub returns-in_default-2 : goal.returns-in_default-2
returns-in_default-2 c =
    let words = map rc_str_bytes c.args.words.now in
    let behind = behind-first rc_str_bytes c.args.words.now c.in-Some.behind.now c.in-Some.field-0-0.now c.in-Some.ensures.cases.0 in
    let given : as_words c.run_words-given.result ≡ run_words (drop 1 words) = c.run_words-given.ensures ∙ ap run_words (sym behind) in
    let same : length words ≡ length c.args.words.now = length-map c.args.words.now rc_str_bytes in
    let count = c.in-Some.ensures.cases.1 in
    sym (run-refused (app_of c.in_ok-run_command.field-0) words (as_words c.run_words-given.result) c.in_ok-matches.field-0
    c.in_ok-run_command.ensures (omega arith) (omega arith) given (sym c.has_run_form.ensures ∙ c.if-not-has_run_form.false)
    c.in_default-2.is c.in_ok-matches.ensures)

pub returns-then-not-has_run_form : goal.returns-then-not-has_run_form
returns-then-not-has_run_form c =
    let words = map rc_str_bytes c.args.words.now in
    let behind = behind-first rc_str_bytes c.args.words.now c.in-Some.behind.now c.in-Some.field-0-0.now c.in-Some.ensures.cases.0 in
    let given : as_words c.run_words-given.result ≡ run_words (drop 1 words) = c.run_words-given.ensures ∙ ap run_words (sym behind) in
    sym (run-unformed (as_words c.run_words-given.result) (sym c.has_run_form.ensures ∙ c.if-not-has_run_form.true)) ∙ ap run_given given
