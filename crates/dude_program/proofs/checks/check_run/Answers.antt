use Rattle.std.proofs.Common.{length}
use Rattle.command_edges.specs.Command.{Meaning.RunFiles}
use Rattle.tatp_model.specs.Files.{requests_in}
use Rattle.command_openings.proofs.Results.{err_of, if_err}
use Rattle.dude_program.proofs.EachCommand.{refuses_frames, refuses_numbers}
use Rattle.dude_program.proofs.checks.check_run.Goals as goal

pub returns-in-Err-clause-err : goal.returns-in-Err-clause-err
returns-in-Err-clause-err g c locks names = refuses_frames (RunFiles c.args.frames locks names) (length c.args.files.now) c.args.opened.now.sizes c.args.opened.now.number (requests_in c.args.files.now) c.in-Err.fault c.in_ok-check_rings.ensures.ok (c.in-Err.ensures.err locks names)

pub returns-clause-err : goal.returns-clause-err
returns-clause-err g c = if_err c.check_numbers.result (λ fault is locks names.
    refuses_numbers (RunFiles c.args.frames locks names) (length c.args.files.now) c.args.opened.now.sizes c.args.opened.now.number (requests_in c.args.files.now) fault c.in_ok-check_rings.ensures.ok (c.in_default.ensures.ok locks names) (err_of _ is c.check_numbers.ensures.err))
