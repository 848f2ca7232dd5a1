use Rattle.std.proofs.Common.{map}
use Rattle.std.specs.Rc.{rc_str_bytes}
use Rattle.command_edges.specs.Command.{Meaning.AuditRun}
use Rattle.command_openings.proofs.ReadOnly.{read_partly}
use Rattle.dude_program.proofs.Stops.{ends_at_files, ends_at_open, prefix_at_rest}
use Rattle.dude_program.proofs.EachCommand.{audit_opens}
use Rattle.dude_program.proofs.Audits.{audit_files_read, audited_no, audited_yes}
use Rattle.dude_program.proofs.audit.audit.Goals as goal

pub returns-in-Err : goal.returns-in-Err
returns-in-Err g c = record {
  ends =
      let meaning = AuditRun c.args.printed.now (map rc_str_bytes c.args.names.now) in
      rw (c.refused.ensures.medium, c.refused.ensures.done, c.refused.ensures.fault)
      (ends_at_files meaning (prefix_at_rest meaning (g.M.Medium.sight c.args.medium) c.requires.settled) c.in-Err.fault c.in-Err.ensures.reads c.in-Err.ensures.cause c.in-Err.ensures.missing);
}

pub returns-in-Ok-Yes : goal.returns-in-Ok-Yes
returns-in-Ok-Yes g c = record {
  ends =
      let ended = c.new-in-Ok-Yes.ensures in
      let answer = rw c.in-Ok-Yes.field-0-is at c.in-Ok-Yes.ensures.answer in
      rw (ended.medium, ended.done, ended.fault, c.new.ensures.items)
      (audited_yes c.args.printed.now (map rc_str_bytes c.args.names.now) (g.K.Sink.sight c.args.out.now) c.in-Ok.run' c.in-Ok.ensures.read c.in-Ok.ensures.reads c.requires.settled c.in-Ok-Yes.ensures.reads answer c.print_yes.result c.print_yes.ensures);
}

pub returns-in-Ok-No : goal.returns-in-Ok-No
returns-in-Ok-No g c = record {
  ends =
      let ended = c.refused-in-Ok-No.ensures in
      let answer = rw c.in-Ok-No.field-0-is at c.in-Ok-No.ensures.answer in
      rw (ended.medium, ended.done, ended.fault)
      (audited_no c.args.printed.now (map rc_str_bytes c.args.names.now) (g.K.Sink.sight c.args.out.now) c.in-Ok.run' c.in-Ok.ensures.read c.in-Ok.ensures.reads c.requires.settled c.in-Ok-No.ensures.reads c.in-Ok-No.line answer);
}

pub returns : goal.returns
returns g c = record {
  ends =
      let printed = c.args.printed.now in
      let names = map rc_str_bytes c.args.names.now in
      let run = c.in-Ok.run' in
      let why = c.in-Err-answer_on.ensures.reads in
      rw (c.refused-in-Err-answer_on.ensures.medium, c.refused-in-Err-answer_on.ensures.done, c.refused-in-Err-answer_on.ensures.fault)
      (ends_at_open (audit_opens printed names (g.M.Medium.sight c.args.medium)) (audit_files_read printed names run c.in-Ok.ensures.read c.in-Ok.ensures.reads)
      (λ other starts. read_partly c.requires.settled why.1.1 other starts) (λ must. why.1) c.in-Err-answer_on.fault why.0);
}
