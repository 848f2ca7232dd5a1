use Rattle.std.proofs.Common.{map, sym}
use Rattle.std.specs.Rc.{rc_str_bytes}
use Rattle.command_edges.specs.Command.{meaning_of_command}
use Rattle.dude_program.proofs.ByWords.{words_meant, words_refused, words_unread}
use Rattle.dude_program.proofs.top.dude_watched.Goals as goal

pub returns-in-Ok-Some-clause-ends : goal.returns-in-Ok-Some-clause-ends
returns-in-Ok-Some-clause-ends g c =
    let means = rw c.in-Ok-Some.field-0-is at c.in-Ok-Some.ensures.meaning in
    words_meant (map rc_str_bytes c.args.words.now) (meaning_of_command c.in-Ok-Some.command) (sym means) c.carry_out.ensures.ends c.carry_out.ensures.own

pub returns-in-Ok-None-clause-ends : goal.returns-in-Ok-None-clause-ends
returns-in-Ok-None-clause-ends g c =
    let means = rw c.in-Ok-None.field-0-is at c.in-Ok-None.ensures.meaning in
    rw (c.refused.ensures.medium, c.refused.ensures.done, c.refused.ensures.fault)
    (words_refused (map rc_str_bytes c.args.words.now) (g.M.Medium.sight c.args.medium) (g.F.Files.sight c.args.files.now) (g.K.Sink.sight c.args.out.now) (sym means))

pub returns-in-Err-clause-ends : goal.returns-in-Err-clause-ends
returns-in-Err-clause-ends g c =
    rw (c.refused-in-Err.ensures.medium, c.refused-in-Err.ensures.done, c.refused-in-Err.ensures.fault)
    (words_unread (map rc_str_bytes c.args.words.now) (g.M.Medium.sight c.args.medium) (g.F.Files.sight c.args.files.now) (g.K.Sink.sight c.args.out.now) c.requires.settled)
