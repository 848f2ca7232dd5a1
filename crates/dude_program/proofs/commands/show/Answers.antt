use Rattle.std.proofs.Common.{refl}
use Rattle.command_edges.specs.Command.{Meaning.RecoverImage, Meaning.DumpTables}
use Rattle.dude_program.specs.Show.{meaning_of_shown}
use Rattle.dude_program.proofs.FilesRead.{no_files}
use Rattle.dude_program.proofs.Endings.{ends_printed}
use Rattle.dude_program.proofs.Stops.{ends_at_open, unless_opened}
use Rattle.dude_program.proofs.EachCommand.{dump_opens, dump_passes, idle_prints, recover_opens, recover_passes}
use Rattle.dude_program.proofs.IdleCommands.{came_opened, shown_files, shown_opens, shown_writes}
use Rattle.dude_program.proofs.commands.show.Goals as goal

pub returns-in-Number : goal.returns-in-Number
returns-in-Number g c = record {
  ends = λ f.
      let came = came_opened RecoverImage g.M.Medium.sight c.args.medium c.in-Ok.opened c.in-Ok.ensures.opened c.in-Ok.ensures.is_open f recover_opens refl refl refl recover_passes in
      rw (c.in-Number.is, c.end_with_lines.ensures.work.medium, c.end_with_lines.ensures.work.done, c.idle.ensures.medium, c.idle.ensures.done)
      (ends_printed _ _ _ came (λ whole. (refl, tt)) (idle_prints _ _ _ c.idle.ensures.done c.idle.ensures.last c.idle.ensures.fault c.end_with_lines.ensures.printed));
}

pub returns-in-Tables : goal.returns-in-Tables
returns-in-Tables g c = record {
  ends = λ f.
      let came = came_opened DumpTables g.M.Medium.sight c.args.medium c.in-Ok.opened c.in-Ok.ensures.opened c.in-Ok.ensures.is_open f dump_opens refl refl refl dump_passes in
      rw (c.in-Tables.is, c.new-in-Tables.ensures.medium, c.new-in-Tables.ensures.done, c.new-in-Tables.ensures.fault, c.into_medium.ensures, c.new.ensures.items)
      (ends_printed _ _ _ came (λ whole. (refl, tt)) (c.print_dump-fault.ensures c.in-Ok.ensures.opened.lawful.0 c.in-Ok.ensures.opened.lawful.1));
}

pub returns-in-Err : goal.returns-in-Err
returns-in-Err g c = record {
  ends = λ f.
      let shown = c.args.shown in
      rw (c.refused.ensures.medium, c.refused.ensures.done, c.refused.ensures.fault)
      (ends_at_open (shown_opens shown _) (no_files (meaning_of_shown shown) f (shown_files shown)) c.in-Err.ensures.prefix (unless_opened (shown_opens shown _) (shown_writes shown) c.in-Err.ensures.only_read) c.in-Err.fault c.in-Err.ensures.fault);
}
