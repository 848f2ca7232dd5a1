use Rattle.std.proofs.Common.{◌∙◌, refl, sym}
use Rattle.command_edges.specs.Command.{Meaning.FormatImage}
use Rattle.dude_program.proofs.FilesRead.{no_files}
use Rattle.dude_program.proofs.Endings.{ends_printed}
use Rattle.dude_program.proofs.Stops.{ends_at_format}
use Rattle.dude_program.proofs.Came.{opened_new, came_idle}
use Rattle.dude_program.proofs.EachCommand.{format_makes, idle_prints}
use Rattle.dude_program.proofs.commands.format.Goals as goal

pub returns-in-Ok-make_and_open : goal.returns-in-Ok-make_and_open
returns-in-Ok-make_and_open g c = record {
  ends = λ f.
      let n = c.args.counts in
      let e = c.in-Ok-make_and_open.ensures in
      let maker = format_makes n.indexed n.subscribers n.calls n.rings n.cells c.in-Ok.sizes (g.M.Medium.sight c.args.medium) c.in-Ok.ensures.ok.0 in
      let came = came_idle (no_files (FormatImage n.indexed n.subscribers n.calls n.rings n.cells) f refl) (opened_new maker e.fits e.is_open) refl (λ opens. let no : ⊥ = cc in absurd no) in
      rw (c.end_with_lines.ensures.work.medium, c.end_with_lines.ensures.work.done, c.idle.ensures.medium, c.idle.ensures.done)
      (ends_printed _ _ _ came (λ whole. (refl, tt)) (idle_prints _ _ _ c.idle.ensures.done (c.idle.ensures.last ∙ sym e.opening.number) c.idle.ensures.fault c.end_with_lines.ensures.printed));
}

pub returns-in-Err : goal.returns-in-Err
returns-in-Err g c = record {
  ends = λ f.
      let n = c.args.counts in
      let maker = format_makes n.indexed n.subscribers n.calls n.rings n.cells c.in-Ok.sizes (g.M.Medium.sight c.args.medium) c.in-Ok.ensures.ok.0 in
      rw (c.refused.ensures.medium, c.refused.ensures.done, c.refused.ensures.fault)
      (ends_at_format maker (no_files (FormatImage n.indexed n.subscribers n.calls n.rings n.cells) f refl) c.in-Err.ensures.prefix c.in-Err.fault c.in-Err.ensures.fault);
}
