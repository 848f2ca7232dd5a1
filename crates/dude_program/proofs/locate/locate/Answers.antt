use Rattle.std.proofs.Common.{◌*◌, ◌∙◌, refl, sym, ap, subst}
use Rattle.dude_base.specs.declared.sizes.Sizes.{Sizes}
use Rattle.tatp_layout.specs.StandsFor.{IsLawful, StandsFor}
use Rattle.tatp_core.specs.Located.{Locates}
use Rattle.command_edges.specs.Command.{Meaning.LocateRange}
use Rattle.dude_program.proofs.FilesRead.{no_files}
use Rattle.dude_program.proofs.Endings.{ends_printed, ends_untold}
use Rattle.dude_program.proofs.Stops.{ends_at_open, unless_opened}
use Rattle.dude_program.proofs.EachCommand.{locate_opens, locate_passes}
use Rattle.dude_program.proofs.IdleCommands.{came_opened}
use Rattle.dude_program.proofs.locate.locate.Goals as goal

pub find_located-requires : goal.find_located-requires
find_located-requires g c =
    let opened = c.in-Ok.ensures.opened in
    record {
      size = opened.lawful.1.size ∙ ap (λ (s : Sizes). s.pages * 64) (sym opened.layout);
      lawful = subst (λ (s : Sizes). IsLawful s c.in-Ok.opened.words.items) (sym opened.layout) opened.lawful;
      low = c.requires.low;
      high = c.requires.high;
    }

pub returns-in-Ok-find_located : goal.returns-in-Ok-find_located
returns-in-Ok-find_located g c = record {
  ends = λ f.
      let r = c.args.range in
      let o = c.in-Ok.opened in
      let opened = c.in-Ok.ensures.opened in
      let came = came_opened (LocateRange r.low r.high r.limit) g.M.Medium.sight c.args.medium o opened c.in-Ok.ensures.is_open f (locate_opens r.low r.high r.limit) refl refl refl (locate_passes r.low r.high r.limit) in
      let located = subst (Locates r.low r.high r.limit opened.lawful.0.subscribers) (sym c.deref.ensures.value) (c.in-Ok-find_located.ensures opened.lawful.0 (subst (λ (s : Sizes). StandsFor s o.words.items opened.lawful.0) (sym opened.layout) opened.lawful.1)) in
      rw (c.new-in-Ok-find_located.ensures.medium, c.new-in-Ok-find_located.ensures.done, c.new-in-Ok-find_located.ensures.fault, c.into_medium.ensures, c.new.ensures.items)
      (ends_printed _ _ _ came (λ whole. ((c.deref.result.now, located, refl), tt)) c.print_found-fault.ensures);
}

pub returns-in-Err-find_located : goal.returns-in-Err-find_located
returns-in-Err-find_located g c = record {
  ends = λ f.
      let r = c.args.range in
      let came =
      came_opened (LocateRange r.low r.high r.limit) g.M.Medium.sight c.args.medium c.in-Ok.opened c.in-Ok.ensures.opened c.in-Ok.ensures.is_open f (locate_opens r.low r.high r.limit) refl refl refl (locate_passes r.low r.high r.limit) in
      rw (c.refused-in-Err-find_located.ensures.medium, c.refused-in-Err-find_located.ensures.done, c.refused-in-Err-find_located.ensures.fault, c.into_medium-in-Err-find_located.ensures)
      (ends_untold came);
}

pub returns-in-Err : goal.returns-in-Err
returns-in-Err g c = record {
  ends = λ f.
      let r = c.args.range in
      rw (c.refused.ensures.medium, c.refused.ensures.done, c.refused.ensures.fault)
      (ends_at_open (locate_opens r.low r.high r.limit _) (no_files (LocateRange r.low r.high r.limit) f refl) c.in-Err.ensures.prefix (unless_opened (locate_opens r.low r.high r.limit _) refl c.in-Err.ensures.only_read) c.in-Err.fault c.in-Err.ensures.fault);
}
