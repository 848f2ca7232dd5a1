use Rattle.std.proofs.Common.{◌≡◌, ◌∙◌, ◌≤◌, length, refl, sym, ap, arith, [], ◌∷◌}
use Rattle.std.specs.List.{AllZip}
use Rattle.std.proofs.lemmas.Slice.Zip.{AllZip-long}
use Rattle.dude_base.specs.declared.sizes.Sizes.{Sizes}
use Rattle.command_edges.specs.Command.{Meaning.FreshRun}
use Rattle.tatp_model.specs.Files.{requests_in}
use Rattle.command_edges.specs.Files.{OfFile}
use Rattle.command_openings.specs.Openings.{new_opening}
use Rattle.dude_engine.specs.Requests.{request_count}
use Rattle.dude_program.proofs.FilesRead.{as_many_lists, fresh_files}
use Rattle.dude_program.proofs.Endings.{ends_printed}
use Rattle.dude_program.proofs.Stops.{ends_at_files, ends_at_format, prefix_at_rest}
use Rattle.dude_program.proofs.Came.{opened_new, came_ran}
use Rattle.dude_program.proofs.Crashes.{reachable}
use Rattle.dude_program.proofs.EachCommand.{fresh_makes}
use Rattle.dude_program.proofs.Works.{one_count}
use Rattle.dude_program.proofs.commands.fresh.Goals as goal

pub returns-in-Err : goal.returns-in-Err
returns-in-Err g c = record {
  ends =
      rw (c.refused.ensures.medium, c.refused.ensures.done, c.refused.ensures.fault)
      (ends_at_files (FreshRun c.args.subscribers c.args.file.now) (prefix_at_rest (FreshRun c.args.subscribers c.args.file.now) (g.M.Medium.sight c.args.medium) c.requires.settled)
      c.in-Err.fault c.in-Err.ensures.reads c.in-Err.ensures.cause c.in-Err.ensures.missing);
}

pub work-requires-clause-rings : goal.work-requires-clause-rings
work-requires-clause-rings g c =
    let one : length c.in-Ok-read_files.lists.items ≡ 1 = as_many_lists (g.F.Files.sight c.args.files.now) (c.args.file.now ∷ []) c.in-Ok-read_files.lists.items c.in-Ok-read_files.ensures.read in
    let rings : 1 ≡ c.in-Ok-make_and_open.opened.sizes.rings = sym (ap (λ (z : Sizes). z.rings) c.in-Ok.ensures.ok.0) ∙ ap (λ (z : Sizes). z.rings) c.in-Ok-make_and_open.ensures.opening.sizes in
    rw c.deref.ensures.value (omega (arith, one, rings))

pub work-requires-clause-numbers : goal.work-requires-clause-numbers
work-requires-clause-numbers g c =
    let one : length (requests_in c.in-Ok-read_files.lists.items) ≡ 1 = AllZip-long (OfFile (g.F.Files.sight c.args.files.now)) (c.args.file.now ∷ []) (requests_in c.in-Ok-read_files.lists.items) c.in-Ok-read_files.ensures.read in
    let few : request_count (requests_in c.in-Ok-read_files.lists.items) ≤ 100000 = one_count (requests_in c.in-Ok-read_files.lists.items) (omega (arith, one)) c.in-Ok-read_files.ensures.few in
    let number : 0 ≡ c.in-Ok-make_and_open.opened.number = c.in-Ok-make_and_open.ensures.opening.number in
    rw c.deref.ensures.value (omega (arith, few, number))

pub returns-in-Ok-make_and_open : goal.returns-in-Ok-make_and_open
returns-in-Ok-make_and_open g c = record {
  ends =
      let e = c.in-Ok-make_and_open.ensures in
      let maker = fresh_makes c.args.subscribers c.args.file.now c.in-Ok.sizes (g.M.Medium.sight c.args.medium) c.in-Ok.ensures.ok.0 in
      let read : AllZip (OfFile (g.F.Files.sight c.args.files.now)) (c.args.file.now ∷ []) (requests_in c.deref.result.now) = rw c.deref.ensures.value c.in-Ok-read_files.ensures.read in
      let came = came_ran (fresh_files c.args.subscribers c.args.file.now (requests_in c.deref.result.now) read c.in-Ok-read_files.ensures.reads) (opened_new maker e.fits e.is_open)
      refl (λ known. tt) (reachable (FreshRun c.args.subscribers c.args.file.now) (new_opening c.in-Ok.sizes)) refl read
      (λ opens. let no : ⊥ = cc in absurd no) c.work.result.fault (c.work.ensures _ e.opening) in
      rw (c.end_with_lines.ensures.work.medium, c.end_with_lines.ensures.work.done) (ends_printed _ _ _ came (λ whole. (refl, tt)) c.end_with_lines.ensures.printed);
}

pub returns : goal.returns
returns g c = record {
  ends =
      let maker = fresh_makes c.args.subscribers c.args.file.now c.in-Ok.sizes (g.M.Medium.sight c.args.medium) c.in-Ok.ensures.ok.0 in
      rw (c.refused-in-Err-make_and_open.ensures.medium, c.refused-in-Err-make_and_open.ensures.done, c.refused-in-Err-make_and_open.ensures.fault)
      (ends_at_format maker (fresh_files c.args.subscribers c.args.file.now (requests_in c.in-Ok-read_files.lists.items) c.in-Ok-read_files.ensures.read c.in-Ok-read_files.ensures.reads)
      c.in-Err-make_and_open.ensures.prefix c.in-Err-make_and_open.fault c.in-Err-make_and_open.ensures.fault);
}

pub work-requires-clause-in_range : goal.work-requires-clause-in_range
work-requires-clause-in_range g c = rw c.deref.ensures.value c.in-Ok-read_files.ensures.in_range
