use Rattle.std.proofs.Common.{◌≡◌, arith, length, refl, inr}
use Rattle.back_store.specs.BackView.{medium_of}
use Rattle.command_edges.specs.Command.{Meaning.DriveLoad}
use Rattle.tatp_model.specs.Files.{requests_in}
use Rattle.tatp_text.specs.Load.{mixed}
use Rattle.dude_program.specs.Opening.{load_of}
use Rattle.dude_program.proofs.FilesRead.{no_files}
use Rattle.dude_program.proofs.Endings.{ends_faulted, ends_printed}
use Rattle.dude_program.proofs.Stops.{ends_at_open, unless_opened}
use Rattle.dude_program.proofs.Crashes.{left_opened}
use Rattle.dude_program.proofs.Came.{opened_old, came_ran, came_refused}
use Rattle.dude_program.proofs.EachCommand.{drive_came, drive_opens, drive_passes, held_as_opened, is_opening_of, opening_of}
use Rattle.dude_program.proofs.ExtraFile.{may_run_lists, runs_over_lists}
use Rattle.dude_program.proofs.Works.{mixed_length, ran_on_threads}
use Rattle.dude_program.proofs.commands.drive.Goals as goal

pub returns-in-Err : goal.returns-in-Err
returns-in-Err g c = record {
  ends = λ f.
      let load = c.args.load in
      rw (c.refused.ensures.medium, c.refused.ensures.done, c.refused.ensures.fault)
      (ends_at_open (drive_opens load.seed load.count load.files _) (no_files (DriveLoad load.seed load.count load.files) f refl) c.in-Err.ensures.prefix (unless_opened (drive_opens load.seed load.count load.files _) refl c.in-Err.ensures.only_read) c.in-Err.fault c.in-Err.ensures.fault);
}

pub threaded-ran-requires-clause-may : goal.threaded-ran-requires-clause-may
threaded-ran-requires-clause-may g c κs inside =
    let load = c.args.load in
    let o = c.in-Ok.opened in
    let opened = c.in-Ok.ensures.opened in
    let lists = c.in-Ok-make_load.lists.items in
    let made = c.in-Ok-make_load.ensures.made in
    let long : length lists ≡ load.files = mixed_length (λ file. mixed load.seed file load.files o.sizes.subscribers load.count) lists load.files made.requests in
    rw c.deref.ensures.value (may_run_lists o c.over-run.result lists c.with_turner-files.result.items c.with_turner-files.ensures (record {
      held = held_as_opened o opened (g.M.Medium.sight c.args.medium) (c.in-Ok.ensures.is_open (opening_of o opened) (is_opening_of o opened)).1;
      run_within = c.over-run.ensures.within;
      some = omega (arith, long, c.requires.files.0);
      rings = made.rings;
      in_range = made.in_range;
      numbers = made.numbers;
    }))

pub returns-in-Ok-make_load : goal.returns-in-Ok-make_load
returns-in-Ok-make_load g c = record {
  ends = λ f.
      let load = c.args.load in
      let lists = c.in-Ok-make_load.lists.items in
      let o = c.in-Ok.opened in
      let opened = c.in-Ok.ensures.opened in
      let opening = opening_of o opened in
      let is_open = c.in-Ok.ensures.is_open opening (is_opening_of o opened) in
      let made = c.in-Ok-make_load.ensures.made in
      let are : requests_in lists ≡ load_of o.sizes.subscribers load.seed load.count load.files = made.requests in
      let worked = c.from_ran.ensures in
      let runs = runs_over_lists o c.over-run.result o.sizes.rings lists c.deref.result.now c.threaded-ran.result (rw c.deref.ensures.value c.with_turner-files.ensures) c.threaded-ran.ensures in
      let ran = ran_on_threads o opened c.over-run.result lists c.threaded-ran.result runs c.from_ran.result worked.done worked.medium worked.last worked.fault in
      let came = came_ran (no_files (DriveLoad load.seed load.count load.files) f refl) (opened_old (drive_opens load.seed load.count load.files _) refl is_open.0 is_open.1)
      refl (λ known. inr c.over-run.ensures.frames) (λ order n any. tt) refl are
      (λ opens why refuses. drive_passes load.seed load.count load.files f opening (requests_in lists) are made.files made.subscribers made.numbers why refuses)
      c.from_ran.result.fault (ran opening (is_opening_of o opened)) in
      rw (c.end_with_summary.ensures.work.medium, c.end_with_summary.ensures.work.done) (ends_printed _ _ _ came (λ whole. (refl, tt)) c.end_with_summary.ensures.printed);
}

pub returns-in-Err-make_load : goal.returns-in-Err-make_load
returns-in-Err-make_load g c = record {
  ends = λ f.
      let load = c.args.load in
      let o = c.in-Ok.opened in
      let opened = c.in-Ok.ensures.opened in
      let opening = opening_of o opened in
      let is_open = c.in-Ok.ensures.is_open opening (is_opening_of o opened) in
      let why = drive_came load.seed load.count load.files f opening (load_of o.sizes.subscribers load.seed load.count load.files) refl 0 (g.M.Medium.sight c.args.medium) (g.M.Medium.sight (medium_of o.back)) (left_opened _ _ _ _ is_open.1)
      c.in-Err-make_load.fault c.in-Err-make_load.ensures.err in
      let came = came_refused (no_files (DriveLoad load.seed load.count load.files) f refl) (opened_old (drive_opens load.seed load.count load.files _) refl is_open.0 is_open.1) 0 c.in-Err-make_load.fault why.1 why.0 in
      rw (c.refused-in-Err-make_load.ensures.medium, c.refused-in-Err-make_load.ensures.done, c.refused-in-Err-make_load.ensures.fault, c.into_medium.ensures) (ends_faulted c.in-Err-make_load.fault came);
}
