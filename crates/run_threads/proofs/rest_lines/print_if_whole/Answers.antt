use Rattle.std.proofs.Common.{◌≡◌, length, inl, refl, ⊎_elim}
use Rattle.dude_engine.specs.declared.ran.RanEnd.TheVariants.{Device, NoMemory}
use Rattle.run_threads.proofs.StreamedRun.{cut_short}
use Rattle.run_threads.proofs.rest_lines.print_if_whole.Goals as goal

pub returns-in-NoMemory : goal.returns-in-NoMemory
returns-in-NoMemory g c =
    let ran = c.args.ran in let printed = c.args.printed.now in let t = g.K.Sink.sight c.args.out.now in record {
      same = record { done = refl; medium = refl; last = refl; end = inl refl };
      printed = λ files s all h.
          cut_short c.law_of_streams.ensures.stopped ran.end (λ whole. ⊎_elim (λ (e : ran.end ≡ NoMemory). let no : ⊥ = cc in no) (λ (e : ran.end ≡ Device). let no : ⊥ = cc in no) c.in-NoMemory.is)
          files (length printed) ran.done.items printed ran.last s t all h;
    }
