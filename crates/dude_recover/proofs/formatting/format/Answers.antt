use Rattle.std.proofs.Common.{ℕ, Err, Vec, Global}
use Rattle.std.specs.Bool.{⊤}
use Rattle.dude_base.specs.declared.sizes.Sizes.{Sizes}
use Rattle.pmem_trait.specs.Sights.{Sight}
use Rattle.dude_recover.specs.declared.format_fault.FormatFault.{FormatFault}
use Rattle.dude_recover.specs.declared.format_fault.FormatFault.TheVariants.{Size, Small, TooFew, Device, NoMemory}
use Rattle.dude_recover.specs.Causes.{FormatCallsMade}
use Rattle.dude_recover.proofs.formatting.format.Goals.{in-Ok, in-Err}
use Rattle.dude_recover.proofs.formatting.format.Goals as goal

-- the calls behind a fault are the same, whatever the other answer is
same_calls : (X Y : Type 0) (sizes : Sizes) (fault : FormatFault) (s t : Sight) → FormatCallsMade {X = X} sizes (Err fault) s t → FormatCallsMade {X = Y} sizes (Err fault) s t
same_calls X Y sizes (Size field) s t made = made
same_calls X Y sizes (Small has needs) s t made = made
same_calls X Y sizes (TooFew rows calls) s t made = made
same_calls X Y sizes Device s t made = made
same_calls X Y sizes NoMemory s t made = made

pub returns-clause-made : goal.returns-clause-made
returns-clause-made g c = elim c.match-make_image.branch [
  | in-Ok w ↦ rw w.result-is (record {
    fits = w.in-Ok.ensures.fits;
    calls = w.in-Ok.ensures.calls;
    len = w.in-Ok.ensures.len;
    images = w.in-Ok.ensures.images;
    rests = λ visible. (_, w.in-Ok.ensures.rests.image visible);
    settled = w.in-Ok.ensures.rests.settled;
  })
  | in-Err w ↦ rw w.result-is tt
]

pub returns-clause-refused : goal.returns-clause-refused
returns-clause-refused g c = elim c.match-make_image.branch [
  | in-Ok w ↦ rw w.result-is tt
  | in-Err w ↦ rw w.result-is (record {
    cause = w.in-Err.ensures.cause;
    calls = same_calls (Vec ℕ Global) ⊤ c.args.sizes.now w.in-Err.fault _ _ w.in-Err.ensures.calls;
    len = w.in-Err.ensures.len;
    images = w.in-Err.ensures.images;
  })
]
