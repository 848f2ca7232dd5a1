-- Commands that read no files, and run no request behind the opening of their image.
use Rattle.std.proofs.Common.{◌≡◌, false, [], None, refl}
use Rattle.pmem_trait.specs.declared.medium.Medium.{Ghosts}
use Rattle.pmem_trait.specs.Sights.{Sight}
use Rattle.dude_io.specs.Files.{FilesSight}
use Rattle.back_store.specs.BackView.{medium_of}
use Rattle.dude_recover.specs.declared.opened.Opened.{Opened}
use Rattle.dude_recover.specs.Opened.{IsOpened}
use Rattle.command_edges.specs.Command.{Meaning}
use Rattle.command_edges.specs.declared.fault.Fault.{Fault}
use Rattle.dude_engine.specs.Opening.{Opening}
use Rattle.command_openings.specs.Opens.{OpensOwn}
use Rattle.dude_program.specs.declared.shown.Shown.{Shown}
use Rattle.dude_program.specs.declared.shown.Shown.TheVariants.{Number, Tables}
use Rattle.dude_program.specs.Causes.{MustRefuse}
use Rattle.dude_program.specs.Opening.{RequestsAre, command_files, only_reads}
use Rattle.dude_program.specs.Show.{meaning_of_shown}
use Rattle.dude_program.proofs.Came.{came_idle, opened_old}
use Rattle.dude_program.proofs.EachCommand.{dump_opens, is_opening_of, opening_of, recover_opens}
use Rattle.dude_program.proofs.Endings.{Came}
use Rattle.dude_program.proofs.FilesRead.{no_files}
use Rattle.dude_program.proofs.Stops.{IsOpener}

-- what an opened image gives such a command, before its output
pub came_opened : {M : Type 0} {ghosts : Ghosts M} (own : Meaning) (sight : M → Sight) (medium : M) (o : Opened M ghosts) (opened : IsOpened o) → OpensOwn sight medium o → (f : FilesSight)
    → ((s : Sight) → IsOpener own s) → only_reads own ≡ false → command_files own ≡ [] → RequestsAre own f (opening_of o opened) [] → ((f : FilesSight) (opening : Opening) (why : Fault) → MustRefuse own f opening why → ⊥)
    → Came own f f (opening_of o opened) [] o.number None (sight medium) (sight (medium_of o.back))
came_opened own sight medium o opened is_open f opener writes files are passes =
    let at = is_open (opening_of o opened) (is_opening_of o opened) in
    came_idle (no_files own f files) (opened_old (opener (sight medium)) writes at.0 at.1) are (λ opens why refuses. passes f (opening_of o opened) why refuses)

-- ---- those that print of an opened image

pub shown_opens : (shown : Shown) (s : Sight) → IsOpener (meaning_of_shown shown) s
shown_opens Number s = recover_opens s
shown_opens Tables s = dump_opens s

pub shown_writes : (shown : Shown) → only_reads (meaning_of_shown shown) ≡ false
shown_writes Number = refl
shown_writes Tables = refl

pub shown_files : (shown : Shown) → command_files (meaning_of_shown shown) ≡ []
shown_files Number = refl
shown_files Tables = refl
