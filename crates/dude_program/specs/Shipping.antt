-- A run whose bundles are kept, as the command sees it.
use Rattle.pmem_trait.specs.declared.medium.Medium.{Ghosts}
use Rattle.dude_recover.specs.declared.opened.Opened.{Opened}
use Rattle.dude_engine.specs.Opening.{Opening}
use Rattle.dude_engine.specs.Plain.{IsOpeningOf}
use Rattle.dude_engine.specs.Shipping.{Ships}
use Rattle.dude_program.specs.declared.shipping.Shipping.{Shipping}

-- the bundles lead from the opened image, as those of its run
abbrev pub ShipsOpened : {M : Type 0} {ghosts : Ghosts M} → Opened M ghosts → Shipping M → Type 0
ShipsOpened o shipping = (opening : Opening) → IsOpeningOf o opening
    → Ships opening o.words.items shipping.worked.done.items shipping.packets.items
