use Rattle.std.proofs.Common.{ℕ, true, inr, sym, subst, ◌∙◌, Vec, Global}
use Rattle.command_edges.specs.declared.fault.Fault.TheVariants.{Memory}
use Rattle.command_openings.specs.Faults.{HasFormatFault}
use Rattle.command_openings.specs.Opens.{OpensPartly}
use Rattle.command_openings.specs.Openings.{new_opening}
use Rattle.command_openings.proofs.ImageOpened.{partly_made, format_fault, made_opens_all, made_opening}
use Rattle.command_openings.proofs.made.make_and_open.Goals as goal

pub returns-in-Err-clause-prefix : goal.returns-in-Err-clause-prefix
returns-in-Err-clause-prefix g c = partly_made c.args.sizes.now _ _ c.in-Err.ensures.images

pub returns-in-Err-clause-fault : goal.returns-in-Err-clause-fault
returns-in-Err-clause-fault g c = format_fault (Vec ℕ Global) c.in-Err.fault _ c.args.sizes.now _ _ c.in-Err.ensures.cause c.in-Err.ensures.calls c.fault_of.ensures

pub returns-in-Ok-new-clause-opening : goal.returns-in-Ok-new-clause-opening
returns-in-Ok-new-clause-opening g c = made_opening c.in-Ok-new.opened c.args.sizes.now _ (c.in-Ok-new.ensures.parts.0 ∙ c.in-Ok.ensures.ok.0) c.in-Ok-new.ensures.parts.1 c.in-Ok-new.ensures.parts.2 c.in-Ok-make_image.ensures.home.stands

pub returns-in-Ok-new-clause-is_open : goal.returns-in-Ok-new-clause-is_open
returns-in-Ok-new-clause-is_open g c =
    let sizes = c.in-Ok.ensures.ok.0 in
    rw c.in-Ok-new.ensures.medium (made_opens_all c.in-Ok-new.opened c.args.sizes.now _ _ _ c.in-Ok-new.ensures.opened
    (made_opening c.in-Ok-new.opened c.args.sizes.now _ (c.in-Ok-new.ensures.parts.0 ∙ sizes) c.in-Ok-new.ensures.parts.1 c.in-Ok-new.ensures.parts.2 c.in-Ok-make_image.ensures.home.stands)
    c.in-Ok-new.ensures.parts.2 c.in-Ok-make_image.ensures.images c.in-Ok-make_image.ensures.rests.image (rw (sym sizes) c.in-Ok-new.ensures.holds)
    c.in-Ok-make_image.ensures.calls)

pub returns-in-Err-new-clause-prefix : goal.returns-in-Err-new-clause-prefix
returns-in-Err-new-clause-prefix g c =
    subst (λ m. OpensPartly true (new_opening c.args.sizes.now) (g.M.Medium.sight c.args.medium) (g.M.Medium.sight m)) (sym c.in-Err-new.ensures.medium)
    (partly_made c.args.sizes.now _ _ c.in-Ok-make_image.ensures.images)

pub returns-in-Err-new-clause-fault : goal.returns-in-Err-new-clause-fault
returns-in-Err-new-clause-fault g c =
    subst (λ m. HasFormatFault c.args.sizes.now (g.M.Medium.sight c.args.medium) (g.M.Medium.sight m) Memory) (sym c.in-Err-new.ensures.medium)
    (c.in-Ok-make_image.ensures.fits, inr c.in-Ok-make_image.ensures.calls)
