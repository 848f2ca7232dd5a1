use Rattle.std.proofs.Common.{sym, subst}
use Rattle.back_store.specs.Back.{BackState}
use Rattle.dude_follow.specs.Applying.{IsAtRest}
use Rattle.dude_follow.proofs.TakenPackets.{rests_idle}
use Rattle.dude_follow.proofs.follower.Follower.new.Goals as goal

pub new-requires-in-Ok : goal.new-requires-in-Ok
new-requires-in-Ok g c =
    let is = c.requires.opened in
    subst (λ (v : BackState). IsAtRest v) (sym is.idle) (rests_idle c.args.opened.sizes c.args.opened.number is.accepted is.small)
