use Rattle.std.proofs.Common.{◌≡◌, ◌≢◌, ◌+◌, ◌<◌, ◌≤◌, ◌++◌, ◌∷◌, [], length, refl, inl, inr}
use Rattle.std.specs.List.{Contains}
use Rattle.dude_base.specs.Records.{first_of}
use Rattle.dude_follow.specs.declared.taken.Taken.TheVariants.{Dropped, Kept, Old, Strange}
use Rattle.dude_follow.specs.Follower.{follower_room, follower_state}
use Rattle.dude_follow.specs.Taking.{FollowerState, IsNew, IsStrange}
use Rattle.dude_follow.proofs.TakenPackets.{at_number, state_with, takes_next, takes_quietly}
use Rattle.dude_follow.proofs.follower.Follower.take.Goals as goal

pub returns-in-Old-clause-takes : goal.returns-in-Old-clause-takes
returns-in-Old-clause-takes g c alive =
    let b = c.args.b.now in
    let is = at_number (λ (s : FollowerState). b.last ≤ s.number) c.args.self.now c.number.result c.number.ensures.number c.in-Old.ensures in
    takes_quietly b c.args.self.now _ Old refl (c.number.ensures.rests alive) c.args.self.now.replica.back.room (is, record { none = refl; same = refl })

pub returns-in-Strange-clause-takes : goal.returns-in-Strange-clause-takes
returns-in-Strange-clause-takes g c alive =
    let b = c.args.b.now in
    let is = at_number (λ (s : FollowerState). (s.number < b.last) × IsStrange s b) c.args.self.now c.number.result c.number.ensures.number c.in-Strange.ensures in
    takes_quietly b c.args.self.now _ Strange refl (c.number.ensures.rests alive) c.args.self.now.replica.back.room (is.0, is.1, record { none = refl; same = refl })

pub returns-in-Next-clause-takes : goal.returns-in-Next-clause-takes
returns-in-Next-clause-takes g c alive =
    let b = c.args.b.now in
    let is = at_number (λ (s : FollowerState). IsNew s b × (first_of b ≡ s.number + 1)) c.args.self.now c.number.result c.number.ensures.number c.in-Next.ensures in
    takes_next b c.args.self.now c.advance.new.self c.advance.result is.0 is.1 c.advance.ensures.goes_on c.advance.ensures.advances.chain c.advance.ensures.advances.kept c.advance.ensures.answer c.advance.ensures.rests

pub returns-in-Known-clause-takes : goal.returns-in-Known-clause-takes
returns-in-Known-clause-takes g c alive =
    let b = c.args.b.now in
    let is = at_number (λ (s : FollowerState). IsNew s b × (first_of b ≢ s.number + 1) × Contains s.kept b) c.args.self.now c.number.result c.number.ensures.number c.in-Known.ensures in
    takes_quietly b c.args.self.now _ Kept refl (c.number.ensures.rests alive) c.args.self.now.replica.back.room (is.0, is.1, refl, inl (is.2, refl))

pub returns-in-Fresh-clause-takes : goal.returns-in-Fresh-clause-takes
returns-in-Fresh-clause-takes g c alive =
    let b = c.args.b.now in
    let f = c.args.self.now in
    let is = at_number (λ (s : FollowerState). IsNew s b × (first_of b ≢ s.number + 1) × (Contains s.kept b → ⊥) × (length s.kept < follower_room f)) f c.number.result c.number.ensures.number c.in-Fresh.ensures in
    takes_quietly b f _ Kept refl (c.number.ensures.rests alive) f.replica.back.room
    (is.0, is.1, refl, inr (is.2, is.3, state_with (follower_state f).number c.keep.new.self.kept.items (f.buffer.kept.items ++ b ∷ []) c.keep.ensures.kept))

pub returns-in-Full-clause-takes : goal.returns-in-Full-clause-takes
returns-in-Full-clause-takes g c alive =
    let b = c.args.b.now in
    let f = c.args.self.now in
    let is = at_number (λ (s : FollowerState). IsNew s b × (first_of b ≢ s.number + 1) × (Contains s.kept b → ⊥) × (follower_room f ≤ length s.kept)) f c.number.result c.number.ensures.number c.in-Full.ensures in
    takes_quietly b f _ (Dropped (follower_room f)) refl (c.number.ensures.rests alive) f.replica.back.room
    (is.0, is.1, is.2, is.3, refl, record { none = refl; same = refl })
