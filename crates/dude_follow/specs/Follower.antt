-- What contracts see of a follower, and what it does with a packet.
use Rattle.std.specs.Prelude.{◌≡◌, ℕ, Bool, List, [], false, filter, is_ok, nat_lt, IfOk, IsOk, OnErr, OnOk, Result}
use Rattle.dude_base.specs.declared.sizes.Sizes.{Sizes}
use Rattle.dude_base.specs.Records.{RedoBundle}
use Rattle.pmem_trait.specs.declared.medium.Medium.{Ghosts}
use Rattle.pmem_trait.specs.Sights.{Sight, SomeCalls}
use Rattle.back_store.specs.Back.{BackState, idle}
use Rattle.back_store.specs.BackView.{medium_of}
use Rattle.dude_recover.specs.declared.opened.Opened.{Opened}
use Rattle.dude_follow.specs.declared.follow_fault.FollowFault.{FollowFault}
use Rattle.dude_follow.specs.declared.follower.Follower.{Follower}
use Rattle.dude_follow.specs.declared.taken.Taken.{Taken}
use Rattle.dude_follow.specs.Applying.{Applies, IsAtRest, RecoversThrough}
use Rattle.dude_follow.specs.Chain.{AppliesChain, StopsBefore}
use Rattle.dude_follow.specs.Replica.{replica_back, replica_medium, replica_sight}
use Rattle.dude_follow.specs.Taking.{FollowerState, Takes}

-- the back of a follower, without its medium; it is dead where an earlier call on the medium failed
abbrev pub follower_back : {M : Type 0} {ghosts : Ghosts M} → Follower M ghosts → BackState
follower_back f = replica_back f.replica

-- the sizes of the image that a follower is on
abbrev pub follower_sizes : {M : Type 0} {ghosts : Ghosts M} → Follower M ghosts → Sizes
follower_sizes f = (follower_back f).log.sizes

-- the number that a follower has reached, which is that of its last reproduction, and the packets that it keeps
abbrev pub follower_state : {M : Type 0} {ghosts : Ghosts M} → Follower M ghosts → FollowerState
follower_state f = record { number = (follower_back f).log.reproduced; kept = f.buffer.kept.items }

-- how many packets a follower may keep
abbrev pub follower_room : {M : Type 0} {ghosts : Ghosts M} → Follower M ghosts → ℕ
follower_room f = f.buffer.room

-- the medium of a follower
abbrev pub follower_medium : {M : Type 0} {ghosts : Ghosts M} → Follower M ghosts → M
follower_medium f = replica_medium f.replica

-- what clauses see of the medium of a follower
abbrev pub follower_sight : {M : Type 0} {ghosts : Ghosts M} → Follower M ghosts → Sight
follower_sight f = replica_sight f.replica

-- A follower that starts on an opened image keeps nothing, and has reached the image's number.
pub record StartsOn {M : Type 0} {ghosts : Ghosts M} (opened : Opened M ghosts) (room : ℕ) (f : Follower M ghosts) : Type 0 where
  pub state : follower_state f ≡ record { number = opened.number; kept = [] }
  pub room_is : follower_room f ≡ room
  pub back : follower_back f ≡ idle opened.sizes opened.number
  pub medium : follower_medium f ≡ medium_of opened.back

-- room and sizes stay
pub record KeepsParts {M : Type 0} {ghosts : Ghosts M} (f g : Follower M ghosts) : Type 0 where
  pub room : follower_room g ≡ follower_room f
  pub sizes : follower_sizes g ≡ follower_sizes f

-- nothing was done
pub record StaysSame {M : Type 0} {ghosts : Ghosts M} (f g : Follower M ghosts) : Type 0 where
  pub state : follower_state g ≡ follower_state f
  pub back : follower_back g ≡ follower_back f
  pub medium : follower_medium g ≡ follower_medium f

-- The follower stopped before one of the packets that the rule applies: its number is the one that those before it lead to, and
-- it keeps the packets over that.
pub record StopsWithin (packets : List RedoBundle) (s t : FollowerState) : Type 0 where
  pub stops : StopsBefore packets s.number t.number
  pub kept : t.kept ≡ filter (λ c. nat_lt t.number c.last) s.kept

-- no call is made
pub record MakesNoCall {M : Type 0} {ghosts : Ghosts M} (f g : Follower M ghosts) : Type 0 where
  pub back : follower_back g ≡ follower_back f
  pub medium : follower_medium g ≡ follower_medium f

-- What a follower that isn't dead does with a packet.
pub record TakesPacket {M : Type 0} {ghosts : Ghosts M} (b : RedoBundle) (result : Result Taken FollowFault) (f g : Follower M ghosts) : Type 0 where
  -- the rule's answer, the packets that it applies, and the follower then: whatever the medium's calls answer
  pub answer : Taken
  pub packets : List RedoBundle
  pub after : FollowerState
  pub takes : Takes (follower_room f) (follower_state f) b answer packets after
  -- at Ok that is the answer, and the follower is so
  pub ok : IfOk result (λ taken. (taken ≡ answer) × (follower_state g ≡ after))
  -- and just these packets were applied
  pub applies : OnOk result (Applies packets (follower_back f) (follower_sight f) (follower_back g) (follower_sight g))
  -- no call on the medium failed but perhaps the last, and that one exactly at a fault
  pub ran : SomeCalls (is_ok result) (follower_sight f) (follower_sight g)
  -- at Ok it isn't dead
  pub alive : OnOk result ((follower_back g).dead ≡ false)
  -- and nothing waits in its back
  pub rests : OnOk result (IsAtRest (follower_back g))
  -- where the rule applies none, no call is made, and none fails
  pub quiet : packets ≡ [] → IsOk result × MakesNoCall f g
  -- at a fault the packets before one of these were applied
  pub stopped : OnErr result (StopsWithin packets (follower_state f) (follower_state g))
  -- at every moment every image recovers to what the first ones of these packets lead to
  pub moments : RecoversThrough packets (follower_back f) (follower_sight f) (follower_sight g)

-- The packet of the next numbers, and the kept ones that follow it, were applied; what was applied is no longer kept.
pub record AdvancesBy {M : Type 0} {ghosts : Ghosts M} (b : RedoBundle) (ok : Bool) (f g : Follower M ghosts) : Type 0 where
  pub chain : AppliesChain (follower_state f).kept b ok (follower_back f) (follower_sight f) (follower_back g) (follower_sight g)
  pub kept : (follower_state g).kept ≡ filter (λ c. nat_lt (follower_state g).number c.last) (follower_state f).kept
