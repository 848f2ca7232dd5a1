-- What becomes of a follower that takes packets, and the packets of files, one after another.
use Rattle.std.specs.Prelude.{◌≡◌, ℕ, ◌+◌, Bool, true, false, not, if◌then◌else◌, List, [], ◌∷◌, ◌++◌, Option, Some, None, Result, Ok, Err, ⊤, length}
use Rattle.std.specs.List.{AllZip}
use Rattle.dude_base.specs.declared.sizes.Sizes.{Sizes}
use Rattle.dude_base.specs.Records.{RedoBundle}
use Rattle.pmem_trait.specs.declared.medium.Medium.{Ghosts}
use Rattle.pmem_trait.specs.Sights.{Risen, SomeCalls}
use Rattle.dude_io.specs.declared.file_text.FileText.{FileText}
use Rattle.dude_io.specs.declared.file_text.FileText.TheVariants.{Whole, TooLong}
use Rattle.dude_follow.specs.declared.follower.Follower.{Follower}
use Rattle.dude_follow.specs.declared.taken.Taken.{Taken}
use Rattle.dude_follow.specs.declared.taken.Taken.TheVariants.{Strange}
use Rattle.dude_follow.specs.Applying.{Applies, IsAtRest, RecoversThrough}
use Rattle.dude_follow.specs.Follower.{KeepsParts, follower_back, follower_room, follower_sight, follower_state}
use Rattle.dude_follow.specs.Following.{IsStrangeAnswer}
use Rattle.dude_follow.specs.Packet.{ArePackets, IsBadAt}
use Rattle.dude_follow.specs.Taking.{FollowerState, Follows, Takes}
use Rattle.command_edges.specs.declared.fault.Fault.{Fault}
use Rattle.command_edges.specs.declared.fault.Fault.TheVariants as fault
use Rattle.dude_program.specs.Delivery.{NoneStrange, drops_of, is_drop, packets_in}

-- the follower isn't dead, and nothing waits in its back
abbrev pub FollowerRests : {M : Type 0} {ghosts : Ghosts M} → Follower M ghosts → Type 0
FollowerRests f = IsAtRest (follower_back f)

-- ---- packets

-- These packets were taken one after another; where ok is false, a call failed at the last of them.
pub record TakesPackets {M : Type 0} {ghosts : Ghosts M} (packets : List RedoBundle) (ok : Bool) (f g : Follower M ghosts) : Type 0 where
  -- the rule gives these answers, applies these packets, and leaves the follower so
  pub answers : List Taken
  pub records : List RedoBundle
  pub after : FollowerState
  pub follows : Follows (follower_room f) (follower_state f) packets answers records after
  -- where no call failed it is so, and just these were applied
  pub state : ok ≡ true → follower_state g ≡ after
  pub applies : ok ≡ true → Applies records (follower_back f) (follower_sight f) (follower_back g) (follower_sight g)
  -- at every moment every image recovers to what the first ones of those that are applied lead to
  pub moments : RecoversThrough records (follower_back f) (follower_sight f) (follower_sight g)
  -- the follower is dead exactly where a call failed
  pub dead : (follower_back g).dead ≡ not ok
  pub rests : ok ≡ true → FollowerRests g
  pub parts : KeepsParts f g
  pub ran : SomeCalls ok (follower_sight f) (follower_sight g)
  pub cause : ok ≡ false → Risen (follower_sight f).faults (follower_sight g).faults

-- these packets were taken, none of them is strange, and so many were dropped
abbrev pub TakesAll : {M : Type 0} {ghosts : Ghosts M} → List RedoBundle → ℕ → Follower M ghosts → Follower M ghosts → Type 0
TakesAll packets dropped f g = (t : TakesPackets packets true f g) × NoneStrange t.answers × (dropped ≡ drops_of t.answers)

-- Behind packets taken before, these were taken up to a strange one, which has this number among them, from 1, and changes
-- nothing.
pub record StopsAtStrange {M : Type 0} {ghosts : Ghosts M} (before packets : List RedoBundle) (packet : ℕ) (f g : Follower M ghosts) : Type 0 where
  pub earlier : List RedoBundle
  pub strange : RedoBundle
  pub later : List RedoBundle
  pub split : packets ≡ earlier ++ strange ∷ later
  pub counted : packet ≡ length earlier + 1
  pub dropped : ℕ
  pub taken : TakesAll (before ++ earlier) dropped f g
  pub is_strange : Takes (follower_room f) taken.0.after strange Strange [] taken.0.after

-- Behind packets taken before, these were taken up to one at which a call failed.
pub record StopsAtFailure {M : Type 0} {ghosts : Ghosts M} (before packets : List RedoBundle) (f g : Follower M ghosts) : Type 0 where
  pub earlier : List RedoBundle
  pub later : List RedoBundle
  pub split : packets ≡ earlier ++ later
  pub taken : TakesPackets (before ++ earlier) false f g

-- so many packets are dropped by this answer, which doesn't say that one is strange; or it says so
abbrev pub IsDropCount : Taken → Option ℕ → Type 0
IsDropCount answer (Some dropped) = (IsStrangeAnswer answer → ⊥) × (dropped ≡ (if is_drop answer then 1 else 0))
IsDropCount answer None = answer ≡ Strange

-- why packets of the file of this number weren't all taken
abbrev pub StopsInPackets : {M : Type 0} {ghosts : Ghosts M} → List RedoBundle → List RedoBundle → ℕ → Fault → Follower M ghosts → Follower M ghosts → Type 0
StopsInPackets before packets number (fault.Strange file packet) f g = (file ≡ number) × StopsAtStrange before packets packet f g
StopsInPackets before packets number fault.Device f g = StopsAtFailure before packets f g
StopsInPackets before packets number _ f g = ⊥

-- the packets of the file of this number were taken, and so many dropped; or why not
abbrev pub TakesList : {M : Type 0} {ghosts : Ghosts M} → List RedoBundle → ℕ → Result ℕ Fault → Follower M ghosts → Follower M ghosts → Type 0
TakesList packets number (Ok dropped) f g = TakesAll packets dropped f g
TakesList packets number (Err why) f g = StopsInPackets [] packets number why f g

-- ---- texts

-- the text is these packets
abbrev pub MeansPackets : Sizes → FileText → List RedoBundle → Type 0
MeansPackets sizes (Whole bytes) packets = ArePackets sizes bytes.items packets
MeansPackets sizes TooLong packets = ⊥

-- this is the first bad packet of the text, which is 0 where the text is too long
abbrev pub IsBadAsPackets : Sizes → FileText → ℕ → Type 0
IsBadAsPackets sizes (Whole bytes) packet = IsBadAt sizes bytes.items packet
IsBadAsPackets sizes TooLong packet = packet ≡ 0

-- why the text of the file of this number gives no packets
abbrev pub IsPacketsFault : Sizes → FileText → ℕ → Fault → Type 0
IsPacketsFault sizes text number (fault.Text file row field) = (file ≡ number) × (field ≡ 0) × IsBadAsPackets sizes text row
IsPacketsFault sizes text number fault.Memory = ⊤
IsPacketsFault sizes text number _ = ⊥

-- Why the packets of the text of the file of this number weren't all taken, behind others taken before.
abbrev pub StopsInText : {M : Type 0} {ghosts : Ghosts M} → Sizes → List RedoBundle → FileText → ℕ → Fault → Follower M ghosts → Follower M ghosts → Type 0
StopsInText sizes before text number (fault.Text file row field) f g = IsPacketsFault sizes text number (fault.Text file row field) × ((dropped : ℕ) × TakesAll before dropped f g)
StopsInText sizes before text number fault.Memory f g = (dropped : ℕ) × TakesAll before dropped f g
StopsInText sizes before text number why f g = (packets : List RedoBundle) × MeansPackets sizes text packets × StopsInPackets before packets number why f g

-- the packets of the text of the file of this number were taken, and so many dropped; or why not
abbrev pub TakesText : {M : Type 0} {ghosts : Ghosts M} → Sizes → FileText → ℕ → Result ℕ Fault → Follower M ghosts → Follower M ghosts → Type 0
TakesText sizes text number (Ok dropped) f g = (packets : List RedoBundle) × MeansPackets sizes text packets × TakesAll packets dropped f g
TakesText sizes text number (Err why) f g = StopsInText sizes [] text number why f g

-- The packets of the first texts were taken, and then why those of the next one weren't.
pub record StopsInTexts {M : Type 0} {ghosts : Ghosts M} (sizes : Sizes) (texts : List FileText) (why : Fault) (f g : Follower M ghosts) : Type 0 where
  pub earlier : List FileText
  pub text : FileText
  pub later : List FileText
  pub split : texts ≡ earlier ++ text ∷ later
  pub each : List (List RedoBundle)
  pub read : AllZip (MeansPackets sizes) earlier each
  pub stops : StopsInText sizes (packets_in each) text (length earlier + 1) why f g

-- the packets of all texts were taken, and so many dropped; or why not
abbrev pub TakesTexts : {M : Type 0} {ghosts : Ghosts M} → Sizes → List FileText → Result ℕ Fault → Follower M ghosts → Follower M ghosts → Type 0
TakesTexts sizes texts (Ok dropped) f g = (each : List (List RedoBundle)) × AllZip (MeansPackets sizes) texts each × TakesAll (packets_in each) dropped f g
TakesTexts sizes texts (Err why) f g = StopsInTexts sizes texts why f g
