-- Packets that files deliver to a follower: what each file holds, what becomes of all, and where they are refused.
use Rattle.std.specs.Prelude.{◌≡◌, ◌⊎◌, ℕ, ◌+◌, ◌<◌, ◌≤◌, Bool, true, false, IsTrue, Some, List, [], ◌∷◌, ◌++◌, All, flat_map, length, sum_by, if◌then◌else◌}
use Rattle.std.specs.List.{AllZip}
use Rattle.dude_base.specs.declared.sizes.Sizes.{Sizes}
use Rattle.dude_base.specs.Records.{RedoBundle}
use Rattle.dude_io.specs.Files.{FilesSight}
use Rattle.dude_follow.specs.declared.taken.Taken.{Taken}
use Rattle.dude_follow.specs.declared.taken.Taken.TheVariants.{Dropped, Strange}
use Rattle.dude_follow.specs.Following.{IsStrangeAnswer}
use Rattle.dude_follow.specs.Packet.{ArePackets, IsBadAt}
use Rattle.dude_follow.specs.Taking.{FollowerState, Follows, Takes}
use Rattle.command_edges.specs.declared.fault.Fault.{Fault}
use Rattle.command_edges.specs.declared.fault.Fault.TheVariants as fault
use Rattle.dude_engine.specs.Opening.{Opening}

-- how many packets the follower of the command keeps at most
abbrev pub FOLLOWER_ROOM : ℕ
FOLLOWER_ROOM = 4_096

-- a follower at this number that keeps no packet
abbrev pub follower_at : ℕ → FollowerState
follower_at number = record { number = number; kept = [] }

-- ---- what a file holds

-- These are the packets of some text, which is that of the file of this name where the files are visible, and not too long.
pub record HoldsPackets (sizes : Sizes) (files : FilesSight) (name : List ℕ) (packets : List RedoBundle) : Type 0 where
  pub text : List ℕ
  pub are : ArePackets sizes text packets
  pub short : length text ≤ 16_777_216
  pub of_file : IsTrue files.is_visible → files.text name ≡ Some text

-- the text is too long, and the packet is 0; or this packet, from 1, is its first bad one
abbrev pub IsBadText : Sizes → List ℕ → ℕ → Type 0
IsBadText sizes text packet =
    ((16_777_216 < length text) × (packet ≡ 0)) ⊎ ((length text ≤ 16_777_216) × IsBadAt sizes text packet)

-- Some text is bad at this packet, and is that of the file of this name where the files are visible.
pub record HoldsBadPacket (sizes : Sizes) (files : FilesSight) (name : List ℕ) (packet : ℕ) : Type 0 where
  pub text : List ℕ
  pub bad : IsBadText sizes text packet
  pub of_file : IsTrue files.is_visible → files.text name ≡ Some text

-- the packets of files, one file behind another
abbrev pub packets_in : List (List RedoBundle) → List RedoBundle
packets_in each = flat_map (λ packets. packets) each

-- ---- what becomes of them

-- none of these answers says that a packet is strange
abbrev pub NoneStrange : List Taken → Type 0
NoneStrange answers = All (λ answer. IsStrangeAnswer answer → ⊥) answers

-- whether an answer says that a packet was dropped
abbrev pub is_drop : Taken → Bool
is_drop (Dropped kept) = true
is_drop _ = false

-- how many answers do
abbrev pub drops_of : List Taken → ℕ
drops_of answers = sum_by (λ answer. if is_drop answer then 1 else 0) answers

-- The files of these names hold packets, all of which are taken in order, and none is strange.
pub record TakesFiles (sizes : Sizes) (number : ℕ) (files : FilesSight) (names : List (List ℕ)) : Type 0 where
  pub each : List (List RedoBundle)
  pub read : AllZip (HoldsPackets sizes files) names each
  pub answers : List Taken
  pub records : List RedoBundle
  pub after : FollowerState
  pub follows : Follows FOLLOWER_ROOM (follower_at number) (packets_in each) answers records after
  pub none_strange : NoneStrange answers

-- The file of this number, from 1, stands behind others whose packets are taken so.
pub record StandsBehind (sizes : Sizes) (number : ℕ) (files : FilesSight) (names : List (List ℕ)) (file : ℕ) : Type 0 where
  pub earlier : List (List ℕ)
  pub name : List ℕ
  pub later : List (List ℕ)
  pub split : names ≡ earlier ++ name ∷ later
  pub counted : file ≡ length earlier + 1
  pub taken : TakesFiles sizes number files earlier

-- The first file that isn't of packets alone has this number, and this is its first bad packet.
pub record IsFirstBadPacket (sizes : Sizes) (number : ℕ) (files : FilesSight) (names : List (List ℕ)) (file packet : ℕ) : Type 0 where
  pub behind : StandsBehind sizes number files names file
  pub bad : HoldsBadPacket sizes files behind.name packet

-- This packet of the file of this number is the first strange one; that file and those before it are of packets alone.
pub record IsFirstStrange (sizes : Sizes) (number : ℕ) (files : FilesSight) (names : List (List ℕ)) (file packet : ℕ) : Type 0 where
  -- the file, behind others
  pub earlier_names : List (List ℕ)
  pub name : List ℕ
  pub later_names : List (List ℕ)
  pub split : names ≡ earlier_names ++ name ∷ later_names
  pub counted_file : file ≡ length earlier_names + 1
  pub each : List (List RedoBundle)
  pub read : AllZip (HoldsPackets sizes files) earlier_names each
  -- the packet, behind others of its file
  pub earlier : List RedoBundle
  pub strange : RedoBundle
  pub later : List RedoBundle
  pub holds : HoldsPackets sizes files name (earlier ++ strange ∷ later)
  pub counted : packet ≡ length earlier + 1
  -- all those in front of it are taken, and none is strange
  pub answers : List Taken
  pub records : List RedoBundle
  pub after : FollowerState
  pub follows : Follows FOLLOWER_ROOM (follower_at number) (packets_in each ++ earlier) answers records after
  pub none_strange : NoneStrange answers
  -- it is strange then
  pub is_strange : Takes FOLLOWER_ROOM after strange Strange [] after

-- Why packets are refused: the first place, by file and packet, where one is bad or strange.
abbrev pub IsRefusedDelivery : List (List ℕ) → FilesSight → Opening → Fault → Type 0
IsRefusedDelivery names files opening (fault.Text file row field) =
    IsFirstBadPacket opening.sizes opening.number files names file row × (field ≡ 0)
IsRefusedDelivery names files opening (fault.Strange file packet) =
    IsFirstStrange opening.sizes opening.number files names file packet
IsRefusedDelivery names files opening _ = ⊥
