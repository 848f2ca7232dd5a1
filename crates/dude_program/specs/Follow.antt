-- What `follow` promises in place of the headline: which packets it takes and what it prints, and to what every image of its
-- medium recovers, over every list of packets and over those of a leader.
use Rattle.std.specs.Prelude.{◌≡◌, ◌⊎◌, ℕ, Option, Some, None, IsTrue, List, [], ◌∷◌, ◌++◌, All, codes, decimal, length, map}
use Rattle.std.specs.List.{AllZip, Contains}
use Rattle.dude_base.specs.declared.sizes.Sizes.{Sizes}
use Rattle.dude_base.specs.Records.{RedoBundle, overwritten_by_all}
use Rattle.pmem_trait.specs.Words.{EveryImage}
use Rattle.pmem_trait.specs.Sights.{AtEveryMoment, Sight, state_now}
use Rattle.pmem_trait.specs.Reads.{ContentHas}
use Rattle.redo_record.specs.Recovery.{AreConsecutive}
use Rattle.dude_io.specs.Files.{FilesSight}
use Rattle.image_recovery.specs.Recovered.{RecoversArray}
use Rattle.dude_follow.specs.declared.taken.Taken.{Taken}
use Rattle.dude_follow.specs.Applying.{RecoversAlong}
use Rattle.dude_follow.specs.Following.{IsDropAnswer, IsLeaderArray, IsReached, Leader}
use Rattle.dude_follow.specs.LeaderImages.{RecoversToLeader}
use Rattle.dude_follow.specs.Taking.{FollowerState, Follows}
use Rattle.command_edges.specs.declared.fault.Fault.{Fault}
use Rattle.command_edges.specs.declared.fault.Fault.TheVariants.{Memory, Output, Strange, Text}
use Rattle.command_openings.specs.Openings.{IsOpeningOn}
use Rattle.dude_engine.specs.Opening.{IsOpening, Opening}
use Rattle.dude_program.specs.World.{World}
use Rattle.dude_program.specs.Delivery.{FOLLOWER_ROOM, HoldsPackets, IsRefusedDelivery, TakesFiles, drops_of, follower_at, packets_in}
use Rattle.dude_program.specs.Headline.{TookAll, TookPrefix}

-- the output: the number reached, how many packets wait, and how many were dropped
abbrev pub followed_text : ℕ → ℕ → ℕ → List ℕ
followed_text number waiting dropped =
    codes "last " ++ decimal number ++ codes " waiting " ++ decimal waiting ++ codes " dropped " ++ decimal dropped ++ 10 ∷ []

-- ---- which packets are taken, and what is printed

-- at the last moment every image recovers to this number and this array
abbrev pub ImagesRecover : Sizes → ℕ → List ℕ → Sight → Type 0
ImagesRecover sizes number array t = EveryImage t.len (λ told image. RecoversArray sizes number array image) (state_now t)

-- From an opening on these packets were applied, up to this number: just the opening's number and their last ones were told;
-- and at the end every image recovers to the array to which the content recovered, overwritten by them.
pub record IsLeftApplied (opening : Opening) (records : List RedoBundle) (number : ℕ) (s t : Sight) : Type 0 where
  pub told : IsTrue s.is_visible → (state_now t).told ≡ (state_now s).told ++ opening.number ∷ map (λ b. b.last) records
  pub images : (array : List ℕ) → IsTrue s.is_visible → ContentHas (RecoversArray opening.sizes opening.number array) s
      → ImagesRecover opening.sizes number (overwritten_by_all records array) t

-- All packets of the files were taken from an opening of the command on, and none is strange; those that the rule applies were
-- applied; and of the output the sink took this much.
pub record FollowedAll (names : List (List ℕ)) (old new : World) (Took : List ℕ → Type 0) : Type 0 where
  pub opening : Opening
  pub starts : IsOpeningOn old.medium opening
  pub lawful : IsOpening opening
  pub taken : TakesFiles opening.sizes opening.number old.files names
  pub left : IsLeftApplied opening taken.records taken.after.number old.medium new.medium
  pub bytes : Took (followed_text taken.after.number (length taken.after.kept) (drops_of taken.answers))

-- of the packets in front of those that are refused, those that the rule applies were applied
abbrev pub IsLeftInFront : (names : List (List ℕ)) (files : FilesSight) (opening : Opening) (fault : Fault)
    → IsRefusedDelivery names files opening fault → Sight → Sight → Type 0
IsLeftInFront names files opening (Text file row field) why s t =
    IsLeftApplied opening why.0.behind.taken.records why.0.behind.taken.after.number s t
IsLeftInFront names files opening (Strange file packet) why s t = IsLeftApplied opening why.records why.after.number s t
IsLeftInFront names files opening _ why s t = ⊥

-- Behind an opening of the command packets are refused so: those in front of them were taken, and applied by the rule.
pub record RefusedDelivery (names : List (List ℕ)) (old new : World) (fault : Fault) : Type 0 where
  pub opening : Opening
  pub starts : IsOpeningOn old.medium opening
  pub lawful : IsOpening opening
  pub why : IsRefusedDelivery names old.files opening fault
  pub left : IsLeftInFront names old.files opening fault why old.medium new.medium

-- By the fault: all was taken and printed; or a prefix was printed; or packets are refused, and nothing was printed. For
-- another fault its cause says why it came.
abbrev pub RunsFollower : List (List ℕ) → World → World → Option Fault → Type 0
RunsFollower names old new None = FollowedAll names old new (TookAll old.sink new.sink)
RunsFollower names old new (Some Output) = FollowedAll names old new (TookPrefix old.sink new.sink)
RunsFollower names old new (Some Memory) = (new.sink ≡ old.sink) ⊎ FollowedAll names old new (TookPrefix old.sink new.sink)
RunsFollower names old new (Some (Text file row field)) =
    (new.sink ≡ old.sink) × RefusedDelivery names old new (Text file row field)
RunsFollower names old new (Some (Strange file packet)) =
    (new.sink ≡ old.sink) × RefusedDelivery names old new (Strange file packet)
RunsFollower names old new (Some _) = new.sink ≡ old.sink

-- ---- images, over every list of packets

-- These are the first packets of the files, in order.
pub record AreFirstPackets (sizes : Sizes) (files : FilesSight) (names : List (List ℕ)) (packets : List RedoBundle) : Type 0 where
  pub earlier : List (List ℕ)
  pub later : List (List ℕ)
  pub split : names ≡ earlier ++ later
  pub each : List (List RedoBundle)
  pub read : AllZip (HoldsPackets sizes files) earlier each
  pub rest : List RedoBundle
  pub parts : packets_in each ≡ packets ++ rest

-- The first packets of the files were taken, and applied as the rule says. At every moment every image recovers to the number
-- and the array that the first ones of those applied lead to, and to no number under one told in this call.
pub record AppliesInOrder (sizes : Sizes) (number : ℕ) (array : List ℕ) (names : List (List ℕ)) (files : FilesSight) (s t : Sight) : Type 0 where
  pub packets : List RedoBundle
  pub first : AreFirstPackets sizes files names packets
  pub answers : List Taken
  pub records : List RedoBundle
  pub after : FollowerState
  pub follows : Follows FOLLOWER_ROOM (follower_at number) packets answers records after
  pub moments : AtEveryMoment (RecoversAlong sizes number records array (length (state_now s).told)) s t

-- ---- images, over packets of a leader

-- The link delivers only packets that the leader sent, and the medium recovers to the leader's opening number and array, or to
-- those behind one of its packets.
pub record DeliversOf (l : Leader) (opening : List ℕ) (names : List (List ℕ)) (old : World) : Type 0 where
  pub visible : IsTrue old.medium.is_visible
  pub files_visible : IsTrue old.files.is_visible
  -- the packets up to the number from which the follower starts
  pub front : List RedoBundle
  pub rest : List RedoBundle
  pub split : l.packets ≡ front ++ rest
  pub number : ℕ
  pub upto : AreConsecutive l.first front number
  pub sizes : Sizes
  pub recovers : ContentHas (RecoversArray sizes number (overwritten_by_all front opening)) old.medium
  -- each packet of a file is one of the leader's
  pub delivered : (name : List ℕ) (packets : List RedoBundle) → Contains names name → HoldsPackets sizes old.files name packets
      → All (Contains l.packets) packets

-- At the end every image recovers to this number and to the leader's array there.
pub record IsLed (l : Leader) (opening : List ℕ) (sizes : Sizes) (number : ℕ) (t : Sight) : Type 0 where
  pub array : List ℕ
  pub is_leader : IsLeaderArray l opening number array
  pub images : ImagesRecover sizes number array t

-- What holds over a leader's packets.
pub record LedBy (l : Leader) (opening : List ℕ) (names : List (List ℕ)) (old new : World) (fault : Option Fault) : Type 0 where
  -- at every moment every image recovers to the leader's array at the end of one of its packets
  pub moments : AtEveryMoment (RecoversToLeader l opening (length (state_now old.medium).told)) old.medium new.medium
  -- no packet is strange
  pub none_strange : (file packet : ℕ) → fault ≡ Some (Strange file packet) → ⊥
  -- where all was taken, every image recovers at the end to the leader's array at the number that was printed
  pub led : (f : FollowedAll names old new (TookAll old.sink new.sink)) → IsLed l opening f.opening.sizes f.taken.after.number new.medium
  -- and where none was dropped, that is the greatest number up to which the packets cover each
  pub reached : (f : FollowedAll names old new (TookAll old.sink new.sink)) → All (λ answer. IsDropAnswer answer → ⊥) f.taken.answers
      → IsReached (packets_in f.taken.each) f.opening.number f.taken.after.number

-- What `follow` promises.
pub record FollowsFiles (names : List (List ℕ)) (old new : World) (fault : Option Fault) : Type 0 where
  -- which packets were taken, and what was printed
  pub runs : RunsFollower names old new fault
  -- to what every image recovers, over every list of packets
  pub crash : (sizes : Sizes) (number : ℕ) (array : List ℕ) → IsTrue old.medium.is_visible → ContentHas (RecoversArray sizes number array) old.medium
      → AppliesInOrder sizes number array names old.files old.medium new.medium
  -- and over those of a leader
  pub leads : (l : Leader) (opening : List ℕ) → DeliversOf l opening names old → LedBy l opening names old new fault
