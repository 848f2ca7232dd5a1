-- What every image is that a crash may leave of a follower's medium, where the follower takes a leader's packets.
use Rattle.std.specs.Prelude.{◌≡◌, ℕ, List, ◌++◌}
use Rattle.dude_base.specs.declared.sizes.Sizes.{Sizes}
use Rattle.dude_base.specs.Records.{RedoBundle, overwritten_by_all}
use Rattle.pmem_trait.specs.Words.{AtLeast}
use Rattle.redo_record.specs.Recovery.{Recovers}
use Rattle.dude_follow.specs.Applying.{RecoversAlong}
use Rattle.dude_follow.specs.Following.{HasApplied, IsLeaderArray, Leader}
use Rattle.dude_follow.specs.Taking.{FollowerState}

-- The image recovers to a number that the leader's first packets lead to, and to the leader's array there; and nothing greater
-- was told behind the first `before` numbers.
pub record RecoversToLeader (l : Leader) (opening : List ℕ) (before : ℕ) (told image : List ℕ) : Type 0 where
  pub number : ℕ
  pub array : List ℕ
  pub recovered : Recovers image number array
  pub is_leader : IsLeaderArray l opening number array
  pub floor : AtLeast before told number

-- Where the follower's array is the leader's, and the packets that it now applies are the leader's next ones, an image that
-- recovers along them recovers to the leader's number and array.
abbrev pub LawOfImages : Type 0
LawOfImages = (l : Leader) (opening array : List ℕ) (applied packets : List RedoBundle) (s t : FollowerState) (sizes : Sizes) (before : ℕ) (told image : List ℕ)
    → HasApplied l applied s → HasApplied l (applied ++ packets) t → array ≡ overwritten_by_all applied opening
    → RecoversAlong sizes s.number packets array before told image → RecoversToLeader l opening before told image
