-- What a follower does with a packet: the first of five cases that fits.
use Rattle.std.specs.Prelude.{◌≡◌, ◌≢◌, ◌⊎◌, ℕ, ◌+◌, ◌<◌, ◌≤◌, nat_lt, List, [], ◌∷◌, ◌++◌, length, filter, All}
use Rattle.std.specs.List.{Contains}
use Rattle.dude_follow.specs.declared.taken.Taken.{Taken}
use Rattle.dude_follow.specs.declared.taken.Taken.TheVariants.{Old, Strange, Applied, Kept, Dropped}
use Rattle.dude_base.specs.Records.{RedoBundle, first_of}
use Rattle.redo_record.specs.Recovery.{AreConsecutive}
use Rattle.dude_follow.specs.Packets.{Share}

-- The number that the follower has reached, and the packets that it keeps until those before them come.
pub record FollowerState : Type 0 where
  pub number : ℕ
  pub kept : List RedoBundle

-- the packet shares a number with one that is kept
pub record SharesWith (kept : List RedoBundle) (b : RedoBundle) : Type 0 where
  pub other : RedoBundle
  pub is_kept : Contains kept other
  pub share : Share b other

-- It begins at a number that was reached already, or is another packet for a number of one that is kept.
abbrev pub IsStrange : FollowerState → RedoBundle → Type 0
IsStrange s b = (first_of b ≤ s.number) ⊎ ((Contains s.kept b → ⊥) × SharesWith s.kept b)

-- neither old nor strange
pub record IsNew (s : FollowerState) (b : RedoBundle) : Type 0 where
  pub over : s.number < b.last
  pub fits : IsStrange s b → ⊥

-- nothing is applied, and nothing changes
pub record StaysSo (s : FollowerState) (records : List RedoBundle) (t : FollowerState) : Type 0 where
  pub none : records ≡ []
  pub same : t ≡ s

-- These are applied one after another: the packet, and the kept ones that lead on from it, as far as there is one. The kept
-- ones over the number that is then reached are still kept.
pub record Advances (s : FollowerState) (b : RedoBundle) (records : List RedoBundle) (t : FollowerState) : Type 0 where
  pub more : List RedoBundle
  pub records_are : records ≡ b ∷ more
  pub from_kept : All (Contains s.kept) more
  pub lead : AreConsecutive s.number records t.number
  pub none_next : All (λ c. first_of c ≢ t.number + 1) s.kept
  pub kept : t.kept ≡ filter (λ c. nat_lt t.number c.last) s.kept

-- it is kept: already, or from now on, where fewer than `room` are
abbrev pub IsKeptIn : ℕ → FollowerState → RedoBundle → FollowerState → Type 0
IsKeptIn room s b t =
    (Contains s.kept b × (t ≡ s))
    ⊎ ((Contains s.kept b → ⊥) × (length s.kept < room) × (t ≡ record { number = s.number; kept = s.kept ++ b ∷ [] }))

-- The packet is answered so: these packets are applied, and the follower is then so.
abbrev pub Takes : ℕ → FollowerState → RedoBundle → Taken → List RedoBundle → FollowerState → Type 0
Takes room s b Old records t = (b.last ≤ s.number) × StaysSo s records t
Takes room s b Strange records t = (s.number < b.last) × IsStrange s b × StaysSo s records t
Takes room s b (Applied number) records t = IsNew s b × (first_of b ≡ s.number + 1) × Advances s b records t × (number ≡ t.number)
Takes room s b Kept records t = IsNew s b × (first_of b ≢ s.number + 1) × (records ≡ []) × IsKeptIn room s b t
Takes room s b (Dropped kept) records t =
    IsNew s b × (first_of b ≢ s.number + 1) × (Contains s.kept b → ⊥) × (room ≤ length s.kept) × (kept ≡ room) × StaysSo s records t

-- Packets are taken one after another: these are the answers, and these packets are applied in all.
pub data Follows : ℕ → FollowerState → List RedoBundle → List Taken → List RedoBundle → FollowerState → Type 0 where
  none : {room : ℕ} {s : FollowerState} → Follows room s [] [] [] s
  next : {room : ℕ} {s u t : FollowerState} {b : RedoBundle} {packets : List RedoBundle} {answer : Taken} {answers : List Taken} (records more : List RedoBundle)
      → Takes room s b answer records u → Follows room u packets answers more t → Follows room s (b ∷ packets) (answer ∷ answers) (records ++ more) t
