-- The follower's law, over every list of packets that a link may deliver of a leader's list: lost, repeated, in any order.
use Rattle.std.specs.Prelude.{◌≡◌, ◌≢◌, ℕ, ◌+◌, ◌<◌, ◌≤◌, ⊤, List, [], ◌++◌, All}
use Rattle.std.specs.List.{Contains}
use Rattle.dude_follow.specs.declared.taken.Taken.{Taken}
use Rattle.dude_follow.specs.declared.taken.Taken.TheVariants.{Strange, Dropped}
use Rattle.dude_base.specs.Records.{Covers, RedoBundle, first_of, overwritten_by_all}
use Rattle.redo_record.specs.Recovery.{AreConsecutive}
use Rattle.dude_follow.specs.Taking.{FollowerState, Follows}

-- What a leader sends: the numbers behind `first` up to `last`, each once.
pub record Leader : Type 0 where
  pub first : ℕ
  pub packets : List RedoBundle
  pub last : ℕ
  pub consecutive : AreConsecutive first packets last

-- The follower has applied just these packets of the leader, the first ones; the others lead on from its number. What it
-- keeps is some of those, and none that could be applied.
pub record HasApplied (l : Leader) (applied : List RedoBundle) (s : FollowerState) : Type 0 where
  pub rest : List RedoBundle
  pub split : l.packets ≡ applied ++ rest
  pub before : AreConsecutive l.first applied s.number
  pub behind : AreConsecutive s.number rest l.last
  pub kept : All (Contains rest) s.kept
  pub none_next : All (λ c. first_of c ≢ s.number + 1) s.kept

-- The array of the leader at a number: its opening array, overwritten by its packets up to there.
pub record IsLeaderArray (l : Leader) (opening : List ℕ) (number : ℕ) (array : List ℕ) : Type 0 where
  pub front : List RedoBundle
  pub rest : List RedoBundle
  pub split : l.packets ≡ front ++ rest
  pub upto : AreConsecutive l.first front number
  pub result : array ≡ overwritten_by_all front opening

-- the follower answered that the packet is no one of the leader that it followed so far
abbrev pub IsStrangeAnswer : Taken → Type 0
IsStrangeAnswer Strange = ⊤
IsStrangeAnswer _ = ⊥

-- the follower answered that it had no room to keep the packet
abbrev pub IsDropAnswer : Taken → Type 0
IsDropAnswer (Dropped kept) = ⊤
IsDropAnswer _ = ⊥

-- some packet of these covers the number
pub record IsDelivered (packets : List RedoBundle) (number : ℕ) : Type 0 where
  pub packet : RedoBundle
  pub is_one : Contains packets packet
  pub covers : Covers packet number

-- The greatest number such that the packets cover each number behind the first one up to it.
pub record IsReached (packets : List RedoBundle) (first number : ℕ) : Type 0 where
  pub up : first ≤ number
  pub each : (n : ℕ) → first < n → n ≤ number → IsDelivered packets n
  pub next : IsDelivered packets (number + 1) → ⊥

-- Whatever a link delivers of a leader's packets: no packet is strange, the follower has applied the first packets of the
-- leader and no others, in order, and each once; and so its array is the leader's at its number.
abbrev pub LawOfFollowing : Type 0
LawOfFollowing = (l : Leader) (room : ℕ) (applied packets records : List RedoBundle) (answers : List Taken) (s t : FollowerState)
    → HasApplied l applied s → All (Contains l.packets) packets → Follows room s packets answers records t
    → All (λ a. IsStrangeAnswer a → ⊥) answers × HasApplied l (applied ++ records) t

-- Where none was dropped and none was kept before, the follower has reached the greatest number that the packets lead to.
abbrev pub LawOfReaching : Type 0
LawOfReaching = (l : Leader) (room : ℕ) (applied packets records : List RedoBundle) (answers : List Taken) (s t : FollowerState)
    → HasApplied l applied s → s.kept ≡ [] → All (Contains l.packets) packets → Follows room s packets answers records t
    → All (λ a. IsDropAnswer a → ⊥) answers → IsReached packets s.number t.number

-- A follower that has applied the first packets of the leader has the leader's array.
abbrev pub LawOfArrays : Type 0
LawOfArrays = (l : Leader) (opening : List ℕ) (applied records : List RedoBundle) (s t : FollowerState) (array : List ℕ)
    → HasApplied l applied s → HasApplied l (applied ++ records) t → array ≡ overwritten_by_all applied opening
    → IsLeaderArray l opening t.number (overwritten_by_all records array)
