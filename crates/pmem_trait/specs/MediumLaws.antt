-- The laws of the medium, as statements on lists of calls and sights.
use Rattle.std.specs.Prelude.{ℕ, ◌⊎◌, Bool, IsTrue, List, MatchBool}
use Rattle.pmem_trait.specs.declared.call.Call.{Call}
use Rattle.pmem_trait.specs.Words.{State, IsImage, CrashLeaves, HalfDone, EveryImage, AfterEachCall, after, after_all}
use Rattle.pmem_trait.specs.Sights.{Sight, state_now, CallsMade, AtEveryMoment}
use Rattle.pmem_trait.specs.Listed.{AllMade, PrefixMade}
use Rattle.pmem_trait.specs.Groups.{group_calls, OldOrNew, SettlesGroup}

-- What holds of every image along a list, whose calls don't fail, is kept by whoever makes the list or a prefix of it.
abbrev pub LawOfCalls : (List ℕ → List ℕ → Type 0) → Type 0
LawOfCalls P =
    (cs : List Call) (ok : Bool) (s t : Sight) → CallsMade cs ok s t → (IsTrue s.is_visible → AfterEachCall (EveryImage s.len P) (state_now s) cs) → AtEveryMoment P s t

-- What every mix of the old words and the written ones has, holds of every image along a group of writes.
abbrev pub LawOfGroups : (List ℕ → List ℕ → Type 0) → Type 0
LawOfGroups P = (len : ℕ) (p : State) (ws : List (ℕ × ℕ)) (ls : List ℕ)
    → ((image : List ℕ) → OldOrNew len p ws image → P p.told image) → AfterEachCall (EveryImage len P) p (group_calls ws ls)

-- What a group of writes leaves, from any state.
abbrev pub LawOfSettling : Type 0
LawOfSettling = (ws : List (ℕ × ℕ)) (ls : List ℕ) (p : State) → SettlesGroup ws ls p (after_all (group_calls ws ls) p)

-- Where a call failed half done, each image is one from before the call or one from after it, beside the numbers told then.
abbrev pub LawOfHalfDone : Type 0
LawOfHalfDone = (c : Call) (len : ℕ) (p q : State) → HalfDone c p q → (image : List ℕ) → IsImage len q image
    → CrashLeaves len p q.told image ⊎ CrashLeaves len (after c p) q.told image

-- Where a medium lists its calls, that list has grown by these calls; or by a prefix of them, whose last one failed.
abbrev pub LawOfListing : Type 0
LawOfListing = (cs : List Call) (ok : Bool) (s t : Sight) → CallsMade cs ok s t → MatchBool ok (AllMade cs s t) (PrefixMade cs s t)
