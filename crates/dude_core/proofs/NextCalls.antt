-- Which call of the back a call on the medium goes on with.
use Rattle.std.proofs.Common.{◌≡◌, ℕ, suc, ◌*◌, ◌<◌, ◌≤◌, Bool, true, false, List, [], ◌∷◌, ◌++◌, length, refl, sym, ap, subst, ◌∙◌, inl, inr, arith, All, ne_eqb, length-append, take}
use Rattle.std.specs.Prelude.{IsTrue, ◌≢◌, Option, Some, None, IfSome, IfNone}
use Rattle.std.specs.List.{Contains}
use Rattle.std.proofs.lemmas.Bool.{cases_eq}
use Rattle.std.proofs.lemmas.List.{take_all}
use Rattle.std.proofs.lemmas.List.Elements.{All-contains}
use Rattle.dude_base.specs.declared.limits.TheConstants.{PAGE}
use Rattle.dude_base.specs.declared.write.Write.{Write}
use Rattle.dude_base.specs.Records.{RedoBundle, overwritten_by_all}
use Rattle.dude_base.specs.Writes.{written}
use Rattle.pmem_trait.specs.declared.call.Call.{Call}
use Rattle.pmem_trait.specs.declared.call.Call.TheVariants.{Tell}
use Rattle.redo_record.specs.Waiting.{Waiting, Waits, Lead, IsEnd, IsContiguousEnd}
use Rattle.redo_record.specs.BackCalls.{announce_calls, reproduce_calls}
use Rattle.redo_record.proofs.WaitingRecords.{consecutive_reach}
use Rattle.core_medium.proofs.Combined.{combined_law}
use Rattle.dude_core.specs.CallFits.{GoesOn, IsFront, IsApart}
use Rattle.dude_core.specs.StoreData.{StoreData, AreInside, ToldFrom}
use Rattle.dude_core.specs.NextCalls.{Announces, Replays, ReplaysNoneTo}
use Rattle.dude_core.specs.ReplayRooms.{BringsOn}

-- ---- the same list, and the same calls made
pub front_by : (list list2 made made2 : List Call) (call : Call) (ends : Bool) → list ≡ list2 → made ≡ made2 → IsFront list made call ends → IsFront list2 made2 call ends
front_by list list2 made made2 call ends same same_made f = subst (λ (l : List Call). IsFront l made2 call ends) same (subst (λ (m : List Call). IsFront list m call ends) same_made f)

pub apart_by : (list list2 made made2 : List Call) (call : Call) → list ≡ list2 → made ≡ made2 → IsApart list made call → IsApart list2 made2 call
apart_by list list2 made made2 call same same_made f = subst (λ (l : List Call). IsApart l made2 call) same (subst (λ (m : List Call). IsApart list m call) same_made f)

-- ---- a number is announced
-- a list of one call is gone on with by that one alone, where none was made
pub only_call : (one call : Call) (made left : List Call) → GoesOn (one ∷ []) made call left → (made ≡ []) × (call ≡ one) × (left ≡ [])
only_call one call [] left e =
    let whole : one ∷ [] ≡ call ∷ left = e in
    (refl, (let same : call ≡ one = cc in same), (let none : left ≡ [] = cc in none))
only_call one call (m ∷ ms) left e =
    let long : length (one ∷ []) ≡ length ((m ∷ ms) ++ call ∷ left) = ap (λ (l : List Call). length l) e in
    let sum = length-append (m ∷ ms) (call ∷ left) in
    absurd (omega arith)

pub announces_by : (a : StoreData) (n : ℕ) → IsContiguousEnd a.waiting a.reproduced n → a.calls ≡ [] → Announces a (Tell n) n
announces_by a n end none = record { end = end; goes = subst (λ (made : List Call). GoesOn (announce_calls n) made (Tell n) []) (sym none) refl }

-- ---- bundles are reproduced
-- a written word is one of the writes
pub written_inside : (words : ℕ) (ws : List Write) (i x : ℕ) → All (λ w. w.at < words) ws → written ws i ≡ Some x → i < words
written_inside words [] i x inside e = absurd (cc)
written_inside words (w ∷ ws) i x inside e = elim (cases_eq w.at i) [
  | inl same ↦ let first : w.at < words = inside 0 w (omega arith) in omega arith
  | inr other ↦ written_inside words ws i x (λ k d lt. inside (suc k) d (omega arith)) (rw (ne_eqb w.at i other) at e)
]

module _ (a : StoreData) (inside : AreInside a.sizes a.waiting) where
  -- the writes of waiting bundles are of home words
  pub brought_inside : (from to : ℕ) (ws : List Write) → BringsOn a.waiting from to ws → All (λ w. w.at < a.sizes.pages * PAGE) ws
  brought_inside from to ws b k d lt =
      let by = b.each k d lt in
      let waits = All-contains (Waits a.waiting) b.bundles by.writer b.alone.lead.wait by.among in
      let its : All (λ w. w.at < a.sizes.pages * PAGE) by.writer.writes = All-contains (λ (w : Waiting). All (λ v. v.at < a.sizes.pages * PAGE) w.redo.writes) a.waiting (record { ring = waits.ring; redo = by.writer }) inside waits.is_one in
      written_inside (a.sizes.pages * PAGE) by.writer.writes _ _ its by.writes

  module _ (told : List ℕ) (call : Call) (n : ℕ) (ws : List Write) (b : BringsOn a.waiting a.reproduced n ws) where
    pub replays_by : (ends : Bool) → a.reproduced < n → ToldFrom n told → IsFront (reproduce_calls a.sizes ws n) a.calls call ends → Replays told a call ws n ends
    replays_by ends over upto front = record {
      bundles = b.bundles;
      may = record {
        lead = b.alone.lead;
        some = over;
        durable = upto;
        rising = b.rising;
        inside = brought_inside a.reproduced n ws b;
        effect = λ array long. b.effect array;
      };
      front = front;
    }

    -- no other writes reproduce the bundles up to the number
    pub replays_none : IsApart (reproduce_calls a.sizes ws n) a.calls call → ReplaysNoneTo told a call n
    replays_none apart rs vs may =
        let bundles : rs ≡ b.bundles = b.alone.only rs may.lead in
        let same : vs ≡ ws = combined_law (a.sizes.pages * PAGE) vs ws may.rising b.rising may.inside (brought_inside a.reproduced n ws b)
        (λ array long. may.effect array long ∙ (ap (λ (bs : List RedoBundle). overwritten_by_all bs array) bundles ∙ sym (b.effect array))) in
        subst (λ (us : List Write). IsApart (reproduce_calls a.sizes us n) a.calls call) (sym same) apart

  pub untold_none : (told : List ℕ) (call : Call) (n : ℕ) → (ToldFrom n told → ⊥) → ReplaysNoneTo told a call n
  untold_none told call n not rs ws may = absurd (not may.durable)

  pub unled_none : (told : List ℕ) (call : Call) (n : ℕ) → (IsEnd a.waiting a.reproduced n → ⊥) → ReplaysNoneTo told a call n
  unled_none told call n not rs ws may = absurd (not (record { records = rs; lead = may.lead }))

  -- a number up to which bundles are reproduced is the last one of a waiting bundle
  pub last_waits : (n : ℕ) (rs : List RedoBundle) → Lead a.waiting a.reproduced rs n → a.reproduced < n → (w : Waiting) × Contains a.waiting w × (w.redo.last ≡ n)
  last_waits n rs lead over =
      let r = consecutive_reach (Waits a.waiting) a.reproduced n n rs lead.wait lead.consecutive over (omega arith) in
      (record { ring = r.holds.ring; redo = r.one }, r.holds.is_one, (let up = r.upto in let high = r.covers.high in omega arith))

  pub replays_no : (told : List ℕ) (call : Call) (i : ℕ) → length a.waiting ≤ i → All (λ w. ReplaysNoneTo told a call w.redo.last) (take i a.waiting) → (n : ℕ) → ReplaysNoneTo told a call n
  replays_no told call i le none n rs ws may =
      let l = last_waits n rs may.lead may.some in
      let all = subst (All (λ (w : Waiting). ReplaysNoneTo told a call w.redo.last)) (take_all i a.waiting le) none in
      let here : ReplaysNoneTo told a call n = subst (λ (m : ℕ). ReplaysNoneTo told a call m) l.2 (All-contains (λ (w : Waiting). ReplaysNoneTo told a call w.redo.last) a.waiting l.0 all l.1) in
      here rs ws may

-- a call that isn't the only one of an announcement goes on with none
pub announces_none : (a : StoreData) (call : Call) (n : ℕ) → call ≡ Tell n → (a.calls ≡ [] → IsContiguousEnd a.waiting a.reproduced n → ⊥) → (m : ℕ) → IsContiguousEnd a.waiting a.reproduced m → IsApart (announce_calls m) a.calls call
announces_none a call n is not m end left goes =
    let only = only_call (Tell m) call a.calls left goes in
    let both : Tell n ≡ Tell m = sym is ∙ only.1 in
    let same : m ≡ n = cc in
    not only.0 (subst (λ (k : ℕ). IsContiguousEnd a.waiting a.reproduced k) same end)

-- a call that tells nothing announces nothing
pub announces_not : (a : StoreData) (call : Call) → ((n : ℕ) → call ≢ Tell n) → (m : ℕ) → IsContiguousEnd a.waiting a.reproduced m → IsApart (announce_calls m) a.calls call
announces_not a call none m end left goes = none m (only_call (Tell m) call a.calls left goes).1

pub announces_at : (a : StoreData) (call : Call) (n : ℕ) → call ≡ Tell n → IsContiguousEnd a.waiting a.reproduced n → a.calls ≡ [] → Announces a call n
announces_at a call n is end none = subst (λ (c : Call). Announces a c n) (sym is) (announces_by a n end none)

-- ---- what is said of a value that may be there
pub some_by : {A : Type 0} {P Q : A → Type 0} (o : Option A) → ((x : A) → P x → Q x) → IfSome o P → IfSome o Q
some_by None f h = tt
some_by (Some x) f h = f x h

pub none_by : {A : Type 0} {P Q : Type 0} (o : Option A) → (P → Q) → IfNone o P → IfNone o Q
none_by None f h = f h
none_by (Some x) f h = tt

pub false_not : IsTrue false → ⊥
false_not e = let f : false ≡ true = e in absurd (cc)
