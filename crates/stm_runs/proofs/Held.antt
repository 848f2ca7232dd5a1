-- All passes of a run are held, whatever one of them does.
use Rattle.std.proofs.Common.{◌≡◌, ℕ, ◌+◌, ◌-◌, ◌<◌, ◌≤◌, List, [], ◌∷◌, ◌++◌, get_or, length, length-append, append-nil, refl, sym, ap, ◌∙◌, subst, arith}
use Rattle.std.specs.Prelude.{Option, Some}
use Rattle.std.specs.List.{All}
use Rattle.std.proofs.Math.ListN.{set}
use Rattle.std.proofs.lemmas.List.{length-set}
use Rattle.std.proofs.lemmas.List.Elements.{All-get_or, All-nil, All-pop, All-push, All-set}
use Rattle.core_events.specs.Events.{number, view_after}
use Rattle.core_events.specs.Keyed.{one_if}
use Rattle.core_events.specs.KeptThreads.{held_of}
use Rattle.core_events.specs.Partings.{both_of, thread_list}
use Rattle.core_events.specs.Telling.{HasAll}
use Rattle.core_events.specs.Views.{Part, View}
use Rattle.core_table.specs.Known.{Known}
use Rattle.core_table.specs.Layout.{TableSight}
use Rattle.core_table.specs.Seats.{opener}
use Rattle.stm_transactions.specs.Opening.{IsFirstPass}
use Rattle.stm_transactions.specs.Partings.{IsJoined, IsSplitOff}
use Rattle.stm_transactions.specs.Passes.{IsResting, PassSight, pass_view}
use Rattle.stm_runs.specs.Kept.{AreHeld, IsHeld, IsOther, StaysWith, share_of}

one_of : {X : Type 0} (ks : List (Known X)) → length ks ≡ 1 → (k : Known X) × (ks ≡ k ∷ [])
one_of [] e = absurd (omega (arith, e))
one_of (k ∷ []) e = (k, refl)
one_of (k ∷ l ∷ ks) e = absurd (omega (arith, e))

-- a pass that is joined gives its share to the other one
part_share : (o : Option ℕ) (e f : List ℕ) (s u n : ℕ) → 1 + length f + u ≡ 1 → one_if o + length (e ++ (thread_list (Some n) ++ f)) + (s + (u + (1 - one_if (Some n)))) ≡ one_if o + length e + s + 1
part_share o e f s u n h = let l = length-append e (n ∷ f) in omega (arith, l, h)

both_share : (v w : View) (n : ℕ) → w.part.thread ≡ Some n → share_of w ≡ 1 → share_of (both_of v w) ≡ share_of v + 1
both_share v w n its alone =
    let P : Option ℕ → Type 0 = λ (t : Option ℕ). one_if t + length w.part.ended + w.part.splits ≡ 1
    → one_if v.part.thread + length (v.part.ended ++ (thread_list t ++ w.part.ended)) + (v.part.splits + (w.part.splits + (1 - one_if t))) ≡ share_of v + 1 in
    subst P (sym its) (part_share v.part.thread v.part.ended w.part.ended v.part.splits w.part.splits n) alone

module _ {X K : Type 0} (t : TableSight K) where
  pub rests : (p : PassSight X) → IsHeld t p → IsResting t p
  rests p h = record { table = h.table; small = h.small; seat = one_of p.known h.seat; idle = h.idle; no_turn = h.no_turn; seated = h.seated; numbers = h.numbers }

  pub holds : (p : PassSight X) → IsResting t p → IsHeld t p
  holds p r = record { table = r.table; small = r.small; seat = ap (λ (ks : List (Known X)). length ks) r.seat.1; idle = r.idle; no_turn = r.no_turn; seated = r.seated; numbers = r.numbers }

  -- ---- one pass does something
  pub first_on : (p q : PassSight X) (others : List (PassSight X)) → AreHeld t p others → StaysWith t p q → AreHeld t q others
  first_on p q others h s = record {
    held = holds q s.rests;
    each = h.each;
    share = ap (λ (r : Part). held_of r + r.splits + length others) s.part ∙ h.share;
  }

  other_on : (p q : PassSight X) → IsOther t p → StaysWith t p q → IsOther t q
  other_on p q h s = record { held = holds q s.rests; alone = ap (λ (r : Part). held_of r + r.splits) s.part ∙ h.alone }

  pub others_on : (first p q : PassSight X) (others : List (PassSight X)) (k : ℕ) → AreHeld t first others → IsOther t p → StaysWith t p q → AreHeld t first (set others k q)
  others_on first p q others k h o s = record {
    held = h.held;
    each = All-set (IsOther t) others k q (other_on p q o s) h.each;
    share = ap (λ (n : ℕ). share_of (pass_view first) + n) (length-set others k q) ∙ h.share;
  }

  -- ---- a pass is split off, or joined
  pub split_on : (draws : ℕ) (p q r : PassSight X) (others : List (PassSight X)) → AreHeld t p others → IsSplitOff t draws p q r → AreHeld t q (others ++ r ∷ [])
  split_on draws p q r others h s = record {
    held = holds q s.rests;
    each = All-push (IsOther t) others r h.each alone;
    share =
        let had : share_of (pass_view p) + length others ≡ t.setup.threads = h.share in
        let some : 0 < (pass_view p).part.splits = subst (λ (n : ℕ). 0 < n) (sym (rests p h.held).numbers.splits) s.some in
        let left : (pass_view q).part.splits ≡ (pass_view p).part.splits - 1 = ap (λ (v : View). v.part.splits) s.view in
        let kept : held_of (pass_view q).part ≡ held_of (pass_view p).part = ap (λ (v : View). held_of v.part) s.view in
        let long : length (others ++ r ∷ []) ≡ length others + 1 = length-append others (r ∷ []) in
        omega (arith, had, some, left, kept, long);
  }
    where
      alone : IsOther t r
      alone = record { held = holds r s.other; alone = ap share_of s.new_view }

  pub join_on : (p q r : PassSight X) (all others : List (PassSight X)) → all ≡ others ++ r ∷ [] → AreHeld t p all → IsJoined t p r q → AreHeld t q others
  join_on p q r all others is h j = record {
    held = holds q j.rests;
    each = parts.0;
    share =
        let had : share_of (pass_view p) + length all ≡ t.setup.threads = h.share in
        let more : share_of (pass_view q) ≡ share_of (pass_view p) + 1 = ap share_of j.view ∙ both_share (pass_view p) (pass_view r) r.numbers.thread (rests r other.held).numbers.of.its other.alone in
        let long : length all ≡ length others + 1 = ap (λ (xs : List (PassSight X)). length xs) is ∙ length-append others (r ∷ []) in
        omega (arith, had, more, long);
  }
    where
      parts : All (IsOther t) others × IsOther t r
      parts = All-pop (IsOther t) all others (Some r) is h.each

      other : IsOther t r
      other = parts.1

  pub join_none : (p : PassSight X) (all others : List (PassSight X)) → all ≡ others ++ [] → AreHeld t p all → AreHeld t p others
  join_none p all others is h = subst (λ (xs : List (PassSight X)). AreHeld t p xs) (is ∙ append-nil others) h

  pub last_rests : (p r : PassSight X) (all others : List (PassSight X)) → all ≡ others ++ r ∷ [] → AreHeld t p all → IsResting t r
  last_rests p r all others is h =
      let parts : All (IsOther t) others × IsOther t r = All-pop (IsOther t) all others (Some r) is h.each in
      let other : IsOther t r = parts.1 in
      rests r other.held

  pub other_rests : (first : PassSight X) (others : List (PassSight X)) (k : ℕ) (d : PassSight X) → k < length others → AreHeld t first others → IsResting t (get_or others k d)
  other_rests first others k d lt h = let o : IsOther t (get_or others k d) = All-get_or (IsOther t) others k d lt h.each in rests (get_or others k d) o.held

  pub at_rests : (first : PassSight X) (others : List (PassSight X)) (k : ℕ) (x : PassSight X) → k < length others → x ≡ get_or others k x → AreHeld t first others → IsResting t x
  at_rests first others k x lt is h = subst (λ (p : PassSight X). IsResting t p) (sym is) (other_rests first others k x lt h)

  -- ---- the beginning and the end
  pub begun : (p : PassSight X) → 1 ≤ t.setup.threads → IsFirstPass t p → AreHeld t p []
  begun p some f = record {
    held = holds p f.rests;
    each = All-nil (IsOther t);
    share = (let is : share_of (pass_view p) ≡ share_of (view_after t.setup number (opener t.setup) p.numbers.thread) = ap share_of f.view in omega (arith, is, some));
  }

  pub has_all : (p : PassSight X) → AreHeld t p [] → HasAll t.setup (pass_view p)
  has_all p h = let s = h.share in omega (arith, s)
