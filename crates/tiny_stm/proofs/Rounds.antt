-- Rounds over the frames, in each of which a page was found pinned.
use Rattle.std.proofs.Common.{◌≡◌, ℕ, ◌+◌, ◌%◌, ◌<◌, length, refl, sym, ap, ◌∙◌, subst, arith}
use Rattle.std.specs.Prelude.{Some, slice_get}
use Rattle.std.proofs.Math.Nat.{mod-add-mod}
use mathlib.Core.Logic.{dite}
use native.Mathlib.Decide.{ℕ_discrete}
use Rattle.core_events.specs.Setups.{Setup, frame_in}
use Rattle.core_events.specs.Keyed.{find}
use Rattle.core_events.specs.Views.{View}
use Rattle.shadow_pages.specs.PageMap.{PageMap, Holds, IsOneToOne, frame_at}
use Rattle.shadow_pages.proofs.Distances.{some_distance}
use Rattle.tiny_stm.specs.Frames.{FoundPinned, KeepsAllPinned, KeepsPinned}
use Rattle.tiny_stm.specs.Paging.{HasPins, IsMapOf}
use Rattle.tiny_stm.specs.declared.pinned_page.PinnedPage.{PinnedPage}

-- the view keeps a pinned entry of the page that is in the frame
abbrev pub KeepsAt : View → PageMap → ℕ → Type 0
KeepsAt v map f = (page : ℕ) × (n : ℕ) × Holds map f page × (find v.paging.entries page ≡ Some n) × (frame_in n ≡ f) × HasPins n

-- so many frames from the hand on were found pinned, and the hand went over them
pub record AfterRounds (first : PageMap) (count : ℕ) (v : View) (map : PageMap) : Type 0 where
  pub frames : map.frames ≡ first.frames
  pub hand : map.hand ≡ frame_at first count
  pub each : (j : ℕ) → j < count → KeepsAt v first (frame_at first j)

pub no_round : (map : PageMap) (v : View) → map.hand ≡ frame_at map 0 → AfterRounds map 0 v map
no_round map v here = record { frames = refl; hand = here; each = λ j lt. absurd (omega arith) }

pub round_more : (first map new : PageMap) (v w : View) (count : ℕ) (pinned : PinnedPage) → AfterRounds first count v map → IsOneToOne map → FoundPinned map new v w pinned → AfterRounds first (count + 1) w new
round_more first map new v w count pinned a one found =
    let new_hand : new.hand ≡ frame_at map 1 = ap (λ (m : PageMap). m.hand) found.map_is in
    let same_size : length map.frames ≡ length first.frames = ap (λ fs. length fs) a.frames in record {
      frames = ap (λ (m : PageMap). m.frames) found.map_is ∙ a.frames;
      hand = new_hand ∙ (ap (λ (n : ℕ). (map.hand + 1) % n) same_size
          ∙ (ap (λ (n : ℕ). (n + 1) % length first.frames) a.hand
          ∙ (mod-add-mod (first.hand + count) (length first.frames) 1 ∙ ap (λ (n : ℕ). n % length first.frames) (let e : first.hand + count + 1 ≡ first.hand + (count + 1) = omega arith in e))));
      each = λ j lt. dite (ℕ_discrete j count)
          (λ e. let at : map.hand ≡ frame_at first j = a.hand ∙ ap (frame_at first) (sym e) in
          subst (KeepsAt w first) at (pinned.page, pinned.seen, subst (λ fs. slice_get fs map.hand ≡ Some (Some pinned.page)) a.frames found.holds, found.kept, found.names, found.pins))
          (λ less. let k = a.each j (omega arith) in let f : ℕ = frame_at first j in
          dite (ℕ_discrete k.0 pinned.page)
          (λ same. let at : map.hand ≡ f = one.once map.hand f pinned.page found.holds (subst (λ (p : ℕ). Holds map f p) same (subst (λ fs. slice_get fs f ≡ Some (Some k.0)) (sym a.frames) k.2)) in
          (pinned.page, pinned.seen, subst (λ (p : ℕ). Holds first f p) same k.2, found.kept, found.names ∙ at, found.pins))
          (λ other. (k.0, k.1, k.2, found.others k.0 other ∙ k.3, k.4, k.5)));
    }

-- all frames were found pinned
pub all_rounds : (z : Setup) (first map : PageMap) (v : View) (count page seen : ℕ) → IsMapOf z first → AfterRounds first count v map → count ≡ z.frames → find v.paging.entries page ≡ Some seen → HasPins seen → KeepsAllPinned z v page seen
all_rounds z first map v count page seen m a all last pins = record {
  each = λ f lt.
      let frames = m.frames in let at = some_distance first.hand (length first.frames) f m.one_to_one.hand (omega arith) in
      let k = a.each at.distance (let b = at.below in omega arith) in
      subst (KeepsPinned v) at.is (k.0, k.1, k.3, k.4, k.5);
  last = last;
  pins = pins;
}
