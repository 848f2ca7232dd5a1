-- What is seen of two lists that say the same and a hand, as the map that contracts speak of.
use Rattle.std.proofs.Common.{◌≡◌, ℕ, ◌+◌, ◌%◌, ◌<◌, ◌≤◌, ◌↔◌, ◌∙◌, Bool, true, false, cond, List, length, Option, Some, None, IsNone, is_some, slice_get, slice_set, slice_index_or, refl, ap, sym, subst, arith, ⊎_elim, length-set, replicate}
use Rattle.std.proofs.Math.Nat.{eq-or-lt_of_le}
use Rattle.std.proofs.lemmas.List.{length-replicate}
use Rattle.std.proofs.lemmas.Nat.{mod_below}
use Rattle.std.proofs.lemmas.Option.{slice_get_within, slice_get_read, same_Some, none-some}
use Rattle.shadow_pages.specs.PageMap.{PageMap, Holds, IsIn, IsOccupied, IsNextOccupied, IsVictim, empty_map, frame_at}
use Rattle.shadow_pages.specs.Pager.{IsSound}
use Rattle.shadow_pages.proofs.Distances.{none_occupied}
use Rattle.shadow_pages.proofs.Pagers.{Has, fresh_sound, same_value, unset_has}

abbrev pub map_of : List (Option ℕ) → ℕ → ℕ → PageMap
map_of fs pages hand = record { pages = pages; frames = fs; hand = hand }

pub never : {A : Type 0} → true ≡ false → A
never e = let zeroth : ℕ = 0 in absurd (none-some zeroth (ap (λ (b : Bool). cond b None (Some zeroth)) e))

pub from_some : (x : Option ℕ) → is_some x ≡ true → (page : ℕ) × (x ≡ Some page)
from_some None e = never (sym e)
from_some (Some page) e = (page, refl)

pub from_none : (x : Option ℕ) → is_some x ≡ false → x ≡ None
from_none None e = refl
from_none (Some page) e = never e

pub none_unless : (x : Option ℕ) → ((page : ℕ) → ¬ (x ≡ Some page)) → is_some x ≡ false
none_unless None other = refl
none_unless (Some page) other = absurd (other page refl)

pub page_of : (fs ps : List (Option ℕ)) (hand : ℕ) (map : PageMap) (page : ℕ) → IsSound fs ps hand → map_of fs (length ps) hand ≡ map →
    (is : IsIn map page) → Has ps page is.frame
page_of fs ps hand map page sound seen is =
    let P : PageMap → Type 0 = λ m. Holds m is.frame page in
    (sound.same is.frame page).0 (subst P (sym seen) is.holds)

pub entry_of : (ps : List (Option ℕ)) (page : ℕ) (x y : Option ℕ) → page < length ps → x ≡ slice_index_or ps page x → x ≡ y → slice_get ps page ≡ Some y
entry_of ps page x y below read is = slice_get_read ps (length ps) page x refl below read ∙ ap (λ z. Some z) is

pub never_in : (fs ps : List (Option ℕ)) (hand : ℕ) (map : PageMap) (page : ℕ) → IsSound fs ps hand → map_of fs (length ps) hand ≡ map →
    slice_get ps page ≡ Some None → ¬ IsIn map page
never_in fs ps hand map page sound seen empty is =
    none-some is.frame (same_Some None (Some is.frame) (sym empty ∙ page_of fs ps hand map page sound seen is))

pub page_below : (fs ps : List (Option ℕ)) (hand : ℕ) (map : PageMap) (page : ℕ) → IsSound fs ps hand → map_of fs (length ps) hand ≡ map →
    IsIn map page → page < length ps
page_below fs ps hand map page sound seen is = slice_get_within ps page (Some is.frame) (page_of fs ps hand map page sound seen is)

pub none_in : (fs ps : List (Option ℕ)) (hand : ℕ) (map : PageMap) (page : ℕ) (x : Option ℕ) → IsSound fs ps hand → map_of fs (length ps) hand ≡ map →
    slice_get ps page ≡ Some x → IsNone x ↔ (¬ IsIn map page)
none_in fs ps hand map page x sound seen entry =
    let P : ℕ → PageMap → Type 0 = λ f m. Holds m f page in (
      (λ none is. none-some is.frame (sym (from_none x none) ∙ same_Some x (Some is.frame) (sym entry ∙ page_of fs ps hand map page sound seen is))),
      (λ out. none_unless x (λ f h. out (record {
        frame = f;
        holds = subst (P f) seen ((sound.same f page).1 (entry ∙ ap (λ y. Some y) h));
      }))),
    )

pub dropped_seen : (fs ps : List (Option ℕ)) (hand : ℕ) (map : PageMap) (f p g : ℕ) → IsSound fs ps hand → map_of fs (length ps) hand ≡ map →
    Has ps p f → Holds map g p →
    map_of (slice_set fs f None) (length (slice_set ps p None)) hand ≡ map_of (slice_set map.frames g None) map.pages map.hand
dropped_seen fs ps hand map f p g sound seen entry holds =
    let same : f ≡ g = same_value ps p f g entry (page_of fs ps hand map p sound seen (record { frame = g; holds = holds })) in
    ap (λ n. map_of (slice_set fs f None) n hand) (length-set ps p None)
    ∙ (ap (λ k. map_of (slice_set fs k None) (length ps) hand) same
    ∙ ap (λ (m : PageMap). map_of (slice_set m.frames g None) m.pages m.hand) seen)

pub dropped_out : (fs ps : List (Option ℕ)) (hand f p pages : ℕ) → IsSound fs ps hand → Has ps p f → ¬ IsIn (map_of (slice_set fs f None) pages hand) p
dropped_out fs ps hand f p pages sound entry is =
    let inside = slice_get_within fs f (Some p) ((sound.same f p).1 entry) in
    let other = (unset_has fs f is.frame p inside).0 is.holds in
    other.0 (same_value ps p is.frame f ((sound.same is.frame p).0 other.1) entry)

pub index_below : (xs : List (Option ℕ)) (n hand i : ℕ) → n ≡ length xs → hand < length xs → i % n < length xs
index_below xs n hand i size in_range =
    let some : 0 < n = omega arith in
    let below : i % n < n = mod_below i n some in
    omega (arith, below, size)

pub read_at : (xs : List (Option ℕ)) (n hand d : ℕ) (x : Option ℕ) → n ≡ length xs → hand < length xs →
    x ≡ slice_index_or xs ((hand + d) % n) x → slice_get xs ((hand + d) % length xs) ≡ Some x
read_at xs n hand d x size in_range is =
    let P : ℕ → Type 0 = λ k. slice_get xs ((hand + d) % k) ≡ Some x in
    subst P size (slice_get_read xs (length xs) ((hand + d) % n) x refl (index_below xs n hand (hand + d) size in_range) is)

-- no frame at a lesser distance is occupied
abbrev pub FreeBefore : List (Option ℕ) → ℕ → ℕ → Type 0
FreeBefore fs hand d = (lesser : ℕ) → lesser < d → slice_get fs ((hand + lesser) % length fs) ≡ Some None

pub next_seen : (fs : List (Option ℕ)) (pages hand : ℕ) (map : PageMap) (n d : ℕ) (x : Option ℕ) → map_of fs pages hand ≡ map → n ≡ length fs →
    hand < length fs → d < n → x ≡ slice_index_or fs ((hand + d) % n) x → is_some x ≡ true → FreeBefore fs hand d → IsNextOccupied map d
next_seen fs pages hand map n d x seen size in_range below is some before =
    let page = from_some x some in
    let P : PageMap → Type 0 = λ m. IsNextOccupied m d in
    subst P seen (record {
      below = omega (arith, below, size);
      page = page.0;
      holds = read_at fs n hand d x size in_range is ∙ ap (λ y. Some y) page.1;
      earlier = before;
    })

pub occupied : (map : PageMap) (d : ℕ) → IsNextOccupied map d → IsOccupied map
occupied map d next = record { frame = frame_at map d; page = next.page; holds = next.holds }

pub one_more : (fs : List (Option ℕ)) (hand n d : ℕ) (x : Option ℕ) → n ≡ length fs → hand < length fs →
    x ≡ slice_index_or fs ((hand + d) % n) x → is_some x ≡ false → FreeBefore fs hand d → FreeBefore fs hand (d + 1)
one_more fs hand n d x size in_range is none before lesser less =
    let P : ℕ → Type 0 = λ k. slice_get fs ((hand + k) % length fs) ≡ Some None in
    let most : lesser ≤ d = omega arith in
    ⊎_elim
    (λ e. subst P (sym e) (read_at fs n hand d x size in_range is ∙ ap (λ y. Some y) (from_none x none)))
    (λ l. before lesser l)
    (eq-or-lt_of_le most)

pub all_free : (fs : List (Option ℕ)) (pages hand : ℕ) (map : PageMap) (n d : ℕ) → map_of fs pages hand ≡ map → n ≡ length fs → hand < length fs →
    n ≤ d → FreeBefore fs hand d → ¬ IsOccupied map
all_free fs pages hand map n d seen size in_range end before =
    let P : PageMap → Type 0 = λ m. ¬ IsOccupied m in
    subst P seen (none_occupied (map_of fs pages hand) in_range (λ lesser l. before lesser (omega (arith, l, size, end))))

-- what is read at this distance from the hand, of the map
pub entry_at : (fs : List (Option ℕ)) (pages hand : ℕ) (map : PageMap) (n d : ℕ) (x y : Option ℕ) → map_of fs pages hand ≡ map → n ≡ length fs →
    hand < length fs → x ≡ slice_index_or fs ((hand + d) % n) x → x ≡ y → slice_get map.frames (frame_at map d) ≡ Some y
entry_at fs pages hand map n d x y seen size in_range read is =
    let P : PageMap → Type 0 = λ m. slice_get m.frames (frame_at m d) ≡ Some y in
    subst P seen (read_at fs n hand d x size in_range read ∙ ap (λ z. Some z) is)

-- the next occupied frame has a page
pub next_has : (map : PageMap) (d : ℕ) → IsNextOccupied map d → ¬ (slice_get map.frames (frame_at map d) ≡ Some None)
next_has map d next empty = none-some next.page (same_Some None (Some next.page) (sym empty ∙ next.holds))

-- the victim, where the hand is set behind its frame
pub victim_seen : (fs : List (Option ℕ)) (pages hand : ℕ) (map : PageMap) (n d page : ℕ) → map_of fs pages hand ≡ map → n ≡ length fs →
    IsNextOccupied map d → Holds map (frame_at map d) page → IsVictim map (map_of fs pages ((hand + d + 1) % n)) page
victim_seen fs pages hand map n d page seen size next holds =
    let behind : hand + d + 1 ≡ hand + (d + 1) = omega arith in
    record {
      distance = d;
      next = next;
      holds = holds;
      after = ap (λ k. map_of fs pages ((hand + d + 1) % k)) size
          ∙ ap (λ i. map_of fs pages (i % length fs)) behind
          ∙ ap (λ (m : PageMap). map_of m.frames m.pages (frame_at m (d + 1))) seen;
    }

-- two lists of nothing say the same
pub fresh : (fs ps : List (Option ℕ)) (frames pages : ℕ) → 0 < frames → fs ≡ replicate frames None → ps ≡ replicate pages None → IsSound fs ps 0
fresh fs ps frames pages some is other = rw (is, other) (fresh_sound frames pages some)

-- they are seen as the empty map
pub fresh_seen : (fs ps : List (Option ℕ)) (frames pages : ℕ) → fs ≡ replicate frames None → ps ≡ replicate pages None → map_of fs (length ps) 0 ≡ empty_map pages frames
fresh_seen fs ps frames pages is other =
    ap (λ (xs : List (Option ℕ)). map_of xs (length ps) 0) is
    ∙ ap (λ n. map_of (replicate frames None) n 0) (ap (λ (xs : List (Option ℕ)). length xs) other ∙ length-replicate {A = Option ℕ} pages None)
