-- The lists of calls that open an image, part by part.
use Rattle.std.proofs.Common.{◌≡◌, ℕ, zero, suc, ◌+◌, ◌*◌, ◌/◌, ◌<◌, ◌≤◌, Bool, true, false, cond, List, [], ◌∷◌, ◌++◌, length, get_or, slice_index, refl, sym, ap, ◌∙◌, arith, add-one, append-nil}
use Rattle.std.specs.List.{range_with_len, filter}
use Rattle.std.proofs.lemmas.List.{length-map}
use Rattle.std.proofs.lemmas.List.Elements.{filter-append, All-push, All-map, All-weaker}
use Rattle.std.proofs.lemmas.List.FromFn.{get_or-range_with_len, get_or-enumerate_from}
use Rattle.dude_base.specs.declared.sizes.Sizes.{Sizes}
use Rattle.dude_base.specs.Image.{home_word}
use Rattle.pmem_trait.specs.declared.call.Call.TheVariants.{Fence}
use Rattle.pmem_trait.specs.Sights.{Sight, OneCall, CallsMade, CallsMade.none}
use Rattle.pmem_trait.specs.Groups.{put_pairs, flush_lines, group_calls, LinesFit, PlacesFit}
use Rattle.pmem_trait.proofs.GroupRuns.{group_stops_in_puts, group_stops_in_flushes, group_made}
use Rattle.dude_recover.specs.OpeningCalls.{home_puts, home_lines, is_head_over, clear_puts, clear_calls}

-- the i-th put and the i-th line of the home, and the i-th put that clears
pub home_put_at : (s : Sizes) (words : List ℕ) (i at : ℕ) → i < length words → at ≡ home_word s i → get_or (home_puts s words) i (0, 0) ≡ (at, get_or words i 0)
home_put_at s words i at lt is = get_or-enumerate_from (home_word s 0) words i (0, 0) lt ∙ ap (λ (k : ℕ). (k, get_or words i 0)) (omega arith)

pub home_line_at : (s : Sizes) (i at : ℕ) → i < s.pages * 8 → at ≡ home_word s (i * 8) → get_or (home_lines s) i 0 ≡ at / 8
home_line_at s i at lt is = get_or-range_with_len (home_word s 0 / 8) (s.pages * 8) i 0 lt ∙ omega arith

pub clear_put_at : (lines : List ℕ) (i : ℕ) → i < length lines → get_or (clear_puts lines) i (0, 0) ≡ (get_or lines i 0 * 8, 0)
clear_put_at [] i lt = absurd (omega arith)
clear_put_at (l ∷ ls) zero lt = ap (λ (k : ℕ). (k, 0)) (omega arith)
clear_put_at (l ∷ ls) (suc i) lt = clear_put_at ls i (omega arith)

pub length-clear_puts : (lines : List ℕ) → length (clear_puts lines) ≡ length lines
length-clear_puts lines = length-map lines (λ (line : ℕ). (8 * line, 0))

-- one number more of a range
range_more : (a n : ℕ) → range_with_len a (suc n) ≡ range_with_len a n ++ (a + n) ∷ []
range_more a zero = ap (λ (x : ℕ). x ∷ []) (omega arith)
range_more a (suc n) = ap (λ (l : List ℕ). a ∷ l) (range_more (a + 1) n ∙ ap (λ (x : ℕ). range_with_len (a + 1) n ++ x ∷ []) (omega arith))

-- one cell more: its line is added where its tag is that of a head over the number
pub lines_next : (number tag n line : ℕ) (content old new : List ℕ) → slice_index content (8 * line) ≡ tag → 2 + n ≡ line
    → old ≡ filter (λ line. is_head_over number (slice_index content (8 * line))) (range_with_len 2 n) → new ≡ old ++ cond (is_head_over number tag) (line ∷ []) []
    → new ≡ filter (λ line. is_head_over number (slice_index content (8 * line))) (range_with_len 2 (n + 1))
lines_next number tag n line content old new tag_is line_is before is =
    let test : ℕ → Bool = λ line. is_head_over number (slice_index content (8 * line)) in
    is ∙ (ap (λ (t : ℕ). old ++ cond (is_head_over number t) (line ∷ []) []) (sym tag_is)
    ∙ (ap (λ (l : List ℕ). l ++ cond (test line) (line ∷ []) []) before
    ∙ (ap (λ (x : ℕ). filter test (range_with_len 2 n) ++ cond (test x) (x ∷ []) []) (sym line_is)
    ∙ (sym (filter-append test (range_with_len 2 n) ((2 + n) ∷ []))
    ∙ (ap (filter test) (sym (range_more 2 n)) ∙ ap (λ (k : ℕ). filter test (range_with_len 2 k)) (sym (add-one n)))))))

pub fit_next : (len line : ℕ) (head : Bool) (old new : List ℕ) → LinesFit len old → 8 * line + 8 ≤ len → new ≡ old ++ cond head (line ∷ []) [] → LinesFit len new
fit_next len line head old new fit here is = rw is (by head)
  where
    by : (b : Bool) → LinesFit len (old ++ cond b (line ∷ []) [])
    by true = All-push (λ (l : ℕ). 8 * l + 8 ≤ len) old line fit here
    by false = rw (append-nil old) fit

pub clears_fit : (len : ℕ) (lines : List ℕ) → LinesFit len lines → PlacesFit len (clear_puts lines)
clears_fit len lines fit = All-map (λ (w : ℕ × ℕ). w.0 < len) (λ (line : ℕ). (8 * line, 0)) lines (All-weaker (λ (l : ℕ). 8 * l + 8 ≤ len) (λ (l : ℕ). 8 * l < len) (λ l whole. omega arith) lines fit)

-- the clearing of some lines is a group
clear_group : (ls : List ℕ) → 0 < length ls → clear_calls ls ≡ group_calls (clear_puts ls) ls
clear_group [] some = absurd (omega arith)
clear_group (l ∷ ls) some = refl

pub clear_none : (ls : List ℕ) {s : Sight} → length ls ≡ 0 → CallsMade (clear_calls ls) true s s
clear_none [] empty = none
clear_none (l ∷ ls) empty = absurd (omega arith)

pub clear_stops_in_puts : (ls : List ℕ) {s t : Sight} → 0 < length ls → CallsMade (put_pairs (clear_puts ls)) false s t → CallsMade (clear_calls ls) false s t
clear_stops_in_puts ls some put = rw (clear_group ls some) (group_stops_in_puts (clear_puts ls) ls put)

pub clear_stops_in_flushes : (ls : List ℕ) {s t u : Sight} → 0 < length ls → CallsMade (put_pairs (clear_puts ls)) true s t → CallsMade (flush_lines ls) false t u → CallsMade (clear_calls ls) false s u
clear_stops_in_flushes ls some put flushed = rw (clear_group ls some) (group_stops_in_flushes (clear_puts ls) ls put flushed)

pub clear_made : (ls : List ℕ) {ok : Bool} {s t u v : Sight} → 0 < length ls → CallsMade (put_pairs (clear_puts ls)) true s t → CallsMade (flush_lines ls) true t u → OneCall Fence ok u v → CallsMade (clear_calls ls) ok s v
clear_made ls some put flushed fenced = rw (clear_group ls some) (group_made (clear_puts ls) ls put flushed fenced)

pub ruleset clearing = (clear_none, clear_stops_in_puts, clear_stops_in_flushes, clear_made)
