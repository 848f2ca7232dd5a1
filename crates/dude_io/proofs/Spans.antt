-- Lines that are written at once, and the bytes from the first one to the last.
use Rattle.std.proofs.Common.{ℕ, zero, suc, ◌≡◌, ◌≢◌, ◌+◌, ◌-◌, ◌*◌, ◌<◌, ◌≤◌, ◌∙◌, List, [], ◌∷◌, length, take, drop, get_or, map, slice_index, sym, ap, ⊎_elim, arith, All, length-take, length-append}
use Rattle.std.proofs.lemmas.Bool.{cases_order}
use Rattle.std.proofs.lemmas.List.{get_or-map, get_or-take, get_or_default, take_all, take_more}
use Rattle.std.proofs.lemmas.List.Elements.{All-append}
use Rattle.std.proofs.lemmas.List.Quantifiers.{all_pairs_push}
use Rattle.std.proofs.lemmas.Slice.{between_is, between-put_mid, take-put_mid_below, drop-put_mid}
use borrow.Rule.Slice.PartMut.{put_mid}
use Rattle.dude_io.specs.declared.line.Line.{Line}
use Rattle.dude_io.specs.Line.{IsSpan, FillsSpan, first_number, lines_spanned, lines_bytes, line_bytes, line_at}

-- the number of a line, by its place
pub number_at : (lines : List Line) (k : ℕ) (d : Line) → k < length lines → slice_index (map (λ line. line.number) lines) k ≡ (get_or lines k d).number
number_at lines k d lt = get_or-map (λ (line : Line). line.number) lines k d 0 lt

-- no line lies before the first one, or too far behind it
pub from_first : (lines : List Line) → IsSpan lines → (k : ℕ) (d : Line) → k < length lines → (first_number lines ≤ (get_or lines k d).number) × ((get_or lines k d).number < first_number lines + 1024)
from_first lines span zero d lt = let first = number_at lines 0 d lt in (omega arith, omega arith)
from_first lines span (suc k) d lt =
    let first = number_at lines 0 d (omega (arith, lt)) in
    let near = span.near 0 (suc k) d (omega arith) lt in
    (omega (arith, first, near.0), omega (arith, first, near.1))

-- each line lies at or before the last one
pub to_last : (lines : List Line) → IsSpan lines → (k : ℕ) (d : Line) → k < length lines → (get_or lines k d).number + 1 ≤ first_number lines + lines_spanned lines
to_last lines span k d lt =
    let number = number_at lines (length lines - 1) d (omega (arith, lt)) in
    let from = from_first lines span (length lines - 1) d (omega (arith, lt)) in
    ⊎_elim
    (λ (e : k ≡ length lines - 1). let here = ap (λ (n : ℕ). (get_or lines n d).number) e in omega (arith, here, number, from.0))
    (λ other. ⊎_elim
    (λ (less : k < length lines - 1). let near = span.near k (length lines - 1) d less (omega (arith, lt)) in omega (arith, near.0, number, from.0))
    (λ (more : length lines - 1 < k). absurd (omega (arith, lt, more)))
    other)
    (cases_order k (length lines - 1))

-- one more line behind those that are written at once
pub span_more : (lines : List Line) (count first last : ℕ) (d : Line) → count < length lines → IsSpan (take count lines) → All (λ line. (first ≤ line.number) × (line.number ≤ last)) (take count lines) → last < (get_or lines count d).number → (get_or lines count d).number < first + 1024 → IsSpan (take (count + 1) lines)
span_more lines count first last d lt span bounds behind near =
    let long = length-take count lines in
    rw (take_more lines count d lt) record {
      some = let some = span.some in let both = length-append (take count lines) (get_or lines count d ∷ []) in omega (arith, some, both);
      near = all_pairs_push (λ (a b : Line). (a.number < b.number) × (b.number < a.number + 1024)) (take count lines) (get_or lines count d) span.near (λ k e below. let at = bounds k e below in (omega (arith, at.1, behind), omega (arith, at.0, near)));
    }

-- and all of them lie between the first one and it
pub bounds_more : (lines : List Line) (count first last : ℕ) (d : Line) → count < length lines → All (λ line. (first ≤ line.number) × (line.number ≤ last)) (take count lines) → first ≤ last → last < (get_or lines count d).number → All (λ line. (first ≤ line.number) × (line.number ≤ (get_or lines count d).number)) (take (count + 1) lines)
bounds_more lines count first last d lt bounds ordered behind =
    let x = get_or lines count d in
    rw (take_more lines count d lt) (All-append (λ line. (first ≤ line.number) × (line.number ≤ x.number)) (take count lines) (x ∷ [])
    (λ k e below. let at = bounds k e below in (at.0, omega (arith, at.1, behind)))
    (λ k e below. let only : k ≡ 0 = omega (arith, below) in rw only (omega (arith, ordered, behind), omega arith)))

-- the bytes of a line that lie before those written, or behind them, stay; and those written are there
pub line_before : (n start size : ℕ) (bytes piece : List ℕ) → 64 * n + 64 ≤ start → start ≤ length bytes → line_at n (put_mid start size bytes piece) ≡ line_at n bytes
line_before n start size bytes piece before inside =
    between_is (put_mid start size bytes piece) (64 * n) (64 * n + 64) ∙ ap (drop (64 * n)) (take-put_mid_below start size bytes piece (64 * n + 64) before inside) ∙ sym (between_is bytes (64 * n) (64 * n + 64))

pub line_behind : (n start size : ℕ) (bytes piece : List ℕ) → start + size ≤ 64 * n → start ≤ length bytes → length piece ≡ size → line_at n (put_mid start size bytes piece) ≡ line_at n bytes
line_behind n start size bytes piece behind inside long =
    ap (take (64 * n + 64 - 64 * n)) (drop-put_mid start size bytes piece (64 * n) behind inside long)

pub line_there : (n size : ℕ) (bytes piece : List ℕ) → 64 * n ≤ length bytes → length piece ≡ 64 → line_at n (put_mid (64 * n) size bytes piece) ≡ piece
line_there n size bytes piece inside long = between-put_mid (64 * n) size bytes piece (64 * n + 64) inside (omega (arith, long))

-- those of another line stay
pub line_stays : (n m size : ℕ) (bytes piece : List ℕ) → n ≢ m → size ≡ 64 → 64 * m ≤ length bytes → length piece ≡ 64 → line_at n (put_mid (64 * m) size bytes piece) ≡ line_at n bytes
line_stays n m size bytes piece other line inside long = ⊎_elim
    (λ (e : n ≡ m). absurd (other e))
    (λ rest. ⊎_elim
    (λ (less : n < m). line_before n (64 * m) size bytes piece (omega (arith, less)) inside)
    (λ (more : m < n). line_behind n (64 * m) size bytes piece (omega (arith, more, line)) inside (omega (arith, long, line)))
    rest)
    (cases_order n m)

-- a further line is stored at its place, among the bytes from the first one to the last
module _ (lines : List Line) (k number first size : ℕ) (d : Line) (bytes piece : List ℕ) (lt : k < length lines) (its : number ≡ (get_or lines k d).number) (span : IsSpan lines) (from : first_number lines ≡ first) (whole : length bytes ≡ 64 * lines_spanned lines) (line : size ≡ 64) (long : length piece ≡ 64) where
  inside : 64 * (number - first) ≤ length bytes
  inside = let last = to_last lines span k d lt in omega (arith, last, from, whole, its)

  -- no two lines have one place
  apart : (i : ℕ) (e : Line) → i < length (take k lines) → (get_or (take k lines) i e).number - first ≢ number - first
  apart i e below same =
      let fewer : i < k = omega (arith, below, length-take k lines) in
      let here = ap (λ (l : Line). l.number) (get_or-take k lines i e fewer) in
      let there = ap (λ (l : Line). l.number) (get_or_default lines k e d lt) in
      let near = span.near i k e fewer lt in
      let low = from_first lines span i e (omega (arith, fewer, lt)) in
      omega (arith, same, here, there, its, near.0, low.0, from)

  -- so those before it stay as they were noted
  pub noted_more : piece ≡ line_bytes (get_or lines k d) → All (λ l. line_at (l.number - first) bytes ≡ line_bytes l) (take k lines) → All (λ l. line_at (l.number - first) (put_mid (64 * (number - first)) size bytes piece) ≡ line_bytes l) (take (k + 1) lines)
  noted_more is noted =
      let x = get_or lines k d in
      let new = put_mid (64 * (number - first)) size bytes piece in
      rw (take_more lines k d lt) (All-append (λ (l : Line). line_at (l.number - first) new ≡ line_bytes l) (take k lines) (x ∷ [])
      (λ i e below. line_stays _ (number - first) size bytes piece (apart i e below) line inside long ∙ noted i e below)
      (λ i e below. let only : i ≡ 0 = omega (arith, below) in rw only (ap (λ (m : ℕ). line_at (m - first) new) (sym its) ∙ line_there (number - first) size bytes piece inside long ∙ is)))

  -- and those that were not noted stay as the words have them
  pub between_more : (base : List ℕ) → ((n : ℕ) → All (λ l. l.number ≢ first + n) (take k lines) → line_at n bytes ≡ line_at n base) → (n : ℕ) → All (λ l. l.number ≢ first + n) (take (k + 1) lines) → line_at n (put_mid (64 * (number - first)) size bytes piece) ≡ line_at n base
  between_more base others_stay n others =
      line_stays n (number - first) size bytes piece
      (λ same.
      let last = others k d (omega (arith, lt, length-take (k + 1) lines)) in
      let here = ap (λ (l : Line). l.number) (get_or-take (k + 1) lines k d (omega arith)) in
      let low = from_first lines span k d lt in
      last (omega (arith, here, same, its, low.0, from)))
      line inside long
      ∙ others_stay n (λ i e below same.
      let fewer : i < k = omega (arith, below, length-take k lines) in
      let here = ap (λ (l : Line). l.number) (get_or-take k lines i e fewer) in
      let there = ap (λ (l : Line). l.number) (get_or-take (k + 1) lines i e (omega (arith, fewer))) in
      others i e (omega (arith, fewer, lt, length-take (k + 1) lines)) (omega (arith, here, there, same)))

-- once all are stored, the bytes are filled
pub filled : (lines : List Line) (k first : ℕ) (words bytes : List ℕ) → length lines ≤ k → first_number lines ≡ first → All (λ l. line_at (l.number - first) bytes ≡ line_bytes l) (take k lines) → ((n : ℕ) → All (λ l. l.number ≢ first + n) (take k lines) → line_at n bytes ≡ line_at n (lines_bytes first (lines_spanned lines) words)) → FillsSpan lines words bytes
filled lines k first words bytes all from noted others_stay =
    let all_noted = rw (take_all k lines all) at noted in
    let all_between = rw (take_all k lines all) at others_stay in
    record {
      noted = λ i d lt. ap (λ (f : ℕ). line_at ((get_or lines i d).number - f) bytes) from ∙ all_noted i d lt;
      between = λ n others. all_between n (λ i d lt same. others i d lt (same ∙ ap (λ (f : ℕ). f + n) (sym from))) ∙ ap (λ (f : ℕ). line_at n (lines_bytes f (lines_spanned lines) words)) (sym from);
    }
