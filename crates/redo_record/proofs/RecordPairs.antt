-- The words and the lines of a record's cells, as arrays.
use Rattle.std.proofs.Common.{◌≡◌, ℕ, Bool, true, false, zero, suc, ◌+◌, ◌-◌, ◌*◌, ◌<◌, ◌≤◌, List, [], ◌∷◌, ◌++◌, length, take, drop, flat_map, slice_index, refl, sym, ap, ◌∙◌, subst, arith, append_assoc, take_all}
use Rattle.std.specs.Prelude.{slice_set}
use Rattle.std.specs.List.{range_with_len, enumerate_from}
use Rattle.std.proofs.lemmas.List.{take_more_set}
use Rattle.std.proofs.lemmas.List.Elements.{All-append, All-nil, All-tail, All-cons}
use Rattle.std.proofs.lemmas.List.FromFn.{length-enumerate_from, get_or-enumerate_from, length-map-range_with_len, get_or-map-range_with_len, map-range_with_len_more}
use Rattle.std.proofs.Math.Seq.{take-suc}
use Rattle.dude_base.specs.declared.sizes.Sizes.{Sizes}
use Rattle.dude_base.specs.Image.{Cell, cell_at, cell_start, image_words}
use Rattle.dude_base.specs.Records.{RedoBundle}
use Rattle.pmem_trait.specs.Sights.{Sight, CallsMade}
use Rattle.pmem_trait.specs.Groups.{PlacesFit, LinesFit, group_calls}
use Rattle.pmem_trait.proofs.Runs.{made_then, made_stop}
use Rattle.pmem_trait.proofs.GroupLists.{flat_more}
use Rattle.redo_record.specs.Cells.{IsCell, cell_after, line_of}
use Rattle.redo_record.specs.Record.{cells_for}
use Rattle.redo_record.specs.Encoding.{encoded}
use Rattle.redo_record.specs.Calls.{cell_writes, record_writes, body_writes, tag_write, lines_from, append_calls}
use Rattle.redo_record.proofs.CellPlaces.{word_inside, first_cell}
use Rattle.redo_record.proofs.RecordWrites.{record_writes_first}

-- one word more of a cell
pub pair_more : (old pairs : List (ℕ × ℕ)) (words : List ℕ) (n start j : ℕ) → j < length words → n + j < length pairs
    → take (n + j) pairs ≡ take n old ++ take j (enumerate_from start words)
    → take (n + (j + 1)) (slice_set pairs (n + j) (start + j, slice_index words j)) ≡ take n old ++ take (j + 1) (enumerate_from start words)
pair_more old pairs words n start j lt inside before =
    subst (λ (k : ℕ). take k (slice_set pairs (n + j) pair) ≡ take n old ++ take (j + 1) (enumerate_from start words)) same
    (take_more_set pairs (n + j) pair inside
    ∙ (ap (λ (l : List (ℕ × ℕ)). l ++ pair ∷ []) before
    ∙ (append_assoc (take n old) (take j (enumerate_from start words)) (pair ∷ []) ∙ ap (λ (l : List (ℕ × ℕ)). take n old ++ l) (sym next))))
  where
    pair : ℕ × ℕ
    pair = (start + j, slice_index words j)

    same : n + j + 1 ≡ n + (j + 1)
    same = omega arith

    one : suc j ≡ j + 1
    one = omega arith

    next : take (j + 1) (enumerate_from start words) ≡ take j (enumerate_from start words) ++ pair ∷ []
    next =
        subst (λ (k : ℕ). take k (enumerate_from start words) ≡ take j (enumerate_from start words) ++ pair ∷ []) one
        (take-suc (enumerate_from start words) j (0, 0) (omega (arith, length-enumerate_from start words))
        ∙ ap (λ (p : ℕ × ℕ). take j (enumerate_from start words) ++ p ∷ []) (get_or-enumerate_from start words j (0, 0) lt))

-- all words of a cell
pub pair_all : (old pairs : List (ℕ × ℕ)) (words : List ℕ) (n start j : ℕ) → j ≡ length words
    → take (n + j) pairs ≡ take n old ++ take j (enumerate_from start words) → take (n + j) pairs ≡ take n old ++ enumerate_from start words
pair_all old pairs words n start j is before =
    before ∙ ap (λ (l : List (ℕ × ℕ)). take n old ++ l) (take_all j (enumerate_from start words) (omega (arith, length-enumerate_from start words)))

-- one cell more
pub cells_more : (s : Sizes) (head : Cell) (r : RedoBundle) (old pairs : List (ℕ × ℕ)) (cell start : ℕ) → start ≡ cell_start s (cell_after s head cell)
    → take (8 * cell) old ≡ flat_map (cell_writes s head r) (range_with_len 0 cell)
    → take (8 * (cell + 1)) pairs ≡ take (8 * cell) old ++ enumerate_from start (encoded r cell)
    → take (8 * (cell + 1)) pairs ≡ flat_map (cell_writes s head r) (range_with_len 0 (cell + 1))
cells_more s head r old pairs cell start at before now =
    now
    ∙ (ap (λ (l : List (ℕ × ℕ)). l ++ enumerate_from start (encoded r cell)) before
    ∙ (ap (λ (i : ℕ). flat_map (cell_writes s head r) (range_with_len 0 cell) ++ enumerate_from i (encoded r cell)) at ∙ sym more))
  where
    one : suc cell ≡ cell + 1
    one = omega arith

    more : flat_map (cell_writes s head r) (range_with_len 0 (cell + 1)) ≡ flat_map (cell_writes s head r) (range_with_len 0 cell) ++ cell_writes s head r cell
    more =
        subst (λ (n : ℕ). flat_map (cell_writes s head r) (range_with_len 0 n) ≡ flat_map (cell_writes s head r) (range_with_len 0 cell) ++ cell_writes s head r (0 + cell)) one (flat_more (cell_writes s head r) 0 cell)
        ∙ ap (λ (k : ℕ). flat_map (cell_writes s head r) (range_with_len 0 cell) ++ cell_writes s head r k) (omega arith)

-- one line more
pub lines_more : (s : Sizes) (head : Cell) (lines : List ℕ) (cell line : ℕ) → cell < length lines → line ≡ line_of s (cell_after s head cell)
    → take cell lines ≡ lines_from s head cell → take (cell + 1) (slice_set lines cell line) ≡ lines_from s head (cell + 1)
lines_more s head lines cell line inside is before =
    take_more_set lines cell line inside
    ∙ (ap (λ (l : List ℕ). l ++ line ∷ []) before
    ∙ (ap (λ (x : ℕ). lines_from s head cell ++ x ∷ []) is ∙ sym (map-range_with_len_more (λ k. line_of s (cell_after s head k)) 0 cell cell (omega arith))))

-- the parts of the pairs that the two groups put
module _ (s : Sizes) (head : Cell) (r : RedoBundle) (is_cell : IsCell s head) (pairs : List (ℕ × ℕ)) (all : take (8 * cells_for (length r.writes)) pairs ≡ record_writes s head r) where
  pub pairs_body : take (8 * cells_for (length r.writes) - 1) (drop 1 pairs) ≡ body_writes s head r
  pairs_body = behind (8 * cells_for (length r.writes)) pairs (omega arith) ∙ ap (λ (l : List (ℕ × ℕ)). drop 1 l) all
    where
      behind : (n : ℕ) (ps : List (ℕ × ℕ)) → 1 ≤ n → take (n - 1) (drop 1 ps) ≡ drop 1 (take n ps)
      behind zero ps some = absurd (omega arith)
      behind (suc n) [] some = ap (λ k. take k (let none : List (ℕ × ℕ) = [] in none)) (omega arith) ∙ nothing n
        where
          nothing : (n : ℕ) → take n (let none : List (ℕ × ℕ) = [] in none) ≡ []
          nothing zero = refl
          nothing (suc n) = refl
      behind (suc n) (p ∷ ps) some = ap (λ k. take k ps) (omega arith)

  pub pairs_tag : take 1 pairs ≡ tag_write s head r
  pairs_tag = first (8 * cells_for (length r.writes)) pairs (omega arith) ∙ ap (λ (l : List (ℕ × ℕ)). take 1 l) (all ∙ record_writes_first s head is_cell r)
    where
      first : (n : ℕ) (ps : List (ℕ × ℕ)) → 1 ≤ n → take 1 ps ≡ take 1 (take n ps)
      first zero ps some = absurd (omega arith)
      first (suc n) [] some = refl
      first (suc n) (p ∷ ps) some = refl

pub lines_tag : (s : Sizes) (head : Cell) (n : ℕ) (lines : List ℕ) → IsCell s head → 1 ≤ n → take n lines ≡ lines_from s head n → take 1 lines ≡ line_of s head ∷ []
lines_tag s head zero lines is_cell some all = absurd (omega arith)
lines_tag s head (suc n) [] is_cell some all = absurd (by all)
  where
    by : [] ≡ lines_from s head (suc n) → ⊥
    by is = cc
lines_tag s head (suc n) (l ∷ ls) is_cell some all =
    let first : l ≡ line_of s (cell_after s head 0) = cc in
    let at = first_cell s head is_cell 0 in
    ap (λ (x : ℕ). x ∷ []) (omega arith)

-- they lie within the image
module _ (s : Sizes) (head : Cell) (len : ℕ) (is_cell : IsCell s head) (long : image_words s ≤ len) where
  words_fit : (k : ℕ) (r : RedoBundle) → PlacesFit len (cell_writes s head r k)
  words_fit k r i d lt =
      let small : i < 8 = omega (arith, length-enumerate_from (cell_start s (cell_after s head k)) (encoded r k)) in
      let inside = word_inside s head is_cell k i small in
      rw (get_or-enumerate_from (cell_start s (cell_after s head k)) (encoded r k) i d small) (omega arith)

  cells_fit : (r : RedoBundle) (a n : ℕ) → PlacesFit len (flat_map (cell_writes s head r) (range_with_len a n))
  cells_fit r a zero = All-nil (λ (w : ℕ × ℕ). w.0 < len)
  cells_fit r a (suc n) = All-append (λ (w : ℕ × ℕ). w.0 < len) (cell_writes s head r a) (flat_map (cell_writes s head r) (range_with_len (a + 1) n)) (words_fit a r) (cells_fit r (a + 1) n)

  pub body_fits : (r : RedoBundle) → PlacesFit len (body_writes s head r)
  body_fits r = dropped (record_writes s head r) (cells_fit r 0 (cells_for (length r.writes)))
    where
      dropped : (ws : List (ℕ × ℕ)) → PlacesFit len ws → PlacesFit len (drop 1 ws)
      dropped [] fit = fit
      dropped (w ∷ ws) fit = All-tail (λ (w : ℕ × ℕ). w.0 < len) w ws fit

  pub tag_fits : (r : RedoBundle) → PlacesFit len (tag_write s head r)
  tag_fits r = All-cons (λ (w : ℕ × ℕ). w.0 < len) _ [] (let inside = word_inside s head is_cell 0 0 (omega arith) in let at = first_cell s head is_cell 0 in omega arith) (All-nil (λ (w : ℕ × ℕ). w.0 < len))

  pub lines_fit : (n : ℕ) → LinesFit len (lines_from s head n)
  lines_fit n i d lt =
      let below : i < n = omega (arith, length-map-range_with_len (λ k. line_of s (cell_after s head k)) 0 n) in
      let inside = word_inside s head is_cell i 7 (omega arith) in
      rw (get_or-map-range_with_len (λ k. line_of s (cell_after s head k)) 0 n i i d below (omega arith)) (omega arith)

  pub line_fits : LinesFit len (line_of s head ∷ [])
  line_fits = All-cons (λ (l : ℕ). 8 * l + 8 ≤ len) _ [] (let inside = word_inside s head is_cell 0 7 (omega arith) in let at = first_cell s head is_cell 0 in omega arith) (All-nil (λ (l : ℕ). 8 * l + 8 ≤ len))

-- What is handed to the two groups of an append.
pub record HandsOver (s : Sizes) (head : Cell) (r : RedoBundle) (body : List (ℕ × ℕ)) (lines : List ℕ) (tag : List (ℕ × ℕ)) (tag_line : List ℕ) : Type 0 where
  pub cell : IsCell s head
  pub body_is : body ≡ body_writes s head r
  pub lines_are : lines ≡ lines_from s head (cells_for (length r.writes))
  pub tag_is : tag ≡ tag_write s head r
  pub tag_line_is : tag_line ≡ line_of s head ∷ []

pub handed : (s : Sizes) (ring slot : ℕ) (r : RedoBundle) {body : List (ℕ × ℕ)} {lines : List ℕ} {tag : List (ℕ × ℕ)} {tag_line : List ℕ} → ring < s.rings → slot < s.cells
    → body ≡ body_writes s (cell_at ring slot) r → lines ≡ lines_from s (cell_at ring slot) (cells_for (length r.writes)) → tag ≡ tag_write s (cell_at ring slot) r → tag_line ≡ line_of s (cell_at ring slot) ∷ []
    → HandsOver s (cell_at ring slot) r body lines tag tag_line
handed s ring slot r in_ring in_cells body lines tag tag_line = record { cell = record { ring_is = in_ring; slot_is = in_cells }; body_is = body; lines_are = lines; tag_is = tag; tag_line_is = tag_line }

module _ {s : Sizes} {head : Cell} {r : RedoBundle} {body : List (ℕ × ℕ)} {lines : List ℕ} {tag : List (ℕ × ℕ)} {tag_line : List ℕ} (hands : HandsOver s head r body lines tag tag_line) where
  -- it is put and flushed within the image
  pub hands_places : {len : ℕ} → image_words s ≤ len → PlacesFit len body × PlacesFit len tag
  hands_places {len} long = (
    subst (PlacesFit len) (sym hands.body_is) (body_fits s head len hands.cell long r),
    subst (PlacesFit len) (sym hands.tag_is) (tag_fits s head len hands.cell long r),
  )

  pub hands_lines : {len : ℕ} → image_words s ≤ len → LinesFit len lines × LinesFit len tag_line
  hands_lines {len} long = (
    subst (LinesFit len) (sym hands.lines_are) (lines_fit s head len hands.cell long (cells_for (length r.writes))),
    subst (LinesFit len) (sym hands.tag_line_is) (line_fits s head len hands.cell long),
  )

  -- the two groups are the append
  pub hands_calls : group_calls body lines ++ group_calls tag tag_line ≡ append_calls s head r
  unfolding append_calls
  hands_calls =
      ap (λ ws. group_calls ws lines ++ group_calls tag tag_line) hands.body_is
      ∙ ap (λ ls. group_calls (body_writes s head r) ls ++ group_calls tag tag_line) hands.lines_are
      ∙ ap (λ ws. group_calls (body_writes s head r) (lines_from s head (cells_for (length r.writes))) ++ group_calls ws tag_line) hands.tag_is
      ∙ ap (λ ls. group_calls (body_writes s head r) (lines_from s head (cells_for (length r.writes))) ++ group_calls (tag_write s head r) ls) hands.tag_line_is

  -- the first group stops, or the second one goes on
  pub append_stops : {t u : Sight} → CallsMade (group_calls body lines) false t u → CallsMade (append_calls s head r) false t u
  append_stops {t} {u} made = subst (λ cs. CallsMade cs false t u) hands_calls (made_stop (group_calls tag tag_line) made)

  pub append_made : {ok : Bool} {t u v : Sight} → CallsMade (group_calls body lines) true t u → CallsMade (group_calls tag tag_line) ok u v → CallsMade (append_calls s head r) ok t v
  append_made {ok} {t} {u} {v} made on = subst (λ cs. CallsMade cs ok t v) hands_calls (made_then made on)
