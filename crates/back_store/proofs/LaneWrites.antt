-- The writes of a lane's bundles in their places.
use Rattle.std.proofs.Common.{◌≡◌, ◌≢◌, ℕ, suc, ◌+◌, ◌*◌, ◌/◌, ◌%◌, ◌<◌, ◌≤◌, Bool, List, [], ◌∷◌, ◌++◌, All, length, map, get_or, refl, sym, ap, ◌∙◌, inl, inr, arith}
use Rattle.std.specs.List.{filter}
use Rattle.std.proofs.lemmas.Bool.{cases_Bool}
use Rattle.std.proofs.lemmas.List.{ext_get_or, map_push}
use Rattle.std.proofs.lemmas.List.FromFn.{length-map-range_with_len, get_or-map-range_with_len}
use Rattle.dude_base.specs.declared.sizes.Sizes.{Sizes}
use Rattle.dude_base.specs.declared.write.Write.{Write}
use Rattle.dude_base.specs.Records.{RedoBundle}
use Rattle.redo_record.specs.Record.{cells_for}
use Rattle.redo_record.specs.Fits.{AreFree}
use Rattle.redo_record.proofs.CellPlaces.{steps_same}
use Rattle.back_store.specs.declared.entry.Entry.{Entry}
use Rattle.back_store.specs.Entries.{bundle_in, logged_of, no_write, write_place, writes_in}
use Rattle.back_store.specs.KeptLane.{extent, extent_of}

parts_same : (x y a b : ℕ) → a < 3 → b < 3 → 3 * x + a ≡ 3 * y + b → (x ≡ y) × (a ≡ b)
parts_same x y a b small tiny same = (omega arith, omega arith)

-- a write stands in one of the cells that so many need
pub in_cells : (n i : ℕ) → i < n → i / 3 < cells_for n
in_cells n i lt = omega arith

cell_same : (c slot other i j : ℕ) → write_place c slot i ≡ write_place c other j → ((slot + i / 3) % c ≡ (other + j / 3) % c) × (i % 3 ≡ j % 3)
cell_same c slot other i j same = parts_same ((slot + i / 3) % c) ((other + j / 3) % c) (i % 3) (j % 3) (omega arith) (omega arith) same

-- different writes of a bundle stand in different places
pub places_same : (c slot n i j : ℕ) → slot < c → cells_for n ≤ c → i < n → j < n → write_place c slot i ≡ write_place c slot j → i ≡ j
places_same c slot n i j below room il jl same =
    let both = cell_same c slot slot i j same in
    let one = in_cells n i il in
    let other = in_cells n j jl in
    let cells : i / 3 ≡ j / 3 = steps_same c slot (i / 3) (j / 3) below (omega arith) (omega arith) both.0 in
    let rest : i % 3 ≡ j % 3 = both.1 in
    omega arith

-- the writes are those that stand in their places
pub writes_are : (c slot : ℕ) (writes ws : List Write) → ((j : ℕ) → j < length ws → get_or writes (write_place c slot j) no_write ≡ get_or ws j no_write) → writes_in c writes slot (length ws) ≡ ws
writes_are c slot writes ws each =
    let f : ℕ → Write = λ i. get_or writes (write_place c slot i) no_write in
    let long : length (writes_in c writes slot (length ws)) ≡ length ws = length-map-range_with_len f 0 (length ws) in
    ext_get_or no_write (writes_in c writes slot (length ws)) ws long (λ k lt.
    let within : k < length ws = omega (arith, long) in
    get_or-map-range_with_len f 0 (length ws) k k no_write within (omega arith) ∙ each k within)

-- what stands in the places of a bundle alone makes its writes
pub writes_same : (c slot n : ℕ) (old new : List Write) → ((j : ℕ) → j < n → get_or new (write_place c slot j) no_write ≡ get_or old (write_place c slot j) no_write) → writes_in c new slot n ≡ writes_in c old slot n
writes_same c slot n old new each =
    let f : ℕ → Write = λ i. get_or old (write_place c slot i) no_write in
    let g : ℕ → Write = λ i. get_or new (write_place c slot i) no_write in
    let long : length (writes_in c new slot n) ≡ n = length-map-range_with_len g 0 n in
    ext_get_or no_write (writes_in c new slot n) (writes_in c old slot n) (long ∙ sym (length-map-range_with_len f 0 n)) (λ k lt.
    let within : k < n = omega (arith, long) in
    get_or-map-range_with_len g 0 n k k no_write within (omega arith) ∙ each k within ∙ sym (get_or-map-range_with_len f 0 n k k no_write within (omega arith)))

-- Writes were put into the places of a bundle with its head in this slot, whose cells are free.
module _ (s : Sizes) (slot n : ℕ) (old new : List Write) (others : (at : ℕ) (d : Write) → ((i : ℕ) → i < n → at ≢ write_place s.cells slot i) → get_or new at d ≡ get_or old at d) where
  pub bundles_stay : (es : List Entry) → AreFree s 0 slot (cells_for n) (map logged_of es) → All (λ e. 1 ≤ e.last) es → map (bundle_in s.cells new) es ≡ map (bundle_in s.cells old) es
  bundles_stay [] free some = refl
  bundles_stay (e ∷ es) free some =
      let apart = free 0 (logged_of e) (omega arith) in
      let least : 1 ≤ e.last = some 0 e (omega arith) in
      let writes : writes_in s.cells new e.slot e.count ≡ writes_in s.cells old e.slot e.count = writes_same s.cells e.slot e.count old new (λ j lt. others (write_place s.cells e.slot j) no_write (λ i il same.
      apart (omega arith) (j / 3) (i / 3) (in_cells e.count j lt) (in_cells n i il) (cell_same s.cells e.slot slot j i same).0)) in
      let own : bundle_in s.cells new e ≡ bundle_in s.cells old e = ap (λ (ws : List Write). record { last = e.last; span = e.span; writes = ws }) writes in
      ap (λ (b : RedoBundle). b ∷ map (bundle_in s.cells new) es) own ∙ ap (λ (bs : List RedoBundle). bundle_in s.cells old e ∷ bs)
      (bundles_stay es (λ k d lt. free (suc k) d (omega arith)) (λ k d lt. some (suc k) d (omega arith)))

  -- one bundle more
  pub bundles_more : (es : List Entry) (e : Entry) (r : RedoBundle) → AreFree s 0 slot (cells_for n) (map logged_of es) → All (λ e. 1 ≤ e.last) es → bundle_in s.cells new e ≡ r
      → map (bundle_in s.cells new) (es ++ e ∷ []) ≡ map (bundle_in s.cells old) es ++ r ∷ []
  bundles_more es e r free some own =
      map_push (bundle_in s.cells new) es e ∙ ap (λ (bs : List RedoBundle). bs ++ bundle_in s.cells new e ∷ []) (bundles_stay es free some) ∙ ap (λ (b : RedoBundle). map (bundle_in s.cells old) es ++ b ∷ []) own

pub filter-map : {X : Type 0} (q : X → Bool) (f : Entry → X) (es : List Entry) → filter q (map f es) ≡ map f (filter (λ e. q (f e)) es)
filter-map q f [] = refl
filter-map {X} q f (e ∷ es) = elim (cases_Bool (q (f e))) [
  | inl kept ↦ rw kept (ap (λ (l : List X). f e ∷ l) (filter-map q f es))
  | inr gone ↦ rw gone (filter-map q f es)
]

-- the entries have the extents of the ring's records
pub extents_same : (c : ℕ) (writes : List Write) (es : List Entry) → map extent (map logged_of es) ≡ map extent_of (map (bundle_in c writes) es)
extents_same c writes [] = refl
extents_same c writes (e ∷ es) =
    let count : length (writes_in c writes e.slot e.count) ≡ e.count = length-map-range_with_len (λ i. get_or writes (write_place c e.slot i) no_write) 0 e.count in
    ap (λ n. (e.last, cells_for n) ∷ map extent (map logged_of es)) (sym count) ∙ ap (λ (l : List (ℕ × ℕ)). extent_of (bundle_in c writes e) ∷ l) (extents_same c writes es)
