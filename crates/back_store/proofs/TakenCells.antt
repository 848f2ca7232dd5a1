-- How many cells the records that are taken from lanes have.
use Rattle.std.proofs.Common.{◌≡◌, ℕ, zero, suc, ◌+◌, ◌*◌, ◌<◌, ◌≤◌, List, [], ◌∷◌, ◌++◌, length, take, get_or, set, refl, sym, ap, ◌∙◌, arith, get_or-set_same, get_or-set_other, suc-mul}
use Rattle.std.specs.Prelude.{slice_index}
use Rattle.std.proofs.lemmas.List.{take_more}
use Rattle.std.proofs.lemmas.List.Sums.{sum_by-append, sum_by-take-le}
use Rattle.dude_base.specs.Records.{RedoBundle}
use Rattle.redo_record.specs.Record.{cells_for}
use Rattle.back_store.specs.Lane.{LaneState, used_by}

-- the cells of the first records of each lane, as many as are taken
abbrev pub taken_cells : ℕ → List LaneState → List ℕ → ℕ
taken_cells n [] fronts = 0
taken_cells n (v ∷ vs) fronts = used_by (take (slice_index fronts n) v.waiting) + taken_cells (n + 1) vs fronts

pub used_push : (rs : List RedoBundle) (r : RedoBundle) → used_by (rs ++ r ∷ []) ≡ used_by rs + cells_for (length r.writes)
used_push rs r = sum_by-append (λ (r : RedoBundle). cells_for (length r.writes)) rs (r ∷ []) ∙ omega arith

-- another lane's front
taken_other : (n : ℕ) (lanes : List LaneState) (fronts : List ℕ) (k x : ℕ) → k < n → taken_cells n lanes (set fronts k x) ≡ taken_cells n lanes fronts
taken_other n [] fronts k x lt = refl
taken_other n (v ∷ vs) fronts k x lt =
    let here : slice_index (set fronts k x) n ≡ slice_index fronts n = get_or-set_other fronts k n x 0 (λ e. omega arith) in
    let rest = taken_other (n + 1) vs fronts k x (omega arith) in
    ap (λ t. used_by (take t v.waiting) + taken_cells (n + 1) vs (set fronts k x)) here ∙ ap (λ c. used_by (take (slice_index fronts n) v.waiting) + c) rest

-- one record more is taken from a lane
pub taken_next : (n : ℕ) (lanes : List LaneState) (fronts : List ℕ) (m k : ℕ) (d : LaneState) (r : RedoBundle) → m ≡ n + k → k < length lanes → m < length fronts
    → slice_index fronts m < length (get_or lanes k d).waiting → get_or (get_or lanes k d).waiting (slice_index fronts m) r ≡ r
    → taken_cells n lanes (set fronts m (slice_index fronts m + 1)) ≡ taken_cells n lanes fronts + cells_for (length r.writes)
taken_next n [] fronts m k d r same lt long within is = absurd (omega arith)
taken_next n (v ∷ vs) fronts m zero d r same lt long within is =
    let t : ℕ = slice_index fronts m in
    let here : m ≡ n = same ∙ omega arith in
    let more : take (t + 1) v.waiting ≡ take t v.waiting ++ r ∷ [] = take_more v.waiting t r within ∙ ap (λ q. take t v.waiting ++ q ∷ []) is in
    let first : used_by (take (slice_index (set fronts m (t + 1)) n) v.waiting) ≡ used_by (take t v.waiting) + cells_for (length r.writes) =
    ap (λ i. used_by (take (slice_index (set fronts m (t + 1)) i) v.waiting)) (sym here) ∙ ap (λ i. used_by (take i v.waiting)) (get_or-set_same fronts m (t + 1) 0 long)
    ∙ ap used_by more ∙ used_push (take t v.waiting) r in
    let old : used_by (take (slice_index fronts n) v.waiting) ≡ used_by (take t v.waiting) = ap (λ i. used_by (take (slice_index fronts i) v.waiting)) (sym here) in
    let rest : taken_cells (n + 1) vs (set fronts m (t + 1)) ≡ taken_cells (n + 1) vs fronts = taken_other (n + 1) vs fronts m (t + 1) (omega arith) in
    omega arith
taken_next n (v ∷ vs) fronts m (suc k) d r same lt long within is =
    let t : ℕ = slice_index fronts m in
    let here : slice_index (set fronts m (t + 1)) n ≡ slice_index fronts n = get_or-set_other fronts m n (t + 1) 0 (λ e. omega arith) in
    let first : used_by (take (slice_index (set fronts m (t + 1)) n) v.waiting) ≡ used_by (take (slice_index fronts n) v.waiting) = ap (λ i. used_by (take i v.waiting)) here in
    let rest = taken_next (n + 1) vs fronts m k d r (omega arith) (omega arith) long within is in
    omega arith

-- they are no more than the lanes have
pub taken_few : (n : ℕ) (lanes : List LaneState) (fronts : List ℕ) (cells : ℕ) → ((k : ℕ) (d : LaneState) → k < length lanes → used_by (get_or lanes k d).waiting ≤ cells)
    → taken_cells n lanes fronts ≤ length lanes * cells
taken_few n [] fronts cells few = omega arith
taken_few n (v ∷ vs) fronts cells few =
    let rest = taken_few (n + 1) vs fronts cells (λ k d lt. few (suc k) d (omega arith)) in
    let here = sum_by-take-le (λ (r : RedoBundle). cells_for (length r.writes)) v.waiting (slice_index fronts n) in
    let whole : used_by v.waiting ≤ cells = few 0 v (omega arith) in
    let product : length (v ∷ vs) * cells ≡ length vs * cells + cells = suc-mul (length vs) cells in
    omega arith
