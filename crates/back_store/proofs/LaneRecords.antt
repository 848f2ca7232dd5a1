-- A ring and the records in it that wait have the same numbers and cells.
use Rattle.std.proofs.Common.{◌≡◌, ℕ, ◌+◌, ◌<◌, ◌≤◌, zero, suc, nat_lt, nat_le, true, List, [], ◌∷◌, All, AllPairs, length, map, get_or, refl, sym, ap, ◌∙◌, inl, inr, arith, eq-eqb, ne_eqb, ◌==◌, ◌≢◌, Result, Ok, Err, is_ok}
use Rattle.std.specs.Prelude.{◌↔◌, IsErrOf, MatchBool}
use Rattle.std.specs.List.{filter}
use Rattle.std.specs.List.Sorted.{IsPartitionedBy}
use Rattle.std.proofs.lemmas.Bool.{cases_Bool, cases_eq, cases_lt}
use Rattle.std.proofs.lemmas.Bool.Decides.{nat_tests}
use Rattle.std.proofs.lemmas.List.Elements.{All-cons, All-nil, All-head, All-tail, All-filter}
use Rattle.std.proofs.lemmas.List.Sums.{sum_by-append}
use Rattle.dude_base.specs.Records.{RedoBundle, first_of}
use Rattle.redo_record.specs.Record.{cells_for}
use Rattle.redo_record.specs.Fits.{Logged, cells_used}
use Rattle.log_ring.specs.declared.ring_fault.RingFault.{RingFault}
use Rattle.log_ring.specs.declared.ring_fault.RingFault.TheVariants.{Full}
use Rattle.back_store.specs.Lane.{used_by, HasAt, IsFront}
use Rattle.back_store.specs.KeptLane.{extent, extent_of}

last_same : (l : Logged) (r : RedoBundle) → extent l ≡ extent_of r → l.last ≡ r.last
last_same l r same = ap (λ (e : ℕ × ℕ). e.0) same

cells_same : (l : Logged) (r : RedoBundle) → extent l ≡ extent_of r → l.cells ≡ cells_for (length r.writes)
cells_same l r same = ap (λ (e : ℕ × ℕ). e.1) same

heads_same : (l : Logged) (ls : List Logged) (r : RedoBundle) (rs : List RedoBundle) → map extent (l ∷ ls) ≡ map extent_of (r ∷ rs) → (extent l ≡ extent_of r) × (map extent ls ≡ map extent_of rs)
heads_same l ls r rs same = (cc, cc)

-- they use as many cells
pub used_same : (ls : List Logged) (rs : List RedoBundle) → map extent ls ≡ map extent_of rs → cells_used ls ≡ used_by rs
used_same [] [] same = refl
used_same [] (r ∷ rs) same = cc
used_same (l ∷ ls) [] same = cc
used_same (l ∷ ls) (r ∷ rs) same =
    let both = heads_same l ls r rs same in
    sum_by-append (λ (l : Logged). l.cells) (l ∷ []) ls
    ∙ ap (λ n. n + cells_used ls) (ap (λ n. 0 + n) (cells_same l r both.0)) ∙ ap (λ n. (0 + cells_for (length r.writes)) + n) (used_same ls rs both.1)
    ∙ sym (sum_by-append (λ (r : RedoBundle). cells_for (length r.writes)) (r ∷ []) rs)

-- a number over those of the one is over those of the other
pub newest_logged : (n : ℕ) (ls : List Logged) (rs : List RedoBundle) → map extent ls ≡ map extent_of rs → All (λ r. r.last < n) rs → All (λ l. l.last < n) ls
newest_logged n [] rs same over = All-nil (λ (l : Logged). l.last < n)
newest_logged n (l ∷ ls) [] same over = cc
newest_logged n (l ∷ ls) (r ∷ rs) same over =
    let both = heads_same l ls r rs same in
    let number = last_same l r both.0 in
    let head : r.last < n = All-head (λ (r : RedoBundle). r.last < n) r rs over in
    All-cons (λ (l : Logged). l.last < n) l ls (omega arith) (newest_logged n ls rs both.1 (All-tail (λ (r : RedoBundle). r.last < n) r rs over))

-- and so have those over a number
pub released_same : (n : ℕ) (ls : List Logged) (rs : List RedoBundle) → map extent ls ≡ map extent_of rs
    → map extent (filter (λ (l : Logged). nat_lt n l.last) ls) ≡ map extent_of (filter (λ (r : RedoBundle). nat_lt n r.last) rs)
released_same n [] [] same = refl
released_same n [] (r ∷ rs) same = cc
released_same n (l ∷ ls) [] same = cc
released_same n (l ∷ ls) (r ∷ rs) same =
    let both = heads_same l ls r rs same in
    let rest = released_same n ls rs both.1 in
    let test : nat_lt n l.last ≡ nat_lt n r.last = ap (nat_lt n) (last_same l r both.0) in
    elim (cases_Bool (nat_lt n r.last)) [
      | inl over ↦ rw (test ∙ over, over) (ap (λ e. e ∷ map extent (filter (λ (l : Logged). nat_lt n l.last) ls)) both.0 ∙ ap (λ es. extent_of r ∷ es) rest)
      | inr no_more ↦ rw (test ∙ no_more, no_more) rest
    ]

-- each record takes a cell at least
pub length-used : (rs : List RedoBundle) → length rs ≤ used_by rs
length-used [] = omega arith
length-used (r ∷ rs) =
    let rest = length-used rs in
    let split = sum_by-append (λ (r : RedoBundle). cells_for (length r.writes)) (r ∷ []) rs in
    omega arith

rising_cons : (r : RedoBundle) (rs : List RedoBundle) → All (λ t. r.last < first_of t) rs → AllPairs (λ r t. r.last < first_of t) rs → AllPairs (λ r t. r.last < first_of t) (r ∷ rs)
rising_cons r rs first rising i zero d lt jl = absurd (omega arith)
rising_cons r rs first rising zero (suc j) d lt jl = first j d (omega arith)
rising_cons r rs first rising (suc i) (suc j) d lt jl = rising i j d (omega arith) (omega arith)

-- rising numbers rise without the first ones
pub rising_released : (n : ℕ) (rs : List RedoBundle) → AllPairs (λ r t. r.last < first_of t) rs → AllPairs (λ r t. r.last < first_of t) (filter (λ (r : RedoBundle). nat_lt n r.last) rs)
rising_released n [] rising = λ i j d lt jl. absurd (omega arith)
rising_released n (r ∷ rs) rising =
    let tail : AllPairs (λ (r t : RedoBundle). r.last < first_of t) rs = λ i j d lt jl. rising (suc i) (suc j) d (omega arith) (omega arith) in
    let rest = rising_released n rs tail in
    let first : All (λ t. r.last < first_of t) rs = λ k d lt. rising 0 (suc k) d (omega arith) (omega arith) in
    elim (cases_Bool (nat_lt n r.last)) [
      | inl over ↦ rw over (rising_cons r (filter (λ (r : RedoBundle). nat_lt n r.last) rs) (All-filter (λ (r : RedoBundle). nat_lt n r.last) (λ (t : RedoBundle). r.last < first_of t) rs first) rest)
      | inr upto ↦ rw upto rest
    ]

-- of a rising list the records up to a number come first
pub partitioned_upto : (n : ℕ) (rs : List RedoBundle) → AllPairs (λ r t. r.last < first_of t) rs → IsPartitionedBy (λ (r : RedoBundle). nat_le r.last n) rs
partitioned_upto n rs rising i j d le jl upto = elim (cases_eq i j) [
  | inl same ↦ rw same upto
  | inr apart ↦
      let over = rising i j d (omega arith) jl in
      let up : (get_or rs i d).last < (get_or rs j d).last = omega arith in
      grind (arith, nat_tests)
]

-- the bundle behind those up to a number begins with the next one, or none does
pub next_or_none : (n taken x : ℕ) (rs : List RedoBundle) → AllPairs (λ r t. r.last < first_of t) rs → IsFront rs taken n → taken < length rs → ((d : RedoBundle) → first_of (get_or rs taken d) ≡ x)
    → MatchBool (x == n + 1) (HasAt rs taken (n + 1)) (All (λ r. first_of r ≢ n + 1) rs)
next_or_none n taken x rs rising (le, low, high) within is = elim (cases_eq x (n + 1)) [
  | inl same ↦ rw (eq-eqb x (n + 1) same) (record {
    within = within;
    first_is = λ d. is d ∙ same;
    later = λ k d behind lt. rising taken k d behind lt;
  })
  | inr apart ↦ rw (ne_eqb x (n + 1) apart) (λ k d lt. elim (cases_lt k taken) [
    | inl before ↦ let few = low k d (omega arith) before in omega arith
    | inr ge ↦ elim (cases_eq k taken) [
      | inl same ↦ λ bad. apart (sym (is d) ∙ ap (λ i. first_of (get_or rs i d)) (sym same) ∙ bad)
      | inr later ↦
          let up : (get_or rs taken d).last < first_of (get_or rs k d) = rising taken k d (omega arith) lt in
          let over : n < (get_or rs taken d).last = high taken d (omega arith) within in
          omega arith
    ]
  ])
]

-- where an append succeeds there was room
pub room_left : (result : Result (Unit {0}) RingFault) (cells used need : ℕ) → is_ok result ≡ true → (IsErrOf result (Full used need) ↔ (cells < used + need)) → used + need ≤ cells
room_left (Ok done) cells used need ok full = elim (cases_lt cells (used + need)) [ inl over ↦ let bad = full.1 over in cc | inr le ↦ le ]
room_left (Err fault) cells used need ok full = cc
