-- Bundles that were persisted, and those that wait.
use Rattle.std.proofs.Common.{◌≡◌, ◌≢◌, ◌⊎◌, ◌==◌, ℕ, ◌<◌, Bool, true, false, IsTrue, List, [], ◌∷◌, ◌++◌, All, get_or, length, if◌then◌else◌, refl, sym, ap, ◌∙◌, subst, inl, inr, ⊎_elim, Result, Ok, Err, arith, eq-eqb, ne_eqb}
use Rattle.std.specs.Prelude.{◌&&◌, ◌||◌}
use Rattle.std.specs.List.{Contains}
use Rattle.std.proofs.lemmas.Bool.{cases_eq, cases_lt}
use Rattle.std.proofs.lemmas.List.{set_past}
use Rattle.std.proofs.lemmas.List.Elements.{All-head, All-tail, Contains-get_or}
use Rattle.dude_base.specs.Records.{RedoBundle, Covers, first_of}
use Rattle.redo_record.specs.Waiting.{Waiting}
use Rattle.back_store.specs.Lane.{LaneState, with_redo}
use Rattle.back_store.specs.Lanes.{lane_at, waiting_in, waiting_of}
use Rattle.back_store.specs.Backlog.{without_records_to}
use Rattle.back_store.proofs.AddedRecords.{added_waiting}
use Rattle.back_store.proofs.ReleasedRecords.{released_waiting}
use Rattle.back_store.proofs.WaitingLanes.{waits_of_ring}
use Rattle.back_store.specs.Back.{BackState, waiting_now, waiting_of_ring}
use Rattle.back_store.specs.Answers.{answered, reproduced, with_record}
use Rattle.back_store.specs.declared.back_fault.BackFault.{BackFault}
use Rattle.back_store.specs.declared.back_fault.BackFault.TheVariants.{RingFull, Device, Dead}
use Rattle.log_runs.specs.declared.persisted.Persisted.{Persisted}
use Rattle.log_runs.specs.Persisted.{is_listed, numbers_of}

-- all waiting bundles are listed
abbrev pub AreListed : BackState → List Persisted → Type 0
AreListed v ps = (w : Waiting) → Contains (waiting_now v) w → IsTrue (is_listed ps (numbers_of w))

-- the listed bundle ends before these numbers, or is of another ring and begins behind them
abbrev pub LiesApart : ℕ → ℕ → ℕ → Persisted → Type 0
LiesApart ring first last p = (p.last < first) ⊎ ((last < p.first) × (p.ring ≢ ring))

or_both : (b : Bool) (x y : Bool) → (IsTrue x → IsTrue y) → IsTrue (b || x) → IsTrue (b || y)
or_both true x y more is = refl
or_both false x y more is = more is

or_right : (b x : Bool) → IsTrue x → IsTrue (b || x)
or_right true x is = refl
or_right false x is = is

abbrev is_same : Persisted → Persisted → Bool
is_same p q = (p.ring == q.ring) && ((p.first == q.first) && (p.last == q.last))

listed_before : (ps : List Persisted) (new q : Persisted) → IsTrue (is_listed ps q) → IsTrue (is_listed (ps ++ new ∷ []) q)
listed_before [] new q is = cc
listed_before (p ∷ ps) new q is = or_both (is_same p q) (is_listed ps q) (is_listed (ps ++ new ∷ []) q) (listed_before ps new q) is

listed_now : (ps : List Persisted) (q : Persisted) → IsTrue (is_listed (ps ++ q ∷ []) q)
listed_now [] q = rw (eq-eqb q.ring q.ring refl, eq-eqb q.first q.first refl, eq-eqb q.last q.last refl) refl
listed_now (p ∷ ps) q = or_right (is_same p q) (is_listed (ps ++ q ∷ []) q) (listed_now ps q)

-- a listed bundle lies apart, where all do
listed_apart : (ring first last : ℕ) (ps : List Persisted) (q : Persisted) → All (LiesApart ring first last) ps → IsTrue (is_listed ps q) → LiesApart ring first last q
listed_apart ring first last [] q all is = cc
listed_apart ring first last (p ∷ ps) q all is =
    let head : LiesApart ring first last p = All-head (LiesApart ring first last) p ps all in
    let rest : IsTrue (is_listed ps q) → LiesApart ring first last q = listed_apart ring first last ps q (All-tail (LiesApart ring first last) p ps all) in
    elim (cases_eq p.ring q.ring) [
      | inl ring_is ↦ elim (cases_eq p.first q.first) [
        | inl first_is ↦ elim (cases_eq p.last q.last) [
          | inl last_is ↦ ⊎_elim (λ before. inl (omega arith)) (λ behind. let over = behind.0 in inr (omega arith, (λ same. behind.1 (ring_is ∙ same)))) head
          | inr other ↦ rest (rw (eq-eqb p.ring q.ring ring_is, eq-eqb p.first q.first first_is, ne_eqb p.last q.last other) at is)
        ]
        | inr other ↦ rest (rw (eq-eqb p.ring q.ring ring_is, ne_eqb p.first q.first other) at is)
      ]
      | inr other ↦ rest (rw (ne_eqb p.ring q.ring other) at is)
    ]

module _ (v : BackState) (ps : List Persisted) (listed : AreListed v ps) (ring : ℕ) (r : RedoBundle) (all : All (LiesApart ring (first_of r) r.last) ps) where
  apart : (w : Waiting) → Contains (waiting_now v) w → LiesApart ring (first_of r) r.last (numbers_of w)
  apart w among = listed_apart ring (first_of r) r.last ps (numbers_of w) all (listed w among)

  -- the bundle may be persisted
  pub numbers_new : (w : Waiting) (number : ℕ) → Contains (waiting_now v) w → Covers w.redo number → Covers r number → ⊥
  numbers_new w number among covers too = ⊎_elim
      (λ before. let high = covers.high in let low = too.low in omega arith)
      (λ behind. let over = behind.0 in let low = covers.low in let high = too.high in omega arith)
      (apart w among)

  pub numbers_newest : All (λ q. q.last < first_of r) (waiting_of_ring v ring)
  numbers_newest k d lt =
      let q : RedoBundle = get_or (waiting_of_ring v ring) k d in
      let among = waits_of_ring v.log.lanes ring q (Contains-get_or (waiting_of_ring v ring) k d lt) in
      ⊎_elim (λ before. before) (λ behind. absurd (behind.1 refl)) (apart (waiting_in ring q) among)

-- which bundles wait after one was added to a ring
added : (v : BackState) (ring : ℕ) (r : RedoBundle) (w : Waiting) → Contains (waiting_now (with_record ring r v)) w → Contains (waiting_now v) w ⊎ (w ≡ waiting_in ring r)
added v ring r w among = elim (cases_lt ring (length v.log.lanes)) [
  | inl inside ↦ (added_waiting v.log.lanes ring r inside).only w among
  | inr past ↦ inl (subst (λ (lanes : List LaneState). Contains (waiting_of lanes) w) (set_past v.log.lanes ring (with_redo r (lane_at v.log.lanes ring)) past) among)
]

-- they are listed after a call that persists
pub listed_persisted : (v w : BackState) (ps : List Persisted) (ring : ℕ) (r : RedoBundle) (result : Result (Unit {0}) BackFault) → w ≡ answered result (λ done. with_record ring r v) v → AreListed v ps → AreListed w (ps ++ numbers_of (waiting_in ring r) ∷ [])
listed_persisted v w ps ring r result is listed u among = by result (subst (λ (x : BackState). Contains (waiting_now x) u) is among)
  where
    new : Persisted
    new = numbers_of (waiting_in ring r)

    here : Contains (waiting_now v) u → IsTrue (is_listed (ps ++ new ∷ []) (numbers_of u))
    here old = listed_before ps new (numbers_of u) (listed u old)

    by : (result : Result (Unit {0}) BackFault) → Contains (waiting_now (answered result (λ done. with_record ring r v) v)) u → IsTrue (is_listed (ps ++ new ∷ []) (numbers_of u))
    by (Ok done) among = ⊎_elim here (λ same. subst (λ (x : Waiting). IsTrue (is_listed (ps ++ new ∷ []) (numbers_of x))) (sym same) (listed_now ps new)) (added v ring r u among)
    by (Err Device) among = here among
    by (Err Dead) among = here among
    by (Err (RingFull used need)) among = here among

-- and after one that reproduces
pub listed_reproduced : (v w : BackState) (ps : List Persisted) (result : Result ℕ BackFault) → w ≡ answered result (reproduced v) v → AreListed v ps → AreListed w ps
listed_reproduced v w ps result is listed u among = listed u (by result (subst (λ (x : BackState). Contains (waiting_now x) u) is among))
  where
    some_left : (x : ℕ) (b : Bool) → Contains (waiting_now (if b then v else record v { log = without_records_to x v.log })) u → Contains (waiting_now v) u
    some_left x true among = among
    some_left x false among = ((released_waiting x v.log.lanes).only u among).0

    by : (result : Result ℕ BackFault) → Contains (waiting_now (answered result (reproduced v) v)) u → Contains (waiting_now v) u
    by (Ok x) among = some_left x (x == v.log.reproduced) among
    by (Err Device) among = among
    by (Err Dead) among = among
    by (Err (RingFull used need)) among = among

pub sizes_persisted : (v w : BackState) (ring : ℕ) (r : RedoBundle) (result : Result (Unit {0}) BackFault) → w ≡ answered result (λ done. with_record ring r v) v → w.log.sizes ≡ v.log.sizes
sizes_persisted v w ring r result is = ap (λ (x : BackState). x.log.sizes) is ∙ by result
  where
    by : (result : Result (Unit {0}) BackFault) → (answered result (λ done. with_record ring r v) v).log.sizes ≡ v.log.sizes
    by (Ok done) = refl
    by (Err Device) = refl
    by (Err Dead) = refl
    by (Err (RingFull used need)) = refl

pub sizes_reproduced : (v w : BackState) (result : Result ℕ BackFault) → w ≡ answered result (reproduced v) v → w.log.sizes ≡ v.log.sizes
sizes_reproduced v w result is = ap (λ (x : BackState). x.log.sizes) is ∙ by result
  where
    some_left : (x : ℕ) (b : Bool) → (if b then v else record v { log = without_records_to x v.log }).log.sizes ≡ v.log.sizes
    some_left x true = refl
    some_left x false = refl

    by : (result : Result ℕ BackFault) → (answered result (reproduced v) v).log.sizes ≡ v.log.sizes
    by (Ok x) = some_left x (x == v.log.reproduced)
    by (Err Device) = refl
    by (Err Dead) = refl
    by (Err (RingFull used need)) = refl
