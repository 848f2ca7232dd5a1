-- Views that are split and joined, by their places.
use Rattle.std.proofs.Common.{◌≡◌, ◌≢◌, ℕ, zero, suc, ◌+◌, ◌-◌, ◌*◌, ◌^◌, ◌<◌, ◌≤◌, Bool, true, false, List, [], ◌∷◌, length, map, refl, sym, ap, subst, ◌∙◌, arith}
use mathlib.Core.Option.{some, some-injective}
use lib.ListN.{get_elem?}
use Rattle.core_events.specs.Setups.{Setup}
use Rattle.core_events.specs.Keyed.{one_if, total}
use Rattle.core_events.specs.KeptThreads.{part_of, held_of, waiting_of, splits_of}
use Rattle.core_events.specs.KeptLocks.{draws_of}
use Rattle.core_events.specs.Views.{Part, View}
use Rattle.core_events.specs.Words.{State}
use Rattle.core_events.specs.Conditions.{IsIdle}
use Rattle.core_events.specs.Partings.{MaySplit, MayJoin}
use Rattle.core_events.specs.Kept.{Kept}
use Rattle.core_events.proofs.Lists.{there, at_map}
use Rattle.core_events.proofs.Telling.{kept_seated, kept_sized}
use Rattle.dude_core.specs.Named.{Tells}
use Rattle.dude_core.specs.Small.{AreSmall}

-- ---- where the tests say so
pub split_tells : (c : State) (who draws : ℕ) (u : View) (b : Bool) → get_elem? c.views who ≡ some u → Tells b ((u.part.is_spent ≡ false) × (0 < u.part.splits) × (draws ≤ u.draws)) → Tells b ((v : View) × MaySplit c who v draws)
split_tells c who draws u true at h = (u, record { is_there = at; live = h.0; split_left = h.1; draws_left = h.2 })
split_tells c who draws u false at h = λ t. let same : t.0 ≡ u = some-injective t.0 u (sym t.1.is_there ∙ at) in
    h (subst (λ (v : View). (v.part.is_spent ≡ false) × (0 < v.part.splits) × (draws ≤ v.draws)) same (t.1.live, t.1.split_left, t.1.draws_left))

pub join_tells : (c : State) (who other : ℕ) (u x : View) (b : Bool) → who ≢ other → get_elem? c.views who ≡ some u → u.part.is_spent ≡ false → get_elem? c.views other ≡ some x
    → Tells b ((x.part.is_spent ≡ false) × IsIdle x × (x.turn.has_it ≡ false)) → Tells b ((v : View) × (w : View) × MayJoin c who v other w)
join_tells c who other u x true apart at live also h = (u, x, record { is_there = at; live = live; apart = λ e. apart (sym e); other_there = also; other_live = h.0; other_idle = h.1; no_turn = h.2 })
join_tells c who other u x false apart at live also h = λ t. let same : t.1 ≡ x = some-injective t.1 x (sym t.2.other_there ∙ also) in
    h (subst (λ (w : View). (w.part.is_spent ≡ false) × IsIdle w × (w.turn.has_it ≡ false)) same (t.2.other_live, t.2.other_idle, t.2.no_turn))

pub not_joined : (c : State) (who other : ℕ) (u : View) (b : Bool) → b ≡ false → get_elem? c.views who ≡ some u → Tells b (u.part.is_spent ≡ false) → Tells b ((v : View) × (w : View) × MayJoin c who v other w)
not_joined c who other u true is at h = absurd (cc)
not_joined c who other u false is at h = λ t. h (subst (λ (v : View). v.part.is_spent ≡ false) (some-injective t.0 u (sym t.2.is_there ∙ at)) t.2.live)

-- ---- sums
one_in : {A : Type 0} (f : A → ℕ) (l : List A) (i : ℕ) (a : A) → get_elem? l i ≡ some a → f a ≤ total f l
one_in f [] i a e = let h = there [] i a e in absurd (omega arith)
one_in f (x ∷ xs) zero a e = let s : f x ≡ f a = ap f (some-injective x a e) in omega arith
one_in f (x ∷ xs) (suc i) a e = let h = one_in f xs i a e in omega arith

two_in : {A : Type 0} (f : A → ℕ) (l : List A) (i j : ℕ) (a b : A) → j ≢ i → get_elem? l i ≡ some a → get_elem? l j ≡ some b → f a + f b ≤ total f l
two_in f [] i j a b apart ei ej = let h = there [] i a ei in absurd (omega arith)
two_in f (x ∷ xs) zero zero a b apart ei ej = absurd (apart refl)
two_in f (x ∷ xs) zero (suc j) a b apart ei ej = let s : f x ≡ f a = ap f (some-injective x a ei) in let h = one_in f xs j b ej in omega arith
two_in f (x ∷ xs) (suc i) zero a b apart ei ej = let s : f x ≡ f b = ap f (some-injective x b ej) in let h = one_in f xs i a ei in omega arith
two_in f (x ∷ xs) (suc i) (suc j) a b apart ei ej = let h = two_in f xs i j a b (λ e. apart (ap suc e)) ei ej in omega arith

-- a live view has a number, or waits for one
counts_one : (p : Part) → p.is_spent ≡ false → 1 ≤ held_of p + waiting_of p
counts_one p live = let w : waiting_of p ≡ 1 - one_if p.thread = rw live refl in omega arith

product_from : (a b : ℕ) → 0 < b → a ≤ a * b
product_from a zero pos = absurd (omega arith)
product_from a (suc b) pos = omega arith

pub small_of : (z : Setup) (c : State) (who other : ℕ) (v w : View) → Kept z c → MayJoin c who v other w → length c.boxes < 2 ^ 64 → AreSmall v w
small_of z c who other v w k m few =
    let l = k.layers in
    let draws = two_in draws_of c.views who other v w m.apart m.is_there m.other_there in
    let room = l.locks.bounded in
    let p_at = at_map part_of c.views who v m.is_there in let q_at = at_map part_of c.views other w m.other_there in
    let splits = two_in splits_of (map part_of c.views) who other v.part w.part m.apart p_at q_at in
    let held = one_in held_of (map part_of c.views) other w.part q_at in
    let waiting = one_in waiting_of (map part_of c.views) other w.part q_at in
    let one = counts_one w.part m.other_live in
    let all = l.threads.held in let sum = l.threads.counted in
    let sized = (kept_sized z c k).boxes in
    let next = (kept_seated z c k who v m.is_there).next in
    let from : z.threads ≤ z.threads * z.boxes = product_from z.threads z.boxes (omega arith) in
    record { draws = omega arith; splits = omega arith }

-- where views are listed and boxes are counted by the fields of a state
pub small_there : (z : Setup) (c : State) (who other : ℕ) (l : List View) (boxes : List ℕ) → l ≡ c.views → boxes ≡ c.boxes → length boxes < 2 ^ 64 → Kept z c → (v : View) × (w : View) × MayJoin c who v other w
    → (v w : View) → get_elem? l who ≡ some v → get_elem? l other ≡ some w → AreSmall v w
small_there z c who other l boxes l_is boxes_is few k t v w at also =
    let one : t.0 ≡ v = some-injective t.0 v (sym t.2.is_there ∙ (ap (λ (m : List View). get_elem? m who) (sym l_is) ∙ at)) in
    let two : t.1 ≡ w = some-injective t.1 w (sym t.2.other_there ∙ (ap (λ (m : List View). get_elem? m other) (sym l_is) ∙ also)) in
    let n : length boxes ≡ length c.boxes = ap length boxes_is in
    let small : AreSmall t.0 t.1 = small_of z c who other t.0 t.1 k t.2 (omega arith) in
    subst (λ (y : View). AreSmall v y) two (subst (λ (x : View). AreSmall x t.1) one small)
