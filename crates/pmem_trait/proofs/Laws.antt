-- From a list of calls to every image at every moment: a property that holds along a list is kept by who makes it.
use Rattle.std.proofs.Common.{◌≡◌, ◌⊎◌, inl, inr, ⊎_elim, ℕ, zero, suc, ◌+◌, ◌≤◌, ◌-◌, ◌^◌, Bool, true, false, IsTrue, List, [], ◌∷◌, ◌++◌, length, take, refl, sym, ◌∙◌, subst, arith}
use Rattle.pmem_trait.specs.declared.call.Call.{Call}
use Rattle.pmem_trait.specs.declared.call.Call.TheVariants.{Flush, Fence}
use Rattle.pmem_trait.specs.Words.{State, after, after_all, HalfDone, EveryImage, AfterEachCall, AfterEachCall.end, AfterEachCall.more}
use Rattle.pmem_trait.specs.Sights.{Sight, state_now, OneCall, CallsMade, CallsMade.none, CallsMade.stop, CallsMade.step, CallEffect, AtEveryMoment}
use Rattle.pmem_trait.proofs.Images.{half_every_image, every_image_flush, every_image_fence}
use Rattle.pmem_trait.proofs.Runs.{later_here, later_then, goes_here}

-- a property along a list holds before it, and along the rest
pub after_each_here : {P : State → Type 0} {p : State} {cs : List Call} → AfterEachCall P p cs → P p
after_each_here (end h) = h
after_each_here (more h rest) = h

pub after_each_rest : {P : State → Type 0} {p : State} {c : Call} {cs : List Call} → AfterEachCall P p (c ∷ cs) → AfterEachCall P (after c p) cs
after_each_rest (more h rest) = rest

-- a moment from a to c is one from a to b, or one from b to c
either_side : (a b c m : ℕ) → (m ≤ b) ⊎ (b ≤ m)
either_side a b c m = grind arith

pub every_moment_here : (P : List ℕ → List ℕ → Type 0) {s : Sight} → (IsTrue s.is_visible → EveryImage s.len P (state_now s)) → AtEveryMoment P s s
every_moment_here P {s} holds = record {
  later = later_here s;
  each = λ told m from upto. let now : s.now ≡ m = omega arith in subst (λ (k : ℕ). EveryImage s.len P (s.state k)) now (holds told);
}

-- a run goes on
pub every_moment_then : {P : List ℕ → List ℕ → Type 0} {s t u : Sight} → AtEveryMoment P s t → AtEveryMoment P t u → AtEveryMoment P s u
every_moment_then {P} {s} {t} {u} a b = record {
  later = later_then a.later b.later;
  each = λ told m from upto. ⊎_elim
      (λ (before : m ≤ t.now). subst (λ (p : State). EveryImage s.len P p) (sym (b.later.past (a.later.is_visible ∙ told) m before)) (a.each told m from before))
      (λ (behind : t.now ≤ m). subst (λ (n : ℕ). EveryImage n P (u.state m)) a.later.len (b.each (a.later.is_visible ∙ told) m behind upto))
      (either_side s.now t.now u.now m);
}

-- a property that asks less
pub every_moment_weaker : {P Q : List ℕ → List ℕ → Type 0} {s t : Sight} → ((told image : List ℕ) → length image ≡ s.len → P told image → Q told image) → AtEveryMoment P s t → AtEveryMoment Q s t
every_moment_weaker less keeps = record {
  later = keeps.later;
  each = λ told m from upto. record { each = λ image is. less _ image is.size ((keeps.each told m from upto).each image is) };
}

-- the state after one call, or half of it
half_here : {len : ℕ} {P : List ℕ → List ℕ → Type 0} (c : Call) (ok : Bool) {p q : State} → EveryImage len P p → EveryImage len P (after c p)
    → CallEffect c ok p q → EveryImage len P q
half_here {len} {P} c true old new does = subst (λ (p : State). EveryImage len P p) (sym does) new
half_here c false old new does = half_every_image c old new does

-- what holds before a call and after it is kept by the call, also if it fails
pub goes_keep : (P : List ℕ → List ℕ → Type 0) {c : Call} {ok : Bool} {s t : Sight} → OneCall c ok s t
    → (IsTrue s.is_visible → EveryImage s.len P (state_now s)) → (IsTrue s.is_visible → EveryImage s.len P (after c (state_now s))) → AtEveryMoment P s t
goes_keep P {c} {ok} {s} {t} g old new = record {
  later = g.later;
  each = λ told m from upto. ⊎_elim
      (λ (before : m ≤ s.now). let now : s.now ≡ m = omega arith in subst (λ (p : State). EveryImage s.len P p) (sym (g.later.past told m before)) (subst (λ (k : ℕ). EveryImage s.len P (s.state k)) now (old told)))
      (λ (next : t.now ≡ m × t.now ≡ s.now + 1). subst (λ (k : ℕ). EveryImage s.len P (t.state k)) next.0 (half_here c ok (old told) (new told) (g.does told next.1)))
      (first_or_next s.now t.now m from upto g.time);
}
  where
    first_or_next : (a b m : ℕ) → a ≤ m → m ≤ b → (b ≡ a + 1) ⊎ ((a ≡ 2 ^ 64 - 1) × (b ≡ a) × (ok ≡ false)) → (m ≤ a) ⊎ ((b ≡ m) × (b ≡ a + 1))
    first_or_next a b m from upto (inl next) = grind arith
    first_or_next a b m from upto (inr full) = inl (omega (arith, full.1))

-- The one way from code to images: what holds along the list is kept by whoever makes it, to its end or up to a stop.
pub made_keep : (P : List ℕ → List ℕ → Type 0) {cs : List Call} {ok : Bool} {s t : Sight} → CallsMade cs ok s t → (IsTrue s.is_visible → AfterEachCall (EveryImage s.len P) (state_now s) cs) → AtEveryMoment P s t
made_keep P none law = every_moment_here P (λ told. after_each_here (law told))
made_keep P (stop g) law = goes_keep P g (λ told. after_each_here (law told)) (λ told. after_each_here (after_each_rest (law told)))
made_keep P (step {cs = cs} {s = s} {t = t} g rest) law = every_moment_then
    (goes_keep P g (λ told. after_each_here (law told)) (λ told. after_each_here (after_each_rest (law told))))
    (made_keep P rest (λ told.
    let was = sym g.later.is_visible ∙ told in
    subst (λ (n : ℕ). AfterEachCall (EveryImage n P) (state_now t) cs) (sym g.later.len)
    (subst (λ (p : State). AfterEachCall (EveryImage s.len P) p cs) (sym (goes_here g was)) (after_each_rest (law was)))))

-- a run goes on with a list: its law is asked at the run's entry
pub every_moment_on : (P : List ℕ → List ℕ → Type 0) {cs : List Call} {ok : Bool} {s t u : Sight} → AtEveryMoment P s t → CallsMade cs ok t u → (IsTrue s.is_visible → AfterEachCall (EveryImage s.len P) (state_now t) cs) → AtEveryMoment P s u
every_moment_on P {cs} {ok} {s} {t} {u} keeps makes law = every_moment_then keeps (made_keep P makes (λ told.
    subst (λ (n : ℕ). AfterEachCall (EveryImage n P) (state_now t) cs) (sym keeps.later.len) (law (sym keeps.later.is_visible ∙ told))))

-- two laws, one behind the other
pub after_each_then : {P : State → Type 0} {p : State} {bs cs : List Call} → AfterEachCall P p bs → AfterEachCall P (after_all bs p) cs → AfterEachCall P p (bs ++ cs)
after_each_then (end h) rest = rest
after_each_then (more h first) rest = more h (after_each_then first rest)

pub after_all_then : (bs cs : List Call) (p : State) → after_all (bs ++ cs) p ≡ after_all cs (after_all bs p)
after_all_then [] cs p = refl
after_all_then (b ∷ bs) cs p = after_all_then bs cs (after b p)

-- one call more before the others
pub after_each_call : {P : State → Type 0} {p : State} {c : Call} {cs : List Call} → P p → P (after c p) → (P (after c p) → AfterEachCall P (after c p) cs) → AfterEachCall P p (c ∷ cs)
after_each_call h next rest = more h (rest next)

-- a flush and a fence need no argument
pub after_each_flush : {len : ℕ} {P : List ℕ → List ℕ → Type 0} {p : State} {line : ℕ} {cs : List Call} → EveryImage len P p → (EveryImage len P (after (Flush line) p) → AfterEachCall (EveryImage len P) (after (Flush line) p) cs) → AfterEachCall (EveryImage len P) p (Flush line ∷ cs)
after_each_flush {line = line} h rest = more h (rest (every_image_flush line h))

pub after_each_fence : {len : ℕ} {P : List ℕ → List ℕ → Type 0} {p : State} {cs : List Call} → EveryImage len P p → (EveryImage len P (after Fence p) → AfterEachCall (EveryImage len P) (after Fence p) cs) → AfterEachCall (EveryImage len P) p (Fence ∷ cs)
after_each_fence h rest = more h (rest (every_image_fence h))

-- a property of states that asks less
pub after_each_weaker : {P Q : State → Type 0} {p : State} {cs : List Call} → ((q : State) → P q → Q q) → AfterEachCall P p cs → AfterEachCall Q p cs
after_each_weaker {p = p} less (end h) = end (less p h)
after_each_weaker {p = p} less (more h rest) = more (less p h) (after_each_weaker less rest)

-- the property after the whole list
pub after_each_last : {P : State → Type 0} {p : State} {cs : List Call} → AfterEachCall P p cs → P (after_all cs p)
after_each_last (end h) = h
after_each_last (more h rest) = after_each_last rest

-- and where one call on the way is half done
pub after_each_half : {len : ℕ} {P : List ℕ → List ℕ → Type 0} (prefix : List Call) (last : Call) (rest : List Call) {p q : State}
    → AfterEachCall (EveryImage len P) p (prefix ++ last ∷ rest) → HalfDone last (after_all prefix p) q → EveryImage len P q
after_each_half [] last rest along half = half_every_image last (after_each_here along) (after_each_here (after_each_rest along)) half
after_each_half (c ∷ cs) last rest along half = after_each_half cs last rest (after_each_rest along) half

-- a property of images that asks less
pub after_each_leaves : {len : ℕ} {P Q : List ℕ → List ℕ → Type 0} {p : State} {cs : List Call} → ((told image : List ℕ) → length image ≡ len → P told image → Q told image)
    → AfterEachCall (EveryImage len P) p cs → AfterEachCall (EveryImage len Q) p cs
after_each_leaves less (end h) = end (record { each = λ image is. less _ image is.size (h.each image is) })
after_each_leaves less (more h rest) = more (record { each = λ image is. less _ image is.size (h.each image is) }) (after_each_leaves less rest)

-- the property after the first k calls
pub after_each_prefix : {P : State → Type 0} {cs : List Call} {p : State} (k : ℕ) → AfterEachCall P p cs → P (after_all (take k cs) p)
after_each_prefix {P} {cs} {p} k law = go k cs p law
  where
    go : (k : ℕ) (cs : List Call) (p : State) → AfterEachCall P p cs → P (after_all (take k cs) p)
    go zero cs p law = after_each_here law
    go (suc k) [] p law = after_each_here law
    go (suc k) (c ∷ cs) p law = go k cs (after c p) (after_each_rest law)
