-- From what the history notes of a call to what the trait says of it.
use Rattle.std.proofs.Common.{true≢false, Some, ◌≡◌, get_or, ◌⊎◌, inl, inr, ⊎_elim, ℕ, zero, suc, ◌/◌, ◌==◌, eqb-true, get_or-set_same, get_or-set_other, ◌+◌, ◌-◌, ◌^◌, ◌<◌, ◌≤◌, min, Bool, true, false, not, ◌&&◌, ◌||◌, if◌then◌else◌, nat_lt, nat_le, IsTrue, List, [], ◌∷◌, ◌++◌, length, take, drop, set, slice_index, refl, sym, ap, subst, ◌∙◌, arith, take_all, ltb-true, ltb-false, leb-true, le-leb}
use Rattle.std.proofs.lemmas.List.{take-append-le, take_more}
use Rattle.std.proofs.lemmas.Bool.{eqb-false}
use Rattle.pmem_trait.specs.declared.call.Call.{Call}
use Rattle.pmem_trait.specs.declared.call.Call.TheVariants.{Put, Flush, Fence, Tell}
use Rattle.pmem_trait.specs.declared.made.Made.{Made}
use Rattle.pmem_trait.specs.Words.{IsSettled, IsSettledWord, HalfDone, last_told, Word, State, newest, value_of, with_later, with_note, word_after, after}
use Rattle.pmem_trait.specs.Faults.{faults_after}
use Rattle.pmem_trait.specs.Sights.{Sight, state_now, CallEffect, OneCall}
use Rattle.pmem_fake.specs.declared.call_history.CallHistory.{CallHistory}
use Rattle.pmem_fake.specs.declared.mem_pmem.MemPmem.{MemPmem}
use Rattle.pmem_fake.specs.Fakes.{sight, MakesCall}
use Rattle.pmem_fake.specs.CallHistory.{is_to_fail, is_ok_at, has_next_effect, Entered}
use Rattle.pmem_fake.specs.History.{IsUntouched, was_effective, step_made, start_state, after_made, sight_of}

-- what is seen of a medium by its opening words and its history
abbrev pub history_sight : List ℕ → CallHistory → Sight
history_sight start history = sight_of history.late start history.calls.items history.now history.budget history.faults

-- the state after one call more
after_more : (late : Bool) (ms : List Made) (m : Made) (p : State) → after_made late (ms ++ m ∷ []) p ≡ step_made late m (after_made late ms p)
after_more late [] m p = refl
after_more late (x ∷ xs) m p = after_more late xs m (step_made late x p)

-- the state after the first i calls and the next one
pub made_next : (late : Bool) (calls : List Made) (i : ℕ) (d : Made) (p : State) → i < length calls
    → after_made late (take (i + 1) calls) p ≡ step_made late (get_or calls i d) (after_made late (take i calls) p)
made_next late calls i d p below = ap (λ (ms : List Made). after_made late ms p) (take_more calls i d below) ∙ after_more late (take i calls) (get_or calls i d) p

-- the state now is the one after all calls
pub here_now : (start : List ℕ) (history : CallHistory) → state_now (history_sight start history) ≡ after_made history.late history.calls.items (start_state start)
here_now start history = ap (λ (ms : List Made). after_made history.late ms (start_state start)) (take_all history.now history.calls.items (omega (arith, history.as_many)))

-- a call that succeeds is within the budget
ok_within : (now budget : ℕ) (fail : List ℕ) → is_ok_at (now + 1) budget fail ≡ true → now < budget
ok_within now budget fail ok = let within : now + 1 ≤ budget = leb-true (now + 1) budget (left_true _ _ ok) in omega arith
  where
    left_true : (a b : Bool) → (a && b) ≡ true → a ≡ true
    left_true true b both = refl
    left_true false b both = both

-- a call that succeeds has its effect
ok_acts : (within late fails : Bool) → (within && not fails) ≡ true → (within && (late || not fails)) ≡ true
ok_acts true true fails ok = refl
ok_acts true false fails ok = ok
ok_acts false late fails ok = ok

-- a listed call has had its effect exactly where it was to have it
acts_listed : (within late fails : Bool) → within ≡ true → (late || not (not (within && not fails))) ≡ (within && (late || not fails))
acts_listed true true fails is = refl
acts_listed true false true is = refl
acts_listed true false false is = refl
acts_listed false late fails is = absurd (true≢false (sym is))

module _ {c : Call} {ok : Bool} {old new : CallHistory} (e : Entered c ok old new) where
  -- a call is listed, or over the budget and so has failed
  noted_or_over : (b : Bool) → nat_lt old.now old.budget ≡ b
      → (old.now < old.budget × new.calls.items ≡ old.calls.items ++ record { call = c; failed = not ok } ∷ [])
      ⊎ (old.budget ≤ old.now × new.calls.items ≡ old.calls.items × ok ≡ false)
  noted_or_over true is = inl (ltb-true _ _ is, e.calls ∙ ap (λ (b : Bool). if b then old.calls.items ++ record { call = c; failed = not ok } ∷ [] else old.calls.items) is)
  noted_or_over false is = inr (
    ltb-false _ _ is,
    e.calls ∙ ap (λ (b : Bool). if b then old.calls.items ++ record { call = c; failed = not ok } ∷ [] else old.calls.items) is,
    not_ok ok refl,
  )
    where
      not_ok : (b : Bool) → ok ≡ b → ok ≡ false
      not_ok true done = absurd (omega (arith, ok_within old.now old.budget old.fail.items (sym e.exact ∙ done), ltb-false _ _ is))
      not_ok false failed = failed

  noted : (old.now < old.budget × new.calls.items ≡ old.calls.items ++ record { call = c; failed = not ok } ∷ []) ⊎ (old.budget ≤ old.now × new.calls.items ≡ old.calls.items × ok ≡ false)
  noted = noted_or_over (nat_lt old.now old.budget) refl

  -- the state after the call: as the call leaves it where it has its effect, and else as it was
  pub entered_state : (p : State) → after_made new.late new.calls.items p ≡ (if has_next_effect old then after c (after_made old.late old.calls.items p) else after_made old.late old.calls.items p)
  entered_state p = ap (λ (late : Bool). after_made late new.calls.items p) e.late ∙ ⊎_elim
      (λ (listed : old.now < old.budget × new.calls.items ≡ old.calls.items ++ record { call = c; failed = not ok } ∷ []).
      ap (λ (ms : List Made). after_made old.late ms p) listed.1 ∙ after_more old.late old.calls.items (record { call = c; failed = not ok }) p
      ∙ ap step (ap (λ (b : Bool). old.late || not (not b)) e.exact ∙ acts_listed _ old.late _ (le-leb (old.now + 1) old.budget (omega (arith, listed.0)))))
      (λ (over : old.budget ≤ old.now × new.calls.items ≡ old.calls.items × ok ≡ false).
      ap (λ (ms : List Made). after_made old.late ms p) over.1 ∙ sym (ap step (ap (λ (b : Bool). b && (old.late || not (is_to_fail (old.now + 1) old.fail.items))) (lt-leb-false over.0))))
      noted
    where
      step : Bool → State
      step b = if b then after c (after_made old.late old.calls.items p) else after_made old.late old.calls.items p

      lt-leb-false : old.budget ≤ old.now → nat_le (old.now + 1) old.budget ≡ false
      lt-leb-false over = by (nat_le (old.now + 1) old.budget) refl
        where
          by : (b : Bool) → nat_le (old.now + 1) old.budget ≡ b → nat_le (old.now + 1) old.budget ≡ false
          by true is = absurd (omega (arith, leb-true (old.now + 1) old.budget is))
          by false is = is

  module _ (start : List ℕ) where
    pub here_after : state_now (history_sight start new) ≡ (if has_next_effect old then after c (state_now (history_sight start old)) else state_now (history_sight start old))
    here_after = here_now start new ∙ entered_state (start_state start) ∙ ap (λ (p : State). if has_next_effect old then after c p else p) (sym (here_now start old))

    faults_rise : (b : Bool) → new.faults ≡ faults_after b old.faults → old.faults ≤ new.faults
    faults_rise true is = omega arith
    faults_rise false is = omega (arith, old.numbers_fit.1)

    past : (m : ℕ) → m ≤ old.now → after_made new.late (take m new.calls.items) (start_state start) ≡ after_made old.late (take m old.calls.items) (start_state start)
    past m upto = ap (λ (late : Bool). after_made late (take m new.calls.items) (start_state start)) e.late ∙ ⊎_elim
        (λ (listed : old.now < old.budget × new.calls.items ≡ old.calls.items ++ record { call = c; failed = not ok } ∷ []).
        let before : m ≤ length old.calls.items = omega (arith, old.as_many) in
        ap (λ (ms : List Made). after_made old.late ms (start_state start)) (ap (λ (ms : List Made). take m ms) listed.1 ∙ take-append-le m old.calls.items _ before))
        (λ (over : old.budget ≤ old.now × new.calls.items ≡ old.calls.items × ok ≡ false). ap (λ (ms : List Made). after_made old.late (take m ms) (start_state start)) over.1)
        noted

    time : (b : Bool) → ok ≡ b → (new.now ≡ old.now + 1) ⊎ ((old.now ≡ 2 ^ 64 - 1) × (new.now ≡ old.now) × (ok ≡ false))
    time true done = inl (omega (arith, ok_within old.now old.budget old.fail.items (sym e.exact ∙ done), old.small, e.now))
    time false failed = ⊎_elim (λ next. inl next) (λ (full : old.now ≡ 2 ^ 64 - 1 × new.now ≡ old.now). inr (full.0, full.1, failed)) (next_or_full old.now new.now old.numbers_fit.0 e.now)
      where
        next_or_full : (a b : ℕ) → a < 2 ^ 64 → b ≡ min (a + 1) (2 ^ 64 - 1) → (b ≡ a + 1) ⊎ ((a ≡ 2 ^ 64 - 1) × (b ≡ a))
        next_or_full a b fits is = grind arith

    does : (b : Bool) → ok ≡ b → CallEffect c b (state_now (history_sight start old)) (state_now (history_sight start new))
    does true done = here_after ∙ ap (λ (b : Bool). if b then after c (state_now (history_sight start old)) else state_now (history_sight start old)) (ok_acts _ old.late _ (sym e.exact ∙ done))
    does false failed = half (has_next_effect old) here_after
      where
        half : (b : Bool) → state_now (history_sight start new) ≡ (if b then after c (state_now (history_sight start old)) else state_now (history_sight start old)) → HalfDone c (state_now (history_sight start old)) (state_now (history_sight start new))
        half true is = record { word = λ k. inr (ap (λ (p : State). p.word k) is); told = inr (ap (λ (p : State). p.told) is) }
        half false is = record { word = λ k. inl (ap (λ (p : State). p.word k) is); told = inl (ap (λ (p : State). p.told) is) }

    lists : IsTrue (nat_le new.now new.budget) → IsTrue (nat_le old.now old.budget) × (new.calls.items ≡ old.calls.items ++ record { call = c; failed = not ok } ∷ [])
    lists is = ⊎_elim
        (λ (listed : old.now < old.budget × new.calls.items ≡ old.calls.items ++ record { call = c; failed = not ok } ∷ []). (le-leb old.now old.budget (omega arith), listed.1))
        (λ (over : old.budget ≤ old.now × new.calls.items ≡ old.calls.items × ok ≡ false).
        absurd (omega (arith, leb-true new.now new.budget is, e.now, e.budget, over.0, old.small)))
        noted

    -- what the trait says of a call that the history has noted
    pub entered_goes : OneCall c ok (history_sight start old) (history_sight start new)
    entered_goes = record {
      later = record {
        len = refl;
        now = omega (arith, e.now, old.numbers_fit.0);
        faults = faults_rise ok e.faults;
        is_visible = refl;
        past = λ told m upto. past m upto;
      };
      time = time ok refl;
      cause = λ failed. risen failed;
      does = λ told next. does ok refl;
      lists_calls = lists;
    }
      where
        risen : ok ≡ false → min (old.faults + 1) (2 ^ 64 - 1) ≤ new.faults
        risen failed = let is : new.faults ≡ min (old.faults + 1) (2 ^ 64 - 1) = e.faults ∙ ap (λ (b : Bool). faults_after b old.faults) failed in omega arith

-- the last of a list with one value more, and of two lists
newest-more : (x y : ℕ) (xs : List ℕ) → newest x (xs ++ y ∷ []) ≡ y
newest-more x y [] = refl
newest-more x y (z ∷ zs) = newest-more z y zs

newest-parts : (x n : ℕ) (xs : List ℕ) → newest (newest x (take n xs)) (drop n xs) ≡ newest x xs
newest-parts x zero xs = refl
newest-parts x (suc n) [] = refl
newest-parts x (suc n) (y ∷ ys) = newest-parts y n ys

-- no call but a put changes what a read gives
pub flush_value : (line k : ℕ) (w : Word) → value_of (word_after (Flush line) k w) ≡ value_of w
flush_value line k w = by (k / 8 == line)
  where
    by : (b : Bool) → value_of (if b then with_note w else w) ≡ value_of w
    by true = refl
    by false = refl

pub fence_value : (k : ℕ) (w : Word) → value_of (word_after Fence k w) ≡ value_of w
fence_value k w = newest-parts w.settled w.noted w.later

-- the content is what a read gives after all calls
abbrev Holds : List ℕ → List ℕ → CallHistory → Type 0
Holds start words history = (k : ℕ) → k < length start → slice_index words k ≡ value_of ((after_made history.late history.calls.items (start_state start)).word k)

module _ {c : Call} {ok : Bool} {old new : CallHistory} (start words : List ℕ) (e : Entered c ok old new) where
  pub content_stays : ((k : ℕ) (w : Word) → has_next_effect old ≡ true → value_of (word_after c k w) ≡ value_of w) → Holds start words old → Holds start words new
  content_stays same holds k below =
      holds k below ∙ sym (ap (λ (p : State). value_of (p.word k)) (entered_state e (start_state start)) ∙ by (has_next_effect old) refl)
    where
      before : State
      before = after_made old.late old.calls.items (start_state start)

      by : (b : Bool) → has_next_effect old ≡ b → value_of ((if b then after c before else before).word k) ≡ value_of (before.word k)
      by true done = same k (before.word k) done
      by false failed = refl

pub content_put : (at value : ℕ) {ok : Bool} {old new : CallHistory} (start words : List ℕ) → Entered (Put at value) ok old new → has_next_effect old ≡ true → at < length words
    → Holds start words old → Holds start (set words at value) new
content_put at value {old = old} {new = new} start words e done inside holds k below =
    by (k == at) refl ∙ sym (ap (λ (p : State). value_of (p.word k)) (entered_state e (start_state start) ∙ ap (λ (b : Bool). if b then after (Put at value) before else before) done))
  where
    before : State
    before = after_made old.late old.calls.items (start_state start)

    by : (b : Bool) → (k == at) ≡ b → slice_index (set words at value) k ≡ value_of (if b then with_later value (before.word k) else before.word k)
    by true is =
        let w = before.word k in
        ap (λ (j : ℕ). slice_index (set words at value) j) (eqb-true k at is) ∙ get_or-set_same words at value 0 inside ∙ sym (newest-more w.settled value w.later)
    by false is = get_or-set_other words at k value 0 (eqb-false k at is) ∙ holds k below

-- a number told is the last one
pub told_last : (late : Bool) (m : Made) (n : ℕ) (p : State) → was_effective late m ≡ true → m.call ≡ Tell n → Some n ≡ last_told (step_made late m p).told
told_last late m n p done is = by (was_effective late m) done
  where
    last : (ns : List ℕ) → Some n ≡ last_told (ns ++ n ∷ [])
    last [] = refl
    last (x ∷ xs) = ap (λ (k : ℕ). Some k) (sym (newest-more x n xs))

    by : (b : Bool) → b ≡ true → Some n ≡ last_told (if b then after m.call p else p).told
    by true _ = last p.told ∙ ap (λ (c : Call). last_told (after c p).told) (sym is)
    by false none = absurd (true≢false (sym none))

-- a medium is settled when it is made
pub opening_settled : {words : List ℕ} {s : Sight} → IsUntouched words s → IsSettled s.len (state_now s)
opening_settled {words} {s} opening k below = subst (λ (p : State). IsSettledWord (p.word k)) (sym opening.state) refl

-- what the history notes of a call, as what is said of the medium whose history it is
pub makes_call : {c : Call} {ok : Bool} {old new : MemPmem} → Entered c ok old.history new.history → new.start ≡ old.start → MakesCall c ok old new
makes_call {c} {ok} {old} {new} e same = record {
  models = subst (λ (s : List ℕ). OneCall c ok (sight old) (history_sight s new.history)) (sym words) (entered_goes e old.start.items);
  exact = e.exact;
  effect = ap (λ (s : List ℕ). state_now (history_sight s new.history)) words ∙ here_after e old.start.items;
  faults = e.faults;
  plan = record { allowed_stays = e.budget; failing_stay = ap (λ v. v.items) e.fail; late_stays = e.late };
}
  where
    words : new.start.items ≡ old.start.items
    words = ap (λ v. v.items) same
