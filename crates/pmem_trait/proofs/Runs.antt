-- Lists of calls, one behind another: from what each call does to what the list does.
use Rattle.std.proofs.Common.{◌≡◌, ◌⊎◌, ⊎_elim, ℕ, zero, suc, ◌+◌, ◌<◌, ◌≤◌, Bool, true, false, IsTrue, List, [], ◌∷◌, ◌++◌, length, map, get_or, take, drop, refl, sym, ap, ◌∙◌, subst, append_assoc, append-nil, add-one, arith, Result, Ok, Err, is_ok, OnOk, OnErr, true≢false, take_all, take-append-drop}
use Rattle.std.proofs.lemmas.List.{take_more}
use Rattle.pmem_trait.specs.declared.call.Call.{Call}
use Rattle.pmem_trait.specs.declared.made.Made.{Made}
use Rattle.pmem_trait.specs.Words.{State, after, after_all}
use Rattle.pmem_trait.specs.MediumLaws.{LawOfListing}
use Rattle.pmem_trait.specs.Sights.{Sight, state_now, Risen, Extends, OneCall, CallsMade, CallsMade.none, CallsMade.stop, CallsMade.step, SomeCalls}
use Rattle.pmem_trait.specs.Listed.{was_made, AllMade, PrefixMade}
use Rattle.pmem_trait.specs.Rounds.{rounds}

pub later_here : (s : Sight) → Extends s s
later_here s = record { len = refl; now = omega arith; faults = omega arith; is_visible = refl; past = λ told m upto. refl }

pub later_then : {s t u : Sight} → Extends s t → Extends t u → Extends s u
later_then a b = record {
  len = b.len ∙ a.len;
  now = omega arith;
  faults = omega arith;
  is_visible = b.is_visible ∙ a.is_visible;
  past = λ told m upto. b.past (a.is_visible ∙ told) m (omega arith) ∙ a.past told m upto;
}

-- one list behind another
pub made_then : {bs cs : List Call} {ok : Bool} {s t u : Sight} → CallsMade bs true s t → CallsMade cs ok t u → CallsMade (bs ++ cs) ok s u
made_then none after_it = after_it
made_then (step g rest) after_it = step g (made_then rest after_it)

-- a stop in the first of two lists
pub made_stop : {bs : List Call} {s t : Sight} (cs : List Call) → CallsMade bs false s t → CallsMade (bs ++ cs) false s t
made_stop cs (stop g) = stop g
made_stop cs (step g rest) = step g (made_stop cs rest)

pub ruleset making = (none, stop, step, made_then, made_stop)

-- what stays of the medium
pub made_later : {cs : List Call} {ok : Bool} {s t : Sight} → CallsMade cs ok s t → Extends s t
made_later none = later_here _
made_later (stop g) = g.later
made_later (step g rest) = later_then g.later (made_later rest)

-- the state after one call
pub goes_here : {c : Call} {s t : Sight} → OneCall c true s t → IsTrue s.is_visible → state_now t ≡ after c (state_now s)
goes_here {c} {s} {t} g told = ⊎_elim (λ next. g.does told next) (λ full. absurd (true≢false full.2)) g.time

-- the state after a list of calls
pub made_here : {cs : List Call} {s t : Sight} → CallsMade cs true s t → IsTrue s.is_visible → state_now t ≡ after_all cs (state_now s)
made_here none told = refl
made_here (step {cs = cs} g rest) told = made_here rest (g.later.is_visible ∙ told) ∙ ap (λ (p : State). after_all cs p) (goes_here g told)

-- a count of faults that rose stays risen
pub risen_later : (a b c d : ℕ) → a ≤ b → Risen b c → c ≤ d → Risen a d
risen_later a b c d before risen behind = omega arith

-- a list that stopped has a cause
pub made_cause : {cs : List Call} {s t : Sight} → CallsMade cs false s t → Risen s.faults t.faults
made_cause (stop g) = g.cause refl
made_cause (step {s = s} {t = t} {u = u} g rest) = risen_later s.faults t.faults u.faults u.faults g.later.faults (made_cause rest) (omega arith)

-- where the calls are listed at the exit, they were at the entry
pub made_lists : {cs : List Call} {ok : Bool} {s t : Sight} → CallsMade cs ok s t → IsTrue t.lists_calls → IsTrue s.lists_calls
made_lists none listed = listed
made_lists (stop g) listed = (g.lists_calls listed).0
made_lists (step g rest) listed = (g.lists_calls (made_lists rest listed)).0

-- a list that ended well stands behind the calls made before
pub made_list : {cs : List Call} {s t : Sight} → CallsMade cs true s t → AllMade cs s t
made_list none listed = sym (append-nil _)
made_list (step {c = c} {cs = cs} {s = s} {t = t} g rest) listed =
    made_list rest listed
    ∙ ap (λ (l : List Made). l ++ map was_made cs) (g.lists_calls (made_lists rest listed)).1
    ∙ append_assoc s.made (was_made c ∷ []) (map was_made cs)

-- a list that stopped has left a prefix, whose last call failed
pub made_prefix : {cs : List Call} {s t : Sight} → CallsMade cs false s t → PrefixMade cs s t
made_prefix (stop {c = c} {cs = cs} g) listed = ([], c, cs, refl, (g.lists_calls listed).1)
made_prefix (step {c = c} {cs = cs} {s = s} {t = t} g rest) listed =
    let behind = made_prefix rest listed in (
      c ∷ behind.0,
      behind.1,
      behind.2,
      ap (λ (l : List Call). c ∷ l) behind.3,
      behind.4
          ∙ ap (λ (l : List Made). l ++ (map was_made behind.0 ++ record { call = behind.1; failed = true } ∷ [])) (g.lists_calls (made_lists rest listed)).1
          ∙ append_assoc s.made (was_made c ∷ []) (map was_made behind.0 ++ record { call = behind.1; failed = true } ∷ []),
    )

-- a fact at an error, and at Ok
pub on_err : {T E : Type 0} (r : Result T E) {P : Type 0} → (is_ok r ≡ false → P) → OnErr r P
on_err (Ok x) holds = tt
on_err (Err e) holds = holds refl

pub on_ok : {T E : Type 0} (r : Result T E) {P : Type 0} → (is_ok r ≡ true → P) → OnOk r P
on_ok (Ok x) holds = holds refl
on_ok (Err e) holds = tt

-- what the list of calls says
pub made_listed : LawOfListing
made_listed cs true s t makes = made_list makes
made_listed cs false s t makes = made_prefix makes

-- the cause of an error
pub has_cause : {T E : Type 0} (r : Result T E) {cs : List Call} {s t : Sight} → CallsMade cs (is_ok r) s t → OnErr r (Risen s.faults t.faults)
has_cause (Ok x) makes = tt
has_cause (Err e) makes = made_cause makes

-- some calls
pub ran_here : (s : Sight) → SomeCalls true s s
ran_here s = ([], none)

pub ran_on : {cs : List Call} {ok : Bool} {s t u : Sight} → SomeCalls true s t → CallsMade cs ok t u → SomeCalls ok s u
ran_on {cs} ran makes = (ran.0 ++ cs, made_then ran.1 makes)

pub ran_then : {ok : Bool} {s t u : Sight} → SomeCalls true s t → SomeCalls ok t u → SomeCalls ok s u
ran_then ran on = (ran.0 ++ on.0, made_then ran.1 on.1)

-- one call is a list of its own
pub goes_alone : {c : Call} (ok : Bool) {s t : Sight} → OneCall c ok s t → CallsMade (c ∷ []) ok s t
goes_alone true g = step g none
goes_alone false g = stop g

-- A loop of single calls over a list: one call more, the whole list, and a stop on the way.
pub made_next : (all : List Call) (i : ℕ) (c : Call) {ok : Bool} {s t u : Sight} → i < length all → get_or all i c ≡ c → CallsMade (take i all) true s t → OneCall c ok t u → CallsMade (take (i + 1) all) ok s u
made_next all i c {ok} {s} {t} {u} below is made g =
    subst (λ (l : List Call). CallsMade l ok s u)
    (ap (λ (last : Call). take i all ++ last ∷ []) (sym is) ∙ sym (take_more all i c below))
    (made_then made (goes_alone ok g))

pub made_whole : (all : List Call) (i : ℕ) {s t : Sight} → length all ≤ i → CallsMade (take i all) true s t → CallsMade all true s t
made_whole all i {s} {t} end made = subst (λ (l : List Call). CallsMade l true s t) (take_all i all end) made

pub made_cut : (all : List Call) (i : ℕ) {s t : Sight} → CallsMade (take i all) false s t → CallsMade all false s t
made_cut all i {s} {t} made = subst (λ (l : List Call). CallsMade l false s t) (take-append-drop i all) (made_stop (drop i all) made)

-- A loop of lists: one round more, and a stop on the way.
pub rounds_next : (calls : ℕ → List Call) (i : ℕ) {ok : Bool} {s t u : Sight} → CallsMade (rounds calls i) true s t → CallsMade (calls i) ok t u → CallsMade (rounds calls (i + 1)) ok s u
rounds_next calls i {ok} {s} {t} {u} made on = rw add-one (made_then made on)

pub rounds_cut : (calls : ℕ → List Call) (i n : ℕ) {s t : Sight} → i ≤ n → CallsMade (rounds calls i) false s t → CallsMade (rounds calls n) false s t
rounds_cut calls i zero {s} {t} upto made = let none_left : i ≡ 0 = omega arith in subst (λ (k : ℕ). CallsMade (rounds calls k) false s t) none_left made
rounds_cut calls i (suc n) {s} {t} upto made = ⊎_elim
    (λ (same : i ≡ suc n). subst (λ (k : ℕ). CallsMade (rounds calls k) false s t) same made)
    (λ (less : i ≤ n). made_stop (calls n) (rounds_cut calls i n less made))
    (here_or_below i n upto)
  where
    here_or_below : (i n : ℕ) → i ≤ suc n → (i ≡ suc n) ⊎ (i ≤ n)
    here_or_below i n upto = grind arith
