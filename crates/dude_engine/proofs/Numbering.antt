-- The last number of the requests performed, and one request more.
use Rattle.std.proofs.Common.{◌≡◌, ℕ, ◌+◌, ◌≤◌, Bool, true, false, max, List, [], ◌∷◌, ◌++◌, length, refl, sym, ap, ◌∙◌, subst, arith, ⊎_elim}
use Rattle.std.specs.Prelude.{if◌then◌else◌}
use Rattle.std.specs.List.{All, filter}
use Rattle.std.proofs.lemmas.Bool.{cases_Bool, both_ways}
use Rattle.std.proofs.lemmas.List.Elements.{All-nil, All-cons, All-head, All-tail, All-weaker}
use Rattle.tatp_model.specs.declared.done.Done.{Done}
use Rattle.tatp_model.specs.Transaction.{reply_to, after_request}
use Rattle.tatp_model.specs.OneThread.{is_changed, after_number}
use Rattle.tatp_model.proofs.Run.{after_order-push, after_request-unchanged, after_number-all, RepliesAlong-push}
use Rattle.run_order.specs.Runs.{IsNumberedFrom}
use Rattle.run_order.proofs.Performed.{last_number, last_number-push, next_number, numbers_within, first_within, after_number-kept, IsNumberedFrom-push}
use Rattle.dude_engine.specs.Opening.{Opening, last_of}
use Rattle.dude_engine.specs.Running.{AreAnswered, last_performed, tables_after}

pub last_same : (first : ℕ) (performed : List Done) → last_number first performed ≡ last_performed first performed
last_same first [] = refl
last_same first (d ∷ performed) = last_same d.number performed

pub last_push : (first : ℕ) (performed : List Done) (d : Done) → last_performed first (performed ++ d ∷ []) ≡ d.number
last_push first performed d = sym (last_same first (performed ++ d ∷ [])) ∙ last_number-push first performed d

-- One request more: its number is the last or the next, and it is answered at the tables behind the others.
pub record IsNext (opening : Opening) (performed : List Done) (d : Done) : Type 0 where
  pub number : d.number ≡ (if d.wrote then last_performed opening.number performed + 1 else last_performed opening.number performed)
  pub reply : d.reply ≡ reply_to opening.sizes.calls (tables_after opening performed) d.request
  pub wrote : d.wrote ≡ is_changed d.reply

pub answered_start : (opening : Opening) → AreAnswered opening []
answered_start opening = record { numbered = tt; replies = tt }

pub answered_push : (opening : Opening) (performed : List Done) (d : Done) → AreAnswered opening performed → IsNext opening performed d → AreAnswered opening (performed ++ d ∷ [])
answered_push opening performed d answered next = record {
  numbered = IsNumberedFrom-push opening.number performed d answered.numbered
      (subst (λ (n : ℕ). d.number ≡ (if d.wrote then n + 1 else n)) (sym (last_same opening.number performed)) next.number);
  replies = RepliesAlong-push opening.sizes.calls opening.database performed d answered.replies next.reply next.wrote;
}

pub first_upto : (opening : Opening) (performed : List Done) → AreAnswered opening performed → opening.number ≤ last_performed opening.number performed
first_upto opening performed answered = omega (arith, first_within opening.number performed answered.numbered, last_same opening.number performed)

pub all_upto : (opening : Opening) (performed : List Done) → AreAnswered opening performed → All (λ d. d.number ≤ last_performed opening.number performed) performed
all_upto opening performed answered =
    All-weaker (λ d. (opening.number ≤ d.number) × (d.number ≤ last_number opening.number performed)) (λ d. d.number ≤ last_performed opening.number performed)
    (λ d h. omega (arith, h.1, last_same opening.number performed)) performed (numbers_within opening.number performed answered.numbered)

-- the last number rises by at most one a request
pub last_few : (first : ℕ) (performed : List Done) → IsNumberedFrom first performed → last_performed first performed ≤ first + length performed
last_few first [] numbered = omega arith
last_few first (d ∷ performed) numbered =
    let rest : last_performed d.number performed ≤ d.number + length performed = last_few d.number performed numbered.1 in
    let one : d.number ≤ first + 1 = ⊎_elim (λ h. let is = rw h at numbered.0 in omega (arith, is)) (λ h. let is = rw h at numbered.0 in omega (arith, is)) (cases_Bool d.wrote) in
    omega (arith, rest, one)

-- ---- the databases at the numbers

pub tables_at_last : (opening : Opening) (performed : List Done) (n : ℕ) → AreAnswered opening performed → last_performed opening.number performed ≤ n
    → after_number opening.sizes.calls opening.database performed n ≡ tables_after opening performed
tables_at_last opening performed n answered over =
    after_number-all opening.sizes.calls opening.database performed n answered.replies
    (All-weaker (λ d. d.number ≤ last_performed opening.number performed) (λ d. d.number ≤ n) (λ d h. omega (arith, h, over)) performed (all_upto opening performed answered))

pub tables_kept : (opening : Opening) (performed : List Done) (d : Done) (n : ℕ) → IsNext opening performed d → n ≤ last_performed opening.number performed
    → after_number opening.sizes.calls opening.database (performed ++ d ∷ []) n ≡ after_number opening.sizes.calls opening.database performed n
tables_kept opening performed d n next within =
    after_number-kept opening.sizes.calls opening.database performed d (last_performed opening.number performed) n next.number within

pub tables_push : (opening : Opening) (performed : List Done) (d : Done) → tables_after opening (performed ++ d ∷ []) ≡ after_request opening.sizes.calls (tables_after opening performed) d.request
tables_push opening performed d = after_order-push opening.sizes.calls opening.database performed d

-- a request that didn't write leaves the tables
pub tables_unwritten : (opening : Opening) (performed : List Done) (d : Done) → IsNext opening performed d → d.wrote ≡ false → tables_after opening (performed ++ d ∷ []) ≡ tables_after opening performed
tables_unwritten opening performed d next unwritten =
    tables_push opening performed d
    ∙ after_request-unchanged opening.sizes.calls (tables_after opening performed) d.request (ap is_changed (sym next.reply) ∙ sym next.wrote ∙ unwritten)

-- the next number is no less than the last
pub last_rises : (opening : Opening) (performed : List Done) (d : Done) → IsNext opening performed d → last_performed opening.number performed ≤ last_performed opening.number (performed ++ d ∷ [])
last_rises opening performed d next =
    omega (arith, (next_number (last_performed opening.number performed) d next.number).0, last_push opening.number performed d)

pub number_unwritten : (opening : Opening) (performed : List Done) (d : Done) → IsNext opening performed d → d.wrote ≡ false → d.number ≡ last_performed opening.number performed
number_unwritten opening performed d next unwritten = (next_number (last_performed opening.number performed) d next.number).2 unwritten

pub number_written : (opening : Opening) (performed : List Done) (d : Done) → IsNext opening performed d → d.wrote ≡ true → d.number ≡ last_performed opening.number performed + 1
number_written opening performed d next written = (next_number (last_performed opening.number performed) d next.number).1 written

-- ---- the greatest number

-- a bound of the first number and of those that wrote is one of the last
pub last_within : (bound first : ℕ) (performed : List Done) → IsNumberedFrom first performed → first ≤ bound → All (λ d. d.wrote ≡ true → d.number ≤ bound) performed → last_performed first performed ≤ bound
last_within bound first [] numbered low all = low
last_within bound first (d ∷ performed) numbered low all =
    let next = next_number first d numbered.0 in
    let here : d.number ≤ bound = ⊎_elim (λ h. All-head (λ e. e.wrote ≡ true → e.number ≤ bound) d performed all h) (λ h. omega (arith, next.2 h, low)) (cases_Bool d.wrote) in
    last_within bound d.number performed numbered.1 here (All-tail (λ e. e.wrote ≡ true → e.number ≤ bound) d performed all)

-- the greatest of some numbers is at least each, and no more than a bound of all
pub greatest_from : (first : ℕ) (done : List Done) → first ≤ last_of first done
greatest_from first [] = omega arith
greatest_from first (d ∷ done) = omega (arith, greatest_from (max first d.number) done)

pub greatest_all : (first : ℕ) (done : List Done) → All (λ d. d.number ≤ last_of first done) done
greatest_all first [] = All-nil (λ d. d.number ≤ first)
greatest_all first (d ∷ done) = All-cons (λ e. e.number ≤ last_of (max first d.number) done) d done (omega (arith, greatest_from (max first d.number) done)) (greatest_all (max first d.number) done)

pub greatest_within : (bound first : ℕ) (done : List Done) → first ≤ bound → All (λ d. d.number ≤ bound) done → last_of first done ≤ bound
greatest_within bound first [] low all = low
greatest_within bound first (d ∷ done) low all =
    let here : d.number ≤ bound = All-head (λ e. e.number ≤ bound) d done all in
    greatest_within bound (max first d.number) done (omega (arith, low, here)) (All-tail (λ e. e.number ≤ bound) d done all)

-- what holds of each element that a test keeps
pub all_kept : {X : Type 0} (test : X → Bool) (P : X → Type 0) (xs : List X) → All P (filter test xs) → All (λ x. test x ≡ true → P x) xs
all_kept test P [] all = All-nil (λ x. test x ≡ true → P x)
all_kept test P (x ∷ xs) all =
    ⊎_elim
    (λ h. let both = rw h at all in All-cons (λ y. test y ≡ true → P y) x xs (λ yes. All-head P x (filter test xs) both) (all_kept test P xs (All-tail P x (filter test xs) both)))
    (λ h. let rest = rw h at all in All-cons (λ y. test y ≡ true → P y) x xs (λ yes. absurd (both_ways (test x) h yes)) (all_kept test P xs rest)) (cases_Bool (test x))
