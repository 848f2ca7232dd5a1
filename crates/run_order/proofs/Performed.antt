-- Requests performed one after another: the last number, and one request more.
use Rattle.std.proofs.Common.{◌≡◌, ℕ, ◌+◌, ◌≤◌, true, false, ◌&&◌, List, [], ◌∷◌, ◌++◌, refl, arith, ⊎_elim}
use Rattle.std.specs.Prelude.{nat_le, if◌then◌else◌}
use Rattle.std.specs.List.{All}
use Rattle.std.proofs.lemmas.Bool.{cases_Bool, lt-leb, and_left, and_right, both_ways}
use Rattle.std.proofs.lemmas.List.Elements.{All-nil, All-cons, All-weaker}
use Rattle.std.proofs.lemmas.List.Quantifiers.{all_pairs_push}
use Rattle.tatp_model.specs.declared.done.Done.{Done}
use Rattle.tatp_model.specs.Database.{Database}
use Rattle.tatp_model.specs.Transaction.{reply_to}
use Rattle.tatp_model.specs.OneThread.{is_changed, after_number}
use Rattle.tatp_model.proofs.Run.{after_order, RepliesAlong-push, after_number-push, after_number-all}
use Rattle.run_order.specs.Runs.{IsNumberedFrom, PrecedesInRounds, Performs}
use Rattle.run_order.proofs.Pairs.{pairs_nil}

-- the last number of requests performed after number `first`
abbrev pub last_number : ℕ → List Done → ℕ
last_number first [] = first
last_number first (d ∷ rest) = last_number d.number rest

pub last_number-push : (first : ℕ) (performed : List Done) (d : Done) → last_number first (performed ++ d ∷ []) ≡ d.number
last_number-push first [] d = refl
last_number-push first (e ∷ performed) d = last_number-push e.number performed d

pub IsNumberedFrom-push : (first : ℕ) (performed : List Done) (d : Done) → IsNumberedFrom first performed → d.number ≡ (if d.wrote then last_number first performed + 1 else last_number first performed) → IsNumberedFrom first (performed ++ d ∷ [])
IsNumberedFrom-push first [] d numbered number = (number, tt)
IsNumberedFrom-push first (e ∷ performed) d numbered number = (numbered.0, IsNumberedFrom-push e.number performed d numbered.1 number)

-- the next number is no less, and greater where the request wrote
pub next_number : (last : ℕ) (d : Done) → d.number ≡ (if d.wrote then last + 1 else last) → (last ≤ d.number) × (d.wrote ≡ true → d.number ≡ last + 1) × (d.wrote ≡ false → d.number ≡ last)
next_number last d number =
    ⊎_elim (λ h. let is = rw h at number in (omega (arith, is), (λ w. is), (λ w. absurd (both_ways d.wrote w h))))
    (λ h. let is = rw h at number in (omega (arith, is), (λ w. absurd (both_ways d.wrote h w)), (λ w. is))) (cases_Bool d.wrote)

pub first_within : (first : ℕ) (performed : List Done) → IsNumberedFrom first performed → first ≤ last_number first performed
first_within first [] numbered = omega arith
first_within first (d ∷ performed) numbered = omega (arith, (next_number first d numbered.0).0, first_within d.number performed numbered.1)

-- no number is less than `first` or over the last one
pub numbers_within : (first : ℕ) (performed : List Done) → IsNumberedFrom first performed → All (λ d. (first ≤ d.number) × (d.number ≤ last_number first performed)) performed
numbers_within first [] numbered = All-nil (λ d. (first ≤ d.number) × (d.number ≤ first))
numbers_within first (d ∷ performed) numbered =
    let next : first ≤ d.number = (next_number first d numbered.0).0 in
    All-cons (λ e. (first ≤ e.number) × (e.number ≤ last_number d.number performed)) d performed (next, first_within d.number performed numbered.1)
    (All-weaker (λ e. (d.number ≤ e.number) × (e.number ≤ last_number d.number performed)) (λ e. (first ≤ e.number) × (e.number ≤ last_number d.number performed)) (λ e h. (omega (arith, next, h.0), h.1)) performed
    (numbers_within d.number performed numbered.1))

pub performs_start : (first limit : ℕ) (db : Database) → Performs first limit db []
performs_start first limit db = record { numbered = tt; replies = tt; rounds = pairs_nil PrecedesInRounds }

-- one request more, which all the others precede
pub performs_push : (first limit : ℕ) (db : Database) (performed : List Done) (d : Done) → Performs first limit db performed → d.number ≡ (if d.wrote then last_number first performed + 1 else last_number first performed) → d.reply ≡ reply_to limit (after_order limit db performed) d.request → d.wrote ≡ is_changed d.reply → All (λ e. PrecedesInRounds e d) performed → Performs first limit db (performed ++ d ∷ [])
performs_push first limit db performed d run number reply wrote behind = record {
  numbered = IsNumberedFrom-push first performed d run.numbered number;
  replies = RepliesAlong-push limit db performed d run.replies reply wrote;
  rounds = all_pairs_push PrecedesInRounds performed d run.rounds behind;
}

-- up to the last number, one request more leaves the database at a number
pub after_number-kept : (limit : ℕ) (db : Database) (performed : List Done) (d : Done) (last n : ℕ) → d.number ≡ (if d.wrote then last + 1 else last) → n ≤ last → after_number limit db (performed ++ d ∷ []) n ≡ after_number limit db performed n
after_number-kept limit db performed d last n number within =
    let uncounted : (d.wrote && nat_le d.number n) ≡ false =
    ⊎_elim (λ h. and_right d.wrote (nat_le d.number n) (lt-leb d.number n (omega (arith, (next_number last d number).1 h, within)))) (λ h. and_left d.wrote (nat_le d.number n) h) (cases_Bool d.wrote) in
    let more = after_number-push limit db performed d n in
    rw uncounted at more

-- where the request didn't write, at every number
pub after_number-read : (limit : ℕ) (db : Database) (performed : List Done) (d : Done) (n : ℕ) → d.wrote ≡ false → after_number limit db (performed ++ d ∷ []) n ≡ after_number limit db performed n
after_number-read limit db performed d n unwritten =
    let uncounted : (d.wrote && nat_le d.number n) ≡ false = and_left d.wrote (nat_le d.number n) unwritten in
    let more = after_number-push limit db performed d n in
    rw uncounted at more

-- from the last number on, the database is that after all requests
pub after_number-last : (first limit : ℕ) (db : Database) (performed : List Done) (n : ℕ) → Performs first limit db performed → last_number first performed ≤ n → after_number limit db performed n ≡ after_order limit db performed
after_number-last first limit db performed n run over =
    after_number-all limit db performed n run.replies
    (All-weaker (λ d. (first ≤ d.number) × (d.number ≤ last_number first performed)) (λ d. d.number ≤ n) (λ d h. omega (arith, h.1, over)) performed (numbers_within first performed run.numbered))
