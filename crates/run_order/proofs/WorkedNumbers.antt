-- What two threads answered, written out: the first one's requests at number 4, the second one's at 3 and at 6. Number 5 is void.
use Rattle.std.proofs.Common.{◌≡◌, ℕ, true, false, List, [], ◌∷◌, refl, arith, inl, inr}
use Rattle.std.specs.List.{All, AllPairs}
use Rattle.std.proofs.lemmas.Bool.{both_ways}
use Rattle.std.proofs.lemmas.List.Elements.{All-nil, All-cons}
use Rattle.std.proofs.lemmas.List.Kept.{AllPairs-cons}
use Rattle.tatp_model.specs.declared.done.Done.{Done}
use Rattle.tatp_model.specs.declared.request.Request.{Request}
use Rattle.tatp_model.specs.declared.request.Request.TheVariants.{GetSubscriber, UpdateLocation}
use Rattle.tatp_model.specs.declared.reply.Reply.{Reply}
use Rattle.tatp_model.specs.declared.reply.Reply.TheVariants.{Subscriber, Changed}
use Rattle.tatp_model.specs.Database.{Database}
use Rattle.tatp_model.specs.Population.{population}
use Rattle.tatp_model.specs.OneThread.{is_sync, Precedes, after_number, IsPrintedOrder}
use Rattle.tatp_model.proofs.WorkedReplies.{first_subscriber}
use Rattle.tatp_model.proofs.PrintedOrder.{IsPrintedOrder-unique}
use Rattle.run_order.proofs.Pairs.{pairs_nil}
use Rattle.run_order.specs.Numbers.{AreDatabases, AreAnswered, IsAnswered, Differ, FollowsInFile, IsNumbered, AreNumbered}
use Rattle.run_order.proofs.NumbersPrinted.{law_replies, law_databases}

-- subscriber 1 of a new database, at this location
abbrev subscriber : ℕ → Reply
subscriber vlr = Subscriber (first_subscriber vlr)

abbrev update : ℕ → ℕ → ℕ → ℕ → Done
update file index number vlr = record { file = file; index = index; number = number; wrote = true; request = UpdateLocation 1 vlr; reply = Changed }

abbrev read : ℕ → ℕ → ℕ → ℕ → Done
read file index number vlr = record { file = file; index = index; number = number; wrote = false; request = GetSubscriber 1; reply = subscriber vlr }

abbrev files : List (List Request)
files = (UpdateLocation 1 7 ∷ GetSubscriber 1 ∷ []) ∷ (GetSubscriber 1 ∷ UpdateLocation 1 8 ∷ []) ∷ []

abbrev done : List Done
done = update 0 0 4 7 ∷ read 0 1 4 7 ∷ read 1 0 3 1000001 ∷ update 1 1 6 8 ∷ []

-- as it is printed: what was read before number 4 comes first
abbrev order : List Done
order = read 1 0 3 1000001 ∷ update 0 0 4 7 ∷ read 0 1 4 7 ∷ update 1 1 6 8 ∷ []

-- the database at a number
abbrev database : ℕ → Database
database n = after_number 5 (population 1) order n

void_number_changes_nothing : database 5 ≡ database 4
void_number_changes_nothing = refl

pairs_of_four : (R : Done → Done → Type 0) (a b c d : Done) → R a b → R a c → R a d → R b c → R b d → R c d → AllPairs R (a ∷ b ∷ c ∷ d ∷ [])
pairs_of_four R a b c d ab ac ad bc bd cd =
    AllPairs-cons R a (b ∷ c ∷ d ∷ []) (All-cons (R a) b (c ∷ d ∷ []) ab (All-cons (R a) c (d ∷ []) ac (All-cons (R a) d [] ad (All-nil (R a)))))
    (AllPairs-cons R b (c ∷ d ∷ []) (All-cons (R b) c (d ∷ []) bc (All-cons (R b) d [] bd (All-nil (R b))))
    (AllPairs-cons R c (d ∷ []) (All-cons (R c) d [] cd (All-nil (R c))) (AllPairs-cons R d [] (All-nil (R d)) (pairs_nil R))))

all_of_four : (P : Done → Type 0) (a b c d : Done) → P a → P b → P c → P d → All P (a ∷ b ∷ c ∷ d ∷ [])
all_of_four P a b c d pa pb pc pd = All-cons P a (b ∷ c ∷ d ∷ []) pa (All-cons P b (c ∷ d ∷ []) pb (All-cons P c (d ∷ []) pc (All-cons P d [] pd (All-nil P))))

first_reads : (d e : Done) → d.wrote ≡ false → Differ d e
first_reads d e h w w' same = both_ways d.wrote h w

second_reads : (d e : Done) → e.wrote ≡ false → Differ d e
second_reads d e h w w' same = both_ways e.wrote h w'

worked_numbers : AreNumbered 3 files done
worked_numbers = record {
  held = (files, (([], refl), (([], refl), tt)), refl);
  each = all_of_four (IsNumbered 3) (update 0 0 4 7) (read 0 1 4 7) (read 1 0 3 1000001) (update 1 1 6 8)
      (record { over = λ w. omega arith; from = λ n. omega arith; durable = λ s. absurd (both_ways false refl s) })
      (record { over = λ w. absurd (both_ways false refl w); from = λ n. omega arith; durable = λ s. absurd (both_ways false refl s) })
      (record { over = λ w. absurd (both_ways false refl w); from = λ n. omega arith; durable = λ s. absurd (both_ways false refl s) })
      (record { over = λ w. omega arith; from = λ n. omega arith; durable = λ s. absurd (both_ways false refl s) });
  differ = pairs_of_four Differ (update 0 0 4 7) (read 0 1 4 7) (read 1 0 3 1000001) (update 1 1 6 8)
      (second_reads (update 0 0 4 7) (read 0 1 4 7) refl) (second_reads (update 0 0 4 7) (read 1 0 3 1000001) refl) (λ w w' same. absurd (omega (arith, same)))
      (first_reads (read 0 1 4 7) (read 1 0 3 1000001) refl) (first_reads (read 0 1 4 7) (update 1 1 6 8) refl) (first_reads (read 1 0 3 1000001) (update 1 1 6 8) refl);
  follow = pairs_of_four FollowsInFile (update 0 0 4 7) (read 0 1 4 7) (read 1 0 3 1000001) (update 1 1 6 8)
      (λ f n n'. record { upto = omega arith; under = λ w. absurd (both_ways false refl w) }) (λ f n n'. absurd (omega (arith, f))) (λ f n n'. absurd (omega (arith, f)))
      (λ f n n'. absurd (omega (arith, f))) (λ f n n'. absurd (omega (arith, f))) (λ f n n'. record { upto = omega arith; under = λ w. omega arith });
}

worked_order : IsPrintedOrder done order
worked_order = record {
  same = record { moves = (1, 2) ∷ (0, 2) ∷ []; below = omega arith; is = refl };
  sorted = pairs_of_four Precedes (read 1 0 3 1000001) (update 0 0 4 7) (read 0 1 4 7) (update 1 1 6 8)
      (inl (omega arith)) (inl (omega arith)) (inl (omega arith)) (inr (refl, inl (refl, refl))) (inl (omega arith)) (inl (omega arith));
}

worked_databases : AreDatabases 3 5 (population 1) done database
worked_databases = (law_databases 3 5 (population 1) files done database worked_numbers).1 (record { order = order; printed = worked_order; along = λ n le. refl })

worked_answers : AreAnswered 5 database done
worked_answers =
    all_of_four (λ d. is_sync d.request ≡ false → IsAnswered 5 database d) (update 0 0 4 7) (read 0 1 4 7) (read 1 0 3 1000001) (update 1 1 6 8)
    (λ n. record { reply = refl; wrote = refl }) (λ n. record { reply = refl; wrote = refl }) (λ n. record { reply = refl; wrote = refl }) (λ n. record { reply = refl; wrote = refl })

-- the law's printed order is that one
worked_law : (law_replies 3 5 (population 1) files done database worked_numbers worked_databases worked_answers).numbers.order ≡ order
worked_law =
    let replies = law_replies 3 5 (population 1) files done database worked_numbers worked_databases worked_answers in
    IsPrintedOrder-unique done replies.numbers.order order replies.numbers.printed worked_order
