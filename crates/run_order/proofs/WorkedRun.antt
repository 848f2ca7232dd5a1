-- A run of four files, one of them empty, written out: as it was performed, in the order of files, and as it is printed.
use Rattle.std.proofs.Common.{◌≡◌, ℕ, true, false, List, [], ◌∷◌, refl, ◌∙◌, arith, lit<, inl, inr, ⊎_elim}
use Rattle.std.specs.List.{All, AllPairs}
use Rattle.std.specs.Prelude.{⊤}
use Rattle.std.proofs.lemmas.List.Elements.{All-nil, All-cons}
use Rattle.std.proofs.lemmas.List.Kept.{AllPairs-cons}
use Rattle.tatp_model.specs.declared.done.Done.{Done}
use Rattle.tatp_model.specs.declared.request.Request.{Request}
use Rattle.tatp_model.specs.declared.request.Request.TheVariants.{GetSubscriber, GetAccess, UpdateLocation, Sync}
use Rattle.tatp_model.specs.declared.reply.Reply.{Reply}
use Rattle.tatp_model.specs.declared.reply.Reply.TheVariants.{Subscriber, Access, Changed, Durable}
use Rattle.tatp_model.specs.Population.{population}
use Rattle.tatp_model.specs.OneThread.{Precedes, IsPrintedOrder}
use Rattle.tatp_model.proofs.WorkedReplies.{first_subscriber}
use Rattle.tatp_model.proofs.PrintedOrder.{IsPrintedOrder-unique}
use Rattle.run_order.specs.Runs.{PrecedesInRounds, Performs, Collects}
use Rattle.run_order.proofs.Pairs.{pairs_nil}
use Rattle.run_order.proofs.Precedence.{Precedes-transitive}
use Rattle.run_order.proofs.Law.{law}

-- subscriber 1 of a new database, at this location
abbrev subscriber : ℕ → Reply
subscriber vlr = Subscriber (first_subscriber vlr)

abbrev access : Reply
access = Access (record { data1 = 2; data2 = 1; data3 = 67 ∷ 68 ∷ 69 ∷ []; data4 = 68 ∷ 69 ∷ 70 ∷ 71 ∷ 72 ∷ [] })

abbrev files : List (List Request)
files =
    (UpdateLocation 1 7 ∷ GetSubscriber 1 ∷ Sync ∷ [])
    ∷ (GetSubscriber 1 ∷ UpdateLocation 1 8 ∷ GetSubscriber 1 ∷ [])
    ∷ []
    ∷ (GetSubscriber 1 ∷ GetAccess 1 1 ∷ [])
    ∷ []

abbrev update : ℕ → ℕ → ℕ → ℕ → Done
update file index number vlr = record { file = file; index = index; number = number; wrote = true; request = UpdateLocation 1 vlr; reply = Changed }

abbrev read : ℕ → ℕ → ℕ → Request → Reply → Done
read file index number request reply = record { file = file; index = index; number = number; wrote = false; request = request; reply = reply }

-- subscriber 1 is read, at this location
abbrev found : ℕ → ℕ → ℕ → ℕ → Done
found file index number vlr = read file index number (GetSubscriber 1) (subscriber vlr)

-- the last request of the first file, and of the last one
abbrev synced : Done
synced = read 0 2 5 Sync Durable

abbrev last : Done
last = read 3 1 5 (GetAccess 1 1) access

-- after number 3, one round after another
abbrev performed : List Done
performed = update 0 0 4 7 ∷ found 1 0 4 7 ∷ found 3 0 4 7 ∷ found 0 1 4 7 ∷ update 1 1 5 8 ∷ last ∷ synced ∷ found 1 2 5 8 ∷ []

-- in order of file and index
abbrev done : List Done
done = update 0 0 4 7 ∷ found 0 1 4 7 ∷ synced ∷ found 1 0 4 7 ∷ update 1 1 5 8 ∷ found 1 2 5 8 ∷ found 3 0 4 7 ∷ last ∷ []

-- as it is printed: the reads of one number stand by file, also where they were performed the other way round
abbrev order : List Done
order = update 0 0 4 7 ∷ found 0 1 4 7 ∷ found 1 0 4 7 ∷ found 3 0 4 7 ∷ update 1 1 5 8 ∷ found 1 2 5 8 ∷ last ∷ []

-- each element stands in a relation to the next one
abbrev IsChain : {X : Type 0} → (X → X → Type 0) → X → List X → Type 0
IsChain R x [] = ⊤
IsChain R x (y ∷ ys) = R x y × IsChain R y ys

abbrev AreChained : {X : Type 0} → (X → X → Type 0) → List X → Type 0
AreChained R [] = ⊤
AreChained R (x ∷ xs) = IsChain R x xs

module _ {X : Type 0} (R : X → X → Type 0) (transitive : (x y z : X) → R x y → R y z → R x z) where
  chain_all : (x y : X) (ys : List X) → R x y → IsChain R y ys → All (R x) (y ∷ ys)
  chain_all x y [] first chain = All-cons (R x) y [] first (All-nil (R x))
  chain_all x y (z ∷ zs) first chain = All-cons (R x) y (z ∷ zs) first (chain_all x z zs (transitive x y z first chain.0) chain.1)

  pairs_chain : (x : X) (xs : List X) → IsChain R x xs → AllPairs R (x ∷ xs)
  pairs_chain x [] chain = AllPairs-cons R x [] (All-nil (R x)) (pairs_nil R)
  pairs_chain x (y ∷ ys) chain = AllPairs-cons R x (y ∷ ys) (chain_all x y ys chain.0 chain.1) (pairs_chain y ys chain.1)

  pairs_chained : (xs : List X) → AreChained R xs → AllPairs R xs
  pairs_chained [] chained = pairs_nil R
  pairs_chained (x ∷ xs) chained = pairs_chain x xs chained

rounds_transitive : (d e f : Done) → PrecedesInRounds d e → PrecedesInRounds e f → PrecedesInRounds d f
rounds_transitive d e f before behind =
    ⊎_elim (λ p. ⊎_elim (λ q. inl (omega (arith, p, q))) (λ q. inl (omega (arith, p, q.0))) behind)
    (λ p. ⊎_elim (λ q. inl (omega (arith, p.0, q))) (λ q. inr (p.0 ∙ q.0, omega (arith, p.1, q.1))) behind) before

worked_performs : Performs 3 5 (population 1) performed
worked_performs = record {
  numbered = (refl, (refl, (refl, (refl, (refl, (refl, (refl, (refl, tt))))))));
  replies = (refl, refl, (refl, refl, (refl, refl, (refl, refl, (refl, refl, (refl, refl, (refl, refl, (refl, refl, tt))))))));
  rounds = pairs_chained PrecedesInRounds rounds_transitive performed (inr (refl, lit< tt), (inr (refl, lit< tt), (inl (lit< tt), (inr (refl, lit< tt), (inr (refl, lit< tt), (inl (lit< tt), (inr (refl, lit< tt), tt)))))));
}

worked_collects : Collects files performed done
worked_collects = record {
  same = record { moves = (5, 7) ∷ (2, 6) ∷ (1, 3) ∷ []; below = omega arith; is = refl };
  held = (files, (([], refl), (([], refl), (([], refl), (([], refl), tt)))), refl);
}

worked_order : IsPrintedOrder done order
worked_order = record {
  same = record { moves = (4, 5) ∷ (3, 5) ∷ []; below = omega arith; is = refl };
  sorted = pairs_chained Precedes Precedes-transitive order (inr (refl, inl (refl, refl)), (inr (refl, inr (refl, inl (lit< tt))), (inr (refl, inr (refl, inl (lit< tt))), (inl (lit< tt), (inr (refl, inl (refl, refl)), (inr (refl, inr (refl, inl (lit< tt))), tt))))));
}

-- the law's printed order is that one
worked_law : (law 3 5 (population 1) files performed done worked_performs worked_collects).0.numbers.order ≡ order
worked_law = IsPrintedOrder-unique done (law 3 5 (population 1) files performed done worked_performs worked_collects).0.numbers.order order (law 3 5 (population 1) files performed done worked_performs worked_collects).0.numbers.printed worked_order
