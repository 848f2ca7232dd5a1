-- The numbers of a rest rise.
use Rattle.std.proofs.Common.{◌≡◌, ℕ, zero, suc, ◌+◌, ◌<◌, ◌≤◌, List, length, map, get_or, ap, ◌∙◌, arith}
use Rattle.std.specs.List.{Contains}
use Rattle.std.specs.List.Sorted.{IsStrictlyIncreasing}
use Rattle.std.proofs.lemmas.List.{get_or-map, length-map, get_or_default}
use Rattle.std.proofs.lemmas.List.Elements.{All-get_or, Contains-get_or}
use mathlib.Core.Logic.{dite}
use native.Mathlib.Decide.{ℕ_discrete, dec_lt}
use Rattle.run_threads.specs.Ending.{Ending, IsRestOf}
use Rattle.run_threads.specs.Rest.{IsWithin, at, no_posted, number_at}
use Rattle.tiny_stm.specs.Ended.{IsOfRest}
use Rattle.tiny_stm.specs.Posts.{IsAmong, number_of}
use Rattle.tiny_stm.specs.declared.posted.Posted.{Posted}

rising_numbers : (xs : List ℕ) → IsStrictlyIncreasing xs → (i j : ℕ) → i < j → j < length xs → get_or xs i 0 < get_or xs j 0
rising_numbers xs rising i zero lt below = absurd (omega arith)
rising_numbers xs rising i (suc j) lt below =
    let step : get_or xs j 0 < get_or xs (j + 1) 0 = rising j (omega arith) in
    let next : get_or xs (j + 1) 0 ≡ get_or xs (suc j) 0 = (let e : j + 1 ≡ suc j = omega arith in ap (λ k. get_or xs k 0) e) in
    dite (ℕ_discrete i j)
    (λ e. let same : get_or xs i 0 ≡ get_or xs j 0 = ap (λ k. get_or xs k 0) e in omega arith)
    (λ other. let before = rising_numbers xs rising i j (omega arith) (omega arith) in omega arith)

-- the first of two records has the less number
pub rising_at : (rest : List Posted) → IsStrictlyIncreasing (map number_of rest) → (i j : ℕ) → i < j → j < length rest → number_at rest i < number_at rest j
rising_at rest rising i j lt below =
    let long = length-map rest number_of in
    let first = get_or-map number_of rest i no_posted 0 (omega arith) in
    let second = get_or-map number_of rest j no_posted 0 (omega arith) in
    let step = rising_numbers (map number_of rest) rising i j lt (omega arith) in omega arith

-- and none that comes first a greater one
pub rising_upto : (rest : List Posted) → IsStrictlyIncreasing (map number_of rest) → (i j : ℕ) → i ≤ j → j < length rest → number_at rest i ≤ number_at rest j
rising_upto rest rising i j le below = dite (dec_lt i j)
    (λ lt. let step = rising_at rest rising i j lt below in omega arith)
    (λ no. let same : i ≡ j = omega arith in let e : number_at rest i ≡ number_at rest j = ap (number_at rest) same in omega arith)

-- what holds of the record at a place
pub of_rest : (e : Ending) (rest : List Posted) → IsRestOf e rest → (i : ℕ) → i < length rest → IsOfRest e.setup e.sizes.rings e.entries e.last (at rest i)
of_rest e rest is i lt = All-get_or (IsOfRest e.setup e.sizes.rings e.entries e.last) rest i no_posted lt is.posted.each

-- a number that is among the rest stands at a place
pub placed_among : (rest : List Posted) (n : ℕ) → IsAmong rest n → IsWithin rest 0 (length rest) n
placed_among rest n a = record {
  place = a.1.0;
  low = omega arith;
  high = a.1.1;
  is = ap number_of (get_or_default rest a.1.0 no_posted a.0 a.1.1 ∙ a.1.2) ∙ a.2;
}

-- the record at a place is in the rest
pub among_at : (rest : List Posted) (i : ℕ) → i < length rest → Contains rest (at rest i)
among_at rest i lt = Contains-get_or rest i no_posted lt
