-- What one thread ran behind the threads, together with what they did.
use Rattle.std.proofs.Common.{◌≡◌, ◌⊎◌, ⊎_elim, inl, inr, ℕ, ◌+◌, ◌≤◌, List, [], ◌∷◌, ◌++◌, map, refl, sym, ap, ap₂, ◌∙◌, subst, arith}
use Rattle.std.specs.Prelude.{IsPermutation}
use Rattle.std.specs.List.{Contains}
use Rattle.std.proofs.lemmas.List.Elements.{All-nil, All-contains, Contains-append_right, Contains-append_cases}
use Rattle.std.proofs.lemmas.List.Sorted.{IsPermutation-refl, IsPermutation-sym, Contains-permutation}
use Rattle.tatp_model.specs.declared.done.Done.{Done}
use Rattle.tatp_model.specs.declared.request.Request.{Request}
use Rattle.tatp_model.specs.Database.{Database}
use Rattle.tatp_model.specs.OneThread.{IsPrintedOrder, after_number, indexed_requests_from}
use Rattle.run_order.specs.Runs.{Collects, Performs}
use Rattle.run_order.proofs.FileOrder.{in_files_from_holding}
use Rattle.run_order.proofs.Pairs.{pairs_nil}
use Rattle.run_order.specs.Numbers.{AreDatabases, AreNumbered, Differ, FollowsInFile, IsNumbered}
use Rattle.run_order.specs.Rests.{AreAnsweredOn, LengthsAre, NumbersRests, PerformsRests, files_of, firsts_of, rests_of, shifted}
use Rattle.run_order.proofs.Members.{contains_map, map_contains}
use Rattle.run_order.proofs.NumbersPrinted.{along_order}
use Rattle.run_order.proofs.Together.{law_rest_numbers, law_rests}
use Rattle.run_threads.proofs.NothingDone.{none_held}

-- ---- one thread's part alone
emptied : List (List Request × List Request) → List (List Request × List Request)
emptied [] = []
emptied (p ∷ parts) = ([], p.1) ∷ emptied parts

rests_emptied : (parts : List (List Request × List Request)) → rests_of (emptied parts) ≡ rests_of parts
unfolding emptied
rests_emptied [] = refl
rests_emptied (p ∷ parts) = ap (λ (l : List (List Request)). p.1 ∷ l) (rests_emptied parts)

files_emptied : (parts : List (List Request × List Request)) → files_of (emptied parts) ≡ rests_of parts
unfolding emptied
files_emptied [] = refl
files_emptied (p ∷ parts) = ap (λ (l : List (List Request)). p.1 ∷ l) (files_emptied parts)

lengths_emptied : (file : ℕ) (parts : List (List Request × List Request)) → LengthsAre (λ f. 0) file (firsts_of (emptied parts))
unfolding emptied
lengths_emptied file [] = tt
lengths_emptied file (p ∷ parts) = (refl, lengths_emptied (file + 1) parts)

asked_emptied : (file : ℕ) (parts : List (List Request × List Request)) → indexed_requests_from file (firsts_of (emptied parts)) ≡ []
unfolding emptied
asked_emptied file [] = refl
asked_emptied file (p ∷ parts) = asked_emptied (file + 1) parts

not_shifted : (done : List Done) → map (shifted (λ f. 0)) done ≡ done
not_shifted [] = refl
not_shifted (d ∷ done) = let i : 0 + d.index ≡ d.index = omega arith in ap₂ (λ (n : ℕ) (l : List Done). record d { index = n } ∷ l) i (not_shifted done)

-- what one thread performed of the rests has numbers behind the last one
pub numbered_behind : (limit last : ℕ) (db : Database) (parts : List (List Request × List Request)) (performed collected : List Done) → Performs last limit db performed → Collects (rests_of parts) performed collected
    → AreNumbered last (rests_of parts) collected
numbered_behind limit last db parts performed collected performs collects =
    let numbers : NumbersRests last limit last db (λ f. 0) (emptied parts) [] performed collected collected = record {
      lengths = lengths_emptied 0 parts;
      all = sym (asked_emptied 0 parts);
      numbered = record { held = none_held (firsts_of (emptied parts)); each = All-nil (IsNumbered last); differ = pairs_nil Differ; follow = pairs_nil FollowsInFile };
      from = omega arith;
      upto = All-nil (λ (d : Done). d.number ≤ last);
      performs = performs;
      collects = subst (λ (l : List (List Request)). Collects l performed collected) (sym (rests_emptied parts)) collects;
      union = record {
        same = subst (λ (l : List Done). IsPermutation l collected) (sym (not_shifted collected)) (IsPermutation-refl collected);
        sorted = in_files_from_holding collects.held.0 collected collects.held.2;
      };
    } in
    subst (λ (l : List (List Request)). AreNumbered last l collected) (files_emptied parts) (law_rest_numbers last limit last db (λ f. 0) (emptied parts) [] performed collected collected numbers)

-- ---- both parts
module _ (first limit last : ℕ) (db : Database) (counts : ℕ → ℕ) (parts : List (List Request × List Request)) (databases : ℕ → Database) (threads performed collected done : List Done)
    (rests : PerformsRests first limit last db counts parts databases threads performed collected done) where
  pub on : AreAnsweredOn first limit last db (files_of parts) performed done databases
  on = law_rests first limit last db counts parts databases threads performed collected done rests

  in_done : (d : Done) → Contains collected d → Contains done (shifted counts d)
  in_done d at = Contains-permutation (threads ++ map (shifted counts) collected) done (shifted counts d) rests.union.same (Contains-append_right threads (map (shifted counts) collected) (shifted counts d) (contains_map (shifted counts) collected d at))

  which : (d : Done) → Contains done d → Contains threads d ⊎ ((e : Done) × Contains collected e × (shifted counts e ≡ d))
  which d at = ⊎_elim (λ here. inl here) (λ there. inr (map_contains (shifted counts) collected d there))
      (Contains-append_cases threads (map (shifted counts) collected) d (Contains-permutation done (threads ++ map (shifted counts) collected) d (IsPermutation-sym (threads ++ map (shifted counts) collected) done rests.union.same) at))

  -- the databases go on for what one thread did
  leads_behind : AreDatabases last limit (databases last) collected on.further
  leads_behind = record {
    start = on.go_on.upto last (omega arith);
    wrote = λ n d le at w. let from = rests.answered.ends.from in on.leads.wrote n (shifted counts d) (omega arith) (in_done d at) (record { wrote = w.wrote; number = w.number });
    stays = λ n le none. let from = rests.answered.ends.from in on.leads.stays n (omega arith) (λ d at w. ⊎_elim
        (λ (here : Contains threads d). let upto : d.number ≤ last = All-contains (λ (x : Done). x.number ≤ last) threads d rests.answered.ends.upto here in let is = w.number in absurd (omega arith))
        (λ (r : (e : Done) × Contains collected e × (shifted counts e ≡ d)). none r.0 r.1 (record { wrote = ap (λ (x : Done). x.wrote) r.2 ∙ w.wrote; number = ap (λ (x : Done). x.number) r.2 ∙ w.number }))
        (which d at));
  }

  -- along every printed order of it they are those behind both
  pub along_behind : (order : List Done) → IsPrintedOrder collected order → (n : ℕ) → last ≤ n → after_number limit (databases last) order n ≡ on.further n
  along_behind order printed n le = along_order last (rests_of parts) collected (numbered_behind limit last (databases last) parts performed collected rests.performs rests.collects) order printed limit (databases last) on.further leads_behind n le
