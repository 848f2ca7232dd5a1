-- What threads did of each file stands first in what is done of it.
use Rattle.std.proofs.Common.{◌≡◌, ℕ, ◌<◌, ◌≤◌, List, [], ◌++◌, get_or, map, sym, ap, ◌∙◌, subst, arith, inl, inr, ⊎_elim}
use Rattle.std.specs.Prelude.{◌==◌, IsPermutation}
use Rattle.std.specs.List.{All, AllPairs, Contains}
use Rattle.std.proofs.lemmas.Bool.{eqb-true}
use Rattle.std.proofs.lemmas.List.{append-nil}
use Rattle.std.proofs.lemmas.List.Elements.{All-filter, filter-append, filter_passes}
use Rattle.std.proofs.lemmas.List.Kept.{AllPairs-filter}
use Rattle.std.proofs.lemmas.List.Sorted.{IsPermutation-sym, Contains-permutation}
use Rattle.tatp_model.specs.declared.done.Done.{Done}
use Rattle.tatp_model.specs.OneThread.{PrecedesInFiles}
use Rattle.tatp_model.proofs.PrintedOrder.{same_from_order}
use Rattle.run_order.proofs.Elements.{contains_filter, filter_contains}
use Rattle.run_order.proofs.Pairs.{pairs_append, pairs_mapped, pairs_weaker}
use Rattle.run_order.specs.Rests.{IsUnion, shifted}
use Rattle.dude_stream.specs.Streams.{of_file}
use Rattle.run_threads.specs.Streamed.{StandFirst}

-- nothing was done behind the threads
pub none_behind : (threads done : List Done) → done ≡ threads → StandFirst threads done
none_behind threads done same file = ([], ap (of_file file) same ∙ sym (append-nil (of_file file threads)))

one_order : (d e : Done) → PrecedesInFiles d e → PrecedesInFiles e d → ⊥
one_order d e before after =
    ⊎_elim (λ p. ⊎_elim (λ q. absurd (omega (arith, p, q))) (λ q. absurd (omega (arith, p, q.0))) after) (λ p. ⊎_elim (λ q. absurd (omega (arith, p.0, q))) (λ q. absurd (omega (arith, p.1, q.1))) after) before

-- what holds of all holds of those of one file
of_one : (P : Done → Type 0) (file : ℕ) (done : List Done) → All P done → All (λ d. (d.file ≡ file) × P d) (of_file file done)
of_one P file done all = λ k e within.
    (eqb-true (get_or (of_file file done) k e).file file (filter_passes (λ d. d.file == file) done k e within), All-filter (λ d. d.file == file) P done all k e within)

module _ (counts : ℕ → ℕ) (threads collected all : List Done) (in_order : AllPairs PrecedesInFiles threads) (under : All (λ d. d.index < counts d.file) threads) (over : All (λ d. counts d.file ≤ d.index) (map (shifted counts) collected))
    (behind : AllPairs PrecedesInFiles collected) (union : IsUnion counts threads collected all) where
  abbrev moved : List Done
  moved = map (shifted counts) collected

  moved_order : AllPairs PrecedesInFiles moved
  moved_order =
      pairs_mapped PrecedesInFiles (shifted counts) collected (pairs_weaker PrecedesInFiles (λ d e. PrecedesInFiles (shifted counts d) (shifted counts e)) collected
      (λ d e before. ⊎_elim (λ less. inl less) (λ r. let same = ap counts r.0 in let l = r.1 in inr (r.0, omega arith)) before) behind)

  -- those of one file stand in order, the threads' first
  both_in_order : (file : ℕ) → AllPairs PrecedesInFiles (of_file file threads ++ of_file file moved)
  both_in_order file =
      pairs_append PrecedesInFiles (λ d. (d.file ≡ file) × (d.index < counts d.file)) (λ d. (d.file ≡ file) × (counts d.file ≤ d.index))
      (λ d e p q. let same : d.file ≡ e.file = p.0 ∙ sym q.0 in let at = ap counts same in let low = p.1 in let high = q.1 in inr (same, omega arith))
      (of_file file threads) (of_file file moved)
      (of_one (λ d. d.index < counts d.file) file threads under) (of_one (λ d. counts d.file ≤ d.index) file moved over)
      (AllPairs-filter PrecedesInFiles (λ d. d.file == file) threads in_order) (AllPairs-filter PrecedesInFiles (λ d. d.file == file) moved moved_order)

  -- those of one file are the same when all change places
  among : (file : ℕ) (xs ys : List Done) → IsPermutation xs ys → (d : Done) → Contains (of_file file xs) d → Contains (of_file file ys) d
  among file xs ys same d c =
      let here = filter_contains (λ x. x.file == file) xs d c in
      contains_filter (λ x. x.file == file) ys d (Contains-permutation xs ys d same here.0) here.1

  pub stand_first : StandFirst threads all
  stand_first file =
      let parts : of_file file (threads ++ moved) ≡ of_file file threads ++ of_file file moved = filter-append (λ d. d.file == file) threads moved in
      let back = IsPermutation-sym (threads ++ moved) all union.same in (
        of_file file moved,
        same_from_order PrecedesInFiles one_order (of_file file all) (of_file file (threads ++ moved))
            (AllPairs-filter PrecedesInFiles (λ d. d.file == file) all union.sorted) (subst (λ (l : List Done). AllPairs PrecedesInFiles l) (sym parts) (both_in_order file))
            (among file all (threads ++ moved) back) (among file (threads ++ moved) all union.same) ∙ parts,
      )
