-- A run over files and one more that has no request is a run over the files.
use Rattle.std.proofs.Common.{◌≡◌, ◌⊎◌, ℕ, ◌+◌, ◌<◌, List, [], ◌∷◌, ◌++◌, length, map, refl, sym, ◌∙◌, ap, subst, ⊎_elim, arith, Vec, Global}
use Rattle.std.specs.List.{All, AllZip, enumerate_from}
use Rattle.std.proofs.lemmas.List.{length_push, map-append}
use Rattle.std.proofs.lemmas.List.Elements.{All-nil, All-push}
use Rattle.std.proofs.lemmas.List.Sums.{fold-append}
use Rattle.dude_base.specs.declared.run.Run.{Run}
use Rattle.pmem_trait.specs.declared.medium.Medium.{Ghosts}
use Rattle.tatp_model.specs.declared.done.Done.{Done}
use Rattle.tatp_model.specs.declared.request.Request.{Request}
use Rattle.tatp_model.specs.Files.{requests_in}
use Rattle.tatp_model.specs.Request.{IsInRange}
use Rattle.tatp_model.specs.OneThread.{AllAreDone, HoldsPrefixes, IndexedRequest, IsPrefixOf, NumbersOfOneThread, indexed_requests_from}
use Rattle.dude_recover.specs.declared.opened.Opened.{Opened}
use Rattle.dude_engine.specs.Requests.{request_count}
use Rattle.dude_engine.specs.declared.ran.Ran.{Ran}
use Rattle.run_threads.specs.Ends.{MayRunOn}
use Rattle.run_threads.specs.RunsOnThreads.{RunsOnThreads}
use Rattle.dude_program.specs.Turner.{HasTurner}

-- it has no request that might be done
indexed_without : (file : ℕ) (files : List (List Request)) → indexed_requests_from file (files ++ [] ∷ []) ≡ indexed_requests_from file files
indexed_without file [] = refl
indexed_without file (requests ∷ files) = ap (λ (l : List IndexedRequest). map (λ (r : ℕ × Request). record { file = file; index = r.0; request = r.1 }) (enumerate_from 0 requests) ++ l) (indexed_without (file + 1) files)

all_without : (files : List (List Request)) (done : List Done) → AllAreDone (files ++ [] ∷ []) done → AllAreDone files done
all_without files done all = all ∙ indexed_without 0 files

-- a prefix of no request is none
no_prefix : (prefix : List Request) → IsPrefixOf prefix [] → prefix ≡ []
no_prefix [] is = refl
no_prefix (r ∷ prefix) is = let no : ⊥ = cc (is.1) in absurd no

prefixes_without : (prefixes files : List (List Request)) → AllZip IsPrefixOf prefixes (files ++ [] ∷ []) → (firsts : List (List Request)) × (prefixes ≡ firsts ++ [] ∷ []) × AllZip IsPrefixOf firsts files
prefixes_without [] [] zip = absurd zip
prefixes_without [] (f ∷ files) zip = absurd zip
prefixes_without (p ∷ []) [] zip = ([], ap (λ (l : List Request). l ∷ []) (no_prefix p zip.0), tt)
prefixes_without (p ∷ q ∷ prefixes) [] zip = absurd zip.1
prefixes_without (p ∷ prefixes) (f ∷ files) zip =
    let more = prefixes_without prefixes files zip.1 in (p ∷ more.0, ap (λ (l : List (List Request)). p ∷ l) more.1, (zip.0, more.2))

held_without : (files : List (List Request)) (done : List Done) → HoldsPrefixes (files ++ [] ∷ []) done → HoldsPrefixes files done
held_without files done held =
    let more = prefixes_without held.0 files held.1 in
    (more.0, more.2, all_without more.0 done (subst (λ (l : List (List Request)). AllAreDone l done) more.1 held.2))

abbrev numbers_without : (first : ℕ) (files : List (List Request)) (done : List Done) → NumbersOfOneThread first (files ++ [] ∷ []) done → NumbersOfOneThread first files done
numbers_without first files done n = record { held = held_without files done n.held; distinct = n.distinct; over = n.over; from = n.from; syncs = n.syncs; order = n.order; printed = n.printed; files_in_order = n.files_in_order }

module _ {M : Type 0} {ghosts : Ghosts M} (o : Opened M ghosts) (run : Run) where
  runs_without : (files : List (List Request)) (ran : Ran M) → RunsOnThreads o run (files ++ [] ∷ []) ran → RunsOnThreads o run files ran
  runs_without files ran runs = record {
    replies = λ opening is. let a = runs.replies opening is in record {
      numbers = numbers_without opening.number files ran.done.items a.numbers;
      replies = λ knows. let r = a.replies knows in record { numbers = numbers_without opening.number files ran.done.items r.numbers; one_thread = r.one_thread };
    };
    syncs = runs.syncs;
    moments = runs.moments;
    end = let e = runs.end in record {
      len = e.len;
      whole = λ whole opening is. let w = e.whole whole opening is in record { all = all_without files ran.done.items w.all; none_over = w.none_over; from = w.from; reaches = w.reaches; end = w.end };
      operates = e.operates;
      from = e.from;
      last_told = e.last_told;
      ran = e.ran;
      cause = e.cause;
      few_lost = e.few_lost;
    };
  }

  -- the requests of the files, and of one more that has none
  requests_more : (lists files : List (Vec Request Global)) (last : Vec Request Global) → last.items ≡ [] → files ≡ lists ++ last ∷ [] → requests_in files ≡ requests_in lists ++ [] ∷ []
  requests_more lists files last none is =
      ap requests_in is ∙ map-append (λ (v : Vec Request Global). v.items) lists (last ∷ []) ∙ ap (λ (l : List Request). requests_in lists ++ l ∷ []) none

  pub runs_over_lists : (rings : ℕ) (lists files : List (Vec Request Global)) (ran : Ran M) → HasTurner rings lists files → RunsOnThreads o run (requests_in files) ran → RunsOnThreads o run (requests_in lists) ran
  runs_over_lists rings lists files ran turner runs = ⊎_elim
      (λ same. subst (λ (l : List (Vec Request Global)). RunsOnThreads o run (requests_in l) ran) same runs)
      (λ more. runs_without (requests_in lists) ran (subst (λ (l : List (List Request)). RunsOnThreads o run l ran) (requests_more lists files more.1 more.2 more.3) runs))
      turner

  -- and it may be run, where the files may
  may_with : (lists files : List (Vec Request Global)) (last : Vec Request Global) → last.items ≡ [] → files ≡ lists ++ last ∷ [] → length lists < o.sizes.rings → MayRunOn o run (length lists) (requests_in lists) → MayRunOn o run (length files) (requests_in files)
  may_with lists files last none is room may =
      let requests = requests_more lists files last none is in
      record {
        held = may.held;
        run_within = may.run_within;
        some = omega (arith, ap length is, length_push lists last, may.some);
        rings = omega (arith, ap length is, length_push lists last, room);
        in_range = subst (All (All IsInRange)) (sym requests) (All-push (All IsInRange) (requests_in lists) [] may.in_range (All-nil IsInRange));
        numbers = omega (arith, ap request_count requests, fold-append (λ count (file : List Request). count + length file) 0 (requests_in lists) ([] ∷ []), may.numbers);
      }

  pub may_run_lists : (lists files : List (Vec Request Global)) → HasTurner o.sizes.rings lists files → MayRunOn o run (length lists) (requests_in lists) → MayRunOn o run (length files) (requests_in files)
  may_run_lists lists files turner may = ⊎_elim
      (λ same. subst (λ (l : List (Vec Request Global)). MayRunOn o run (length l) (requests_in l)) (sym same) may)
      (λ more. may_with lists files more.1 more.2 more.3 more.0 may)
      turner
