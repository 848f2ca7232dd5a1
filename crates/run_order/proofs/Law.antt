-- The law of runs.
use Rattle.std.proofs.Common.{◌≡◌, ℕ, ◌+◌, ◌<◌, ◌≤◌, Bool, true, false, ◌&&◌, List, [], ◌∷◌, map, refl, ap, sym, ◌∙◌, subst, arith, ◌⊎◌, ⊎_elim}
use Rattle.std.specs.Prelude.{nat_le, ◌==◌}
use Rattle.std.specs.List.{All, AllPairs, Contains, filter}
use Rattle.std.proofs.lemmas.Bool.{cases_Bool, eq-eqb, and_from}
use Rattle.std.proofs.lemmas.List.Elements.{All-nil, All-cons, All-weaker, All-filter, filter_passes}
use Rattle.std.proofs.lemmas.List.Kept.{AllPairs-cons, AllPairs-filter}
use Rattle.std.proofs.lemmas.List.Sorted.{IsPermutation-sym, IsPermutation-trans, All-permutation, Contains-permutation}
use Rattle.tatp_model.specs.declared.done.Done.{Done}
use Rattle.tatp_model.specs.declared.request.Request.{Request}
use Rattle.tatp_model.specs.declared.reply.Reply.TheVariants.{Durable}
use Rattle.tatp_model.specs.Database.{Database}
use Rattle.tatp_model.specs.Transaction.{after_request}
use Rattle.tatp_model.specs.OneThread.{is_sync, is_changed, PrecedesInFiles, Precedes, IsPrintedOrder, RepliesAlong, after_requests, RepliesOfOneThread}
use Rattle.tatp_model.proofs.PrintedOrder.{Precedes-asymmetric}
use Rattle.run_order.specs.Runs.{IsNumberedFrom, PrecedesInRounds, StandApart, Performs, Collects, PrintedLike, SyncsFollow, LawOfRuns}
use Rattle.run_order.proofs.Pairs.{pairs_head, pairs_tail, pairs_weaker, pairs_among, one_or_other}
use Rattle.run_order.proofs.Apart.{in_one_place, apart_place, flipped_place}
use Rattle.run_order.proofs.Elements.{filter_contains, permuted_filter}
use Rattle.run_order.proofs.FileOrder.{in_files_from_holding}
use Rattle.run_order.proofs.Performed.{next_number}
use Rattle.run_order.proofs.Along.{sync_reply}
use Rattle.run_order.proofs.Printing.{is_printed, wrote, Printed, printed_run}

-- d was performed before e: its number isn't greater, and less where e wrote
abbrev pub Earlier : Done → Done → Type 0
Earlier d e = (d.number ≤ e.number) × (e.wrote ≡ true → d.number < e.number) × PrecedesInRounds d e

-- the later numbers are no less, and greater where the request wrote
pub numbers_rise : (last : ℕ) (performed : List Done) → IsNumberedFrom last performed → All (λ e. (last ≤ e.number) × (e.wrote ≡ true → last < e.number)) performed
numbers_rise last [] numbered = All-nil (λ e. (last ≤ e.number) × (e.wrote ≡ true → last < e.number))
numbers_rise last (d ∷ performed) numbered =
    let next = next_number last d numbered.0 in
    let least : last ≤ d.number = next.0 in
    All-cons (λ e. (last ≤ e.number) × (e.wrote ≡ true → last < e.number)) d performed (least, λ w. let is : d.number ≡ last + 1 = next.1 w in omega (arith, is))
    (All-weaker (λ e. (d.number ≤ e.number) × (e.wrote ≡ true → d.number < e.number)) (λ e. (last ≤ e.number) × (e.wrote ≡ true → last < e.number))
    (λ e h. (omega (arith, least, h.0), λ w. let over : d.number < e.number = h.1 w in omega (arith, least, over))) performed (numbers_rise d.number performed numbered.1))

pub earlier_pairs : (last : ℕ) (performed : List Done) → IsNumberedFrom last performed → AllPairs PrecedesInRounds performed → AllPairs Earlier performed
earlier_pairs last [] numbered rounds = λ i j d before within. absurd (omega (arith, within))
earlier_pairs last (d ∷ performed) numbered rounds =
    let rise = numbers_rise d.number performed numbered.1 in
    let later = pairs_head PrecedesInRounds d performed rounds in
    AllPairs-cons Earlier d performed (λ k e within. ((rise k e within).0, (rise k e within).1, later k e within))
    (earlier_pairs d.number performed numbered.1 (pairs_tail PrecedesInRounds d performed rounds))

-- what each request of a run was answered
record IsAnswered (first : ℕ) (d : Done) : Type 0 where
  from : first ≤ d.number
  over : d.wrote ≡ true → first < d.number
  durable : is_sync d.request ≡ true → (d.reply ≡ Durable) × (d.wrote ≡ false)

pub syncs_durable : (limit : ℕ) (db : Database) (performed : List Done) → RepliesAlong limit db performed → All (λ d. is_sync d.request ≡ true → (d.reply ≡ Durable) × (d.wrote ≡ false)) performed
syncs_durable limit db [] along = All-nil (λ d. is_sync d.request ≡ true → (d.reply ≡ Durable) × (d.wrote ≡ false))
syncs_durable limit db (d ∷ performed) along =
    All-cons (λ e. is_sync e.request ≡ true → (e.reply ≡ Durable) × (e.wrote ≡ false)) d performed
    (λ sync. let durable : d.reply ≡ Durable = along.0 ∙ sync_reply limit db d.request sync in (durable, along.1 ∙ ap is_changed durable))
    (syncs_durable limit (after_request limit db d.request) performed along.2)

all_answered : (first limit : ℕ) (db : Database) (performed : List Done) → Performs first limit db performed → All (IsAnswered first) performed
all_answered first limit db performed run =
    let rise = numbers_rise first performed run.numbered in
    let durable = syncs_durable limit db performed run.replies in
    λ k d within. record { from = (rise k d within).0; over = (rise k d within).1; durable = durable k d within }

-- a filter by two tests
filter_twice : {X : Type 0} (p q : X → Bool) (xs : List X) → filter (λ x. p x && q x) xs ≡ filter q (filter p xs)
filter_twice p q [] = refl
filter_twice p q (x ∷ xs) =
    ⊎_elim (λ h. rw h (⊎_elim (λ h'. rw h' (ap (λ l. x ∷ l) (filter_twice p q xs))) (λ h'. rw h' (filter_twice p q xs)) (cases_Bool (q x))))
    (λ h. rw h (filter_twice p q xs)) (cases_Bool (p x))

-- two requests of a run: one was performed before the other
abbrev OneOrEarlier : Done → Done → Type 0
OneOrEarlier d e = (d ≡ e) ⊎ (Earlier d e ⊎ Earlier e d)

-- of requests of one file the printed order is that of their indices
files_follow : (d e : Done) → OneOrEarlier d e → Precedes d e → d.file ≡ e.file → d.index < e.index
files_follow d e performed printed file =
    ⊎_elim (λ one. let itself : Precedes d d = subst (λ (x : Done). Precedes d x) (sym one) printed in absurd (Precedes-asymmetric d d itself itself))
    (λ other. ⊎_elim (λ before. ⊎_elim (λ less. less) (λ same. absurd (omega (arith, same.1, file))) before.2)
    (λ behind. ⊎_elim (λ less. absurd (omega (arith, less, behind.0))) (λ same. ⊎_elim
    (λ w. let over : e.number < d.number = behind.1 w.0 in absurd (omega (arith, over, same.0)))
    (λ alike. ⊎_elim (λ less. absurd (omega (arith, less, file))) (λ index. index.1) alike.1) same.1) printed) other) performed

-- the writes of a run have different numbers
numbers_differ : (d e : Done) → OneOrEarlier d e → PrecedesInFiles d e → d.wrote ≡ true → e.wrote ≡ true → d.number ≡ e.number → ⊥
numbers_differ d e performed files w w' same =
    ⊎_elim (λ one. let file : d.file ≡ e.file = ap (λ (x : Done). x.file) one in let index : d.index ≡ e.index = ap (λ (x : Done). x.index) one in
    ⊎_elim (λ less. absurd (omega (arith, less, file))) (λ less. absurd (omega (arith, less.1, index))) files)
    (λ other. ⊎_elim (λ before. let over : d.number < e.number = before.1 w' in absurd (omega (arith, over, same)))
    (λ behind. let over : e.number < d.number = behind.1 w in absurd (omega (arith, over, same))) other) performed

-- the numbers of a file don't fall
numbers_follow : (d e : Done) → OneOrEarlier d e → PrecedesInFiles d e → d.file ≡ e.file → d.number ≤ e.number
numbers_follow d e performed files file =
    ⊎_elim (λ one. let same : d.number ≡ e.number = ap (λ (x : Done). x.number) one in omega (arith, same))
    (λ other. ⊎_elim (λ before. before.0)
    (λ behind. ⊎_elim (λ less. absurd (omega (arith, less, file))) (λ index. ⊎_elim (λ less. absurd (omega (arith, less, index.1))) (λ same. absurd (omega (arith, same.1, file))) behind.2) files) other) performed

-- a request has its own place, and others in the order of files have others
one_place_itself : (d : Done) → in_one_place d d ≡ true
one_place_itself d = and_from (d.file == d.file) (d.index == d.index) (eq-eqb d.file d.file refl) (eq-eqb d.index d.index refl)

files_apart : (d e : Done) → PrecedesInFiles d e → StandApart d e
files_apart d e before file index = ⊎_elim (λ less. absurd (omega (arith, less, file))) (λ less. absurd (omega (arith, less.1, index))) before

-- a run with the requests in order of file and index
module _ (first limit : ℕ) (db : Database) (files : List (List Request)) (performed done : List Done) (run : Performs first limit db performed) (collects : Collects files performed done) where
  was_performed : (d : Done) → Contains done d → Contains performed d
  was_performed d c = Contains-permutation done performed d (IsPermutation-sym performed done collects.same) c

  sorted : AllPairs PrecedesInFiles done
  sorted = in_files_from_holding collects.held.0 done collects.held.2

  one_or_earlier : (d e : Done) → Contains performed d → Contains performed e → OneOrEarlier d e
  one_or_earlier d e c c' = one_or_other Earlier performed d e (earlier_pairs first performed run.numbered run.rounds) c c'

  answered : All (IsAnswered first) done
  answered = All-permutation (IsAnswered first) performed done collects.same (all_answered first limit db performed run)

  printed : Printed first limit db performed
  printed = printed_run first limit db performed run

  -- of what a filter keeps, what holds of all and of what passes
  among : (p : Done → Bool) (P : Done → Type 0) → ((d : Done) → IsAnswered first d → p d ≡ true → P d) → All P (filter p done)
  among p P follows = λ k d within. follows _ (All-filter p (IsAnswered first) done answered k d within) (filter_passes p done k d within)

  is_printed_order : IsPrintedOrder done printed.order
  is_printed_order = record {
    same =
        IsPermutation-trans (filter is_printed done) (filter is_printed performed) printed.order
        (permuted_filter in_one_place one_place_itself flipped_place is_printed done performed (IsPermutation-sym performed done collects.same)
        (pairs_weaker PrecedesInFiles (λ d e. in_one_place d e ≡ false) done (λ d e before. apart_place d e (files_apart d e before)) sorted))
        printed.printing.same;
    sorted = printed.printing.sorted;
  }

  was_printed : (d : Done) → Contains printed.order d → Contains performed d
  was_printed d c = (filter_contains is_printed performed d (Contains-permutation printed.order (filter is_printed performed) d (IsPermutation-sym (filter is_printed performed) printed.order printed.printing.same) c)).0

  one_thread : RepliesOfOneThread first limit db files done
  one_thread = record {
    numbers = record {
      held = collects.held;
      distinct =
          pairs_among PrecedesInFiles (λ d e. d.number ≡ e.number → ⊥) (filter wrote done)
          (λ d e c c' before. let here = filter_contains wrote done d c in let there = filter_contains wrote done e c' in
          numbers_differ d e (one_or_earlier d e (was_performed d here.0) (was_performed e there.0)) before here.1 there.1)
          (AllPairs-filter PrecedesInFiles wrote done sorted);
      over = among wrote (λ d. first < d.number) (λ d a w. a.over w);
      from = among is_printed (λ d. first ≤ d.number) (λ d a p. a.from);
      syncs = among (λ d. is_sync d.request) (λ d. (d.reply ≡ Durable) × (d.wrote ≡ false)) (λ d a s. a.durable s);
      order = printed.order;
      printed = is_printed_order;
      files_in_order = pairs_among Precedes (λ d e. d.file ≡ e.file → d.index < e.index) printed.order (λ d e c c' before. files_follow d e (one_or_earlier d e (was_printed d c) (was_printed e c')) before) printed.printing.sorted;
    };
    one_thread = printed.printing.along;
  }

  printed_like : PrintedLike limit db performed done
  printed_like = record {
    order = printed.order;
    printed = is_printed_order;
    databases = λ n. ap (λ (l : List Done). after_requests limit db (map (λ (d : Done). d.request) l))
        (filter_twice wrote (λ (d : Done). nat_le d.number n) printed.order ∙ ap (filter (λ (d : Done). nat_le d.number n)) printed.printing.writes
        ∙ sym (filter_twice wrote (λ (d : Done). nat_le d.number n) performed));
  }

  syncs_follow : SyncsFollow done
  syncs_follow =
      pairs_among PrecedesInFiles (λ d e. d.file ≡ e.file → is_sync e.request ≡ true → d.number ≤ e.number) done
      (λ d e c c' before file sync. numbers_follow d e (one_or_earlier d e (was_performed d c) (was_performed e c')) before file) sorted

  syncs_from : All (λ d. is_sync d.request ≡ true → first ≤ d.number) done
  syncs_from = All-weaker (IsAnswered first) (λ d. is_sync d.request ≡ true → first ≤ d.number) (λ d a sync. a.from) done answered

pub law : LawOfRuns
law first limit db files performed done run collects =
    (one_thread first limit db files performed done run collects, printed_like first limit db files performed done run collects, syncs_follow first limit db files performed done run collects, syncs_from first limit db files performed done run collects)
