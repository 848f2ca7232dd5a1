-- A run over an opened image, as the command sees it; the requests of a load; and texts.
use Rattle.std.proofs.Common.{◌≡◌, ◌⊎◌, ◌↔◌, Bool, true, false, IsTrue, ℕ, zero, suc, ◌+◌, ◌<◌, ◌≤◌, List, [], ◌∷◌, length, map, refl, sym, ◌∙◌, ap, subst, inl, inr, arith, Some, None, Result, Ok, Err, Vec, Global, take, get_or}
use Rattle.std.specs.Option.{is_none}
use Rattle.std.specs.Result.{result_err}
use Rattle.std.specs.Prelude.{OnOk, IfErr, ⊤}
use Rattle.std.specs.List.{All, range_with_len}
use Rattle.std.proofs.lemmas.List.{length-map, map_more}
use Rattle.std.proofs.lemmas.List.Elements.{All-head, All-tail}
use Rattle.std.proofs.lemmas.List.FromFn.{length-map-range_with_len}
use Rattle.std.proofs.lemmas.List.Sums.{fold-append}
use Rattle.dude_base.specs.declared.run.Run.{Run}
use Rattle.dude_base.specs.declared.sizes.Sizes.{Sizes}
use Rattle.pmem_trait.specs.Sights.{Sight, SomeCalls, state_now}
use Rattle.tatp_model.specs.declared.done.Done.{Done}
use Rattle.tatp_model.specs.declared.request.Request.{Request}
use Rattle.tatp_model.specs.Database.{Database}
use Rattle.tatp_model.specs.OneThread.{RepliesOfOneThread}
use Rattle.run_order.specs.Printed.{NumbersOfOneThread}
use Rattle.run_order.proofs.NumbersPrinted.{law_parts}
use Rattle.dude_io.specs.Sink.{SinkSight, Took}
use Rattle.dude_stream.specs.Streams.{Streams}
use Rattle.back_store.specs.Back.{BackState, idle}
use Rattle.back_store.specs.Operations.{MakesOperations}
use Rattle.pmem_trait.specs.declared.medium.Medium.{Ghosts}
use Rattle.back_store.specs.BackView.{medium_of, sight_of}
use Rattle.dude_recover.specs.declared.opened.Opened.{Opened}
use Rattle.dude_recover.specs.Opened.{HoldsOpened, IsOpened}
use Rattle.run_threads.specs.Answers.{AnswersOnThreads, AreSyncsDurable, KnowsReads, TellsSyncsOnThreads}
use Rattle.run_threads.specs.Ends.{AnyNumber, EndsOnThreads, EndsWhole, RecoversOnThreads}
use Rattle.run_threads.specs.RunsOnThreads.{RunsOnThreads}
use Rattle.run_threads.specs.Streamed.{is_whole}
use Rattle.command_openings.proofs.Images.{none_behind}
use Rattle.command_edges.specs.Printing.{FailsIn}
use Rattle.tatp_model.specs.Files.{requests_in}
use Rattle.dude_engine.specs.Opening.{IsUpToLast, Opening}
use Rattle.dude_engine.specs.Requests.{request_count}
use Rattle.dude_engine.specs.declared.ran.Ran.{Ran}
use Rattle.dude_engine.specs.declared.ran.RanEnd.{RanEnd}
use Rattle.dude_engine.specs.declared.ran.RanEnd.TheVariants.{Whole, NoMemory}
use Rattle.dude_engine.specs.declared.ran.RanEnd.TheVariants as ran
use Rattle.dude_engine.specs.Plain as plain
use Rattle.dude_engine.proofs.LogOperations.{run_makes}
use Rattle.dude_engine.proofs.Numbering.{greatest_all, greatest_from}
use Rattle.command_edges.specs.declared.fault.Fault.{Fault}
use Rattle.command_edges.specs.declared.fault.Fault.TheVariants.{Device, Memory}
use Rattle.dude_program.specs.declared.worked.Worked.{Worked}
use Rattle.dude_program.specs.Causes.{FailsOnlyAtDevice}
use Rattle.dude_program.specs.Work.{PrintsText, RanOver, fault_of_end}

pub whole_end : (end : RanEnd) → fault_of_end end ≡ None → end ≡ Whole
whole_end Whole e = refl
whole_end ran.Device e = let no : ⊥ = cc in absurd no
whole_end NoMemory e = let no : ⊥ = cc in absurd no

pub device_end : (end : RanEnd) → fault_of_end end ≡ Some Device → end ≡ ran.Device
device_end Whole e = let no : ⊥ = cc in absurd no
device_end ran.Device e = refl
device_end NoMemory e = let no : ⊥ = cc in absurd no

pub only_ends : (end : RanEnd) → (fault_of_end end ≡ None) ⊎ (fault_of_end end ≡ Some Device) ⊎ (fault_of_end end ≡ Some Memory)
only_ends Whole = inl refl
only_ends ran.Device = inr (inl refl)
only_ends NoMemory = inr (inr refl)

most_by : (end : RanEnd) (ok : Bool) → (ok ≡ false) ↔ (end ≡ ran.Device) → plain.most_lost end ≤ plain.most_lost_by ok
most_by Whole ok which = omega arith
most_by ran.Device true which = absurd (let e = which.1 refl in let no : ⊥ = cc in no)
most_by ran.Device false which = omega arith
most_by NoMemory true which = omega arith
most_by NoMemory false which = omega arith

-- the numbers of a run whose replies are one thread's
pub numbers_of : (first limit : ℕ) (db : Database) (files : List (List Request)) (done : List Done) → RepliesOfOneThread first limit db files done → NumbersOfOneThread first files done
numbers_of first limit db files done replies = ((law_parts first limit db files done).0 replies).0

-- how many numbers are lost, by whether each call went well
pub lost_end : (end : RanEnd) (opening : Opening) (words : List ℕ) (done : List Done) (s t : Sight) → plain.RanUnlessDevice end s t → plain.LosesFew (plain.most_lost end) opening words done s t
    → (ok : Bool) × SomeCalls ok s t × plain.LosesFew (plain.most_lost_by ok) opening words done s t
lost_end end opening words done s t ran few = (
  ran.0,
  ran.1,
  λ before held visible.
      let loses = few before held visible in
      record {
        order = loses.order;
        printed = loses.printed;
        images = record { each = λ image is. let r = loses.images.each image is in (r.0, omega (arith, r.1, most_by end ran.0 ran.2), r.2) };
      },
)

-- on threads only where no call failed
pub lost_on_threads : (end : RanEnd) (opening : Opening) (words : List ℕ) (done : List Done) (s t : Sight) → plain.RanUnlessDevice end s t
    → (plain.ran_well end ≡ true → plain.LosesFew (plain.most_lost end) opening words done s t)
    → (IsTrue true × (fault_of_end end ≡ Some Device)) ⊎ ((ok : Bool) × SomeCalls ok s t × plain.LosesFew (plain.most_lost_by ok) opening words done s t)
lost_on_threads ran.Device opening words done s t ran few = inl (refl, refl)
lost_on_threads Whole opening words done s t ran few = inr (lost_end Whole opening words done s t ran (few refl))
lost_on_threads NoMemory opening words done s t ran few = inr (lost_end NoMemory opening words done s t ran (few refl))

-- what holds of an opened image's state holds of an idle back at its opening
pub operates_idle : {state : BackState} {sizes : Sizes} {number : ℕ} (opening : Opening) (s t : Sight) → state ≡ idle sizes number → opening.sizes ≡ sizes → opening.number ≡ number
    → MakesOperations state s t → MakesOperations (idle opening.sizes opening.number) s t
operates_idle {state} {sizes} {number} opening s t is same_sizes same_number made =
    subst (λ (n : ℕ). MakesOperations (idle opening.sizes n) s t) (sym same_number)
    (subst (λ (z : Sizes). MakesOperations (idle z number) s t) (sym same_sizes) (subst (λ (v : BackState). MakesOperations v s t) is made))

-- a medium that is as an opening left it, whatever was told
pub as_opened : (before : ℕ) (sizes : Sizes) (number : ℕ) (words : List ℕ) (s : Sight) → HoldsOpened before sizes number words s → HoldsOpened (length (state_now s).told) sizes number words s
as_opened before sizes number words s held = record {
  keeps = record { holds = held.keeps.holds; told = λ alive visible. none_behind (state_now s).told number };
  home = held.home;
}

-- the greatest number done is a last number
pub ends_whole_at : (opening : Opening) (words : List ℕ) (requests : List (List Request)) (done : List Done) (last : ℕ) (s t : Sight) → plain.IsWhole opening words requests done last s t
    → EndsWhole (IsUpToLast opening) opening words requests done last s t
ends_whole_at opening words requests done last s t whole = record {
  all = whole.all;
  none_over = subst (λ (n : ℕ). All (λ d. d.number ≤ n) done) (sym whole.last_is) (greatest_all opening.number done);
  from = omega (arith, greatest_from opening.number done, whole.last_is);
  reaches = omega (arith, whole.last_is);
  end = whole.end;
}

pub ran_end : (end : RanEnd) (s t : Sight) → plain.RanUnlessDevice end s t → FailsOnlyAtDevice (fault_of_end end) s t
ran_end end s t r = (r.0, r.1, (λ failed. ap fault_of_end (r.2.0 failed), λ is. r.2.1 (device_end end is)))

-- a run on one thread, from what its parts say
module _ {M : Type 0} {ghosts : Ghosts M} (o : Opened M ghosts) (opened : IsOpened o) (files : List (Vec Request Global)) (done : List Done) (end : RanEnd) (last : ℕ) (t : Sight) (opening : Opening)
    (own : plain.IsOpeningOf o opening) (answers : plain.AnswersFiles opening (requests_in files) done) (syncs : plain.TellsSyncs o.number done (sight_of o.back) t)
    (moments : plain.RecoversOnTheRun opening o.words.items done (sight_of o.back) t) (ends : plain.EndsAs o (requests_in files) done end last t) where
  pub ran_over_plain : RanOver false ⊤ (IsUpToLast opening) opening o.words.items (requests_in files) done last (fault_of_end end) (sight_of o.back) t
  ran_over_plain = record {
    numbers = numbers_of opening.number opening.sizes.calls opening.database (requests_in files) done answers.replies;
    replies = λ known. answers.replies;
    syncs_follow = syncs.follow;
    syncs_from = λ i d below sync. omega (arith, syncs.from i d below sync, own.number);
    syncs_told = λ visible i d below sync. inr (syncs.told visible i d below sync);
    moments = moments;
    whole = λ none. ends_whole_at opening o.words.items (requests_in files) done last (sight_of o.back) t (ends.whole (whole_end end none) opening own);
    operates = λ none. run_makes (ends.calls (whole_end end none)) opened.idle own.sizes own.number;
    few_lost = inr (lost_end end opening o.words.items done (sight_of o.back) t ends.ran (ends.few_lost opening own));
    ran = ran_end end (sight_of o.back) t ends.ran;
    cause = λ is. ends.cause (device_end end is);
    only = only_ends end;
  }

-- a run on threads, from what its parts say
module _ {M : Type 0} {ghosts : Ghosts M} (o : Opened M ghosts) (opened : IsOpened o) (run : Run) (files : List (Vec Request Global)) (done : List Done) (end : RanEnd) (last : ℕ) (t : Sight) (opening : Opening)
    (own : plain.IsOpeningOf o opening) (answers : AnswersOnThreads run opening (requests_in files) done (sight_of o.back)) (syncs : TellsSyncsOnThreads o.number done (sight_of o.back) t)
    (moments : RecoversOnThreads opening o.words.items done (sight_of o.back) t) (ends : EndsOnThreads o (requests_in files) done end last t) where
  pub ran_over_threads : RanOver true (KnowsReads opening.sizes run (sight_of o.back)) AnyNumber opening o.words.items (requests_in files) done last (fault_of_end end) (sight_of o.back) t
  ran_over_threads = record {
    numbers = answers.numbers;
    replies = answers.replies;
    syncs_follow = syncs.follow;
    syncs_from = λ i d below sync. omega (arith, syncs.from i d below sync, own.number);
    syncs_told = λ visible. subst (λ (n : ℕ). AreSyncsDurable n done (sight_of o.back) t) (sym own.number) (syncs.told visible);
    moments = moments;
    whole = λ none. ends.whole (whole_end end none) opening own;
    operates = λ none. operates_idle opening (sight_of o.back) t opened.idle own.sizes own.number (ends.operates (whole_end end none));
    few_lost = lost_on_threads end opening o.words.items done (sight_of o.back) t ends.ran (λ well. ends.few_lost well opening own);
    ran = ran_end end (sight_of o.back) t ends.ran;
    cause = λ is. ends.cause (device_end end is);
    only = only_ends end;
  }

-- The requests were run so over an opened image, on threads, which share this; its medium, seen so, is given back. Their replies are
-- known where it is known what they read.
abbrev pub RanOnThreads : {M : Type 0} {ghosts : Ghosts M} → (M → Sight) → Opened M ghosts → Run → List (Vec Request Global) → Worked M → Type 0
RanOnThreads sight o run files worked = (opening : Opening) → plain.IsOpeningOf o opening
    → RanOver true (KnowsReads opening.sizes run (sight (medium_of o.back))) AnyNumber opening o.words.items (requests_in files) worked.done.items worked.last worked.fault
    (sight (medium_of o.back)) (sight worked.medium)

-- so it is seen of a command
module _ {M : Type 0} {ghosts : Ghosts M} (o : Opened M ghosts) (opened : IsOpened o) (run : Run) (files : List (Vec Request Global)) (ran : Ran M)
    (runs : RunsOnThreads o run (requests_in files) ran)
    (worked : Worked M) (done : worked.done ≡ ran.done) (medium : worked.medium ≡ ran.medium) (last : worked.last ≡ ran.last) (fault : worked.fault ≡ fault_of_end ran.end) where
  pub ran_on_threads : RanOnThreads ghosts.sight o run files worked
  ran_on_threads opening own =
      rw (done, medium, last, fault) (ran_over_threads o opened run files ran.done.items ran.end ran.last (ghosts.sight ran.medium) opening own (runs.replies opening own) runs.syncs (runs.moments opening own) runs.end)

-- a run is whole where it ended with no fault
whole_none : (end : RanEnd) → is_none (fault_of_end end) ≡ is_whole end
whole_none Whole = refl
whole_none ran.Device = refl
whole_none NoMemory = refl

-- what was printed of it meanwhile
pub streamed_so : {M : Type 0} (failed : Bool) (k l : SinkSight) (ran : Ran M) (worked : Worked M) → worked.done ≡ ran.done → worked.last ≡ ran.last → worked.fault ≡ fault_of_end ran.end
    → Streams (is_whole ran.end) failed ran.done.items ran.last k l → Streams (is_none worked.fault) failed worked.done.items worked.last k l
streamed_so failed k l ran worked done last fault streams = rw (done, last, fault, whole_none ran.end) streams

-- ---- a text

pub text_prints : (text : List ℕ) (r : Result (Unit {0}) Fault) (k l : SinkSight) → OnOk r (Took text k l) → IfErr r (FailsIn text k l) → PrintsText text None (result_err r) k l
text_prints text (Ok x) k l took fails = took
text_prints text (Err e) k l took fails = inl fails.0

-- ---- how many requests there are

pub counted_more : (files : List (Vec Request Global)) (i : ℕ) (d : Vec Request Global) → i < length files
    → request_count (requests_in (take (i + 1) files)) ≡ request_count (requests_in (take i files)) + length (get_or files i d).items
counted_more files i d below =
    ap request_count (map_more (λ list. list.items) files i d below)
    ∙ fold-append (λ count file. count + length file) 0 (requests_in (take i files)) ((get_or files i d).items ∷ [])

pub one_count : (requests : List (List Request)) → length requests ≤ 1 → All (λ list. length list ≤ 100000) requests → request_count requests ≤ 100000
one_count [] one few = omega arith
one_count (list ∷ []) one few = let head : length list ≤ 100000 = All-head (λ list. length list ≤ 100000) list [] few in omega (arith, head)
one_count (list ∷ other ∷ more) one few = absurd (omega (arith, one))

-- ---- the files of a load

pub mixed_length : (f : ℕ → List Request) (lists : List (Vec Request Global)) (n : ℕ) → requests_in lists ≡ map f (range_with_len 0 n) → length lists ≡ n
mixed_length f lists n is = sym (length-map lists (λ list. list.items)) ∙ (ap length is ∙ length-map-range_with_len f 0 n)

-- each of the lists is short
pub few_at : (files : List (Vec Request Global)) (i : ℕ) (d : Vec Request Global) → i < length files → All (λ list. length list ≤ 100000) (requests_in files) → length (get_or files i d).items ≤ 100000
few_at [] i d below all = absurd (omega (arith, below))
few_at (file ∷ files) zero d below all = All-head (λ list. length list ≤ 100000) file.items (requests_in files) all
few_at (file ∷ files) (suc i) d below all = few_at files i d (omega (arith, below)) (All-tail (λ list. length list ≤ 100000) file.items (requests_in files) all)
