-- What a streamed run hands the sink, by how its printing ended.
use Rattle.std.proofs.Common.{◌≡◌, ℕ, ◌<◌, Bool, cond, false, true, nat_le, List, [], ◌∷◌, ◌++◌, length, Option, Some, None, refl, sym, ap, ap₂, ◌∙◌, subst, arith, ⊎_elim, append_assoc}
use Rattle.std.specs.Prelude.{IfNone, IfSome, slice_index}
use Rattle.std.specs.List.{All, flat_map}
use Rattle.std.proofs.lemmas.List.Elements.{All-head, All-tail, All-weaker}
use Rattle.pmem_trait.specs.Sights.{Sight}
use Rattle.tatp_model.specs.declared.done.Done.{Done}
use Rattle.tatp_model.specs.declared.request.Request.{Request}
use Rattle.tatp_model.specs.OneThread.{AllAreDone, HoldsPrefixes}
use Rattle.tatp_text.specs.Output.{last_line}
use Rattle.dude_io.specs.Sink.{SinkSight, Took, TookPart}
use Rattle.dude_io.proofs.WriteLaws.{took_none}
use Rattle.dude_stream.specs.declared.print_fault.PrintFault.{PrintFault}
use Rattle.dude_stream.specs.declared.print_fault.PrintFault.TheVariants as fault
use Rattle.dude_stream.specs.Lines.{lane_line}
use Rattle.dude_stream.specs.Printing.{Taken, of_lane}
use Rattle.dude_stream.specs.Streams.{AreFirst, LawOfStoppedRests, LawOfStoppedStreams, LawOfWholeStreams, Streams, StopsIn, TookLess, count_in, of_file, rest_of, rest_text}
use Rattle.dude_engine.specs.declared.ran.Ran.{Ran}
use Rattle.dude_engine.specs.declared.ran.RanEnd.{RanEnd}
use Rattle.dude_engine.specs.declared.ran.RanEnd.TheVariants as end
use Rattle.run_workers.specs.Streamed.{HasStreamed}
use Rattle.run_threads.specs.Ran.{RanFrom, Start}
use Rattle.run_threads.specs.Streamed.{IsSameRan, StandFirst, is_whole}
use Rattle.run_threads.proofs.Finishing.{ran_same}
use Rattle.run_threads.proofs.Uniting.{files_under}

-- ---- lines that were printed while threads ran
-- first lines of what threads did are first lines of all
pub first_on : (lines : List Taken) (threads done : List Done) → AreFirst lines threads → StandFirst threads done → AreFirst lines done
first_on lines threads done first stand file =
    let a = first file in let b = stand file in
    (a.0 ++ b.0, b.1 ∙ ap (λ (l : List Done). l ++ b.0) a.1 ∙ append_assoc (of_lane file lines) a.0 b.0)

pub streamed_on : (count : ℕ) (threads done : List Done) (printed : List ℕ) (stopped : Option PrintFault) (s t : SinkSight) → HasStreamed count threads printed stopped s t → StandFirst threads done → HasStreamed (length printed) done printed stopped s t
streamed_on count threads done printed stopped s t h stand = record {
  lines = h.lines;
  first = first_on h.lines threads done h.first stand;
  each = refl;
  counted = λ file less. h.counted file (let e = h.each in omega arith);
  took = h.took;
}

-- ---- the rest, by how many lines of each file are counted
rest_by : (f g : ℕ → ℕ) (count : ℕ) (done : List Done) → ((file : ℕ) → file < count → f file ≡ g file) → All (λ d. d.file < count) done → rest_of f done ≡ rest_of g done
rest_by f g count [] same all = refl
rest_by f g count (d ∷ done) same all =
    ap₂ (λ (n : ℕ) (l : List Done). cond (nat_le n d.index) (d ∷ l) l) (same d.file (All-head (λ (x : Done). x.file < count) d done all)) (rest_by f g count done same (All-tail (λ (x : Done). x.file < count) d done all))

module _ (count : ℕ) (done : List Done) (printed : List ℕ) (stopped : Option PrintFault) (s t : SinkSight) (h : HasStreamed count done printed stopped s t) (last : ℕ) (inside : All (λ d. d.file < count) done) where
  rest_same : rest_text (slice_index printed) done last ≡ rest_text (count_in h.lines) done last
  rest_same = ap (λ (l : List Done). flat_map lane_line l ++ last_line last) (sym (rest_by (count_in h.lines) (slice_index printed) count done h.counted inside))

-- ---- nothing more is printed
none_first : (done : List Done) → AreFirst [] done
none_first done file = (of_file file done, refl)

-- nothing at all, of a run that isn't whole
pub unprinted : LawOfStoppedStreams → (e : RanEnd) → (e ≡ end.Whole → ⊥) → (files : List (List Request)) (done : List Done) (last : ℕ) (s t : SinkSight) → AllAreDone files done → t ≡ s → Streams (is_whole e) false done last s t
unprinted law end.Whole differs files done last s t all same = absurd (differs refl)
unprinted law end.Device differs files done last s t all same = (law files done [] last s t all (none_first done)).0 (subst (λ (u : SinkSight). Took [] s u) (sym same) took_none)
unprinted law end.NoMemory differs files done last s t all same = (law files done [] last s t all (none_first done)).0 (subst (λ (u : SinkSight). Took [] s u) (sym same) took_none)

-- nothing behind the lines of a run that isn't whole
pub cut_short : LawOfStoppedStreams → (e : RanEnd) → (e ≡ end.Whole → ⊥) → (files : List (List Request)) (count : ℕ) (done : List Done) (printed : List ℕ) (last : ℕ) (s t : SinkSight) → AllAreDone files done → HasStreamed count done printed None s t
    → Streams (is_whole e) false done last s t
cut_short law end.Whole differs files count done printed last s t all h = absurd (differs refl)
cut_short law end.Device differs files count done printed last s t all h = (law files done h.lines last s t all h.first).0 h.took
cut_short law end.NoMemory differs files count done printed last s t all h = (law files done h.lines last s t all h.first).0 h.took

-- the sink failed in the lines
pub failed_before : LawOfStoppedStreams → (whole : Bool) (files : List (List Request)) (count : ℕ) (done : List Done) (printed : List ℕ) (last : ℕ) (s t : SinkSight) → AllAreDone files done → HasStreamed count done printed (Some fault.Sink) s t
    → Streams whole true done last s t
failed_before law whole files count done printed last s t all h = (law files done h.lines last s t all h.first).1 h.took whole

-- where there was no memory for a line, the lines before it were printed
pub lines_before : (count : ℕ) (done : List Done) (printed : List ℕ) (s t : SinkSight) → HasStreamed count done printed (Some fault.NoMemory) s t → HasStreamed count done printed None s t
lines_before count done printed s t h = record { lines = h.lines; first = h.first; each = h.each; counted = h.counted; took = h.took }

-- ---- the rest of a whole run
module _ (files : List (List Request)) (count : ℕ) (done : List Done) (printed : List ℕ) (last : ℕ) (s t u : SinkSight) (all : AllAreDone files done) (h : HasStreamed count done printed None s t) (inside : All (λ d. d.file < count) done) where
  abbrev rest : List ℕ
  rest = rest_text (slice_index printed) done last

  same : rest ≡ rest_text (count_in h.lines) done last
  same = rest_same count done printed None s t h last inside

  pub all_printed : LawOfWholeStreams → Took rest t u → Streams true false done last s u
  all_printed law took = law files done h.lines last s t u all h.first h.took (subst (λ (l : List ℕ). Took l t u) same took)

  pub stopped_in_rest : LawOfStoppedRests → TookLess rest t u → Streams false false done last s u
  stopped_in_rest law less = (law files done h.lines last s t u all h.first h.took).0 (subst (λ (l : List ℕ). TookLess l t u) same less)

  pub failed_in_rest : LawOfStoppedRests → TookPart rest t u → (whole : Bool) → Streams whole true done last s u
  failed_in_rest law part = (law files done h.lines last s t u all h.first h.took).1 (subst (λ (l : List ℕ). TookPart l t u) same part)

-- the rest wasn't printed whole, by why
pub failed_by : (f : PrintFault) (text : List ℕ) (t u : SinkSight) → f ≡ fault.Sink → StopsIn f text t u → TookPart text t u
failed_by f text t u is stops = subst (λ (x : PrintFault). StopsIn x text t u) is stops

pub short_by : (f : PrintFault) (text : List ℕ) (t u : SinkSight) → f ≡ fault.NoMemory → StopsIn f text t u → TookLess text t u
short_by f text t u is stops = subst (λ (x : PrintFault). StopsIn x text t u) is stops

-- ---- what is there, or not
pub some_is : {X : Type 0} (P : X → Type 0) (o : Option X) (x : X) → o ≡ Some x → IfSome o P → P x
some_is P o x is h = subst (λ p. IfSome p P) is h

pub none_is : {X : Type 0} (o : Option X) (P : Type 0) → o ≡ None → IfNone o P → P
none_is o P is h = subst (λ p. IfNone p P) is h

-- ---- the run behind its lines
-- want of memory for a line: all that is said where it isn't whole holds
short_of_lines : (k : Start) (files : List (List Request)) (done : List Done) (last : ℕ) (t : Sight) → RanFrom k files done end.Whole last t → RanFrom k files done end.NoMemory last t
short_of_lines k files done last t ran = record {
  numbers = ran.numbers;
  replies = ran.replies;
  syncs = ran.syncs;
  moments = ran.moments;
  len = ran.len;
  whole = λ e. absurd (let no : ⊥ = cc in no);
  operates = λ e. absurd (let no : ⊥ = cc in no);
  from = ran.from;
  last_told = ran.last_told;
  ran = (ran.ran.0, ran.ran.1, ((λ f. absurd (let e = ran.ran.2.0 f in let no : ⊥ = cc in no)), (λ e. absurd (let no : ⊥ = cc in no))));
  cause = λ e. absurd (let no : ⊥ = cc in no);
  few_lost = λ well db stands before held visible. let near = ran.few_lost refl db stands before held visible in
      record { order = near.order; printed = near.printed; images = record { each = λ image is. let e = near.images.each image is in (e.0, (let close = e.1 in omega arith), e.2) } };
}

pub ran_behind_lines : {M : Type 0} (sight : M → Sight) (k : Start) (files : List (List Request)) (old new : Ran M) → IsSameRan old new → RanFrom k files old.done.items old.end old.last (sight old.medium) → RanFrom k files new.done.items new.end new.last (sight new.medium)
ran_behind_lines sight k files old new is ran = ⊎_elim
    (λ same. ran_same k files old.done.items new.done.items old.end new.end old.last new.last (sight old.medium) (sight new.medium) (ap (λ v. v.items) is.done) same is.last (ap sight is.medium) ran)
    (λ short. ran_same k files old.done.items new.done.items end.NoMemory new.end old.last new.last (sight old.medium) (sight new.medium) (ap (λ v. v.items) is.done) short.1 is.last (ap sight is.medium)
    (short_of_lines k files old.done.items old.last (sight old.medium) (subst (λ (e : RanEnd). RanFrom k files old.done.items e old.last (sight old.medium)) short.0 ran)))
    is.end

-- each request done is of a file for which lines are counted
pub inside_counted : (files : List (List Request)) (count : ℕ) (done threads : List Done) (printed : List ℕ) (stopped : Option PrintFault) (s t : SinkSight) → length files ≡ count → HoldsPrefixes files done → HasStreamed count threads printed stopped s t → All (λ d. d.file < length printed) done
inside_counted files count done threads printed stopped s t long held h =
    All-weaker (λ (d : Done). d.file < length files) (λ (d : Done). d.file < length printed) (λ d less. let e = h.each in omega arith) done (files_under files done held)
