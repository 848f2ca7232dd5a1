-- Jobs, their lanes, and what was printed of what they did.
use Rattle.std.proofs.Common.{◌≡◌, ℕ, suc, ◌+◌, ◌<◌, List, [], ◌∷◌, length, take, map, get_or, refl, sym, ap, ap₂, ◌∙◌, arith, subst}
use Rattle.std.specs.Prelude.{All, Option, None, Some, IfSome}
use Rattle.std.specs.List.{enumerate_from, sum_by}
use Rattle.std.specs.Global.{Vec}
use Rattle.std.specs.Vec.{vec_capacity, with_items}
use Rattle.std.proofs.lemmas.List.{get_or-map, length-map}
use Rattle.std.proofs.lemmas.List.Elements.{All-cons, All-nil}
use Rattle.std.proofs.lemmas.List.FromFn.{get_or-range_with_len, length-range_with_len}
use Rattle.std.proofs.lemmas.List.Sums.{sum_by-cons}
use Rattle.dude_base.specs.declared.sizes.Sizes.{Sizes}
use Rattle.tatp_model.specs.declared.request.Request.{Request}
use Rattle.tatp_model.specs.declared.done.Done.{Done}
use Rattle.tatp_model.specs.OneThread.{IndexedRequest, indexed_request_of}
use Rattle.core_table.specs.Layout.{TableSight}
use Rattle.stm_transactions.specs.Passes.{pass_view}
use Rattle.dude_io.specs.Sink.{SinkSight}
use Rattle.dude_stream.specs.declared.outbox.Outbox.{Outbox}
use Rattle.dude_stream.specs.declared.outlet.Outlet.{Outlet}
use Rattle.dude_stream.specs.declared.print_fault.PrintFault.{PrintFault}
use Rattle.dude_stream.specs.Lanes.{HasReceived, IsSameDrain, received_by}
use Rattle.dude_stream.specs.Outboxes.{HasSent}
use Rattle.dude_stream.specs.Streams.{AreFirst}
use Rattle.run_workers.specs.declared.job.Job.{Job}
use Rattle.run_workers.specs.declared.joined.Joined.{Joined}
use Rattle.run_workers.specs.Job.{HasWorked, IsFresh, requests_of, thread_count}
use Rattle.run_workers.specs.Jobs.{AreFresh, AreJobs, FirstHasRoom, HaveWorked}
use Rattle.run_workers.specs.Joined.{AreJoined}
use Rattle.run_workers.specs.Sending.{IsSameLane, KeepLanes, SendFirst}
use Rattle.run_workers.specs.Lanes.{AreLanes, AreOpen, AreOpenLanes, HasReceivedOf, HaveBoxes, HaveReceived, HaveSameWork, IsLaneOf, OpensTo}
use Rattle.run_workers.specs.Printed.{ArePrinted, IsPrinted, LeaveFew}
use Rattle.run_workers.specs.Streamed.{HasStreamed}
use Rattle.run_workers.proofs.FirstLines.{AreOfFiles, first_lines, first_of_done}
use Rattle.run_workers.proofs.JobsRun.{changed_in_place}

-- ---- jobs with other ends of lanes
module _ {X : Type 0} where
  -- what doesn't speak of the lane is the same of each job
  same_maps : {A : Type 0} (f : Job X → A) → ((j : Job X) (b : Option Outbox) → f (record j { outbox = b }) ≡ f j) → (old new : List (Job X)) → length new ≡ length old → HaveSameWork old new → map f new ≡ map f old
  same_maps f apart [] [] long same = refl
  same_maps f apart [] (n ∷ ns) long same = absurd (omega arith)
  same_maps f apart (o ∷ os) [] long same = absurd (omega arith)
  same_maps f apart (o ∷ os) (n ∷ ns) long same =
      ap₂ (λ x l. x ∷ l) (ap f (same 0 o (omega arith)) ∙ apart o n.outbox) (same_maps f apart os ns (omega arith) (λ k d within. same (suc k) d (omega arith)))

  same_sums : (f : Job X → ℕ) → ((j : Job X) (b : Option Outbox) → f (record j { outbox = b }) ≡ f j) → (old new : List (Job X)) → length new ≡ length old → HaveSameWork old new → sum_by f new ≡ sum_by f old
  same_sums f apart [] [] long same = refl
  same_sums f apart [] (n ∷ ns) long same = absurd (omega arith)
  same_sums f apart (o ∷ os) [] long same = absurd (omega arith)
  same_sums f apart (o ∷ os) (n ∷ ns) long same =
      let here : f n ≡ f o = ap f (same 0 o (omega arith)) ∙ apart o n.outbox in
      let rest = same_sums f apart os ns (omega arith) (λ k d within. same (suc k) d (omega arith)) in
      omega (arith, sum_by-cons f n ns, sum_by-cons f o os)

  same_all : (P : Job X → Type 0) → ((j : Job X) (b : Option Outbox) → P j → P (record j { outbox = b })) → (old new : List (Job X)) → length new ≡ length old → HaveSameWork old new → All P old → All P new
  same_all P apart old new long same h k d within =
      let here : k < length old = omega arith in
      subst P (sym (same k d here)) (apart (get_or old k d) (get_or new k d).outbox (h k d here))

  -- the first one's list has the room that it had
  pub first_still : (count : ℕ) (old new : List (Job X)) → length new ≡ length old → HaveSameWork old new → FirstHasRoom count old → FirstHasRoom count new
  first_still count old [] long same h = tt
  first_still count [] (n ∷ ns) long same h = absurd (omega arith)
  first_still count (o ∷ os) (n ∷ ns) long same h = omega (arith, h, ap (λ (j : Job X). vec_capacity j.done) (same 0 o (omega arith)))

module _ {X K : Type 0} (t : TableSight K) (files : List (List Request)) where
  same_jobs : (holds : List Request → Job X → Type 0) → ((r : List Request) (j : Job X) (b : Option Outbox) → holds r j → holds r (record j { outbox = b })) → (old new : List (Job X)) → length new ≡ length old → HaveSameWork old new
      → AreJobs t files holds old → AreJobs t files holds new
  same_jobs holds apart old new long same h = record {
    each = same_all (λ j. holds (requests_of files j.file) j) (λ j b. apart (requests_of files j.file) j b) old new long same h.each;
    in_order = same_maps (λ j. j.file) (λ j b. refl) old new long same ∙ h.in_order;
    threads = same_sums (λ j. thread_count (pass_view j.pass)) (λ j b. refl) old new long same ∙ h.threads;
  }

  fresh_still : (old new : List (Job X)) → length new ≡ length old → HaveSameWork old new → AreFresh t files old → AreFresh t files new
  fresh_still = same_jobs (IsFresh t) (λ r j b h. record { rests = h.rests; no_entry = h.no_entry; no_fault = h.no_fault; from = h.from; draws = h.draws; none = h.none; room = h.room })

  pub worked_still : (s : Sizes) (old new : List (Job X)) → length new ≡ length old → HaveSameWork old new → HaveWorked t s files old → HaveWorked t s files new
  worked_still s = same_jobs (HasWorked t s) (λ r j b h. h)

  -- ---- a job for each file
  abbrev file_of : Job X → ℕ
  file_of j = j.file

  pub jobs_count : (holds : List Request → Job X → Type 0) (jobs : List (Job X)) → AreJobs t files holds jobs → length jobs ≡ length files
  jobs_count holds jobs h = sym (length-map jobs file_of) ∙ (ap length h.in_order ∙ length-range_with_len 0 (length files))

  place_of : (holds : List Request → Job X → Type 0) (jobs : List (Job X)) → AreJobs t files holds jobs → (k : ℕ) (d : Job X) → k < length jobs → (get_or jobs k d).file ≡ 0 + k
  place_of holds jobs h k d within =
      let long = jobs_count holds jobs h in
      sym (get_or-map file_of jobs k d 0 within) ∙ (ap (λ (l : List ℕ). get_or l k 0) h.in_order ∙ get_or-range_with_len 0 (length files) k 0 (omega arith))

  -- ---- before the work
  lanes_opened : (boxes : List Outbox) (outlets : List Outlet) (old new : List (Job X)) → AreFresh t files old → length new ≡ length old → HaveBoxes boxes new → AreOpenLanes files boxes outlets → AreOpen files new outlets
  lanes_opened boxes outlets old new h long have opened =
      let count = jobs_count (IsFresh t) old h in record {
        jobs_count = long ∙ count;
        outlets_count = opened.outlets_count;
        each = λ k j o within. opened_at k j o within (some_box boxes k (omega (arith, opened.boxes_count)));
      }
    where
      some_box : (boxes : List Outbox) (k : ℕ) → k < length boxes → Outbox
      some_box [] k within = absurd (omega arith)
      some_box (b ∷ bs) k within = b

      opened_at : (k : ℕ) (j : Job X) (o : Outlet) → k < length files → Outbox → OpensTo (requests_of files k) (get_or new k j).outbox (get_or outlets k o)
      opened_at k j o within b =
          let count = jobs_count (IsFresh t) old h in
          subst (λ (x : Option Outbox). OpensTo (requests_of files k) x (get_or outlets k o)) (sym (have k j b (omega arith))) (opened.each k b o within)

-- the jobs of a list got their ends of the lanes
module _ {X : Type 0} (list : Vec (Job X)) (old new : List (Job X)) (was : old ≡ list.items) (long : length new ≡ length old) (work : HaveSameWork old new) where
  abbrev handed : List (Job X)
  handed = (with_items list new).items

  -- the first one's list has the room that it had
  pub room_handed : (count : ℕ) → FirstHasRoom count list.items → FirstHasRoom count handed
  room_handed count room = changed_in_place (λ l. FirstHasRoom count l) list old new was long (first_still count old new long work (subst (λ (l : List (Job X)). FirstHasRoom count l) (sym was) room))

  module _ {K : Type 0} (t : TableSight K) (files : List (List Request)) (fresh : AreFresh t files list.items) where
    before : AreFresh t files old
    before = subst (λ (l : List (Job X)). AreFresh t files l) (sym was) fresh

    -- nothing of the files is done yet
    pub fresh_handed : AreFresh t files handed
    fresh_handed = changed_in_place (λ l. AreFresh t files l) list old new was long (fresh_still t files old new long work before)

    -- and nothing went through the lanes
    pub lanes_handed : (boxes : List Outbox) (outlets : List Outlet) → HaveBoxes boxes new → AreOpenLanes files boxes outlets → AreOpen files handed outlets
    lanes_handed boxes outlets have opened = changed_in_place (λ l. AreOpen files l outlets) list old new was long (lanes_opened t files boxes outlets old new before long have opened)

-- a worker that has sent nothing
opens_first : (requests : List Request) (box : Option Outbox) (outlet : Outlet) (done : List Done) → OpensTo requests box outlet → IfSome box (HasSent done)
opens_first requests None outlet done h = absurd h
opens_first requests (Some b) outlet done h = record { few = omega (arith, h.counted); first = h.sent ∙ sym (ap (λ (n : ℕ). take n done) h.counted) }

some_outlet : (outlets : List Outlet) (k : ℕ) → k < length outlets → Outlet
some_outlet [] k within = absurd (omega arith)
some_outlet (o ∷ os) k within = o

pub opened_first : {X : Type 0} {files : List (List Request)} {jobs : List (Job X)} {outlets : List Outlet} → AreOpen files jobs outlets → SendFirst jobs
opened_first {files = files} {jobs = jobs} {outlets = outlets} h k d within =
    let a = h.jobs_count in let b = h.outlets_count in
    let o = some_outlet outlets k (omega arith) in
    opens_first (requests_of files k) (get_or jobs k d).outbox (get_or outlets k o) (get_or jobs k d).done.items (h.each k d o (omega arith))

pub opened_same : {X : Type 0} {files : List (List Request)} {jobs js : List (Job X)} {outlets os : List Outlet} → js ≡ jobs → os ≡ outlets → AreOpen files jobs outlets → AreOpen files js os
opened_same {files = files} {jobs = jobs} {os = os} p q h = subst (λ (l : List (Job _)). AreOpen files l os) (sym p) (subst (λ (l : List Outlet). AreOpen files jobs l) (sym q) h)

-- ---- behind the work
lane_still : (requests : List Request) (old new : Option Outbox) (from now : Outlet) → OpensTo requests old from → IsSameLane old new → IsSameDrain from.drain now.drain → IsLaneOf new now
lane_still requests None new from now h lane drain = absurd h
lane_still requests (Some a) None from now h lane drain = absurd lane
lane_still requests (Some a) (Some b) from now h lane drain =
    let ring = h.lane.0 in let feed = lane.0.0 in let end = drain.0.0 in
    ((end.0 ∙ (ring.0 ∙ sym feed.0), end.1 ∙ (ring.1 ∙ sym feed.1), end.2 ∙ (ring.2 ∙ sym feed.2), end.3 ∙ (ring.3 ∙ sym feed.3)), drain.1 ∙ (h.lane.1 ∙ sym lane.1))

-- what was received of what the job has done
received_done : (box : Option Outbox) (outlet : Outlet) (done : List Done) → IsLaneOf box outlet → IfSome box (HasSent done) → HasReceivedOf box outlet → HasReceived done (received_by outlet.drain)
received_done None outlet done lane sent received = absurd lane
received_done (Some b) outlet done lane sent received = first_of_done done (received_by outlet.drain) b sent received

-- replies of a file
of_file : (file : ℕ) (done : List Done) (asked : List (ℕ × Request)) → map indexed_request_of done ≡ map (λ (r : ℕ × Request). record { file = file; index = r.0; request = r.1 }) asked → All (λ (d : Done). d.file ≡ file) done
of_file file [] asked same = All-nil (λ (d : Done). d.file ≡ file)
of_file file (d ∷ ds) [] same = absurd cc
of_file file (d ∷ ds) (a ∷ asked) same =
    let here : indexed_request_of d ≡ record { file = file; index = a.0; request = a.1 } = cc in
    let rest : map indexed_request_of ds ≡ map (λ (r : ℕ × Request). record { file = file; index = r.0; request = r.1 }) asked = cc in
    All-cons (λ (x : Done). x.file ≡ file) d ds (ap (λ (i : IndexedRequest). i.file) here) (of_file file ds asked rest)

-- the job of each file has replies of this file
own : {X K : Type 0} (t : TableSight K) (files : List (List Request)) (s : Sizes) (jobs : List (Job X)) → HaveWorked t s files jobs → AreOfFiles (λ (j : Job X). j.done.items) 0 jobs
own t files s jobs h k m d within is =
    let j = get_or jobs k d in
    let at = place_of t files (HasWorked t s) jobs h k d within in
    let all = of_file j.file j.done.items (enumerate_from 0 (take (length j.done.items) (requests_of files j.file))) (h.each k d within).has_done.first in
    subst (λ (n : ℕ). All (λ (x : Done). x.file ≡ n) j.done.items) (at ∙ sym is) all

module _ {X : Type 0} {files : List (List Request)} {old : List (Job X)} {from now : List Outlet} {stopped : Option PrintFault} {u v : SinkSight} (opened : AreOpen files old from) (printed : IsPrinted stopped from now u v) where
  pub lanes_still : (new : List (Job X)) → length new ≡ length old → KeepLanes old new → AreLanes new now
  lanes_still new long keep k j o within =
      let a = opened.jobs_count in let b = opened.outlets_count in
      lane_still (requests_of files k) (get_or old k j).outbox (get_or new k j).outbox (get_or from k o) (get_or now k o) (opened.each k j o (omega arith)) (keep k j (omega arith)) (printed.received.each k o (omega arith)).same

  some_job : (jobs : List (Job X)) (k : ℕ) → k < length jobs → Job X
  some_job [] k within = absurd (omega arith)
  some_job (j ∷ js) k within = j

  -- as many lines are left as the file has requests, at first
  left_first : (k : ℕ) (o : Outlet) → k < length files → (get_or from k o).left ≡ length (requests_of files k)
  left_first k o within =
      let a = opened.jobs_count in
      let j = some_job old k (omega arith) in
      left_of (get_or old k j).outbox (opened.each k j o within)
    where
      left_of : (box : Option Outbox) → OpensTo (requests_of files k) box (get_or from k o) → (get_or from k o).left ≡ length (requests_of files k)
      left_of None h = absurd h
      left_of (Some b) h = h.left

  none_first : (k : ℕ) (o : Outlet) → k < length from → received_by (get_or from k o).drain ≡ []
  none_first k o within =
      let a = opened.jobs_count in let b = opened.outlets_count in
      let j = some_job old k (omega arith) in
      none_of (get_or old k j).outbox (opened.each k j o (omega arith))
    where
      none_of : (box : Option Outbox) → OpensTo (requests_of files k) box (get_or from k o) → received_by (get_or from k o).drain ≡ []
      none_of None h = absurd h
      none_of (Some b) h = h.received

  pub few_left : LeaveFew files now
  few_left =
      let a = opened.outlets_count in let b = printed.received.count in record {
        count = b ∙ a;
        few = λ k o within. omega (arith, left_first k o within, (printed.received.each k o (omega arith)).left);
      }

  pub streamed : {K : Type 0} (t : TableSight K) (s : Sizes) (new last : List (Job X)) (counts : List ℕ) (joined : Joined X) → length new ≡ length old → length last ≡ length new → HaveWorked t s files new → KeepLanes old new → SendFirst new
      → HaveReceived new now → HaveSameWork new last → ArePrinted files now counts → AreJoined t last joined → HasStreamed (length files) joined.done.items counts stopped u v
  streamed t s new last counts joined long longer worked keep sent received same are_printed are_joined =
      let a = opened.jobs_count in let b = opened.outlets_count in
      let all : HaveWorked t s files last = worked_still t files s new last longer same worked in record {
        lines = printed.lines;
        first = subst (λ (l : List Done). AreFirst printed.lines l) (sym are_joined.done) (first_lines (λ (j : Job X). j.done.items) last from now printed.lines printed.received none_first (omega arith) (own t files s last all) got);
        each = are_printed.count;
        counted = λ k within.
            let o = some_outlet from k (omega arith) in
            omega (arith, are_printed.each k o within, left_first k o within, (printed.received.each k o (omega arith)).left);
        took = printed.took;
      }
    where
      got : (k : ℕ) (j : Job X) (o : Outlet) → k < length last → HasReceived (get_or last k j).done.items (received_by (get_or now k o).drain)
      got k j o within =
          let j1 = get_or new k j in
          let is : (get_or last k j).done.items ≡ j1.done.items = ap (λ (x : Job X). x.done.items) (same k j (omega arith)) in
          subst (λ (l : List Done). HasReceived l (received_by (get_or now k o).drain)) (sym is)
          (received_done j1.outbox (get_or now k o) j1.done.items (lanes_still new long keep k j o (omega arith)) (sent k j (omega arith)) (received k j o (omega arith)))
