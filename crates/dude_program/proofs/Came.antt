-- What a command comes to before its output, from the opening of its image and its run.
use Rattle.std.proofs.Common.{◌≡◌, ◌⊎◌, ℕ, ◌≤◌, Bool, true, false, IsTrue, List, [], refl, sym, ◌∙◌, subst, inl, inr, arith, Option, Some, None}
use Rattle.std.specs.Bool.{MatchBool}
use Rattle.std.proofs.lemmas.List.Elements.{All-nil}
use Rattle.std.proofs.lemmas.List.Sorted.{IsPermutation-refl}
use Rattle.dude_base.specs.declared.sizes.Sizes.{Sizes}
use Rattle.pmem_trait.specs.Sights.{Sight, SomeCalls, CallsMade.none}
use Rattle.pmem_trait.proofs.Runs.{made_later, ran_here, ran_then, risen_later}
use Rattle.tatp_model.specs.declared.done.Done.{Done}
use Rattle.tatp_model.specs.declared.request.Request.{Request}
use Rattle.tatp_model.specs.OneThread.{RepliesOfOneThread, is_sync}
use Rattle.run_order.specs.Runs.{Collects}
use Rattle.run_order.proofs.Law.{law}
use Rattle.run_order.proofs.Performed.{performs_start}
use Rattle.dude_io.specs.Files.{FilesSight}
use Rattle.back_store.specs.Back.{idle}
use Rattle.dude_recover.specs.Causes.{FitsImage}
use Rattle.command_edges.specs.Command.{Meaning, Meaning.FreshRun, Meaning.FormatImage, Meaning.RunFiles, Meaning.StreamFiles, Meaning.RecoverImage, Meaning.DumpTables, Meaning.LocateRange, Meaning.DriveLoad, Meaning.AuditRun, Meaning.ShipFiles, Meaning.FollowFiles}
use Rattle.dude_engine.specs.Opening.{Opening}
use Rattle.dude_engine.specs.Plain.{LosesFew, most_lost_by}
use Rattle.command_edges.specs.declared.fault.Fault.{Fault}
use Rattle.command_edges.specs.declared.fault.Fault.TheVariants.{Device, Memory}
use Rattle.command_openings.specs.Opens.{Opens}
use Rattle.command_openings.specs.Openings.{IsOpeningOn, new_opening}
use Rattle.command_openings.proofs.OneOpening.{one_opening}
use Rattle.dude_program.specs.Opening.{IsReachable, KnowsReplies, RequestsAre, ends_opened, makes_image, only_reads, runs_requests, runs_threads}
use Rattle.dude_program.specs.Headline.{FailedOnThreads, Replies}
use Rattle.dude_program.specs.Causes.{EndedWell, FailsOnlyAtDevice, MustRefuse, OpensOnce}
use Rattle.back_store.specs.Operations.{MakesOperations, OperatesLog.rests}
use Rattle.run_threads.specs.Ends.{EndsWhole}
use Rattle.dude_program.specs.Work.{RanOver}
use Rattle.dude_program.proofs.FilesRead.{FilesRead}
use Rattle.dude_program.proofs.Works.{numbers_of}
use Rattle.dude_program.proofs.Contents.{fits_not_refused, makes_none}
use Rattle.dude_program.proofs.Crashes.{opens_prefix, crash_prefix, crash_run, end_opened, end_run, reachable, sync_none, sync_run}
use Rattle.dude_program.proofs.Endings.{Came, CameBy, Finished, StartsAt}
use Rattle.dude_program.proofs.Stops.{IsMaker, IsOpener}

-- The image of the command is opened at this opening.
pub record ImageOpens (meaning : Meaning) (opening : Opening) (words : List ℕ) (s m : Sight) : Type 0 where
  pub at : StartsAt meaning opening s
  pub is_open : Opens (makes_image meaning) opening words s m

pub opened_new : {meaning : Meaning} {sizes : Sizes} {words : List ℕ} {s m : Sight} → IsMaker meaning sizes s → FitsImage sizes s.len → Opens true (new_opening sizes) words s m
    → ImageOpens meaning (new_opening sizes) words s m
opened_new {meaning} {sizes} {words} {s} {m} maker fits is_open = record {
  at = record {
    writes = maker.writes;
    starts = maker.starts;
    lawful = is_open.lawful;
    only = λ visible other starts. maker.only other starts;
    on = λ opens. absurd (let e = maker.makes in let no : ⊥ = cc in no);
    fits = λ why refuses. fits_not_refused meaning sizes s.len why maker.sized fits refuses;
  };
  is_open = subst (λ (b : Bool). Opens b (new_opening sizes) words s m) (sym maker.makes) is_open;
}

pub opened_old : {meaning : Meaning} {opening : Opening} {words : List ℕ} {s m : Sight} → IsOpener meaning s → only_reads meaning ≡ false → IsOpeningOn s opening → Opens false opening words s m → ImageOpens meaning opening words s m
opened_old {meaning} {opening} {words} {s} {m} opener writes on is_open = record {
  at = record {
    writes = writes;
    starts = opener.starts opening on;
    lawful = is_open.lawful;
    only = λ visible other starts. one_opening s other opening visible (opener.on other starts) on;
    on = λ opens. on;
    fits = λ why refuses. makes_none meaning s.len why opener.sized refuses;
  };
  is_open = subst (λ (b : Bool). Opens b opening words s m) (sym opener.opens) is_open;
}

-- what is known of the replies stays so while no call changes whether the medium is visible
known_behind : (meaning : Meaning) (opening : Opening) (s m : Sight) → m.is_visible ≡ s.is_visible → KnowsReplies meaning opening s → KnowsReplies meaning opening m
known_behind (RunFiles (Some frames) locks files) opening s m same (inl seen) = inl (same ∙ seen)
known_behind (RunFiles (Some frames) locks files) opening s m same (inr all) = inr all
known_behind (StreamFiles (Some frames) locks files) opening s m same (inl seen) = inl (same ∙ seen)
known_behind (StreamFiles (Some frames) locks files) opening s m same (inr all) = inr all
known_behind meaning opening s m same known = tt

-- a command that carries requests out makes calls behind its opening
runs_on : (meaning : Meaning) → runs_requests meaning ≡ true → ends_opened meaning ≡ false
runs_on (FreshRun subscribers file) runs = refl
runs_on (FormatImage x s c n k) runs = cc runs
runs_on (RunFiles frames locks files) runs = refl
runs_on (StreamFiles frames locks files) runs = refl
runs_on RecoverImage runs = cc runs
runs_on DumpTables runs = cc runs
runs_on (LocateRange low high limit) runs = cc runs
runs_on (DriveLoad seed count number) runs = refl
runs_on (AuditRun printed files) runs = cc runs
runs_on (ShipFiles files) runs = refl
runs_on (FollowFiles files) runs = cc runs

-- no request, no reply
collects_none : Collects [] [] []
collects_none = record { same = IsPermutation-refl []; held = ([], tt, refl) }

answered_none : (opening : Opening) → RepliesOfOneThread opening.number opening.sizes.calls opening.database [] []
answered_none opening = (law opening.number opening.sizes.calls opening.database [] [] [] (performs_start opening.number opening.sizes.calls opening.database) collects_none).0

pub replies_none : (meaning : Meaning) (f : FilesSight) (s : Sight) (opening : Opening) → RequestsAre meaning f opening [] → Replies meaning f s opening []
replies_none meaning f s opening are = record {
  requests = [];
  read = are;
  numbers = numbers_of opening.number opening.sizes.calls opening.database [] [] (answered_none opening);
  answered = λ known. answered_none opening;
  syncs_from = All-nil (λ d. IsTrue (is_sync d.request) → opening.number ≤ d.number);
}

module _ {meaning : Meaning} {f g : FilesSight} {opening : Opening} {words : List ℕ} {s m : Sight} (files : FilesRead meaning f g) (opened_image : ImageOpens meaning opening words s m) where
  opened_well : {fault : Option Fault} → (fault ≡ Some Device → ⊥) → FailsOnlyAtDevice fault s m
  opened_well other = (true, opened_image.is_open.ran, (λ failed. absurd (let no : ⊥ = cc in no), λ is. absurd (other is)))

  pub opens_once : {fault : Option Fault} {t : Sight} → MatchBool (ends_opened meaning) (t ≡ m) (FailsOnlyAtDevice fault m t)
      → (EndedWell fault → MakesOperations (idle opening.sizes opening.number) m t) → OpensOnce meaning fault s t
  opens_once behind operates = record {
    opening = opening;
    starts = opened_image.at.starts;
    words = words;
    opened = m;
    calls = opened_image.is_open.calls;
    behind = behind;
    operates = operates;
  }

  none_behind : (b : Bool) {fault : Option Fault} → (fault ≡ Some Device → ⊥) → MatchBool b (m ≡ m) (FailsOnlyAtDevice fault m m)
  none_behind true other = refl
  none_behind false other = (true, ran_here m, (λ failed. absurd (let no : ⊥ = cc in no), λ is. absurd (other is)))

  -- nothing is done, for this fault or none
  came_none : (last : ℕ) (fault : Option Fault) → (fault ≡ Some Device → ⊥) → CameBy meaning f opening [] last s m fault → Came meaning f g opening [] last fault s m
  came_none last fault other by = record {
    files = files;
    at = opened_image.at;
    replies = inl refl;
    crash = crash_prefix meaning opening s m (opens_prefix (makes_image meaning) opening words s m opened_image.is_open);
    sync = sync_none s m;
    ran = opened_well other;
    once = opens_once (none_behind (ends_opened meaning) other) (λ well. (idle opening.sizes opening.number, ([], rests, none)));
    nothing = λ opens why refuses. refl;
    cause = by;
  }

  -- a command without requests
  pub came_idle : RequestsAre meaning f opening [] → (makes_image meaning ≡ false → (why : Fault) → MustRefuse meaning f opening why → ⊥) → Came meaning f g opening [] opening.number None s m
  unfolding replies_none
  came_idle are passes = came_none opening.number None (λ e. let no : ⊥ = cc in no) (record {
    passes = passes;
    replies = replies_none meaning f s opening are;
    all = refl;
    none_over = All-nil (λ d. d.number ≤ opening.number);
    from = omega arith;
    reachable = reachable meaning opening [] opening.number (omega arith);
    end = λ visible. end_opened (makes_image meaning) opening words s m opened_image.is_open visible;
  })

  -- a command whose opened image is refused, or for whose requests there was no memory
  pub came_refused : (last : ℕ) (why : Fault) → (◌≡◌ {A = Option Fault} (Some why) (Some Device) → ⊥) → CameBy meaning f opening [] last s m (Some why) → Came meaning f g opening [] last (Some why) s m
  came_refused last why other by = came_none last (Some why) other by

  pub ran_behind : {fault : Option Fault} {t : Sight} → FailsOnlyAtDevice fault m t → FailsOnlyAtDevice fault s t
  ran_behind ran = (ran.0, ran_then opened_image.is_open.ran ran.1, ran.2)

  -- what is known of the replies from the start is known behind the opening
  known_at : KnowsReplies meaning opening s → KnowsReplies meaning opening m
  known_at known = known_behind meaning opening s m (made_later opened_image.is_open.ran.1).is_visible known

  -- a command whose requests were run
  module _ {threads : Bool} {Knows : Type 0} {Reaches : List Done → ℕ → Type 0} {requests : List (List Request)} {done : List Done} {last : ℕ} {t : Sight} (where_run : runs_threads meaning ≡ threads)
      (knows : KnowsReplies meaning opening m → Knows) (reaches : (order : List Done) (n : ℕ) → Reaches order n → IsReachable meaning opening order n) (runs : runs_requests meaning ≡ true) (are : RequestsAre meaning f opening requests)
      (passes : makes_image meaning ≡ false → (why : Fault) → MustRefuse meaning f opening why → ⊥) where
    abbrev replies_run : {fault : Option Fault} → RanOver threads Knows Reaches opening words requests done last fault m t → Replies meaning f s opening done
    replies_run run = record { requests = requests; read = are; numbers = run.numbers; answered = λ known. run.replies (knows (known_at known)); syncs_from = run.syncs_from }

    -- how few numbers are lost
    lost_of : {fault : Option Fault} → RanOver threads Knows Reaches opening words requests done last fault m t
        → FailedOnThreads meaning s t ⊎ ((ok : Bool) × SomeCalls ok m t × LosesFew (most_lost_by ok) opening words done m t)
    lost_of run = elim run.few_lost [
      | inl failed ↦ inl (
        where_run ∙ failed.0,
        ran_then opened_image.is_open.ran (subst (λ (b : Bool). SomeCalls b m t) (run.ran.2.1 failed.1) run.ran.1),
      )
      | inr few ↦ inr few
    ]

    came_by : (fault : Option Fault) → (EndedWell fault → fault ≡ None) → RanOver threads Knows Reaches opening words requests done last fault m t → CameBy meaning f opening done last s t fault → Came meaning f g opening done last fault s t
    came_by fault well run by = record {
      files = files;
      at = opened_image.at;
      replies = inr (replies_run run);
      crash = crash_run Reaches meaning opening words requests done s m t runs opened_image.is_open reaches run.numbers run.moments run.ran (lost_of run);
      sync = sync_run (makes_image meaning) opening words done s m t opened_image.is_open run.syncs_follow run.syncs_told;
      ran = ran_behind run.ran;
      once = opens_once (subst (λ (b : Bool). MatchBool b (t ≡ m) (FailsOnlyAtDevice fault m t)) (sym (runs_on meaning runs)) run.ran) (λ ended. run.operates (well ended));
      nothing = λ opens why refuses. absurd (passes opens why refuses);
      cause = by;
    }

    finished : RanOver threads Knows Reaches opening words requests done last None m t → Finished meaning f opening done last s t
    finished run =
        let whole : EndsWhole Reaches opening words requests done last m t = run.whole refl in
        record {
          passes = passes;
          replies = replies_run run;
          all = whole.all;
          none_over = whole.none_over;
          from = whole.from;
          reachable = reaches done last whole.reaches;
          end = λ visible. end_run (makes_image meaning) opening words done last s m t opened_image.is_open visible
              (whole.end _ opened_image.is_open.holds (subst (λ b. IsTrue b) (sym (made_later opened_image.is_open.ran.1).is_visible) visible));
        }

    pub came_ran : (fault : Option Fault) → RanOver threads Knows Reaches opening words requests done last fault m t → Came meaning f g opening done last fault s t
    came_ran fault run = by run.only
      where
        P : Option Fault → Type 0
        P o = RanOver threads Knows Reaches opening words requests done last o m t

        Q : Option Fault → Type 0
        Q o = Came meaning f g opening done last o s t

        by : (fault ≡ None) ⊎ (fault ≡ Some Device) ⊎ (fault ≡ Some Memory) → Came meaning f g opening done last fault s t
        by (inl e) = subst Q (sym e) (came_by None (λ ended. refl) (subst P e run) (finished (subst P e run)))
        by (inr (inl e)) = subst Q (sym e) (came_by (Some Device) (λ ended. absurd ended) (subst P e run)
            (risen_later s.faults m.faults t.faults t.faults (made_later opened_image.is_open.ran.1).faults (run.cause e) (omega arith)))
        by (inr (inr e)) = subst Q (sym e) (came_by (Some Memory) (λ ended. absurd ended) (subst P e run) tt)
