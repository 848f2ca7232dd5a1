-- What every image recovers to along a command, from its opening and its run.
use Rattle.std.proofs.Common.{◌≡◌, ◌⊎◌, ℕ, ◌<◌, ◌≤◌, Bool, true, false, cond, not, ◌&&◌, IsTrue, List, [], ◌∷◌, ◌++◌, length, drop, map, refl, sym, ◌∙◌, ap, subst, arith, inl, inr, append_assoc, get_or, Option}
use Rattle.std.specs.Prelude.{nat_le}
use Rattle.std.specs.List.{All, filter}
use Rattle.std.proofs.lemmas.Bool.{lt-leb}
use Rattle.std.proofs.lemmas.List.{length-append}
use Rattle.std.proofs.lemmas.List.Elements.{All-nil, All-cons, All-head, All-tail, All-filter}
use Rattle.std.proofs.lemmas.List.Sorted.{All-permutation, IsPermutation-refl}
use Rattle.std.proofs.Math.Seq.{drop-append_seam, drop-length}
use Rattle.pmem_trait.specs.Words.{EveryImage}
use Rattle.pmem_trait.specs.Sights.{Sight, state_now, AtEveryMoment, SomeCalls}
use Rattle.pmem_trait.proofs.Laws.{every_moment_then, every_moment_weaker}
use Rattle.pmem_trait.proofs.Told.{calls_told}
use Rattle.pmem_trait.proofs.Runs.{made_later, ran_then}
use Rattle.tatp_model.specs.declared.done.Done.{Done}
use Rattle.tatp_model.specs.declared.request.Request.{Request}
use Rattle.tatp_model.specs.Database.{Database}
use Rattle.tatp_model.specs.OneThread.{IsPrintedOrder, after_number, after_requests, is_sync}
use Rattle.run_order.specs.Runs.{SyncsFollow}
use Rattle.run_order.specs.Printed.{NumbersOfOneThread}
use Rattle.run_threads.specs.Answers.{AreSyncsDurable}
use Rattle.image_recovery.specs.Recovered.{RecoversTo}
use Rattle.command_edges.specs.Command.{Meaning, Meaning.FreshRun, Meaning.FormatImage, Meaning.RunFiles, Meaning.StreamFiles, Meaning.RecoverImage, Meaning.DumpTables, Meaning.LocateRange, Meaning.DriveLoad, Meaning.AuditRun, Meaning.ShipFiles, Meaning.FollowFiles}
use Rattle.dude_engine.specs.Endings.{End, LosesAtMost, WasToldLast}
use Rattle.dude_engine.specs.Opening.{Opening, RecoversAmong, last_of}
use Rattle.dude_engine.specs.Plain.{LosesFew, RecoversAlongRun, most_lost_by}
use Rattle.dude_engine.proofs.Numbering.{greatest_from}
use Rattle.command_edges.specs.declared.fault.Fault.{Fault}
use Rattle.command_openings.specs.Opens.{Opens, OpensPartly, ShowsOpening, TellsAtMost}
use Rattle.dude_program.specs.Opening.{IsReachable, makes_image, runs_requests}
use Rattle.dude_program.specs.Headline.{Crash, FailedOnThreads, RecoversSince, Sync, WasToldFirst}
use Rattle.dude_program.specs.Causes.{FailsOnlyAtDevice, IsLeftOpened}

-- ---- numbers

-- a command may come to each number up to the last one done
pub reachable : (meaning : Meaning) (opening : Opening) (done : List Done) (n : ℕ) → n ≤ last_of opening.number done → IsReachable meaning opening done n
reachable (FreshRun s file) opening done n upto = upto
reachable (FormatImage x s c r k) opening done n upto = upto
reachable (RunFiles frames locks files) opening done n upto = tt
reachable (StreamFiles frames locks files) opening done n upto = tt
reachable RecoverImage opening done n upto = upto
reachable DumpTables opening done n upto = upto
reachable (LocateRange low high limit) opening done n upto = upto
reachable (DriveLoad seed count files) opening done n upto = tt
reachable (AuditRun printed files) opening done n upto = upto
reachable (ShipFiles files) opening done n upto = upto
reachable (FollowFiles files) opening done n upto = tt

-- ---- the database at the opening number

each_wrote : (P : Done → Type 0) (done : List Done) → All P (filter (λ d. d.wrote) done) → All (λ d. d.wrote ≡ true → P d) done
each_wrote P [] over = All-nil (λ d. d.wrote ≡ true → P d)
each_wrote P (d ∷ done) over = by (each_wrote P done) d.wrote refl over
  where
    by : (All P (filter (λ e. e.wrote) done) → All (λ e. e.wrote ≡ true → P e) done) → (b : Bool) → d.wrote ≡ b → All P (cond b (d ∷ filter (λ e. e.wrote) done) (filter (λ e. e.wrote) done)) → All (λ e. e.wrote ≡ true → P e) (d ∷ done)
    by rest true is all = All-cons (λ e. e.wrote ≡ true → P e) d done (λ yes. All-head P d (filter (λ e. e.wrote) done) all)
        (rest (All-tail P d (filter (λ e. e.wrote) done) all))
    by rest false is all = All-cons (λ e. e.wrote ≡ true → P e) d done (λ yes. absurd (let no : ⊥ = cc in no)) (rest all)

skip_request : (limit n : ℕ) (db : Database) (d : Done) (order : List Done) → (d.wrote && nat_le d.number n) ≡ false → after_number limit db order n ≡ db → after_number limit db (d ∷ order) n ≡ db
skip_request limit n db d order uncounted h =
    ap (λ (b : Bool). after_requests limit db (map (λ e. e.request) (cond b (d ∷ rest) rest))) uncounted ∙ h
  where
    rest : List Done
    rest = filter (λ e. e.wrote && nat_le e.number n) order

uncounted : (n : ℕ) (d : Done) → (d.wrote ≡ true → n < d.number) → (d.wrote && nat_le d.number n) ≡ false
uncounted n d over = by d.wrote refl
  where
    by : (b : Bool) → d.wrote ≡ b → (d.wrote && nat_le d.number n) ≡ false
    by true is = ap (λ (b : Bool). b && nat_le d.number n) is ∙ lt-leb d.number n (over is)
    by false is = ap (λ (b : Bool). b && nat_le d.number n) is

none_up_to : (limit n : ℕ) (db : Database) (order : List Done) → All (λ d. d.wrote ≡ true → n < d.number) order → after_number limit db order n ≡ db
none_up_to limit n db [] over = refl
none_up_to limit n db (d ∷ order) over =
    skip_request limit n db d order (uncounted n d (All-head (λ e. e.wrote ≡ true → n < e.number) d order over))
    (none_up_to limit n db order (All-tail (λ e. e.wrote ≡ true → n < e.number) d order over))

pub none_at_opening : (limit n : ℕ) (db : Database) (done order : List Done) → IsPrintedOrder done order → All (λ d. n < d.number) (filter (λ d. d.wrote) done) → after_number limit db order n ≡ db
none_at_opening limit n db done order printed over =
    let P : Done → Type 0 = λ d. d.wrote ≡ true → n < d.number in
    let kept : List Done = filter (λ d. not (is_sync d.request)) done in
    none_up_to limit n db order (All-permutation P kept order printed.same (All-filter (λ d. not (is_sync d.request)) P done (each_wrote (λ d. n < d.number) done over)))

-- ---- images

shows_since : (meaning : Meaning) (before : ℕ) (opening : Opening) (order : List Done) (told image : List ℕ) → after_number opening.sizes.calls opening.database order opening.number ≡ opening.database
    → ShowsOpening (makes_image meaning) before opening told image → RecoversSince meaning before opening order told image
shows_since meaning before opening order told image same (inl none) = inl none
shows_since meaning before opening order told image same (inr shown) =
    inr (
      opening.number,
      omega arith,
      shown.0,
      reachable meaning opening order opening.number (greatest_from opening.number order),
      subst (λ (db : Database). RecoversTo image opening.number opening.sizes db) (sym same) shown.1,
    )

from_since : (Reaches : ℕ → Type 0) (meaning : Meaning) (before : ℕ) (opening : Opening) (order : List Done) (told image : List ℕ) → ((n : ℕ) → Reaches n → IsReachable meaning opening order n) → RecoversAmong Reaches before opening order told image
    → RecoversSince meaning before opening order told image
from_since Reaches meaning before opening order told image reaches r = inr (r.0, r.1, r.2, reaches r.0 r.3, r.4)

pub printed_none : IsPrintedOrder [] []
printed_none = record { same = IsPermutation-refl []; sorted = λ i j d before below. absurd (omega (arith, below)) }

-- the opening number was told first
told_first : (opening : Opening) (s t : Sight) → TellsAtMost opening.number s t → WasToldFirst opening.number s t
told_first opening s t (inl same) = inl (ap (drop (length (state_now s).told)) same ∙ drop-length (state_now s).told)
told_first opening s t (inr is) = inr ([], ap (drop (length (state_now s).told)) is ∙ drop-append_seam (state_now s).told (opening.number ∷ []))

-- where nothing is done
pub crash_prefix : (meaning : Meaning) (opening : Opening) (s t : Sight) → OpensPartly (makes_image meaning) opening s t → Crash meaning opening [] s t
crash_prefix meaning opening s t prefix = record {
  order = [];
  printed = printed_none;
  keeps = every_moment_weaker (λ told image size shown. shows_since meaning (length (state_now s).told) opening [] told image refl shown) prefix.moments;
  first_told = λ visible. told_first opening s t (prefix.told visible);
  told_alone = λ alone visible. prefix.told visible;
  few_lost = inl refl;
}

pub opens_prefix : (makes : Bool) (opening : Opening) (words : List ℕ) (s t : Sight) → Opens makes opening words s t → OpensPartly makes opening s t
opens_prefix makes opening words s t is_open = record { moments = is_open.moments; told = λ visible. inr (is_open.told visible) }

-- where requests were run
pub crash_run : (Reaches : List Done → ℕ → Type 0) (meaning : Meaning) (opening : Opening) (words : List ℕ) (requests : List (List Request)) (done : List Done) (s m t : Sight) → runs_requests meaning ≡ true → Opens (makes_image meaning) opening words s m
    → ((order : List Done) (n : ℕ) → Reaches order n → IsReachable meaning opening order n)
    → NumbersOfOneThread opening.number requests done → RecoversAlongRun Reaches opening words done m t → {fault : Option Fault} → FailsOnlyAtDevice fault m t
    → FailedOnThreads meaning s t ⊎ ((ok : Bool) × SomeCalls ok m t × LosesFew (most_lost_by ok) opening words done m t) → Crash meaning opening done s t
crash_run Reaches meaning opening words requests done s m t runs is_open reaches numbers moments ran lost =
    let run = moments (length (state_now s).told) is_open.holds in
    let start = none_at_opening opening.sizes.calls opening.number opening.database done run.0 run.1 numbers.over in
    record {
      order = run.0;
      printed = run.1;
      keeps = every_moment_then (every_moment_weaker (λ told image size shown. shows_since meaning (length (state_now s).told) opening run.0 told image start shown) is_open.moments)
          (every_moment_weaker (λ told image size shown. from_since (Reaches run.0) meaning (length (state_now s).told) opening run.0 told image (reaches run.0) shown) run.2);
      first_told = λ visible.
          let more = calls_told ran.1.1 (subst (λ b. IsTrue b) (sym (made_later is_open.ran.1).is_visible) visible) in
          inr (
            more.more,
            ap (drop (length (state_now s).told)) (more.is ∙ (ap (λ (l : List ℕ). l ++ more.more) (is_open.told visible) ∙ append_assoc (state_now s).told (opening.number ∷ []) more.more))
                ∙ drop-append_seam (state_now s).told (opening.number ∷ more.more),
          );
      told_alone = λ alone visible. absurd (let no : ⊥ = cc in no);
      few_lost = elim lost [
        | inl failed ↦ inr (inl failed)
        | inr few ↦ inr (inr (λ visible. (
          few.0,
          ran_then is_open.ran few.1,
          few.2 (length (state_now s).told) is_open.holds (subst (λ b. IsTrue b) (sym (made_later is_open.ran.1).is_visible) visible),
        )))
      ];
    }

-- it is said of each opening, since a visible medium has one
pub crash_each : (meaning : Meaning) (opening other : Opening) (done : List Done) (s t : Sight) → (IsTrue s.is_visible → other ≡ opening) → Crash meaning opening done s t → Crash meaning other done s t
crash_each meaning opening other done s t same crash =
    let P : Opening → Type 0 = λ o. AtEveryMoment (RecoversSince meaning (length (state_now s).told) o crash.order) s t in
    let Q : Opening → Type 0 = λ o. WasToldFirst o.number s t in
    let R : Opening → Type 0 = λ o. TellsAtMost o.number s t in
    record {
      order = crash.order;
      printed = crash.printed;
      keeps = record { later = crash.keeps.later; each = λ visible. (subst P (sym (same visible)) crash.keeps).each visible };
      first_told = λ visible. subst Q (sym (same visible)) (crash.first_told visible);
      told_alone = λ alone visible. subst R (sym (same visible)) (crash.told_alone alone visible);
      few_lost = elim crash.few_lost [
        | inl none ↦ inl none
        | inr (inl failed) ↦ inr (inl failed)
        | inr (inr few) ↦ inr (inr (λ visible. let lost = few visible in (lost.0, lost.1, subst (λ (o : Opening). LosesAtMost (most_lost_by lost.0) o done t) (sym (same visible)) lost.2)))
      ];
    }

-- ---- what is told

pub sync_none : (s t : Sight) → Sync [] s t
sync_none s t = record {
  over_earlier = λ i j d before below. absurd (omega (arith, below));
  told = λ visible. All-nil (λ d. IsTrue (is_sync d.request) → (n : ℕ) × WasToldLast n s t × (d.number ≤ n));
}

told_later : (n : ℕ) (s m t : Sight) → length (state_now s).told ≤ length (state_now m).told → WasToldLast n m t → WasToldLast n s t
told_later n s m t long told = (told.0, told.1, omega (arith, long, told.2))

told_longer : (opening : Opening) (s m : Sight) → (state_now m).told ≡ (state_now s).told ++ opening.number ∷ [] → length (state_now s).told ≤ length (state_now m).told
told_longer opening s m is = let long = ap length is ∙ length-append (state_now s).told (opening.number ∷ []) in omega (arith, long)

-- a number that is durable behind the opening is at most the last one told
durable_told : (opening : Opening) (s m t : Sight) (n : ℕ) → (state_now m).told ≡ (state_now s).told ++ opening.number ∷ []
    → ((n ≡ opening.number) × ((state_now t).told ≡ (state_now m).told)) ⊎ ((last : ℕ) × WasToldLast last m t × (n ≤ last))
    → (last : ℕ) × WasToldLast last s t × (n ≤ last)
durable_told opening s m t n told (inl none) = (opening.number, ((state_now s).told, none.1 ∙ told, omega arith), let is = none.0 in omega arith)
durable_told opening s m t n told (inr some) = (some.0, told_later some.0 s m t (told_longer opening s m told) some.1, some.2)

pub sync_run : (makes : Bool) (opening : Opening) (words : List ℕ) (done : List Done) (s m t : Sight) → Opens makes opening words s m → SyncsFollow done
    → (IsTrue m.is_visible → AreSyncsDurable opening.number done m t) → Sync done s t
sync_run makes opening words done s m t is_open follow told = record {
  over_earlier = follow;
  told = λ visible k d below sync.
      durable_told opening s m t (get_or done k d).number (is_open.told visible)
      (told (subst (λ b. IsTrue b) (sym (made_later is_open.ran.1).is_visible) visible) k d below sync);
}

pub end_run : (makes : Bool) (opening : Opening) (words : List ℕ) (done : List Done) (last : ℕ) (s m t : Sight) → Opens makes opening words s m → IsTrue s.is_visible → End opening done last m t → End opening done last s t
end_run makes opening words done last s m t is_open visible end = record {
  told = told_later last s m t (told_longer opening s m (is_open.told visible)) end.told;
  order = end.order;
  printed = end.printed;
  images = end.images;
}

-- every image recovers to the opening
images_opened : (makes : Bool) (opening : Opening) (words : List ℕ) (s t : Sight) → Opens makes opening words s t → IsTrue s.is_visible
    → EveryImage t.len (λ told image. RecoversTo image opening.number opening.sizes opening.database) (state_now t)
images_opened makes opening words s t is_open visible =
    let P : ℕ → Type 0 = λ len. EveryImage len (λ told image. RecoversTo image opening.number opening.sizes opening.database) (state_now t) in
    subst P (sym is_open.moments.later.len) (record {
      each = λ image is. shown image ((is_open.moments.each visible t.now is_open.moments.later.now (omega arith)).each image is);
    })
  where
    shown : (image : List ℕ) → ShowsOpening makes (length (state_now s).told) opening (state_now t).told image → RecoversTo image opening.number opening.sizes opening.database
    shown image (inl none) =
        let more : drop (length (state_now s).told) (state_now t).told ≡ opening.number ∷ [] = ap (drop (length (state_now s).told)) (is_open.told visible) ∙ drop-append_seam (state_now s).told (opening.number ∷ []) in
        let e = none.1 in
        absurd (let no : ⊥ = cc in no)
    shown image (inr is) = is.1

-- the opening number was told last, and every image recovers to it
pub end_opened : (makes : Bool) (opening : Opening) (words : List ℕ) (s t : Sight) → Opens makes opening words s t → IsTrue s.is_visible → End opening [] opening.number s t
end_opened makes opening words s t is_open visible = record {
  told = ((state_now s).told, is_open.told visible, omega arith);
  order = [];
  printed = printed_none;
  images = images_opened makes opening words s t is_open visible;
}

-- so an image that is refused behind its opening is left opened
pub left_opened : (opening : Opening) (words : List ℕ) (s t : Sight) → Opens false opening words s t → IsLeftOpened opening s t
left_opened opening words s t is_open = record {
  words = words;
  calls = is_open.calls;
  told = λ visible. is_open.told visible;
  images = λ visible. images_opened false opening words s t is_open visible;
}
