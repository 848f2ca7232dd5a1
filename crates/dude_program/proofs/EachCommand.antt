-- How each command ends, from what its calls leave.
use Rattle.std.proofs.Common.{◌≡◌, ◌⊎◌, Bool, false, ℕ, ◌+◌, ◌*◌, ◌≤◌, List, [], length, refl, sym, ◌∙◌, ap, subst, inl, inr, ⊎_elim, ◌<◌, arith, Option, Some, None}
use Rattle.std.specs.Prelude.{IfSome, min, unwrap_or}
use Rattle.std.proofs.lemmas.Bool.{cases_lt}
use Rattle.dude_base.specs.declared.limits.TheConstants.{DEFAULT_LOCKS, MAX_LOCKS, MAX_NUMBER, MIN_FRAMES}
use Rattle.dude_base.specs.declared.run.Run.{Run}
use Rattle.dude_base.specs.declared.sizes.Sizes.{Sizes}
use Rattle.dude_base.specs.Sizes.{IsFrom}
use Rattle.pmem_trait.specs.declared.medium.Medium.{Ghosts}
use Rattle.pmem_trait.specs.Sights.{Sight, state_now}
use Rattle.tatp_model.specs.declared.done.Done.{Done}
use Rattle.tatp_model.specs.declared.request.Request.{Request}
use Rattle.dude_io.specs.Files.{FilesSight}
use Rattle.dude_io.specs.Sink.{SinkSight}
use Rattle.tatp_text.specs.Output.{output_of, last_line}
use Rattle.back_store.specs.BackView.{sight_of}
use Rattle.dude_recover.specs.declared.opened.Opened.{Opened}
use Rattle.dude_recover.specs.Opened.{IsOpened}
use Rattle.command_edges.specs.Command.{IsBetween, Meaning, Meaning.FreshRun, Meaning.FormatImage, Meaning.RunFiles, Meaning.StreamFiles, Meaning.RecoverImage, Meaning.DumpTables, Meaning.LocateRange, Meaning.DriveLoad, Meaning.AuditRun, Meaning.ShipFiles, Meaning.FollowFiles}
use Rattle.dude_engine.specs.Opening.{Opening}
use Rattle.dude_engine.specs.Plain.{IsOpeningOf}
use Rattle.dude_engine.specs.Requests.{request_count}
use Rattle.command_edges.specs.declared.fault.Fault.{Fault}
use Rattle.command_edges.specs.declared.fault.Fault.TheVariants.{ManyFiles, Frames, FewSubscribers, Numbers, Device, Memory, Audit}
use Rattle.run_threads.specs.Answers.{KnowsReads}
use Rattle.run_threads.specs.Ends.{IsAsOpened}
use Rattle.command_openings.specs.Opens.{Opens}
use Rattle.command_openings.specs.Openings.{new_opening}
use Rattle.command_openings.proofs.OneOpening.{opening_with}
use Rattle.dude_program.specs.Opening.{KnowsReadsOver, format_sizes, fresh_sizes, load_of, makes_image}
use Rattle.dude_program.specs.Causes.{IsLeftOpened, MustRefuse, RefusesAudit, RefusesOpening, WantsFrames}
use Rattle.dude_program.specs.Work.{AllowsFrames, HasFewNumbers, HasFrames, PrintsText, RefusesLoad, RefusesRun}
use Rattle.dude_program.proofs.Refusals.{passes_if}
use Rattle.dude_program.proofs.Endings.{CameBy}
use Rattle.dude_program.proofs.Stops.{IsMaker, IsOpener}
use Rattle.dude_program.proofs.Works.{as_opened}

-- ---- which commands make an image, and which open one

pub fresh_makes : (subscribers : ℕ) (file : List ℕ) (sizes : Sizes) (s : Sight) → sizes ≡ fresh_sizes subscribers → IsMaker (FreshRun subscribers file) sizes s
fresh_makes subscribers file sizes s is = record {
  makes = refl;
  writes = refl;
  sized = ap Some (sym is);
  starts = ap new_opening is;
  only = λ opening starts. starts ∙ ap new_opening (sym is);
}

pub format_makes : (indexed : Bool) (subscribers calls rings cells : ℕ) (sizes : Sizes) (s : Sight) → sizes ≡ format_sizes indexed subscribers calls rings cells → IsMaker (FormatImage indexed subscribers calls rings cells) sizes s
format_makes indexed subscribers calls rings cells sizes s is = record {
  makes = refl;
  writes = refl;
  sized = ap Some (sym is);
  starts = ap new_opening is;
  only = λ opening starts. starts ∙ ap new_opening (sym is);
}

pub run_opens : (frames locks : Option ℕ) (files : List (List ℕ)) (s : Sight) → IsOpener (RunFiles frames locks files) s
run_opens frames locks files s = record { opens = refl; sized = refl; on = λ opening starts. starts; starts = λ opening on. on }

pub stream_opens : (frames locks : Option ℕ) (files : List (List ℕ)) (s : Sight) → IsOpener (StreamFiles frames locks files) s
stream_opens frames locks files s = record { opens = refl; sized = refl; on = λ opening starts. starts; starts = λ opening on. on }

pub recover_opens : (s : Sight) → IsOpener RecoverImage s
recover_opens s = record { opens = refl; sized = refl; on = λ opening starts. starts; starts = λ opening on. on }

pub dump_opens : (s : Sight) → IsOpener DumpTables s
dump_opens s = record { opens = refl; sized = refl; on = λ opening starts. starts; starts = λ opening on. on }

pub locate_opens : (low high limit : ℕ) (s : Sight) → IsOpener (LocateRange low high limit) s
locate_opens low high limit s = record { opens = refl; sized = refl; on = λ opening starts. starts; starts = λ opening on. on }

pub drive_opens : (seed count files : ℕ) (s : Sight) → IsOpener (DriveLoad seed count files) s
drive_opens seed count files s = record { opens = refl; sized = refl; on = λ opening starts. starts; starts = λ opening on. on }

pub audit_opens : (printed : List ℕ) (files : List (List ℕ)) (s : Sight) → IsOpener (AuditRun printed files) s
audit_opens printed files s = record { opens = refl; sized = refl; on = λ opening starts. starts; starts = λ opening on. on }

pub ship_opens : (files : List (List ℕ)) (s : Sight) → IsOpener (ShipFiles files) s
ship_opens files s = record { opens = refl; sized = refl; on = λ opening starts. starts; starts = λ opening on. on }

pub follow_opens : (files : List (List ℕ)) (s : Sight) → IsOpener (FollowFiles files) s
follow_opens files s = record { opens = refl; sized = refl; on = λ opening starts. starts; starts = λ opening on. on }

-- the opening of an opened image
abbrev pub opening_of : {M : Type 0} {ghosts : Ghosts M} (o : Opened M ghosts) → IsOpened o → Opening
opening_of o opened = opening_with o.number o.sizes opened.lawful.0

pub is_opening_of : {M : Type 0} {ghosts : Ghosts M} (o : Opened M ghosts) (opened : IsOpened o) → IsOpeningOf o (opening_of o opened)
is_opening_of o opened = record { number = refl; sizes = refl; stands = opened.lawful.1 }

-- ---- which images are refused

-- an opened image that refuses a command without an audit
pub refused_by : (meaning : Meaning) (f : FilesSight) (opening : Opening) → makes_image meaning ≡ false → ((line : ℕ) → RefusesAudit meaning f opening line → ⊥) → (last : ℕ) (s t : Sight) → IsLeftOpened opening s t
    → (why : Fault) → RefusesOpening meaning f opening why → CameBy meaning f opening [] last s t (Some why) × (◌≡◌ {A = Option Fault} (Some why) (Some Device) → ⊥)
refused_by meaning f opening opens none last s t left (ManyFiles a b) r = ((opens, refl, r, left), λ e. let no : ⊥ = cc in no)
refused_by meaning f opening opens none last s t left (Frames a b) r = ((opens, refl, r, left), λ e. let no : ⊥ = cc in no)
refused_by meaning f opening opens none last s t left (FewSubscribers a b) r = ((opens, refl, r, left), λ e. let no : ⊥ = cc in no)
refused_by meaning f opening opens none last s t left (Numbers a b) r = ((opens, refl, r, left), λ e. let no : ⊥ = cc in no)
refused_by meaning f opening opens none last s t left (Audit line) r = absurd (none line r)
refused_by meaning f opening opens none last s t left why r = absurd r

pub recover_passes : (f : FilesSight) (opening : Opening) (why : Fault) → MustRefuse RecoverImage f opening why → ⊥
recover_passes f opening why refuses = passes_if RecoverImage f opening (λ line known no. no) (omega arith) (λ w no. no) (λ w no. no) (λ known n no. no.0) why refuses

pub dump_passes : (f : FilesSight) (opening : Opening) (why : Fault) → MustRefuse DumpTables f opening why → ⊥
dump_passes f opening why refuses = passes_if DumpTables f opening (λ line known no. no) (omega arith) (λ w no. no) (λ w no. no) (λ known n no. no.0) why refuses

pub locate_passes : (low high limit : ℕ) (f : FilesSight) (opening : Opening) (why : Fault) → MustRefuse (LocateRange low high limit) f opening why → ⊥
locate_passes low high limit f opening why refuses = passes_if (LocateRange low high limit) f opening (λ line known no. no) (omega arith) (λ w no. no) (λ w no. no) (λ known n no. no.0) why refuses

module _ (seed count files : ℕ) (f : FilesSight) (opening : Opening) (requests : List (List Request)) (is : requests ≡ load_of opening.sizes.subscribers seed count files) where
  pub drive_passes : files ≤ opening.sizes.rings → files ≤ opening.sizes.subscribers → opening.number + 65 * request_count requests ≤ MAX_NUMBER
      → (why : Fault) → MustRefuse (DriveLoad seed count files) f opening why → ⊥
  drive_passes rings enough numbers why refuses =
      passes_if (DriveLoad seed count files) f opening (λ line known no. no) rings (λ w no. no) (λ w few. let low = few.1 in omega (arith, low, enough))
      (λ known n few. let same : n ≡ request_count requests = few.1.2 ∙ ap request_count (few.1.1 ∙ sym is) in let over = few.2 in omega (arith, same, over, numbers)) why refuses

  drive_refuses : (why : Fault) → RefusesLoad files opening.sizes opening.number requests why → (why ≡ Memory) ⊎ RefusesOpening (DriveLoad seed count files) f opening why
  drive_refuses (ManyFiles a b) r = inr (r.0, r.1, r.2, refl)
  drive_refuses (FewSubscribers a b) r = inr (r.0, r.1, (r.2, omega (arith, r.1, r.3)))
  drive_refuses (Numbers a b) r = inr (r.0, (λ w no. no), (λ w few. let low = few.1 in let up = r.1 in omega (arith, low, up)), r.2, (tt, (requests, is, r.3), r.4))
  drive_refuses Memory r = inl refl
  drive_refuses why r = absurd r

  pub drive_came : (last : ℕ) (s t : Sight) → IsLeftOpened opening s t → (why : Fault) → RefusesLoad files opening.sizes opening.number requests why
      → CameBy (DriveLoad seed count files) f opening [] last s t (Some why) × (◌≡◌ {A = Option Fault} (Some why) (Some Device) → ⊥)
  drive_came last s t left why r = elim (drive_refuses why r) [
    | inl e ↦ subst (λ (x : Fault). CameBy (DriveLoad seed count files) f opening [] last s t (Some x) × (◌≡◌ {A = Option Fault} (Some x) (Some Device) → ⊥)) (sym e) (tt, λ same. let no : ⊥ = cc in no)
    | inr refuses ↦ refused_by (DriveLoad seed count files) f opening refl (λ line no. no) last s t left why refuses
  ]

-- ---- what threads share

-- a number that isn't out of its limits is in them
not_out : (least most n : ℕ) → ((IsFrom least most n → ⊥) → ⊥) → IsFrom least most n
not_out least most n within = record {
  low = ⊎_elim (λ (out : n < least). absurd (within (λ is. let low = is.low in omega arith))) (λ (low : least ≤ n). low) (cases_lt n least);
  high = ⊎_elim (λ (out : most < n). absurd (within (λ is. let high = is.high in omega arith))) (λ (high : n ≤ most). high) (cases_lt most n);
}

pub frames_within : (frames : Option ℕ) (pages n : ℕ) → AllowsFrames frames pages → n ≡ unwrap_or frames pages → IsFrom (min MIN_FRAMES pages) pages n
frames_within None pages n allows has = record { low = all_low pages n has; high = omega (arith, has) }
  where
    all_low : (pages n : ℕ) → n ≡ pages → min MIN_FRAMES pages ≤ n
    all_low pages n is = grind arith
frames_within (Some frames) pages n allows has =
    subst (λ (x : ℕ). IsFrom (min MIN_FRAMES pages) pages x) (sym has) (not_out (min MIN_FRAMES pages) pages frames (λ out. allows None [] frames (refl, out)))

pub locks_within : (locks : Option ℕ) (n : ℕ) → IfSome locks (IsBetween 1 MAX_LOCKS) → n ≡ unwrap_or locks DEFAULT_LOCKS → IsFrom 1 MAX_LOCKS n
locks_within None n between has = record { low = omega (arith, has); high = omega (arith, has) }
locks_within (Some locks) n between has = record { low = omega (arith, has, between.0); high = omega (arith, has, between.1) }

-- where a run's replies are known it is known what its threads read
pub run_knows : (frames : Option ℕ) (opening : Opening) (run : Run) (m : Sight) → HasFrames frames opening.sizes.pages run → KnowsReadsOver frames opening m
    → KnowsReads opening.sizes run m
run_knows None opening run m has known = inr has
run_knows (Some frames) opening run m has (inl seen) = inl seen
run_knows (Some frames) opening run m has (inr all) = inr (has ∙ all)

-- an image that was opened is as an opening leaves it
pub held_as_opened : {M : Type 0} {ghosts : Ghosts M} (o : Opened M ghosts) (opened : IsOpened o) (s : Sight) → Opens false (opening_of o opened) o.words.items s (sight_of o.back) → IsAsOpened o
held_as_opened o opened s is_open = as_opened (length (state_now s).told) o.sizes o.number o.words.items (sight_of o.back) is_open.holds

-- ---- what is printed

pub idle_prints : {done : List Done} {last n : ℕ} {earlier : Option Fault} (fault : Option Fault) (k l : SinkSight) → done ≡ [] → last ≡ n → earlier ≡ None → PrintsText (output_of done last) earlier fault k l
    → PrintsText (last_line n) None fault k l
idle_prints {last = last} {n = n} {earlier = earlier} fault k l none is well printed =
    let P : List Done → Type 0 = λ done. PrintsText (output_of done last) earlier fault k l in
    let Q : ℕ → Type 0 = λ last. PrintsText (last_line last) earlier fault k l in
    let R : Option Fault → Type 0 = λ earlier. PrintsText (last_line n) earlier fault k l in
    subst R well (subst Q is (subst P none printed))

-- ---- the checks of a run

pub refuses_frames : (meaning : Meaning) (files : ℕ) (sizes : Sizes) (number : ℕ) (requests : List (List Request)) (fault : Fault) → files ≤ sizes.rings
    → (wanted : ℕ) × (fault ≡ Frames wanted sizes.pages) × WantsFrames meaning wanted sizes.pages → RefusesRun meaning files sizes number requests fault
refuses_frames meaning files sizes number requests fault rings r = subst (RefusesRun meaning files sizes number requests) (sym r.1) (rings, refl, r.2)

pub refuses_numbers : (meaning : Meaning) (files : ℕ) (sizes : Sizes) (number : ℕ) (requests : List (List Request)) (fault : Fault) → files ≤ sizes.rings
    → ((wanted : ℕ) → ¬ WantsFrames meaning wanted sizes.pages) → HasFewNumbers number requests fault → RefusesRun meaning files sizes number requests fault
refuses_numbers meaning files sizes number requests fault rings none r = subst (RefusesRun meaning files sizes number requests) (sym r.0) (rings, none, refl, refl, r.1)
