-- An opened image is refused for one reason.
use Rattle.std.proofs.Common.{◌≡◌, ℕ, ◌<◌, ◌≤◌, List, [], ◌∷◌, true, false, Some, IsTrue, Option, length, inl, inr, refl, sym, ap, ◌∙◌, subst, arith}
use Rattle.std.specs.Prelude.{IsSomeAnd}
use Rattle.std.specs.List.{AllZip}
use Rattle.tatp_model.specs.declared.request.Request.{Request}
use Rattle.dude_io.specs.Files.{FilesSight}
use Rattle.command_edges.specs.Command.{Meaning, Meaning.FreshRun, Meaning.FormatImage, Meaning.RunFiles, Meaning.StreamFiles, Meaning.RecoverImage, Meaning.DumpTables, Meaning.LocateRange, Meaning.DriveLoad, Meaning.AuditRun, Meaning.ShipFiles, Meaning.FollowFiles}
use Rattle.command_edges.specs.Files.{OfFile}
use Rattle.dude_engine.specs.Opening.{Opening}
use Rattle.dude_engine.specs.Requests.{request_count}
use Rattle.command_edges.specs.declared.fault.Fault.{Fault}
use Rattle.command_edges.specs.declared.fault.Fault.TheVariants.{ManyFiles, Frames, FewSubscribers, Numbers, Audit}
use Rattle.dude_audit.specs.PrintedRun.{IsVerdict}
use Rattle.dude_audit.specs.declared.verdict.Verdict.{Verdict}
use Rattle.dude_audit.specs.declared.verdict.Verdict.TheVariants.{No}
use Rattle.dude_audit.proofs.OneVerdict.{one_verdict}
use Rattle.dude_program.specs.Audit.{IsLongRun, IsRefusedRun, IsWrongRun, RunRead}
use Rattle.dude_program.specs.Opening.{RequestsAre, only_reads}
use Rattle.dude_program.specs.Causes.{DrawsNumbers, KnowsCause, KnowsRequests, MustRefuse, RefusesAudit, RefusesOpening, WantsFrames, WantsNumbers, WantsSubscribers, files_run}

-- where files tell, they hold one list of requests each
one_of_file : (f : FilesSight) (name : List ℕ) (a b : List Request) → IsTrue f.is_visible → OfFile f name a → OfFile f name b → a ≡ b
one_of_file f name a b visible one other =
    let e = one.2 visible in let g = other.2 visible in let h = one.1 in let i = other.1 in cc

-- no file has no requests
one_of_none : (f : FilesSight) (a b : List (List Request)) → AllZip (OfFile f) [] a → AllZip (OfFile f) [] b → a ≡ b
one_of_none f [] [] one other = refl
one_of_none f [] (y ∷ b) one other = absurd other
one_of_none f (x ∷ a) b one other = absurd one

pub one_of_files : (f : FilesSight) (names : List (List ℕ)) (a b : List (List Request)) → IsTrue f.is_visible → AllZip (OfFile f) names a → AllZip (OfFile f) names b → a ≡ b
one_of_files f [] a b visible one other = one_of_none f a b one other
one_of_files f (name ∷ names) (x ∷ a) (y ∷ b) visible one other =
    let head : x ≡ y = one_of_file f name x y visible one.0 other.0 in
    let tail : a ≡ b = one_of_files f names a b visible one.1 other.1 in
    cc
one_of_files f (name ∷ names) [] b visible one other = absurd one
one_of_files f (name ∷ names) (x ∷ a) [] visible one other = absurd other

pub one_text : (a b : List ℕ) → ◌≡◌ {A = Option (List ℕ)} (Some a) (Some b) → a ≡ b
one_text a b is = cc

-- where files tell, an audit names one line: bytes have one verdict, and a text that is too long has none
module _ (printed : List ℕ) (names : List (List ℕ)) (f : FilesSight) (opening : Opening) (visible : IsTrue f.is_visible) where
  pub long_or_read : IsLongRun printed f → RunRead printed names f → ⊥
  long_or_read long run =
      let over = subst (λ (o : Option (List ℕ)). IsSomeAnd o (λ text. 268435456 < length text)) (run.of_file visible) (long visible) in
      let short = run.short in
      omega (arith, over, short)

  one_verdict_line : (a b : ℕ) → IsWrongRun printed names f opening a → IsWrongRun printed names f opening b → a ≡ b
  one_verdict_line a b one other =
      let requests = one_of_files f names one.run.requests other.run.requests visible one.run.read other.run.read in
      let text = one_text one.run.text other.run.text (sym (one.run.of_file visible) ∙ other.run.of_file visible) in
      let verdict : IsVerdict opening.number opening.sizes.calls opening.database other.run.requests other.run.text (No a) =
      subst (λ (t : List ℕ). IsVerdict opening.number opening.sizes.calls opening.database other.run.requests t (No a)) text
      (subst (λ (q : List (List Request)). IsVerdict opening.number opening.sizes.calls opening.database q one.run.text (No a)) requests one.verdict) in
      let same : ◌≡◌ {A = Verdict} (No a) (No b) = one_verdict other.run.requests other.run.text opening.number opening.sizes.calls opening.database (No a) (No b) verdict other.verdict in
      cc

  one_line : (a b : ℕ) → IsRefusedRun printed names f opening a → IsRefusedRun printed names f opening b → a ≡ b
  one_line a b (inl long) (inl other) = long.1 ∙ sym other.1
  one_line a b (inl long) (inr wrong) = absurd (long_or_read long.0 wrong.run)
  one_line a b (inr wrong) (inl long) = absurd (long_or_read long.0 wrong.run)
  one_line a b (inr one) (inr other) = one_verdict_line a b one other

-- so one line is named, whatever the command
one_no : (meaning : Meaning) (f : FilesSight) (opening : Opening) (a b : ℕ) → IsTrue f.is_visible → RefusesAudit meaning f opening a → RefusesAudit meaning f opening b → a ≡ b
one_no (AuditRun printed names) f opening a b visible one other = one_line printed names f opening visible a b one other
one_no meaning f opening a b visible one other = absurd one

-- the command runs one list of lists of requests, where they are known
pub one_requests : (meaning : Meaning) (f : FilesSight) (opening : Opening) (a b : List (List Request)) → KnowsRequests meaning f → RequestsAre meaning f opening a → RequestsAre meaning f opening b → a ≡ b
one_requests (FreshRun subscribers file) f opening a b visible one other = one_of_files f (file ∷ []) a b visible one other
one_requests (FormatImage x s c n k) f opening a b known one other = one ∙ sym other
one_requests (RunFiles frames locks files) f opening a b visible one other = one_of_files f files a b visible one other
one_requests (StreamFiles frames locks files) f opening a b visible one other = one_of_files f files a b visible one other
one_requests RecoverImage f opening a b known one other = one ∙ sym other
one_requests DumpTables f opening a b known one other = one ∙ sym other
one_requests (LocateRange low high limit) f opening a b known one other = one ∙ sym other
one_requests (AuditRun printed files) f opening a b known one other = one ∙ sym other
one_requests (DriveLoad seed count files) f opening a b known one other = one ∙ sym other
one_requests (ShipFiles files) f opening a b visible one other = one_of_files f files a b visible one other
one_requests (FollowFiles files) f opening a b known one other = one ∙ sym other

-- the frames that are wanted are those that the words name
one_frames : (meaning : Meaning) (v w pages : ℕ) → WantsFrames meaning v pages → WantsFrames meaning w pages → v ≡ w
one_frames (RunFiles (Some frames) locks files) v w pages one other = one.0 ∙ sym other.0
one_frames (StreamFiles (Some frames) locks files) v w pages one other = one.0 ∙ sym other.0
one_frames meaning v w pages one other = absurd one

one_load : (meaning : Meaning) (subscribers v w : ℕ) → WantsSubscribers meaning subscribers v → WantsSubscribers meaning subscribers w → v ≡ w
one_load (DriveLoad seed count files) subscribers v w one other = one.0 ∙ sym other.0
one_load meaning subscribers v w one other = absurd one

-- no command wants both
never_both : (meaning : Meaning) (v w pages subscribers : ℕ) → WantsFrames meaning v pages → WantsSubscribers meaning subscribers w → ⊥
never_both (RunFiles frames locks files) v w pages subscribers one other = absurd other
never_both (StreamFiles frames locks files) v w pages subscribers one other = absurd other
never_both meaning v w pages subscribers one other = absurd one

-- What an audit has none of.
record IsAlone (meaning : Meaning) : Type 0 where
  reads : only_reads meaning ≡ true
  files : files_run meaning ≡ 0
  frames : (wanted pages : ℕ) → WantsFrames meaning wanted pages → ⊥
  few : (subscribers wanted : ℕ) → WantsSubscribers meaning subscribers wanted → ⊥
  numbers : DrawsNumbers meaning → ⊥

-- only an audit says no
alone : (meaning : Meaning) (f : FilesSight) (opening : Opening) (line : ℕ) → RefusesAudit meaning f opening line → IsAlone meaning
alone (AuditRun printed files) f opening line says = record { reads = refl; files = refl; frames = λ w p h. h; few = λ s w h. h; numbers = λ h. h }
alone meaning f opening line says = absurd says

pub never_no : (meaning : Meaning) (f : FilesSight) (opening : Opening) (line : ℕ) → only_reads meaning ≡ false → RefusesAudit meaning f opening line → ⊥
never_no meaning f opening line writes says = let reads = (alone meaning f opening line says).reads in let never : ⊥ = cc in never

-- Which refusal it is.
data Which (meaning : Meaning) (f : FilesSight) (opening : Opening) (why : Fault) : Type 0 where
  many : (why ≡ ManyFiles (files_run meaning) opening.sizes.rings) → (opening.sizes.rings < files_run meaning) → Which meaning f opening why
  frames : (wanted : ℕ) → (why ≡ Frames wanted opening.sizes.pages) → (files_run meaning ≤ opening.sizes.rings) → WantsFrames meaning wanted opening.sizes.pages → Which meaning f opening why
  few : (wanted : ℕ) → (why ≡ FewSubscribers opening.sizes.subscribers wanted) → (files_run meaning ≤ opening.sizes.rings) → WantsSubscribers meaning opening.sizes.subscribers wanted
      → Which meaning f opening why
  numbers : (count : ℕ) → (why ≡ Numbers opening.number count) → (files_run meaning ≤ opening.sizes.rings) → ((wanted : ℕ) → ¬ WantsFrames meaning wanted opening.sizes.pages)
      → ((wanted : ℕ) → ¬ WantsSubscribers meaning opening.sizes.subscribers wanted) → WantsNumbers meaning f opening count → Which meaning f opening why
  said_no : (line : ℕ) → (why ≡ Audit line) → RefusesAudit meaning f opening line → Which meaning f opening why

which : (meaning : Meaning) (f : FilesSight) (opening : Opening) (why : Fault) → RefusesOpening meaning f opening why → Which meaning f opening why
which meaning f opening (ManyFiles wanted rings) r = many (let e = r.0 in let h = r.1 in cc) (omega (arith, r.0, r.1, r.2))
which meaning f opening (Frames wanted pages) r = frames wanted (ap (Frames wanted) r.1) r.0 (subst (WantsFrames meaning wanted) r.1 r.2)
which meaning f opening (FewSubscribers subscribers wanted) r = few wanted (ap (λ (n : ℕ). FewSubscribers n wanted) r.1) r.0 (subst (λ (n : ℕ). WantsSubscribers meaning n wanted) r.1 r.2)
which meaning f opening (Numbers number count) r = numbers count (ap (λ (n : ℕ). Numbers n count) r.3) r.0 r.1 r.2 r.4
which meaning f opening (Audit line) r = said_no line refl r
which meaning f opening why r = absurd r

-- an opened image isn't refused where nothing refuses it
pub passes_if : (meaning : Meaning) (f : FilesSight) (opening : Opening) → ((line : ℕ) → KnowsCause meaning f opening (Audit line) → RefusesAudit meaning f opening line → ⊥) → files_run meaning ≤ opening.sizes.rings → ((wanted : ℕ) → ¬ WantsFrames meaning wanted opening.sizes.pages)
    → ((wanted : ℕ) → ¬ WantsSubscribers meaning opening.sizes.subscribers wanted) → (KnowsRequests meaning f → (count : ℕ) → ¬ WantsNumbers meaning f opening count)
    → (why : Fault) → MustRefuse meaning f opening why → ⊥
passes_if meaning f opening no_no rings no_frames no_few no_numbers why refuses = by (which meaning f opening why refuses.0)
  where
    by : Which meaning f opening why → ⊥
    by (many e x) = omega (arith, x, rings)
    by (frames w e x wants) = no_frames w wants
    by (few w e x wants) = no_few w wants
    by (numbers count e x y z wants) = no_numbers (subst (KnowsCause meaning f opening) e refuses.1) count wants
    by (said_no line e says) = no_no line (subst (KnowsCause meaning f opening) e refuses.1) says

pub one_refusal : (meaning : Meaning) (f : FilesSight) (opening : Opening) (a b : Fault) → RefusesOpening meaning f opening a → MustRefuse meaning f opening b → a ≡ b
one_refusal meaning f opening a b one other = by (which meaning f opening a one) (which meaning f opening b other.0)
  where
    by : Which meaning f opening a → Which meaning f opening b → a ≡ b
    by (many e x) (many g y) = e ∙ sym g
    by (many e x) (frames v g y w) = absurd (omega (arith, x, y))
    by (many e x) (few v g y w) = absurd (omega (arith, x, y))
    by (many e x) (numbers v g y w z n) = absurd (omega (arith, x, y))
    by (frames u e x w) (many g y) = absurd (omega (arith, x, y))
    by (frames u e x w) (frames v g y z) = e ∙ (ap (λ (n : ℕ). Frames n opening.sizes.pages) (one_frames meaning u v opening.sizes.pages w z) ∙ sym g)
    by (frames u e x w) (few v g y z) = absurd (never_both meaning u v opening.sizes.pages opening.sizes.subscribers w z)
    by (frames u e x w) (numbers v g y none z n) = absurd (none u w)
    by (few u e x w) (many g y) = absurd (omega (arith, x, y))
    by (few u e x w) (frames v g y z) = absurd (never_both meaning v u opening.sizes.pages opening.sizes.subscribers z w)
    by (few u e x w) (few v g y z) = e ∙ (ap (λ (n : ℕ). FewSubscribers opening.sizes.subscribers n) (one_load meaning opening.sizes.subscribers u v w z) ∙ sym g)
    by (few u e x w) (numbers v g y z none n) = absurd (none u w)
    by (numbers u e x w z m) (many g y) = absurd (omega (arith, x, y))
    by (numbers u e x none z m) (frames v g y w) = absurd (none v w)
    by (numbers u e x z none m) (few v g y w) = absurd (none v w)
    by (numbers u e x w z m) (numbers v g y p q n) =
        let same = one_requests meaning f opening m.1.0 n.1.0 (subst (KnowsCause meaning f opening) g other.1) m.1.1 n.1.1 in
        e ∙ (ap (Numbers opening.number) (m.1.2 ∙ (ap request_count same ∙ sym n.1.2)) ∙ sym g)
    by (said_no line e says) (many g y) = absurd (let none = (alone meaning f opening line says).files in omega (arith, none, y))
    by (said_no line e says) (frames v g y w) = absurd ((alone meaning f opening line says).frames v opening.sizes.pages w)
    by (said_no line e says) (few v g y w) = absurd ((alone meaning f opening line says).few opening.sizes.subscribers v w)
    by (said_no line e says) (numbers v g y p q n) = absurd ((alone meaning f opening line says).numbers n.0)
    by (said_no line e says) (said_no also g same) = e ∙ (ap Audit (one_no meaning f opening line also (subst (KnowsCause meaning f opening) g other.1) says same) ∙ sym g)
    by (many e x) (said_no also g says) = absurd (let none = (alone meaning f opening also says).files in omega (arith, none, x))
    by (frames u e x w) (said_no also g says) = absurd ((alone meaning f opening also says).frames u opening.sizes.pages w)
    by (few u e x w) (said_no also g says) = absurd ((alone meaning f opening also says).few opening.sizes.subscribers u w)
    by (numbers u e x w z m) (said_no also g says) = absurd ((alone meaning f opening also says).numbers m.0)
