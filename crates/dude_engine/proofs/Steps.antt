-- What each request leaves of a run.
use Rattle.std.proofs.Common.{◌≡◌, ◌≢◌, Result, Ok, Err, ℕ, ◌+◌, ◌*◌, ◌≤◌, true, false, IsTrue, List, [], ◌∷◌, ◌++◌, length, length-append, refl, sym, ap, ◌∙◌, subst, arith}
use Rattle.std.specs.Prelude.{OnOk, if◌then◌else◌, vec_capacity}
use Rattle.std.proofs.lemmas.List.Elements.{All-nil}
use Rattle.dude_base.specs.declared.limits.TheConstants.{PAGE}
use Rattle.dude_base.specs.declared.sizes.Sizes.{Sizes}
use Rattle.dude_base.specs.declared.write.Write.{Write}
use Rattle.dude_base.specs.Writes.{overwritten}
use Rattle.dude_base.specs.Image.{image_words}
use Rattle.pmem_trait.specs.declared.medium.Medium.{Ghosts}
use Rattle.pmem_trait.specs.Sights.{AtEveryMoment, Sight, state_now, SomeCalls}
use Rattle.pmem_trait.proofs.Laws.{every_moment_here, every_moment_weaker}
use Rattle.pmem_trait.proofs.Runs.{made_later, ran_here, ran_then, risen_later}
use Rattle.tatp_model.specs.declared.done.Done.{Done}
use Rattle.tatp_model.specs.Database.{Database}
use Rattle.tatp_model.specs.declared.reply.Reply.{Reply}
use Rattle.tatp_model.specs.declared.reply.Reply.TheVariants.{Changed}
use Rattle.tatp_model.specs.declared.request.Request.{Request}
use Rattle.tatp_model.specs.Transaction.{reply_to, after_request}
use Rattle.tatp_model.specs.OneThread.{is_changed, is_sync}
use Rattle.tatp_layout.specs.StandsFor.{StandsFor}
use Rattle.tatp_core.specs.Serves.{Serves}
use Rattle.word_space.specs.Flats.{words_of, flat_sight, fresh}
use Rattle.dude_recover.specs.Opened.{HoldsOpened}
use Rattle.log_numbered.specs.declared.run_log.RunLog.{RunLog}
use Rattle.log_numbered.specs.Arrays.{RunArrays, RecoversIn, array_at, with_writes}
use Rattle.back_store.specs.Told.{WereTold}
use Rattle.back_store.proofs.ToldNumbers.{tells_none, tells_then}
use Rattle.log_numbered.specs.Backs.{LogGoesOn}
use Rattle.log_numbered.specs.RunLog.{EndsAtLast, Follows, FollowsOn, IsAlive, RecoversOn, log_back, log_durable, log_end, log_last, log_sizes}
use Rattle.log_numbered.proofs.Closing.{last_near}
use Rattle.dude_engine.specs.declared.run.Run.{Run}
use Rattle.dude_engine.specs.declared.run_fault.RunFault.{RunFault}
use Rattle.dude_engine.specs.declared.run_fault.RunFault.TheVariants.{Device, NoMemory}
use Rattle.dude_engine.specs.Opening.{Opening, RecoversAt}
use Rattle.dude_engine.specs.Endings.{AreSyncsTold, WasToldLast}
use Rattle.dude_engine.specs.Plain.{most_lost_by}
use Rattle.dude_engine.specs.Running.{AreAnswered, AreSyncsUpTo, HasArrays, HasFailed, IsLeft, IsReady, IsRunning, IsSettledRun, LeavesOn, LeavesRun, PerformsFiles, RecoversSoFar, Runs, last_performed, tables_after}
use Rattle.dude_engine.proofs.Arrays.{arrays_start, arrays_read, arrays_write, images_rest, moments_on, near_at_end, so_far_among, so_far_push}
use Rattle.dude_engine.specs.RunCalls.{AreBodyWrites}
use Rattle.dude_engine.proofs.Serving.{served_by_writes}
use Rattle.dude_engine.proofs.Numbering.{IsNext, answered_push, answered_start, first_upto, last_push, number_unwritten, number_written, tables_push, tables_unwritten}
use Rattle.dude_engine.proofs.Tellings.{syncs_last, syncs_on, syncs_other, syncs_push, syncs_told_other, told_longer}

-- the medium is visible all along
pub visible_on : {s t : Sight} → SomeCalls true s t → IsTrue s.is_visible → IsTrue t.is_visible
visible_on ran visible = (made_later ran.1).is_visible ∙ visible

module _ {M : Type 0} {ghosts : Ghosts M} (opening : Opening) (words : List ℕ) where
  pub running_start : (lay : Sizes) (l : RunLog M ghosts) (s : Sight) → opening.sizes ≡ lay → log_sizes l ≡ opening.sizes → log_last l ≡ opening.number → log_end l ≡ opening.number → log_durable l ≡ opening.number → IsAlive l
      → image_words opening.sizes ≤ s.len → StandsFor opening.sizes words opening.database
      → ((before : ℕ) → HoldsOpened before opening.sizes opening.number words s → Follows before (record { first = opening.number; opening = words; others = [] }) l s)
      → IsRunning opening words lay l words [] s s
  running_start lay l s layout sizes last end durable alive room stands follows =
      let a : RunArrays = record { first = opening.number; opening = words; others = [] } in
      let has : HasArrays opening [] words a = arrays_start opening words stands in
      record {
        layout = layout;
        sizes = sizes;
        answered = answered_start opening;
        last = last;
        stands = stands;
        len = refl;
        ran = ran_here s;
        rises = omega (arith, durable);
        tells = λ visible. subst (λ (n : ℕ). WereTold true opening.number n (state_now s).told (state_now s).told) (sym durable) (tells_none true opening.number opening.number (state_now s).told (state_now s).told refl refl);
        syncs = λ visible. All-nil (λ d. IsTrue (is_sync d.request) → WasToldLast (log_durable l) s s × (d.number ≤ log_durable l));
        follows = λ before held. record { arrays = a; has = has; follows = follows before held };
        moments = λ before held. every_moment_here (RecoversSoFar before opening []) (λ visible. record {
          each = λ image is. so_far_among before (log_end l) opening [] words a (state_now s).told image has (omega (arith, end))
              (subst (λ (z : Sizes). RecoversIn z a (log_end l) before (state_now s).told image) sizes
              ((images_rest before a l s (subst (λ (z : Sizes). image_words z ≤ s.len) (sym sizes) room) alive (follows before held) visible).each image is));
        });
      }

  -- ---- a request that doesn't touch the medium

  pub running_read : (lay : Sizes) (l : RunLog M ghosts) (current : List ℕ) (performed : List Done) (d : Done) (s t : Sight) → IsNext opening performed d → d.wrote ≡ false → is_sync d.request ≡ false
      → IsRunning opening words lay l current performed s t → IsRunning opening words lay l current (performed ++ d ∷ []) s t
  running_read lay l current performed d s t next unwritten other run = record {
    layout = run.layout;
    sizes = run.sizes;
    answered = answered_push opening performed d run.answered next;
    last = run.last ∙ sym (number_unwritten opening performed d next unwritten) ∙ sym (last_push opening.number performed d);
    stands = subst (λ (db : Database). StandsFor opening.sizes current db) (sym (tables_unwritten opening performed d next unwritten)) run.stands;
    len = run.len;
    ran = run.ran;
    rises = run.rises;
    tells = run.tells;
    syncs = λ visible. syncs_other (log_durable l) performed d s t other (run.syncs visible);
    follows = λ before held. let f = run.follows before held in record { arrays = f.arrays; has = arrays_read opening performed d current f.arrays next unwritten f.has; follows = f.follows };
    moments = λ before held. every_moment_weaker (λ told image size so_far. so_far_push before opening performed d told image next so_far) (run.moments before held);
  }

  -- ---- a call on the medium

  -- a call that didn't fail, behind which these requests are performed, and these are the words
  running_call : (lay : Sizes) (l later : RunLog M ghosts) (current new : List ℕ) (performed done : List Done) (more : RunArrays → RunArrays) (s t u : Sight)
      → AreAnswered opening done → log_last later ≡ last_performed opening.number done → StandsFor opening.sizes new (tables_after opening done)
      → (IsTrue s.is_visible → AreSyncsUpTo (log_durable later) done s u)
      → ((before : ℕ) (told image : List ℕ) → RecoversSoFar before opening performed told image → RecoversSoFar before opening done told image)
      → ((a : RunArrays) → HasArrays opening performed current a → HasArrays opening done new (more a))
      → LogGoesOn true (log_back l) t (log_back later) u → FollowsOn more l t later u → RecoversOn more l t u
      → IsRunning opening words lay l current performed s t → IsRunning opening words lay later new done s u
  running_call lay l later current new performed done more s t u answered last stands syncs grows arrays goes follows recovers run = record {
    layout = run.layout;
    sizes = goes.sizes ∙ run.sizes;
    answered = answered;
    last = last;
    stands = stands;
    len = goes.len ∙ run.len;
    ran = ran_then run.ran goes.ran;
    rises = omega (arith, run.rises, goes.rises);
    tells = λ visible. tells_then true opening.number (log_durable l) (log_durable later) (state_now s).told (state_now t).told (state_now u).told (run.tells visible) (goes.tells (visible_on run.ran visible));
    syncs = syncs;
    follows = λ before held. let f = run.follows before held in record { arrays = more f.arrays; has = arrays f.arrays f.has; follows = follows before f.arrays f.follows };
    moments = λ before held. moments_on before opening performed done current new more l s t u run.sizes (grows before) arrays (run.moments before held) (run.follows before held) recovers;
  }

  -- a call that failed
  failed_call : (lay : Sizes) (l later : RunLog M ghosts) (current new : List ℕ) (performed done : List Done) (more : RunArrays → RunArrays) (s t u : Sight)
      → IsAlive l → last_performed opening.number done ≤ log_last l + 1 → AreAnswered opening done → (AreSyncsTold performed s u → AreSyncsTold done s u)
      → ((before : ℕ) (told image : List ℕ) → RecoversSoFar before opening performed told image → RecoversSoFar before opening done told image)
      → ((a : RunArrays) → HasArrays opening performed current a → HasArrays opening done new (more a))
      → LogGoesOn false (log_back l) t (log_back later) u → RecoversOn more l t u
      → IsRunning opening words lay l current performed s t → HasFailed opening words (log_durable later) done s u
  failed_call lay l later current new performed done more s t u alive one answered syncs grows arrays goes recovers run = record {
    answered = answered;
    len = goes.len ∙ run.len;
    ran = ran_then run.ran goes.ran;
    cause = risen_later s.faults t.faults u.faults u.faults (made_later run.ran.1).faults (goes.cause refl) (omega arith);
    rises = omega (arith, run.rises, goes.rises);
    tells = λ visible. tells_then false opening.number (log_durable l) (log_durable later) (state_now s).told (state_now t).told (state_now u).told (run.tells visible) (goes.tells (visible_on run.ran visible));
    syncs = λ visible. syncs (syncs_last false (log_durable l) (log_durable later) performed s t u goes.rises (run.syncs visible) (goes.tells (visible_on run.ran visible)));
    moments = λ before held. moments_on before opening performed done current new more l s t u run.sizes (grows before) arrays (run.moments before held) (run.follows before held) recovers;
    near = λ before held visible.
        let f = run.follows before held in
        let has = arrays f.arrays f.has in
        let low : opening.number ≤ log_end l = (let from = f.follows.carried.from in let first = f.has.first in omega arith) in
        near_at_end before (log_end l) (most_lost_by false) opening done new (more f.arrays) t u has low (omega (arith, has.last_is, one, last_near l alive)) (visible_on run.ran visible)
        (subst (λ (z : Sizes). AtEveryMoment (RecoversIn z (more f.arrays) (log_end l) before) t u) run.sizes (recovers before f.arrays f.follows));
  }

  -- an announcement or a settlement that failed
  pub failed_same : (lay : Sizes) (l later : RunLog M ghosts) (current : List ℕ) (performed : List Done) (s t u : Sight) → IsAlive l → LogGoesOn false (log_back l) t (log_back later) u → RecoversOn (λ a. a) l t u
      → IsRunning opening words lay l current performed s t → HasFailed opening words (log_durable later) performed s u
  failed_same lay l later current performed s t u alive goes recovers run =
      failed_call lay l later current current performed performed (λ a. a) s t u alive (omega (arith, run.last)) run.answered (λ syncs. syncs) (λ before told image so_far. so_far) (λ a has. has) goes recovers run

  -- the last number was told last
  told_last_one : (lay : Sizes) (l later : RunLog M ghosts) (current : List ℕ) (performed : List Done) (s t u : Sight) → log_durable later ≡ log_last l
      → (IsTrue t.is_visible → (earlier : List ℕ) × ((state_now u).told ≡ (state_now t).told ++ earlier ++ log_last l ∷ []))
      → IsRunning opening words lay l current performed s t → IsTrue s.is_visible → WasToldLast (log_durable later) s u
  told_last_one lay l later current performed s t u durable told run visible =
      let new = told (visible_on run.ran visible) in (
        (state_now t).told ++ new.0,
        new.1 ∙ ap (λ (n : ℕ). (state_now t).told ++ new.0 ++ n ∷ []) (sym durable),
        omega (arith, told_longer true opening.number (log_durable l) (state_now s).told (state_now t).told (run.tells visible), length-append (state_now t).told new.0),
      )

  -- a `SYNC`
  pub running_sync : (lay : Sizes) (l later : RunLog M ghosts) (current : List ℕ) (performed : List Done) (d : Done) (s t u : Sight) → IsNext opening performed d → d.wrote ≡ false → d.number ≡ log_last l
      → log_last later ≡ log_last l → log_durable later ≡ log_last l → (IsTrue t.is_visible → (earlier : List ℕ) × ((state_now u).told ≡ (state_now t).told ++ earlier ++ log_last l ∷ []))
      → LogGoesOn true (log_back l) t (log_back later) u → FollowsOn (λ a. a) l t later u → RecoversOn (λ a. a) l t u
      → IsRunning opening words lay l current performed s t → IsRunning opening words lay later current (performed ++ d ∷ []) s u
  running_sync lay l later current performed d s t u next unwritten number last durable told goes follows recovers run =
      running_call lay l later current current performed (performed ++ d ∷ []) (λ a. a) s t u (answered_push opening performed d run.answered next)
      (last ∙ sym number ∙ sym (last_push opening.number performed d))
      (subst (λ (db : Database). StandsFor opening.sizes current db) (sym (tables_unwritten opening performed d next unwritten)) run.stands)
      (λ visible. syncs_push (log_durable later) performed d s u (told_last_one lay l later current performed s t u durable told run visible) (omega (arith, number, durable))
      (syncs_on (log_durable l) (log_durable later) performed s t u goes.rises (run.syncs visible) (goes.tells (visible_on run.ran visible))))
      (λ before told image so_far. so_far_push before opening performed d told image next so_far)
      (λ a has. arrays_read opening performed d current a next unwritten has) goes follows recovers run

  -- a request that wrote
  module _ (lay : Sizes) (l later : RunLog M ghosts) (current new : List ℕ) (performed : List Done) (d : Done) (writes : List Write) (s t u : Sight) (next : IsNext opening performed d) (written : d.wrote ≡ true) (other : is_sync d.request ≡ false)
      (is : new ≡ overwritten writes current) (stands : StandsFor opening.sizes new (tables_after opening (performed ++ d ∷ []))) (recovers : RecoversOn (with_writes writes) l t u) (run : IsRunning opening words lay l current performed s t) where
    pub running_write : log_last later ≡ log_last l + 1 → LogGoesOn true (log_back l) t (log_back later) u → FollowsOn (with_writes writes) l t later u → IsRunning opening words lay later new (performed ++ d ∷ []) s u
    running_write last goes follows =
        running_call lay l later current new performed (performed ++ d ∷ []) (with_writes writes) s t u (answered_push opening performed d run.answered next)
        (omega (arith, last, run.last, number_written opening performed d next written, last_push opening.number performed d)) stands
        (λ visible. syncs_other (log_durable later) performed d s u other (syncs_on (log_durable l) (log_durable later) performed s t u goes.rises (run.syncs visible) (goes.tells (visible_on run.ran visible))))
        (λ before told image so_far. so_far_push before opening performed d told image next so_far)
        (λ a has. arrays_write opening performed d writes current new a run.answered next written is stands has) goes follows recovers run

    pub failed_write : IsAlive l → LogGoesOn false (log_back l) t (log_back later) u → HasFailed opening words (log_durable later) (performed ++ d ∷ []) s u
    failed_write alive goes =
        failed_call lay l later current new performed (performed ++ d ∷ []) (with_writes writes) s t u alive
        (omega (arith, run.last, number_written opening performed d next written, last_push opening.number performed d)) (answered_push opening performed d run.answered next)
        (λ syncs. syncs_told_other performed d s u other syncs)
        (λ before told image so_far. so_far_push before opening performed d told image next so_far)
        (λ a has. arrays_write opening performed d writes current new a run.answered next written is stands has) goes recovers run

  -- ---- the end

  module _ (lay : Sizes) (l later : RunLog M ghosts) (current : List ℕ) (performed : List Done) (s t u : Sight) (durable : log_durable later ≡ log_last l) (goes : LogGoesOn true (log_back l) t (log_back later) u)
      (recovers : RecoversOn (λ a. a) l t u) (run : IsRunning opening words lay l current performed s t) where
    pub running_settled : log_last later ≡ log_last l → FollowsOn (λ a. a) l t later u → IsRunning opening words lay later current performed s u
    running_settled last follows =
        running_call lay l later current current performed performed (λ a. a) s t u run.answered (last ∙ run.last) run.stands
        (λ visible. syncs_on (log_durable l) (log_durable later) performed s t u goes.rises (run.syncs visible) (goes.tells (visible_on run.ran visible)))
        (λ before told image so_far. so_far) (λ a has. has) goes follows recovers run

    pub settled_run : EndsAtLast l t u → (IsTrue t.is_visible → (earlier : List ℕ) × ((state_now u).told ≡ (state_now t).told ++ earlier ++ log_last l ∷ [])) → IsSettledRun opening words (log_durable later) performed s u
    settled_run ends told = record {
      durable_is = durable ∙ run.last;
      told = told_last_one lay l later current performed s t u durable told run;
      images = λ before held visible.
          let f = run.follows before held in
          let at = ends before f.arrays f.follows (visible_on run.ran visible) in
          record {
            each = λ image is.
                let among : RecoversIn opening.sizes f.arrays (log_last l) before (state_now u).told image = subst (λ (z : Sizes). RecoversIn z f.arrays (log_last l) before (state_now u).told image) run.sizes (at.each image is) in
                let number : among.number ≡ log_durable later = omega (arith, durable, among.from, among.most, f.follows.last) in
                let recovers_at : RecoversAt opening performed image among.number = record {
                  array = array_at f.arrays among.number;
                  recovered = among.recovered;
                  same_sizes = among.same_sizes;
                  stands = f.has.stand among.number (omega (arith, among.from, run.last, first_upto opening performed run.answered)) among.most;
                } in
                subst (λ (n : ℕ). RecoversAt opening performed image n) number recovers_at;
          };
    }

-- ---- how it stands in the fields of a run

module _ {M : Type 0} {ghosts : Ghosts M} (opening : Opening) (words : List ℕ) where
  pub runs_same : (run : Run M ghosts) (lay : Sizes) (l : RunLog M ghosts) (current : List ℕ) (performed : List Done) (s t u : Sight) → run.lay ≡ lay → run.log ≡ l → words_of run.words ≡ current → run.done.items ≡ performed → u ≡ t
      → IsRunning opening words lay l current performed s t → Runs opening words run s u
  runs_same run lay l current performed s t u lay_is log_is words_are done_is sight_is r =
      subst (λ (z : Sizes). IsRunning opening words z run.log (words_of run.words) run.done.items s u) (sym lay_is)
      (subst (λ (z : RunLog M ghosts). IsRunning opening words lay z (words_of run.words) run.done.items s u) (sym log_is)
      (subst (λ (z : List ℕ). IsRunning opening words lay l z run.done.items s u) (sym words_are)
      (subst (λ (z : List Done). IsRunning opening words lay l current z s u) (sym done_is)
      (subst (λ (z : Sight). IsRunning opening words lay l current performed s z) (sym sight_is) r))))

  pub left_failed : (result : Result (Unit {0}) RunFault) (run : Run M ghosts) (s t : Sight) → result ≡ Err Device → HasFailed opening words (log_durable run.log) run.done.items s t → IsLeft result opening words run s t
  left_failed result run s t is failed = subst (λ (r : Result (Unit {0}) RunFault). IsLeft r opening words run s t) (sym is) failed

  pub left_memory : (result : Result (Unit {0}) RunFault) (run : Run M ghosts) (s t : Sight) → result ≡ Err NoMemory → Runs opening words run s t → IsAlive run.log → IsLeft result opening words run s t
  left_memory result run s t is runs alive = subst (λ (r : Result (Unit {0}) RunFault). IsLeft r opening words run s t) (sym is) (runs, alive)

-- a run whose log and words stay is ready still
pub ready_same : {M : Type 0} {ghosts : Ghosts M} (run later : Run M ghosts) → later.log ≡ run.log → later.lay ≡ run.lay → flat_sight later.words ≡ fresh (words_of later.words) → words_of later.words ≡ words_of run.words → IsReady run → IsReady later
ready_same {M} {ghosts} run later log lay clean words ready = record {
  alive = subst (λ (l : RunLog M ghosts). IsAlive l) (sym log) ready.alive;
  sizes = ap (λ (l : RunLog M ghosts). log_sizes l) log ∙ ready.sizes ∙ sym lay;
  clean = clean;
  count = ap length words ∙ ready.count ∙ ap (λ (z : Sizes). z.pages * PAGE) (sym lay);
}

-- ---- what a request that was served tells

-- its answer is the next one
pub served_next : (opening : Opening) (lay : Sizes) (performed : List Done) (d : Done) (new : List ℕ) → opening.sizes ≡ lay
    → d.number ≡ (if d.wrote then last_performed opening.number performed + 1 else last_performed opening.number performed) → d.wrote ≡ is_changed d.reply
    → Serves lay (tables_after opening performed) d.request d.reply new → IsNext opening performed d
served_next opening lay performed d new layout number wrote serves = record {
  number = number;
  reply = serves.replies ∙ ap (λ (z : Sizes). reply_to z.calls (tables_after opening performed) d.request) (sym layout);
  wrote = wrote;
}

-- and the words stand for the tables behind it
pub served_stands : (opening : Opening) (lay : Sizes) (performed : List Done) (d : Done) (new : List ℕ) → opening.sizes ≡ lay
    → Serves lay (tables_after opening performed) d.request d.reply new → StandsFor opening.sizes new (tables_after opening (performed ++ d ∷ []))
served_stands opening lay performed d new layout serves =
    subst (λ (db : Database). StandsFor opening.sizes new db) (sym (tables_push opening performed d))
    (subst (λ (z : Sizes). StandsFor z new (after_request z.calls (tables_after opening performed) d.request)) (sym layout) serves.stands)

-- a run over equal lists of what was done
pub running_as : {M : Type 0} {ghosts : Ghosts M} {opening : Opening} {words current : List ℕ} {lay : Sizes} {l : RunLog M ghosts} {performed done : List Done} {s t : Sight} → performed ≡ done
    → IsRunning opening words lay l current performed s t → IsRunning opening words lay l current done s t
running_as {opening = opening} {words = words} {current = current} {lay = lay} {l = l} {s = s} {t = t} same run = subst (λ (performed : List Done). IsRunning opening words lay l current performed s t) same run

-- a request whose writes were taken was served: it comes next, and the words with its writes stand for the tables behind it
pub record ChangeServed (opening : Opening) (performed : List Done) (d : Done) (old new : List ℕ) (writes : List Write) : Type 0 where
  pub next : IsNext opening performed d
  pub words : new ≡ overwritten writes old
  pub stands : StandsFor opening.sizes new (tables_after opening (performed ++ d ∷ []))

pub change_served : (opening : Opening) (lay : Sizes) (performed : List Done) (file index number : ℕ) (request : Request) {old new : List ℕ} {pending writes : List Write} → AreBodyWrites lay old request Changed pending → opening.sizes ≡ lay
    → StandsFor opening.sizes old (tables_after opening performed) → number ≡ last_performed opening.number performed → new ≡ overwritten pending old → pending ≡ writes
    → ChangeServed opening performed (record { file = file; index = index; number = number + 1; wrote = true; request = request; reply = Changed }) old new writes
change_served opening lay performed file index number request {old} {new} {pending} {writes} body layout stands last gave taken =
    let d : Done = record { file = file; index = index; number = number + 1; wrote = true; request = request; reply = Changed } in
    let made : Serves lay (tables_after opening performed) request Changed (overwritten pending old) = served_by_writes lay old request Changed pending body (tables_after opening performed) (subst (λ (z : Sizes). StandsFor z old (tables_after opening performed)) layout stands) in
    let served : Serves lay (tables_after opening performed) request Changed new = subst (λ (l : List ℕ). Serves lay (tables_after opening performed) request Changed l) (sym gave) made in
    record {
      next = served_next opening lay performed d new layout (ap (λ (n : ℕ). n + 1) last) refl served;
      words = gave ∙ ap (λ (ws : List Write). overwritten ws old) taken;
      stands = served_stands opening lay performed d new layout served;
    }

pub unchanged : (reply : Reply) → reply ≢ Changed → false ≡ is_changed reply
unchanged Changed other = absurd (other refl)
unchanged _ other = refl

-- where there is a fault nothing is to show of an Ok
pub fault_on_ok : (P : Type 0) (result : Result (Unit {0}) RunFault) (fault : RunFault) → result ≡ Err fault → OnOk result P
fault_on_ok P (Ok done) fault is = absurd (cc)
fault_on_ok P (Err other) fault is = tt

pub performs_failed : {was result : Result (Unit {0}) RunFault} {files : List (List Request)} {performed : List Done} (fault : RunFault) → result ≡ Err fault → PerformsFiles was files performed → PerformsFiles result files performed
performs_failed {result = result} fault is performs = record { rounds = performs.rounds; collects = performs.collects; first = performs.first; all = fault_on_ok _ result fault is }

pub leaves_failed : {M : Type 0} {ghosts : Ghosts M} (result : Result (Unit {0}) RunFault) (old new : Run M ghosts) (fault : RunFault) → result ≡ Err fault → new.lay ≡ old.lay → vec_capacity new.done ≡ vec_capacity old.done → LeavesOn result old new → LeavesRun result old new
leaves_failed result old new fault is lay room left = record { ready = fault_on_ok _ result fault is; lay = lay; room = room; left = left; calls = fault_on_ok _ result fault is }
