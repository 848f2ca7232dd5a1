use Rattle.std.proofs.Common.{◌≡◌, ◌+◌, ◌∙◌, ap, sym, refl, subst, rules, true, List, [], ◌∷◌, ◌++◌, length, Err}
use Rattle.dude_base.specs.declared.write.Write.{Write}
use Rattle.dude_base.specs.Records.{RedoRecord}
use Rattle.dude_base.specs.Writes.{overwritten}
use Rattle.dude_base.proofs.Overwriting.{length-overwritten}
use Rattle.tatp_model.specs.declared.done.Done.{Done}
use Rattle.tatp_model.specs.declared.reply.Reply.TheVariants.{Changed}
use Rattle.word_space.specs.Flats.{words_of, flat_sight}
use Rattle.log_numbered.specs.Arrays.{with_writes}
use Rattle.log_numbered.specs.KeptBundles.{kept_bundles}
use Rattle.log_numbered.specs.RunLog.{log_durable, log_medium}
use Rattle.dude_engine.specs.declared.run_fault.RunFault.TheVariants.{Device}
use Rattle.dude_engine.specs.Running.{HasFailed, IsRunning}
use Rattle.dude_engine.specs.RunCalls.{AreBodyWrites, IsRecordOf}
use Rattle.dude_engine.proofs.Arrays.{arrays_write}
use Rattle.dude_engine.proofs.Keeping.{keeps_as, keeps_failed, kept_device}
use Rattle.dude_engine.proofs.Serving.{serves_logged}
use Rattle.dude_engine.proofs.Steps.{change_served, failed_write, leaves_failed, left_failed, running_write}
use Rattle.dude_engine.proofs.run.Run.log_change.Goals as goal

pub returns-in_err-append-clause-leaves : goal.returns-in_err-append-clause-leaves
returns-in_err-append-clause-leaves g c =
    let self = c.args.self.now in
    let is : c.from_residual.result ≡ Err Device = search rules in
    let d : Done = record { file = c.args.file; index = c.args.index; number = c.last-number.result + 1; wrote = true; request = c.args.request.now; reply = Changed } in
    leaves_failed c.from_residual.result self _ Device is refl c.push_reserved.ensures.capacity (λ opening words s run.
    let change = change_served opening self.lay self.done.items c.args.file c.args.index c.last-number.result c.args.request.now c.requires.change.writes run.layout run.stands (c.last-number.ensures ∙ run.last) c.take-redo.ensures.words (sym (ap (λ (r : RedoRecord). r.writes) c.take-redo.ensures.record)) in
    left_failed opening words c.from_residual.result _ s _ is
    (subst (λ (done : List Done). HasFailed opening words (log_durable c.append.new.self) done s (g.M.Medium.sight (log_medium c.append.new.self))) (sym c.push_reserved.ensures.items)
    (failed_write opening words self.lay self.log c.append.new.self (words_of self.words) (words_of c.take-redo.new.self) self.done.items d c.take-redo.result.writes s (g.M.Medium.sight (log_medium self.log)) (g.M.Medium.sight (log_medium c.append.new.self))
    change.next refl c.requires.no_sync change.words change.stands c.append.ensures.moments run c.requires.change.alive c.in_err-append.ensures.goes_on)))

pub returns-clause-leaves : goal.returns-clause-leaves
returns-clause-leaves g c =
    let self = c.args.self.now in
    let d : Done = record { file = c.args.file; index = c.args.index; number = c.last-number.result + 1; wrote = true; request = c.args.request.now; reply = Changed } in
    let number : c.take-redo.result.number ≡ d.number = ap (λ (r : RedoRecord). r.number) c.take-redo.ensures.record in
    let redo_writes : (flat_sight self.words).writes ≡ c.take-redo.result.writes = sym (ap (λ (r : RedoRecord). r.writes) c.take-redo.ensures.record) in
    let body : AreBodyWrites self.lay (words_of self.words) c.args.request.now Changed c.take-redo.result.writes =
    subst (λ (ws : List Write). AreBodyWrites self.lay (words_of self.words) c.args.request.now Changed ws) redo_writes c.requires.change.writes in
    let is_record : IsRecordOf self.lay (words_of self.words) d c.take-redo.result = record { number = number; writes = body } in
    record {
      ready = record {
        alive = c.in_ok-append.ensures.alive refl;
        sizes = c.in_ok-append.ensures.goes_on.sizes ∙ c.requires.change.sizes;
        clean = c.take-redo.ensures.fresh;
        count = ap length c.take-redo.ensures.words ∙ length-overwritten (flat_sight self.words).writes (words_of self.words) ∙ c.requires.change.count;
      };
      lay = refl;
      room = c.push_reserved.ensures.capacity;
      calls = serves_logged self _ d c.take-redo.result (g.M.Medium.sight (log_medium self.log)) (g.M.Medium.sight (log_medium c.append.new.self)) c.push_reserved.ensures.items refl is_record
          (c.take-redo.ensures.words ∙ ap (λ (ws : List Write). overwritten ws (words_of self.words)) redo_writes) c.in_ok-append.ensures.appends.calls;
      left = λ opening words s run.
          let change = change_served opening self.lay self.done.items c.args.file c.args.index c.last-number.result c.args.request.now c.requires.change.writes run.layout run.stands (c.last-number.ensures ∙ run.last) c.take-redo.ensures.words (sym (ap (λ (r : RedoRecord). r.writes) c.take-redo.ensures.record)) in
          subst (λ (done : List Done). IsRunning opening words self.lay c.append.new.self (words_of c.take-redo.new.self) done s (g.M.Medium.sight (log_medium c.append.new.self))) (sym c.push_reserved.ensures.items)
          (running_write opening words self.lay self.log c.append.new.self (words_of self.words) (words_of c.take-redo.new.self) self.done.items d c.take-redo.result.writes s (g.M.Medium.sight (log_medium self.log)) (g.M.Medium.sight (log_medium c.append.new.self))
          change.next refl c.requires.no_sync change.words change.stands c.append.ensures.moments run
          c.in_ok-append.ensures.appends.last c.in_ok-append.ensures.goes_on c.in_ok-append.ensures.appends.follows);
    }

pub returns-clause-number : goal.returns-clause-number
returns-clause-number g c = c.in_ok-append.ensures.appends.last

pub returns-in_err-append-clause-kept : goal.returns-in_err-append-clause-kept
returns-in_err-append-clause-kept g c =
    let self = c.args.self.now in
    let is : c.from_residual.result ≡ Err Device = search rules in
    let d : Done = record { file = c.args.file; index = c.args.index; number = c.last-number.result + 1; wrote = true; request = c.args.request.now; reply = Changed } in
    record {
      kept = c.in_err-append.ensures.keeps.kept;
      all = λ kept opening words s run keeps.
          let change = change_served opening self.lay self.done.items c.args.file c.args.index c.last-number.result c.args.request.now c.requires.change.writes run.layout run.stands (c.last-number.ensures ∙ run.last) c.take-redo.ensures.words (sym (ap (λ (r : RedoRecord). r.writes) c.take-redo.ensures.record)) in
          kept_device opening words c.from_residual.result _ s _ is
          (keeps_failed opening words _ self.log c.append.new.self (words_of self.words) (words_of c.take-redo.new.self) self.done.items (self.done.items ++ d ∷ []) (kept_bundles c.append.new.kept) (with_writes c.take-redo.result.writes) keeps.arrays self.lay
          s (g.M.Medium.sight (log_medium self.log)) (g.M.Medium.sight (log_medium c.append.new.self)) run
          (λ a has. arrays_write opening self.done.items d c.take-redo.result.writes (words_of self.words) (words_of c.take-redo.new.self) a run.answered change.next refl change.words change.stands has)
          (c.in_err-append.ensures.ends refl) c.in_err-append.ensures.goes_on.sizes refl c.push_reserved.ensures.items refl keeps.has keeps.opening_is (c.in_err-append.ensures.keeps.all kept keeps.arrays keeps.keeps));
    }

pub returns-clause-kept : goal.returns-clause-kept
returns-clause-kept g c =
    let self = c.args.self.now in
    let d : Done = record { file = c.args.file; index = c.args.index; number = c.last-number.result + 1; wrote = true; request = c.args.request.now; reply = Changed } in
    record {
      kept = c.in_ok-append.ensures.keeps.kept;
      all = λ kept opening words s run keeps.
          let change = change_served opening self.lay self.done.items c.args.file c.args.index c.last-number.result c.args.request.now c.requires.change.writes run.layout run.stands (c.last-number.ensures ∙ run.last) c.take-redo.ensures.words (sym (ap (λ (r : RedoRecord). r.writes) c.take-redo.ensures.record)) in
          keeps_as opening words _ c.append.new.self (words_of c.take-redo.new.self) (self.done.items ++ d ∷ []) (kept_bundles c.append.new.kept) (with_writes c.take-redo.result.writes keeps.arrays) refl refl c.push_reserved.ensures.items refl
          (arrays_write opening self.done.items d c.take-redo.result.writes (words_of self.words) (words_of c.take-redo.new.self) keeps.arrays run.answered change.next refl change.words change.stands keeps.has)
          keeps.opening_is (c.in_ok-append.ensures.keeps.all kept keeps.arrays keeps.keeps);
    }
