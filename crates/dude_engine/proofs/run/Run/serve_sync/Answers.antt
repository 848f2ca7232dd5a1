use Rattle.std.proofs.Common.{◌≡◌, ◌∙◌, ap, refl, rules, subst, sym, false, [], ◌∷◌, ◌++◌, Err}
use Rattle.tatp_model.specs.declared.done.Done.{Done}
use Rattle.tatp_model.specs.declared.request.Request.TheVariants.{Sync}
use Rattle.tatp_model.specs.declared.reply.Reply.TheVariants.{Durable}
use Rattle.word_space.specs.declared.flat.Flat.{Flat}
use Rattle.word_space.specs.Flats.{flat_sight, fresh, words_of}
use Rattle.log_numbered.specs.KeptBundles.{are_kept, kept_bundles}
use Rattle.log_numbered.specs.RunLog.{log_last, log_medium}
use Rattle.dude_engine.specs.declared.run_fault.RunFault.TheVariants.{Device}
use Rattle.dude_engine.proofs.Arrays.{arrays_read}
use Rattle.dude_engine.proofs.Keeping.{keeps_as, kept_failed}
use Rattle.dude_engine.proofs.Numbering.{IsNext}
use Rattle.dude_engine.proofs.Serving.{serves_sync}
use Rattle.dude_engine.proofs.Steps.{failed_same, leaves_failed, left_failed, ready_same, running_sync, runs_same}
use Rattle.dude_engine.proofs.run.Run.serve_sync.Goals as goal

pub returns-in_err-number-clause-leaves : goal.returns-in_err-number-clause-leaves
returns-in_err-number-clause-leaves g c =
    let self = c.args.self.now in
    let is : c.from_residual.result ≡ Err Device = search rules in
    leaves_failed c.from_residual.result self _ Device is refl refl (λ opening words s run.
    left_failed opening words c.from_residual.result _ s _ is
    (failed_same opening words self.lay self.log c.announce.new.self (words_of self.words) self.done.items s (g.M.Medium.sight (log_medium self.log)) (g.M.Medium.sight (log_medium c.announce.new.self))
    c.requires.ready.alive c.in_err-number.ensures.closes.goes_on c.announce.ensures.closes.moments run))

pub returns-clause-leaves : goal.returns-clause-leaves
returns-clause-leaves g c =
    let self = c.args.self.now in
    let ok = c.in_ok-number.ensures in
    let tells = ok.announces.tells in
    let later = c.announce.new.self in
    let new = c.note.new.self in
    let t = g.M.Medium.sight (log_medium self.log) in
    let u = g.M.Medium.sight (log_medium later) in
    let d : Done = record { file = c.args.file; index = c.args.index; number = c.in_ok-number.number; wrote = false; request = Sync; reply = Durable } in
    let words_are : words_of new.words ≡ words_of self.words = ap (λ (f : Flat). words_of f) c.note.ensures.words in
    let clean : flat_sight new.words ≡ fresh (words_of new.words) = subst (λ (f : Flat). flat_sight f ≡ fresh (words_of f)) (sym c.note.ensures.words) c.requires.ready.clean in
    let still : g.M.Medium.sight (log_medium new.log) ≡ u = ap (λ l. g.M.Medium.sight (log_medium l)) c.note.ensures.log in
    record {
      ready = ready_same (record c.args.self.now { log = c.announce.new.self }) new c.note.ensures.log c.note.ensures.lay clean words_are
          (record { alive = ok.closes.alive refl; sizes = ok.closes.goes_on.sizes ∙ c.requires.ready.sizes; clean = c.requires.ready.clean; count = c.requires.ready.count });
      lay = c.note.ensures.lay;
      room = c.note.ensures.room;
      calls = serves_sync self new later d (log_last self.log) t u (g.M.Medium.sight (log_medium new.log)) c.note.ensures.done refl refl ok.closes.answer ok.announces.calls c.note.ensures.log words_are still;
      left = λ opening words s run.
          let next : IsNext opening self.done.items d = record { number = ok.closes.answer ∙ run.last; reply = refl; wrote = refl } in
          runs_same opening words new self.lay later (words_of self.words) (self.done.items ++ d ∷ []) s u _
          c.note.ensures.lay c.note.ensures.log words_are c.note.ensures.done still
          (running_sync opening words self.lay self.log later (words_of self.words) self.done.items d s t u next refl ok.closes.answer
          tells.last tells.durable tells.told ok.closes.goes_on tells.follows c.announce.ensures.closes.moments run);
    }

pub returns-clause-number : goal.returns-clause-number
returns-clause-number g c = ap (λ l. log_last l) c.note.ensures.log ∙ c.in_ok-number.ensures.announces.tells.last

pub returns-in_err-number-clause-kept : goal.returns-in_err-number-clause-kept
returns-in_err-number-clause-kept g c =
    let is : c.from_residual.result ≡ Err Device = search rules in
    kept_failed c.from_residual.result c.args.self.now c.announce.new.self c.announce.new.kept is c.in_err-number.ensures.closes

pub returns-clause-kept : goal.returns-clause-kept
returns-clause-kept g c =
    let self = c.args.self.now in
    let ok = c.in_ok-number.ensures in
    let d : Done = record { file = c.args.file; index = c.args.index; number = c.in_ok-number.number; wrote = false; request = Sync; reply = Durable } in
    record {
      kept = ap (λ p. are_kept p) c.note.ensures.packets ∙ ok.closes.keeps.kept;
      all = λ kept opening words s run keeps.
          let next : IsNext opening self.done.items d = record { number = ok.closes.answer ∙ run.last; reply = refl; wrote = refl } in
          keeps_as opening words c.note.new.self c.announce.new.self (words_of self.words) (self.done.items ++ d ∷ []) (kept_bundles c.announce.new.kept) keeps.arrays
          c.note.ensures.log (ap (λ (f : Flat). words_of f) c.note.ensures.words) c.note.ensures.done (ap (λ p. kept_bundles p) c.note.ensures.packets)
          (arrays_read opening self.done.items d (words_of self.words) keeps.arrays next refl keeps.has) keeps.opening_is (ok.closes.keeps.all kept keeps.arrays keeps.keeps);
    }
