use Rattle.std.proofs.Common.{◌≡◌, ◌∙◌, ap, sym, refl, subst, arith, false, List, [], ◌∷◌, ◌++◌, length, ℕ}
use Rattle.dude_base.specs.Writes.{overwritten}
use Rattle.dude_base.specs.declared.sizes.Sizes.{Sizes}
use Rattle.pmem_trait.specs.Sights.{Sight}
use Rattle.tatp_model.specs.declared.done.Done.{Done}
use Rattle.tatp_model.specs.declared.reply.Reply.{Reply}
use Rattle.tatp_core.specs.Serves.{Serves}
use Rattle.tatp_layout.specs.StandsFor.{StandsFor}
use Rattle.word_space.specs.declared.flat.Flat.{Flat}
use Rattle.word_space.specs.Flats.{words_of, flat_sight, flat_below, fresh}
use Rattle.log_numbered.specs.KeptBundles.{are_kept, kept_bundles}
use Rattle.log_numbered.specs.RunLog.{log_last, log_medium, log_parts}
use Rattle.dude_engine.specs.Running.{IsRunning, tables_after}
use Rattle.dude_engine.specs.Opening.{Opening}
use Rattle.dude_engine.proofs.Arrays.{arrays_read}
use Rattle.dude_engine.proofs.Keeping.{keeps_as, kept_from}
use Rattle.dude_engine.proofs.Numbering.{IsNext}
use Rattle.dude_engine.specs.RunCalls.{AreBodyWrites}
use Rattle.dude_engine.proofs.Serving.{body_writes, run_parts_are, serves_from, serves_silent}
use Rattle.dude_engine.proofs.Steps.{ready_same, running_read, runs_same, served_next, unchanged}
use Rattle.dude_engine.proofs.run.Run.perform.Goals as goal

pub returns-in-Err-NoMemory-clause-leaves : goal.returns-in-Err-NoMemory-clause-leaves
returns-in-Err-NoMemory-clause-leaves g c =
    let self = c.args.self.now in
    let same : words_of c.run_request.new.w ≡ words_of self.words = c.run_request.ensures.uses.turns self.words refl in
    record { ready = tt; lay = refl; room = refl; calls = tt; left = λ opening words s run. (subst (λ (current : List ℕ). IsRunning opening words self.lay self.log current self.done.items s (g.M.Medium.sight (log_medium self.log))) (sym (c.forget.ensures.words ∙ same)) run, c.requires.may.ready.alive) }

pub returns-in-Err-NoMemory-clause-kept : goal.returns-in-Err-NoMemory-clause-kept
returns-in-Err-NoMemory-clause-kept g c =
    let self = c.args.self.now in
    let same : words_of c.run_request.new.w ≡ words_of self.words = c.run_request.ensures.uses.turns self.words refl in
    record {
      kept = refl;
      all = λ kept opening words s run keeps.
          keeps_as opening words _ self.log (words_of self.words) self.done.items (kept_bundles self.packets) keeps.arrays refl (c.forget.ensures.words ∙ same) refl refl keeps.has keeps.opening_is keeps.keeps;
    }

pub log_change-requires-clause-change : goal.log_change-requires-clause-change
log_change-requires-clause-change g c =
    let self = c.args.self.now in
    let w = c.run_request.new.w in
    let same : words_of w ≡ words_of self.words = c.run_request.ensures.uses.turns self.words refl in
    record {
      alive = c.requires.may.ready.alive;
      sizes = c.requires.may.ready.sizes;
      count = ap length same ∙ c.requires.may.ready.count;
      writes = subst (λ (reply : Reply). AreBodyWrites self.lay (words_of w) c.args.request.now reply (flat_sight w).writes) c.in-Changed.is
          (body_writes self.lay c.args.request.now c.in-Ok.reply w c.in-Ok.ensures.answers);
    }

pub returns-in-Changed-clause-leaves : goal.returns-in-Changed-clause-leaves
returns-in-Changed-clause-leaves g c =
    let self = c.args.self.now in
    let leaves = c.log_change.ensures.leaves in
    let same : words_of c.run_request.new.w ≡ words_of self.words = c.run_request.ensures.uses.turns self.words refl in
    record {
      ready = leaves.ready;
      lay = leaves.lay;
      room = leaves.room;
      calls = serves_from _ _ self (record c.args.self.now { words = c.run_request.new.w }) c.log_change.new.self c.log_change.result refl refl
          (run_parts_are (words_of c.run_request.new.w) (words_of self.words) (log_parts self.log) (log_parts self.log) same refl) leaves.calls;
      left = λ opening words s run. leaves.left opening words s
          (subst (λ (current : List ℕ). IsRunning opening words self.lay self.log current self.done.items s (g.M.Medium.sight (log_medium self.log))) (sym same) run);
    }

pub returns-in-Changed-clause-kept : goal.returns-in-Changed-clause-kept
returns-in-Changed-clause-kept g c =
    let self = c.args.self.now in
    let same : words_of c.run_request.new.w ≡ words_of self.words = c.run_request.ensures.uses.turns self.words refl in
    kept_from self (record c.args.self.now { words = c.run_request.new.w }) c.log_change.new.self c.log_change.result refl refl same refl refl refl c.log_change.ensures.kept

pub returns-in_default : goal.returns-in_default
returns-in_default g c =
    let self = c.args.self.now in
    let w = c.run_request.new.w in
    let same : words_of w ≡ words_of self.words = c.run_request.ensures.uses.turns self.words refl in
    let d : Done = record { file = c.args.file; index = c.args.index; number = c.last-number.result; wrote = false; request = c.args.request.now; reply = c.in-Ok.reply } in
    let words_are : words_of c.note.new.self.words ≡ words_of self.words = ap (λ (f : Flat). words_of f) c.note.ensures.words ∙ c.forget-in_default.ensures.words ∙ same in
    let clean : flat_sight c.note.new.self.words ≡ fresh (words_of c.note.new.self.words) =
    subst (λ (f : Flat). flat_sight f ≡ fresh (words_of f)) (sym c.note.ensures.words) (c.forget-in_default.ensures.fresh ∙ ap fresh (sym c.forget-in_default.ensures.words)) in
    let next : (opening : Opening) (words : List ℕ) (s : Sight) → IsRunning opening words self.lay self.log (words_of self.words) self.done.items s (g.M.Medium.sight (log_medium self.log)) → IsNext opening self.done.items d =
    λ opening words s run.
    let stands : StandsFor self.lay (words_of w) (tables_after opening self.done.items) =
    subst (λ (z : Sizes). StandsFor z (words_of w) (tables_after opening self.done.items)) run.layout (subst (λ (l : List ℕ). StandsFor opening.sizes l (tables_after opening self.done.items)) (sym same) run.stands) in
    let served : Serves self.lay (tables_after opening self.done.items) d.request d.reply (overwritten (flat_sight w).writes (words_of w)) = c.in-Ok.ensures.answers.serves (words_of w) (flat_below w).agrees (tables_after opening self.done.items) stands in
    served_next opening self.lay self.done.items d (overwritten (flat_sight w).writes (words_of w)) run.layout (c.last-number.ensures ∙ run.last) (unchanged c.in-Ok.reply c.in_default.not-Changed) served in
    record {
      leaves = record {
        ready = ready_same self c.note.new.self c.note.ensures.log c.note.ensures.lay clean words_are c.requires.may.ready;
        lay = c.note.ensures.lay;
        room = c.note.ensures.room;
        calls = serves_silent self c.note.new.self d (g.M.Medium.sight (log_medium self.log)) (g.M.Medium.sight (log_medium c.note.new.self.log)) c.note.ensures.done refl c.requires.no_sync c.note.ensures.log words_are (ap (λ l. g.M.Medium.sight (log_medium l)) c.note.ensures.log);
        left = λ opening words s run.
            runs_same opening words c.note.new.self self.lay self.log (words_of self.words) (self.done.items ++ d ∷ []) s (g.M.Medium.sight (log_medium self.log)) _
            c.note.ensures.lay c.note.ensures.log words_are c.note.ensures.done (ap (λ l. g.M.Medium.sight (log_medium l)) c.note.ensures.log)
            (running_read opening words self.lay self.log (words_of self.words) self.done.items d s (g.M.Medium.sight (log_medium self.log)) (next opening words s run) refl c.requires.no_sync run);
      };
      kept = record {
        kept = ap (λ p. are_kept p) c.note.ensures.packets;
        all = λ kept opening words s run keeps.
            keeps_as opening words c.note.new.self self.log (words_of self.words) (self.done.items ++ d ∷ []) (kept_bundles self.packets) keeps.arrays
            c.note.ensures.log words_are c.note.ensures.done (ap (λ p. kept_bundles p) c.note.ensures.packets)
            (arrays_read opening self.done.items d (words_of self.words) keeps.arrays (next opening words s run) refl keeps.has) keeps.opening_is keeps.keeps;
      };
      number = omega (arith, ap (λ l. log_last l) c.note.ensures.log);
      adds = record { entry = d; added = c.note.ensures.done; file_is = refl; index_is = refl; asked = refl };
    }
