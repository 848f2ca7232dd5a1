-- The calls by which requests are served, one request after another.
use Rattle.std.proofs.Common.{◌≡◌, ℕ, true, false, List, [], ◌∷◌, ◌++◌, Result, Ok, Err, append_assoc, append-nil, refl, sym, ap, ◌∙◌, subst}
use Rattle.std.specs.Prelude.{AllPairs, IsPermutation, OnOk}
use Rattle.dude_base.specs.declared.sizes.Sizes.{Sizes}
use Rattle.dude_base.specs.declared.write.Write.{Write}
use Rattle.dude_base.specs.Records.{RedoRecord}
use Rattle.dude_base.specs.Writes.{overwritten}
use Rattle.pmem_trait.specs.declared.medium.Medium.{Ghosts}
use Rattle.pmem_trait.specs.declared.call.Call.{Call}
use Rattle.pmem_trait.specs.Sights.{Sight, CallsMade, CallsMade.none as no_call}
use Rattle.pmem_trait.proofs.Runs.{made_then}
use Rattle.tatp_model.specs.declared.done.Done.{Done}
use Rattle.tatp_model.specs.declared.reply.Reply.{Reply}
use Rattle.tatp_model.specs.declared.request.Request.{Request}
use Rattle.tatp_model.specs.Database.{Database}
use Rattle.tatp_model.specs.OneThread.{is_sync}
use Rattle.tatp_layout.specs.StandsFor.{StandsFor}
use Rattle.tatp_core.specs.Serves.{Answers, Serves}
use Rattle.word_space.specs.declared.flat.Flat.{Flat}
use Rattle.word_space.specs.Flats.{flat_below, flat_sight, words_of}
use Rattle.run_order.specs.Runs.{PrecedesInRounds}
use Rattle.back_store.specs.Back.{BackState}
use Rattle.log_numbered.specs.declared.run_log.RunLog.{RunLog}
use Rattle.back_store.specs.Operations.{Makes}
use Rattle.log_numbered.specs.LogCalls.{AnnouncedBy, AppendedBy, CheckpointedBy, LogParts}
use Rattle.log_numbered.specs.RunLog.{log_parts}
use Rattle.log_numbered.proofs.LoggedCalls.{parts}
use Rattle.dude_engine.specs.declared.run.Run.{Run}
use Rattle.dude_engine.specs.declared.run_fault.RunFault.{RunFault}
use Rattle.dude_engine.specs.RunCalls.{AreBodyWrites, IsRecordOf, MakesItsCalls, RunBy, RunParts, ServedBy, ServedBy.logged, ServedBy.told, ServedBy.silent, ServedInTurn, ServedInTurn.none, ServedInTurn.next, run_at_start}
use Rattle.dude_engine.specs.Running.{ServesMore, run_parts}

-- ---- the writes of a request's body

-- what a body leaves pending over an array
pub body_writes : (sizes : Sizes) (request : Request) (reply : Reply) (new : Flat) → Answers sizes request reply (flat_sight new).reads (flat_sight new).writes
    → AreBodyWrites sizes (words_of new) request reply (flat_sight new).writes
body_writes sizes request reply new answers = record { reads = (flat_sight new).reads; agree = (flat_below new).agrees; answered = answers }

-- by them the request is served
pub served_by_writes : (sizes : Sizes) (words : List ℕ) (request : Request) (reply : Reply) (writes : List Write) → AreBodyWrites sizes words request reply writes
    → (db : Database) → StandsFor sizes words db → Serves sizes db request reply (overwritten writes words)
served_by_writes sizes words request reply writes body = body.answered.serves words body.agree

-- ---- the calls

abbrev of_parts : List ℕ → LogParts → RunParts
of_parts words log = record { words = words; log = log }

pub run_parts_are : (x y : List ℕ) (k l : LogParts) → x ≡ y → k ≡ l → of_parts x k ≡ of_parts y l
run_parts_are x y k l words log = ap (λ (ws : List ℕ). of_parts ws k) words ∙ ap (λ (p : LogParts). of_parts y p) log

-- the calls of a run, as its caller sees them
pub makes_its_calls : (lay sizes : Sizes) (k : RunParts) (words : List ℕ) (w : BackState) (performed done : List Done) (durable last : ℕ) (r s t u : Sight) → lay ≡ sizes → k ≡ run_at_start words w → r ≡ s → u ≡ t → last ≡ durable
    → IsPermutation performed done → AllPairs PrecedesInRounds performed → Makes (RunBy lay k performed durable) r t → MakesItsCalls sizes words w done last s u
makes_its_calls lay sizes k words w performed done durable last r s t u lay_is start entry exit last_is same rounds makes = record {
  performed = performed;
  same = same;
  rounds = rounds;
  makes = (
    makes.0,
    subst (λ (z : Sizes). RunBy z (run_at_start words w) performed last makes.0) lay_is
        (subst (λ n. RunBy lay (run_at_start words w) performed n makes.0) (sym last_is) (subst (λ (x : RunParts). RunBy lay x performed durable makes.0) start makes.1)),
    subst (λ (x : Sight). CallsMade makes.0 true s x) (sym exit) (subst (λ (x : Sight). CallsMade makes.0 true x t) entry makes.2),
  );
}

-- some requests, and then others
served_then : {sizes : Sizes} {xs ys : List Done} {v u w : RunParts} {a b : List Call} → ServedInTurn sizes xs v u a → ServedInTurn sizes ys u w b → ServedInTurn sizes (xs ++ ys) v w (a ++ b)
served_then none later = later
served_then {sizes = sizes} {ys = ys} {w = w} {b = b} (next {d = d} {performed = rest} {k = v} {calls = calls} {more = more} by served) later =
    subst (λ (cs : List Call). ServedInTurn sizes (d ∷ (rest ++ ys)) v w cs) (sym (append_assoc calls more b)) (next by (served_then served later))

module _ {M : Type 0} {ghosts : Ghosts M} where
  -- no request more
  pub serves_none : (run : Run M ghosts) (s : Sight) → ServesMore run s run s
  serves_none run s = record { more = []; done = sym (append-nil run.done.items); makes = ([], none, no_call) }

  -- from a run of the same layout, the same parts, and the same done
  pub serves_from : (s t : Sight) (run other later : Run M ghosts) (result : Result (Unit {0}) RunFault) → other.done.items ≡ run.done.items → other.lay ≡ run.lay → run_parts other ≡ run_parts run
      → OnOk result (ServesMore other s later t) → OnOk result (ServesMore run s later t)
  serves_from s t run other later (Ok served) done lay parts m = record {
    more = m.more;
    done = m.done ∙ ap (λ (x : List Done). x ++ m.more) done;
    makes = subst (λ (z : Sizes). Makes (ServedInTurn z m.more (run_parts run) (run_parts later)) s t) lay
        (subst (λ (k : RunParts). Makes (ServedInTurn other.lay m.more k (run_parts later)) s t) parts m.makes);
  }
  serves_from s t run other later (Err fault) done lay parts m = tt

  -- one more
  pub serves_one : (run later : Run M ghosts) (d : Done) (s t : Sight) → later.done.items ≡ run.done.items ++ d ∷ [] → Makes (ServedBy run.lay d (run_parts run) (run_parts later)) s t → ServesMore run s later t
  serves_one run later d s t done makes = record { more = d ∷ []; done = done; makes = (makes.0 ++ [], next makes.1 none, made_then makes.2 no_call) }

  -- some more, and then others
  pub serves_then : (k l m : Run M ghosts) (s t u : Sight) → l.lay ≡ k.lay → ServesMore k s l t → ServesMore l t m u → ServesMore k s m u
  serves_then k l m s t u lay one other = record {
    more = one.more ++ other.more;
    done = other.done ∙ ap (λ (x : List Done). x ++ other.more) one.done ∙ append_assoc k.done.items one.more other.more;
    makes = (
      one.makes.0 ++ other.makes.0,
      served_then one.makes.1 (subst (λ (z : Sizes). ServedInTurn z other.more (run_parts l) (run_parts m) other.makes.0) lay other.makes.1),
      made_then one.makes.2 other.makes.2,
    );
  }

  -- a request whose record was appended
  pub serves_logged : (run later : Run M ghosts) (d : Done) (r : RedoRecord) (s t : Sight) → later.done.items ≡ run.done.items ++ d ∷ [] → d.wrote ≡ true → IsRecordOf run.lay (words_of run.words) d r
      → words_of later.words ≡ overwritten r.writes (words_of run.words) → Makes (AppendedBy d.file r (log_parts run.log) (log_parts later.log)) s t → ServesMore run s later t
  serves_logged run later d r s t done wrote is words makes = serves_one run later d s t done (makes.0, logged r wrote is words makes.1, makes.2)

  -- a `SYNC`, behind which the log is this
  pub serves_sync : (run later : Run M ghosts) (log : RunLog M ghosts) (d : Done) (last : ℕ) (s t u : Sight) → later.done.items ≡ run.done.items ++ d ∷ [] → d.wrote ≡ false → is_sync d.request ≡ true → d.number ≡ last
      → Makes (AnnouncedBy (log_parts run.log) last (log_parts log)) s t → later.log ≡ log → words_of later.words ≡ words_of run.words → u ≡ t → ServesMore run s later u
  serves_sync run later log d last s t u done unwritten sync number makes log_is words still =
      serves_one run later d s u done (
        makes.0,
        told unwritten sync words
            (subst (λ (l : RunLog M ghosts). AnnouncedBy (log_parts run.log) d.number (log_parts l) makes.0) (sym log_is) (subst (λ n. AnnouncedBy (log_parts run.log) n (log_parts log) makes.0) (sym number) makes.1)),
        subst (λ (v : Sight). CallsMade makes.0 true s v) (sym still) makes.2,
      )

  -- a request that makes no call
  pub serves_silent : (run later : Run M ghosts) (d : Done) (s t : Sight) → later.done.items ≡ run.done.items ++ d ∷ [] → d.wrote ≡ false → is_sync d.request ≡ false → later.log ≡ run.log → words_of later.words ≡ words_of run.words → t ≡ s
      → ServesMore run s later t
  serves_silent run later d s t done unwritten other log_is words still =
      serves_one run later d s t done (
        [],
        silent unwritten other (run_parts_are (words_of later.words) (words_of run.words) (log_parts later.log) (log_parts run.log) words (ap (λ (l : RunLog M ghosts). log_parts l) log_is)) refl,
        subst (λ (v : Sight). CallsMade [] true s v) (sym still) no_call,
      )

  -- all, and the settlement at the end
  pub runs_by : (first run : Run M ghosts) (end : LogParts) (last durable : ℕ) (s t u : Sight) → first.done.items ≡ [] → ServesMore first s run t → durable ≡ last → Makes (CheckpointedBy (log_parts run.log) last end) t u
      → Makes (RunBy first.lay (run_parts first) run.done.items durable) s u
  runs_by first run end last durable s t u empty serves same settles =
      let performed : run.done.items ≡ serves.more = serves.done ∙ ap (λ (x : List Done). x ++ serves.more) empty in (
        serves.makes.0 ++ settles.0,
        record {
          served_to = run_parts run;
          serving = serves.makes.0;
          served = subst (λ (x : List Done). ServedInTurn first.lay x (run_parts first) (run_parts run) serves.makes.0) (sym performed) serves.makes.1;
          end = end;
          settling = settles.0;
          settled_by = subst (λ n. CheckpointedBy (log_parts run.log) n end settles.0) (sym same) settles.1;
          calls_are = refl;
        },
        made_then serves.makes.2 settles.2,
      )
