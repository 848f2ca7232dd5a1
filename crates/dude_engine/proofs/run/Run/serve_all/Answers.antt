use Rattle.std.proofs.Common.{◌≡◌, ◌≤◌, ◌∙◌, ℕ, sym, refl, subst, arith, rules, length, map, List, Ok, Err, Result}
use Rattle.std.specs.List.{All}
use Rattle.std.proofs.lemmas.List.{length-map}
use Rattle.std.proofs.lemmas.List.Elements.{All-weaker}
use Rattle.tatp_model.specs.declared.done.Done.{Done}
use Rattle.tatp_model.specs.declared.request.Request.{Request}
use Rattle.tatp_model.specs.Request.{IsInRange}
use Rattle.log_numbered.specs.RunLog.{log_medium}
use Rattle.run_order.proofs.Rounds.{Rounds, rounds_all, rounds_collect, rounds_first, rounds_rounds, rounds_start, rounds_turn}
use Rattle.dude_engine.specs.declared.run_fault.RunFault.{RunFault}
use Rattle.dude_engine.specs.Running.{IsLeft}
use Rattle.dude_engine.proofs.Keeping.{kept_here, kept_same, kept_then}
use Rattle.dude_engine.proofs.Serving.{serves_none, serves_then}
use Rattle.dude_engine.proofs.Steps.{fault_on_ok}
use Rattle.dude_engine.proofs.Turns.{all_at, file_there, room_for, turn_last, turn_next}
use Rattle.dude_engine.proofs.run.Run.serve_all.Goals as goal

pub loop-index-init : goal.loop-index-init
loop-index-init g c = record {
  ready = c.requires.start.ready;
  lay = refl;
  room = refl;
  number = omega arith;
  rounds = subst (λ (done : List Done). Rounds (map (λ f. f.items) c.args.files.now) 0 0 done) (sym c.requires.start.empty) (rounds_start (map (λ f. f.items) c.args.files.now));
  left = λ opening words s run. run;
  calls = serves_none c.args.self.now (g.M.Medium.sight (log_medium c.args.self.now.log));
  kept = kept_here c.args.self.now;
}

pub serve_turn-requires-clause-room : goal.serve_turn-requires-clause-room
serve_turn-requires-clause-room g c below =
    let there = file_there (λ f. f.items) c.args.files.now c.loop-file.file _ c.deref.result.now c.loop-file-test.true c.index-files-file.is c.deref.ensures.value in
    omega (arith, room_for _ c.loop-index.index c.loop-file.file c.loop-file.self.done.items c.deref.result.now there below c.loop-file.invariant.rounds, c.loop-file.invariant.room, c.requires.room, c.loop-file.self.done.ok.0)

pub serve_turn-requires-clause-number : goal.serve_turn-requires-clause-number
serve_turn-requires-clause-number g c below =
    let there = file_there (λ f. f.items) c.args.files.now c.loop-file.file _ c.deref.result.now c.loop-file-test.true c.index-files-file.is c.deref.ensures.value in
    omega (arith, room_for _ c.loop-index.index c.loop-file.file c.loop-file.self.done.items c.deref.result.now there below c.loop-file.invariant.rounds, c.loop-file.invariant.number, c.requires.numbers, c.loop-file.self.done.ok.0)

pub serve_turn-requires-clause-in_range : goal.serve_turn-requires-clause-in_range
serve_turn-requires-clause-in_range g c =
    let there = file_there (λ f. f.items) c.args.files.now c.loop-file.file _ c.deref.result.now c.loop-file-test.true c.index-files-file.is c.deref.ensures.value in
    all_at (λ (requests : List Request). All IsInRange requests) _ c.loop-file.file c.deref.result.now there c.requires.in_range

pub loop-file-preserved : goal.loop-file-preserved
loop-file-preserved g c =
    let files = map (λ f. f.items) c.args.files.now in
    let i = c.loop-file.invariant in
    let ok = c.in_ok-serve_turn.ensures in
    let there = file_there (λ f. f.items) c.args.files.now c.loop-file.file _ c.deref.result.now c.loop-file-test.true c.index-files-file.is c.deref.ensures.value in
    record {
      ready = ok.leaves.ready;
      lay = c.serve_turn.ensures.leaves.lay ∙ i.lay;
      room = c.serve_turn.ensures.leaves.room ∙ i.room;
      number = omega (arith, ok.number, i.number);
      rounds = turn_next files c.loop-index.index c.loop-file.file c.deref.result.now c.loop-file.self.done.items c.serve_turn.new.self.done.items there ok.adds i.rounds;
      left = λ opening words s run. ok.leaves.left opening words s (i.left opening words s run);
      calls = serves_then c.args.self.now c.loop-file.self c.serve_turn.new.self (g.M.Medium.sight (log_medium c.args.self.now.log)) (g.M.Medium.sight (log_medium c.loop-file.self.log)) (g.M.Medium.sight (log_medium c.serve_turn.new.self.log)) i.lay i.calls ok.leaves.calls;
      kept = kept_then (Ok tt) c.args.self.now c.loop-file.self c.serve_turn.new.self i.left i.kept ok.kept;
    }

pub loop-index-preserved : goal.loop-index-preserved
loop-index-preserved g c =
    let files = map (λ f. f.items) c.args.files.now in
    let i = c.loop-file.invariant in
    let all : c.loop-file.file ≡ length files = omega (arith, c.loop-file-test.false, c.loop-file.auto.file-end, length-map c.args.files.now (λ f. f.items)) in
    record {
      ready = i.ready;
      lay = i.lay;
      room = i.room;
      number = i.number;
      rounds = rounds_turn files c.loop-index.index c.loop-file.self.done.items (subst (λ (k : ℕ). Rounds files c.loop-index.index k c.loop-file.self.done.items) all i.rounds);
      left = i.left;
      calls = i.calls;
      kept = i.kept;
    }

pub returns-in_err-serve_turn-clause-leaves : goal.returns-in_err-serve_turn-clause-leaves
returns-in_err-serve_turn-clause-leaves g c =
    let i = c.loop-file.invariant in
    let leaves = c.in_err-serve_turn.ensures.leaves in
    let is : c.from_residual.result ≡ Err c.in_err-serve_turn.field-0.0 = search rules in
    record {
      ready = fault_on_ok _ c.from_residual.result c.in_err-serve_turn.field-0.0 is;
      lay = leaves.lay ∙ i.lay;
      room = leaves.room ∙ i.room;
      calls = fault_on_ok _ c.from_residual.result c.in_err-serve_turn.field-0.0 is;
      left = λ opening words s run.
          subst (λ (r : Result (Unit {0}) RunFault). IsLeft r opening words c.serve_turn.new.self s (g.M.Medium.sight (log_medium c.serve_turn.new.self.log))) (sym is)
          (leaves.left opening words s (i.left opening words s run));
    }

pub returns-in_err-serve_turn-clause-performs : goal.returns-in_err-serve_turn-clause-performs
returns-in_err-serve_turn-clause-performs g c =
    let files = map (λ f. f.items) c.args.files.now in
    let performed = c.serve_turn.new.self.done.items in
    let i = c.loop-file.invariant in
    let is : c.from_residual.result ≡ Err c.in_err-serve_turn.field-0.0 = search rules in
    let there = file_there (λ f. f.items) c.args.files.now c.loop-file.file _ c.deref.result.now c.loop-file-test.true c.index-files-file.is c.deref.ensures.value in
    let last = turn_last files c.loop-index.index c.loop-file.file c.deref.result.now c.loop-file.self.done.items performed c.in_err-serve_turn.field-0.0 there c.in_err-serve_turn.ensures.adds i.rounds in
    record {
      rounds = rounds_rounds files c.loop-index.index last.0 performed last.1;
      collects = λ done same sorted. rounds_collect files c.loop-index.index last.0 performed done last.1 same sorted;
      first = λ done same sorted. rounds_first files c.loop-index.index last.0 performed done last.1 same sorted;
      all = fault_on_ok _ c.from_residual.result c.in_err-serve_turn.field-0.0 is;
    }

pub returns-clause-leaves : goal.returns-clause-leaves
returns-clause-leaves g c =
    let i = c.loop-index.invariant in
    record { ready = i.ready; lay = i.lay; room = i.room; calls = i.calls; left = i.left }

pub returns-clause-performs : goal.returns-clause-performs
returns-clause-performs g c =
    let files = map (λ f. f.items) c.args.files.now in
    let index = c.loop-index.index in
    let performed = c.loop-index.self.done.items in
    let rounds = c.loop-index.invariant.rounds in
    record {
      rounds = rounds_rounds files index 0 performed rounds;
      collects = λ done same sorted. rounds_collect files index 0 performed done rounds same sorted;
      first = λ done same sorted. rounds_first files index 0 performed done rounds same sorted;
      all = λ done same sorted.
          let over = c.loop-index-test.false in
          let longest = c.longest_file-longest.result in
          let short : All (λ requests. length requests ≤ index) files =
          All-weaker (λ (requests : List Request). length requests ≤ longest) (λ (requests : List Request). length requests ≤ index) (λ requests h. omega (arith, h, over)) files c.longest_file-longest.ensures.none_longer in
          rounds_all files index performed done short rounds same sorted;
    }

pub returns-in_err-serve_turn-clause-kept : goal.returns-in_err-serve_turn-clause-kept
returns-in_err-serve_turn-clause-kept g c =
    let i = c.loop-file.invariant in
    let fault = c.in_err-serve_turn.field-0.0 in
    let is : c.from_residual.result ≡ Err fault = search rules in
    kept_same c.from_residual.result (Err fault) c.args.self.now c.serve_turn.new.self is
    (kept_then (Err fault) c.args.self.now c.loop-file.self c.serve_turn.new.self i.left i.kept c.in_err-serve_turn.ensures.kept)

pub returns-clause-kept : goal.returns-clause-kept
returns-clause-kept g c = c.loop-index.invariant.kept
