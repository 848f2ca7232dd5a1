use Rattle.std.proofs.Common.{◌≡◌, ◌+◌, ◌++◌, [], ◌∷◌, true, Err, List, All, get_or, map, take, refl, sym, ap, ◌∙◌, subst, arith, rules}
use Rattle.std.proofs.lemmas.List.{take_all, take_more, map_push}
use Rattle.std.proofs.lemmas.List.Elements.{All-nil, All-push}
use Rattle.dude_base.specs.Records.{RedoBundle}
use Rattle.pmem_trait.proofs.ReadRuns.{reads_here, reads_then, content_before}
use Rattle.redo_record.specs.Images.{IsComplete}
use Rattle.log_ring.specs.declared.head.Head.{Head}
use Rattle.log_ring.specs.declared.scan_fault.ScanFault.TheVariants.{Damaged}
use Rattle.log_ring.specs.Heads.{bundle_of_head, cell_of}
use Rattle.log_ring.specs.Scan.{IsReplayable}
use Rattle.log_ring.proofs.ScanReads.{made_again}
use Rattle.log_ring.proofs.bundles.read_bundles.Goals as goal

abbrev no_head : Head
no_head = record { last = 0; span = 0; ring = 0; slot = 0 }

pub loop-head-init : goal.loop-head-init
loop-head-init g c = record {
  len = refl;
  reads = reads_here _;
  few = omega arith;
  count = c.in_ok-bundles.ensures.len;
  capacity = omega (arith, c.in_ok-bundles.ensures.exact);
  replayable = subst (All (IsReplayable c.args.place.now)) (sym c.in_ok-bundles.ensures.items) (All-nil (IsReplayable c.args.place.now));
  bundles = λ told content is. c.in_ok-bundles.ensures.items;
}

pub read_bundle-requires-clause-room : goal.read_bundle-requires-clause-room
read_bundle-requires-clause-room g c = omega (arith, c.loop-head.invariant.len, c.requires.room)

pub returns-in_err-read_bundle-clause-damaged : goal.returns-in_err-read_bundle-clause-damaged
returns-in_err-read_bundle-clause-damaged g c line is = λ told content holds complete.
    let was : c.read_bundle.result ≡ Err (Damaged line) = search (rules, is) in
    let head : Head = get_or c.args.found.now c.loop-head.head-index no_head in
    content_before {P = λ l. ¬ IsComplete c.args.place.now l (cell_of head)} {ok = true} c.loop-head.invariant.reads (c.read_bundle.ensures.damaged line was) told content holds
    (complete c.loop-head.head-index no_head c.loop-head-test.true)

pub push_reserved-requires : goal.push_reserved-requires
push_reserved-requires g c = let below = c.loop-head-test.true in omega (arith, c.loop-head.invariant.count, c.loop-head.invariant.capacity)

pub loop-head-preserved : goal.loop-head-preserved
loop-head-preserved g c =
    let found : List Head = c.args.found.now in
    let i = c.loop-head.head-index in
    let b : RedoBundle = c.in_ok-read_bundle.field-0 in
    let head : Head = get_or found i no_head in
    let next : take (i + 1) found ≡ take i found ++ head ∷ [] = take_more found i no_head c.loop-head-test.true in
    record {
      len = c.in_ok-read_bundle.ensures.len ∙ c.loop-head.invariant.len;
      reads = reads_then c.loop-head.invariant.reads c.in_ok-read_bundle.ensures.reads;
      few = (let before = c.loop-head.invariant.few in let more = c.in_ok-read_bundle.ensures.few in omega arith);
      count = omega (arith, c.push_reserved.ensures.len, c.loop-head.invariant.count);
      capacity = c.push_reserved.ensures.capacity ∙ c.loop-head.invariant.capacity;
      replayable = subst (All (IsReplayable c.args.place.now)) (sym {A = List RedoBundle} c.push_reserved.ensures.items) (All-push (IsReplayable c.args.place.now) c.loop-head.bundles.items b c.loop-head.invariant.replayable c.in_ok-read_bundle.ensures.replayable);
      bundles = λ told content is.
          let own : b ≡ bundle_of_head c.args.place.now content head =
          content_before {P = λ l. b ≡ bundle_of_head c.args.place.now l head} {ok = true} c.loop-head.invariant.reads c.in_ok-read_bundle.ensures.bundle told content is in
          c.push_reserved.ensures.items ∙ ap (λ (r : RedoBundle). c.loop-head.bundles.items ++ r ∷ []) own
          ∙ ap (λ (rs : List RedoBundle). rs ++ bundle_of_head c.args.place.now content head ∷ []) (c.loop-head.invariant.bundles told content is)
          ∙ sym {A = List RedoBundle} (map_push (bundle_of_head c.args.place.now content) (take i found) head) ∙ ap (map (bundle_of_head c.args.place.now content)) (sym next);
    }

pub returns-clause-bundles : goal.returns-clause-bundles
returns-clause-bundles g c = λ told content is.
    c.loop-head.invariant.bundles told content is ∙ ap (map (bundle_of_head c.args.place.now content)) (take_all c.loop-head.head-index c.args.found.now (omega arith))

pub returns-in_err-read_bundle-clause-reads : goal.returns-in_err-read_bundle-clause-reads
returns-in_err-read_bundle-clause-reads g c =
    made_again c.from_residual-in_err-read_bundle.result c.read_bundle.result c.in_err-read_bundle.field-0.0 _ (g.M.Medium.sight c.loop-head.m) _ (search rules) c.in_err-read_bundle.was c.loop-head.invariant.reads c.read_bundle.ensures.reads
