use Rattle.std.proofs.Common.{◌≡◌, ◌+◌, ◌<◌, ◌^◌, All, Err, IfErr, length, slice_index, arith, refl, rules, sym, ◌∙◌, subst}
use Rattle.std.proofs.lemmas.Bool.{false≢true}
use Rattle.std.proofs.lemmas.List.Elements.{All-weaker}
use Rattle.tree_index.specs.Shape.{Leaf}
use Rattle.tatp_check.specs.declared.tree_seen.OpenFork.{OpenFork}
use Rattle.tatp_check.specs.Faults.{IsCause}
use Rattle.tatp_check.specs.TreeFaults.{IsWrongOnWalk}
use Rattle.tatp_check.specs.TreeSeen.{kept_forks}
use Rattle.tatp_check.proofs.PoolSteps.{word_inside}
use Rattle.tatp_check.proofs.TreeWalks.{behind_leaf, known_inside, leaf_taken, open_bits, open_inside, stray, wrong_key}
use Rattle.tatp_check.proofs.tree_walk.follow.Goals as goal

pub offset_bounds-a-slot : goal.offset_bounds-a-slot
offset_bounds-a-slot c = omega (arith, known_inside c.args.tree.now c.args.a.now c.args.keys.now c.requires.fits c.requires.knows)

pub bounds-a-slot : goal.bounds-a-slot
bounds-a-slot c = known_inside c.args.tree.now c.args.a.now c.args.keys.now c.requires.fits c.requires.knows

pub go_down-requires-clause-slot : goal.go_down-requires-clause-slot
go_down-requires-clause-slot c = known_inside c.args.tree.now c.args.a.now c.args.keys.now c.requires.fits c.requires.knows

pub go_down-requires-clause-count : goal.go_down-requires-clause-count
go_down-requires-clause-count c = c.requires.knows.records.forks_marked.size

pub returns-in_err-zeros-clause-fault : goal.returns-in_err-zeros-clause-fault
returns-in_err-zeros-clause-fault c =
    let was : c.from_residual.result ≡ Err c.in_err-zeros.field-0.0 = search rules in
    subst (λ r. IfErr r (IsCause (IsWrongOnWalk c.args.tree.now c.args.a.now c.args.keys.now))) (sym was) (c.in_err-zeros.ensures.fault c.args.keys.now c.requires.knows)

pub returns-then-has-clause-knows : goal.returns-then-has-clause-knows
returns-then-has-clause-knows c = c.in_ok-zeros.ensures.down c.args.keys.now c.requires.knows

-- ---- a leaf

pub meet-requires-clause-count : goal.meet-requires-clause-count
meet-requires-clause-count c = c.requires.knows.records.leaves_marked.size

pub returns-then-not-meet-clause-fault : goal.returns-then-not-meet-clause-fault
returns-then-not-meet-clause-fault c =
    let known = c.requires.knows in
    stray c.args.tree.now c.args.a.now c.args.keys.now known (c.if-not-meet.ensures.meets _ known.records.leaves_marked) (λ new. false≢true (sym c.if-has.false ∙ c.has.ensures.1 new.place))

pub offset_bounds-a-at : goal.offset_bounds-a-at
offset_bounds-a-at c = omega (arith, word_inside 0 c.requires.fits.leaves c.if-not-meet.ensures.place (omega (arith, c.requires.fits.leaf_size)))

pub bounds-a-at : goal.bounds-a-at
bounds-a-at c = omega (arith, word_inside 0 c.requires.fits.leaves c.if-not-meet.ensures.place (omega (arith, c.requires.fits.leaf_size)))

pub returns-then-not-is_known-clause-fault : goal.returns-then-not-is_known-clause-fault
returns-then-not-is_known-clause-fault c =
    let known = c.requires.knows in
    let met = c.if-not-meet.ensures.meets _ known.records.leaves_marked in
    wrong_key c.args.tree.now c.args.a.now c.args.keys.now known met.0 (λ both. false≢true (sym c.if-not-is_known.true ∙ c.is_known.ensures.1 both.0))

pub goes_by_turns-requires : goal.goes_by_turns-requires
goes_by_turns-requires c =
    let known = c.requires.knows in
    record { bits = subst (All (λ (fork : OpenFork). fork.bit < 64)) (sym (c.as_slice.ensures.value ∙ known.above)) (open_bits c.args.tree.now c.args.a.now c.args.keys.now known.turns known.walked) }

pub returns-then-not-goes_by_turns-clause-fault : goal.returns-then-not-goes_by_turns-clause-fault
returns-then-not-goes_by_turns-clause-fault c =
    let known = c.requires.knows in
    let met = c.if-not-meet.ensures.meets _ known.records.leaves_marked in
    let tests = c.goes_by_turns.ensures known.turns (c.as_slice.ensures.value ∙ known.above) in
    wrong_key c.args.tree.now c.args.a.now c.args.keys.now known met.0 (λ both. false≢true (sym c.if-not-goes_by_turns.true ∙ tests.1 both.1))

pub turn_back-requires : goal.turn_back-requires
turn_back-requires c =
    let known = c.requires.knows in
    record {
      small = subst (All (λ (fork : OpenFork). fork.at + 3 < 2 ^ 64)) (sym known.above)
          (All-weaker (λ (fork : OpenFork). fork.at + 3 < length c.args.a.now) (λ (fork : OpenFork). fork.at + 3 < 2 ^ 64) (λ fork less. omega (arith, less)) (kept_forks known.turns) (open_inside c.args.tree.now c.args.a.now c.args.keys.now c.requires.fits known.turns known.walked));
    }

pub returns-clause-knows : goal.returns-clause-knows
returns-clause-knows c =
    let known = c.requires.knows in
    let met = c.if-not-meet.ensures.meets _ known.records.leaves_marked in
    let tests = c.goes_by_turns.ensures known.turns (c.as_slice.ensures.value ∙ known.above) in
    let goes = tests.0 c.if-not-goes_by_turns.false in
    let at = slice_index c.args.a.now c.args.slot in
    behind_leaf c.args.tree.now c.args.a.now c.args.keys.now known _ _ met.0 (c.is_known.ensures.0 c.if-not-is_known.false) goes met.1
    (leaf_taken c.args.tree.now c.args.a.now c.args.keys.now known _ _ _ refl (c.in_ok-take.ensures c.args.a.now refl) goes) refl refl
    (c.in_ok-next.ensures c.args.tree.now.root known.turns (Leaf at (slice_index c.args.a.now at)) known.above refl)

pub returns-clause-more : goal.returns-clause-more
returns-clause-more c = omega (arith, c.if-not-meet.ensures.fewer)
