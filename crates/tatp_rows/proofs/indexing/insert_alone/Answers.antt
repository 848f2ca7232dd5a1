use Rattle.std.proofs.Common.{◌≡◌, Option, Some, IfErr, refl, sym, ap, ◌∙◌, subst, arith}
use Rattle.dude_base.specs.Writes.{overwritten}
use Rattle.word_space.specs.declared.stop.Stop.{Stop}
use Rattle.word_space.specs.declared.stop.Stop.TheVariants.{Conflict, Out, Busy, Wide, NoMemory}
use Rattle.word_space.specs.Flats.{flat_below, flat_sight, flat_stops, words_of}
use Rattle.word_space.specs.Sights.{WordsSight, shown}
use Rattle.word_space.specs.Sound.{IsWideOrNoMemory}
use Rattle.word_space.proofs.Runs.{few_pending, is_err}
use Rattle.tree_index.specs.Tree.{InsertsAll}
use Rattle.tatp_rows.proofs.indexing.insert_alone.Goals as goal

-- a Stop of an array at rest is want of memory, where it is not Wide
only_memory : (e : Stop) (stopped : Option Stop) → stopped ≡ Some e → IsWideOrNoMemory stopped → ¬ (e ≡ Wide) → e ≡ NoMemory
only_memory (Conflict lock seen) stopped is stops narrow = absurd (stops.no_conflict lock seen is)
only_memory (Out page) stopped is stops narrow = absurd (stops.not_out page is)
only_memory (Busy page seen) stopped is stops narrow = absurd (stops.not_busy page seen is)
only_memory Wide stopped is stops narrow = absurd (narrow refl)
only_memory NoMemory stopped is stops narrow = refl

pub returns-in_err-put-clause-memory : goal.returns-in_err-put-clause-memory
returns-in_err-put-clause-memory c =
    let after = c.insert.new.w in
    let e = c.in_err-put.field-0.0 in
    let used = c.in_err-put.ensures.uses in
    let few = few_pending {stop = Some e} used (ap (λ (t : WordsSight). t.writes) c.requires.fresh) in
    let memory = only_memory e (flat_sight after).stopped used.last.0 (flat_stops after) (λ wide. omega (arith, few, used.last.1 wide)) in
    subst (λ r. IfErr r (λ stop. stop ≡ NoMemory)) (sym (is_err c.from_residual.result c.from_residual.ensures.1)) memory

pub returns-clause-puts : goal.returns-clause-puts
returns-clause-puts c =
    let old = c.args.flat.now in
    let after = c.insert.new.w in
    let tree = c.args.tree.now in
    let key = c.args.key in
    let put = c.in_ok-put.put in
    let same : words_of after ≡ words_of old = c.in_ok-put.ensures.uses.turns old refl in
    let before : shown (flat_sight old) (words_of after) ≡ words_of old = ap (λ (t : WordsSight). overwritten t.writes (words_of after)) c.requires.fresh ∙ same in
    subst (λ b. InsertsAll tree key (words_of old) b put) (sym c.take-record.ensures.words)
    (subst (λ a. InsertsAll tree key a (shown (flat_sight after) (words_of after)) put) before (c.in_ok-put.ensures.inserts (words_of after) (flat_below after)))
