use Rattle.std.proofs.Common.{◌≡◌, ◌∷◌, ℕ, true, List, sym, subst, refl}
use Rattle.dude_base.specs.declared.write.Write.{Write}
use Rattle.dude_core.specs.StoreData.{tells}
use Rattle.dude_core.specs.Effects.{reads_page, tells_number, replays, appends}
use Rattle.dude_core.specs.MadeCalls.{IsNext}
use Rattle.dude_core.specs.NextCalls.{Replays, ReplaysNoneTo}
use Rattle.dude_core.proofs.MadeCalls.{refused_ok, refused_err, refused_off, next_reads, next_announces, next_replays, next_persists, makes_none, apart_over, read_inside, persist_ring, persist_numbers, persist_inside}
use Rattle.dude_core.proofs.device.make_call.Goals as goal

pub read_page-requires : goal.read_page-requires
read_page-requires c = read_inside c.args.z.now c.args.state.now c.args.store.now c.args.call c.requires.kept c.in-Some.page c.in-Some.is_last c.in-Some.ensures.some

pub returns-in-Some-clause-ok : goal.returns-in-Some-clause-ok
returns-in-Some-clause-ok c = refused_ok c.args.z.now c.args.state.now c.args.store.now c.args.call c.read_page.result c.or_refused.result c.or_refused.ensures (reads_page c.in-Some.page) c.in-Some.is_last c.read_page.new.store
    (next_reads c.args.z.now c.args.state.now c.args.store.now c.args.call c.in-Some.page c.in-Some.is_last c.in-Some.ensures.some) c.read_page.ensures.ok

pub returns-in-Some-clause-err : goal.returns-in-Some-clause-err
returns-in-Some-clause-err c = refused_err (c.read_page.new.store ≡ c.args.store.now) c.read_page.result c.or_refused.result c.or_refused.ensures c.read_page.ensures.err

pub returns-in-Some-clause-off : goal.returns-in-Some-clause-off
returns-in-Some-clause-off c = refused_off c.args.z.now c.args.state.now c.args.store.now c.args.call c.read_page.result c.or_refused.result c.or_refused.ensures (reads_page c.in-Some.page) c.in-Some.is_last
    (next_reads c.args.z.now c.args.state.now c.args.store.now c.args.call c.in-Some.page c.in-Some.is_last c.in-Some.ensures.some)

pub next_replay-requires-clause-apart : goal.next_replay-requires-clause-apart
next_replay-requires-clause-apart c = apart_over c.args.z.now c.args.state.now c.args.store.now c.args.call c.requires.kept

pub returns-in-Some-next_told-clause-ok : goal.returns-in-Some-next_told-clause-ok
returns-in-Some-next_told-clause-ok c = refused_ok c.args.z.now c.args.state.now c.args.store.now c.args.call c.announce.result c.or_refused-in-Some-next_told.result c.or_refused-in-Some-next_told.ensures (tells_number c.in-Some-next_told.field-0) true c.announce.new.store
    (next_announces c.args.z.now c.args.state.now c.args.store.now c.args.call c.in-Some-next_told.field-0 c.in-Some-next_told.ensures.some) c.announce.ensures.ok

pub returns-in-Some-next_told-clause-err : goal.returns-in-Some-next_told-clause-err
returns-in-Some-next_told-clause-err c = refused_err (c.announce.new.store ≡ c.args.store.now) c.announce.result c.or_refused-in-Some-next_told.result c.or_refused-in-Some-next_told.ensures c.announce.ensures.err

pub returns-in-Some-next_told-clause-off : goal.returns-in-Some-next_told-clause-off
returns-in-Some-next_told-clause-off c = refused_off c.args.z.now c.args.state.now c.args.store.now c.args.call c.announce.result c.or_refused-in-Some-next_told.result c.or_refused-in-Some-next_told.ensures (tells_number c.in-Some-next_told.field-0) true
    (next_announces c.args.z.now c.args.state.now c.args.store.now c.args.call c.in-Some-next_told.field-0 c.in-Some-next_told.ensures.some)

-- the call is the next one of a reproduction
replayed : (c : goal.After-or_refused-in-Some-next_replay) → IsNext c.args.z.now c.args.state.now c.args.store.now c.args.call (replays c.writes.result.now c.in-Some-next_replay.number) c.in-Some-next_replay.is_last
replayed c = next_replays c.args.z.now c.args.state.now c.args.store.now c.args.call c.writes.result.now c.in-Some-next_replay.number c.in-Some-next_replay.is_last
    (subst (λ (ws : List Write). Replays (c.args.z.now.first ∷ tells c.args.store.now.ended) c.args.store.now c.args.call ws c.in-Some-next_replay.number c.in-Some-next_replay.is_last) (sym c.writes.ensures.writes)
    (subst (λ (n : ℕ). Replays (n ∷ tells c.args.store.now.ended) c.args.store.now c.args.call c.next_replay.new.room.writes c.in-Some-next_replay.number c.in-Some-next_replay.is_last) c.first.ensures c.in-Some-next_replay.ensures.some))

pub returns-in-Some-next_replay-clause-ok : goal.returns-in-Some-next_replay-clause-ok
returns-in-Some-next_replay-clause-ok c = refused_ok c.args.z.now c.args.state.now c.args.store.now c.args.call c.reproduce.result c.or_refused-in-Some-next_replay.result c.or_refused-in-Some-next_replay.ensures (replays c.writes.result.now c.in-Some-next_replay.number) c.in-Some-next_replay.is_last c.reproduce.new.store
    (replayed c) c.reproduce.ensures.ok

pub returns-in-Some-next_replay-clause-err : goal.returns-in-Some-next_replay-clause-err
returns-in-Some-next_replay-clause-err c = refused_err (c.reproduce.new.store ≡ c.args.store.now) c.reproduce.result c.or_refused-in-Some-next_replay.result c.or_refused-in-Some-next_replay.ensures c.reproduce.ensures.err

pub returns-in-Some-next_replay-clause-off : goal.returns-in-Some-next_replay-clause-off
returns-in-Some-next_replay-clause-off c = refused_off c.args.z.now c.args.state.now c.args.store.now c.args.call c.reproduce.result c.or_refused-in-Some-next_replay.result c.or_refused-in-Some-next_replay.ensures (replays c.writes.result.now c.in-Some-next_replay.number) c.in-Some-next_replay.is_last
    (replayed c)

pub persist-requires-clause-ring : goal.persist-requires-clause-ring
persist-requires-clause-ring c = persist_ring c.args.z.now c.args.state.now c.args.store.now c.args.call c.requires.kept c.in-Some-next_persist.gathered.ring c.in-Some-next_persist.gathered.bundle c.in-Some-next_persist.gathered.is_last c.in-Some-next_persist.ensures.some

pub persist-requires-clause-numbers : goal.persist-requires-clause-numbers
persist-requires-clause-numbers c = persist_numbers c.args.z.now c.args.state.now c.args.store.now c.args.call c.requires.kept c.in-Some-next_persist.gathered.ring c.in-Some-next_persist.gathered.bundle c.in-Some-next_persist.gathered.is_last c.in-Some-next_persist.ensures.some

pub persist-requires-clause-inside : goal.persist-requires-clause-inside
persist-requires-clause-inside c = persist_inside c.args.z.now c.args.state.now c.args.store.now c.args.call c.requires.kept c.in-Some-next_persist.gathered.ring c.in-Some-next_persist.gathered.bundle c.in-Some-next_persist.gathered.is_last c.in-Some-next_persist.ensures.some

pub returns-in-Some-next_persist-clause-ok : goal.returns-in-Some-next_persist-clause-ok
returns-in-Some-next_persist-clause-ok c = refused_ok c.args.z.now c.args.state.now c.args.store.now c.args.call c.persist.result c.or_refused-in-Some-next_persist.result c.or_refused-in-Some-next_persist.ensures (appends c.in-Some-next_persist.gathered.ring c.in-Some-next_persist.gathered.bundle) c.in-Some-next_persist.gathered.is_last c.persist.new.store
    (next_persists c.args.z.now c.args.state.now c.args.store.now c.args.call c.in-Some-next_persist.gathered.ring c.in-Some-next_persist.gathered.bundle c.in-Some-next_persist.gathered.is_last c.in-Some-next_persist.ensures.some) c.persist.ensures.ok

pub returns-in-Some-next_persist-clause-err : goal.returns-in-Some-next_persist-clause-err
returns-in-Some-next_persist-clause-err c = refused_err (c.persist.new.store ≡ c.args.store.now) c.persist.result c.or_refused-in-Some-next_persist.result c.or_refused-in-Some-next_persist.ensures c.persist.ensures.err

pub returns-in-Some-next_persist-clause-off : goal.returns-in-Some-next_persist-clause-off
returns-in-Some-next_persist-clause-off c = refused_off c.args.z.now c.args.state.now c.args.store.now c.args.call c.persist.result c.or_refused-in-Some-next_persist.result c.or_refused-in-Some-next_persist.ensures (appends c.in-Some-next_persist.gathered.ring c.in-Some-next_persist.gathered.bundle) c.in-Some-next_persist.gathered.is_last
    (next_persists c.args.z.now c.args.state.now c.args.store.now c.args.call c.in-Some-next_persist.gathered.ring c.in-Some-next_persist.gathered.bundle c.in-Some-next_persist.gathered.is_last c.in-Some-next_persist.ensures.some)

pub returns-in-None-clause-off : goal.returns-in-None-clause-off
returns-in-None-clause-off c = (
  (λ is. makes_none c.args.z.now c.args.state.now c.args.store.now c.args.call c.in_default.ensures.none c.in_default-next_told.ensures.none
      (λ n. subst (λ (first : ℕ). ReplaysNoneTo (first ∷ tells c.args.store.now.ended) c.args.store.now c.args.call n) c.first.ensures (c.in_default-next_replay.ensures.none n)) c.in-None.ensures.none),
  (λ none. refl),
)
