use Rattle.std.proofs.Common.{◌∷◌, subst}
use Rattle.std.specs.Prelude.{slice_index_or}
use Rattle.dude_core.specs.Named.{event_of}
use Rattle.core_events.specs.Conditions.{no_record}
use Rattle.core_events.specs.Events.{Event}
use Rattle.core_events.specs.Conditions.{Threaded}
use Rattle.core_events.proofs.Telling.{kept_seated}
use Rattle.dude_core.proofs.MadeStates.{ready_of, ready_beside, box_inside_of, threaded_post}
use Rattle.dude_core.proofs.state.State.enact.Goals as goal

pub next_box_of-at-requires-clause-inside : goal.next_box_of-at-requires-clause-inside
next_box_of-at-requires-clause-inside c = λ v at.
    box_inside_of c.args.z.now v (kept_seated c.args.z.now c.args.self.now c.requires.kept c.args.who v at)
    (threaded_post c.args.z.now c.args.self.now c.args.who c.requires.allowed.0 v c.requires.allowed.1.is_there at
    (subst (λ (e : Event). Threaded e c.requires.allowed.0) c.in-Post.ensures c.requires.allowed.1.may.threaded))

pub move_view-requires : goal.move_view-requires
move_view-requires c = ready_of c.args.z.now c.args.self.now c.args.who (event_of c.args.deed.now) c.requires.kept c.requires.allowed

pub move_view-requires-in-Empty : goal.move_view-requires-in-Empty
move_view-requires-in-Empty c = ready_beside c.args.z.now c.args.self.now c.persist.new.self c.args.who (event_of c.args.deed.now) (slice_index_or c.args.self.now.records c.box_of-at.result no_record ∷ c.args.self.now.persisted) c.in_ok-persist-in-Empty.ensures.ok (ready_of c.args.z.now c.args.self.now c.args.who (event_of c.args.deed.now) c.requires.kept c.requires.allowed)

pub move_view-requires-in-Other : goal.move_view-requires-in-Other
move_view-requires-in-Other c = ready_of c.args.z.now c.args.self.now c.args.who (event_of c.args.deed.now) c.requires.kept c.requires.allowed
