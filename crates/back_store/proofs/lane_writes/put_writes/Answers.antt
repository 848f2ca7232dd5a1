use Rattle.std.proofs.Common.{◌≡◌, ◌≢◌, ℕ, List, ⊎_elim, length, get_or, set, sym, ap, ◌∙◌, arith, length-set, get_or-set_same, get_or-set_other}
use Rattle.std.proofs.lemmas.Bool.{cases_eq}
use Rattle.std.proofs.lemmas.Option.{get_or_from_slice_get}
use Rattle.dude_base.specs.declared.write.Write.{Write}
use Rattle.back_store.specs.Entries.{no_write, write_place}
use Rattle.back_store.proofs.LaneWrites.{places_same, writes_are}
use Rattle.back_store.proofs.lane_writes.put_writes.Goals as goal

pub loop-i-preserved : goal.loop-i-preserved
loop-i-preserved c =
    let inv = c.loop-i.invariant in
    let old : List Write = c.loop-i.writes in
    let i : ℕ = c.loop-i.i in
    let w : Write = c.write_at.result in
    let place : c.write_place.result ≡ write_place c.args.cells c.args.slot i = c.write_place.ensures.place in
    let own : get_or c.args.r.now.writes i no_write ≡ w = get_or_from_slice_get c.args.r.now.writes i w no_write c.write_at.ensures in
    record {
      size = length-set old c.write_place.result w ∙ inv.size;
      own = λ j lt. ⊎_elim
          (λ (same : j ≡ i).
          ap (λ n. get_or (set old c.write_place.result w) (write_place c.args.cells c.args.slot n) no_write) same ∙ ap (λ n. get_or (set old c.write_place.result w) n no_write) (sym place)
          ∙ get_or-set_same old c.write_place.result w no_write (let inside = c.write_place.ensures.inside in omega (arith, inv.size, c.requires.size)) ∙ sym own ∙ ap (λ n. get_or c.args.r.now.writes n no_write) (sym same))
          (λ (apart : j ≢ i).
          get_or-set_other old c.write_place.result (write_place c.args.cells c.args.slot j) w no_write
          (λ e. apart (places_same c.args.cells c.args.slot (length c.args.r.now.writes) j i c.requires.slot c.requires.room (omega arith) (omega arith) (e ∙ place)))
          ∙ inv.own j (omega arith))
          (cases_eq j i);
      others = λ at d apart. get_or-set_other old c.write_place.result at w d (λ e. apart i (omega arith) (e ∙ place)) ∙ inv.others at d (λ j lt. apart j (omega arith));
    }

pub returns-clause-own : goal.returns-clause-own
returns-clause-own c =
    writes_are c.args.cells c.args.slot c.loop-i.writes c.args.r.now.writes (λ j lt. c.loop-i.invariant.own j (omega arith))

pub returns-clause-others : goal.returns-clause-others
returns-clause-others c at d apart = c.loop-i.invariant.others at d (λ j lt. apart j (omega arith))
