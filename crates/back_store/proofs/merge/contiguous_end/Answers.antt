use Rattle.std.proofs.Common.{◌++◌, [], ◌∷◌, get_or, arith}
use Rattle.std.proofs.lemmas.List.Elements.{All-contains}
use Rattle.dude_base.specs.Records.{HasNumbers}
use Rattle.redo_record.proofs.WaitingRecords.{waiting_law}
use Rattle.back_store.specs.Lanes.{no_lane, waiting_of}
use Rattle.back_store.proofs.WaitingLanes.{waits_in}
use Rattle.back_store.proofs.merge.contiguous_end.Goals as goal

-- a record that begins behind the last end would lead to a later one
pub returns-clause-end : goal.returns-clause-end
returns-clause-end c =
    let lanes = c.args.lanes.now in
    let led = c.last_end.ensures.led in
    record {
      records = led.records;
      lead = led.lead;
      greatest = λ w among next.
          let at = waits_in 0 lanes w among in
          let numbers : HasNumbers w.redo = All-contains HasNumbers (get_or lanes at.lane no_lane).waiting w.redo (c.requires.lanes.each at.lane no_lane at.within).numbers (at.among no_lane) in
          let on = waiting_law.next (waiting_of lanes) c.args.from c.last_end.result led.records w.redo led.lead (record { ring = w.ring; is_one = among }) next in
          let upto = c.last_end.ensures.last w.redo.last (record { records = led.records ++ w.redo ∷ []; lead = on }) numbers.high in
          omega (arith, upto, next);
    }
