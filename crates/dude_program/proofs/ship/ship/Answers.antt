use Rattle.std.proofs.Common.{map, refl}
use Rattle.std.specs.Rc.{rc_str_bytes}
use Rattle.command_edges.specs.Command.{Meaning.ShipFiles}
use Rattle.dude_program.proofs.Crashes.{reachable}
use Rattle.dude_program.proofs.EachCommand.{is_opening_of, opening_of}
use Rattle.dude_program.proofs.Endings.{ends_printed}
use Rattle.dude_program.proofs.FileCommands.{came_prepared, of_ship}
use Rattle.dude_program.proofs.ship.ship.Goals as goal

-- packets of an image have numbers that transactions may have
pub end_with_packets-requires : goal.end_with_packets-requires
end_with_packets-requires g c =
    let o = c.in-Ok.field-0.opened in
    let opened = c.in-Ok.ensures.prepared.opened in
    let ships = c.work_and_ship.ensures.ships (opening_of o opened) (is_opening_of o opened) in
    record { numbers = λ k d below. (ships.each k d below).numbers }

pub returns-in-Ok : goal.returns-in-Ok
returns-in-Ok g c = record {
  ends =
      let names = map rc_str_bytes c.args.names.now in
      let ready = c.in-Ok.ensures.prepared in
      let o = c.in-Ok.field-0.opened in
      let opening = opening_of o ready.opened in
      let own = is_opening_of o ready.opened in
      let shipping = c.work_and_ship.result in
      let came = came_prepared (of_ship names) ready c.deref.ensures.value refl (λ known. tt) (reachable (ShipFiles names) opening) shipping.worked.fault (c.work_and_ship.ensures.ran opening own) in
      rw (c.end_with_packets.ensures.work.medium, c.end_with_packets.ensures.work.done) (ends_printed _ _ _ came (λ whole. (
        record {
          array = o.words.items;
          stands = own.stands;
          packets = shipping.packets.items;
          ships = c.work_and_ship.ensures.ships opening own;
          whole = c.work_and_ship.ensures.whole whole;
          bytes = refl;
        },
        ready.recovered,
      )) c.end_with_packets.ensures.printed);
}

pub returns-in-Err : goal.returns-in-Err
returns-in-Err g c = record {
  ends = c.in-Err.ensures.ends (ShipFiles (map rc_str_bytes c.args.names.now)) (g.K.Sink.sight c.args.out.now) (refl, refl);
}
