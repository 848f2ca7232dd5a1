use Rattle.std.proofs.Common.{[], map}
use Rattle.command_edges.specs.declared.file_kind.FileKind.TheVariants.{Packets}
use Rattle.command_edges.specs.CommandFile.{packet_files}
use Rattle.command_edges.proofs.Order.{unbegun}
use Rattle.command_edges.proofs.Told.{missing_stops}
use Rattle.command_edges.proofs.Wanted.{all_wanted}
use Rattle.command_edges.proofs.packet_files.read_packet_files.Goals as goal

pub returns-in_err-want_files-clause-reads : goal.returns-in_err-want_files-clause-reads
returns-in_err-want_files-clause-reads g c =
    unbegun (packet_files (map g.S.AsStr.text c.args.names.now)) (g.F.Files.sight c.args.files.now) c.from_residual.result c.from_residual.ensures.1

pub returns : goal.returns
returns g c =
    let names = map g.S.AsStr.text c.args.names.now in
    let same = all_wanted Packets names [] c.deref.ensures.value c.in_ok-want_files.ensures c.new-wanted.ensures.items in
    let texts = rw same at c.read_texts.ensures.read in
    let fault = rw same at c.read_texts.ensures.cause in
    record {
      reads = rw same at c.read_texts.ensures.reads;
      read = texts;
      cause = fault;
      missing = missing_stops (g.F.Files.sight c.args.files.now) (g.F.Files.sight c.read_texts.new.files) (packet_files names) c.read_texts.result texts fault;
    }
