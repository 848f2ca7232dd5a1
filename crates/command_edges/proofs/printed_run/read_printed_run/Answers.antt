use Rattle.std.proofs.Common.{[], ◌∙◌, ◌∷◌, drop, map, subst, sym}
use Rattle.std.specs.Prelude.{All}
use Rattle.std.proofs.lemmas.List.Elements.{All-cons, All-nil}
use Rattle.tatp_model.specs.Request.{IsInRange}
use Rattle.command_edges.specs.declared.file_kind.FileKind.TheVariants.{Printed}
use Rattle.command_edges.specs.CommandFile.{CommandFile, audit_files, request_file, request_files}
use Rattle.tatp_model.specs.Files.{requests_in}
use Rattle.command_edges.specs.Files.{IsGoodFile, IsThere, OfFile}
use Rattle.command_edges.specs.Texts.{HoldsRequests, IsTextOf}
use Rattle.command_edges.proofs.Order.{unbegun}
use Rattle.command_edges.proofs.Told.{file_fault, file_is_there, of_file}
use Rattle.command_edges.proofs.Wanted.{audit_read, audit_there}
use Rattle.command_edges.proofs.Zips.{AllZip-behind, AllZip-front, AllZip-seconds, AllZip-then, AllZip-unmapped, all_behind}
use Rattle.command_edges.proofs.printed_run.read_printed_run.Goals as goal

pub returns-in_err-push-clause-reads : goal.returns-in_err-push-clause-reads
returns-in_err-push-clause-reads g c =
    unbegun (audit_files c.args.printed.now (map g.S.AsStr.text c.args.names.now)) (g.F.Files.sight c.args.files.now) c.from_residual.result c.from_residual.ensures.1

pub returns-in_err-want_files-clause-reads : goal.returns-in_err-want_files-clause-reads
returns-in_err-want_files-clause-reads g c =
    unbegun (audit_files c.args.printed.now (map g.S.AsStr.text c.args.names.now)) (g.F.Files.sight c.args.files.now) c.from_residual-in_err-want_files.result c.from_residual-in_err-want_files.ensures.1

pub returns-in-Err-parse_texts-clause-cause : goal.returns-in-Err-parse_texts-clause-cause
returns-in-Err-parse_texts-clause-cause g c =
    let s = g.F.Files.sight c.args.files.now in
    let t = g.F.Files.sight c.read_texts.new.files in
    let names = map g.S.AsStr.text c.args.names.now in
    let printed : CommandFile = record { name = c.args.printed.now; kind = Printed } in
    let read = audit_read s c.args.printed names c.in-Ok.texts.items c.deref.ensures.value c.in_ok-want_files.ensures c.in_ok-push.ensures.items c.new-wanted.ensures.items c.in-Ok.ensures.read in
    let first = AllZip-front (IsTextOf s) printed (request_files names) c.in-Ok.texts.items read in
    let there = λ (told : _). file_is_there s printed first.0 first.1 told in
    let fault = rw (c.deref-2.ensures.value, all_behind c.in-Ok.texts.items) at c.in-Err-parse_texts.ensures.cause in
    file_fault s t (printed ∷ []) names (drop 1 c.in-Ok.texts.items) c.in-Err-parse_texts.fault c.in-Ok.ensures.calm
    (All-cons (IsGoodFile s) printed [] there (All-nil (IsGoodFile s))) (λ told. All-cons (IsThere s) printed [] (there told) (All-nil (IsThere s)))
    (AllZip-behind (IsTextOf s) printed (request_files names) c.in-Ok.texts.items read) fault

pub returns-in-Err-parse_texts-clause-missing : goal.returns-in-Err-parse_texts-clause-missing
returns-in-Err-parse_texts-clause-missing g c = λ told missing.
    absurd (audit_there (g.F.Files.sight c.args.files.now) c.args.printed (map g.S.AsStr.text c.args.names.now) c.in-Ok.texts.items c.deref.ensures.value c.in_ok-want_files.ensures c.in_ok-push.ensures.items c.new-wanted.ensures.items c.in-Ok.ensures.read told missing)

pub returns-clause-read : goal.returns-clause-read
returns-clause-read g c =
    let s = g.F.Files.sight c.args.files.now in
    let names = map g.S.AsStr.text c.args.names.now in
    let printed : CommandFile = record { name = c.args.printed.now; kind = Printed } in
    let read = audit_read s c.args.printed names c.in-Ok.texts.items c.deref.ensures.value c.in_ok-want_files.ensures c.in_ok-push.ensures.items c.new-wanted.ensures.items c.in-Ok.ensures.read in
    let first = AllZip-front (IsTextOf s) printed (request_files names) c.in-Ok.texts.items read in
    let parsed = rw (c.deref-2.ensures.value, all_behind c.in-Ok.texts.items) at c.in-Ok-parse_texts.ensures.parsed in
    record {
      text = subst (IsTextOf s printed) (first.2 c.remove.result ∙ sym c.remove.ensures.value) first.1;
      read = AllZip-then (λ name text. IsTextOf s (request_file name) text) HoldsRequests (OfFile s) names (drop 1 c.in-Ok.texts.items) (requests_in c.in-Ok-parse_texts.lists.items)
          (λ name text requests is holds. of_file s name text requests is holds.meant)
          (AllZip-unmapped (IsTextOf s) request_file names (drop 1 c.in-Ok.texts.items) (AllZip-behind (IsTextOf s) printed (request_files names) c.in-Ok.texts.items read)) parsed;
      in_range = AllZip-seconds HoldsRequests (All IsInRange) (drop 1 c.in-Ok.texts.items) (requests_in c.in-Ok-parse_texts.lists.items) (λ text requests holds. holds.in_range) parsed;
    }

pub returns-clause-missing : goal.returns-clause-missing
returns-clause-missing g c = λ told missing.
    absurd (audit_there (g.F.Files.sight c.args.files.now) c.args.printed (map g.S.AsStr.text c.args.names.now) c.in-Ok.texts.items c.deref.ensures.value c.in_ok-want_files.ensures c.in_ok-push.ensures.items c.new-wanted.ensures.items c.in-Ok.ensures.read told missing)
