use Rattle.std.proofs.Common.{List, [], map, length, ◌≤◌}
use Rattle.std.proofs.lemmas.List.Elements.{All-nil}
use Rattle.std.specs.Prelude.{All}
use Rattle.std.specs.Result.{result_err}
use Rattle.tatp_model.specs.Request.{IsInRange}
use Rattle.tatp_model.specs.declared.request.Request.{Request}
use Rattle.tatp_model.specs.Files.{requests_in}
use Rattle.command_edges.specs.declared.file_kind.FileKind.TheVariants.{Requests}
use Rattle.command_edges.specs.CommandFile.{request_file, request_files}
use Rattle.command_edges.specs.Files.{IsGoodFile, IsThere, OfFile}
use Rattle.command_edges.specs.Texts.{IsTextOf, HoldsRequests}
use Rattle.command_edges.proofs.Order.{parsed_reads, then_fault, unbegun}
use Rattle.command_edges.proofs.Results.{ok_map, err_map, never_ok}
use Rattle.command_edges.proofs.Told.{of_file, none_missing, none_bad, file_fault}
use Rattle.command_edges.proofs.Wanted.{all_wanted}
use Rattle.command_edges.proofs.Zips.{AllZip-seconds, AllZip-then, AllZip-unmapped}
use Rattle.command_edges.proofs.files.read_files.Goals as goal

pub returns-in_err-want_files-clause-reads : goal.returns-in_err-want_files-clause-reads
returns-in_err-want_files-clause-reads g c =
    unbegun (request_files (map g.S.AsStr.text c.args.names.now)) (g.F.Files.sight c.args.files.now) c.from_residual.result c.from_residual.ensures.1

pub returns-clause-reads : goal.returns-clause-reads
returns-clause-reads g c =
    let same = all_wanted Requests (map g.S.AsStr.text c.args.names.now) [] c.deref.ensures.value c.in_ok-want_files.ensures c.new-wanted.ensures.items in
    let all = rw same at c.in-Ok.ensures.reads in
    let texts = rw c.deref-2.ensures.value at c.parse_texts.ensures.cause in
    then_fault (result_err c.parse_texts.result) (parsed_reads 0 _ c.parse_texts.result texts) all

pub returns-clause-read : goal.returns-clause-read
returns-clause-read g c =
    let s = g.F.Files.sight c.args.files.now in
    let same = all_wanted Requests (map g.S.AsStr.text c.args.names.now) [] c.deref.ensures.value c.in_ok-want_files.ensures c.new-wanted.ensures.items in
    let read = AllZip-unmapped (IsTextOf s) request_file (map g.S.AsStr.text c.args.names.now) c.in-Ok.texts.items (rw same at c.in-Ok.ensures.read) in
    let texts = rw c.deref-2.ensures.value at c.parse_texts.ensures.parsed in
    ok_map c.parse_texts.result (λ lists parsed. AllZip-then (λ name text. IsTextOf s (request_file name) text) HoldsRequests (OfFile s) (map g.S.AsStr.text c.args.names.now) c.in-Ok.texts.items (requests_in lists.items)
    (λ name text requests is holds. of_file s name text requests is holds.meant) read parsed) texts

pub returns-clause-in_range : goal.returns-clause-in_range
returns-clause-in_range g c =
    ok_map c.parse_texts.result (λ lists parsed. AllZip-seconds HoldsRequests (All IsInRange) c.deref-2.result.now (requests_in lists.items) (λ text requests holds. holds.in_range) parsed) c.parse_texts.ensures.parsed

pub returns-clause-few : goal.returns-clause-few
returns-clause-few g c =
    ok_map c.parse_texts.result (λ lists parsed. AllZip-seconds HoldsRequests (λ (list : List Request). length list ≤ 100000) c.deref-2.result.now (requests_in lists.items) (λ text requests holds. holds.few) parsed) c.parse_texts.ensures.parsed

pub returns-clause-cause : goal.returns-clause-cause
returns-clause-cause g c =
    let s = g.F.Files.sight c.args.files.now in
    let same = all_wanted Requests (map g.S.AsStr.text c.args.names.now) [] c.deref.ensures.value c.in_ok-want_files.ensures c.new-wanted.ensures.items in
    let texts = rw c.deref-2.ensures.value at c.parse_texts.ensures.cause in
    err_map c.parse_texts.result (λ fault h. file_fault s (g.F.Files.sight c.read_texts.new.files) [] (map g.S.AsStr.text c.args.names.now) c.in-Ok.texts.items fault c.in-Ok.ensures.calm
    (All-nil (IsGoodFile s)) (λ told. All-nil (IsThere s)) (rw same at c.in-Ok.ensures.read) h) texts

pub returns-clause-missing : goal.returns-clause-missing
returns-clause-missing g c =
    let s = g.F.Files.sight c.args.files.now in
    let same = all_wanted Requests (map g.S.AsStr.text c.args.names.now) [] c.deref.ensures.value c.in_ok-want_files.ensures c.new-wanted.ensures.items in
    λ told missing. absurd (none_missing s (request_files (map g.S.AsStr.text c.args.names.now)) c.in-Ok.texts.items (rw same at c.in-Ok.ensures.read) told missing)

pub returns-clause-bad : goal.returns-clause-bad
returns-clause-bad g c =
    let s = g.F.Files.sight c.args.files.now in
    λ told bad. never_ok c.parse_texts.result (λ lists read. none_bad s (map g.S.AsStr.text c.args.names.now) (requests_in lists.items) read told bad) (returns-clause-read g c)
