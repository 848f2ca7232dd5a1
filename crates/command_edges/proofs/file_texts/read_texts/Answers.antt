use Rattle.std.proofs.Common.{ℕ, IsTrue, Option, [], ◌∷◌, ◌++◌, get_or, take, ◌+◌, refl, sym, ◌∙◌, subst, arith, append_assoc}
use Rattle.std.proofs.lemmas.List.{map_more, take_all}
use Rattle.std.proofs.lemmas.Result.{IfOk-from_err}
use Rattle.pmem_trait.specs.Sights.{Risen}
use Rattle.command_edges.specs.CommandFile.{CommandFile, file_wanted, files_wanted}
use Rattle.command_edges.specs.declared.file_kind.FileKind.TheVariants.{Requests}
use Rattle.command_edges.specs.declared.file_wanted.FileWanted.{FileWanted}
use Rattle.command_edges.specs.declared.fault.Fault.{Fault}
use Rattle.command_edges.specs.Files.{IsThere, IsUnread}
use Rattle.command_edges.specs.Reads.{ReadsInOrder}
use Rattle.command_edges.specs.Texts.{IsTextOf}
use Rattle.command_edges.proofs.Firsts.{IsFirst-map-at, place_in_map}
use Rattle.command_edges.proofs.Order.{ReadWhole, whole_none, whole_more, all_in_order, unread_in_order, dropped_in_order, stopped_in_order, is_unread, is_memory}
use Rattle.command_edges.proofs.Told.{file_is_there, told_before}
use Rattle.command_edges.proofs.Zips.{AllZip-firsts, AllZip-more}
use Rattle.command_edges.proofs.file_texts.read_texts.Goals as goal

-- the file that stands for one behind the last
abbrev no_file : FileWanted
no_file = record { name = record { ref_ptr = (0, 0); now = [] }; kind = Requests }

pub loop-index-init : goal.loop-index-init
loop-index-init g c = record { calm = refl; read = rw c.new-texts.ensures.items tt; reads = whole_none (g.F.Files.sight c.args.files.now) }

pub returns-in-Err-Failed-clause-reads : goal.returns-in-Err-Failed-clause-reads
returns-in-Err-Failed-clause-reads g c =
    let t = g.F.Files.sight c.loop-index.files in
    let u = g.F.Files.sight c.read_wanted.new.files in
    let place = place_in_map file_wanted c.args.wanted.now c.loop-index.index no_file c.loop-index-test.true in
    unread_in_order (files_wanted c.args.wanted.now) _ _ place.0 (c.loop-index.index + 1) place.1 place.2 c.loop-index.invariant.reads c.in-Err-Failed.ensures.stays
    (rw c.in-Err-Failed.field-0-is at c.in-Err-Failed.ensures.reads)

pub returns-in-Err-Failed-clause-cause : goal.returns-in-Err-Failed-clause-cause
returns-in-Err-Failed-clause-cause g c =
    let s = g.F.Files.sight c.args.files.now in
    let t = g.F.Files.sight c.loop-index.files in
    let u = g.F.Files.sight c.read_wanted.new.files in
    let there = λ (file : CommandFile). (told : IsTrue s.is_visible) → IsThere s file in
    let unread = is_unread (file_wanted (get_or c.args.wanted.now c.loop-index.index no_file)) t u (rw c.in-Err-Failed.field-0-is at c.in-Err-Failed.ensures.reads) in (
      IsFirst-map-at file_wanted there (IsUnread u) c.args.wanted.now c.loop-index.index no_file c.loop-index-test.true
          (AllZip-firsts (IsTextOf s) there _ c.loop-index.texts.items (file_is_there s) c.loop-index.invariant.read) unread,
      subst (λ (n : ℕ). Risen n u.faults) c.loop-index.invariant.calm (rw c.in-Err-Failed.field-0-is at c.in-Err-Failed.ensures.cause),
      returns-in-Err-Failed-clause-reads g c,
    )

pub returns-in-Err-NoMemory-clause-reads : goal.returns-in-Err-NoMemory-clause-reads
returns-in-Err-NoMemory-clause-reads g c =
    let t = g.F.Files.sight c.loop-index.files in
    let u = g.F.Files.sight c.read_wanted.new.files in
    let place = place_in_map file_wanted c.args.wanted.now c.loop-index.index no_file c.loop-index-test.true in
    dropped_in_order (files_wanted c.args.wanted.now) _ _ place.0 place.1 c.loop-index.invariant.reads c.in-Err-NoMemory.ensures.stays
    (rw c.in-Err-NoMemory.field-0-is at c.in-Err-NoMemory.ensures.reads)

pub loop-index-preserved : goal.loop-index-preserved
loop-index-preserved g c =
    let s = g.F.Files.sight c.args.files.now in
    let t = g.F.Files.sight c.loop-index.files in
    let u = g.F.Files.sight c.read_wanted.new.files in
    let is = told_before s t (file_wanted (get_or c.args.wanted.now c.loop-index.index no_file)) c.in-Ok.text c.loop-index.invariant.reads.stays
    (c.in-Ok.ensures.text, c.in-Ok.ensures.bounded) in
    let more = map_more file_wanted c.args.wanted.now c.loop-index.index no_file c.loop-index-test.true in
    record {
      calm = c.in-Ok.ensures.calm ∙ c.loop-index.invariant.calm;
      read = rw (more, c.in_ok-push-in-Ok.ensures.items)
          (AllZip-more (IsTextOf s) _ _ _ _ c.loop-index.invariant.read is);
      reads = rw more (whole_more _ _ c.in-Ok.text c.loop-index.invariant.reads c.in-Ok.ensures.stays
          c.in-Ok.ensures.reads);
    }

pub returns-in_err-push-in-Ok-clause-reads : goal.returns-in_err-push-in-Ok-clause-reads
returns-in_err-push-in-Ok-clause-reads g c =
    let s = g.F.Files.sight c.args.files.now in
    let t = g.F.Files.sight c.loop-index.files in
    let u = g.F.Files.sight c.read_wanted.new.files in
    let files = files_wanted c.args.wanted.now in
    let file = file_wanted (get_or c.args.wanted.now c.loop-index.index no_file) in
    let place = place_in_map file_wanted c.args.wanted.now c.loop-index.index no_file c.loop-index-test.true in
    let whole = files_wanted (take c.loop-index.index c.args.wanted.now) in
    subst (λ (fault : Option Fault). ReadsInOrder files fault s u) (sym (is_memory c.from_residual.result c.from_residual.ensures.1))
    (stopped_in_order files (whole ++ file ∷ []) place.0 (place.1 ∙ sym (append_assoc whole (file ∷ []) place.0))
    (whole_more whole file c.in-Ok.text c.loop-index.invariant.reads c.in-Ok.ensures.stays
    c.in-Ok.ensures.reads))

pub returns-in_err-push-in-Ok-clause-calm : goal.returns-in_err-push-in-Ok-clause-calm
returns-in_err-push-in-Ok-clause-calm g c = IfOk-from_err _ _ c.from_residual.ensures.0

pub returns-in_err-push-in-Ok-clause-read : goal.returns-in_err-push-in-Ok-clause-read
returns-in_err-push-in-Ok-clause-read g c = IfOk-from_err _ _ c.from_residual.ensures.0

pub returns-clause-reads : goal.returns-clause-reads
returns-clause-reads g c =
    let s = g.F.Files.sight c.args.files.now in
    let t = g.F.Files.sight c.loop-index.files in
    let all = take_all c.loop-index.index c.args.wanted.now (omega (arith, c.loop-index-test.false)) in
    all_in_order (files_wanted c.args.wanted.now) (subst (λ wanted. ReadWhole (files_wanted wanted) s t) all c.loop-index.invariant.reads)

pub returns-clause-calm : goal.returns-clause-calm
returns-clause-calm g c = c.loop-index.invariant.calm
