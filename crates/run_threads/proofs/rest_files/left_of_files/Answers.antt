use Rattle.std.proofs.Common.{◌≡◌, ◌∷◌, [], ◌++◌, List, drop, get_or, length, map, ap, ap₂, sym, ◌∙◌, arith}
use Rattle.std.specs.Prelude.{slice_index}
use Rattle.std.proofs.lemmas.List.{length-map, map_push, take_all}
use Rattle.tatp_model.specs.declared.request.Request.{Request}
use Rattle.run_order.specs.Rests.{rests_of}
use Rattle.run_threads.proofs.Parting.{as_many, file_at, rest_at}
use Rattle.run_threads.proofs.rest_files.left_of_files.Goals as goal

pub bounds-counts-file : goal.bounds-counts-file
bounds-counts-file c = let many = length-map c.args.files.now (λ f. f.items) in let counted = c.requires.1.counted in omega arith

pub left_of_file-requires : goal.left_of_file-requires
left_of_file-requires c =
    let files = c.args.files.now in let k = c.loop-file.file in let parts = c.requires.0 in let are = c.requires.1 in
    let here = file_at (λ f. f.items) files k c.index-files-file.result c.loop-file-test.true c.index-files-file.is in
    let long = ap (λ (l : List (List Request)). length l) are.files_are in
    let is = here.1 ∙ sym (ap (λ (l : List (List Request)). get_or l k c.index-files-file.result.items) are.files_are) in
    let upto = (rest_at (slice_index c.args.counts.now) k parts c.index-files-file.result.items are.lengths (let h = here.0 in omega arith) is).0 in
    let value = ap (λ (l : List Request). length l) c.deref.ensures.value in
    omega arith

pub loop-file-preserved : goal.loop-file-preserved
loop-file-preserved c =
    let files = c.args.files.now in let k = c.loop-file.file in let i = c.loop-file.invariant in
    record {
      rests = λ parts are.
          let here = file_at (λ f. f.items) files k c.index-files-file.result c.loop-file-test.true c.index-files-file.is in
          let long = ap (λ (l : List (List Request)). length l) are.files_are in
          let is = here.1 ∙ sym (ap (λ (l : List (List Request)). get_or l k c.index-files-file.result.items) are.files_are) in
          let next = (rest_at (slice_index c.args.counts.now) k parts c.index-files-file.result.items are.lengths (let h = here.0 in omega arith) is).1 in
          let rest : c.in_ok-rest.rest.items ≡ drop (slice_index c.args.counts.now k) c.index-files-file.result.items = c.in_ok-rest.ensures ∙ ap (λ (l : List Request). drop (slice_index c.args.counts.now k) l) c.deref.ensures.value in
          ap (λ l. map (λ f. f.items) l) c.push_reserved.ensures.items ∙ map_push (λ f. f.items) c.loop-file.rests.items c.in_ok-rest.rest
          ∙ ap₂ (λ (a : List (List Request)) (b : List Request). a ++ b ∷ []) (i.rests parts are) rest ∙ sym next;
      count = (let a = c.push_reserved.ensures.len in let b = i.count in omega arith);
      room = c.push_reserved.ensures.capacity ∙ i.room;
    }

pub returns : goal.returns
returns c = λ parts are.
    let long = ap (λ (l : List (List Request)). length l) are.files_are in
    let many = length-map c.args.files.now (λ f. f.items) in
    let test = c.loop-file-test.false in
    let as_long = as_many parts in
    c.loop-file.invariant.rests parts are ∙ take_all c.loop-file.file (rests_of parts) (omega arith)
