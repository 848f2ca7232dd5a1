use Rattle.std.proofs.Common.{◌≡◌, List, map, take, vec_capacity, vec_len}
use Rattle.tatp_model.specs.declared.request.Request.{Request}
use Rattle.run_order.specs.Rests.{rests_of}
use Rattle.run_threads.specs.Parts.{AreParts}
use Rattle.run_threads.proofs.rest_files.left_of_files.Given as goal

-- the files before this one have their rests
abbrev pub invariant-loop-file : goal.invariant-loop-file
invariant-loop-file l = record {
  rests : (parts : List (List Request × List Request)) → AreParts (map (λ f. f.items) l.files) l.counts parts → map (λ f. f.items) l.rests.items ≡ take l.file (rests_of parts);
  count : vec_len l.rests ≡ l.file;
  room : vec_capacity l.rests ≡ vec_capacity l.initial.rests;
}
