use Rattle.std.proofs.Common.{◌≡◌, ◌+◌, ℕ, List, [], ◌∷◌, ◌++◌, length, get_or, map, sym, ap, ◌∙◌, subst, arith}
use Rattle.std.proofs.lemmas.List.{length-map, length_push}
use Rattle.tatp_model.specs.declared.request.Request.{Request}
use Rattle.dude_stream.specs.declared.outbox.Outbox.{Outbox}
use Rattle.dude_stream.specs.declared.outlet.Outlet.{Outlet}
use Rattle.run_workers.specs.Job.{requests_of}
use Rattle.run_workers.proofs.PassesJoined.{file_at}
use Rattle.run_workers.specs.Lanes.{IsOpenLane}
use Rattle.run_workers.proofs.Places.{opened_next}
use Rattle.run_workers.proofs.opening.open_lanes.Goals as goal

pub loop-file-preserved : goal.loop-file-preserved
loop-file-preserved c =
    let files = map (λ f. f.items) c.args.files.now in
    let h = c.loop-file.invariant in
    let n = c.loop-file.file in
    let boxes = c.loop-file.outboxes.items in
    let outlets = c.loop-file.outlets.items in
    let box = c.in_ok-outbox.outbox in
    let outlet = c.in_ok-outbox.outlet in
    let is = c.deref.ensures.value ∙ file_at (λ f. f.items) c.args.files.now n c.index-files-file.result c.loop-file-test.true c.index-files-file.is in
    let here : IsOpenLane (requests_of files n) box outlet = subst (λ (r : List Request). IsOpenLane r box outlet) is c.in_ok-outbox.ensures in
    let more_boxes = c.in_ok-push.ensures.items in
    let more_outlets = c.in_ok-push-2.ensures.items in
    record {
      boxes_count = ap length more_boxes ∙ (length_push boxes box ∙ ap (λ (k : ℕ). k + 1) h.boxes_count);
      outlets_count = ap length more_outlets ∙ (length_push outlets outlet ∙ ap (λ (k : ℕ). k + 1) h.outlets_count);
      each = λ k b o below.
          subst (λ (l : List Outbox). IsOpenLane (requests_of files k) (get_or l k b) (get_or c.push-in-loop-file.new.self.items k o)) (sym more_boxes)
          (subst (λ (l : List Outlet). IsOpenLane (requests_of files k) (get_or (boxes ++ box ∷ []) k b) (get_or l k o)) (sym more_outlets) (opened_next files boxes outlets n h.boxes_count h.outlets_count box outlet h.each here k b o below));
    }

pub returns : goal.returns
returns c =
    let long = length-map c.args.files.now (λ f. f.items) in
    let h = c.loop-file.invariant in
    let end = c.loop-file.auto.file-end in
    let test = c.loop-file-test.false in
    let is : c.loop-file.file ≡ length c.args.files.now = omega arith in
    record {
      boxes_count = h.boxes_count ∙ (is ∙ sym long);
      outlets_count = h.outlets_count ∙ (is ∙ sym long);
      each = λ k b o within. h.each k b o (omega arith);
    }
