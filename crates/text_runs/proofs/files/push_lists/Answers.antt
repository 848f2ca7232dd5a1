-- The requests of each file are in range.
use Rattle.std.proofs.Common.{ℕ, ◌≡◌, ◌∙◌, ◌<◌, List, [], length, map, All, ap, subst, sym, arith}
use Rattle.std.specs.Global.{Vec}
use Rattle.std.specs.Prelude.{get_or}
use Rattle.std.proofs.lemmas.List.{get_or-map, length-map}
use Rattle.std.proofs.lemmas.List.Elements.{All-get_or}
use Rattle.tatp_model.specs.Request.{IsInRange}
use Rattle.tatp_model.specs.declared.request.Request.{Request}
use Rattle.tatp_model.specs.Files.{requests_in}
use Rattle.text_runs.proofs.files.push_lists.Goals as goal

in_range-at : (lists : List (Vec Request)) (i : ℕ) (d : Vec Request) → i < length lists → All (All IsInRange) (requests_in lists) → All IsInRange (get_or lists i d).items
in_range-at lists i d below all =
    let items : Vec Request → List Request = λ list. list.items in
    let same : length (map items lists) ≡ length lists = length-map lists items in
    subst (All IsInRange) (get_or-map items lists i d [] below) (All-get_or (All IsInRange) (map items lists) i [] (omega (arith, below, same)) all)

pub push_requests-requires : goal.push_requests-requires
push_requests-requires c =
    let lists = c.deref-requests-items.result.now in
    let item = c.requests-item.result in
    let given : All (All IsInRange) (requests_in c.in-Ok.lists.items) = rw c.in-Ok.is at c.requires in
    let same : All (All IsInRange) (requests_in lists) = rw c.deref-requests-items.ensures.value given in
    let one : All IsInRange (get_or lists c.loop-requests.requests-index item).items =
    in_range-at lists c.loop-requests.requests-index item c.loop-requests-test.true same in
    subst (All IsInRange) (sym (c.deref.ensures.value ∙ ap (λ (list : Vec Request). list.items) c.requests-item.is)) one
