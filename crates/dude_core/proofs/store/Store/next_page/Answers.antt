use Rattle.std.proofs.Common.{◌≡◌, ◌∙◌, ap, below_more, arith}
use Rattle.dude_base.specs.declared.sizes.Sizes.{Sizes}
use Rattle.redo_record.specs.BackCalls.{read_page_calls}
use Rattle.dude_core.specs.CallFits.{IsApart}
use Rattle.dude_core.specs.PageReads.{page_list}
use Rattle.dude_core.proofs.NextCalls.{apart_by}
use Rattle.dude_core.proofs.store.Store.next_page.Goals as goal

pub loop-page-preserved : goal.loop-page-preserved
loop-page-preserved c =
    let same : page_list c.of-reads.result ≡ read_page_calls c.args.self.now.sizes c.loop-page.page = c.of-reads.ensures ∙ ap (λ (s : Sizes). read_page_calls s c.loop-page.page) c.place-place.ensures.place in
    let here : IsApart (read_page_calls c.args.self.now.sizes c.loop-page.page) c.args.self.now.calls c.args.call =
    apart_by (page_list c.of-reads.result) (read_page_calls c.args.self.now.sizes c.loop-page.page) c.calls-calls.result.now c.args.self.now.calls c.args.call same c.calls-calls.ensures
    c.in_default.ensures.none in
    below_more _ _ c.loop-page.invariant here

pub returns-clause-none : goal.returns-clause-none
returns-clause-none c = λ p lt.
    let place = ap (λ (s : Sizes). s.pages) c.place-place.ensures.place in
    let sizes = ap (λ (s : Sizes). s.pages) c.sizes-page-end.ensures.sizes in
    c.loop-page.invariant p (omega arith)
