use Rattle.std.proofs.Common.{sym, ap, ◌∙◌, Some}
use Rattle.std.proofs.lemmas.Option.{get_or_from_slice_get}
use Rattle.dude_base.specs.declared.write.Write.{Write}
use Rattle.dude_base.proofs.WriteLists.{written_absent, written_at}
use Rattle.dude_base.proofs.write_list.Writes.find.Goals as goal

pub returns-in-Some : goal.returns-in-Some
returns-in-Some g c =
    let found = c.in-Some.ensures.some in
    let w = c.get.result in
    let there = get_or_from_slice_get c.args.self.now c.in-Some.k w w c.get.ensures in
    sym (written_at c.args.self.now c.args.at c.in-Some.k w c.in-Some.ensures.writes.distinct found.0 (found.1 w) ∙ ap (λ (v : Write). Some v.value) there)

pub returns-in-None : goal.returns-in-None
returns-in-None g c = sym (written_absent _ _ c.in-None.ensures.none)
