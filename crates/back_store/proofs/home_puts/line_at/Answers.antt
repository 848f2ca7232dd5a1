use Rattle.std.proofs.Common.{◌≡◌, ℕ, ◌/◌, List, get_or, sym, ap, ◌∙◌}
use Rattle.std.proofs.lemmas.List.{get_or-map}
use Rattle.std.proofs.lemmas.Option.{get_or_from_slice_get}
use Rattle.dude_base.specs.declared.write.Write.{Write}
use Rattle.dude_base.specs.Image.{home_word}
use Rattle.redo_record.specs.BackCalls.{home_writes}
use Rattle.back_store.proofs.home_puts.line_at.Goals as goal

pub returns : goal.returns
returns c d =
    let ws : List Write = c.args.group.now.writes in
    let w : Write = c.get.result in
    let own : get_or (home_writes c.args.place.now ws) c.args.k d ≡ (home_word c.args.place.now w.at, w.value) =
    get_or-map (λ (w : Write). (home_word c.args.place.now w.at, w.value)) ws c.args.k w d c.requires.within ∙ ap (λ (w : Write). (home_word c.args.place.now w.at, w.value)) (get_or_from_slice_get ws c.args.k w w c.get.ensures) in
    ap (λ n. n / 8) (c.home.ensures.place ∙ sym (ap (λ (p : ℕ × ℕ). p.0) own))
