use Rattle.std.proofs.Common.{ℕ, ◌-◌, List, ap, sym, ◌∙◌, arith, slice_set, replicate, vec_len}
use Rattle.std.proofs.lemmas.List.{set-append_left}
use Rattle.dude_io.proofs.file_words.FileWords.set.Goals as goal

pub returns-clause-words : goal.returns-clause-words
returns-clause-words c =
    let covered = c.cover.new.self in
    let at = c.args.at in
    let value = c.args.value in
    sym (set-append_left covered.stored.items (replicate (covered.count - vec_len covered.stored) 0) at value (omega (arith, c.cover.ensures.covered)))
    ∙ ap (λ (words : List ℕ). slice_set words at value) c.cover.ensures.words
