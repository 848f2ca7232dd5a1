use Rattle.std.proofs.Common.{ℕ, ◌≡◌, ◌*◌, ap, arith, sym, ◌∙◌}
use Rattle.dude_base.specs.Home.{index_shape, table_words}
use Rattle.dude_base.proofs.sizes.words_of_index.Goals as goal

none : (words index : ℕ) → index ≡ 0 → 0 ≡ index * words
none words index zero = sym (ap (λ i. i * words) zero ∙ (let nothing : 0 * words ≡ 0 = omega arith in nothing))

one : (words index : ℕ) → index ≡ 1 → words ≡ index * words
one words index is = sym (ap (λ i. i * words) is ∙ (let same : 1 * words ≡ words = omega arith in same))

pub returns-then-index-eq0-clause-words : goal.returns-then-index-eq0-clause-words
returns-then-index-eq0-clause-words c = none (2 * table_words (index_shape c.args.subscribers)) c.args.index c.if-index-eq0.true

pub returns-else-index-eq0-clause-words : goal.returns-else-index-eq0-clause-words
returns-else-index-eq0-clause-words c =
    ap (λ w. 2 * w) c.words_of_table.ensures ∙ one (2 * table_words (index_shape c.args.subscribers)) c.args.index (omega (arith, c.requires.index, c.if-index-eq0.false))
