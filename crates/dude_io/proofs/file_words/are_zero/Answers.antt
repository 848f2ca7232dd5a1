use Rattle.std.proofs.Common.{[], refl, sym, ◌∙◌}
use Rattle.std.specs.Int.{w64, from_le_bytes}
use Rattle.dude_io.proofs.Pieces.{zeros_more}
use Rattle.dude_io.proofs.file_words.are_zero.Goals as goal

pub loop-word-preserved : goal.loop-word-preserved
loop-word-preserved c =
    zeros_more (from_le_bytes w64) c.as_chunks.result.0.now c.loop-word.word-index [] c.loop-word-test.true c.loop-word.invariant (sym c.from_le_bytes.ensures ∙ c.if-from_le_bytes-ne0.false)

pub loop-word-init : goal.loop-word-init
loop-word-init c = refl
