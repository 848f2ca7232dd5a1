use Rattle.std.proofs.Common.{[], ◌∙◌, refl, sym, append-nil, arith}
use Rattle.std.specs.Int.{w64, from_le_bytes}
use Rattle.dude_io.proofs.Pieces.{mapped_all, mapped_more}
use Rattle.dude_io.proofs.file_words.append_words.Goals as goal

pub loop-word-preserved : goal.loop-word-preserved
loop-word-preserved c = record {
  items = mapped_more (from_le_bytes w64) c.as_chunks.result.0.now c.loop-word.word-index [] c.args.words.now.items c.loop-word.words.items c.push_reserved.new.self.items c.from_le_bytes.result c.loop-word-test.true c.loop-word.invariant.items c.from_le_bytes.ensures c.push_reserved.ensures.items;
  len = omega (arith, c.push_reserved.ensures.len, c.loop-word.invariant.len);
  capacity = c.push_reserved.ensures.capacity ∙ c.loop-word.invariant.capacity;
}

pub loop-word-init : goal.loop-word-init
loop-word-init c = record { items = sym (append-nil c.args.words.now.items); len = omega arith; capacity = refl }

pub returns-clause-items : goal.returns-clause-items
returns-clause-items c =
    mapped_all (from_le_bytes w64) c.as_chunks.result.0.now _ c.loop-word.word-index c.args.words.now.items c.loop-word.words.items c.loop-word-test.false c.as_chunks.ensures.front c.loop-word.invariant.items
