use Rattle.std.proofs.Common.{◌≡◌, ◌<◌, true, false}
use Rattle.dude_stream.specs.Printing.{GaveLines}
use Rattle.dude_stream.proofs.outlet.Outlet.take_some.Given as goal

abbrev pub invariant-loop-reply : goal.invariant-loop-reply
invariant-loop-reply l = record {
  gave : GaveLines l.fn.self l.self l.fn.text.items l.text.items;
  none : l.some ≡ false → (l._reply ≡ 0) × (l.self.left ≡ l.fn.self.left);
  fewer : l.some ≡ true → l.self.left < l.fn.self.left;
}
