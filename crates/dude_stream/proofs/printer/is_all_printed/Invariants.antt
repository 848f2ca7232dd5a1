use Rattle.std.proofs.Common.{◌≡◌, ◌<◌, ℕ, get_or}
use Rattle.dude_stream.specs.declared.outlet.Outlet.{Outlet}
use Rattle.dude_stream.proofs.printer.is_all_printed.Given as goal

abbrev pub invariant-loop-outlet : goal.invariant-loop-outlet
invariant-loop-outlet l = (k : ℕ) (d : Outlet) → k < l.outlet-index → (get_or l.outlets k d).left ≡ 0
