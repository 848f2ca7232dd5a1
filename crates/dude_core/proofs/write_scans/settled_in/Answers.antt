use Rattle.std.proofs.Common.{◌≡◌, ℕ, true, rules, tests}
use Rattle.core_events.specs.Keyed.{has}
use Rattle.core_events.specs.Setups.{page_of}
use Rattle.dude_core.specs.Held.{IsSettledIn}
use Rattle.dude_core.proofs.Held.{told_each}
use Rattle.dude_core.proofs.write_scans.settled_in.Goals as goal

pub returns : goal.returns
returns c = told_each c.all_pass.result (IsSettledIn c.args.writes.now c.args.stored.now c.args.touched.now c.args.page) (λ (i : ℕ). page_of i ≡ c.args.page → (has c.args.stored.now i ≡ true) × (has c.args.touched.now c.args.page ≡ true)) (λ each. record { each = each }) (λ all. all.each) (λ i t e. search (rules, tests)) c.all_pass.ensures
