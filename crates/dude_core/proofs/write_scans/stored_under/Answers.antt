use Rattle.std.proofs.Common.{◌≡◌, ℕ, true, rules, tests}
use Rattle.core_events.specs.Keyed.{has}
use Rattle.core_events.specs.Setups.{lock_of}
use Rattle.dude_core.specs.Held.{IsStoredUnder}
use Rattle.dude_core.proofs.Held.{told_each}
use Rattle.dude_core.proofs.write_scans.stored_under.Goals as goal

pub returns : goal.returns
returns c = told_each c.all_pass.result (IsStoredUnder c.args.z.now c.args.writes.now c.args.stored.now c.args.lock) (λ (i : ℕ). lock_of c.args.z.now i ≡ c.args.lock → has c.args.stored.now i ≡ true) (λ each. record { each = each }) (λ all. all.each) (λ i t e. search (rules, tests)) c.all_pass.ensures
