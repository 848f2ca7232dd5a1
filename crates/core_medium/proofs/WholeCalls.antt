-- Each call of the back that is allowed can be made to its end by the view with the turn.
use Rattle.std.proofs.Common.{◌≡◌, ℕ, true, false, List, [], ◌∷◌, ◌++◌, map, refl, sym, ◌∙◌, append_assoc}
use mathlib.Core.Option.{some}
use lib.ListN.{get_elem?}
use Rattle.pmem_trait.specs.declared.call.Call.{Call}
use Rattle.core_events.specs.Setups.{Setup}
use Rattle.core_events.specs.Views.{View}
use Rattle.core_events.specs.Words.{State}
use Rattle.core_events.specs.Conditions.{HasThread}
use Rattle.core_medium.specs.Stores.{Store}
use Rattle.core_medium.specs.BackCalls.{BackCall, MayCall, calls_of, with_call, device_after, store_behind}
use Rattle.core_medium.specs.Machines.{device, AllMachineLead}

module _ (z : Setup) (c : State) (who : ℕ) (v : View) (there : get_elem? c.views who ≡ some v) (live : v.part.is_spent ≡ false) (threaded : HasThread v) (turn : v.turn.has_it ≡ true) (b : BackCall) where
  pub whole_leads : (calls : List Call) (d : Store) → MayCall z c.boxes c.records d.log d.rest.told b → calls_of z c.records d.log.sizes d.next b ≡ d.calls ++ calls
      → AllMachineLead z (record { core = c; store = d }) (map (device who) calls) (record { core = c; store = store_behind z c.records b d calls })
  whole_leads [] d may whole = refl
  whole_leads (call ∷ []) d may whole = (
    record { core = c; store = device_after z c.records b call [] d },
    (v, b, [], record { is_there = there; live = live; threaded = threaded; turn = turn; may = may; whole = whole }, refl),
    refl,
  )
  whole_leads (call ∷ next ∷ later) d may whole = (
    record { core = c; store = with_call b call d },
    (v, b, next ∷ later, record { is_there = there; live = live; threaded = threaded; turn = turn; may = may; whole = whole }, refl),
    whole_leads (next ∷ later) (with_call b call d) may (whole ∙ sym (append_assoc d.calls (call ∷ []) (next ∷ later))),
  )
