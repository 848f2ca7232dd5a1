-- A step that is allowed is not refused as off.
use Rattle.std.proofs.Common.{◌≡◌, ◌↔◌, Result, Ok, Err, sym, ◌∙◌}
use Rattle.core_events.specs.Setups.{Setup}
use Rattle.core_events.specs.Words.{State}
use Rattle.core_events.specs.Partings.{Step, Leads}
use Rattle.dude_core.specs.declared.core_refusal.CoreRefusal.{CoreRefusal}
use Rattle.dude_core.specs.declared.core_refusal.CoreRefusal.TheVariants.{Off, NoMemory}
use Rattle.dude_core.specs.StateSteps.{IsOffAt}

pub never_off : {P : Type 0} (z : Setup) (c : State) (s : Step) (d : State) → Leads z c s d → (P → ⊥) → P ↔ IsOffAt z c s
never_off z c s d leads not = ((λ p. absurd (not p)), (λ off. absurd (off d leads)))

pub made_not_off : {A : Type 0} (r : Result A CoreRefusal) (x : A) → r ≡ Ok x → r ≡ Err Off → ⊥
made_not_off r x is e = let both : Ok x ≡ Err Off = sym is ∙ e in absurd (cc)

pub unmade_not_off : {A : Type 0} (r : Result A CoreRefusal) → r ≡ Err NoMemory → r ≡ Err Off → ⊥
unmade_not_off r is e = let both : Err NoMemory ≡ Err Off = sym is ∙ e in absurd (cc)
