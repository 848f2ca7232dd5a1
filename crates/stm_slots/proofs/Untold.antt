-- A reproduction tells nothing.
use Rattle.std.proofs.Common.{◌≡◌, ◌⊎◌, inl, inr, ℕ, IsTrue, List, [], sym, subst}
use Rattle.std.specs.Prelude.{Result, Ok, Err, IfOk}
use Rattle.std.specs.List.{All}
use Rattle.std.proofs.lemmas.List.Elements.{All-nil}
use Rattle.pmem_trait.specs.declared.call.Call.{Call}
use Rattle.pmem_trait.specs.Sights.{Sight, state_now}
use Rattle.back_store.specs.Answers.{ReproducedBy, ReproducesUnlessDead}
use Rattle.back_store.specs.Back.{BackState}
use Rattle.back_store.specs.declared.back_fault.BackFault.{BackFault}
use Rattle.back_store.specs.declared.back_fault.BackFault.TheVariants.{RingFull, Device, Dead}
use Rattle.back_store.proofs.NoTells.{TellsNothing, reproduce_tells_nothing, told_same}

untold_by : {v : BackState} {number : ℕ} {calls : List Call} → ((number ≡ v.log.reproduced) × (calls ≡ [])) ⊎ ReproducedBy v number calls → All TellsNothing calls
untold_by (inl nothing) = subst (All TellsNothing) (sym nothing.1) (All-nil TellsNothing)
untold_by {v} {number} (inr by) = subst (All TellsNothing) (sym by.calls_are) (reproduce_tells_nothing v.log.sizes by.writes number)

pub tells_none : (v : BackState) (most : ℕ) (result : Result ℕ BackFault) (s t : Sight) → ReproducesUnlessDead v most result s t → IfOk result (λ n. IsTrue s.is_visible → (state_now t).told ≡ (state_now s).told)
tells_none v most (Ok n) s t made = λ seen. told_same made.made.made (untold_by made.made.by) seen
tells_none v most (Err Device) s t made = tt
tells_none v most (Err Dead) s t made = tt
tells_none v most (Err (RingFull used need)) s t made = tt
