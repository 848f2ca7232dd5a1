-- What a step that was made, or not, leaves.
use Rattle.std.proofs.Common.{◌≡◌, ◌≤◌, ℕ, List, Result, Ok, Err, OnOk, OnErr, sym, ap, subst, ◌∙◌, arith}
use Rattle.dude_base.specs.declared.run.Run.{Run}
use Rattle.dude_base.specs.declared.sizes.Sizes.{Sizes}
use Rattle.core_events.specs.Setups.{Setup, IsSetup}
use Rattle.core_events.specs.Words.{State}
use Rattle.core_events.specs.Partings.{start}
use Rattle.dude_base.specs.Sizes.{IsAccepted}
use Rattle.core_medium.specs.Stores.{Store}
use Rattle.core_medium.specs.Machines.{MachineStep, MachineLeads}
use Rattle.core_medium.specs.KeptStore.{MachineKept, HasPlaces, opening_medium}
use Rattle.core_medium.proofs.Keeps.{step_keeps}
use Rattle.core_medium.proofs.Openings.{opens}
use Rattle.core_medium.proofs.Start.{machine_start}
use Rattle.dude_core.specs.Chains.{writes_in}
use Rattle.dude_core.specs.StoreData.{StoreData, start_data}
use Rattle.dude_core.specs.Stands.{machine_over}
use Rattle.dude_core.proofs.DataEffects.{start_law}
use Rattle.dude_core.specs.CoreState.{CoreState}
use Rattle.dude_core.specs.RunSetups.{setup_of}
use Rattle.dude_core.specs.MadeCores.{FitsImage}

-- the same, over data; after a refusal words, views and data are as they were
pub core_kept : {A B : Type 0} (z : Setup) (c c2 : State) (a a2 : StoreData) (s : MachineStep) (r : Result A B) → MachineKept z (machine_over z c a)
    → OnOk r (MachineLeads z (machine_over z c a) s (machine_over z c2 a2)) → OnErr r (c2 ≡ c) → OnErr r (a2 ≡ a) → MachineKept z (machine_over z c2 a2)
core_kept z c c2 a a2 s (Ok x) k ok err same = step_keeps z (machine_over z c a) (machine_over z c2 a2) s k ok
core_kept z c c2 a a2 s (Err x) k ok err same = subst (λ (b : StoreData). MachineKept z (machine_over z c2 b)) (sym same) (subst (λ (d : State). MachineKept z (machine_over z d a)) (sym err) k)

-- a core whose words and store are as they were is as it was
pub core_same : {A B : Type 0} (z : Setup) (c c2 : State) (a a2 : StoreData) (core : CoreState) (r : Result A B) → record { setup = z; state = c; store = a } ≡ core
    → OnErr r (c2 ≡ c) → OnErr r (a2 ≡ a) → OnErr r (record { setup = z; state = c2; store = a2 } ≡ core)
core_same z c c2 a a2 core (Ok x) is err same = tt
core_same z c c2 a a2 core (Err x) is err same =
    let by_state : State → CoreState = λ s. record { setup = z; state = s; store = a2 } in
    let by_store : StoreData → CoreState = λ s. record { setup = z; state = c; store = s } in
    ap by_state err ∙ (ap by_store same ∙ is)

-- the machine at the start is kept
pub kept_at_start : (z : Setup) (s : Sizes) (c : State) (a : StoreData) → IsSetup z → IsAccepted s → HasPlaces z s → c ≡ start z → a ≡ start_data z s → MachineKept z (machine_over z c a)
kept_at_start z s c a within accepted places c_is a_is =
    subst (λ (b : StoreData). MachineKept z (machine_over z c b)) (sym a_is)
    (subst (λ (d : State). MachineKept z (machine_over z d (start_data z s))) (sym c_is)
    (subst (λ (b : Store). MachineKept z (record { core = start z; store = b })) (sym (start_law z s))
    (machine_start z s (opening_medium z s) within (opens z s within accepted places))))

-- a core that is made over an image is kept: there is a ring for each thread
pub core_at_start : (words : List ℕ) (sizes : Sizes) (run : Run) (threads number : ℕ) (z : Setup) (c : State) (a : StoreData) → z ≡ setup_of words sizes.pages run threads number → IsSetup z → IsAccepted sizes → threads ≤ sizes.rings
    → c ≡ start z → a ≡ start_data z sizes → MachineKept z (machine_over z c a)
core_at_start words sizes run threads number z c a z_is within accepted le c_is a_is =
    let many : z.threads ≡ threads = ap (λ (y : Setup). y.threads) z_is in
    let pages : sizes.pages ≡ z.pages = sym (ap (λ (y : Setup). y.pages) z_is) in
    kept_at_start z sizes c a within accepted (record { rings = omega arith; pages = pages }) c_is a_is

-- no bundle waits at the start
pub none_waits : (z : Setup) (sizes : Sizes) (a : StoreData) (room : ℕ) → a ≡ start_data z sizes → writes_in a.waiting ≤ room
none_waits z sizes a room is = let none : writes_in a.waiting ≡ 0 = ap (λ (d : StoreData). writes_in d.waiting) is in omega arith

-- a run whose setup is one fits an image that has a ring for each thread
pub fits_image : (words : List ℕ) (sizes : Sizes) (run : Run) (threads number : ℕ) → IsSetup (setup_of words sizes.pages run threads number) → threads ≤ sizes.rings → FitsImage sizes run threads
fits_image words sizes run threads number is le = (record { low = is.threads.low; high = le }, is.run)
