-- The rows are those of a new database of one subscriber, which are in order.
use Rattle.std.proofs.Common.{◌≡◌, ◌∙◌, sym, subst, ap, [], ◌∷◌, length, arith}
use Rattle.tatp_model.specs.Database.{IsInOrder}
use Rattle.tatp_model.specs.Population.{population}
use Rattle.tatp_model.proofs.PopulationInOrder.{IsInOrder-population}
use Rattle.text_runs.proofs.population.one_subscriber.Goals as goal

pub returns-clause-in_order : goal.returns-clause-in_order
returns-clause-in_order c =
    let subscribers : c.in_ok-from_slice.field-0.items ≡ (population 1).subscribers = c.in_ok-from_slice.ensures.items in
    let accesses : c.access.result ∷ c.access-2.result ∷ [] ≡ (population 1).access = λ i. c.access.ensures i ∷ c.access-2.ensures i ∷ [] in
    let facilities : c.facility.result ∷ c.facility-2.result ∷ c.facility-3.result ∷ [] ≡ (population 1).facilities = λ i. c.facility.ensures i ∷ c.facility-2.ensures i ∷ c.facility-3.ensures i ∷ [] in
    let calls : c.call.result ∷ c.call-2.result ∷ c.call-3.result ∷ c.call-4.result ∷ c.call-5.result ∷ [] ≡ (population 1).calls = λ i. c.call.ensures i ∷ c.call-2.ensures i ∷ c.call-3.ensures i ∷ c.call-4.ensures i ∷ c.call-5.ensures i ∷ [] in
    let accesses' : c.in_ok-from_slice-2.field-0.items ≡ (population 1).access = c.in_ok-from_slice-2.ensures.items ∙ accesses in
    let facilities' : c.in_ok-from_slice-3.field-0.items ≡ (population 1).facilities = c.in_ok-from_slice-3.ensures.items ∙ facilities in
    let calls' : c.in_ok-from_slice-4.field-0.items ≡ (population 1).calls = c.in_ok-from_slice-4.ensures.items ∙ calls in
    subst IsInOrder (λ i. record { subscribers = sym subscribers i; access = sym accesses' i; facilities = sym facilities' i; calls = sym calls' i }) (IsInOrder-population 1 (omega arith))

pub returns-clause-calls : goal.returns-clause-calls
returns-clause-calls c = ap length c.in_ok-from_slice-4.ensures.items
