-- A table is made over a back that is at rest.
use Rattle.std.proofs.Common.{◌≡◌, ℕ, zero, suc, ◌+◌, ◌*◌, ◌/◌, ◌^◌, ◌≤◌, sym, ◌∙◌, subst, arith}
use Rattle.std.specs.Prelude.{Result, Ok, Err, IfErr}
use Rattle.dude_base.specs.declared.sizes.Sizes.{Sizes}
use Rattle.dude_base.specs.Home.{index_length, index_shape, table_words, tables_length}
use Rattle.dude_base.specs.Sizes.{IsAccepted}
use Rattle.pmem_trait.specs.Sights.{Sight}
use Rattle.pmem_trait.specs.declared.medium.Medium.{Ghosts}
use Rattle.core_events.specs.Setups.{Setup, IsSetup}
use Rattle.stm_slots.specs.Opening.{setup_of}
use Rattle.stm_slots.specs.declared.opening.Opening.{Opening}
use Rattle.tiny_stm.specs.Fitting.{Refuses}
use Rattle.tiny_stm.specs.declared.stm_fault.StmFault.{StmFault}
use Rattle.tiny_stm.specs.declared.stm_fault.StmFault.TheVariants.{Size, NoMemory}

pub setup_within : {M : Type 0} {ghosts : Ghosts M} (sight : M → Sight) (o : Opening M ghosts) (t : Setup) → o.terms ≡ t → IsSetup t → IsSetup (setup_of sight o)
setup_within sight o t same within = let h : IsSetup o.terms = subst IsSetup (sym same) within in record { threads = h.threads; run = record { frames = h.run.frames; locks = h.run.locks; boxes = h.run.boxes }; words = h.words; number = h.number }

size_memory : (f n : ℕ) → Size f n ≡ NoMemory → ⊥
size_memory f n e = absurd cc

-- what was refused for want of memory wasn't for its sizes
pub no_size : {A B C : Type 0} (P : (StmFault × B × C) → Type 0) (f n : ℕ) → ((e : StmFault × B × C) → P e → e.0 ≡ NoMemory) → (r : Result A (StmFault × B × C)) → IfErr r P → Refuses (Size f n) r → ⊥
no_size P f n memory (Ok a) err refused = refused
no_size P f n memory (Err e) err refused = size_memory f n (sym refused ∙ memory e err)

once : (i x : ℕ) → i ≤ 1 → i * x ≤ x
once zero x few = omega arith
once (suc i) x few = let one : 1 ≡ suc i = omega arith in subst (λ k. k * x ≤ x) one (omega arith)

pages_of : (pages tables indexed : ℕ) → pages ≡ (tables + indexed + 63) / 64 → tables ≤ 2 ^ 31 → indexed ≤ 2 ^ 31 → pages ≤ 2 ^ 32
pages_of pages tables indexed is few also = omega arith

-- accepted sizes have few pages
pub few_pages : {s : Sizes} → IsAccepted s → s.pages ≤ 2 ^ 32
few_pages {s} accepted =
    let indexed : index_length s.subscribers s.index ≤ 2 * table_words (index_shape s.subscribers) = once s.index (2 * table_words (index_shape s.subscribers)) (omega (arith, accepted.index.high)) in
    pages_of s.pages (tables_length s.subscribers s.calls) (index_length s.subscribers s.index) accepted.pages (omega (arith, accepted.subscribers.high, accepted.calls.high)) (omega (arith, indexed, accepted.subscribers.high))
