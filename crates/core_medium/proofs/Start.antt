-- The machine at its start is kept.
use Rattle.std.proofs.Common.{◌≡◌, ℕ, zero, suc, ◌-◌, ◌*◌, ◌≤◌, List, [], ◌∷◌, refl, sym, ap, ◌∙◌, inl, ⊎_elim, arith}
use Rattle.std.specs.Prelude.{replicate, slice_index}
use Rattle.std.specs.List.{Contains}
use Rattle.std.proofs.Math.Nat.{mod-eq_of_lt}
use Rattle.std.proofs.lemmas.Bool.{true≢false}
use Rattle.dude_base.specs.Writes.{written}
use Rattle.dude_base.specs.declared.write.Write.{Write}
use mathlib.Core.Option.{some, some-injective, some-ne-none}
use lib.ListN.{get_elem?}
use Rattle.dude_base.specs.declared.limits.TheConstants.{MAX_NUMBER}
use Rattle.dude_base.specs.declared.sizes.Sizes.{Sizes}
use Rattle.pmem_trait.specs.Words.{State as MediumState}
use Rattle.redo_record.specs.BackLaws.{no_records}
use Rattle.redo_record.specs.Waiting.{Waiting}
use Rattle.redo_record.proofs.HeldLog.{empty_log_law}
use Rattle.core_events.specs.Setups.{Setup, IsSetup, box_of}
use Rattle.core_events.specs.Entries.{History, value}
use Rattle.core_events.specs.Partings.{newcomer, start, AllLead}
use Rattle.core_events.specs.Kept.{Kept}
use Rattle.core_events.specs.Keyed.{or_else}
use Rattle.core_events.proofs.Start.{start_keeps}
use Rattle.core_medium.specs.KeptLog.{Drawer, drawer_of}
use Rattle.core_medium.specs.KeptStore.{StoreKept, MachineKept, start_machine, IsStart}
use Rattle.core_medium.specs.Machines.{Machine, MachineStep, words_of}
use Rattle.core_medium.specs.MachineLaws.{IsReached}
use Rattle.core_medium.proofs.Keeps.{steps_keep, projects}

only_one : {A : Type 0} (a b : A) (j : ℕ) → get_elem? (a ∷ []) j ≡ some b → a ≡ b
only_one a b zero e = some-injective a b e
only_one a b (suc j) e = absurd (some-ne-none b (sym e))

in_replicate : (n j a b : ℕ) → get_elem? (replicate n a) j ≡ some b → a ≡ b
in_replicate zero j a b e = absurd (some-ne-none b (sym e))
in_replicate (suc n) zero a b e = some-injective a b e
in_replicate (suc n) (suc j) a b e = in_replicate n j a b e

-- where nothing was written the value is the opening word
unwritten : (opening : List ℕ) (hist : History) (n i : ℕ) → ((m : ℕ) → m ≤ n → hist m ≡ []) → value opening hist n i ≡ slice_index opening i
unwritten opening hist zero i none = refl
unwritten opening hist (suc n) i none =
    ap (λ (ws : List Write). or_else (written ws i) (value opening hist n i)) (none (suc n) (omega arith)) ∙ unwritten opening hist n i (λ m le. none m (omega arith))

none_in : (w : Waiting) → Contains [] w → ⊥
none_in w is = let lt = is.1 in omega arith

module _ (z : Setup) (s : Sizes) (p : MediumState) (ok : IsSetup z) (is : IsStart z s p) where
  abbrev kept : Kept z (start z)
  kept = start_keeps z ok

  home_value : (i : ℕ) → slice_index z.opening i ≡ value z.opening kept.ghost_is.claims.hist z.first i
  home_value i = sym (unwritten z.opening kept.ghost_is.claims.hist z.first i (λ n le. (kept.layers.locks.numbers.before n le).0))

  store0 : StoreKept z kept.ghost_is (start z) (start_machine z s p).store
  store0 = record {
    places = is.places;
    holds = empty_log_law s z.first z.opening (λ ring. no_records) p is.accepted ok.number is.rests is.no_heads (λ ring lt. refl);
    laid = λ ring lt. record {
      some = λ i e few. absurd (omega arith);
      rising = λ i j e lt2 few. absurd (omega arith);
      oldest = (let least = is.accepted.cells.low in omega arith);
      follow = tt;
      ends = mod-eq_of_lt (let least = is.accepted.cells.low in omega arith);
      few = omega arith;
    };
    next_in = λ ring lt. let least = is.accepted.cells.low in omega arith;
    stands = record {
      from = omega arith;
      home = λ i lt. home_value i;
      marked = λ n lt le. absurd (omega arith);
      waits = λ w there. absurd (none_in w there);
      left_on = λ n e. absurd (true≢false (sym e));
      boxed = λ t j n lt lj e pos. absurd (let same = in_replicate (z.threads * z.boxes) (box_of z t j) 0 n e in omega arith);
      drawn = λ i t r e th pos. absurd (let same = ap (λ (y : Drawer). y.number) (only_one (drawer_of (newcomer z (z.threads - 1) (MAX_NUMBER - z.first))) r i e) in omega arith);
    };
    told = record {
      told = λ x n e le. inl (⊎_elim (λ same. omega arith) (λ none. absurd none) (rw is.told at e));
      last = (z.first, rw is.told refl, (λ x e. ⊎_elim (λ same. omega arith) (λ none. absurd none) (rw is.told at e)));
      durable_told = (z.first, rw is.told (inl refl), omega arith);
      marked_told = (z.first, rw is.told (inl refl), omega arith);
      marks = λ x e. ⊎_elim (λ same. omega arith) (λ none. absurd none) e;
      reproduced_upto = omega arith;
      read = λ i x e. absurd e;
    };
    under = inl refl;
  }

  pub machine_start : MachineKept z (start_machine z s p)
  machine_start = record { ghost_is = kept.ghost_is; layers = kept.layers; values = kept.values; store = store0 }

-- ---- what is reached from there
module _ (z : Setup) (ss : List MachineStep) (m : Machine) (is : IsReached z ss m) where
  pub machine_reached : MachineKept z m
  machine_reached = steps_keep z ss (start_machine z is.sizes is.medium) m (machine_start z is.sizes is.medium is.setup is.begins) is.lead

  pub words_reached : AllLead z (start z) (words_of ss) m.core
  words_reached = projects z ss (start_machine z is.sizes is.medium) m (machine_start z is.sizes is.medium is.setup is.begins) is.lead
