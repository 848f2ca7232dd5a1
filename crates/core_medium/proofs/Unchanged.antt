-- The layer of the store where the log and the medium stay as they are.
use Rattle.std.proofs.Common.{◌≡◌, ℕ, ◌≤◌, ◌⊎◌, Bool, true, false, List, [], ◌∷◌, ◌++◌, map, sym, ◌∙◌, inl, inr, arith}
use Rattle.std.specs.Prelude.{if◌then◌else◌}
use Rattle.dude_base.specs.Records.{RedoRecord}
use Rattle.pmem_trait.specs.declared.call.Call.{Call}
use Rattle.redo_record.specs.LogState.{LogState}
use Rattle.core_events.specs.Setups.{Setup}
use Rattle.core_events.specs.Words.{State}
use Rattle.core_events.specs.Events.{unfilled}
use Rattle.core_events.specs.Conditions.{IsFilled}
use Rattle.core_events.specs.Ghosts.{Ghost}
use Rattle.core_events.specs.KeptNumbers.{numbers_of}
use Rattle.core_events.proofs.Filled.{unfilled_in}
use Rattle.core_medium.specs.KeptLog.{IsPosted, drawer_of, LogIn}
use Rattle.core_medium.specs.BoxBundles.{bundle_in, MayGather}
use Rattle.core_medium.proofs.LogOn.{value_on}
use Rattle.core_medium.specs.Stores.{Store}
use Rattle.core_medium.specs.BackCalls.{BackCall, persisting, announcing, reproducing, reading, MayCall, calls_of}
use Rattle.core_medium.specs.KeptStore.{ToldKept, IsUnderWay, StoreKept}

-- what is under way stays so, where what may be gathered still may, with the same bundle
pub under_on : (z : Setup) (boxes boxes2 : List ℕ) (records records2 : List RedoRecord) (l : LogState) (told : List ℕ) (next : ℕ → ℕ) (calls : List Call)
    → ((t j : ℕ) (more : List (ℕ × ℕ)) → MayGather z boxes records l t j more → MayGather z boxes2 records2 l t j more × (bundle_in z records2 t j more ≡ bundle_in z records t j more))
    → (calls ≡ []) ⊎ IsUnderWay z boxes records l told next calls → (calls ≡ []) ⊎ IsUnderWay z boxes2 records2 l told next calls
under_on z boxes boxes2 records records2 l told next calls on (inl none) = inl none
under_on z boxes boxes2 records records2 l told next calls on (inr u) = inr (by u.back u.may u.whole)
  where
    by : (b : BackCall) → MayCall z boxes records l told b → calls_of z records l.sizes next b ≡ calls ++ u.call ∷ u.later → IsUnderWay z boxes2 records2 l told next calls
    by (persisting t j more) may whole =
        let p = on t j more may.gather in
        record { back = persisting t j more; may = record { gather = p.0; newest = rw p.1 may.newest; room = rw p.1 may.room }; call = u.call; later = u.later; whole = rw p.1 whole }
    by (announcing n) may whole = record { back = announcing n; may = may; call = u.call; later = u.later; whole = whole }
    by (reproducing rs ws n) may whole = record { back = reproducing rs ws n; may = may; call = u.call; later = u.later; whole = whole }
    by (reading p) may whole = record { back = reading p; may = may; call = u.call; later = u.later; whole = whole }

-- what is left of read words was read
pub none_read : (b : Bool) (xs : List (ℕ × ℕ)) (i x : ℕ) → IsFilled (if b then [] else xs) i x → IsFilled xs i x
none_read true xs i x e = absurd e
none_read false xs i x e = e

pub less_read : (b : Bool) (p : ℕ) (xs : List (ℕ × ℕ)) (i x : ℕ) → IsFilled (if b then unfilled p xs else xs) i x → IsFilled xs i x
less_read true p xs i x e = (unfilled_in p xs i x e).0
less_read false p xs i x e = e

module _ (z : Setup) (g g2 : Ghost) (c : State) (d : Store) (k : StoreKept z g c d) where
  -- what was told and read, where posted numbers wrote the same
  pub told_on : ((n : ℕ) → (n ≤ z.first) ⊎ IsPosted c.boxes (numbers_of c.persisted) n → g2.claims.hist n ≡ g.claims.hist n) → (durable2 reproduced2 : ℕ) → durable2 ≡ c.durable → reproduced2 ≡ c.reproduced
      → (read2 : List (ℕ × ℕ)) → ((i x : ℕ) → IsFilled read2 i x → IsFilled d.read i x) → ToldKept z g2.claims.hist durable2 reproduced2 (record d { read = read2 })
  told_on same durable2 reproduced2 durable reproduced read2 sub =
      let t = k.told in let high = t.durable_told.2 in let up = t.reproduced_upto in record {
        told = t.told;
        last = t.last;
        durable_told = (t.durable_told.0, t.durable_told.1, omega arith);
        marked_told = t.marked_told;
        marks = t.marks;
        reproduced_upto = omega arith;
        read = λ i x e. let r = t.read i x (sub i x e) in let m = r.1 in let low = m.1 in
            (r.0, (m.0, omega arith, m.2, m.3 ∙ sym (value_on z g.claims.hist g2.claims.hist c.boxes (numbers_of c.persisted) (map drawer_of c.views) d.log k.stands same m.0 i m.2)));
      }

  -- the layer, with other things beside the log
  pub store_by : (c2 : State) (read2 : List (ℕ × ℕ)) → LogIn z g2 c2 d.log → ToldKept z g2.claims.hist c2.durable c2.reproduced (record d { read = read2 })
      → (d.calls ≡ []) ⊎ IsUnderWay z c2.boxes c2.records d.log d.rest.told d.next d.calls → StoreKept z g2 c2 (record d { read = read2 })
  store_by c2 read2 stands told under = record { places = k.places; holds = k.holds; laid = k.laid; next_in = k.next_in; stands = stands; told = told; under = under }
