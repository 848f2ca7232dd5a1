-- The layer of the store is kept by every event on words, by a split and by a join.
use Rattle.std.proofs.Common.{◌≡◌, ◌==◌, ℕ, true, List, [], get_or, refl, arith}
use Rattle.core_events.specs.Setups.{Setup, without_pins}
use Rattle.core_events.specs.Views.{View}
use Rattle.core_events.specs.Words.{State}
use Rattle.core_events.specs.Events.{Event, take_turn, empty_box, raise_durable, raise_reproduced, evict, show, kept_entry}
use Rattle.core_events.specs.Conditions.{IsAllowed, IsFilled, after}
use Rattle.core_events.specs.Partings.{MaySplit, MayJoin, split, join}
use Rattle.core_events.specs.Ghosts.{Ghost, ghost_after, ghost_joined}
use Rattle.core_events.specs.Kept.{LayersKept}
use Rattle.core_medium.specs.HistoryLaws.{EmptiesPersisted}
use Rattle.core_medium.proofs.Posted.{history_on}
use Rattle.core_medium.proofs.GatheredOn.{gathers_on}
use Rattle.core_medium.proofs.LogEvents.{log_keep}
use Rattle.core_medium.proofs.LogPartings.{log_split_keep, log_join_keep}
use Rattle.core_medium.specs.Stores.{Store}
use Rattle.core_medium.specs.KeptStore.{ToldKept, StoreKept}
use Rattle.core_medium.specs.Machines.{Meets, store_after}
use Rattle.core_medium.proofs.Unchanged.{under_on, none_read, less_read, told_on, store_by}

-- a box that is emptied has a number that is on the medium
empties : (z : Setup) (e : Event) (c : State) (d : Store) (v : View) → Meets z e c d v → EmptiesPersisted z e c d.log
empties z (empty_box t j) c d v m = m.1
empties z e c d v m = tt

module _ (z : Setup) (g : Ghost) (c : State) (l : LayersKept z g c) (d : Store) (k : StoreKept z g c d) where
  module _ (who : ℕ) (v : View) where
    -- the log stands, and what is under way stays so
    by_told : (e : Event) → IsAllowed z c who e v → Meets z e c d v → (read2 : List (ℕ × ℕ)) → ToldKept z (ghost_after z g c who v e).claims.hist (after z c who v e).durable (after z c who v e).reproduced (record d { read = read2 })
        → StoreKept z (ghost_after z g c who v e) (after z c who v e) (record d { read = read2 })
    by_told e a m read2 told =
        store_by z g (ghost_after z g c who v e) c d k (after z c who v e) read2
        (log_keep z g c d.log l k.stands who v e a (empties z e c d v m))
        told
        (under_on z c.boxes (after z c who v e).boxes c.records (after z c who v e).records d.log d.rest.told d.next d.calls (gathers_on z g c l d.log who v e a (empties z e c d v m)) k.under)

    -- neither the durable nor the reproduced word changes
    by_read : (e : Event) → IsAllowed z c who e v → Meets z e c d v → (after z c who v e).durable ≡ c.durable → (after z c who v e).reproduced ≡ c.reproduced
        → (read2 : List (ℕ × ℕ)) → ((i x : ℕ) → IsFilled read2 i x → IsFilled d.read i x) → StoreKept z (ghost_after z g c who v e) (after z c who v e) (record d { read = read2 })
    by_read e a m durable reproduced read2 sub =
        by_told e a m read2
        (told_on z g (ghost_after z g c who v e) c d k (history_on z g c l who v e a) (after z c who v e).durable (after z c who v e).reproduced durable reproduced read2 sub)

    pub store_keep : (e : Event) → IsAllowed z c who e v → Meets z e c d v → StoreKept z (ghost_after z g c who v e) (after z c who v e) (store_after z e c v d)
    store_keep (raise_durable x) a m =
        let t = k.told in
        by_told (raise_durable x) a m d.read
        (record { told = t.told; last = t.last; durable_told = (x, m.1, omega arith); marked_told = t.marked_told; marks = t.marks; reproduced_upto = t.reproduced_upto; read = t.read })
    store_keep (raise_reproduced x) a m =
        let t = k.told in
        by_told (raise_reproduced x) a m []
        (record { told = t.told; last = t.last; durable_told = t.durable_told; marked_told = t.marked_told; marks = t.marks; reproduced_upto = t.marks x m.1; read = λ i y e. absurd e })
    store_keep take_turn a m = by_read take_turn a m refl refl _ (none_read (c.turn == 0) d.read)
    store_keep (evict p) a m = by_read (evict p) a m refl refl _ (less_read (get_or c.entries p 0 == without_pins (kept_entry v p)) p d.read)
    store_keep (show p f) a m = by_read (show p f) a m refl refl _ (less_read true p d.read)
    store_keep e a m = by_read e a m refl refl d.read (λ i x e. e)

module _ (z : Setup) (g : Ghost) (c : State) (d : Store) (k : StoreKept z g c d) where
  pub store_split_keep : (who draws : ℕ) (v : View) → MaySplit c who v draws → StoreKept z g (split z c who v draws) d
  store_split_keep who draws v may =
      store_by z g g c d k (split z c who v draws) d.read (log_split_keep z g c d.log k.stands who draws v may) (told_on z g g c d k (λ n which. refl) c.durable c.reproduced refl refl d.read (λ i x e. e)) k.under

  pub store_join_keep : (who other : ℕ) (v w : View) → MayJoin c who v other w → StoreKept z (ghost_joined g who other) (join z c who v other w) d
  store_join_keep who other v w may =
      store_by z g (ghost_joined g who other) c d k (join z c who v other w) d.read
      (log_join_keep z g c d.log k.stands who other v w may) (told_on z g (ghost_joined g who other) c d k (λ n which. refl) c.durable c.reproduced refl refl d.read (λ i x e. e)) k.under
