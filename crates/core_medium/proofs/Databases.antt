-- Every image of a reached machine's medium recovers to the database at its number.
use Rattle.std.proofs.Common.{◌≡◌, ℕ, ◌*◌, ◌<◌, ◌≤◌, List, sym, ap, ◌∙◌, subst}
use Rattle.dude_base.specs.declared.limits.TheConstants.{PAGE}
use Rattle.dude_base.specs.Image.{image_words}
use Rattle.pmem_trait.specs.Words.{EveryImage}
use Rattle.tatp_model.specs.declared.request.Request.{Request}
use Rattle.tatp_model.specs.declared.done.Done.{Done}
use Rattle.tatp_model.specs.Database.{Database}
use Rattle.tatp_layout.specs.StandsFor.{StandsFor}
use Rattle.image_recovery.specs.Recovered.{RecoversTo}
use Rattle.core_events.specs.Setups.{Setup}
use Rattle.core_events.specs.Entries.{all_entries, IsLegal}
use Rattle.core_events.proofs.Keeps.{kept_legal}
use Rattle.core_medium.specs.Stores.{medium_of}
use Rattle.core_medium.specs.KeptStore.{MachineKept}
use Rattle.core_medium.specs.Machines.{Machine, MachineStep}
use Rattle.core_medium.specs.Crash.{RecoversToValues}
use Rattle.core_medium.proofs.Crashes.{recovers}
use Rattle.core_medium.proofs.Start.{machine_reached}
use Rattle.run_order.proofs.NumbersPrinted.{law_databases}
use Rattle.legal_entries.specs.Served.{LeadsThrough, AreDoneBy}
use Rattle.legal_entries.proofs.Carrying.{law_done}
use Rattle.legal_entries.proofs.Law.{law}
use Rattle.core_medium.specs.Databases.{IsServedMachine, RecoversToDatabases, RecoversAlongOrder}

module _ (z : Setup) (ss : List MachineStep) (m : Machine) (db : Database) (len : ℕ) (is : IsServedMachine z ss m db) (long : image_words m.store.log.sizes ≤ len) where
  kept : MachineKept z m
  kept = machine_reached z ss m is.reached

  legal : IsLegal z.first z.opening (all_entries m.core.views)
  legal = kept_legal z m.core (record { ghost_is = kept.ghost_is; layers = kept.layers; values = kept.values }) is.told

  through : LeadsThrough z.first m.store.log.sizes z.opening db (all_entries m.core.views)
  through = law z.first m.store.log.sizes z.opening db (all_entries m.core.views) is.opening legal is.served

  values : EveryImage len (RecoversToValues z m) (medium_of m.store)
  values = recovers z kept.ghost_is m.core kept.layers m.store kept.store len long

  words : m.store.log.sizes.pages * PAGE ≡ z.pages * PAGE
  words = ap (λ (n : ℕ). n * PAGE) kept.store.places.pages

  -- an image that recovers to the values at a number recovers to the database there
  database_at : (image : List ℕ) (v : RecoversToValues z m (medium_of m.store).told image) → RecoversTo image v.number m.store.log.sizes (through.databases v.number)
  database_at image v =
      let same = through.words v.number v.array (v.size ∙ sym words) (λ i lt. v.values i (subst (λ (n : ℕ). i < n) words lt)) in
      record {
        array = v.array;
        recovered = v.recovered;
        same_sizes = v.same_sizes;
        stands = subst (λ (array : List ℕ). StandsFor m.store.log.sizes array (through.databases v.number)) (sym same) (through.stands v.number);
      }

  pub databases_recovered : RecoversToDatabases z m db len
  databases_recovered = record {
    databases = through.databases;
    are = through.leads;
    images = record { each = λ image there. let v = values.each image there in (v.number, v.from, v.least, database_at image v) };
  }

  pub order_recovered : (files : List (List Request)) (done : List Done) → AreDoneBy files (all_entries m.core.views) done → RecoversAlongOrder z m db done len
  order_recovered files done by_them =
      let numbered = law_done z.first m.store.log.sizes z.opening db files (all_entries m.core.views) done through by_them in
      let prints = (law_databases z.first m.store.log.sizes.calls db files done through.databases numbered.0).0 numbered.1 in
      record {
        order = prints.order;
        printed = prints.printed;
        images = record {
          each = λ image there.
              let v = values.each image there in
              (v.number, v.from, v.least, subst (λ (base : Database). RecoversTo image v.number m.store.log.sizes base) (sym (prints.along v.number v.from)) (database_at image v));
        };
      }
