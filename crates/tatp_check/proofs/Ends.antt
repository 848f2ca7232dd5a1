-- What is known behind all chains, and behind the pool.
use Rattle.std.proofs.Common.{◌≡◌, ◌≢◌, ℕ, List, AllPairs, slice_index, sym, ap, ◌∙◌, subst, inr}
use Rattle.std.proofs.lemmas.List.{append-nil}
use Rattle.hash_table.specs.declared.table.Table.{Table}
use Rattle.hash_table.specs.Table.{records_in}
use Rattle.tatp_check.specs.declared.check_fault.CheckFault.{CheckFault}
use Rattle.tatp_check.specs.declared.check_fault.CheckFault.TheVariants.{NotDb, NoMemory}
use Rattle.tatp_check.specs.declared.seen.Seen.{Seen}
use Rattle.tatp_check.specs.Faults.{IsCause, IsFirstWrong}
use Rattle.tatp_check.specs.Marks.{AreMarked}
use Rattle.tatp_check.specs.Pools.{HasWholePool, IsWrongPool}
use Rattle.tatp_check.specs.PoolWalk.{AreApartMarked}
use Rattle.tatp_check.specs.Seen.{KnowsChains}
use Rattle.tatp_check.specs.Taken.{AreTaken, records_taken}
use Rattle.tatp_check.specs.Walk.{HasMetChains}
use Rattle.tatp_check.specs.Whole.{KeepsWhole}

-- a cause of one kind is one of another
pub cause_of : (P Q : ℕ → Type 0) → ((word : ℕ) → P word → Q word) → (fault : CheckFault) → IsCause P fault → IsCause Q fault
cause_of P Q gives (NotDb word) is = gives word is
cause_of P Q gives NoMemory is = tt

module _ (content : ℕ → ℕ → Type 0) (table : Table) (array : List ℕ) (buckets : ℕ) (seen : Seen) (known : KnowsChains content table array buckets seen) (each : buckets ≡ table.buckets) where
  met_chains : HasMetChains content table array known.chains
  met_chains = record { met = known.met; all = known.buckets_are ∙ each }

  taken_are : AreTaken array (records_in known.chains) seen.taken
  taken_are = subst (λ l. AreTaken array l seen.taken) (append-nil (records_in known.chains)) known.knows.taken

  -- the records behind the chains
  records_are : records_taken seen.taken ≡ records_in known.chains
  records_are = taken_are.records_are

  -- the marks behind the chains
  pub apart_marked : AreApartMarked table.pool (records_taken seen.taken) seen.marks
  apart_marked = subst (λ l. AreApartMarked table.pool l seen.marks) (sym records_are) (record {
    marked = subst (λ l. AreMarked table.pool l seen.marks.marks.items) (append-nil (records_in known.chains)) known.knows.marked;
    differ = λ i j d lt below same.
        let apart : AllPairs (λ x y. slice_index array x ≢ slice_index array y) (records_in known.chains) = subst (AllPairs (λ x y. slice_index array x ≢ slice_index array y)) (append-nil (records_in known.chains)) known.met.keys_differ in
        apart i j d lt below (ap (λ x. slice_index array x) same);
  })

  -- found in the pool
  pub in_pool : (word : ℕ) → IsWrongPool table.pool array (records_taken seen.taken) word → IsFirstWrong content table array word
  in_pool word wrong = inr (record { chains = known.chains; met = met_chains; wrong = subst (λ l. IsWrongPool table.pool array l word) records_are wrong })

  -- nothing is wrong
  pub all_right : HasWholePool table.pool array (records_taken seen.taken) → KeepsWhole content table array seen.taken
  all_right pool =
      let behind = subst (HasWholePool table.pool array) records_are pool in
      record {
        whole = record { chains = known.chains; free = behind.free; whole = record { met = met_chains; pool = behind.whole }; taken_is = records_are };
        keeps = subst (λ l. AreTaken array l seen.taken) (sym records_are) taken_are;
      }
