-- A packet and the kept ones that follow it, applied one after another.
use Rattle.std.specs.Prelude.{◌≡◌, ◌≢◌, ℕ, ◌+◌, Bool, false, true, List, ◌∷◌, ◌++◌, All}
use Rattle.std.specs.List.{Contains}
use Rattle.dude_base.specs.Records.{RedoBundle, first_of}
use Rattle.pmem_trait.specs.Sights.{Sight}
use Rattle.redo_record.specs.Recovery.{AreConsecutive}
use Rattle.back_store.specs.Back.{BackState}
use Rattle.dude_follow.specs.Applying.{Applies, RecoversThrough}

-- Of these packets, which lead on from a number, just those before one of them were applied: they lead to this number.
pub record StopsBefore (packets : List RedoBundle) (from number : ℕ) : Type 0 where
  pub front : List RedoBundle
  pub next : RedoBundle
  pub rest : List RedoBundle
  pub split : packets ≡ front ++ next ∷ rest
  pub lead : AreConsecutive from front number

-- The packet and kept ones lead on, as far as there is one, whatever the calls answer. All of them were applied; or, where a
-- call failed, those before one of them.
pub record AppliesChain (kept : List RedoBundle) (b : RedoBundle) (ok : Bool) (v : BackState) (s : Sight) (w : BackState) (t : Sight) : Type 0 where
  pub more : List RedoBundle
  pub from_kept : All (Contains kept) more
  pub end : ℕ
  pub lead : AreConsecutive v.log.reproduced (b ∷ more) end
  pub none_next : All (λ c. first_of c ≢ end + 1) kept
  pub number : ok ≡ true → w.log.reproduced ≡ end
  pub whole : ok ≡ true → Applies (b ∷ more) v s w t
  pub part : ok ≡ false → StopsBefore (b ∷ more) v.log.reproduced w.log.reproduced
  pub moments : RecoversThrough (b ∷ more) v s t
