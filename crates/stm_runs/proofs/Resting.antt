-- The back of an image that was opened on a new medium is at rest.
use Rattle.std.proofs.Common.{ℕ, ◌*◌, ◌∙◌, List, [], length, drop, sym, ap, subst}
use Rattle.std.specs.List.{Contains}
use Rattle.std.proofs.Math.Seq.{drop-nil}
use Rattle.pmem_trait.specs.declared.medium.Medium.{Ghosts}
use Rattle.pmem_trait.specs.Sights.{Sight, state_now}
use Rattle.pmem_trait.specs.Words.{IsIn}
use Rattle.back_store.proofs.EmptyLanes.{none_waiting}
use Rattle.dude_base.specs.declared.limits.TheConstants.{PAGE}
use Rattle.back_store.specs.Back.{BackState, home_now, idle, waiting_now}
use Rattle.back_store.specs.BackView.{sight_of}
use Rattle.back_store.specs.Images.{HoldsStore}
use Rattle.dude_recover.specs.Answers.{IsOpenedFrom}
use Rattle.dude_recover.specs.Opened.{HasToldNoMore, IsOpened}
use Rattle.dude_recover.specs.declared.opened.Opened.{Opened}
use Rattle.tiny_stm.specs.Started.{IsAtRest}
use Rattle.stm_runs.specs.Untold.{IsUntold}

module _ {M : Type 0} {ghosts : Ghosts M} (s : Sight) (o : Opened M ghosts) (opened : IsOpened o) (untold : IsUntold s) (from : IsOpenedFrom s o) where
  told_none : (before number : ℕ) → HasToldNoMore before number s
  told_none before number visible x among = absurd (none_in x before (subst (λ (xs : List ℕ). IsIn x (drop before xs)) (untold visible) among))
    where
      none_in : (x n : ℕ) → IsIn x (drop n []) → ⊥
      none_in x n h = subst (λ (xs : List ℕ). IsIn x xs) (drop-nil n) h

  before : ℕ
  before = length (state_now (sight_of o.back)).told

  pub at_rest : IsAtRest o.back o.words.items o.number
  unfolding before
  at_rest =
      let is = opened.idle in
      let holds = from.holds before (told_none before o.number) in
      record {
        alive = ap (λ (v : BackState). v.dead) is;
        none = λ w among. none_waiting o.sizes w (subst (λ (v : BackState). Contains (waiting_now v) w) is among);
        durable = ap (λ (v : BackState). v.log.durable) is;
        reproduced = ap (λ (v : BackState). v.log.reproduced) is;
        size = opened.lawful.1.size ∙ sym (ap (λ (v : BackState). v.log.sizes.pages * PAGE) is);
        home = λ visible. ap (λ (v : BackState). home_now v.log.sizes (sight_of o.back)) is ∙ holds.home visible;
        keeps = subst (λ (v : BackState). HoldsStore before v (sight_of o.back)) (sym is) holds.keeps;
      }
