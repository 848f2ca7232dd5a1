-- A bundle whose ring was full is tried again behind an announcement and a reproduction.
use Rattle.std.proofs.Common.{◌≡◌, ℕ, true, List, sym, ◌∙◌, subst, arith}
use Rattle.pmem_trait.specs.declared.medium.Medium.{Ghosts}
use Rattle.back_store.specs.declared.back.Back.{Back}
use Rattle.back_store.specs.BackView.{sight_of, state_of}
use Rattle.stm_slots.specs.Calls.{StaysKnown}
use Rattle.run_threads.specs.Bundled.{IsBundled}
use Rattle.run_threads.specs.CaughtUp.{GoesOn, HasCaughtUp, IsKnownSomehow}
use Rattle.run_threads.specs.Ending.{since}
use Rattle.run_threads.specs.Handing.{Dies, Hands, HandsUpTo, MayGoOn, MayHand, WasFull}
use Rattle.run_threads.specs.declared.open_bundle.OpenBundle.{OpenBundle}
use Rattle.run_threads.proofs.CatchingUp.{died_on, reaches, under_on}
use Rattle.tiny_stm.specs.declared.posted.Posted.{Posted}

module _ {M : Type 0} {ghosts : Ghosts M} where
  pub known_somehow : (rest : List Posted) (from : ℕ) (back : Back M ghosts) → MayGoOn rest from back → IsKnownSomehow back
  known_somehow rest from back may = record { since = since may.ending; records = may.under.records; known = may.under.known.known }

  module _ (o : OpenBundle) (old mid : Back M ghosts) (full : WasFull o old mid) (may : MayHand o old) where
    pub full_known : IsKnownSomehow mid
    full_known = known_somehow may.rest may.from mid (record { ending = may.may.ending; under = full.stays may.rest may.from may.bundled may.may.ending may.may.under })

    module _ (same : (state_of mid).log.sizes ≡ (state_of old).log.sizes) (new : Back M ghosts) (stays : StaysKnown mid new) (goes : GoesOn (state_of mid) (state_of new)) where
      bundled_on : (rest : List Posted) (from : ℕ) → IsBundled (state_of old).log.sizes.cells rest from o → IsBundled (state_of new).log.sizes.cells rest from o
      bundled_on rest from b = subst (λ (s : _). IsBundled s.cells rest from o) (sym (goes.sizes ∙ same)) b

      pub died_catching : (state_of new).dead ≡ true → Dies o old new
      died_catching dead rest from b e u =
          let w = full.stays rest from b e u in
          died_on e rest from (state_of mid) (state_of new) (sight_of mid) (sight_of new) w goes dead (stays (since e) w.records w.known.known)

      module _ (up : HasCaughtUp (state_of mid) (state_of new)) where
        caught : (rest : List Posted) (from : ℕ) → IsBundled (state_of old).log.sizes.cells rest from o → HandsUpTo rest from from old new
        caught rest from b e u =
            let w = full.stays rest from b e u in
            under_on e rest from (state_of mid) (state_of new) (sight_of mid) (sight_of new) w goes up.alive (stays (since e) w.records w.known.known)

        pub may_again : MayHand o new
        may_again = record {
          rest = may.rest;
          from = may.from;
          may = record { ending = may.may.ending; under = caught may.rest may.from may.bundled may.may.ending may.may.under };
          bundled = bundled_on may.rest may.from may.bundled;
        }

        pub hands_again : (last : Back M ghosts) → Hands o new last → Hands o old last
        hands_again last hands rest from b e u = hands rest from (bundled_on rest from b) e (caught rest from b e u)

        pub dies_again : (last : Back M ghosts) → Dies o new last → Dies o old last
        dies_again last dies rest from b e u = dies rest from (bundled_on rest from b) e (caught rest from b e u)

        -- then its ring has room
        pub has_room : (last : Back M ghosts) → WasFull o new last → ⊥
        has_room last again =
            let b = may.bundled in let late = again.late in let first = b.first in
            let u = full.stays may.rest may.from b may.may.ending may.may.under in
            let reach = reaches may.may.ending may.rest may.from (state_of mid) (state_of new) (sight_of mid) (sight_of new) u up (let s = b.some in let w = b.within in omega arith) in absurd (omega arith)
