-- Transactions that began over an opened image, and what is said of their run.
use Rattle.std.proofs.Common.{◌≡◌, ℕ, List, [], ap, subst}
use Rattle.dude_base.specs.declared.run.Run.{Run}
use Rattle.dude_base.specs.declared.sizes.Sizes.{Sizes}
use Rattle.pmem_trait.specs.Sights.{Sight}
use Rattle.pmem_trait.specs.declared.medium.Medium.{Ghosts}
use Rattle.tatp_model.specs.declared.done.Done.{Done}
use Rattle.tatp_model.specs.declared.request.Request.{Request}
use Rattle.back_store.specs.BackView.{sight_of}
use Rattle.core_events.specs.Setups.{Setup}
use Rattle.core_table.specs.Layout.{TableSight}
use Rattle.stm_slots.specs.declared.opening.Opening.{Opening}
use Rattle.dude_recover.specs.declared.opened.Opened.{Opened}
use Rattle.dude_recover.specs.Opened.{IsOpened}
use Rattle.dude_engine.specs.declared.ran.Ran.{Ran}
use Rattle.dude_engine.specs.declared.ran.RanEnd.{RanEnd}
use Rattle.dude_engine.specs.declared.ran.RanEnd.TheVariants.{NoMemory}
use Rattle.run_threads.specs.declared.begun.Begun.{Begun}
use Rattle.run_threads.specs.Begun.{HasBegun, begun_table}
use Rattle.run_threads.specs.Ends.{IsAsOpened}
use Rattle.run_threads.specs.Ran.{RanFrom, RanNothing, Start}
use Rattle.run_threads.specs.Starts.{start_of}
use Rattle.run_threads.proofs.Finishing.{ran_same}
use Rattle.run_threads.proofs.Opened.{nothing_done, start, started_by}

module _ {M : Type 0} {ghosts : Ghosts M} (o : Opened M ghosts) (run : Run) (threads : ℕ) (opened : IsOpened o) where
  -- ---- transactions began
  module _ (b : Begun M ghosts) (begun : HasBegun o run threads b) where
    abbrev t : TableSight (Opening M ghosts)
    t = begun_table b

    pub frames_are : (begun_table b).key.terms.frames ≡ run.frames
    frames_are = ap (λ (z : Setup). z.frames) begun.started.terms_are

    -- what its transactions left is left of a run from the image
    pub ran_over : (held : IsAsOpened o) (files : List (List Request)) (done : List Done) (end : RanEnd) (last : ℕ) (u : Sight) → RanFrom (start_of ghosts.sight (begun_table b).key b.lay) files done end last u → RanFrom (start o run threads opened held) files done end last u
    ran_over held files done end last u ran =
        subst (λ (k : Start). RanFrom k files done end last u) (started_by o run threads opened held t.key begun.started.back_is begun.started.terms_are)
        (subst (λ (s : Sizes). RanFrom (start_of ghosts.sight t.key s) files done end last u) begun.lay ran)

  -- ---- no table was made
  pub ran_nothing : (held : IsAsOpened o) (files : List (List Request)) (ran : Ran M) → RanNothing o ran → RanFrom (start o run threads opened held) files ran.done.items ran.end ran.last (ghosts.sight ran.medium)
  ran_nothing held files ran nothing =
      ran_same (start o run threads opened held) files [] ran.done.items NoMemory ran.end o.number ran.last (sight_of o.back) (ghosts.sight ran.medium) nothing.none nothing.end nothing.last (ap ghosts.sight nothing.medium)
      (nothing_done o run threads opened held nothing.known files)
