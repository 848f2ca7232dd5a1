-- Transactions that have begun over an opened image.
use Rattle.std.specs.Prelude.{◌≡◌, ℕ, List}
use Rattle.dude_base.specs.declared.run.Run.{Run}
use Rattle.pmem_trait.specs.declared.medium.Medium.{Ghosts}
use Rattle.tatp_model.specs.declared.request.Request.{Request}
use Rattle.core_table.specs.Layout.{TableSight}
use Rattle.stm_slots.specs.Opening.{setup_of}
use Rattle.stm_slots.specs.declared.opening.Opening.{Opening}
use Rattle.tiny_stm.specs.Started.{IsStarted}
use Rattle.tiny_stm.specs.Tables.{table_of}
use Rattle.dude_recover.specs.declared.opened.Opened.{Opened}
use Rattle.run_workers.specs.Jobs.{MayShare, MayWorkOn}
use Rattle.run_threads.specs.Starts.{StartsOver}
use Rattle.run_threads.specs.declared.begun.Begun.{Begun}

module _ {M : Type 0} {ghosts : Ghosts M} where
  -- the table that they run on
  abbrev pub begun_table : Begun M ghosts → TableSight (Opening M ghosts)
  begun_table b = table_of b.stm

  -- They began over this image, for a run with so many threads.
  pub record HasBegun (o : Opened M ghosts) (run : Run) (threads : ℕ) (b : Begun M ghosts) : Type 0 where
    pub started : IsStarted ghosts.sight o.back o.words.items o.number run threads (begun_table b) b.pass
    pub lay : b.lay ≡ o.lay

  -- They may serve these files: they start over an idle back with a lawful home, and their pass may be split for the files.
  pub record IsBegunFor (files : List (List Request)) (b : Begun M ghosts) : Type 0 where
    pub starts : StartsOver ghosts.sight (begun_table b).key b.lay
    pub setup : (begun_table b).setup ≡ setup_of ghosts.sight (begun_table b).key
    pub may : MayWorkOn (begun_table b) b.lay files
    pub pass : MayShare (begun_table b) files b.pass
