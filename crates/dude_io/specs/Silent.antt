-- What clauses see of files and sinks whose content isn't visible: the count of their faults alone.
use Rattle.std.specs.Prelude.{◌≡◌, ℕ, false, List, [], None, Result, is_ok}
use Rattle.pmem_trait.specs.declared.failed.Failed.{Failed}
use Rattle.pmem_trait.specs.Faults.{faults_after}
use Rattle.dude_io.specs.declared.real_files.RealFiles.{RealFiles}
use Rattle.dude_io.specs.declared.real_sink.RealSink.{RealSink}
use Rattle.dude_io.specs.Files.{FilesSight, FileRead}
use Rattle.dude_io.specs.Sink.{SinkSight, WritesSink}

-- files of which clauses see the count of faults, no text and no read
abbrev pub silent_files : ℕ → FilesSight
silent_files faults = record { faults = faults; is_visible = false; text = λ _. None; lists_reads = false; reads = [] }

-- a sink of which clauses see the count of faults and no byte taken
abbrev pub silent_sink : ℕ → SinkSight
silent_sink faults = record { faults = faults; is_visible = false; taken = [] }

-- what is seen of the files of the system
abbrev pub real_files_sight : {R F D : Type 0} → RealFiles R F D → FilesSight
real_files_sight files = silent_files files.faults.count

-- what is seen of standard output
abbrev pub real_sink_sight : {R : Type 0} → RealSink R → SinkSight
real_sink_sight sink = silent_sink sink.faults.count

-- one read of a file of the system, which counts a fault exactly where it fails
pub record ReadsRealFile {R F D : Type 0} (name : List ℕ) (at : ℕ) (old new : List ℕ) (result : Result ℕ Failed) (before after : RealFiles R F D) : Type 0 where
  pub reads : FileRead name at old new result (real_files_sight before) (real_files_sight after)
  pub faults : (real_files_sight after).faults ≡ faults_after (is_ok result) (real_files_sight before).faults

-- one write to standard output, which counts a fault exactly where it fails
pub record WritesRealSink {R : Type 0} (piece : List ℕ) (result : Result ℕ Failed) (before after : RealSink R) : Type 0 where
  pub writes : WritesSink piece result (real_sink_sight before) (real_sink_sight after)
  pub faults : (real_sink_sight after).faults ≡ faults_after (is_ok result) (real_sink_sight before).faults
