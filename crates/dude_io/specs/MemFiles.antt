-- What clauses see of files in memory.
use Rattle.std.specs.Prelude.{◌≡◌, ℕ, ◌-◌, min, ◌||◌, Bool, true, IsTrue, List, [], length, is_none, IfSome, IsSomeAnd, Result}
use Rattle.pmem_trait.specs.declared.failed.Failed.{Failed}
use Rattle.dude_io.specs.declared.mem_file.MemFile.{MemFile}
use Rattle.dude_io.specs.declared.mem_files.MemFiles.{MemFiles}
use Rattle.dude_io.specs.declared.fail_plan.FailPlan.{FailPlan}
use Rattle.dude_io.specs.Files.{FilesSight, FileRead, GivesBytes}
use Rattle.dude_io.specs.MemFile.{text_of}
use Rattle.dude_io.specs.ReadList.{reads_in}
use Rattle.dude_io.specs.FailPlan.{IsNewPlan, is_next_to_fail}

-- what is seen of files in memory: the count of their faults, their texts, and the reads made of them
abbrev pub files_sight : MemFiles → FilesSight
files_sight m = record {
  faults = m.plan.faults.count;
  is_visible = true;
  text = text_of m.files.items;
  lists_reads = m.list.is_whole;
  reads = reads_in m.list;
}

-- which calls on files in memory fail, and how much a read gives
abbrev pub files_plan : MemFiles → FailPlan
files_plan m = m.plan

-- these files in memory, with this plan, of which reads are listed and none was made yet
pub record IsNewFiles (files : List MemFile) (most : ℕ) (failing : List ℕ) (m : MemFiles) : Type 0 where
  pub text : (files_sight m).text ≡ text_of files
  pub lists_reads : IsTrue (files_sight m).lists_reads
  pub reads : (files_sight m).reads ≡ []
  pub plan : IsNewPlan most failing (files_plan m)

-- one read of these files: of the name, from a byte on, into a buffer that holds the first bytes and then the second
abbrev pub ReadsMemFile : List ℕ → ℕ → List ℕ → List ℕ → Result ℕ Failed → MemFiles → MemFiles → Type 0
ReadsMemFile name at old new result before after =
    FileRead name at old new result (files_sight before) (files_sight after)

-- a read of this name fails: it is to fail, or the file isn't there
abbrev pub read_fails : MemFiles → List ℕ → Bool
read_fails m name = is_next_to_fail (files_plan m) || is_none ((files_sight m).text name)

-- a read gives as many bytes as the plan, the buffer and the text allow
abbrev pub GivesMost : MemFiles → List ℕ → ℕ → List ℕ → ℕ → Type 0
GivesMost m name at into n =
    IfSome ((files_sight m).text name) (λ text. n ≡ min (files_plan m).chunk (min (length into) (length text - at)))

-- the file of this name is there, and so many of its bytes from a place on were given
abbrev pub GivesFrom : MemFiles → List ℕ → ℕ → List ℕ → List ℕ → ℕ → Type 0
GivesFrom m name at old new n = IsSomeAnd ((files_sight m).text name) (λ text. GivesBytes text at n old new)
