-- What a call leaves of what is seen, and what several calls leave together.
use Rattle.std.specs.Prelude.{◌≡◌, ◌≢◌, ◌≤◌, ℕ, ◌↔◌, List, [], ◌∷◌, ◌++◌, length, Option, Some, None, Result, Ok, Err, IfOk, OnOk, MatchOption, slice_index, slice_set}
use Rattle.dude_base.specs.declared.write.Write.{Write}
use Rattle.dude_base.specs.Writes.{written, put_all, put_write, IsWide}
use Rattle.word_space.specs.declared.stop.Stop.{Stop}
use Rattle.word_space.specs.declared.stop.Stop.TheVariants.{Wide}
use Rattle.word_space.specs.Sights.{WordsSight, IsBelow, shown}

-- the Stop that a result hands on, if it does
abbrev pub stop_of : {T : Type 0} → Result T Stop → Option Stop
stop_of (Ok v) = None
stop_of (Err e) = Some e

-- After calls that handed no Stop on, the last Stop is the one before. A Stop that was handed on is the
-- last one, and Wide comes only where 24 words are written.
abbrev pub IsLastStop : Option Stop → WordsSight → WordsSight → Type 0
IsLastStop None s t = t.stopped ≡ s.stopped
IsLastStop (Some e) s t = (t.stopped ≡ Some e) × (e ≡ Wide → length t.writes ≡ 24)

-- At most so many reads of the array were noted, and at most so many writes made, each over those before
-- it, also where a Stop was handed on.
pub record MadeAtMost (most_reads most_writes : ℕ) (s t : WordsSight) : Type 0 where
  pub noted : List (ℕ × ℕ)
  pub few_reads : length noted ≤ most_reads
  pub reads : t.reads ≡ s.reads ++ noted
  pub made : List Write
  pub few_writes : length made ≤ most_writes
  pub writes : t.writes ≡ put_all s.writes made

-- whatever turned into the first value turns into the second
abbrev pub WordsGoOn : {S : Type 0} → (S → S → Type 0) → S → S → Type 0
WordsGoOn {S} R y z = (x : S) → R x y → R x z

-- What calls over words leave, one after another, which handed this Stop on, or none. It is said of any value that
-- reads and writes words, by what is seen of it and by what it may turn into. With no writes at most, nothing is written.
pub record WordsUsed {S : Type 0} (sight : S → WordsSight) (turns_into : S → S → Type 0) (most_reads most_writes : ℕ) (stop : Option Stop) (old new : S) : Type 0 where
  -- there are as many words as before
  pub count : (sight new).count ≡ (sight old).count
  -- whatever turned into the value before turns into the one after
  pub turns : WordsGoOn turns_into old new
  -- the last Stop is the one that was handed on, or, where none was, the one before
  pub last : IsLastStop stop (sight old) (sight new)
  -- at most so many reads were noted and at most so many writes made
  pub most : MadeAtMost most_reads most_writes (sight old) (sight new)

-- a call used the words so, by its result
abbrev pub UsesWords : {S T : Type 0} → (S → WordsSight) → (S → S → Type 0) → ℕ → ℕ → Result T Stop → S → S → Type 0
UsesWords sight turns_into most_reads most_writes result old new = WordsUsed sight turns_into most_reads most_writes (stop_of result) old new

-- n writes were made, each over those before it
pub record Wrote (n : ℕ) (s t : WordsSight) : Type 0 where
  pub made : List Write
  pub count : length made ≡ n
  pub writes : t.writes ≡ put_all s.writes made

-- after a call that handed no Stop on, as many writes were made as its answer says
abbrev pub WritesAsMany : {S T : Type 0} → (S → WordsSight) → Result T Stop → S → S → (T → ℕ) → Type 0
WritesAsMany sight result old new count = IfOk result (λ r. Wrote (count r) (sight old) (sight new))

-- This is so of the answer and of the words as they were seen before the call, whatever array may lie below afterwards.
abbrev pub AnswersSeen : {S T : Type 0} → (S → WordsSight) → Result T Stop → S → S → (List ℕ → T → Type 0) → Type 0
AnswersSeen sight result old new P = IfOk result (λ r. (array : List ℕ) → IsBelow (sight new) array → P (shown (sight old) array) r)

-- This is so of the words as they were seen before the call, of those seen after it, and of the answer, whatever array
-- may lie below afterwards.
abbrev pub ChangesSeen : {S T : Type 0} → (S → WordsSight) → Result T Stop → S → S → (List ℕ → List ℕ → T → Type 0) → Type 0
ChangesSeen sight result old new P = IfOk result (λ r. (array : List ℕ) → IsBelow (sight new) array → P (shown (sight old) array) (shown (sight new) array) r)

-- after a call that handed no Stop on, the words seen over any array are those that this makes of the ones seen before
abbrev pub Shows : {S T : Type 0} → (S → WordsSight) → Result T Stop → S → S → (List ℕ → List ℕ) → Type 0
Shows sight result old new after = OnOk result ((array : List ℕ) → shown (sight new) array ≡ after (shown (sight old) array))

-- the array with this value in the word `at`
abbrev pub with_word : ℕ → ℕ → List ℕ → List ℕ
with_word at value array = slice_set array at value

-- A read of a word that was written gives the written value and is no read of the array; another one is
-- noted. After a Stop only the last Stop is new.
abbrev pub DoesRead : ℕ → Result ℕ Stop → WordsSight → WordsSight → Type 0
DoesRead at (Ok v) s t = MatchOption (written s.writes at) (t ≡ record s { reads = s.reads ++ (at, v) ∷ [] }) (λ x. (v ≡ x) × (t ≡ s))
DoesRead at (Err e) s t = (e ≢ Wide) × (t ≡ record s { stopped = Some e })

-- What a read of the word `at` leaves, by its result: it did exactly what a read does.
pub record ReadsWord (at : ℕ) (result : Result ℕ Stop) (s t : WordsSight) : Type 0 where
  pub does : DoesRead at result s t

-- What a read of the word `at` leaves of any value that reads words, by its result.
abbrev pub MakesRead : {S : Type 0} → (S → WordsSight) → ℕ → Result ℕ Stop → S → S → Type 0
MakesRead sight at result old new = ReadsWord at result (sight old) (sight new)

-- the value of a read is the one that is seen at its word
abbrev pub IsSeenAt : ℕ → List ℕ → ℕ → Type 0
IsSeenAt at seen value = value ≡ slice_index seen at

-- A write replaces the one of the same word, or comes last. It is Wide exactly where it would
-- be the 25th. After a Stop only the last Stop is new.
abbrev pub DoesWrite : ℕ → ℕ → Result (Unit {0}) Stop → WordsSight → WordsSight → Type 0
DoesWrite at value (Ok _) s t = (¬ IsWide s.writes at) × (t ≡ record s { writes = put_write s.writes (record { at = at; value = value }) })
DoesWrite at value (Err e) s t = ((e ≡ Wide) ↔ IsWide s.writes at) × (t ≡ record s { stopped = Some e })

-- What a write of the value to the word `at` leaves, by its result: it did exactly what a write does.
pub record WritesWord (at value : ℕ) (result : Result (Unit {0}) Stop) (s t : WordsSight) : Type 0 where
  pub does : DoesWrite at value result s t

-- What a write of the value to the word `at` leaves of any value that writes words, by its result.
abbrev pub MakesWrite : {S : Type 0} → (S → WordsSight) → ℕ → ℕ → Result (Unit {0}) Stop → S → S → Type 0
MakesWrite sight at value result old new = WritesWord at value result (sight old) (sight new)
