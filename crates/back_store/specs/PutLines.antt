-- The lines of words that are put, one put after another.
use Rattle.std.specs.Prelude.{◌≡◌, ℕ, ◌+◌, ◌/◌, Bool, List, MatchBool, Result, [], ◌∷◌, ◌++◌, is_ok, take, slice_index_or}
use Rattle.dude_base.specs.declared.limits.TheConstants.{LINE}
use Rattle.dude_base.specs.declared.sizes.Sizes.{Sizes}
use Rattle.dude_base.specs.declared.write.Write.{Write}
use Rattle.pmem_trait.specs.declared.failed.Failed.{Failed}
use Rattle.pmem_trait.specs.Groups.{group_calls, put_pairs}
use Rattle.pmem_trait.specs.Sights.{CallsMade, Sight}
use Rattle.redo_record.specs.BackCalls.{home_writes, lines_touched}

-- the put at index k touches a line of its own
abbrev pub StartsLine : List (ℕ × ℕ) → ℕ → Type 0
StartsLine puts k = (d : ℕ × ℕ) → lines_touched (take (k + 1) puts) ≡ lines_touched (take k puts) ++ ((slice_index_or puts k d).0 / LINE) ∷ []

-- the put at index k touches the line of the put before it
abbrev pub SharesLine : List (ℕ × ℕ) → ℕ → Type 0
SharesLine puts k = lines_touched (take (k + 1) puts) ≡ lines_touched (take k puts)

-- the line of the home word that the write at index k puts
abbrev pub IsLineAt : Sizes → List Write → ℕ → ℕ → Type 0
IsLineAt s writes k line = (d : ℕ × ℕ) → line ≡ (slice_index_or (home_writes s writes) k d).0 / LINE

-- whether the write at index k touches a line of its own
abbrev pub DecidesLine : Sizes → List Write → ℕ → Bool → Type 0
DecidesLine s writes k own = MatchBool own (StartsLine (home_writes s writes) k) (SharesLine (home_writes s writes) k)

-- exactly the puts of these writes were made; or a prefix of them, whose last failed
abbrev pub PutsHome : Sizes → List Write → Result (Unit {0}) Failed → Sight → Sight → Type 0
PutsHome s writes result t u = CallsMade (put_pairs (home_writes s writes)) (is_ok result) t u

-- exactly the calls that make these writes durable were made; or a prefix of them, whose last failed
abbrev pub SettlesHome : Sizes → List Write → List ℕ → Result (Unit {0}) Failed → Sight → Sight → Type 0
SettlesHome s writes lines result t u = CallsMade (group_calls (home_writes s writes) lines) (is_ok result) t u
