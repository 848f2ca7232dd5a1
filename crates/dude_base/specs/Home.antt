-- The home: five tables one after another, and the two pools of an index where there is one, in whole pages.
use Rattle.std.specs.Prelude.{ℕ, ◌+◌, ◌*◌, ◌/◌, ◌-◌, List, [], ◌∷◌, sum_by}
use Rattle.dude_base.specs.declared.limits.TheConstants.{LINE, PAGE, MAX_ROWS, SUBSCRIBER_WORDS, ROW_WORDS}

-- x rounded up to whole lines
abbrev pub in_whole_lines : ℕ → ℕ
in_whole_lines x = (x + (LINE - 1)) / LINE * LINE

-- how many buckets and records a table has, and how many words a record
pub record TableShape : Type 0 where
  pub buckets : ℕ
  pub records : ℕ
  pub size : ℕ

-- a header of one line, the buckets' links, the records
abbrev pub table_words : TableShape → ℕ
table_words t = LINE + in_whole_lines t.buckets + in_whole_lines (t.records * t.size)

-- subscribers, numbers, access rows, facilities, call forwardings
abbrev pub home_tables : ℕ → ℕ → List TableShape
home_tables subscribers calls =
    record { buckets = subscribers; records = subscribers; size = SUBSCRIBER_WORDS }
    ∷ record { buckets = subscribers; records = subscribers; size = ROW_WORDS }
    ∷ record { buckets = MAX_ROWS * subscribers; records = MAX_ROWS * subscribers; size = ROW_WORDS }
    ∷ record { buckets = MAX_ROWS * subscribers; records = MAX_ROWS * subscribers; size = ROW_WORDS }
    ∷ record { buckets = calls; records = calls; size = ROW_WORDS }
    ∷ []

-- how many words the tables take, for so many subscribers and call records
abbrev pub tables_length : ℕ → ℕ → ℕ
tables_length subscribers calls = sum_by table_words (home_tables subscribers calls)

-- a pool of the index, of leaves or of inner records: as many as there are subscribers, and no buckets
abbrev pub index_shape : ℕ → TableShape
index_shape subscribers = record { buckets = 0; records = subscribers; size = ROW_WORDS }

-- how many words the index takes: two pools where it is 1, and none where it is 0
abbrev pub index_length : ℕ → ℕ → ℕ
index_length subscribers index = index * (2 * table_words (index_shape subscribers))

-- how many words the home takes
abbrev pub home_length : ℕ → ℕ → ℕ → ℕ
home_length subscribers calls index = tables_length subscribers calls + index_length subscribers index

-- the pages that the home needs
abbrev pub pages_for : ℕ → ℕ → ℕ → ℕ
pages_for subscribers calls index = (home_length subscribers calls index + (PAGE - 1)) / PAGE
