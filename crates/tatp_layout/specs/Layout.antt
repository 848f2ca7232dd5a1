-- Where the five tables stand in the home: one after another, from word 0 on, and the pools of an index behind them.
--
--     8 words                    the pool's header: the first free record, or 0; how many are taken; 6 words not read
--     the buckets' links         in whole lines; words behind the last link not read
--     the records                in whole lines
use Rattle.std.specs.Prelude.{ℕ, zero, suc, ◌+◌, ◌*◌, Option, Some, None}
use Rattle.dude_base.specs.declared.limits.TheConstants.{LINE, MAX_ROWS, SUBSCRIBER_WORDS, ROW_WORDS}
use Rattle.dude_base.specs.declared.sizes.Sizes.{Sizes}
use Rattle.dude_base.specs.Home.{TableShape, in_whole_lines, index_shape, table_words}
use Rattle.hash_table.specs.declared.table.Table.{Table}
use Rattle.record_heap.specs.declared.pool.Pool.{Pool}
use Rattle.tree_index.specs.declared.tree.Tree.{Tree}

-- a table of this shape whose header stands at this word
abbrev pub table_at : ℕ → TableShape → Table
table_at base shape = record {
  buckets = shape.buckets;
  at = base + LINE;
  pool = record { base = base; first = base + LINE + in_whole_lines shape.buckets; size = shape.size; count = shape.records };
}

-- the word behind a table whose records end in whole lines
abbrev pub behind_table : Table → ℕ
behind_table table = table.pool.first + in_whole_lines (table.pool.count * table.pool.size)

-- a shape with as many buckets as records
abbrev pub shape_of : ℕ → ℕ → TableShape
shape_of records size = record { buckets = records; records = records; size = size }

-- the shape of the subscriber table: a record for each subscriber
abbrev pub subscriber_shape : Sizes → TableShape
subscriber_shape s = shape_of s.subscribers SUBSCRIBER_WORDS

-- the shape of the number table, which finds subscribers by their phone numbers: a record for each of them
abbrev pub number_shape : Sizes → TableShape
number_shape s = shape_of s.subscribers ROW_WORDS

-- the shape of the access table and of the facility table: MAX_ROWS records for each subscriber
abbrev pub kind_shape : Sizes → TableShape
kind_shape s = shape_of (MAX_ROWS * s.subscribers) ROW_WORDS

-- the shape of the table of call rows: as many records as the sizes say
abbrev pub call_shape : Sizes → TableShape
call_shape s = shape_of s.calls ROW_WORDS

-- the word where the number table begins, behind the subscriber table
abbrev pub number_base : Sizes → ℕ
number_base s = table_words (subscriber_shape s)

-- the word where the access table begins, behind the number table
abbrev pub access_base : Sizes → ℕ
access_base s = number_base s + table_words (number_shape s)

-- the word where the facility table begins, behind the access table
abbrev pub facility_base : Sizes → ℕ
facility_base s = access_base s + table_words (kind_shape s)

-- the word where the table of call rows begins, behind the facility table
abbrev pub call_base : Sizes → ℕ
call_base s = facility_base s + table_words (kind_shape s)

-- the table of subscribers by s_id, from word 0 on
abbrev pub subscriber_table : Sizes → Table
subscriber_table s = table_at 0 (subscriber_shape s)

-- the table of subscribers by phone number
abbrev pub number_table : Sizes → Table
number_table s = table_at (number_base s) (number_shape s)

-- the table of access rows
abbrev pub access_table : Sizes → Table
access_table s = table_at (access_base s) (kind_shape s)

-- the table of facilities
abbrev pub facility_table : Sizes → Table
facility_table s = table_at (facility_base s) (kind_shape s)

-- the table of call rows
abbrev pub call_table : Sizes → Table
call_table s = table_at (call_base s) (call_shape s)

-- the word where the leaves of an index begin, behind the table of call rows
abbrev pub leaf_base : Sizes → ℕ
leaf_base s = call_base s + table_words (call_shape s)

-- the word where its inner records begin, behind the leaves
abbrev pub inner_base : Sizes → ℕ
inner_base s = leaf_base s + table_words (index_shape s.subscribers)

-- a pool of an index whose header stands at this word: a record for each subscriber
abbrev pub index_pool : ℕ → ℕ → Pool
index_pool base subscribers = record { base = base; first = base + LINE; size = ROW_WORDS; count = subscribers }

-- a tree of an index whose leaves begin at this word, with the link of its root in word 2 of their header
abbrev pub tree_from : ℕ → ℕ → Tree
tree_from base subscribers = record { leaves = index_pool base subscribers; inner = index_pool (base + table_words (index_shape subscribers)) subscribers; root = base + 2 }

-- the tree of an index in an image of these sizes
abbrev pub index_tree : Sizes → Tree
index_tree s = tree_from (leaf_base s) s.subscribers

-- that tree where there is an index
abbrev pub tree_where : ℕ → Tree → Option Tree
tree_where zero tree = None
tree_where (suc more) tree = Some tree
