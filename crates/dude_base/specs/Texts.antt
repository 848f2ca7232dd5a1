-- What the faults of the base print.
use Rattle.std.specs.Prelude.{ℕ, List, codes}
use Rattle.dude_base.specs.declared.field.Field.{Field}
use Rattle.dude_base.specs.declared.no_join.NoJoin.{NoJoin}
use Rattle.dude_base.specs.declared.no_join.NoJoin.TheVariants.{Gap, Long, Broad}
use Rattle.dude_base.specs.declared.field.Field.TheVariants.{Subscribers, Calls, Rings, Cells, Pages, Index}

-- a field that is out of its limits
abbrev pub field_words : Field → List ℕ
field_words Subscribers = codes "the number of subscribers is out of its limits"
field_words Calls = codes "the number of call forwardings is out of its limits"
field_words Rings = codes "the number of rings is out of its limits"
field_words Cells = codes "the number of cells is out of its limits"
field_words Pages = codes "the number of pages isn't the one that the tables need"
field_words Index = codes "the index is out of its limits"

-- one write too many
abbrev pub wide_words : List ℕ
wide_words = codes "too many different words are written"

-- a record that a bundle doesn't take
abbrev pub no_join_words : NoJoin → List ℕ
no_join_words (Gap last number) = codes "the number isn't the next one"
no_join_words (Long span) = codes "the bundle covers too many numbers"
no_join_words (Broad places) = codes "the bundle would write too many different words"
