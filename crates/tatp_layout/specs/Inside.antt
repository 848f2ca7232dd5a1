-- What a `Layout` keeps of its fields.
use Rattle.std.specs.Prelude.{◌≡◌}
use Rattle.dude_base.specs.declared.sizes.Sizes.{Sizes}
use Rattle.dude_base.specs.Sizes.{IsAccepted}
use Rattle.tatp_layout.specs.declared.layout.Layout.TheInside.{Inside}
use Rattle.tatp_layout.specs.Layout.{access_table, call_table, facility_table, index_tree, number_table, subscriber_table, tree_where}

-- the fields for these sizes
abbrev pub layout_of : Sizes → Inside
layout_of s = record {
  sizes = s;
  subscribers = subscriber_table s;
  numbers = number_table s;
  access = access_table s;
  facilities = facility_table s;
  calls = call_table s;
  index = tree_where s.index (index_tree s);
}

-- The sizes are accepted, and the fields are those for these sizes.
pub record IsLayout (l : Inside) : Type 0 where
  pub accepted : IsAccepted l.sizes
  pub is : l ≡ layout_of l.sizes
