-- What the records of the five tables may hold.
use Rattle.std.specs.Prelude.{◌≡◌, ℕ, ◌∷◌, slice_index_or}
use Rattle.dude_base.specs.declared.sizes.Sizes.{Sizes}
use Rattle.hash_table.specs.declared.table.Table.{Table}
use Rattle.tatp_model.specs.Database.{IsSubRow, IsAccessRow, IsFacRow, IsCallRow}
use Rattle.tatp_layout.specs.Layout.{subscriber_table, number_table, access_table, facility_table, call_table}
use Rattle.tatp_layout.specs.Records.{RowForm, subscriber_form, number_form, access_form, facility_form, call_form}
use Rattle.tatp_check.specs.declared.table_kind.TableKind.{TableKind}
use Rattle.tatp_check.specs.declared.table_kind.TableKind.TheVariants.{Subscribers, Numbers, Access, Facilities, Calls}

-- the table of this kind in a home of these sizes
abbrev pub table_of : TableKind → Sizes → Table
table_of Subscribers s = subscriber_table s
table_of Numbers s = number_table s
table_of Access s = access_table s
table_of Facilities s = facility_table s
table_of Calls s = call_table s

-- A record may hold this word at this offset where that of some row in range does: at 0 stands its key, at 1 the link, which
-- may be any word here, and then the words of its other fields. Words behind these aren't read.
abbrev pub MayHold : {R : Type 0} → RowForm R → (R → Type 0) → ℕ → ℕ → Type 0
MayHold {R} form InRange offset word = (row : R) × InRange row × form.Lengths row × (slice_index_or (form.key row ∷ word ∷ form.words row) offset word ≡ word)

-- a record of a table of this kind may hold this word at this offset
unfoldable pub content_of : TableKind → ℕ → ℕ → Type 0
content_of Subscribers = MayHold subscriber_form IsSubRow
content_of Numbers = MayHold number_form IsSubRow
content_of Access = MayHold access_form IsAccessRow
content_of Facilities = MayHold facility_form IsFacRow
content_of Calls = MayHold call_form IsCallRow
