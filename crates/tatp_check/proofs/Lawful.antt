-- In an array that stands for tables nothing is wrong.
use Rattle.std.proofs.Common.{◌≡◌, ℕ, ◌+◌, ◌/◌, List, Any, Contains, slice_index, refl, sym, ◌∙◌, subst, arith}
use Rattle.std.proofs.lemmas.List.Elements.{All-contains, Contains-get_or}
use Rattle.dude_base.specs.declared.sizes.Sizes.{Sizes}
use Rattle.hash_table.specs.Table.{IsTable, records_in}
use Rattle.tatp_model.specs.Database.{Database, IsSubRow, IsAccessRow, IsFacRow, IsCallRow}
use Rattle.tatp_layout.specs.Records.{subscriber_form, number_form, access_form, facility_form, call_form}
use Rattle.tatp_layout.specs.StandsFor.{StandsFor}
use Rattle.tatp_layout.specs.Decoded.{held_word}
use Rattle.tatp_check.proofs.LawfulTable.{HoldsContent, table_whole}
use Rattle.tatp_check.specs.declared.table_kind.TableKind.{TableKind}
use Rattle.tatp_check.specs.declared.table_kind.TableKind.TheVariants.{Subscribers, Numbers, Access, Facilities, Calls}
use Rattle.tatp_check.specs.Content.{content_of, table_of}
use Rattle.tatp_check.proofs.Contents.{content_held}
use Rattle.tatp_check.specs.Order.{IsWholeKind}
use Rattle.tatp_check.specs.References.{AreAllBound, Refers}
use Rattle.tatp_check.proofs.Found.{wide}

module _ (s : Sizes) (array : List ℕ) (db : Database) (stands : StandsFor s array db) where
  -- the records of its tables
  abbrev pub lawful_records : TableKind → List ℕ
  lawful_records Subscribers = records_in stands.subscribers.chains
  lawful_records Numbers = records_in stands.numbers.chains
  lawful_records Access = records_in stands.access.chains
  lawful_records Facilities = records_in stands.facilities.chains
  lawful_records Calls = records_in stands.calls.chains

  -- they hold what they may
  holds_content : (kind : TableKind) (at : ℕ) → Contains (lawful_records kind) at → HoldsContent (content_of kind) (table_of kind s) array at
  unfolding content_of
  holds_content Subscribers at c =
      let h = stands.subscribers.holds at c in content_held subscriber_form IsSubRow (table_of Subscribers s) (All-contains IsSubRow db.subscribers h.0 stands.in_order.subscribers_in_range h.1) h.2
  holds_content Numbers at c =
      let h = stands.numbers.holds at c in content_held number_form IsSubRow (table_of Numbers s) (All-contains IsSubRow db.subscribers h.0 stands.in_order.subscribers_in_range h.1) h.2
  holds_content Access at c =
      let h = stands.access.holds at c in content_held access_form IsAccessRow (table_of Access s) (All-contains IsAccessRow db.access h.0 stands.in_order.access_in_range h.1) h.2
  holds_content Facilities at c =
      let h = stands.facilities.holds at c in content_held facility_form IsFacRow (table_of Facilities s) (All-contains IsFacRow db.facilities h.0 stands.in_order.facilities_in_range h.1) h.2
  holds_content Calls at c =
      let h = stands.calls.holds at c in content_held call_form IsCallRow (table_of Calls s) (All-contains IsCallRow db.calls h.0 stands.in_order.calls_in_range h.1) h.2

  -- such a table has nothing wrong
  whole_of : (kind : TableKind) (chains : List (List ℕ)) (free : List ℕ) → IsTable (table_of kind s) array chains free → ((at : ℕ) → Contains (records_in chains) at → HoldsContent (content_of kind) (table_of kind s) array at)
      → IsWholeKind s array kind (records_in chains)
  whole_of kind chains free lawful holds = record { chains = chains; free = free; whole = table_whole (content_of kind) (table_of kind s) array (wide kind s) chains free lawful holds; taken_is = refl }

  -- nothing is wrong in its tables
  pub lawful_whole : (kind : TableKind) → IsWholeKind s array kind (lawful_records kind)
  lawful_whole Subscribers = whole_of Subscribers stands.subscribers.chains stands.subscribers.free stands.subscribers.lawful (holds_content Subscribers)
  lawful_whole Numbers = whole_of Numbers stands.numbers.chains stands.numbers.free stands.numbers.lawful (holds_content Numbers)
  lawful_whole Access = whole_of Access stands.access.chains stands.access.free stands.access.lawful (holds_content Access)
  lawful_whole Facilities = whole_of Facilities stands.facilities.chains stands.facilities.free stands.facilities.lawful (holds_content Facilities)
  lawful_whole Calls = whole_of Calls stands.calls.chains stands.calls.free stands.calls.lawful (holds_content Calls)

  -- ---- references

  -- some record of these
  any_of : {P : ℕ → Type 0} (xs : List ℕ) (x : ℕ) → Contains xs x → P x → Any P xs
  any_of xs x c p = (c.0, x, c.1, c.2, p)

  -- the record of a subscriber with this id
  owner_there : (id : ℕ) → Any (λ r. r.s_id ≡ id) db.subscribers → Any (λ x. slice_index array x ≡ id) (lawful_records Subscribers)
  owner_there id any =
      let held = stands.subscribers.held any.1 (any.0, any.2, any.3) in
      any_of (lawful_records Subscribers) held.0 held.1 (held.2.key ∙ any.4)

  refers : (kind : TableKind) (at : ℕ) → Contains (lawful_records kind) at → Refers array lawful_records kind at
  refers Subscribers at c =
      let h = stands.subscribers.holds at c in
      let n = stands.numbers.held h.0 h.1 in
      any_of (lawful_records Numbers) n.0 n.1 (n.2.key ∙ sym (held_word 5 (at + 7) h.2 (omega arith) (omega arith)), n.2.words.0 ∙ sym h.2.key)
  refers Numbers at c =
      let h = stands.numbers.holds at c in
      let x = stands.subscribers.held h.0 h.1 in
      any_of (lawful_records Subscribers) x.0 x.1 (x.2.key ∙ sym h.2.words.0, held_word 5 (x.0 + 7) x.2 (omega arith) (omega arith) ∙ sym h.2.key)
  refers Access at c =
      let h = stands.access.holds at c in
      let range = All-contains IsAccessRow db.access h.0 stands.in_order.access_in_range h.1 in
      let id : h.0.s_id ≡ slice_index array at / 4 = omega (arith, h.2.key, range.s_id, range.ai_type) in
      subst (λ n. Any (λ x. slice_index array x ≡ n) (lawful_records Subscribers)) id (owner_there h.0.s_id (All-contains (λ a. Any (λ r. r.s_id ≡ a.s_id) db.subscribers) db.access h.0 stands.in_order.access_belongs h.1))
  refers Facilities at c =
      let h = stands.facilities.holds at c in
      let range = All-contains IsFacRow db.facilities h.0 stands.in_order.facilities_in_range h.1 in
      let id : h.0.s_id ≡ slice_index array at / 4 = omega (arith, h.2.key, range.s_id, range.sf_type) in
      subst (λ n. Any (λ x. slice_index array x ≡ n) (lawful_records Subscribers)) id (owner_there h.0.s_id (All-contains (λ f. Any (λ r. r.s_id ≡ f.s_id) db.subscribers) db.facilities h.0 stands.in_order.facilities_belong h.1))
  refers Calls at c =
      let h = stands.calls.holds at c in
      let range = All-contains IsCallRow db.calls h.0 stands.in_order.calls_in_range h.1 in
      let any = All-contains (λ c. Any (λ f. (f.s_id ≡ c.s_id) × (f.sf_type ≡ c.sf_type)) db.facilities) db.calls h.0 stands.in_order.calls_belong h.1 in
      let f = stands.facilities.held any.1 (any.0, any.2, any.3) in
      any_of (lawful_records Facilities) f.0 f.1 (omega (arith, f.2.key, h.2.key, any.4.0, any.4.1, range.s_id, range.sf_type, range.start_time))

  -- each refers to one that is there
  pub lawful_bound : AreAllBound array lawful_records
  lawful_bound kind k d below = refers kind _ (Contains-get_or (lawful_records kind) k d below)
