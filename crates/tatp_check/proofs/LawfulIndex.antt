-- In an array that stands for tables nothing is wrong in the index.
use Rattle.std.proofs.Common.{◌≢◌, ℕ, List, map, Contains, ap, ◌∙◌, sym, subst}
use Rattle.std.proofs.lemmas.List.Elements.{All-contains}
use Rattle.dude_base.specs.declared.sizes.Sizes.{Sizes}
use Rattle.tatp_model.specs.Database.{Database, IsSubRow}
use Rattle.tatp_layout.specs.Decoded.{subscriber_back}
use Rattle.tatp_layout.specs.Decoding.{subscriber_in}
use Rattle.tatp_layout.specs.Index.{location_key}
use Rattle.tatp_layout.specs.Layout.{index_tree}
use Rattle.tatp_layout.specs.StandsFor.{StandsFor}
use Rattle.tatp_check.specs.declared.table_kind.TableKind.TheVariants.{Subscribers}
use Rattle.tatp_check.specs.IndexFaults.{IsWholeIndex, location_keys}
use Rattle.tatp_check.proofs.IndexPlaces.{tree_fits_behind}
use Rattle.tatp_check.proofs.IndexSound.{keys_whole}
use Rattle.tatp_check.proofs.Lawful.{lawful_records}
use Rattle.tatp_check.proofs.Mapped.{contains_map, contains_mapped}

module _ (s : Sizes) (array : List ℕ) (db : Database) (stands : StandsFor s array db) where
  key_there : (k : ℕ) → Contains (location_keys array (lawful_records s array db stands Subscribers)) k → Contains (map location_key db.subscribers) k
  key_there k c =
      let from = contains_mapped (λ at. location_key (subscriber_in array at)) (lawful_records s array db stands Subscribers) k c in
      let h = stands.subscribers.holds from.0 from.1 in
      let row = subscriber_back (All-contains IsSubRow db.subscribers h.0 stands.in_order.subscribers_in_range h.1) h.2 in
      subst (Contains (map location_key db.subscribers)) (sym (ap location_key row) ∙ from.2) (contains_map location_key db.subscribers h.0 h.1)

  key_back : (k : ℕ) → Contains (map location_key db.subscribers) k → Contains (location_keys array (lawful_records s array db stands Subscribers)) k
  key_back k c =
      let from = contains_mapped location_key db.subscribers k c in
      let h = stands.subscribers.held from.0 from.1 in
      let row = subscriber_back (All-contains IsSubRow db.subscribers from.0 stands.in_order.subscribers_in_range from.1) h.2 in
      subst (Contains (location_keys array (lawful_records s array db stands Subscribers))) (ap location_key row ∙ from.2) (contains_map (λ at. location_key (subscriber_in array at)) (lawful_records s array db stands Subscribers) h.0 h.1)

  pub lawful_index : s.index ≢ 0 → IsWholeIndex (index_tree s) array (lawful_records s array db stands Subscribers)
  lawful_index some = keys_whole (index_tree s) array (lawful_records s array db stands Subscribers) (map location_key db.subscribers) (tree_fits_behind s) key_there key_back (stands.index some)
