-- An array in which nothing is wrong stands for the rows of its records.
use Rattle.std.proofs.Common.{◌≡◌, ◌≢◌, ℕ, ◌+◌, ◌*◌, ◌/◌, ◌%◌, ◌<◌, List, length, map, All, Any, AllPairs, Contains, slice_index, get_or, sym, ap, ◌∙◌, subst, arith}
use Rattle.std.proofs.lemmas.List.{length-map}
use Rattle.std.proofs.lemmas.List.Elements.{Contains-get_or}
use Rattle.std.proofs.lemmas.List.Sorted.{length_permutation}
use Rattle.dude_base.specs.declared.limits.TheConstants.{PAGE}
use Rattle.dude_base.specs.declared.sizes.Sizes.{Sizes}
use Rattle.hash_table.specs.Table.{records_in}
use Rattle.tatp_model.specs.Database.{IsInOrder, IsSubRow, IsAccessRow, IsFacRow, IsCallRow}
use Rattle.tatp_layout.specs.Decoding.{subscriber_in, access_in, facility_in, call_in}
use Rattle.tatp_layout.specs.Index.{IndexStands, location_key}
use Rattle.tatp_layout.specs.Layout.{index_tree, number_table, subscriber_table}
use Rattle.tatp_layout.specs.Records.{HoldsRow, subscriber_form, number_form, access_form, facility_form, call_form}
use Rattle.tatp_layout.specs.StandsFor.{HasRows, StandsFor}
use Rattle.tatp_check.specs.Taken.{records_by_key}
use Rattle.tatp_check.proofs.LawfulTable.{distinct_from_pairs, same_elements, whole_table}
use Rattle.tatp_check.proofs.Mapped.{contains_map, contains_mapped, pairs_mapped}
use Rattle.tatp_check.specs.declared.table_kind.TableKind.TheVariants.{Subscribers, Numbers, Access, Facilities, Calls}
use Rattle.tatp_check.specs.Content.{content_of, table_of}
use Rattle.tatp_check.proofs.Contents.{subscriber_row, access_row, facility_row, call_row}
use Rattle.tatp_check.specs.declared.walked.Walked.{Walked}
use Rattle.tatp_check.specs.IndexFaults.{HasSmallKey, StandsWhere}
use Rattle.tatp_check.specs.References.{AreAllBound}
use Rattle.tatp_check.specs.Walked.{AreWalked, database_in, records_of_kind}
use Rattle.tatp_check.proofs.Found.{record_content, wide, word_inside}
use Rattle.tatp_check.proofs.IndexSound.{index_has}
use Rattle.tatp_check.proofs.IndexPlaces.{keys_back, keys_there, tree_fits_behind}
use Rattle.tatp_check.proofs.TableRows.{among, back, in_ordered, one, ordered_differ, ordered_in, ordered_length, rows_all, rows_had, rows_rise, rows_taken}

module _ (s : Sizes) (array : List ℕ) (walked : Walked) (w : AreWalked s array walked) where
  -- the rows of the records
  subscriber : (at : ℕ) → Contains (records_of_kind walked Subscribers) at → IsSubRow (subscriber_in array at) × HoldsRow subscriber_form array at (subscriber_in array at)
  subscriber at c = subscriber_row (table_of Subscribers s) array at (omega arith) (record_content s array Subscribers (records_of_kind walked Subscribers) (w.each Subscribers).whole at c)

  -- the words of the subscribers' keys are small
  pub small_keys : All (HasSmallKey array) (records_of_kind walked Subscribers)
  small_keys k d below =
      let at = get_or (records_of_kind walked Subscribers) k d in
      let c = Contains-get_or (records_of_kind walked Subscribers) k d below in
      let row = (subscriber at c).0 in
      record { inside = word_inside s array walked w Subscribers at 7 c (omega arith); s_id = omega (arith, row.s_id); vlr = row.vlr }

  access : (at : ℕ) → Contains (records_of_kind walked Access) at → IsAccessRow (access_in array at) × HoldsRow access_form array at (access_in array at)
  access at c = access_row (table_of Access s) array at (omega arith) (record_content s array Access (records_of_kind walked Access) (w.each Access).whole at c)

  facility : (at : ℕ) → Contains (records_of_kind walked Facilities) at → IsFacRow (facility_in array at) × HoldsRow facility_form array at (facility_in array at)
  facility at c = facility_row (table_of Facilities s) array at (omega arith) (record_content s array Facilities (records_of_kind walked Facilities) (w.each Facilities).whole at c)

  call : (at : ℕ) → Contains (records_of_kind walked Calls) at → IsCallRow (call_in array at) × HoldsRow call_form array at (call_in array at)
  call at c = call_row (table_of Calls s) array at (omega arith) (record_content s array Calls (records_of_kind walked Calls) (w.each Calls).whole at c)

  module _ (bound : AreAllBound array (records_of_kind walked)) where
    -- the number record of a subscriber
    number_of : (at : ℕ) → Contains (records_of_kind walked Subscribers) at → (n : ℕ) × Contains (records_of_kind walked Numbers) n × (slice_index array n ≡ slice_index array (at + 7)) × (slice_index array (n + 2) ≡ slice_index array at)
    number_of at c =
        let any = bound Subscribers c.0 at c.1 in
        let is = c.2 in
        let n = any.1 in
        (n, (any.0, any.2, any.3), any.4.0 ∙ ap (λ x. slice_index array (x + 7)) is, any.4.1 ∙ ap (slice_index array) is)

    -- the subscriber of a number record
    owner_of : (n : ℕ) → Contains (records_of_kind walked Numbers) n → (at : ℕ) × Contains (records_of_kind walked Subscribers) at × (slice_index array at ≡ slice_index array (n + 2)) × (slice_index array (at + 7) ≡ slice_index array n)
    owner_of n c =
        let any = bound Numbers c.0 n c.1 in
        let is = c.2 in
        (any.1, (any.0, any.2, any.3), any.4.0 ∙ ap (λ x. slice_index array (x + 2)) is, any.4.1 ∙ ap (slice_index array) is)

    -- no two subscribers have one number
    one_phone : (x y : ℕ) → Contains (records_of_kind walked Subscribers) x → Contains (records_of_kind walked Subscribers) y → slice_index array (x + 7) ≡ slice_index array (y + 7) → x ≡ y
    one_phone x y cx cy same =
        let nx = number_of x cx in
        let ny = number_of y cy in
        let n : nx.0 ≡ ny.0 = one (content_of Numbers) (table_of Numbers s) array (wide Numbers s) walked.numbers (w.each Numbers) nx.0 ny.0 nx.1 ny.1 (nx.2 ∙ same ∙ sym ny.2) in
        one (content_of Subscribers) (table_of Subscribers s) array (wide Subscribers s) walked.subscribers (w.each Subscribers) x y cx cy (sym nx.3 ∙ ap (λ k. slice_index array (k + 2)) n ∙ ny.3)

    phones : List ℕ
    phones = map (λ at. slice_index array (at + 7)) (records_by_key walked.subscribers)

    numbers : List ℕ
    numbers = map (λ n. slice_index array n) (records_by_key walked.numbers)

    subscribers_differ : AllPairs (λ x y. slice_index array (x + 7) ≢ slice_index array (y + 7)) (records_by_key walked.subscribers)
    subscribers_differ i j d less below same =
        let vs = records_by_key walked.subscribers in
        let there : (k : ℕ) → k < length vs → Contains (records_of_kind walked Subscribers) (get_or vs k d) = λ k inside.
        ordered_in (content_of Subscribers) (table_of Subscribers s) array (wide Subscribers s) walked.subscribers (w.each Subscribers) (get_or vs k d) (Contains-get_or vs k d inside) in
        ordered_differ (content_of Subscribers) (table_of Subscribers s) array (wide Subscribers s) walked.subscribers (w.each Subscribers) i j d less below
        (ap (slice_index array) (one_phone (get_or vs i d) (get_or vs j d) (there i (omega arith)) (there j below) same))

    -- there are as many number records as subscribers
    as_many : length (records_of_kind walked Numbers) ≡ length (records_by_key walked.subscribers)
    unfolding phones numbers
    as_many =
        let subs = λ (at : ℕ) (c : Contains (records_by_key walked.subscribers) at). ordered_in (content_of Subscribers) (table_of Subscribers s) array (wide Subscribers s) walked.subscribers (w.each Subscribers) at c in
        let nums = λ (at : ℕ) (c : Contains (records_by_key walked.numbers) at). ordered_in (content_of Numbers) (table_of Numbers s) array (wide Numbers s) walked.numbers (w.each Numbers) at c in
        sym (ordered_length (content_of Numbers) (table_of Numbers s) array (wide Numbers s) walked.numbers (w.each Numbers))
        ∙ sym (length-map (records_by_key walked.numbers) (λ n. slice_index array n))
        ∙ length_permutation phones numbers
        (same_elements phones numbers
        (distinct_from_pairs phones (pairs_mapped (λ a b. a ≢ b) (λ at. slice_index array (at + 7)) (records_by_key walked.subscribers) subscribers_differ))
        (distinct_from_pairs numbers (pairs_mapped (λ a b. a ≢ b) (λ n. slice_index array n) (records_by_key walked.numbers) (ordered_differ (content_of Numbers) (table_of Numbers s) array (wide Numbers s) walked.numbers (w.each Numbers))))
        (λ p c.
        let from = contains_mapped (λ at. slice_index array (at + 7)) (records_by_key walked.subscribers) p c in
        let n = number_of from.0 (subs from.0 from.1) in
        subst (Contains numbers) (n.2 ∙ from.2) (contains_map (λ k. slice_index array k) (records_by_key walked.numbers) n.0 (in_ordered (content_of Numbers) (table_of Numbers s) array (wide Numbers s) walked.numbers (w.each Numbers) n.0 n.1)))
        (λ p c.
        let from = contains_mapped (λ n. slice_index array n) (records_by_key walked.numbers) p c in
        let at = owner_of from.0 (nums from.0 from.1) in
        subst (Contains phones) (at.3 ∙ from.2) (contains_map (λ k. slice_index array (k + 7)) (records_by_key walked.subscribers) at.0 (in_ordered (content_of Subscribers) (table_of Subscribers s) array (wide Subscribers s) walked.subscribers (w.each Subscribers) at.0 at.1))))
        ∙ length-map (records_by_key walked.subscribers) (λ at. slice_index array (at + 7))

    -- the number table has the subscribers' numbers
    numbers_had : HasRows number_form (number_table s) array (map (subscriber_in array) (records_by_key walked.subscribers))
    numbers_had =
        let kept = (w.each Numbers).whole in
        record {
          chains = kept.chains;
          free = kept.free;
          lawful = whole_table (content_of Numbers) (table_of Numbers s) array (wide Numbers s) kept.chains kept.free kept.whole;
          count = ap length (sym kept.taken_is) ∙ as_many ∙ sym (length-map (records_by_key walked.subscribers) (subscriber_in array));
          holds = λ n c.
              let at = owner_of n (back (content_of Numbers) (table_of Numbers s) array (wide Numbers s) walked.numbers (w.each Numbers) n c) in (
                subscriber_in array at.0,
                contains_map (subscriber_in array) (records_by_key walked.subscribers) at.0 (in_ordered (content_of Subscribers) (table_of Subscribers s) array (wide Subscribers s) walked.subscribers (w.each Subscribers) at.0 at.1),
                record { key = sym at.3; words = (sym at.2, tt); lengths = tt },
              );
          held = λ row c.
              let from = contains_mapped (subscriber_in array) (records_by_key walked.subscribers) row c in
              let n = number_of from.0 (ordered_in (content_of Subscribers) (table_of Subscribers s) array (wide Subscribers s) walked.subscribers (w.each Subscribers) from.0 from.1) in (
                n.0,
                among (content_of Numbers) (table_of Numbers s) array (wide Numbers s) walked.numbers (w.each Numbers) n.0 n.1,
                subst (HoldsRow number_form array n.0) from.2 (record { key = n.2; words = (n.3, tt); lengths = tt }),
              );
        }

    -- the subscriber of a row is there
    owner_there : (id : ℕ) → Any (λ x. slice_index array x ≡ id) (records_of_kind walked Subscribers) → Any (λ r. r.s_id ≡ id) (map (subscriber_in array) (records_by_key walked.subscribers))
    owner_there id any =
        let c : Contains (records_of_kind walked Subscribers) any.1 = (any.0, any.2, any.3) in
        let there = contains_map (subscriber_in array) (records_by_key walked.subscribers) any.1 (in_ordered (content_of Subscribers) (table_of Subscribers s) array (wide Subscribers s) walked.subscribers (w.each Subscribers) any.1 c) in
        (there.0, subscriber_in array any.1, there.1, there.2, any.4)

    -- the rows are in order
    pub in_order : IsInOrder (database_in array walked)
    in_order = record {
      subscribers_rise = rows_rise (content_of Subscribers) (table_of Subscribers s) array (wide Subscribers s) walked.subscribers (w.each Subscribers) subscriber_form (subscriber_in array) (λ at c. (subscriber at c).1);
      access_rise = rows_rise (content_of Access) (table_of Access s) array (wide Access s) walked.access (w.each Access) access_form (access_in array) (λ at c. (access at c).1);
      facilities_rise = rows_rise (content_of Facilities) (table_of Facilities s) array (wide Facilities s) walked.facilities (w.each Facilities) facility_form (facility_in array) (λ at c. (facility at c).1);
      calls_rise = rows_rise (content_of Calls) (table_of Calls s) array (wide Calls s) walked.calls (w.each Calls) call_form (call_in array) (λ at c. (call at c).1);
      subscribers_in_range = rows_all (content_of Subscribers) (table_of Subscribers s) array (wide Subscribers s) walked.subscribers (w.each Subscribers) subscriber_form (subscriber_in array) (λ at c. (subscriber at c).1) IsSubRow (λ at c. (subscriber at c).0);
      access_in_range = rows_all (content_of Access) (table_of Access s) array (wide Access s) walked.access (w.each Access) access_form (access_in array) (λ at c. (access at c).1) IsAccessRow (λ at c. (access at c).0);
      facilities_in_range = rows_all (content_of Facilities) (table_of Facilities s) array (wide Facilities s) walked.facilities (w.each Facilities) facility_form (facility_in array) (λ at c. (facility at c).1) IsFacRow (λ at c. (facility at c).0);
      calls_in_range = rows_all (content_of Calls) (table_of Calls s) array (wide Calls s) walked.calls (w.each Calls) call_form (call_in array) (λ at c. (call at c).1) IsCallRow (λ at c. (call at c).0);
      phones_differ = pairs_mapped (λ r t. r.sub_nbr ≢ t.sub_nbr) (subscriber_in array) (records_by_key walked.subscribers) subscribers_differ;
      access_belongs = rows_all (content_of Access) (table_of Access s) array (wide Access s) walked.access (w.each Access) access_form (access_in array) (λ at c. (access at c).1)
          (λ a. Any (λ r. r.s_id ≡ a.s_id) (map (subscriber_in array) (records_by_key walked.subscribers)))
          (λ at c. subst (λ x. Any (λ r. r.s_id ≡ slice_index array x / 4) (map (subscriber_in array) (records_by_key walked.subscribers))) c.2 (owner_there _ (bound Access c.0 at c.1)));
      facilities_belong = rows_all (content_of Facilities) (table_of Facilities s) array (wide Facilities s) walked.facilities (w.each Facilities) facility_form (facility_in array) (λ at c. (facility at c).1)
          (λ f. Any (λ r. r.s_id ≡ f.s_id) (map (subscriber_in array) (records_by_key walked.subscribers)))
          (λ at c. subst (λ x. Any (λ r. r.s_id ≡ slice_index array x / 4) (map (subscriber_in array) (records_by_key walked.subscribers))) c.2 (owner_there _ (bound Facilities c.0 at c.1)));
      calls_belong = rows_all (content_of Calls) (table_of Calls s) array (wide Calls s) walked.calls (w.each Calls) call_form (call_in array) (λ at c. (call at c).1)
          (λ c. Any (λ f. (f.s_id ≡ c.s_id) × (f.sf_type ≡ c.sf_type)) (map (facility_in array) (records_by_key walked.facilities)))
          (λ at c. facility_there at c);
    }
      where
        facility_there : (at : ℕ) → Contains (records_of_kind walked Calls) at → Any (λ f. (f.s_id ≡ slice_index array at / 3 / 4) × (f.sf_type ≡ slice_index array at / 3 % 4 + 1)) (map (facility_in array) (records_by_key walked.facilities))
        facility_there at c =
            let any = bound Calls c.0 at c.1 in
            let key : slice_index array any.1 ≡ slice_index array at / 3 = any.4 ∙ ap (λ x. slice_index array x / 3) c.2 in
            let there = contains_map (facility_in array) (records_by_key walked.facilities) any.1 (in_ordered (content_of Facilities) (table_of Facilities s) array (wide Facilities s) walked.facilities (w.each Facilities) any.1 (any.0, any.2, any.3)) in
            (there.0, facility_in array any.1, there.1, there.2, (ap (λ k. k / 4) key, ap (λ k. k % 4 + 1) key))

    -- the subscriber table has the rows of its records
    pub subscribers_had : HasRows subscriber_form (subscriber_table s) array (map (subscriber_in array) (records_by_key walked.subscribers))
    subscribers_had = rows_had (content_of Subscribers) (table_of Subscribers s) array (wide Subscribers s) walked.subscribers (w.each Subscribers) subscriber_form (subscriber_in array) (λ at c. (subscriber at c).1)

    pub subscribers_taken : records_in subscribers_had.chains ≡ records_of_kind walked Subscribers
    unfolding subscribers_had
    subscribers_taken = rows_taken (content_of Subscribers) (table_of Subscribers s) array (wide Subscribers s) walked.subscribers (w.each Subscribers) subscriber_form (subscriber_in array) (λ at c. (subscriber at c).1)

    -- the array stands for them, where its index has their keys
    pub stands_with : length array ≡ s.pages * PAGE → IndexStands s array (map (subscriber_in array) (records_by_key walked.subscribers)) → StandsFor s array (database_in array walked)
    stands_with size index = record {
      size = size;
      in_order = in_order;
      subscribers = subscribers_had;
      numbers = numbers_had;
      access = rows_had (content_of Access) (table_of Access s) array (wide Access s) walked.access (w.each Access) access_form (access_in array) (λ at c. (access at c).1);
      facilities = rows_had (content_of Facilities) (table_of Facilities s) array (wide Facilities s) walked.facilities (w.each Facilities) facility_form (facility_in array) (λ at c. (facility at c).1);
      calls = rows_had (content_of Calls) (table_of Calls s) array (wide Calls s) walked.calls (w.each Calls) call_form (call_in array) (λ at c. (call at c).1);
      index = index;
    }

    -- two subscribers' keys differ
    keys_apart : AllPairs (λ x y. location_key (subscriber_in array x) ≢ location_key (subscriber_in array y)) (records_by_key walked.subscribers)
    keys_apart i j d less below same =
        let vs = records_by_key walked.subscribers in
        let there : (k : ℕ) → k < length vs → Contains (records_of_kind walked Subscribers) (get_or vs k d) = λ k inside.
        ordered_in (content_of Subscribers) (table_of Subscribers s) array (wide Subscribers s) walked.subscribers (w.each Subscribers) (get_or vs k d) (Contains-get_or vs k d inside) in
        ordered_differ (content_of Subscribers) (table_of Subscribers s) array (wide Subscribers s) walked.subscribers (w.each Subscribers) i j d less below
        (omega (arith, same, (subscriber (get_or vs i d) (there i (omega arith))).0.s_id, (subscriber (get_or vs j d) (there j below)).0.s_id))

    -- the index has them where nothing is wrong in it
    index_stands : StandsWhere s array (records_of_kind walked Subscribers) → IndexStands s array (map (subscriber_in array) (records_by_key walked.subscribers))
    index_stands whole some =
        let ordered = records_by_key walked.subscribers in
        let subscribers = records_of_kind walked Subscribers in
        index_has (index_tree s) array subscribers (map location_key (map (subscriber_in array) ordered)) (tree_fits_behind s)
        (keys_there array ordered subscribers (λ at c. in_ordered (content_of Subscribers) (table_of Subscribers s) array (wide Subscribers s) walked.subscribers (w.each Subscribers) at c))
        (keys_back array ordered subscribers (λ at c. ordered_in (content_of Subscribers) (table_of Subscribers s) array (wide Subscribers s) walked.subscribers (w.each Subscribers) at c))
        (pairs_mapped (λ x y. x ≢ y) location_key (map (subscriber_in array) ordered) (pairs_mapped (λ x y. location_key x ≢ location_key y) (subscriber_in array) ordered keys_apart))
        (whole some)

    -- the array stands for them, where nothing is wrong in its index
    pub stands : length array ≡ s.pages * PAGE → StandsWhere s array (records_of_kind walked Subscribers) → StandsFor s array (database_in array walked)
    stands size whole = stands_with size (index_stands whole)
