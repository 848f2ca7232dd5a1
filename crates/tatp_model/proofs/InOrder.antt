-- Each request keeps the tables in order.
use Rattle.std.proofs.Common.{◌≡◌, ◌≢◌, ℕ, suc, ◌+◌, ◌-◌, ◌*◌, ◌<◌, ◌≤◌, Bool, true, false, cond, not, List, [], ◌∷◌, ◌++◌, length, get_or, map, Option, Some, None, refl, ap, ap₂, sym, ◌∙◌, arith, ⊎_elim, subst, length-append}
use Rattle.std.specs.Prelude.{nat_lt, nat_le, slice_set, ◌==◌, ◌&&◌}
use Rattle.std.specs.Prelude.{Result, Ok, Err, OnOk, OnErr}
use Rattle.std.specs.Option.{option_map_or}
use Rattle.std.specs.List.{All, AllPairs, Any, filter, find, list_any}
use Rattle.std.specs.List.Sorted.{IsStrictlyIncreasing}
use Rattle.std.proofs.lemmas.Bool.{cases_Bool, ltb-true, le-ltb, eqb-true, and_parts, not-false, leb-false}
use Rattle.std.proofs.lemmas.List.Folds.{Any-from_list_any}
use Rattle.std.proofs.lemmas.List.Filters.{length-filter_both}
use Rattle.std.proofs.lemmas.List.{length-map, get_or-map, map-id}
use Rattle.std.proofs.lemmas.List.Elements.{All-map, All-weaker, All-filter, All-append, All-cons, All-set, filter_passes}
use Rattle.std.proofs.lemmas.List.Kept.{AllPairs-filter, AllPairs-cons}
use Rattle.tatp_model.specs.declared.sub_row.SubRow.{SubRow}
use Rattle.tatp_model.specs.declared.fac_row.FacRow.{FacRow}
use Rattle.tatp_model.specs.declared.call_row.CallRow.{CallRow}
use Rattle.tatp_model.specs.Database.{Database, IsInOrder, IsSubRow, IsFacRow, IsCallRow, facility_key, call_key}
use Rattle.tatp_model.specs.Transaction.{update_where, is_subscriber, has_phone, is_facility, is_call, with_call, Outcome, answers, changes, insert_call, delete_call, after_request, reply_to, Leaves}
use Rattle.tatp_model.specs.Ranges.{IsBit}
use Rattle.tatp_model.specs.Request.{IsInRange}
use Rattle.tatp_model.specs.declared.request.Request.{Request}
use Rattle.tatp_model.specs.declared.request.Request.TheVariants.{GetSubscriber, GetDestination, GetAccess, UpdateSubscriber, UpdateLocation, InsertCall, DeleteCall, Sync}
use Rattle.tatp_model.specs.declared.reply.Reply.{Reply}
use Rattle.tatp_model.specs.declared.reply.Reply.TheVariants.{Missing, NoFacility, Duplicate, FullTable}
use Rattle.tatp_model.proofs.Rows.{All-find}
use Rattle.tatp_model.proofs.Rising.{pairs_from_rising}

-- rows that rise pair by pair rise
pub rising_from_pairs : {R : Type 0} (key : R → ℕ) (rows : List R) → AllPairs (λ r s. key r < key s) rows → IsStrictlyIncreasing (map key rows)
rising_from_pairs key [] pairs k within = absurd (omega arith)
rising_from_pairs key (r ∷ rows) pairs k within =
    let long : length (map key (r ∷ rows)) ≡ length (r ∷ rows) = length-map (r ∷ rows) key in
    let lower : get_or (map key (r ∷ rows)) k 0 ≡ key (get_or (r ∷ rows) k r) = get_or-map key (r ∷ rows) k r 0 (omega (arith, long, within)) in
    let upper : get_or (map key (r ∷ rows)) (k + 1) 0 ≡ key (get_or (r ∷ rows) (k + 1) r) = get_or-map key (r ∷ rows) (k + 1) r 0 (omega (arith, long, within)) in
    omega (arith, lower, upper, pairs k (k + 1) r (omega arith) (omega (arith, long, within)))

-- pairs of one list, of another, and from the one to the other
pub AllPairs-append : {R : Type 0} (P : R → R → Type 0) (xs ys : List R) → AllPairs P xs → AllPairs P ys → All (λ x. All (P x) ys) xs → AllPairs P (xs ++ ys)
AllPairs-append P [] ys hx hy across = hy
AllPairs-append P (x ∷ xs) ys hx hy across =
    AllPairs-cons P x (xs ++ ys) (All-append (P x) xs ys (λ k d h. hx 0 (suc k) d (omega arith) (omega arith)) (across 0 x (omega arith)))
    (AllPairs-append P xs ys (λ i j d h l. hx (suc i) (suc j) d (omega arith) (omega arith)) hy (λ k d h. across (suc k) d (omega arith)))

-- pairs of rewritten rows
AllPairs-map : {R : Type 0} (P : R → R → Type 0) (f : R → R) (rows : List R) → AllPairs (λ r s. P (f r) (f s)) rows → AllPairs P (map f rows)
AllPairs-map P f rows pairs i j d before within =
    let long : length (map f rows) ≡ length rows = length-map rows f in
    let lower : get_or (map f rows) i d ≡ f (get_or rows i d) = get_or-map f rows i d d (omega (arith, long, within)) in
    let upper : get_or (map f rows) j d ≡ f (get_or rows j d) = get_or-map f rows j d d (omega (arith, long, within)) in
    rw (lower, upper) (pairs i j d before (omega (arith, long, within)))

-- a row that is there stays there, rewritten
Any-map : {R : Type 0} (P Q : R → Type 0) (f : R → R) (rows : List R) → ((r : R) → P r → Q (f r)) → Any P rows → Any Q (map f rows)
Any-map P Q f rows keeps there =
    (there.0, f there.1, omega (arith, there.2, length-map rows f), get_or-map f rows there.0 there.1 (f there.1) there.2 ∙ ap f there.3, keeps there.1 there.4)

-- a rewrite of some rows, by cases on whether a row passes
choice : {R : Type 0} (P : R → Type 0) (p : R → Bool) (f : R → R) (r : R) → P r → P (f r) → P (cond (p r) (f r) r)
choice P p f r kept rewritten = ⊎_elim (λ e. rw e rewritten) (λ e. rw e kept) (cases_Bool (p r))

-- keys that a rewrite leaves
keys-map : {R : Type 0} (key : R → ℕ) (f : R → R) (rows : List R) → ((r : R) → key (f r) ≡ key r) → map key (map f rows) ≡ map key rows
keys-map key f [] same = refl
keys-map key f (r ∷ rows) same = ap₂ (λ k ks. k ∷ ks) (same r) (keys-map key f rows same)

-- a rewrite of subscribers that keeps their names and ranges
record KeepsSubscribers (f : SubRow → SubRow) : Type 0 where
  s_id : (r : SubRow) → (f r).s_id ≡ r.s_id
  sub_nbr : (r : SubRow) → (f r).sub_nbr ≡ r.sub_nbr
  in_range : (r : SubRow) → IsSubRow r → IsSubRow (f r)

-- a rewrite of facilities that keeps their names and ranges
record KeepsFacilities (f : FacRow → FacRow) : Type 0 where
  s_id : (r : FacRow) → (f r).s_id ≡ r.s_id
  sf_type : (r : FacRow) → (f r).sf_type ≡ r.sf_type
  in_range : (r : FacRow) → IsFacRow r → IsFacRow (f r)

-- subscribers and facilities, rewritten so
IsInOrder-rewritten : (db : Database) (f : SubRow → SubRow) (g : FacRow → FacRow) → KeepsSubscribers f → KeepsFacilities g → IsInOrder db → IsInOrder (record db { subscribers = map f db.subscribers; facilities = map g db.facilities })
IsInOrder-rewritten db f g of_subscribers of_facilities order = record {
  subscribers_rise = subst IsStrictlyIncreasing (sym (keys-map (λ r. r.s_id) f db.subscribers of_subscribers.s_id)) order.subscribers_rise;
  access_rise = order.access_rise;
  facilities_rise = subst IsStrictlyIncreasing (sym (keys-map facility_key g db.facilities (λ r. ap₂ (λ s t. 4 * s + t - 1) (of_facilities.s_id r) (of_facilities.sf_type r)))) order.facilities_rise;
  calls_rise = order.calls_rise;
  subscribers_in_range = All-map IsSubRow f db.subscribers (All-weaker IsSubRow (λ r. IsSubRow (f r)) of_subscribers.in_range db.subscribers order.subscribers_in_range);
  access_in_range = order.access_in_range;
  facilities_in_range = All-map IsFacRow g db.facilities (All-weaker IsFacRow (λ r. IsFacRow (g r)) of_facilities.in_range db.facilities order.facilities_in_range);
  calls_in_range = order.calls_in_range;
  phones_differ = AllPairs-map (λ r s. r.sub_nbr ≢ s.sub_nbr) f db.subscribers (λ i j d h l e. order.phones_differ i j d h l (sym (of_subscribers.sub_nbr (get_or db.subscribers i d)) ∙ e ∙ of_subscribers.sub_nbr (get_or db.subscribers j d)));
  access_belongs = All-weaker (λ a. Any (λ r. r.s_id ≡ a.s_id) db.subscribers) (λ a. Any (λ r. r.s_id ≡ a.s_id) (map f db.subscribers)) (λ a there. Any-map (λ r. r.s_id ≡ a.s_id) (λ r. r.s_id ≡ a.s_id) f db.subscribers (λ r e. of_subscribers.s_id r ∙ e) there) db.access order.access_belongs;
  facilities_belong = All-map (λ a. Any (λ r. r.s_id ≡ a.s_id) (map f db.subscribers)) g db.facilities (All-weaker (λ a. Any (λ r. r.s_id ≡ a.s_id) db.subscribers) (λ a. Any (λ r. r.s_id ≡ (g a).s_id) (map f db.subscribers)) (λ a there. Any-map (λ r. r.s_id ≡ a.s_id) (λ r. r.s_id ≡ (g a).s_id) f db.subscribers (λ r e. of_subscribers.s_id r ∙ e ∙ sym (of_facilities.s_id a)) there) db.facilities order.facilities_belong);
  calls_belong = All-weaker (λ c. Any (λ r. (r.s_id ≡ c.s_id) × (r.sf_type ≡ c.sf_type)) db.facilities) (λ c. Any (λ r. (r.s_id ≡ c.s_id) × (r.sf_type ≡ c.sf_type)) (map g db.facilities)) (λ c there. Any-map (λ r. (r.s_id ≡ c.s_id) × (r.sf_type ≡ c.sf_type)) (λ r. (r.s_id ≡ c.s_id) × (r.sf_type ≡ c.sf_type)) g db.facilities (λ r e. (of_facilities.s_id r ∙ e.0, of_facilities.sf_type r ∙ e.1)) there) db.calls order.calls_belong;
}

-- a rewrite of the subscribers alone that pass a test
keeps_subscribers : (p : SubRow → Bool) (f : SubRow → SubRow) → KeepsSubscribers f → KeepsSubscribers (λ r. cond (p r) (f r) r)
keeps_subscribers p f keeps = record {
  s_id = λ r. choice (λ x. x.s_id ≡ r.s_id) p f r refl (keeps.s_id r);
  sub_nbr = λ r. choice (λ x. x.sub_nbr ≡ r.sub_nbr) p f r refl (keeps.sub_nbr r);
  in_range = λ r h. choice IsSubRow p f r h (keeps.in_range r h);
}

-- a rewrite of the facilities alone that pass a test
keeps_facilities : (p : FacRow → Bool) (f : FacRow → FacRow) → KeepsFacilities f → KeepsFacilities (λ r. cond (p r) (f r) r)
keeps_facilities p f keeps = record {
  s_id = λ r. choice (λ x. x.s_id ≡ r.s_id) p f r refl (keeps.s_id r);
  sf_type = λ r. choice (λ x. x.sf_type ≡ r.sf_type) p f r refl (keeps.sf_type r);
  in_range = λ r h. choice IsFacRow p f r h (keeps.in_range r h);
}

-- other call rows that rise, are in range and have their facilities
IsInOrder-calls : (db : Database) (calls : List CallRow) → AllPairs (λ r s. call_key r < call_key s) calls → All IsCallRow calls → All (λ c. Any (λ f. (f.s_id ≡ c.s_id) × (f.sf_type ≡ c.sf_type)) db.facilities) calls → IsInOrder db → IsInOrder (record db { calls = calls })
IsInOrder-calls db calls rise in_range belong order = record {
  subscribers_rise = order.subscribers_rise;
  access_rise = order.access_rise;
  facilities_rise = order.facilities_rise;
  calls_rise = rising_from_pairs call_key calls rise;
  subscribers_in_range = order.subscribers_in_range;
  access_in_range = order.access_in_range;
  facilities_in_range = order.facilities_in_range;
  calls_in_range = in_range;
  phones_differ = order.phones_differ;
  access_belongs = order.access_belongs;
  facilities_belong = order.facilities_belong;
  calls_belong = belong;
}

-- a filter of the call rows
IsInOrder-filter : (db : Database) (p : CallRow → Bool) → IsInOrder db → IsInOrder (record db { calls = filter p db.calls })
IsInOrder-filter db p order =
    IsInOrder-calls db (filter p db.calls) (AllPairs-filter (λ r s. call_key r < call_key s) p db.calls (pairs_from_rising call_key db.calls order.calls_rise)) (All-filter p IsCallRow db.calls order.calls_in_range)
    (All-filter p (λ c. Any (λ f. (f.s_id ≡ c.s_id) × (f.sf_type ≡ c.sf_type)) db.facilities) db.calls order.calls_belong) order

-- one call row more, with its facility
IsInOrder-with_call : (db : Database) (row : CallRow) → IsCallRow row → Any (λ f. (f.s_id ≡ row.s_id) × (f.sf_type ≡ row.sf_type)) db.facilities → IsInOrder db → IsInOrder (record db { calls = with_call row db.calls })
IsInOrder-with_call db row in_range there order =
    let below = λ (r : CallRow). nat_lt (call_key r) (call_key row) in
    let above = λ (r : CallRow). nat_lt (call_key row) (call_key r) in
    let low = filter below db.calls in
    let high = filter above db.calls in
    let Rises = λ (r s : CallRow). call_key r < call_key s in
    let Belongs = λ (c : CallRow). Any (λ f. (f.s_id ≡ c.s_id) × (f.sf_type ≡ c.sf_type)) db.facilities in
    let pairs = pairs_from_rising call_key db.calls order.calls_rise in
    let under : All (λ r. call_key r < call_key row) low = λ k d h. ltb-true _ _ (filter_passes below db.calls k d h) in
    let over : All (λ r. call_key row < call_key r) high = λ k d h. ltb-true _ _ (filter_passes above db.calls k d h) in
    let across : All (λ r. All (Rises r) (row ∷ high)) low = λ k d h. All-cons (Rises (get_or low k d)) row high (under k d h) (λ j e l. omega (arith, under k d h, over j e l)) in
    IsInOrder-calls db (low ++ row ∷ high)
    (AllPairs-append Rises low (row ∷ high) (AllPairs-filter Rises below db.calls pairs) (AllPairs-cons Rises row high over (AllPairs-filter Rises above db.calls pairs)) across)
    (All-append IsCallRow low (row ∷ high) (All-filter below IsCallRow db.calls order.calls_in_range) (All-cons IsCallRow row high in_range (All-filter above IsCallRow db.calls order.calls_in_range)))
    (All-append Belongs low (row ∷ high) (All-filter below Belongs db.calls order.calls_belong) (All-cons Belongs row high there (All-filter above Belongs db.calls order.calls_belong))) order

-- a row that passes a filter, or that doesn't
length-filter_kept : {R : Type 0} (p : R → Bool) (r : R) (rows : List R) → p r ≡ true → length (filter p (r ∷ rows)) ≡ length (filter p rows) + 1
length-filter_kept p r rows e = rw e (omega arith)

length-filter_dropped : {R : Type 0} (p : R → Bool) (r : R) (rows : List R) → p r ≡ false → length (filter p (r ∷ rows)) ≡ length (filter p rows)
length-filter_dropped p r rows e = rw e refl

-- two filters that pass no row in common keep at most as many together
length-filter_apart : {R : Type 0} (p q : R → Bool) (rows : List R) → ((r : R) → p r ≡ true → q r ≡ false) → length (filter p rows) + length (filter q rows) ≤ length rows
length-filter_apart p q [] apart = omega arith
length-filter_apart p q (r ∷ rows) apart =
    let rest = length-filter_apart p q rows apart in
    ⊎_elim (λ e. omega (arith, rest, length-filter_kept p r rows e, length-filter_dropped q r rows (apart r e)))
    (λ e. ⊎_elim (λ h. omega (arith, rest, length-filter_dropped p r rows e, length-filter_kept q r rows h)) (λ h. omega (arith, rest, length-filter_dropped p r rows e, length-filter_dropped q r rows h)) (cases_Bool (q r))) (cases_Bool (p r))

pub length-with_call : (row : CallRow) (rows : List CallRow) → length (with_call row rows) ≤ length rows + 1
length-with_call row rows =
    let below = λ (r : CallRow). nat_lt (call_key r) (call_key row) in
    let above = λ (r : CallRow). nat_lt (call_key row) (call_key r) in
    let both = length-filter_apart below above rows (λ r e. le-ltb _ _ (omega (arith, ltb-true (call_key r) (call_key row) e))) in
    omega (arith, length-append (filter below rows) (row ∷ filter above rows), both)

-- a row that some test names is there
named : {R : Type 0} (P : R → Type 0) (p : R → Bool) (rows : List R) → ((r : R) → p r ≡ true → P r) → list_any p rows ≡ true → Any P rows
named P p rows says e = let there = Any-from_list_any p rows e in (there.0, there.1, there.2, there.3, says there.1 there.4)

-- the tables are in order, and at most limit call rows stand
pub record KeepsOrder (limit : ℕ) (db : Database) : Type 0 where
  pub order : IsInOrder db
  pub room : length db.calls ≤ limit

keeps_cond : (limit : ℕ) (b : Bool) (x y : Outcome) → (b ≡ true → KeepsOrder limit x.after) → (b ≡ false → KeepsOrder limit y.after) → KeepsOrder limit (cond b x y).after
keeps_cond limit true x y hx hy = hx refl
keeps_cond limit false x y hx hy = hy refl

keeps_find : (limit : ℕ) (f : SubRow → Outcome) (o : Option SubRow) (y : Outcome) → ((r : SubRow) → o ≡ Some r → KeepsOrder limit (f r).after) → KeepsOrder limit y.after → KeepsOrder limit (option_map_or f o y).after
keeps_find limit f None y hf hy = hy
keeps_find limit f (Some r) y hf hy = hf r refl

keeps_insert : (limit : ℕ) (db : Database) (row : CallRow) → IsCallRow row → KeepsOrder limit db → KeepsOrder limit (insert_call limit db row).after
keeps_insert limit db row in_range kept =
    keeps_cond limit (not (list_any (is_facility row.s_id row.sf_type) db.facilities)) (answers db NoFacility) _ (λ _. kept) (λ there.
    keeps_cond limit (list_any (is_call row.s_id row.sf_type row.start_time) db.calls) (answers db Duplicate) _ (λ _. kept) (λ _.
    keeps_cond limit (nat_le limit (length db.calls)) (answers db FullTable) (changes (record db { calls = with_call row db.calls })) (λ _. kept) (λ room. record {
      order = IsInOrder-with_call db row in_range (named (λ f. (f.s_id ≡ row.s_id) × (f.sf_type ≡ row.sf_type)) (is_facility row.s_id row.sf_type) db.facilities (λ r e. let names = and_parts (r.s_id == row.s_id) (r.sf_type == row.sf_type) e in (eqb-true _ _ names.0, eqb-true _ _ names.1)) (not-false _ there)) kept.order;
      room = omega (arith, length-with_call row db.calls, leb-false limit (length db.calls) room);
    })))

-- each request in range keeps the tables in order, with at most limit call rows
pub KeepsOrder-after_request : (limit : ℕ) (db : Database) (request : Request) → IsInRange request → KeepsOrder limit db → KeepsOrder limit (after_request limit db request)
KeepsOrder-after_request limit db (GetSubscriber s) range kept = kept
KeepsOrder-after_request limit db (GetDestination s f t e) range kept = kept
KeepsOrder-after_request limit db (GetAccess s a) range kept = kept
KeepsOrder-after_request limit db (UpdateSubscriber s b f d) range kept =
    let rows = update_where (is_subscriber s) (λ r. record r { bits = slice_set r.bits 0 b }) db.subscribers in
    let facilities = update_where (is_facility s f) (λ r. record r { data_a = d }) db.facilities in
    keeps_cond limit (list_any (is_subscriber s) db.subscribers && list_any (is_facility s f) db.facilities) (changes (record db { subscribers = rows; facilities = facilities })) (answers db Missing) (λ _. record {
      order = IsInOrder-rewritten db (λ r. cond (is_subscriber s r) (record r { bits = slice_set r.bits 0 b }) r) (λ r. cond (is_facility s f r) (record r { data_a = d }) r)
          (keeps_subscribers (is_subscriber s) (λ r. record r { bits = slice_set r.bits 0 b }) (record { s_id = λ r. refl; sub_nbr = λ r. refl; in_range = λ r h. record { s_id = h.s_id; sub_nbr = h.sub_nbr; bits = All-set IsBit r.bits 0 b range.1 h.bits; hexes = h.hexes; bytes = h.bytes; msc = h.msc; vlr = h.vlr } }))
          (keeps_facilities (is_facility s f) (λ r. record r { data_a = d }) (record { s_id = λ r. refl; sf_type = λ r. refl; in_range = λ r h. record { s_id = h.s_id; sf_type = h.sf_type; is_active = h.is_active; error_cntrl = h.error_cntrl; data_a = range.3; data_b = h.data_b } })) kept.order;
      room = kept.room;
    }) (λ _. kept)
KeepsOrder-after_request limit db (UpdateLocation n v) range kept =
    keeps_cond limit (list_any (has_phone n) db.subscribers) (changes (record db { subscribers = update_where (has_phone n) (λ r. record r { vlr = v }) db.subscribers })) (answers db Missing) (λ _. record {
      order = subst (λ rows. IsInOrder (record db { subscribers = update_where (has_phone n) (λ r. record r { vlr = v }) db.subscribers; facilities = rows })) (map-id db.facilities)
          (IsInOrder-rewritten db (λ r. cond (has_phone n r) (record r { vlr = v }) r) (λ r. r)
          (keeps_subscribers (has_phone n) (λ r. record r { vlr = v }) (record { s_id = λ r. refl; sub_nbr = λ r. refl; in_range = λ r h. record { s_id = h.s_id; sub_nbr = h.sub_nbr; bits = h.bits; hexes = h.hexes; bytes = h.bytes; msc = h.msc; vlr = range.1 } }))
          (record { s_id = λ r. refl; sf_type = λ r. refl; in_range = λ r h. h }) kept.order);
      room = kept.room;
    }) (λ _. kept)
KeepsOrder-after_request limit db (InsertCall n f t e x) range kept =
    keeps_find limit (λ r. insert_call limit db (record { s_id = r.s_id; sf_type = f; start_time = t; end_time = e; numberx = x })) (find (has_phone n) db.subscribers) (answers db Missing) (λ r found.
    keeps_insert limit db (record { s_id = r.s_id; sf_type = f; start_time = t; end_time = e; numberx = x }) (record { s_id = (All-find IsSubRow (has_phone n) db.subscribers r kept.order.subscribers_in_range found).s_id; sf_type = range.1; start_time = range.2; end_time = range.3; numberx = range.4 }) kept) kept
KeepsOrder-after_request limit db (DeleteCall n f t) range kept =
    keeps_find limit (λ r. delete_call db r.s_id f t) (find (has_phone n) db.subscribers) (answers db Missing) (λ r found.
    keeps_cond limit (list_any (is_call r.s_id f t) db.calls) (changes (record db { calls = filter (λ c. not (is_call r.s_id f t c)) db.calls })) (answers db Missing) (λ _. record {
      order = IsInOrder-filter db (λ c. not (is_call r.s_id f t c)) kept.order;
      room = omega (arith, kept.room, length-filter_both (is_call r.s_id f t) (λ c. not (is_call r.s_id f t c)) (λ c. refl) db.calls);
    }) (λ _. kept)) kept
KeepsOrder-after_request limit db Sync range kept = kept

-- the tables that a step leaves
pub KeepsOrder-step : (limit : ℕ) (db after : Database) (request : Request) → IsInRange request → IsInOrder db → length db.calls ≤ limit → after ≡ after_request limit db request → KeepsOrder limit after
KeepsOrder-step limit db after request range order room is = subst (KeepsOrder limit) (sym is) (KeepsOrder-after_request limit db request range (record { order = order; room = room }))

-- the tables that a step leaves that may fail, and then changes nothing
pub KeepsOrder-either : {T E : Type 0} (r : Result T E) (limit : ℕ) (db after : Database) (request : Request) → IsInRange request → IsInOrder db → length db.calls ≤ limit → OnOk r (after ≡ after_request limit db request) → OnErr r (after ≡ db) → KeepsOrder limit after
KeepsOrder-either (Ok x) limit db after request range order room is same = KeepsOrder-step limit db after request range order room is
KeepsOrder-either (Err e) limit db after request range order room is same = subst (KeepsOrder limit) (sym same) (record { order = order; room = room })

-- What the step of a request is to leave.
pub record IsServed (limit : ℕ) (db left : Database) (request : Request) (answer : Reply) : Type 0 where
  pub reply : answer ≡ reply_to limit db request
  pub after : Leaves limit db request left
  pub order : IsInOrder left
  pub room : length left.calls ≤ limit

-- it does, where the request is one that a function has carried out, whatever the limit
pub served : (limit : ℕ) {db after : Database} {request one : Request} {reply : Reply} → IsInRange request → IsInOrder db → length db.calls ≤ limit
    → request ≡ one → ((limit : ℕ) → reply ≡ reply_to limit db one) → ((limit : ℕ) → after ≡ after_request limit db one) → IsServed limit db after request reply
served limit {db} {after} {request} {one} {reply} range order room is answered left =
    let done : after ≡ after_request limit db request = rw is (left limit) in
    let kept = KeepsOrder-step limit db after request range order room done in
    record { reply = rw is (answered limit); after = done; order = kept.order; room = kept.room }
