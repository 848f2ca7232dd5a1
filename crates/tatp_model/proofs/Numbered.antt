-- Rows whose keys are consecutive numbers stand at the index that their key tells.
use Rattle.std.proofs.Common.{◌≡◌, ℕ, zero, suc, ◌+◌, ◌<◌, ◌≤◌, Bool, true, false, cond, eqb, List, [], ◌∷◌, length, get_or, set, map, None, refl, ap, ap₂, sym, ◌∙◌, arith, ⊎_elim, ◌⊎◌, subst}
use Rattle.std.specs.Prelude.{slice_get, is_some}
use Rattle.std.specs.List.{filter, find, list_any, range_with_len}
use Rattle.std.proofs.lemmas.Bool.{cases_Bool, eq-eqb, ne_eqb}
use Rattle.std.proofs.lemmas.List.{length-map}
use Rattle.std.proofs.lemmas.List.FromFn.{get_or-map-range_with_len, length-range_with_len}
use Rattle.std.proofs.lemmas.Option.{slice_get_past}
use Rattle.std.proofs.lemmas.List.Folds.{list_any_at}
use Rattle.tatp_model.specs.declared.sub_row.SubRow.{SubRow}
use Rattle.tatp_model.specs.Transaction.{update_where, is_subscriber, has_phone, Outcome, answers, changes, outcome_of, after_request}
use Rattle.tatp_model.specs.declared.request.Request.TheVariants.{UpdateLocation}
use Rattle.tatp_model.specs.declared.reply.Reply.TheVariants.{Missing}
use Rattle.tatp_model.specs.Database.{Database}
use Rattle.tatp_model.specs.Population.{population, subscriber_at}
use Rattle.tatp_model.proofs.Rows.{update_where-at}

-- the keys of the rows are a, a + 1 and so on
pub record KeysFrom {R : Type 0} (key : R → ℕ) (a : ℕ) (rows : List R) : Type 0 where
  pub keys : map key rows ≡ range_with_len a (length rows)

head_key : {R : Type 0} (key : R → ℕ) (a : ℕ) (r : R) (rows : List R) → KeysFrom key a (r ∷ rows) → key r ≡ a
head_key key a r rows from = let e = from.keys in cc

tail_keys : {R : Type 0} (key : R → ℕ) (a : ℕ) (r : R) (rows : List R) → KeysFrom key a (r ∷ rows) → KeysFrom key (a + 1) rows
tail_keys key a r rows from = let e = from.keys in record { keys = cc }

-- the row at index k has the key a + k
pub key_at : {R : Type 0} (key : R → ℕ) (a : ℕ) (rows : List R) (k : ℕ) (d : R) → KeysFrom key a rows → k < length rows → key (get_or rows k d) ≡ a + k
key_at key a [] k d from within = absurd (omega arith)
key_at key a (r ∷ rows) zero d from within = omega (arith, head_key key a r rows from)
key_at key a (r ∷ rows) (suc k) d from within = omega (arith, key_at key (a + 1) rows k d (tail_keys key a r rows from) (omega arith))

-- the row with the key a + n is the one at index n
pub find-at : {R : Type 0} (key : R → ℕ) (a n : ℕ) (rows : List R) → KeysFrom key a rows → find (λ r. eqb (key r) (a + n)) rows ≡ slice_get rows n
find-at key a n [] from = refl
find-at key a zero (r ∷ rows) from =
    let here : eqb (key r) (a + 0) ≡ true = eq-eqb _ _ (omega (arith, head_key key a r rows from)) in rw here refl
find-at key a (suc n) (r ∷ rows) from =
    let passed : eqb (key r) (a + suc n) ≡ false = ne_eqb _ _ (λ e. absurd (omega (arith, head_key key a r rows from, e))) in
    let same : a + suc n ≡ a + 1 + n = omega arith in
    rw passed (ap (λ m. find (λ r. eqb (key r) m) rows) same ∙ find-at key (a + 1) n rows (tail_keys key a r rows from))

-- no row has a key below them
pub filter-past : {R : Type 0} (key : R → ℕ) (a n : ℕ) (rows : List R) → KeysFrom key a rows → (n < a) → filter (λ r. eqb (key r) n) rows ≡ []
filter-past key a n [] from below = refl
filter-past key a n (r ∷ rows) from below =
    let passed : eqb (key r) n ≡ false = ne_eqb _ _ (λ e. absurd (omega (arith, head_key key a r rows from, e))) in
    rw passed (filter-past key (a + 1) n rows (tail_keys key a r rows from) (omega arith))

-- only that row is kept by a filter
pub filter-at : {R : Type 0} (key : R → ℕ) (a n : ℕ) (rows : List R) (d : R) → KeysFrom key a rows → n < length rows → filter (λ r. eqb (key r) (a + n)) rows ≡ get_or rows n d ∷ []
filter-at key a n [] d from within = absurd (omega arith)
filter-at key a zero (r ∷ rows) d from within =
    let here : eqb (key r) (a + 0) ≡ true = eq-eqb _ _ (omega (arith, head_key key a r rows from)) in
    rw here (ap (λ rest. r ∷ rest) (filter-past key (a + 1) (a + 0) rows (tail_keys key a r rows from) (omega arith)))
filter-at key a (suc n) (r ∷ rows) d from within =
    let passed : eqb (key r) (a + suc n) ≡ false = ne_eqb _ _ (λ e. absurd (omega (arith, head_key key a r rows from, e))) in
    let same : a + suc n ≡ a + 1 + n = omega arith in
    rw passed (ap (λ m. filter (λ r. eqb (key r) m) rows) same ∙ filter-at key (a + 1) n rows d (tail_keys key a r rows from) (omega arith))

-- a rewrite of the row with the key a + n is a write at index n
pub update_where-key : {R : Type 0} (key : R → ℕ) (f : R → R) (a n : ℕ) (rows : List R) (d : R) → KeysFrom key a rows → n < length rows → update_where (λ r. eqb (key r) (a + n)) f rows ≡ set rows n (f (get_or rows n d))
update_where-key key f a n rows d from within =
    update_where-at (λ r. eqb (key r) (a + n)) f rows n d within (eq-eqb _ _ (key_at key a rows n d from within))
    (λ j e h. ne_eqb _ _ (λ same. absurd (omega (arith, key_at key a rows j e from (omega arith), same))))
    (λ j e h l. ne_eqb _ _ (λ same. absurd (omega (arith, key_at key a rows j e from l, same))))

-- the subscribers' ids and phone numbers are 1, 2, 3 and so on
pub record IsNumbered (rows : List SubRow) : Type 0 where
  pub ids : KeysFrom (λ r. r.s_id) 1 rows
  pub phones : KeysFrom (λ r. r.sub_nbr) 1 rows

-- a key past the rows names none
find-past : {R : Type 0} (key : R → ℕ) (a n : ℕ) (rows : List R) → KeysFrom key a rows → length rows ≤ n → find (λ r. eqb (key r) (a + n)) rows ≡ None
find-past key a n rows from past = find-at key a n rows from ∙ slice_get_past rows n past

-- no row has the key 0 where the keys begin at 1
pub find-zero : {R : Type 0} (key : R → ℕ) (a : ℕ) (rows : List R) → KeysFrom key (a + 1) rows → find (λ r. eqb (key r) 0) rows ≡ None
find-zero key a [] from = refl
find-zero key a (r ∷ rows) from =
    let passed : eqb (key r) 0 ≡ false = ne_eqb _ _ (λ e. absurd (omega (arith, head_key key (a + 1) r rows from, e))) in
    rw passed (find-zero key (a + 1) rows (tail_keys key (a + 1) r rows from))

-- whether a row was found says whether some row passes
pub list_any-find : {R : Type 0} (p : R → Bool) (rows : List R) → list_any p rows ≡ is_some (find p rows)
list_any-find p [] = refl
list_any-find p (r ∷ rows) = ⊎_elim (λ e. rw e refl) (λ e. rw e (list_any-find p rows)) (cases_Bool (p r))

-- a rewrite that keeps the keys
pub keys-update_where : {R : Type 0} (key : R → ℕ) (p : R → Bool) (f : R → R) (rows : List R) → ((r : R) → key (f r) ≡ key r) → map key (update_where p f rows) ≡ map key rows
keys-update_where key p f [] same = refl
keys-update_where key p f (r ∷ rows) same =
    ⊎_elim (λ e. rw e (ap₂ (λ x (xs : List ℕ). x ∷ xs) (same r) (keys-update_where key p f rows same))) (λ e. rw e (ap (λ (xs : List ℕ). key r ∷ xs) (keys-update_where key p f rows same))) (cases_Bool (p r))

pub IsNumbered-update_where : (p : SubRow → Bool) (f : SubRow → SubRow) (rows : List SubRow) → ((r : SubRow) → (f r).s_id ≡ r.s_id) → ((r : SubRow) → (f r).sub_nbr ≡ r.sub_nbr) → IsNumbered rows → IsNumbered (update_where p f rows)
IsNumbered-update_where p f rows keeps_id keeps_phone numbered =
    let long : length rows ≡ length (update_where p f rows) = sym (length-map rows (λ r. cond (p r) (f r) r)) in
    record {
      ids = record { keys = keys-update_where (λ r. r.s_id) p f rows keeps_id ∙ numbered.ids.keys ∙ ap (range_with_len 1) long };
      phones = record { keys = keys-update_where (λ r. r.sub_nbr) p f rows keeps_phone ∙ numbered.phones.keys ∙ ap (range_with_len 1) long };
    }

-- the subscribers of a new database are numbered
keys-subscribers : (key : SubRow → ℕ) (a n : ℕ) → ((s : ℕ) → key (subscriber_at s) ≡ s) → map key (map subscriber_at (range_with_len a n)) ≡ range_with_len a n
keys-subscribers key a zero is = refl
keys-subscribers key a (suc n) is = ap₂ (λ x (xs : List ℕ). x ∷ xs) (is a) (keys-subscribers key (a + 1) n is)

pub length-subscribers : (S : ℕ) → length (population S).subscribers ≡ S
length-subscribers S = length-map (range_with_len 1 S) subscriber_at ∙ length-range_with_len 1 S

pub IsNumbered-population : (S : ℕ) → IsNumbered (population S).subscribers
IsNumbered-population S = record {
  ids = record { keys = keys-subscribers (λ r. r.s_id) 1 S (λ s. refl) ∙ ap (range_with_len 1) (sym (length-subscribers S)) };
  phones = record { keys = keys-subscribers (λ r. r.sub_nbr) 1 S (λ s. refl) ∙ ap (range_with_len 1) (sym (length-subscribers S)) };
}

-- the subscriber at index k of a new database is subscriber k + 1
pub get_or-subscribers : (S k : ℕ) (d : SubRow) → k < S → get_or (population S).subscribers k d ≡ subscriber_at (k + 1)
get_or-subscribers S k d within = get_or-map-range_with_len subscriber_at 1 S k (k + 1) d within (omega arith)

-- the subscriber with an id, or with a phone number, stands at the index one below it
pub find_subscriber : (rows : List SubRow) (n : ℕ) → IsNumbered rows → find (is_subscriber (1 + n)) rows ≡ slice_get rows n
find_subscriber rows n numbered = find-at (λ r. r.s_id) 1 n rows numbered.ids

pub find_by_phone : (rows : List SubRow) (n : ℕ) → IsNumbered rows → find (has_phone (1 + n)) rows ≡ slice_get rows n
find_by_phone rows n numbered = find-at (λ r. r.sub_nbr) 1 n rows numbered.phones

-- no subscriber has the number 0, or one past the rows
pub find_by_phone-missing : (rows : List SubRow) (n : ℕ) → IsNumbered rows → (n ≡ 0) ⊎ (length rows < n) → find (has_phone n) rows ≡ None
find_by_phone-missing rows zero numbered out = find-zero (λ r. r.sub_nbr) 0 rows numbered.phones
find_by_phone-missing rows (suc n) numbered out =
    let same : suc n ≡ 1 + n = omega arith in
    ap (λ m. find (has_phone m) rows) same ∙ find_by_phone rows n numbered ∙ slice_get_past rows n (⊎_elim (λ e. absurd (omega (arith, e))) (λ h. omega (arith, h)) out)

pub find_subscriber-missing : (rows : List SubRow) (n : ℕ) → IsNumbered rows → (n ≡ 0) ⊎ (length rows < n) → find (is_subscriber n) rows ≡ None
find_subscriber-missing rows zero numbered out = find-zero (λ r. r.s_id) 0 rows numbered.ids
find_subscriber-missing rows (suc n) numbered out =
    let same : suc n ≡ 1 + n = omega arith in
    ap (λ m. find (is_subscriber m) rows) same ∙ find_subscriber rows n numbered ∙ slice_get_past rows n (⊎_elim (λ e. absurd (omega (arith, e))) (λ h. omega (arith, h)) out)

-- UPDATE_LOCATION sets the `vlr` of the one row with that phone number, where it stands, and keeps every other row and table
pub update_location-at : (limit : ℕ) (db : Database) (n vlr : ℕ) (d : SubRow) → IsNumbered db.subscribers → n < length db.subscribers → outcome_of limit db (UpdateLocation (1 + n) vlr) ≡ changes (record db { subscribers = set db.subscribers n (record (get_or db.subscribers n d) { vlr = vlr }) })
update_location-at limit db n vlr d numbered within =
    let there : list_any (has_phone (1 + n)) db.subscribers ≡ true = list_any_at (has_phone (1 + n)) db.subscribers n d within (eq-eqb _ _ (key_at (λ r. r.sub_nbr) 1 db.subscribers n d numbered.phones within)) in
    rw there (ap (λ (rows : List SubRow). changes (record db { subscribers = rows })) (update_where-key (λ r. r.sub_nbr) (λ r. record r { vlr = vlr }) 1 n db.subscribers d numbered.phones within))

pub update_location-missing : (limit : ℕ) (db : Database) (n vlr : ℕ) → IsNumbered db.subscribers → (n ≡ 0) ⊎ (length db.subscribers < n) → outcome_of limit db (UpdateLocation n vlr) ≡ answers db Missing
update_location-missing limit db n vlr numbered out =
    let none : list_any (has_phone n) db.subscribers ≡ false = list_any-find (has_phone n) db.subscribers ∙ ap is_some (find_by_phone-missing db.subscribers n numbered out) in
    rw none refl

-- UPDATE_LOCATION answers by whether the number is there
pub update_location-there : (limit : ℕ) (db : Database) (n vlr : ℕ) → list_any (has_phone n) db.subscribers ≡ true → outcome_of limit db (UpdateLocation n vlr) ≡ changes (record db { subscribers = update_where (has_phone n) (λ r. record r { vlr = vlr }) db.subscribers })
update_location-there limit db n vlr there = rw there refl

pub update_location-none : (limit : ℕ) (db : Database) (n vlr : ℕ) → list_any (has_phone n) db.subscribers ≡ false → outcome_of limit db (UpdateLocation n vlr) ≡ answers db Missing
update_location-none limit db n vlr none = rw none refl

-- UPDATE_LOCATION keeps the subscribers numbered, and as many
pub IsNumbered-update_location : (limit : ℕ) (db : Database) (n vlr : ℕ) → IsNumbered db.subscribers → IsNumbered (after_request limit db (UpdateLocation n vlr)).subscribers
IsNumbered-update_location limit db n vlr numbered =
    ⊎_elim (λ e. subst (λ (o : Outcome). IsNumbered o.after.subscribers) (sym (update_location-there limit db n vlr e)) (IsNumbered-update_where (has_phone n) (λ r. record r { vlr = vlr }) db.subscribers (λ r. refl) (λ r. refl) numbered))
    (λ e. subst (λ (o : Outcome). IsNumbered o.after.subscribers) (sym (update_location-none limit db n vlr e)) numbered) (cases_Bool (list_any (has_phone n) db.subscribers))

pub length-update_location : (limit : ℕ) (db : Database) (n vlr : ℕ) → length (after_request limit db (UpdateLocation n vlr)).subscribers ≡ length db.subscribers
length-update_location limit db n vlr =
    ⊎_elim (λ e. ap (λ (o : Outcome). length o.after.subscribers) (update_location-there limit db n vlr e) ∙ length-map db.subscribers (λ r. cond (has_phone n r) (record r { vlr = vlr }) r))
    (λ e. ap (λ (o : Outcome). length o.after.subscribers) (update_location-none limit db n vlr e)) (cases_Bool (list_any (has_phone n) db.subscribers))
