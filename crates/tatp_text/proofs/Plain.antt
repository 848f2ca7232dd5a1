-- Records that need no quotes.
use Rattle.std.proofs.Common.{ℕ, suc, ◌≡◌, ◌^◌, ◌<◌, Bool, true, false, List, [], ◌∷◌, ◌++◌, append-nil, refl, ap, arith}
use Rattle.std.specs.Prelude.{◌||◌, ◌&&◌, All, decimal, map, Result, Ok, Err, OnOk, is_ok}
use Rattle.std.specs.Char.{is_ascii_digit}
use Rattle.std.specs.List.{join_with_byte, list_all, list_any}
use Rattle.std.proofs.lemmas.Bool.Decides.{nat_tests}
use Rattle.std.proofs.lemmas.Grind.{common_steps}
use Rattle.std.proofs.lemmas.List.Elements.{All-append, All-cons, All-nil}
use Rattle.std.proofs.lemmas.List.Folds.{list_any_none}
use Rattle.csv.specs.Writing.{default_writer, field_text, fields_text, is_blank, needs_byte, row_text, with_flexible}
use Rattle.csv.specs.declared.writer.WriterBuilder.{WriterBuilder}
use Rattle.tatp_model.specs.Ranges.{IsLetter, IsStartTime}
use Rattle.tatp_model.specs.Database.{IsSubRow, IsAccessRow, IsFacRow, IsCallRow}
use Rattle.tatp_model.specs.declared.sub_row.SubRow.{SubRow}
use Rattle.tatp_model.specs.declared.access_row.AccessRow.{AccessRow}
use Rattle.tatp_model.specs.declared.fac_row.FacRow.{FacRow}
use Rattle.tatp_model.specs.declared.call_row.CallRow.{CallRow}
use Rattle.tatp_text.specs.Number.{phone_text}
use Rattle.tatp_text.specs.RecordText.{record_text}
use Rattle.tatp_text.proofs.NumbersReadBack.{list_all-decimal, list_all-phone_text}
use Rattle.tatp_text.specs.Dump.{subscriber_record, access_record, facility_record, call_record, last_record}
use Rattle.tatp_text.specs.Writing.{IsPlain, needs_quotes}

or-left : (a b : Bool) → (a || b) ≡ false → a ≡ false
or-left false b e = refl
or-left true b e = cc e

or-right : (a b : Bool) → (a || b) ≡ false → b ≡ false
or-right false b e = e
or-right true b e = cc e

and-left : (a b : Bool) → (a && b) ≡ true → a ≡ true
and-left true b e = refl
and-left false b e = cc e

and-right : (a b : Bool) → (a && b) ≡ true → b ≡ true
and-right true b e = e
and-right false b e = cc e

-- the default writer, of records of one length or of any
abbrev pub setup_of : Bool → WriterBuilder
setup_of flexible = with_flexible default_writer flexible

-- fields with commas between
joined : (flexible : Bool) (x : List ℕ) (rest : List (List ℕ)) → needs_quotes x ≡ false → list_any needs_quotes rest ≡ false
    → field_text (setup_of flexible) x ++ fields_text (setup_of flexible) rest ≡ join_with_byte 44 (x ∷ rest)
unfolding fields_text
joined flexible x [] e h = rw e (append-nil x)
joined flexible x (y ∷ ys) e h =
    rw e (ap (λ (l : List ℕ). x ++ (44 ∷ l)) (joined flexible y ys (or-left _ _ h) (or-right _ _ h)))

-- what `csv` writes of a plain record
pub row_text-plain : (flexible : Bool) (fields : List (List ℕ)) → IsPlain fields → row_text (setup_of flexible) fields ≡ record_text fields
unfolding is_blank
row_text-plain flexible [] h = absurd (omega arith)
row_text-plain flexible (x ∷ []) h = absurd (omega arith)
row_text-plain flexible (x ∷ y ∷ rest) h =
    ap (λ (l : List ℕ). l ++ (10 ∷ [])) (joined flexible x (y ∷ rest) (or-left _ _ h.1) (or-right _ _ h.1))

-- digits and letters call for no quotes
digit-plain : (d : ℕ) → is_ascii_digit d ≡ true → needs_byte (setup_of true) d ≡ false
digit-plain d h = grind (arith, common_steps, nat_tests)

letter-plain : (b : ℕ) → IsLetter b → needs_byte (setup_of true) b ≡ false
letter-plain b h = grind (arith, common_steps, nat_tests)

digits-plain : (ds : List ℕ) → list_all is_ascii_digit ds ≡ true → needs_quotes ds ≡ false
digits-plain [] h = refl
digits-plain (d ∷ ds) h = rw (digit-plain d (and-left _ _ h)) (digits-plain ds (and-right _ _ h))

pub letters-plain : (bs : List ℕ) → All IsLetter bs → needs_quotes bs ≡ false
letters-plain bs all = list_any_none (needs_byte (setup_of true)) bs (λ k d h. letter-plain _ (all k d h))

pub decimal-plain : (n : ℕ) → n < 2 ^ 64 → needs_quotes (decimal n) ≡ false
decimal-plain n h = digits-plain (decimal n) (list_all-decimal n h)

pub phone-plain : (n : ℕ) → n < 2 ^ 64 → needs_quotes (phone_text n) ≡ false
phone-plain n h = digits-plain (phone_text n) (list_all-phone_text n h)

numbers-plain : (ns : List ℕ) → All (λ n. n < 2 ^ 64) ns → list_any needs_quotes (map decimal ns) ≡ false
numbers-plain [] all = refl
numbers-plain (n ∷ ns) all = rw (decimal-plain n (all 0 n (omega arith)), numbers-plain ns (λ k d h. all (suc k) d (omega arith))) refl

-- the records of rows
abbrev Fits : ℕ → Type 0
Fits n = n < 2 ^ 64

row_numbers : (row : SubRow) → IsSubRow row → All Fits (row.bits ++ row.hexes ++ row.bytes ++ row.msc ∷ row.vlr ∷ [])
row_numbers row is =
    All-append Fits (row.bits ++ row.hexes ++ row.bytes) (row.msc ∷ row.vlr ∷ [])
    (All-append Fits (row.bits ++ row.hexes) row.bytes
    (All-append Fits row.bits row.hexes (λ k d h. let small = is.bits k d h in omega arith) (λ k d h. let small = is.hexes k d h in omega arith))
    (λ k d h. let small = is.bytes k d h in omega arith))
    (All-cons Fits row.msc (row.vlr ∷ []) (let small = is.msc in omega arith) (All-cons Fits row.vlr [] (let small = is.vlr in omega arith) (All-nil Fits)))

pub subscriber-plain : (row : SubRow) → IsSubRow row → IsPlain (subscriber_record row)
subscriber-plain row is =
    let id = decimal-plain row.s_id (let small = is.s_id in omega arith) in
    let phone = phone-plain row.sub_nbr (let small = is.sub_nbr in omega arith) in
    (omega arith, rw (id, phone, numbers-plain _ (row_numbers row is)) refl)

pub access-plain : (row : AccessRow) → IsAccessRow row → IsPlain (access_record row)
access-plain row is =
    let id = decimal-plain row.s_id (let small = is.s_id in omega arith) in
    let kind = decimal-plain row.ai_type (let small = is.ai_type in omega arith) in
    let data1 = decimal-plain row.info.data1 (let small = is.data1 in omega arith) in
    let data2 = decimal-plain row.info.data2 (let small = is.data2 in omega arith) in
    (omega arith, rw (id, kind, data1, data2, letters-plain row.info.data3 is.data3, letters-plain row.info.data4 is.data4) refl)

pub facility-plain : (row : FacRow) → IsFacRow row → IsPlain (facility_record row)
facility-plain row is =
    let id = decimal-plain row.s_id (let small = is.s_id in omega arith) in
    let kind = decimal-plain row.sf_type (let small = is.sf_type in omega arith) in
    let active = decimal-plain row.is_active (let small = is.is_active in omega arith) in
    let control = decimal-plain row.error_cntrl (let small = is.error_cntrl in omega arith) in
    let data_a = decimal-plain row.data_a (let small = is.data_a in omega arith) in
    (omega arith, rw (id, kind, active, control, data_a, letters-plain row.data_b is.data_b) refl)

start-fits : (n : ℕ) → IsStartTime n → n < 2 ^ 64
start-fits n is = grind arith

pub call-plain : (row : CallRow) → IsCallRow row → IsPlain (call_record row)
call-plain row is =
    let id = decimal-plain row.s_id (let small = is.s_id in omega arith) in
    let kind = decimal-plain row.sf_type (let small = is.sf_type in omega arith) in
    let start = decimal-plain row.start_time (start-fits row.start_time is.start_time) in
    let end = decimal-plain row.end_time (let small = is.end_time in omega arith) in
    let phone = phone-plain row.numberx (let small = is.numberx in omega arith) in
    (omega arith, rw (id, kind, start, end, phone) refl)

pub last-plain : (last : ℕ) → last < 2 ^ 64 → IsPlain (last_record last)
last-plain last fits = (omega arith, rw (decimal-plain last fits) refl)

-- a record that was made, where there was memory
pub plain-where : {E : Type 0} (r : Result (Unit {0}) E) (made fields : List (List ℕ)) → OnOk r (made ≡ fields) → IsPlain fields → OnOk r (IsPlain made)
plain-where (Ok x) made fields same is = rw same is
plain-where (Err x) made fields same is = tt

-- what holds of an `Ok`
pub ok-of : {E : Type 0} (r : Result (Unit {0}) E) (P : Type 0) → is_ok r ≡ true → OnOk r P → P
ok-of (Ok x) P e h = h
ok-of (Err x) P e h = cc e
