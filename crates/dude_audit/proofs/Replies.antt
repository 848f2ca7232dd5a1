-- Which replies a request may have, and that the text `OK` is that of `Changed` alone among those of a request that may write.
use Rattle.std.proofs.Common.{◌≡◌, ℕ, Bool, true, false, not, cond, IsTrue, List, length, Option, Some, None, refl, ap, sym, ◌∙◌, arith, ⊎_elim}
use Rattle.std.specs.Prelude.{codes, find, ◌↔◌}
use Rattle.std.specs.Option.{option_map_or}
use Rattle.std.proofs.lemmas.Bool.{both_ways, cases_Bool, not-true}
use Rattle.tatp_model.specs.declared.request.Request.{Request}
use Rattle.tatp_model.specs.declared.request.Request.TheVariants.{GetSubscriber, GetDestination, GetAccess, UpdateSubscriber, UpdateLocation, InsertCall, DeleteCall, Sync}
use Rattle.tatp_model.specs.declared.reply.Reply.{Reply}
use Rattle.tatp_model.specs.declared.reply.Reply.TheVariants.{Subscriber, Destinations, Access, Changed, Missing, NoFacility, Duplicate, FullTable, Durable}
use Rattle.tatp_model.specs.Database.{Database}
use Rattle.tatp_model.specs.declared.sub_row.SubRow.{SubRow}
use Rattle.tatp_model.specs.declared.access_row.AccessRow.{AccessRow}
use Rattle.tatp_model.specs.declared.call_row.CallRow.{CallRow}
use Rattle.tatp_model.specs.declared.numbers.Numbers.{Numbers}
use Rattle.tatp_model.specs.Transaction.{Outcome, answers, changes, outcome_of, insert_call, reply_to, is_subscriber, is_access}
use Rattle.tatp_model.specs.OneThread.{is_changed, is_sync}
use Rattle.tatp_text.specs.Reply.{reply_text}
use Rattle.dude_audit.specs.Claim.{may_write}

-- a reply without fields, and not that of a `SYNC`
abbrev pub is_plain : Reply → Bool
is_plain Changed = true
is_plain Missing = true
is_plain NoFacility = true
is_plain Duplicate = true
is_plain FullTable = true
is_plain _ = false

-- the reply may be that of a request that may write, or may not
abbrev pub fits : Bool → Reply → Bool
fits true r = is_plain r
fits false r = not (is_changed r)

pub record FitsReply (b : Bool) (r : Reply) : Type 0 where
  pub is : fits b r ≡ true

pub record Fits (b : Bool) (o : Outcome) : Type 0 where
  pub its : FitsReply b o.reply

fits_answers : (b : Bool) (db : Database) (r : Reply) → FitsReply b r → Fits b (answers db r)
fits_answers b db r e = record { its = e }

fits_changes : (db : Database) → Fits true (changes db)
fits_changes db = record { its = record { is = refl } }

fits_cond : (b t : Bool) (x y : Outcome) → Fits b x → Fits b y → Fits b (cond t x y)
fits_cond b true x y hx hy = hx
fits_cond b false x y hx hy = hy

fits_map_or : (b : Bool) (f : SubRow → Outcome) (o : Option SubRow) (y : Outcome) → ((r : SubRow) → Fits b (f r)) → Fits b y → Fits b (option_map_or f o y)
fits_map_or b f None y hf hy = hy
fits_map_or b f (Some r) y hf hy = hf r

reply_cond : (b t : Bool) (x y : Reply) → FitsReply b x → FitsReply b y → FitsReply b (cond t x y)
reply_cond b true x y hx hy = hx
reply_cond b false x y hx hy = hy

reply_row : (o : Option SubRow) → FitsReply false (option_map_or Subscriber o Missing)
reply_row None = record { is = refl }
reply_row (Some r) = record { is = refl }

reply_access : (o : Option AccessRow) → FitsReply false (option_map_or (λ r. Access r.info) o Missing)
reply_access None = record { is = refl }
reply_access (Some r) = record { is = refl }

reply_phones : (n : Numbers) → FitsReply false (Destinations n)
reply_phones n = record { is = refl }

missing : (b : Bool) → FitsReply b Missing
missing true = record { is = refl }
missing false = record { is = refl }

no_facility : FitsReply true NoFacility
no_facility = record { is = refl }

duplicate : FitsReply true Duplicate
duplicate = record { is = refl }

full : FitsReply true FullTable
full = record { is = refl }

fits_insert : (limit : ℕ) (db : Database) (row : CallRow) → Fits true (insert_call limit db row)
fits_insert limit db row = search (fits_answers, fits_changes, fits_cond, no_facility, duplicate, full)

pub fits_request : (limit : ℕ) (db : Database) (q : Request) → Fits (may_write q) (outcome_of limit db q)
fits_request limit db (GetSubscriber s) = record { its = reply_row (find (is_subscriber s) db.subscribers) }
fits_request limit db (GetDestination s f t u) = search (fits_answers, reply_cond, reply_phones, missing)
fits_request limit db (GetAccess s a) = record { its = reply_access (find (is_access s a) db.access) }
fits_request limit db (UpdateSubscriber s b f d) = search (fits_answers, fits_changes, fits_cond, missing)
fits_request limit db (UpdateLocation n v) = search (fits_answers, fits_changes, fits_cond, missing)
fits_request limit db (InsertCall n f t u x) = search (fits_answers, fits_map_or, fits_insert, missing)
fits_request limit db (DeleteCall n f t) = search (fits_answers, fits_changes, fits_cond, fits_map_or, missing)
fits_request limit db Sync = record { its = record { is = refl } }

-- of plain replies `Changed` alone prints as `OK`
plain_ok : (r : Reply) → is_plain r ≡ true → reply_text r ≡ codes "OK" → is_changed r ≡ true
plain_ok (Subscriber row) plain ok = absurd (both_ways false refl plain)
plain_ok (Destinations phones) plain ok = absurd (both_ways false refl plain)
plain_ok (Access info) plain ok = absurd (both_ways false refl plain)
plain_ok Changed plain ok = refl
plain_ok Missing plain ok = let e : length (reply_text Missing) ≡ length (codes "OK") = ap length ok in absurd (omega (arith, e))
plain_ok NoFacility plain ok = let e : length (reply_text NoFacility) ≡ length (codes "OK") = ap length ok in absurd (omega (arith, e))
plain_ok Duplicate plain ok = let e : length (reply_text Duplicate) ≡ length (codes "OK") = ap length ok in absurd (omega (arith, e))
plain_ok FullTable plain ok = let e : length (reply_text FullTable) ≡ length (codes "OK") = ap length ok in absurd (omega (arith, e))
plain_ok Durable plain ok = absurd (both_ways false refl plain)

changed_text : (r : Reply) → is_changed r ≡ true → reply_text r ≡ codes "OK"
changed_text (Subscriber row) is = absurd (both_ways false refl is)
changed_text (Destinations phones) is = absurd (both_ways false refl is)
changed_text (Access info) is = absurd (both_ways false refl is)
changed_text Changed is = refl
changed_text Missing is = absurd (both_ways false refl is)
changed_text NoFacility is = absurd (both_ways false refl is)
changed_text Duplicate is = absurd (both_ways false refl is)
changed_text FullTable is = absurd (both_ways false refl is)
changed_text Durable is = absurd (both_ways false refl is)

-- where a line's text is that of one thread's reply, it says that the request wrote exactly where the reply is `Changed`
pub wrote_is : (limit : ℕ) (db : Database) (q : Request) (r : Reply) (text : List ℕ) (wrote : Bool) → r ≡ reply_to limit db q → text ≡ reply_text r
    → ((wrote ≡ true) ↔ (IsTrue (may_write q) × (text ≡ codes "OK"))) → wrote ≡ is_changed r
wrote_is limit db q r text wrote is same says =
    let fit : fits (may_write q) r ≡ true = ap (fits (may_write q)) is ∙ (fits_request limit db q).its.is in
    ⊎_elim
    (λ may. let plain : is_plain r ≡ true = rw may at fit in
    ⊎_elim (λ yes. says.1 (may, same ∙ changed_text r yes) ∙ sym yes)
    (λ no. ⊎_elim (λ w. absurd (both_ways (is_changed r) no (plain_ok r plain (sym same ∙ (says.0 w).1)))) (λ u. u ∙ sym no) (cases_Bool wrote)) (cases_Bool (is_changed r)))
    (λ not_may. let no : is_changed r ≡ false = not-true (is_changed r) (rw not_may at fit) in
    ⊎_elim (λ w. absurd (both_ways (may_write q) not_may (says.0 w).0)) (λ u. u ∙ sym no) (cases_Bool wrote))
    (cases_Bool (may_write q))

-- what may write is no `SYNC`
pub may_no_sync : (q : Request) → may_write q ≡ true → is_sync q ≡ false
may_no_sync (GetSubscriber s) may = refl
may_no_sync (GetDestination s f t u) may = refl
may_no_sync (GetAccess s a) may = refl
may_no_sync (UpdateSubscriber s b f d) may = refl
may_no_sync (UpdateLocation n v) may = refl
may_no_sync (InsertCall n f t u x) may = refl
may_no_sync (DeleteCall n f t) may = refl
may_no_sync Sync may = sym may
