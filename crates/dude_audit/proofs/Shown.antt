-- What a reply of one thread prints: no LF, and `DURABLE` for a `SYNC` alone.
use Rattle.std.proofs.Common.{◌≡◌, ℕ, ◌-◌, ◌^◌, ◌<◌, Bool, true, false, cond, List, [], ◌∷◌, ◌++◌, length, get_or, map, take, replicate, Option, Some, None, refl, ap, sym, arith}
use Rattle.std.specs.Prelude.{codes, decimal, find}
use Rattle.std.specs.List.{All, filter, join_with_byte}
use Rattle.std.specs.Option.{option_map_or}
use Rattle.std.proofs.lemmas.Bool.{both_ways}
use Rattle.std.proofs.lemmas.List.Elements.{All-nil, All-cons, All-head, All-tail, All-append, All-map, All-take, All-filter, All-replicate, All-weaker}
use Rattle.tatp_model.specs.declared.request.Request.{Request}
use Rattle.tatp_model.specs.declared.request.Request.TheVariants.{GetSubscriber, GetDestination, GetAccess, UpdateSubscriber, UpdateLocation, InsertCall, DeleteCall, Sync}
use Rattle.tatp_model.specs.declared.reply.Reply.{Reply}
use Rattle.tatp_model.specs.declared.reply.Reply.TheVariants.{Subscriber, Destinations, Access, Changed, Missing, NoFacility, Duplicate, FullTable, Durable}
use Rattle.tatp_model.specs.declared.sub_row.SubRow.{SubRow}
use Rattle.tatp_model.specs.declared.access_row.AccessRow.{AccessRow}
use Rattle.tatp_model.specs.declared.call_row.CallRow.{CallRow}
use Rattle.tatp_model.specs.Ranges.{IsPhone, IsBit, IsByte, IsLetter}
use Rattle.tatp_model.specs.Numbers.{numbers_of, list_of}
use Rattle.tatp_model.specs.Database.{Database, IsInOrder, IsSubRow, IsAccessRow, IsCallRow}
use Rattle.tatp_model.specs.Transaction.{reply_to, is_subscriber, is_access, forwards}
use Rattle.tatp_model.specs.OneThread.{is_sync}
use Rattle.tatp_model.proofs.Rows.{All-find}
use Rattle.tatp_text.specs.Number.{phone_text}
use Rattle.tatp_text.proofs.NumbersReadBack.{list_all-decimal}
use Rattle.tatp_text.specs.Reply.{row_fields, access_fields, found_text, reply_text}
use Rattle.dude_audit.specs.Claim.{may_write}
use Rattle.dude_audit.proofs.Replies.{fits_request, is_plain, fits}
use Rattle.dude_audit.specs.Bytes.{HasNo}
use Rattle.dude_audit.proofs.Numerals.{not_a_digit}

pub record Shown (r : Reply) : Type 0 where
  pub whole : HasNo 10 (reply_text r)
  pub asked : reply_text r ≡ codes "DURABLE" → ⊥

abbrev No : ℕ → Type 0
No b = b ≡ 10 → ⊥

over : (b : ℕ) → 10 < b → No b
over b more same = absurd (omega (arith, more, same))

decimal_whole : (n : ℕ) → n < 2 ^ 64 → HasNo 10 (decimal n)
decimal_whole n fits = not_a_digit 10 (decimal n) refl (list_all-decimal n fits)

phone_whole : (n : ℕ) → IsPhone n → HasNo 10 (phone_text n)
phone_whole n is = All-append No (replicate (15 - length (decimal n)) 48) (decimal n) (All-replicate No (15 - length (decimal n)) 48 (over 48 (omega arith))) (decimal_whole n (omega (arith, is)))

joined : (fields : List (List ℕ)) → All (HasNo 10) fields → HasNo 10 (join_with_byte 44 fields)
joined [] all = All-nil No
joined (f ∷ []) all = All-head (HasNo 10) f [] all
joined (f ∷ g ∷ fields) all =
    All-append No f (44 ∷ join_with_byte 44 (g ∷ fields)) (All-head (HasNo 10) f (g ∷ fields) all)
    (All-cons No 44 (join_with_byte 44 (g ∷ fields)) (over 44 (omega arith)) (joined (g ∷ fields) (All-tail (HasNo 10) f (g ∷ fields) all)))

found : (fields : List (List ℕ)) → All (HasNo 10) fields → HasNo 10 (found_text fields)
found fields all =
    All-append No (codes "OK ") (join_with_byte 44 fields)
    (All-cons No 79 (75 ∷ 32 ∷ []) (over 79 (omega arith)) (All-cons No 75 (32 ∷ []) (over 75 (omega arith)) (All-cons No 32 [] (over 32 (omega arith)) (All-nil No)))) (joined fields all)

not_durable : (fields : List (List ℕ)) → found_text fields ≡ codes "DURABLE" → ⊥
not_durable fields is = let e : 79 ≡ 68 = ap (λ (l : List ℕ). get_or l 0 0) is in absurd (omega (arith, e))

small_decimals : (ns : List ℕ) → All (λ n. n < 2 ^ 64) ns → All (HasNo 10) (map decimal ns)
small_decimals ns all = All-map (HasNo 10) decimal ns (All-weaker (λ n. n < 2 ^ 64) (λ n. HasNo 10 (decimal n)) decimal_whole ns all)

row_whole : (row : SubRow) → IsSubRow row → All (HasNo 10) (row_fields row)
row_whole row is =
    let rest : List ℕ = row.bits ++ row.hexes ++ row.bytes ++ row.msc ∷ row.vlr ∷ [] in
    let ends : All (λ n. n < 2 ^ 64) (row.msc ∷ row.vlr ∷ []) =
    All-cons (λ n. n < 2 ^ 64) row.msc (row.vlr ∷ []) (let m = is.msc in omega (arith, m)) (All-cons (λ n. n < 2 ^ 64) row.vlr [] (let v = is.vlr in omega (arith, v)) (All-nil (λ n. n < 2 ^ 64))) in
    let all : All (λ n. n < 2 ^ 64) rest =
    All-append (λ n. n < 2 ^ 64) (row.bits ++ row.hexes ++ row.bytes) (row.msc ∷ row.vlr ∷ [])
    (All-append (λ n. n < 2 ^ 64) (row.bits ++ row.hexes) row.bytes
    (All-append (λ n. n < 2 ^ 64) row.bits row.hexes (All-weaker IsBit (λ n. n < 2 ^ 64) (λ n b. omega (arith, b)) row.bits is.bits) (All-weaker (λ h. h < 16) (λ n. n < 2 ^ 64) (λ n b. omega (arith, b)) row.hexes is.hexes))
    (All-weaker IsByte (λ n. n < 2 ^ 64) (λ n b. omega (arith, b)) row.bytes is.bytes)) ends in
    All-cons (HasNo 10) (decimal row.s_id) (phone_text row.sub_nbr ∷ map decimal rest) (decimal_whole row.s_id (let s = is.s_id in omega (arith, s.1)))
    (All-cons (HasNo 10) (phone_text row.sub_nbr) (map decimal rest) (phone_whole row.sub_nbr is.sub_nbr) (small_decimals rest all))

letters_whole : (ls : List ℕ) → All IsLetter ls → HasNo 10 ls
letters_whole ls all = All-weaker IsLetter No (λ b l. over b (omega (arith, l.0))) ls all

access_whole : (r : AccessRow) → IsAccessRow r → All (HasNo 10) (access_fields r.info)
access_whole r is =
    All-cons (HasNo 10) (decimal r.info.data1) (decimal r.info.data2 ∷ r.info.data3 ∷ r.info.data4 ∷ []) (decimal_whole r.info.data1 (let d = is.data1 in omega (arith, d)))
    (All-cons (HasNo 10) (decimal r.info.data2) (r.info.data3 ∷ r.info.data4 ∷ []) (decimal_whole r.info.data2 (let d = is.data2 in omega (arith, d)))
    (All-cons (HasNo 10) r.info.data3 (r.info.data4 ∷ []) (letters_whole r.info.data3 is.data3)
    (All-cons (HasNo 10) r.info.data4 [] (letters_whole r.info.data4 is.data4) (All-nil (HasNo 10)))))

-- the replies by their kinds
shown_plain : (r : Reply) → is_plain r ≡ true → Shown r
shown_plain (Subscriber row) plain = absurd (both_ways false refl plain)
shown_plain (Destinations phones) plain = absurd (both_ways false refl plain)
shown_plain (Access info) plain = absurd (both_ways false refl plain)
shown_plain Durable plain = absurd (both_ways false refl plain)
shown_plain Changed plain = record {
  whole = All-cons No 79 (75 ∷ []) (over 79 (omega arith)) (All-cons No 75 [] (over 75 (omega arith)) (All-nil No));
  asked = λ is. let e : 79 ≡ 68 = ap (λ (l : List ℕ). get_or l 0 0) is in absurd (omega (arith, e));
}
shown_plain Missing plain = record {
  whole = All-cons No 78 (79 ∷ 78 ∷ 69 ∷ []) (over 78 (omega arith)) (All-cons No 79 (78 ∷ 69 ∷ []) (over 79 (omega arith)) (All-cons No 78 (69 ∷ []) (over 78 (omega arith)) (All-cons No 69 [] (over 69 (omega arith)) (All-nil No))));
  asked = λ is. let e : 78 ≡ 68 = ap (λ (l : List ℕ). get_or l 0 0) is in absurd (omega (arith, e));
}
shown_plain NoFacility plain = record {
  whole = All-cons No 78 (79 ∷ 70 ∷ 65 ∷ 67 ∷ []) (over 78 (omega arith)) (All-cons No 79 (70 ∷ 65 ∷ 67 ∷ []) (over 79 (omega arith)) (All-cons No 70 (65 ∷ 67 ∷ []) (over 70 (omega arith)) (All-cons No 65 (67 ∷ []) (over 65 (omega arith)) (All-cons No 67 [] (over 67 (omega arith)) (All-nil No)))));
  asked = λ is. let e : 78 ≡ 68 = ap (λ (l : List ℕ). get_or l 0 0) is in absurd (omega (arith, e));
}
shown_plain Duplicate plain = record {
  whole = All-cons No 68 (85 ∷ 80 ∷ []) (over 68 (omega arith)) (All-cons No 85 (80 ∷ []) (over 85 (omega arith)) (All-cons No 80 [] (over 80 (omega arith)) (All-nil No)));
  asked = λ is. let e : 3 ≡ 7 = ap (λ (l : List ℕ). length l) is in absurd (omega (arith, e));
}
shown_plain FullTable plain = record {
  whole = All-cons No 70 (85 ∷ 76 ∷ 76 ∷ []) (over 70 (omega arith)) (All-cons No 85 (76 ∷ 76 ∷ []) (over 85 (omega arith)) (All-cons No 76 (76 ∷ []) (over 76 (omega arith)) (All-cons No 76 [] (over 76 (omega arith)) (All-nil No))));
  asked = λ is. let e : 70 ≡ 68 = ap (λ (l : List ℕ). get_or l 0 0) is in absurd (omega (arith, e));
}

shown_row : (rows : List SubRow) (p : SubRow → Bool) (o : Option SubRow) → All IsSubRow rows → o ≡ find p rows → Shown (option_map_or Subscriber o Missing)
shown_row rows p None all is = shown_plain Missing refl
shown_row rows p (Some row) all is = record { whole = found (row_fields row) (row_whole row (All-find IsSubRow p rows row all (sym is))); asked = not_durable (row_fields row) }

shown_access : (rows : List AccessRow) (p : AccessRow → Bool) (o : Option AccessRow) → All IsAccessRow rows → o ≡ find p rows → Shown (option_map_or (λ r. Access r.info) o Missing)
shown_access rows p None all is = shown_plain Missing refl
shown_access rows p (Some r) all is = record { whole = found (access_fields r.info) (access_whole r (All-find IsAccessRow p rows r all (sym is))); asked = not_durable (access_fields r.info) }

phones_small : (xs : List ℕ) → All IsPhone xs → All IsPhone (list_of (numbers_of xs))
phones_small xs all =
    All-take IsPhone (length xs) (take 3 (xs ++ 0 ∷ 0 ∷ 0 ∷ [])) (All-take IsPhone 3 (xs ++ 0 ∷ 0 ∷ 0 ∷ [])
    (All-append IsPhone xs (0 ∷ 0 ∷ 0 ∷ []) all (All-cons IsPhone 0 (0 ∷ 0 ∷ []) (omega arith) (All-cons IsPhone 0 (0 ∷ []) (omega arith) (All-cons IsPhone 0 [] (omega arith) (All-nil IsPhone))))))

shown_phones : (xs : List ℕ) → All IsPhone xs → Shown (Destinations (numbers_of xs))
shown_phones xs all = record {
  whole = found (map phone_text (list_of (numbers_of xs))) (All-map (HasNo 10) phone_text (list_of (numbers_of xs)) (All-weaker IsPhone (λ n. HasNo 10 (phone_text n)) phone_whole (list_of (numbers_of xs)) (phones_small xs all)));
  asked = not_durable (map phone_text (list_of (numbers_of xs)));
}

shown_cond : (b : Bool) (x y : Reply) → Shown x → Shown y → Shown (cond b x y)
shown_cond true x y hx hy = hx
shown_cond false x y hx hy = hy

writes_shown : (limit : ℕ) (db : Database) (q : Request) → may_write q ≡ true → Shown (reply_to limit db q)
writes_shown limit db q may =
    shown_plain (reply_to limit db q) (rw may at (fits_request limit db q).its.is)

pub shown_reply : (limit : ℕ) (db : Database) (q : Request) → IsInOrder db → is_sync q ≡ false → Shown (reply_to limit db q)
shown_reply limit db (GetSubscriber s) order ask = shown_row db.subscribers (is_subscriber s) (find (is_subscriber s) db.subscribers) order.subscribers_in_range refl
shown_reply limit db (GetDestination s f t u) order ask =
    shown_cond _ (Destinations (numbers_of (map (λ (r : CallRow). r.numberx) (filter (forwards s f t u) db.calls)))) Missing
    (shown_phones (map (λ (r : CallRow). r.numberx) (filter (forwards s f t u) db.calls))
    (All-map IsPhone (λ (r : CallRow). r.numberx) (filter (forwards s f t u) db.calls) (All-weaker IsCallRow (λ (r : CallRow). IsPhone r.numberx) (λ r is. is.numberx) (filter (forwards s f t u) db.calls) (All-filter (forwards s f t u) IsCallRow db.calls order.calls_in_range))))
    (shown_plain Missing refl)
shown_reply limit db (GetAccess s a) order ask = shown_access db.access (is_access s a) (find (is_access s a) db.access) order.access_in_range refl
shown_reply limit db (UpdateSubscriber s b f d) order ask = writes_shown limit db (UpdateSubscriber s b f d) refl
shown_reply limit db (UpdateLocation n v) order ask = writes_shown limit db (UpdateLocation n v) refl
shown_reply limit db (InsertCall n f t u x) order ask = writes_shown limit db (InsertCall n f t u x) refl
shown_reply limit db (DeleteCall n f t) order ask = writes_shown limit db (DeleteCall n f t) refl
shown_reply limit db Sync order ask = absurd (both_ways true ask refl)
