-- Printed bytes as lines, and as what was done: they agree line by line.
use Rattle.std.proofs.Common.{◌≡◌, ℕ, suc, ◌<◌, ◌≤◌, Bool, true, false, not, List, [], ◌∷◌, ◌++◌, length, get_or, map, take, drop, refl, ap, ap₂, sym, ◌∙◌, subst, arith, ⊎_elim, append_assoc, append-nil}
use Rattle.std.specs.Prelude.{codes, decimal, ◌↔◌}
use Rattle.std.specs.List.{All, AllZip, Contains, filter, flat_map}
use Rattle.std.proofs.lemmas.Bool.{both_ways, cases_Bool, not_from_false}
use Rattle.std.proofs.lemmas.Fmt.{decimal_injective}
use Rattle.std.proofs.lemmas.List.{take-append-drop, take-map, length-map, get_or-map}
use Rattle.std.proofs.Math.Seq.{drop-cons}
use Rattle.std.proofs.lemmas.List.Concat.{flat_map-append}
use Rattle.std.proofs.lemmas.List.Elements.{All-nil, All-cons, All-head, All-tail, All-take, All-weaker, All-contains, All-contains_itself, All-filter}
use Rattle.std.proofs.lemmas.List.Sorted.{All-permutation, Contains-permutation}
use Rattle.dude_base.specs.declared.limits.TheConstants.{MAX_NUMBER}
use Rattle.tatp_model.specs.declared.request.Request.{Request}
use Rattle.tatp_model.specs.declared.request.Request.TheVariants.{Sync}
use Rattle.tatp_model.specs.declared.reply.Reply.{Reply}
use Rattle.tatp_model.specs.declared.reply.Reply.TheVariants.{Durable}
use Rattle.tatp_model.specs.declared.done.Done.{Done}
use Rattle.tatp_model.specs.Request.{IsInRange}
use Rattle.tatp_model.specs.Database.{Database, IsInOrder}
use Rattle.tatp_model.specs.Transaction.{reply_to, after_request}
use Rattle.tatp_model.specs.OneThread.{is_sync, IndexedRequest, indexed_request_of, RepliesAlong}
use Rattle.tatp_model.proofs.InOrder.{KeepsOrder, KeepsOrder-after_request}
use Rattle.run_order.proofs.Elements.{contains_filter}
use Rattle.tatp_text.specs.Reply.{reply_text}
use Rattle.tatp_text.specs.Output.{output_line, last_line}
use Rattle.dude_audit.specs.declared.claim.Claim.{Claim}
use Rattle.dude_audit.specs.Claim.{text_of, claimed_request_of, claims_sync, SaysWrote}
use Rattle.dude_audit.proofs.OneThreadRuns.{AreClaims, IsLineOf, IsOneThreadRun}
use Rattle.dude_audit.specs.Bytes.{HasNo}
use Rattle.dude_audit.specs.Line.{line_bytes}
use Rattle.dude_audit.specs.Reading.{Fits, IsReadLine, claim_bytes, BeginsWithLines, MissesLine, MissesEnd, HasSurplus, AreLines}
use Rattle.dude_audit.proofs.Numerals.{one_split}
use Rattle.dude_audit.proofs.Lined.{line_unique, last_whole, last_split}
use Rattle.dude_audit.specs.Blanks.{AreBlanks}
use Rattle.dude_audit.specs.PrintedRun.{IsPrintedRun, RunsAsOneThread}
use Rattle.dude_audit.proofs.Files.{all_unmapped, all_indexed}
use Rattle.dude_audit.proofs.Necessary.{any_claim}
use Rattle.dude_audit.proofs.Shown.{Shown, shown_reply}

output_line_is : (d : Done) → output_line d ≡ line_bytes d.number (reply_text d.reply)
output_line_is d = simp append_assoc

-- from lines to what was done
pub same_bytes : (printed : List ℕ) (claims : List Claim) (done : List Done) → AllZip (IsLineOf printed) claims done → flat_map (claim_bytes printed) claims ≡ flat_map output_line done
same_bytes printed [] [] lines = refl
same_bytes printed [] (d ∷ done) lines = elim lines [ ]
same_bytes printed (c ∷ claims) [] lines = elim lines [ ]
same_bytes printed (c ∷ claims) (d ∷ done) lines =
    ap₂ (λ (x y : List ℕ). x ++ y) (ap₂ line_bytes lines.0.number lines.0.text ∙ sym (output_line_is d)) (same_bytes printed claims done lines.1)

-- what was done prints as a line
pub record Prints (d : Done) : Type 0 where
  pub small : d.number ≤ MAX_NUMBER
  pub whole : HasNo 10 (reply_text d.reply)
  pub syncs : (is_sync d.request ≡ true) ↔ (reply_text d.reply ≡ codes "DURABLE")

-- lines and what was done, at the front of the same bytes, agree, and so does what follows
pub align : (printed : List ℕ) (claims : List Claim) (front : List Done) (xs ys : List ℕ) → map claimed_request_of claims ≡ map indexed_request_of front → All (IsReadLine printed) claims → All Prints front
    → flat_map (claim_bytes printed) claims ++ xs ≡ flat_map output_line front ++ ys → AllZip (IsLineOf printed) claims front × (xs ≡ ys)
align printed [] [] xs ys same read prints is = (tt, is)
align printed [] (d ∷ front) xs ys same read prints is = let e = ap length same in absurd (omega (arith, e))
align printed (c ∷ claims) [] xs ys same read prints is = let e = ap length same in absurd (omega (arith, e))
align printed (c ∷ claims) (d ∷ front) xs ys same read prints is =
    let r : IsReadLine printed c = All-head (IsReadLine printed) c claims read in
    let p : Prints d = All-head Prints d front prints in
    let split : line_bytes c.number (text_of printed c) ++ (flat_map (claim_bytes printed) claims ++ xs) ≡ line_bytes d.number (reply_text d.reply) ++ (flat_map output_line front ++ ys) =
    sym (append_assoc (line_bytes c.number (text_of printed c)) (flat_map (claim_bytes printed) claims) xs) ∙ is
    ∙ append_assoc (output_line d) (flat_map output_line front) ys ∙ ap (λ (l : List ℕ). l ++ (flat_map output_line front ++ ys)) (output_line_is d) in
    let one = line_unique c.number d.number (text_of printed c) (reply_text d.reply) (flat_map (claim_bytes printed) claims ++ xs) (flat_map output_line front ++ ys) r.fits.small p.small r.fits.whole p.whole split in
    let first : claimed_request_of c ≡ indexed_request_of d = ap (λ (l : List IndexedRequest). get_or l 0 (claimed_request_of c)) same in
    let others : map claimed_request_of claims ≡ map indexed_request_of front = ap (drop 1) same in
    let rest = align printed claims front xs ys others (All-tail (IsReadLine printed) c claims read) (All-tail Prints d front prints) one.2 in
    ((record { request = first; number = one.0; text = one.1 }, rest.0), rest.1)

-- two last lines
pub last_same : (m n : ℕ) (xs ys : List ℕ) → m ≤ MAX_NUMBER → n ≤ MAX_NUMBER → last_line m ++ xs ≡ last_line n ++ ys → (m ≡ n) × (xs ≡ ys)
last_same m n xs ys ms ns is =
    let split = one_split 10 (codes "last " ++ decimal m) (codes "last " ++ decimal n) xs ys (last_whole m ms) (last_whole n ns) (sym (last_split m xs) ∙ is ∙ last_split n ys) in
    (decimal_injective m n (omega (arith, ms)) (omega (arith, ns)) (ap (drop 5) split.0), split.1)

-- ---- what one thread does prints as lines

pub record AnsweredInOrder (limit : ℕ) (d : Done) : Type 0 where
  pub base : Database
  pub order : IsInOrder base
  pub reply : d.reply ≡ reply_to limit base d.request

answered : (limit : ℕ) (db : Database) (order : List Done) → KeepsOrder limit db → All (λ d. IsInRange d.request) order → RepliesAlong limit db order → All (AnsweredInOrder limit) order
answered limit db [] kept ranges along = All-nil (AnsweredInOrder limit)
answered limit db (d ∷ order) kept ranges along =
    All-cons (AnsweredInOrder limit) d order (record { base = db; order = kept.order; reply = along.0 })
    (answered limit (after_request limit db d.request) order (KeepsOrder-after_request limit db d.request (All-head (λ (d : Done). IsInRange d.request) d order ranges) kept) (All-tail (λ (d : Done). IsInRange d.request) d order ranges) along.2)

durable_whole : HasNo 10 (codes "DURABLE")
durable_whole =
    let No : ℕ → Type 0 = λ b. b ≡ 10 → ⊥ in
    let over : (b : ℕ) → 10 < b → b ≡ 10 → ⊥ = λ b more same. absurd (omega (arith, more, same)) in
    All-cons No 68 (85 ∷ 82 ∷ 65 ∷ 66 ∷ 76 ∷ 69 ∷ []) (over 68 (omega arith)) (All-cons No 85 (82 ∷ 65 ∷ 66 ∷ 76 ∷ 69 ∷ []) (over 85 (omega arith)) (All-cons No 82 (65 ∷ 66 ∷ 76 ∷ 69 ∷ []) (over 82 (omega arith))
    (All-cons No 65 (66 ∷ 76 ∷ 69 ∷ []) (over 65 (omega arith)) (All-cons No 66 (76 ∷ 69 ∷ []) (over 66 (omega arith)) (All-cons No 76 (69 ∷ []) (over 76 (omega arith)) (All-cons No 69 [] (over 69 (omega arith)) (All-nil No)))))))

module _ (first limit : ℕ) (db : Database) (files : List (List Request)) (printed : List ℕ) (ranges : All (All IsInRange) files) (in_order : IsInOrder db) (room : length db.calls ≤ limit) (run : IsPrintedRun first limit db files printed) where
  abbrev done : List Done
  done = run.done

  abbrev asked : Done → Bool
  asked d = not (is_sync d.request)

  done_ranges : All (λ d. IsInRange d.request) done
  done_ranges = all_unmapped (λ (r : IndexedRequest). IsInRange r.request) indexed_request_of done (subst (λ (l : List IndexedRequest). All (λ (r : IndexedRequest). IsInRange r.request) l) (sym run.run.all) (all_indexed 0 files ranges))

  order_ranges : All (λ d. IsInRange d.request) run.run.replies.numbers.order
  order_ranges = All-permutation (λ (d : Done). IsInRange d.request) (filter asked done) run.run.replies.numbers.order run.run.replies.numbers.printed.same (All-filter asked (λ (d : Done). IsInRange d.request) done done_ranges)

  all_answered : All (AnsweredInOrder limit) run.run.replies.numbers.order
  all_answered = answered limit db run.run.replies.numbers.order (record { order = in_order; room = room }) order_ranges run.run.replies.one_thread

  prints_one : (d : Done) → Contains done d → Prints d
  prints_one d there =
      let small : d.number ≤ MAX_NUMBER = (let u = All-contains (λ d. d.number ≤ run.last) done d run.run.none_over there in let s = run.small in omega (arith, u, s)) in
      ⊎_elim
      (λ sync.
      let durable : d.reply ≡ Durable = (All-contains (λ d. (d.reply ≡ Durable) × (d.wrote ≡ false)) (filter (λ (d : Done). is_sync d.request) done) d run.run.replies.numbers.syncs (contains_filter (λ (d : Done). is_sync d.request) done d there sync)).0 in
      record {
        small = small;
        whole = subst (λ (r : Reply). HasNo 10 (reply_text r)) (sym durable) durable_whole;
        syncs = (λ is. ap reply_text durable, λ is. sync);
      })
      (λ ask.
      let a = All-contains (AnsweredInOrder limit) run.run.replies.numbers.order d all_answered (Contains-permutation (filter asked done) run.run.replies.numbers.order d run.run.replies.numbers.printed.same (contains_filter asked done d there (not_from_false (is_sync d.request) ask))) in
      let shown : Shown d.reply = subst Shown (sym a.reply) (shown_reply limit a.base d.request a.order ask) in
      record {
        small = small;
        whole = shown.whole;
        syncs = (λ sync. absurd (both_ways (is_sync d.request) ask sync), λ is. absurd (shown.asked is));
      })
      (cases_Bool (is_sync d.request))

  pub prints : All Prints done
  prints = All-weaker (Contains done) Prints prints_one done (All-contains_itself done)

-- the lines that were read are claims of the files
pub are_claims : (files : List (List Request)) (printed : List ℕ) (blanks claims : List Claim) (last : ℕ) → AreBlanks files blanks → AreLines blanks printed claims last → AreClaims files printed claims
are_claims files printed blanks claims last are lines = record {
  asked = lines.requests ∙ are.requests;
  wrote = All-weaker (IsReadLine printed) (SaysWrote printed) (λ c r. r.says) claims lines.each;
  syncs = All-weaker (IsReadLine printed) (λ c. (claims_sync c ≡ true) ↔ (text_of printed c ≡ codes "DURABLE")) (λ c r. r.fits.syncs) claims lines.each;
}

-- lines that pass are the output of a run
pub printed_from : (first limit : ℕ) (db : Database) (files : List (List Request)) (printed : List ℕ) (blanks claims : List Claim) (last : ℕ) → AreLines blanks printed claims last → IsOneThreadRun first limit db files printed claims last → IsPrintedRun first limit db files printed
printed_from first limit db files printed blanks claims last lines run = record {
  done = run.done;
  last = last;
  run = run.run;
  small = lines.small;
  printed_so = lines.is ∙ ap (λ (l : List ℕ). l ++ last_line last) (same_bytes printed claims run.done run.lines);
}

module _ (first limit : ℕ) (db : Database) (files : List (List Request)) (printed : List ℕ) (ranges : All (All IsInRange) files) (in_order : IsInOrder db) (room : length db.calls ≤ limit) (blanks : List Claim) (are : AreBlanks files blanks) (run : IsPrintedRun first limit db files printed) where
  all_print : All Prints run.done
  all_print = prints first limit db files printed ranges in_order room run

  -- the blanks' requests are those that were done
  same_requests : map claimed_request_of blanks ≡ map indexed_request_of run.done
  same_requests = are.requests ∙ sym run.run.all

  -- the output of a run is lines that are those of a one-thread run
  pub run_of_lines : (claims : List Claim) (last : ℕ) → AreLines blanks printed claims last → IsOneThreadRun first limit db files printed claims last
  run_of_lines claims last lines =
      let both = align printed claims run.done (last_line last) (last_line run.last) (lines.requests ∙ same_requests) lines.each all_print (sym lines.is ∙ run.printed_so) in
      let ends : last ≡ run.last = (last_same last run.last [] [] lines.small run.small (ap (λ (l : List ℕ). l ++ []) both.1)).0 in
      record {
        done = run.done;
        lines = both.0;
        run = subst (λ (n : ℕ). RunsAsOneThread first limit db files run.done n) (sym ends) run.run;
      }

  -- behind the first lines stand the others
  behind : (k at : ℕ) (claims : List Claim) → BeginsWithLines (take k blanks) printed claims at → drop at printed ≡ flat_map output_line (drop k run.done) ++ last_line run.last
  behind k at claims front =
      let some : map claimed_request_of claims ≡ map indexed_request_of (take k run.done) =
      front.requests ∙ sym (take-map claimed_request_of k blanks) ∙ ap (take k) same_requests ∙ take-map indexed_request_of k run.done in
      let split : flat_map output_line run.done ≡ flat_map output_line (take k run.done) ++ flat_map output_line (drop k run.done) =
      ap (flat_map output_line) (sym (take-append-drop k run.done)) ∙ flat_map-append output_line (take k run.done) (drop k run.done) in
      let bytes : flat_map (claim_bytes printed) claims ++ drop at printed ≡ flat_map output_line (take k run.done) ++ (flat_map output_line (drop k run.done) ++ last_line run.last) =
      sym front.is ∙ run.printed_so ∙ ap (λ (l : List ℕ). l ++ last_line run.last) split ∙ append_assoc (flat_map output_line (take k run.done)) (flat_map output_line (drop k run.done)) (last_line run.last) in
      (align printed claims (take k run.done) (drop at printed) (flat_map output_line (drop k run.done) ++ last_line run.last) some front.each (All-take Prints k run.done all_print) bytes).1

  -- no line is misformed
  pub no_miss : (line : ℕ) → MissesLine blanks printed line → ⊥
  no_miss line miss =
      let k : ℕ = miss.count in
      let here : k < length run.done = (let w = miss.some in let e = ap length same_requests in omega (arith, w, e, length-map blanks claimed_request_of, length-map run.done indexed_request_of)) in
      let d : Done = get_or run.done k any_done in
      let rest : List ℕ = flat_map output_line (drop (suc k) run.done) ++ last_line run.last in
      let is : drop miss.at printed ≡ line_bytes d.number (reply_text d.reply) ++ rest =
      behind k miss.at miss.claims miss.front
      ∙ ap (λ (l : List Done). flat_map output_line l ++ last_line run.last) (drop-cons run.done k any_done here)
      ∙ append_assoc (output_line d) (flat_map output_line (drop (suc k) run.done)) (last_line run.last)
      ∙ ap (λ (l : List ℕ). l ++ rest) (output_line_is d) in
      let p : Prints d = all_print k any_done here in
      let request : (get_or blanks k any_claim).request ≡ d.request =
      ap (λ (r : IndexedRequest). r.request) (sym (get_or-map claimed_request_of blanks k any_claim (claimed_request_of any_claim) miss.some)
      ∙ ap (λ (l : List IndexedRequest). get_or l k (claimed_request_of any_claim)) same_requests
      ∙ get_or-map indexed_request_of run.done k any_done (claimed_request_of any_claim) here) in
      let fits : Fits d.request d.number (reply_text d.reply) = record { small = p.small; whole = p.whole; syncs = p.syncs } in
      miss.misses any_claim (d.number, reply_text d.reply, rest, subst (λ (q : Request). Fits q d.number (reply_text d.reply)) (sym request) fits, is)
    where
      any_done : Done
      any_done = record { file = 0; index = 0; number = 0; wrote = false; request = Sync; reply = Durable }

  ends_so : (at : ℕ) (claims : List Claim) → BeginsWithLines blanks printed claims at → drop at printed ≡ last_line run.last
  ends_so at claims front =
      (align printed claims run.done (drop at printed) (last_line run.last) (front.requests ∙ same_requests) front.each all_print (sym front.is ∙ run.printed_so)).1

  pub no_end_missed : (line : ℕ) → MissesEnd blanks printed line → ⊥
  no_end_missed line miss = miss.misses (run.last, [], run.small, ends_so miss.at miss.claims miss.front ∙ sym (append-nil (last_line run.last)))

  pub no_surplus : (line : ℕ) → HasSurplus blanks printed line → ⊥
  no_surplus line more =
      let both = align printed more.claims run.done (last_line more.last ++ more.more) (last_line run.last) (more.front.requests ∙ same_requests) more.front.each all_print (sym more.is ∙ run.printed_so) in
      more.some (last_same more.last run.last more.more [] more.small run.small (both.1 ∙ sym (append-nil (last_line run.last)))).1
