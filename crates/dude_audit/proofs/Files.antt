-- What the lines of files have of the files: their order, and their requests.
use Rattle.std.proofs.Common.{◌≡◌, ℕ, ◌+◌, ◌≤◌, true, false, List, [], ◌∷◌, length, map, sym, ◌∙◌, subst, arith, inl, inr, ⊎_elim}
use Rattle.std.specs.List.{All, AllPairs, enumerate_from}
use Rattle.std.proofs.lemmas.List.{length-map, get_or-map}
use Rattle.std.proofs.lemmas.List.Elements.{All-nil, All-cons, All-head, All-tail, All-append, All-weaker}
use Rattle.tatp_model.specs.declared.request.Request.{Request}
use Rattle.tatp_model.specs.declared.reply.Reply.TheVariants.{Durable}
use Rattle.tatp_model.specs.Request.{IsInRange}
use Rattle.tatp_model.specs.OneThread.{IndexedRequest, indexed_requests_from, PrecedesInFiles}
use Rattle.run_order.proofs.Pairs.{pairs_unmapped, pairs_weaker}
use Rattle.run_order.proofs.FileOrder.{in_files_from_holding}
use Rattle.dude_audit.specs.declared.claim.Claim.{Claim}
use Rattle.dude_audit.specs.Order.{done_of, AreApart, AreOfRun}
use Rattle.dude_audit.specs.Claim.{claimed_request_of, claims_sync, IsWithin}
use Rattle.dude_audit.proofs.Passing.{requests_same}
use Rattle.dude_audit.proofs.Replies.{may_no_sync}
use Rattle.dude_audit.specs.Reading.{IsReadLine, AreLines, IsReading}
use Rattle.dude_audit.specs.declared.reading.Reading.{Reading}
use Rattle.dude_audit.specs.declared.reading.Reading.TheVariants.{Lines, Misformed}
use Rattle.std.specs.Global.{Vec}
use Rattle.std.specs.Prelude.{Result, Ok, Err, IfOk}
use Rattle.tatp_model.specs.Database.{Database}
use Rattle.dude_audit.specs.declared.verdict.Verdict.{Verdict}
use Rattle.dude_audit.specs.declared.verdict.Verdict.TheVariants.{Yes, No}
use Rattle.dude_audit.specs.Verdict.{HasVerdict}
use Rattle.dude_audit.specs.Blanks.{AreBlanks}
use Rattle.dude_audit.specs.PrintedRun.{IsVerdict}

pub all_unmapped : {X Y : Type 0} (P : Y → Type 0) (f : X → Y) (xs : List X) → All P (map f xs) → All (λ x. P (f x)) xs
all_unmapped P f xs all = λ k d within. subst P (get_or-map f xs k d (f d) within) (all k (f d) (rw (length-map xs f) within))

numbered : (file n : ℕ) (requests : List Request) → All IsInRange requests → All (λ (r : IndexedRequest). IsInRange r.request) (map (λ (r : ℕ × Request). record { file = file; index = r.0; request = r.1 }) (enumerate_from n requests))
numbered file n [] all = All-nil (λ (r : IndexedRequest). IsInRange r.request)
numbered file n (q ∷ requests) all =
    All-cons (λ (r : IndexedRequest). IsInRange r.request) (record { file = file; index = n; request = q }) (map (λ (r : ℕ × Request). record { file = file; index = r.0; request = r.1 }) (enumerate_from (n + 1) requests))
    (All-head IsInRange q requests all) (numbered file (n + 1) requests (All-tail IsInRange q requests all))

pub all_indexed : (file : ℕ) (files : List (List Request)) → All (All IsInRange) files → All (λ (r : IndexedRequest). IsInRange r.request) (indexed_requests_from file files)
all_indexed file [] all = All-nil (λ (r : IndexedRequest). IsInRange r.request)
all_indexed file (f ∷ files) all =
    All-append (λ (r : IndexedRequest). IsInRange r.request) (map (λ (r : ℕ × Request). record { file = file; index = r.0; request = r.1 }) (enumerate_from 0 f)) (indexed_requests_from (file + 1) files)
    (numbered file 0 f (All-head (All IsInRange) f files all)) (all_indexed (file + 1) files (All-tail (All IsInRange) f files all))

requests_in_range : (files : List (List Request)) (claims : List Claim) → map claimed_request_of claims ≡ indexed_requests_from 0 files → All (All IsInRange) files → All (λ c. IsInRange c.request) claims
requests_in_range files claims same all =
    all_unmapped (λ (r : IndexedRequest). IsInRange r.request) claimed_request_of claims (subst (λ (l : List IndexedRequest). All (λ (r : IndexedRequest). IsInRange r.request) l) (sym same) (all_indexed 0 files all))

module _ (files : List (List Request)) (claims : List Claim) (same : map claimed_request_of claims ≡ indexed_requests_from 0 files) where
  in_files : AllPairs (λ c d. PrecedesInFiles (done_of c Durable) (done_of d Durable)) claims
  in_files = pairs_unmapped PrecedesInFiles (λ c. done_of c Durable) claims (in_files_from_holding files (map (λ c. done_of c Durable) claims) (requests_same (λ c. Durable) claims ∙ same))

  files_rise : AllPairs (λ c d. c.file ≤ d.file) claims
  files_rise = pairs_weaker (λ c d. PrecedesInFiles (done_of c Durable) (done_of d Durable)) (λ c d. c.file ≤ d.file) claims
      (λ c d before. ⊎_elim (λ less. omega (arith, less)) (λ less. omega (arith, less.0)) before) in_files

  lines_apart : AllPairs AreApart claims
  lines_apart = pairs_weaker (λ c d. PrecedesInFiles (done_of c Durable) (done_of d Durable)) AreApart claims
      (λ c d before file index. ⊎_elim (λ less. absurd (omega (arith, less, file))) (λ less. absurd (omega (arith, less.1, index))) before) in_files

lines_within : (printed : List ℕ) (claims : List Claim) → All (IsReadLine printed) claims → All (IsWithin (length printed)) claims
lines_within printed claims each = All-weaker (IsReadLine printed) (IsWithin (length printed)) (λ c r. r.within) claims each

writers_ask : (printed : List ℕ) (claims : List Claim) → All (IsReadLine printed) claims → All (λ c. c.wrote ≡ true → claims_sync c ≡ false) claims
writers_ask printed claims each = All-weaker (IsReadLine printed) (λ c. c.wrote ≡ true → claims_sync c ≡ false) (λ c r w. may_no_sync c.request (r.says.0 w).0) claims each

pub of_run : (files : List (List Request)) (printed : List ℕ) (claims : List Claim) → map claimed_request_of claims ≡ indexed_requests_from 0 files → All (IsReadLine printed) claims → All (All IsInRange) files → AreOfRun (length printed) claims
of_run files printed claims same each all = record {
  in_range = requests_in_range files claims same all;
  within = lines_within printed claims each;
  in_files = files_rise files claims same;
  apart = lines_apart files claims same;
  asks = writers_ask printed claims each;
}

-- a reading that was matched
pub lines_of : (blanks shown : List Claim) (printed : List ℕ) (r : Reading) (claims : Vec Claim) (items : List Claim) (last : ℕ) → shown ≡ blanks → IsReading shown printed r → r ≡ Lines claims last → items ≡ claims.items → AreLines blanks printed items last
lines_of blanks shown printed r claims items last a is b e =
    subst (λ (l : List Claim). AreLines l printed items last) a (subst (λ (l : List Claim). AreLines shown printed l last) (sym e) (subst (IsReading shown printed) b is))

pub verdict_read : (first limit : ℕ) (db : Database) (files : List (List Request)) (printed : List ℕ) (blanks claims : List Claim) (last : ℕ) (v : Verdict) → AreBlanks files blanks → AreLines blanks printed claims last → HasVerdict first limit db printed claims last v → IsVerdict first limit db files printed v
verdict_read first limit db files printed blanks claims last Yes are lines verdict = record { blanks = blanks; are = are; verdict = record { claims = claims; last = last; lines = lines; verdict = verdict } }
verdict_read first limit db files printed blanks claims last (No line) are lines verdict = record { blanks = blanks; are = are; verdict = inr (record { claims = claims; last = last; lines = lines; verdict = verdict }) }

pub verdict_misformed : (first limit : ℕ) (db : Database) (files : List (List Request)) (printed : List ℕ) (blanks shown : List Claim) (r : Reading) (line : ℕ) → AreBlanks files blanks → shown ≡ blanks → IsReading shown printed r → r ≡ Misformed line → IsVerdict first limit db files printed (No line)
verdict_misformed first limit db files printed blanks shown r line are a is b = record { blanks = blanks; are = are; verdict = inl (subst (λ (l : List Claim). IsReading l printed (Misformed line)) a (subst (IsReading shown printed) b is)) }

pub if_ok : {T E : Type 0} (P Q : T → Type 0) (r : Result T E) → ((x : T) → P x → Q x) → IfOk r P → IfOk r Q
if_ok P Q (Ok x) follows holds = follows x holds
if_ok P Q (Err e) follows holds = tt
