-- Lines that say what was done in a run that one thread gives.
use Rattle.std.specs.Prelude.{ℕ, ◌≡◌, ◌↔◌, true, List, map, All, codes}
use Rattle.std.specs.List.{AllZip}
use Rattle.tatp_model.specs.declared.request.Request.{Request}
use Rattle.tatp_model.specs.declared.done.Done.{Done}
use Rattle.tatp_model.specs.Database.{Database}
use Rattle.tatp_model.specs.OneThread.{indexed_request_of, indexed_requests_from}
use Rattle.tatp_text.specs.Reply.{reply_text}
use Rattle.dude_audit.specs.declared.claim.Claim.{Claim}
use Rattle.dude_audit.specs.PrintedRun.{RunsAsOneThread}
use Rattle.dude_audit.specs.Claim.{text_of, claimed_request_of, claims_sync, SaysWrote}

-- These are the lines of the requests of the files, one for each in order of file and index. A line says `DURABLE` exactly
-- where its request is a `SYNC`.
pub record AreClaims (files : List (List Request)) (printed : List ℕ) (claims : List Claim) : Type 0 where
  pub asked : map claimed_request_of claims ≡ indexed_requests_from 0 files
  pub wrote : All (SaysWrote printed) claims
  pub syncs : All (λ c. (claims_sync c ≡ true) ↔ (text_of printed c ≡ codes "DURABLE")) claims

-- the line says what was done
pub record IsLineOf (printed : List ℕ) (c : Claim) (d : Done) : Type 0 where
  pub request : claimed_request_of c ≡ indexed_request_of d
  pub number : c.number ≡ d.number
  pub text : text_of printed c ≡ reply_text d.reply

-- The lines say what was done in a run of all requests of the files, whose replies are those of one thread that starts with
-- these tables behind number `first`, and whose last number is this one.
pub record IsOneThreadRun (first limit : ℕ) (db : Database) (files : List (List Request)) (printed : List ℕ) (claims : List Claim) (last : ℕ) : Type 0 where
  pub done : List Done
  pub lines : AllZip (IsLineOf printed) claims done
  pub run : RunsAsOneThread first limit db files done last
