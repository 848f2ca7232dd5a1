use Rattle.std.proofs.Common.{List, ℕ, subst, sym, ap, ◌≡◌, ◌∙◌, ◌<◌, ◌+◌, ◌++◌, length, get_or, take, map, [], arith, rules}
use Rattle.std.proofs.lemmas.List.{get_or_default}
use Rattle.tatp_model.specs.declared.request.Request.{Request}
use Rattle.tatp_model.specs.OneThread.{indexed_requests_from}
use Rattle.dude_audit.specs.declared.claim.Claim.{Claim}
use Rattle.dude_audit.specs.Claim.{claimed_request_of}
use Rattle.tatp_model.specs.Files.{requests_in}
use Rattle.dude_audit.proofs.Blank.{in_file, next_file, next_request, numbered_more}
use Rattle.dude_audit.proofs.blanks.blank_claims.Goals as goal

within-i : (c : goal.In_ok-push) → c.loop-i.i < length c.index-files-k.result.items
within-i c = search rules

counted : (c : goal.In_ok-push) → c.len.result ≡ length c.loop-i.blanks.items
counted c = search rules

pub loop-i-preserved : goal.loop-i-preserved
loop-i-preserved c =
    let items = c.in_ok-push.ensures.items in
    let same : length c.index-files-k.result.items ≡ length c.index-files-k-in-loop-i.result.items =
    ap (λ v. length v.items) (c.index-files-k.is ∙ get_or_default c.args.files.now c.loop-k.k _ _ c.loop-k-test.true ∙ sym c.index-files-k-in-loop-i.is) in
    record {
      requests = subst (λ (l : List Claim). map claimed_request_of l ≡ indexed_requests_from 0 (take c.loop-k.k (requests_in c.args.files.now)) ++ in_file c.loop-k.k (take (c.loop-i.i + 1) (get_or (requests_in c.args.files.now) c.loop-k.k []))) (sym items)
          (next_request c.args.files.now c.loop-k.k c.index-files-k-in-loop-i.result c.loop-k-test.true c.index-files-k-in-loop-i.is c.loop-i.blanks.items c.loop-i.i c.index.result.now c.blank.result
          (omega (arith, within-i c, same)) (c.blank.ensures.request ∙ ap (λ (r : Request). record { file = c.loop-k.k; index = c.loop-i.i; request = r }) c.index.ensures) c.loop-i.invariant.requests);
      numbered = subst (λ (l : List Claim). (j : ℕ) (d : Claim) → j < length l → (get_or l j d).line ≡ j + 1) (sym items)
          (numbered_more c.loop-i.blanks.items c.blank.result (c.blank.ensures.line ∙ ap (λ (n : ℕ). n + 1) (counted c)) c.loop-i.invariant.numbered);
    }

pub loop-k-preserved : goal.loop-k-preserved
loop-k-preserved c = record {
  requests = next_file c.args.files.now c.loop-k.k c.index-files-k.result c.loop-k-test.true c.index-files-k.is c.loop-i.blanks.items c.loop-i.i (search rules) c.loop-i.invariant.requests;
  numbered = c.loop-i.invariant.numbered;
}
