use Rattle.std.proofs.Common.{not, subst, sym, List}
use Rattle.std.specs.List.{AllPairs}
use Rattle.std.specs.Prelude.{IsPermutation}
use Rattle.std.proofs.lemmas.List.Kept.{AllPairs-filter}
use Rattle.dude_audit.specs.declared.claim.Claim.{Claim}
use Rattle.dude_audit.specs.Claim.{claims_sync}
use Rattle.dude_audit.specs.Order.{AreApart}
use Rattle.dude_audit.proofs.claims.order_of.Goals as goal

pub returns : goal.returns
returns c =
    let is = c.in_ok-order.ensures in
    record {
      same = subst (λ (l : List Claim). IsPermutation l c.put_in_printed_order.new.claims.items) is c.put_in_printed_order.ensures.same;
      sorted = c.put_in_printed_order.ensures.sorted (subst (λ (l : List Claim). AllPairs AreApart l) (sym is) (AllPairs-filter AreApart (λ (x : Claim). not (claims_sync x)) c.args.claims.now c.requires));
    }
