-- What holds of lines holds of them in their printed order.
use Rattle.std.proofs.Common.{List, not}
use Rattle.std.specs.List.{All, filter}
use Rattle.std.proofs.lemmas.List.Elements.{All-filter}
use Rattle.std.proofs.lemmas.List.Sorted.{All-permutation}
use Rattle.dude_audit.specs.declared.claim.Claim.{Claim}
use Rattle.dude_audit.specs.Claim.{claims_sync}
use Rattle.dude_audit.specs.Order.{IsClaimOrder}

pub all_order : (P : Claim → Type 0) (claims order : List Claim) → IsClaimOrder claims order → All P claims → All P order
all_order P claims order is all =
    All-permutation P (filter (λ c. not (claims_sync c)) claims) order is.same (All-filter (λ c. not (claims_sync c)) P claims all)
