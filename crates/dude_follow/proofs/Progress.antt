-- A packet and the kept ones that follow it are applied, one after another.
use Rattle.std.proofs.Common.{◌≡◌, ◌≢◌, ◌⊎◌, inl, inr, ℕ, ◌+◌, ◌-◌, ◌<◌, ◌≤◌, true, false, List, [], ◌∷◌, ◌++◌, All, length, get_or, zero, suc, refl, sym, ap, ◌∙◌, subst, arith}
use Rattle.std.specs.List.{Contains}
use Rattle.std.proofs.lemmas.Bool.{cases_eq}
use Rattle.std.proofs.lemmas.List.Elements.{All-cons, All-contains, All-nil, All-push, All-append}
use Rattle.dude_base.specs.declared.limits.TheConstants.{MAX_NUMBER}
use Rattle.dude_base.specs.declared.sizes.Sizes.{Sizes}
use Rattle.dude_base.specs.Records.{RedoBundle, first_of}
use Rattle.pmem_trait.specs.Sights.{Sight}
use Rattle.redo_record.specs.Recovery.{AreConsecutive}
use Rattle.back_store.specs.Back.{BackState}
use Rattle.dude_follow.specs.Applying.{Applies, GoesOn, RecoversThrough}
use Rattle.dude_follow.specs.Chain.{AppliesChain}
use Rattle.dude_follow.specs.Packets.{IsPacket}
use Rattle.dude_follow.proofs.Chains.{applies_then, goes_then, through_more, through_then}
use Rattle.dude_follow.proofs.Leading.{consecutive_append, contains_first, contains_later}

-- ---- how far kept packets lead

-- Kept packets lead on from a number, as far as there is one.
pub record LeadsOn (kept : List RedoBundle) (from : ℕ) : Type 0 where
  pub more : List RedoBundle
  pub from_kept : All (Contains kept) more
  pub end : ℕ
  pub lead : AreConsecutive from more end
  pub none_next : All (λ c. first_of c ≢ end + 1) kept

-- One of them begins behind the number.
pub record HasNext (kept : List RedoBundle) (number : ℕ) : Type 0 where
  pub one : RedoBundle
  pub is_kept : Contains kept one
  pub first : first_of one ≡ number + 1

next_or_none : (number : ℕ) (kept : List RedoBundle) → HasNext kept number ⊎ All (λ c. first_of c ≢ number + 1) kept
next_or_none number [] = inr (All-nil (λ (c : RedoBundle). first_of c ≢ number + 1))
next_or_none number (c ∷ cs) = by (cases_eq (first_of c) (number + 1)) (next_or_none number cs)
  where
    by : (first_of c ≡ number + 1) ⊎ (first_of c ≢ number + 1) → HasNext cs number ⊎ All (λ c. first_of c ≢ number + 1) cs → HasNext (c ∷ cs) number ⊎ All (λ c. first_of c ≢ number + 1) (c ∷ cs)
    by (inl first) later = inl (record { one = c; is_kept = contains_first c cs; first = first })
    by (inr not_first) (inl one) = inl (record { one = one.one; is_kept = contains_later c cs one.one one.is_kept; first = one.first })
    by (inr not_first) (inr none) = inr (All-cons (λ (c : RedoBundle). first_of c ≢ number + 1) c cs not_first none)

module _ (sizes : Sizes) (kept : List RedoBundle) (packets : All (IsPacket sizes) kept) where
  high : (c : RedoBundle) → Contains kept c → c.last ≤ MAX_NUMBER
  high c is = (All-contains (IsPacket sizes) kept c packets is).numbers.high

  leads_on_within : (n from : ℕ) → MAX_NUMBER ≤ from + n → LeadsOn kept from
  leads_on_within zero from near = by (next_or_none from kept)
    where
      by : HasNext kept from ⊎ All (λ c. first_of c ≢ from + 1) kept → LeadsOn kept from
      by (inl next) = absurd (let most = high next.one next.is_kept in let first = next.first in omega arith)
      by (inr none) = record { more = []; from_kept = All-nil (Contains kept); end = from; lead = refl; none_next = none }
  leads_on_within (suc n) from near = by (λ to le. leads_on_within n to le) (next_or_none from kept)
    where
      by : ((to : ℕ) → MAX_NUMBER ≤ to + n → LeadsOn kept to) → HasNext kept from ⊎ All (λ c. first_of c ≢ from + 1) kept → LeadsOn kept from
      by further (inl next) =
          let rest = further next.one.last (let first = next.first in omega arith) in
          record {
            more = next.one ∷ rest.more;
            from_kept = All-cons (Contains kept) next.one rest.more next.is_kept rest.from_kept;
            end = rest.end;
            lead = (next.first, rest.lead);
            none_next = rest.none_next;
          }
      by further (inr none) = record { more = []; from_kept = All-nil (Contains kept); end = from; lead = refl; none_next = none }

  pub leads_on : (from : ℕ) → LeadsOn kept from
  leads_on from = leads_on_within MAX_NUMBER from (omega arith)

-- the kept packet at an index, as it was found and read
pub next_at : (kept : List RedoBundle) (k n m : ℕ) (c : RedoBundle) → k < length kept → ((d : RedoBundle) → first_of (get_or kept k d) ≡ n + 1) → n ≡ m → c ≡ get_or kept k c → Contains kept c × (first_of c ≡ m + 1)
next_at kept k n m c within first same read =
    ((k, within, sym read), subst (λ (x : RedoBundle). first_of x ≡ n + 1) (sym read) (first c) ∙ ap (λ (x : ℕ). x + 1) same)

-- the number comes nearer to the last one
pub nearer : (from to : ℕ) (b : RedoBundle) → AreConsecutive from (b ∷ []) to → b.last ≤ MAX_NUMBER → MAX_NUMBER - to < MAX_NUMBER - from
nearer from to b lead most = let first = lead.0 in let last = lead.1 in omega arith

-- ---- what was applied so far

-- The packet and kept ones that follow it were applied.
pub record Progress (kept : List RedoBundle) (b : RedoBundle) (v : BackState) (s : Sight) (w : BackState) (t : Sight) : Type 0 where
  pub more : List RedoBundle
  pub from_kept : All (Contains kept) more
  pub goes : GoesOn true v s w t
  pub applies : Applies (b ∷ more) v s w t
  pub through : RecoversThrough (b ∷ more) v s t

pub begins : (kept : List RedoBundle) (b : RedoBundle) (v w : BackState) (s t : Sight) → GoesOn true v s w t → Applies (b ∷ []) v s w t → RecoversThrough (b ∷ []) v s t → Progress kept b v s w t
begins kept b v w s t goes applies through = record { more = []; from_kept = All-nil (Contains kept); goes = goes; applies = applies; through = through }

-- one more
pub goes_further : (kept : List RedoBundle) (b c : RedoBundle) (v w x : BackState) (s t u : Sight) → Progress kept b v s w t → Contains kept c → GoesOn true w t x u → Applies (c ∷ []) w t x u → RecoversThrough (c ∷ []) w t u
    → Progress kept b v s x u
goes_further kept b c v w x s t u p is goes applies through = record {
  more = p.more ++ c ∷ [];
  from_kept = All-push (Contains kept) p.more c p.from_kept is;
  goes = goes_then v w x s t u p.goes goes;
  applies = applies_then (b ∷ p.more) (c ∷ []) v w x s t u p.goes.later p.applies applies;
  through = through_then v w s t u (b ∷ p.more) (c ∷ []) p.goes.sizes p.applies.lead p.applies.overwrites p.through through;
}

-- none is left
pub chain_done : (kept : List RedoBundle) (b : RedoBundle) (v w : BackState) (s t : Sight) → Progress kept b v s w t → All (λ c. first_of c ≢ w.log.reproduced + 1) kept → AppliesChain kept b true v s w t
chain_done kept b v w s t p none = record {
  more = p.more;
  from_kept = p.from_kept;
  end = w.log.reproduced;
  lead = p.applies.lead;
  none_next = none;
  number = λ ok. refl;
  whole = λ ok. p.applies;
  part = λ no. absurd (cc);
  moments = p.through;
}

module _ (sizes : Sizes) (kept : List RedoBundle) (packets : All (IsPacket sizes) kept) (b : RedoBundle) where
  -- the first call failed
  pub chain_failed : (v w : BackState) (s t : Sight) → first_of b ≡ v.log.reproduced + 1 → w.log.reproduced ≡ v.log.reproduced → RecoversThrough (b ∷ []) v s t → AppliesChain kept b false v s w t
  chain_failed v w s t first same through =
      let rest = leads_on sizes kept packets b.last in
      record {
        more = rest.more;
        from_kept = rest.from_kept;
        end = rest.end;
        lead = (first, rest.lead);
        none_next = rest.none_next;
        number = λ no. absurd (cc);
        whole = λ no. absurd (cc);
        part = λ no. record { front = []; next = b; rest = rest.more; split = refl; lead = sym same };
        moments = through_more v s t (b ∷ []) rest.more through;
      }

  -- a later one failed
  pub chain_stopped : (c : RedoBundle) (v w x : BackState) (s t u : Sight) → Progress kept b v s w t → Contains kept c → first_of c ≡ w.log.reproduced + 1 → x.log.reproduced ≡ w.log.reproduced → RecoversThrough (c ∷ []) w t u
      → AppliesChain kept b false v s x u
  chain_stopped c v w x s t u p is first same through =
      let rest = leads_on sizes kept packets c.last in
      record {
        more = p.more ++ c ∷ rest.more;
        from_kept = All-append (Contains kept) p.more (c ∷ rest.more) p.from_kept (All-cons (Contains kept) c rest.more is rest.from_kept);
        end = rest.end;
        lead = consecutive_append v.log.reproduced w.log.reproduced rest.end (b ∷ p.more) (c ∷ rest.more) p.applies.lead (first, rest.lead);
        none_next = rest.none_next;
        number = λ no. absurd (cc);
        whole = λ no. absurd (cc);
        part = λ no. record { front = b ∷ p.more; next = c; rest = rest.more; split = refl; lead = subst (λ (n : ℕ). AreConsecutive v.log.reproduced (b ∷ p.more) n) (sym same) p.applies.lead };
        moments = through_then v w s t u (b ∷ p.more) (c ∷ rest.more) p.goes.sizes p.applies.lead p.applies.overwrites p.through (through_more w t u (c ∷ []) rest.more through);
      }
