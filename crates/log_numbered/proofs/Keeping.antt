-- The bundles that are kept are all that the log persisted, from call to call.
use Rattle.std.proofs.Common.{◌≡◌, ℕ, zero, suc, ◌+◌, ◌≤◌, Bool, true, false, IsTrue, if◌then◌else◌, List, [], ◌∷◌, ◌++◌, take, length, length-append, Option, Some, None, Result, Ok, Err, is_ok, refl, sym, ap, ◌∙◌, subst, inl, inr, arith}
use Rattle.std.specs.Prelude.{IfOk}
use Rattle.std.proofs.lemmas.Bool.{cases_lt}
use Rattle.std.proofs.lemmas.List.{take-append-le, take_all}
use Rattle.std.proofs.lemmas.List.Elements.{All-push}
use Rattle.dude_base.specs.declared.limits.TheConstants.{MAX_NUMBER}
use Rattle.dude_base.specs.declared.sizes.Sizes.{Sizes}
use Rattle.dude_base.specs.declared.write.Write.{Write}
use Rattle.dude_base.specs.Records.{RedoBundle, RedoRecord, bundle_of, first_of, with_next}
use Rattle.dude_base.specs.Writes.{IsWriteList, overwritten}
use Rattle.pmem_trait.specs.declared.failed.Failed.{Failed}
use Rattle.pmem_trait.specs.declared.medium.Medium.{Ghosts}
use Rattle.pmem_trait.specs.Words.{IsImage}
use Rattle.pmem_trait.specs.Sights.{Sight, state_now}
use Rattle.redo_record.specs.Recovery.{AreConsecutive, overwritten_by_all}
use Rattle.redo_record.proofs.Reproducing.{overwritten-append}
use Rattle.redo_record.proofs.WaitingRecords.{consecutive_push, consecutive_up}
use Rattle.log_numbered.specs.declared.bundle_log.BundleLog.{BundleLog}
use Rattle.log_numbered.specs.declared.kept_bundles.KeptBundles.{KeptBundles}
use Rattle.log_numbered.specs.declared.open_bundle.OpenBundle.{OpenBundle}
use Rattle.log_numbered.specs.declared.run_log.RunLog.{RunLog}
use Rattle.log_numbered.specs.Arrays.{LeadsToLast, RecoversIn, RunArrays, array_at, last_number, with_writes}
use Rattle.log_numbered.specs.Backs.{Any, LeadsUpTo, LogGoesOn, RecoversAlong}
use Rattle.log_numbered.specs.BundleLog.{KeptGoesOn, KeptRecovers, kept_back, kept_sight}
use Rattle.log_numbered.specs.KeptBundles.{IsPacket, LeadThrough, are_kept, bundles_with, kept_bundles}
use Rattle.log_numbered.specs.Keeping.{ClosesRun, EndsFrom, KeepsAll, KeepsOn}
use Rattle.log_numbered.specs.RunLog.{Closes, FollowsOn, IsAlive, OpenLeads, RecoversOn, RunGoesOn, RunRecovers, log_back, log_end, log_last, log_open, log_sight, log_sizes}
use Rattle.log_numbered.proofs.Appending.{begun_leads, joined_leads}
use Rattle.log_numbered.proofs.ArraysOfRuns.{array_stays, one_more}
use Rattle.log_numbered.proofs.Closing.{closed_alive, opened, recovers_behind}
use Rattle.log_numbered.proofs.GoingOn.{goes_then, if_ok_same, visible_after}

-- ---- consecutive bundles

-- the first ones of them lead no further
pub front_upto : (from to number k : ℕ) (bs : List RedoBundle) → AreConsecutive from bs to → AreConsecutive from (take k bs) number → number ≤ to
front_upto from to number zero bs all front = let up = consecutive_up from to bs all in omega arith
front_upto from to number (suc k) [] all front = omega arith
front_upto from to number (suc k) (b ∷ bs) all front = front_upto b.last to number k bs all.1 front.1

-- they lead to one number
pub one_end : (from to number : ℕ) (bs : List RedoBundle) → AreConsecutive from bs to → AreConsecutive from bs number → number ≡ to
one_end from to number [] one other = sym other ∙ one
one_end from to number (b ∷ bs) one other = one_end b.last to number bs one.1 other.1

-- ---- what they lead through

-- none lead through nothing
pub through_none : (s : Sizes) (a : RunArrays) (end : ℕ) → a.first ≡ end → array_at a a.first ≡ a.opening → end ≤ last_number a → LeadThrough s a end []
through_none s a end first opening upto = record {
  lead = first;
  upto = upto;
  arrays = λ k number front. none k number front;
  packets = λ k d below. absurd (omega arith);
}
  where
    none : (k number : ℕ) → AreConsecutive a.first (take k []) number → overwritten_by_all (take k []) a.opening ≡ array_at a number
    none zero number front = sym opening ∙ ap (array_at a) front
    none (suc k) number front = sym opening ∙ ap (array_at a) front

-- with one array more
pub through_more : (s : Sizes) (a : RunArrays) (end : ℕ) (bundles : List RedoBundle) (ws : List Write) → LeadThrough s a end bundles → LeadThrough s (with_writes ws a) end bundles
through_more s a end bundles ws is = record {
  lead = is.lead;
  upto = (let upto = is.upto in let more = one_more ws a in omega arith);
  arrays = λ k number front.
      let low = front_upto a.first end number k bundles is.lead front in
      let upto = is.upto in
      is.arrays k number front ∙ sym (array_stays ws a number (omega arith));
  packets = is.packets;
}

-- with one bundle more
module _ (s : Sizes) (a : RunArrays) (end : ℕ) (bundles : List RedoBundle) (b : RedoBundle) (is : LeadThrough s a end bundles) (next : first_of b ≡ end + 1) (to : LeadsToLast a end b) where
  all_lead : AreConsecutive a.first (bundles ++ b ∷ []) b.last
  all_lead = consecutive_push a.first end bundles b is.lead next

  -- the new one leads to the last array
  last_array : overwritten_by_all (bundles ++ b ∷ []) a.opening ≡ array_at a b.last
  last_array =
      let whole : take (length bundles) bundles ≡ bundles = take_all (length bundles) bundles (omega arith) in
      let before : overwritten_by_all bundles a.opening ≡ array_at a end =
      subst (λ (bs : List RedoBundle). overwritten_by_all bs a.opening ≡ array_at a end) whole (is.arrays (length bundles) end (subst (λ (bs : List RedoBundle). AreConsecutive a.first bs end) (sym whole) is.lead)) in
      overwritten-append bundles (b ∷ []) a.opening ∙ ap (overwritten b.writes) before ∙ to.array ∙ ap (array_at a) (sym to.last)

  front_array : (k number : ℕ) → AreConsecutive a.first (take k (bundles ++ b ∷ [])) number → overwritten_by_all (take k (bundles ++ b ∷ [])) a.opening ≡ array_at a number
  front_array k number front = elim (cases_lt (length bundles) k) [
    | inl over ↦
        let whole : take k (bundles ++ b ∷ []) ≡ bundles ++ b ∷ [] = take_all k (bundles ++ b ∷ []) (omega (arith, length-append bundles (b ∷ []))) in
        let same : number ≡ b.last = one_end a.first b.last number (bundles ++ b ∷ []) all_lead (subst (λ (bs : List RedoBundle). AreConsecutive a.first bs number) whole front) in
        ap (λ (bs : List RedoBundle). overwritten_by_all bs a.opening) whole ∙ last_array ∙ ap (array_at a) (sym same)
    | inr within ↦
        let old : take k (bundles ++ b ∷ []) ≡ take k bundles = take-append-le k bundles (b ∷ []) within in
        ap (λ (bs : List RedoBundle). overwritten_by_all bs a.opening) old ∙ is.arrays k number (subst (λ (bs : List RedoBundle). AreConsecutive a.first bs number) old front)
  ]

  pub through_push : IsPacket s b → LeadThrough s a b.last (bundles ++ b ∷ [])
  through_push packet = record {
    lead = all_lead;
    upto = (let last = to.last in omega arith);
    arrays = front_array;
    packets = All-push (IsPacket s) bundles b is.packets packet;
  }

-- ---- the calls of a log

-- the bundles with one more, where they are kept
pub bundles_kept : (k : KeptBundles) (b : RedoBundle) → IsTrue (are_kept k) → bundles_with b k ≡ kept_bundles k ++ b ∷ []
bundles_kept k b kept = ap (λ (c : Bool). if c then kept_bundles k ++ b ∷ [] else kept_bundles k) kept

module _ {M : Type 0} {ghosts : Ghosts M} where
  -- an open bundle may stand in a log of these sizes
  open_packet : (k : RunLog M ghosts) (o : OpenBundle) → IsAlive k → log_open k ≡ Some o → IsPacket (log_sizes k) o.bundle
  open_packet k o alive is =
      let at = opened k o alive is in
      record {
        numbers = record { low = (let first = at.first in omega arith); high = subst (λ (n : ℕ). n ≤ MAX_NUMBER) (sym at.last_is) alive.small };
        home = at.home;
        room = at.short;
      }

  -- the open bundle was persisted, and kept
  pub keeps_closed : (k l : RunLog M ghosts) (o : OpenBundle) (a : RunArrays) (bundles new : List RedoBundle) → IsAlive k → log_open k ≡ Some o → log_sizes l ≡ log_sizes k → log_last l ≡ log_last k → log_end l ≡ o.bundle.last
      → log_open l ≡ None → new ≡ bundles ++ o.bundle ∷ [] → KeepsAll a bundles k → KeepsAll a new l
  keeps_closed k l o a bundles new alive is sizes last end none_open list keeps =
      let to : LeadsToLast a (log_end k) o.bundle = subst (λ (x : Option OpenBundle). OpenLeads a (log_end k) x) is keeps.leads_on in
      let push = through_push (log_sizes k) a (log_end k) bundles o.bundle keeps.through (opened k o alive is).first to (open_packet k o alive is) in
      record {
        last = last ∙ keeps.last;
        through =
            subst (λ (z : Sizes). LeadThrough z a (log_end l) new) (sym sizes)
            (subst (λ (n : ℕ). LeadThrough (log_sizes k) a n new) (sym end)
            (subst (λ (bs : List RedoBundle). LeadThrough (log_sizes k) a o.bundle.last bs) (sym list) push));
        leads_on = subst (λ (x : Option OpenBundle). OpenLeads a (log_end l) x) (sym none_open) (end ∙ to.last);
      }

  -- nothing was persisted
  pub keeps_still : (k l : RunLog M ghosts) (a : RunArrays) (bundles new : List RedoBundle) → log_sizes l ≡ log_sizes k → log_end l ≡ log_end k → new ≡ bundles → LeadThrough (log_sizes k) a (log_end k) bundles → LeadThrough (log_sizes l) a (log_end l) new
  keeps_still k l a bundles new sizes end list through =
      subst (λ (z : Sizes). LeadThrough z a (log_end l) new) (sym sizes)
      (subst (λ (n : ℕ). LeadThrough (log_sizes k) a n new) (sym end)
      (subst (λ (bs : List RedoBundle). LeadThrough (log_sizes k) a (log_end k) bs) (sym list) through))

  -- and the log is as it was besides
  pub keeps_same : (k l : RunLog M ghosts) (a : RunArrays) (bundles new : List RedoBundle) → log_sizes l ≡ log_sizes k → log_end l ≡ log_end k → log_last l ≡ log_last k → log_open l ≡ log_open k → new ≡ bundles → KeepsAll a bundles k → KeepsAll a new l
  keeps_same k l a bundles new sizes end last current list keeps = record {
    last = last ∙ keeps.last;
    through = keeps_still k l a bundles new sizes end list keeps.through;
    leads_on = subst (λ (x : Option OpenBundle). OpenLeads a (log_end l) x) (sym current) (subst (λ (n : ℕ). OpenLeads a n (log_open k)) (sym end) keeps.leads_on);
  }

  -- a record joined the open bundle
  pub keeps_joined : (k l : RunLog M ghosts) (o : OpenBundle) (r : RedoRecord) (a : RunArrays) (bundles new : List RedoBundle) → IsWriteList r.writes → l.log ≡ k.log → log_open k ≡ Some o → log_open l ≡ Some (record o { bundle = with_next o.bundle r })
      → log_last l ≡ log_last k + 1 → new ≡ bundles → KeepsAll a bundles k → KeepsAll (with_writes r.writes a) new l
  keeps_joined k l o r a bundles new writes log_is was now last list keeps =
      let end : log_end l ≡ log_end k = ap (λ x. x.end) log_is in
      let to : LeadsToLast a (log_end k) o.bundle = subst (λ (x : Option OpenBundle). OpenLeads a (log_end k) x) was keeps.leads_on in
      record {
        last = (let old = keeps.last in let more = one_more r.writes a in omega arith);
        through = keeps_still k l (with_writes r.writes a) bundles new (ap (λ x. log_sizes (record k { log = x })) log_is) end list (through_more (log_sizes k) a (log_end k) bundles r.writes keeps.through);
        leads_on = subst (λ (x : Option OpenBundle). OpenLeads (with_writes r.writes a) (log_end l) x) (sym now)
            (subst (λ (n : ℕ). LeadsToLast (with_writes r.writes a) n (with_next o.bundle r)) (sym end) (joined_leads a (log_end k) o.bundle r writes keeps.through.upto to));
      }

  -- a record began a bundle: m is closed, and l has the new bundle besides
  pub keeps_begun : (m l : RunLog M ghosts) (ring : ℕ) (r : RedoRecord) (a : RunArrays) (bundles : List RedoBundle) → l.log ≡ m.log → log_open m ≡ None → log_open l ≡ Some (record { ring = ring; bundle = bundle_of r }) → r.number ≡ log_last m + 1
      → log_last l ≡ log_last m + 1 → KeepsAll a bundles m → KeepsAll (with_writes r.writes a) bundles l
  keeps_begun m l ring r a bundles log_is none_open now number last keeps =
      let end : log_end l ≡ log_end m = ap (λ x. x.end) log_is in
      let upto : log_end m ≡ last_number a = subst (λ (x : Option OpenBundle). OpenLeads a (log_end m) x) none_open keeps.leads_on in
      record {
        last = (let old = keeps.last in let more = one_more r.writes a in omega arith);
        through = keeps_still m l (with_writes r.writes a) bundles bundles (ap (λ x. log_sizes (record m { log = x })) log_is) end refl (through_more (log_sizes m) a (log_end m) bundles r.writes keeps.through);
        leads_on = subst (λ (x : Option OpenBundle). OpenLeads (with_writes r.writes a) (log_end l) x) (sym now)
            (subst (λ (n : ℕ). LeadsToLast (with_writes r.writes a) n (bundle_of r)) (sym end) (begun_leads a (log_end m) r upto (number ∙ ap (λ (n : ℕ). n + 1) keeps.last)));
      }

  -- where a call failed that adds an array
  pub keeps_failed : (ws : List Write) (k l : RunLog M ghosts) (old new : KeptBundles) → KeepsOn false (λ a. a) k old l new → KeepsOn false (with_writes ws) k old l new
  keeps_failed ws k l old new is = record {
    kept = is.kept;
    all = λ kept a keeps. through_more (log_sizes l) a (log_end l) (kept_bundles new) ws (is.all kept a keeps);
  }

  -- a call behind the closing that persists nothing
  pub keeps_behind : (ok : Bool) (k m : RunLog M ghosts) (n : BundleLog M ghosts) (old new : KeptBundles) → n.end ≡ log_end m → (kept_back n).log.sizes ≡ log_sizes m → KeepsOn true (λ a. a) k old m new
      → KeepsOn ok (λ a. a) k old (record m { log = n }) new
  keeps_behind true k m n old new end sizes is = record {
    kept = is.kept;
    all = λ kept a keeps. keeps_same m (record m { log = n }) a (kept_bundles new) (kept_bundles new) sizes end refl refl refl (is.all kept a keeps);
  }
  keeps_behind false k m n old new end sizes is = record {
    kept = is.kept;
    all = λ kept a keeps. keeps_still m (record m { log = n }) a (kept_bundles new) (kept_bundles new) sizes end refl (is.all kept a keeps).through;
  }

  -- ---- what every image recovers to where a call failed

  -- nothing was persisted
  pub ends_still : (more : RunArrays → RunArrays) (k l : RunLog M ghosts) (s t : Sight) → log_end l ≡ log_end k → RecoversOn more k s t → EndsFrom more k s l t
  ends_still more k l s t end recovers before a f visible =
      let moments = recovers before a f in
      let at = moments.each visible t.now moments.later.now (omega arith) in
      record {
        each = λ image is.
            subst (λ (n : ℕ). RecoversIn (log_sizes k) (more a) n before (state_now t).told image) (sym end)
            (at.each image (subst (λ (n : ℕ). IsImage n (state_now t) image) moments.later.len is));
      }

  -- the open bundle was closed before
  pub ends_closed : (k m l : RunLog M ghosts) (s t u : Sight) → log_end l ≡ log_end m → log_sizes m ≡ log_sizes k → LogGoesOn true (log_back k) s (log_back m) t → FollowsOn (λ a. a) k s m t → RecoversAlong Any (log_back m) (log_end m) t u → EndsFrom (λ a. a) k s l u
  ends_closed k m l s t u end sizes goes follows along before a f visible =
      let moments = along before a tt (follows before a f).carried in
      let at = moments.each (visible_after goes visible) u.now moments.later.now (omega arith) in
      record {
        each = λ image is.
            subst (λ (n : ℕ). RecoversIn (log_sizes k) a n before (state_now u).told image) (sym end)
            (subst (λ (z : Sizes). RecoversIn z a (log_end m) before (state_now u).told image) sizes
            (at.each image (subst (λ (n : ℕ). IsImage n (state_now u) image) moments.later.len is)));
      }

  -- ---- the open bundle is closed, and a call follows that persists nothing

  -- the closing failed
  pub closes_failed : (result : Result ℕ Failed) (k l : RunLog M ghosts) (old new : KeptBundles) → is_ok result ≡ false → RunGoesOn false k l → log_end l ≡ log_end k → RunRecovers (λ a. a) k l → KeepsOn false (λ a. a) k old l new → ClosesRun result k old l new
  closes_failed (Ok number) k l old new failed goes end moments keeps = absurd (cc)
  closes_failed (Err fault) k l old new failed goes end moments keeps = record {
    goes_on = goes;
    alive = λ ok. absurd (cc);
    answer = tt;
    moments = moments;
    keeps = keeps;
    ends = λ _. ends_still (λ a. a) k l (log_sight k) (log_sight l) end moments;
  }

  -- it went well
  pub closes_behind : (result : Result ℕ Failed) (k m : RunLog M ghosts) (n : BundleLog M ghosts) (old new : KeptBundles) → IsAlive k
      → log_last m ≡ log_last k → Closes k m → RunGoesOn true k m → RunRecovers (λ a. a) k m → KeepsOn true (λ a. a) k old m new
      → n.end ≡ log_end m → KeptGoesOn (is_ok result) m.log n → KeptRecovers m.log n → (is_ok result ≡ true → LeadsUpTo (kept_back n) n.end) → IfOk result (λ number. number ≡ log_end m) → ClosesRun result k old (record m { log = n }) new
  closes_behind result k m n old new alive last closed goes recovers keeps end goes_on moments leads answer = record {
    goes_on = goes_then _ _ _ _ _ _ goes goes_on;
    alive = λ ok. closed_alive (record m { log = n }) (log_last k) (leads ok) (end ∙ closed.end) last closed.none_open;
    answer = if_ok_same result (log_end m) (log_last k) closed.end answer;
    moments = recovers_behind k m (log_sight k) (log_sight m) (kept_sight n) alive closed.end goes.sizes closed.follows recovers moments;
    keeps = keeps_behind (is_ok result) k m n old new end goes_on.sizes keeps;
    ends = λ _. ends_closed k m (record m { log = n }) (log_sight k) (log_sight m) (kept_sight n) end goes.sizes goes closed.follows moments;
  }
