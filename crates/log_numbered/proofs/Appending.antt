-- A record joins the open bundle, or begins one.
use Rattle.std.proofs.Common.{◌≡◌, ℕ, ◌+◌, ◌*◌, ◌<◌, ◌≤◌, true, List, [], ◌∷◌, ◌++◌, All, Bool, if◌then◌else◌, length, map, Option, Some, None, sym, ap, ◌∙◌, subst, inl, inr, arith}
use Rattle.std.specs.Prelude.{◌==◌, is_some}
use Rattle.std.proofs.lemmas.Bool.{cases_Bool}
use Rattle.std.proofs.lemmas.List.Elements.{All-cons, All-head, All-nil, All-push, All-tail}
use Rattle.dude_base.specs.declared.limits.TheConstants.{MAX_NUMBER}
use Rattle.dude_base.specs.declared.write.Write.{Write}
use Rattle.dude_base.specs.Image.{image_words}
use Rattle.dude_base.specs.Records.{RedoBundle, RedoRecord, bundle_of, with_next}
use Rattle.dude_base.specs.Writes.{IsWriteList, overwritten, put_all, put_write, written}
use Rattle.dude_base.proofs.Joining.{joining_law}
use Rattle.pmem_trait.specs.declared.medium.Medium.{Ghosts}
use Rattle.pmem_trait.specs.Sights.{AtEveryMoment, Sight, state_now, CallsMade, CallsMade.none}
use Rattle.log_numbered.specs.declared.bundle_log.BundleLog.{BundleLog}
use Rattle.log_numbered.specs.declared.open_bundle.OpenBundle.{OpenBundle}
use Rattle.log_numbered.specs.declared.run_log.RunLog.{RunLog}
use Rattle.log_numbered.specs.Arrays.{LeadsToLast, RecoversIn, RunArrays, array_at, last_number, with_writes}
use Rattle.log_numbered.specs.Backs.{Carries, LogGoesOn, LeadsUpTo}
use Rattle.log_numbered.specs.BundleLog.{kept_back}
use Rattle.log_numbered.specs.LogCalls.{Joins}
use Rattle.log_numbered.specs.RunLog.{FollowsOn, IsAlive, OpenLeads, OpensUpTo, RecoversOn, log_back, log_end, log_last, log_open, log_sizes}
use Rattle.log_numbered.proofs.ArraysOfRuns.{array_added, array_stays, one_more}
use Rattle.log_numbered.proofs.Closing.{leads_to, none_end, opened}
use Rattle.log_numbered.proofs.GoingOn.{recovers_here, went_on}
use Rattle.log_numbered.proofs.HeldArrays.{carries_more, moments_less, recovers_more}
use Rattle.log_numbered.proofs.LedLogs.{few_cells}
use Rattle.back_store.proofs.ToldNumbers.{tells_none}

-- ---- writes of home words

put_home : (n : ℕ) (ws : List Write) (w : Write) → All (λ x. x.at < n) ws → w.at < n → All (λ x. x.at < n) (put_write ws w)
put_home n ws w all new = elim (cases_Bool (is_some (written ws w.at))) [
  | inl there ↦ subst (λ (b : Bool). All (λ x. x.at < n) (if b then map (λ v. if v.at == w.at then w else v) ws else ws ++ w ∷ [])) (sym there) (replaced ws all)
  | inr absent ↦ subst (λ (b : Bool). All (λ x. x.at < n) (if b then map (λ v. if v.at == w.at then w else v) ws else ws ++ w ∷ [])) (sym absent) (All-push (λ (x : Write). x.at < n) ws w all new)
]
  where
    one : (v : Write) → v.at < n → (if v.at == w.at then w else v).at < n
    one v old = elim (cases_Bool (v.at == w.at)) [
      | inl same ↦ subst (λ (b : Bool). (if b then w else v).at < n) (sym same) new
      | inr apart ↦ subst (λ (b : Bool). (if b then w else v).at < n) (sym apart) old
    ]

    replaced : (vs : List Write) → All (λ x. x.at < n) vs → All (λ x. x.at < n) (map (λ v. if v.at == w.at then w else v) vs)
    replaced [] home = All-nil (λ (x : Write). x.at < n)
    replaced (v ∷ vs) home = All-cons (λ (x : Write). x.at < n) (if v.at == w.at then w else v) (map (λ u. if u.at == w.at then w else u) vs) (one v (All-head (λ (x : Write). x.at < n) v vs home)) (replaced vs (All-tail (λ (x : Write). x.at < n) v vs home))

puts_home : (n : ℕ) (ws vs : List Write) → All (λ x. x.at < n) ws → All (λ x. x.at < n) vs → All (λ x. x.at < n) (put_all ws vs)
puts_home n ws [] all home = all
puts_home n ws (v ∷ vs) all home = puts_home n (put_write ws v) vs (put_home n ws v all (All-head (λ (x : Write). x.at < n) v vs home)) (All-tail (λ (x : Write). x.at < n) v vs home)

-- ---- what the open bundle leads to, with one array more

-- a bundle that a record joined
pub joined_leads : (a : RunArrays) (end : ℕ) (b : RedoBundle) (r : RedoRecord) → IsWriteList r.writes → end ≤ last_number a → LeadsToLast a end b → LeadsToLast (with_writes r.writes a) end (with_next b r)
joined_leads a end b r writes upto to =
    let new : RunArrays = with_writes r.writes a in
    record {
      last = (let same = to.last in let more = one_more r.writes a in omega arith);
      array = joining_law.effect b r (array_at new end) writes.distinct
          ∙ ap (overwritten r.writes) (ap (overwritten b.writes) (array_stays r.writes a end upto) ∙ to.array)
          ∙ sym (array_added r.writes a (last_number new) (one_more r.writes a));
    }

-- one that a record begins
pub begun_leads : (a : RunArrays) (end : ℕ) (r : RedoRecord) → end ≡ last_number a → r.number ≡ last_number a + 1 → LeadsToLast (with_writes r.writes a) end (bundle_of r)
begun_leads a end r is number =
    let new : RunArrays = with_writes r.writes a in
    record {
      last = (let more = one_more r.writes a in omega arith);
      array = ap (overwritten r.writes) (array_stays r.writes a end (omega arith) ∙ ap (array_at a) is) ∙ sym (array_added r.writes a (last_number new) (one_more r.writes a));
    }

-- ---- a record joins

module _ {M : Type 0} {ghosts : Ghosts M} (k l : RunLog M ghosts) (s t : Sight) (log_is : l.log ≡ k.log) (still : t ≡ s) where
  pub calls_here : CallsMade [] true s t
  calls_here = subst (λ (u : Sight). CallsMade [] true s u) (sym still) none

  pub goes_here : LogGoesOn true (log_back k) s (log_back l) t
  goes_here = went_on (log_back k) (log_back l) s t (ap (λ (u : Sight). u.len) still) (ap (λ (x : BundleLog M ghosts). (kept_back x).log.sizes) log_is)
      (let same : (log_back l).log.durable ≡ (log_back k).log.durable = ap (λ (x : BundleLog M ghosts). (kept_back x).log.durable) log_is in omega arith)
      ([], calls_here)
      (λ visible. tells_none true (log_back k).log.durable (log_back l).log.durable (state_now s).told (state_now t).told (ap (λ (x : BundleLog M ghosts). (kept_back x).log.durable) log_is) (ap (λ (u : Sight). (state_now u).told) still))

  module _ (r : RedoRecord) (o : OpenBundle) (was : log_open k ≡ Some o) (joins : Joins (log_sizes k).cells o r) (now : log_open l ≡ Some (record o { bundle = with_next o.bundle r })) (last : log_last l ≡ log_last k + 1) (writes : IsWriteList r.writes) (alive : IsAlive k) where
    pub joined_alive : log_last k < MAX_NUMBER → All (λ w. w.at < (log_sizes k).pages * 64) r.writes → IsAlive l
    joined_alive small home =
        let was_open = opened k o alive was in
        record {
          leads = subst (λ (x : BundleLog M ghosts). LeadsUpTo (kept_back x) x.end) (sym log_is) alive.leads;
          opens = subst (λ (x : BundleLog M ghosts). OpensUpTo (kept_back x).log.sizes x.end (log_last l) (log_open l)) (sym log_is)
              (subst (λ (x : Option OpenBundle). OpensUpTo (log_sizes k) (log_end k) (log_last l) x) (sym now) (record {
                ring = was_open.ring;
                first = (let first = was_open.first in omega arith);
                last_is = (let same = was_open.last_is in omega arith);
                span = (let less = joins.can.short in omega arith);
                short = joins.short;
                home = puts_home ((log_sizes k).pages * 64) o.bundle.writes r.writes was_open.home home;
              }));
          small = (let same = last in omega arith);
        }

    pub joined_follows : FollowsOn (with_writes r.writes) k s l t
    joined_follows before a f =
        let to = leads_to before a k s o f was in
        let new : RunArrays = with_writes r.writes a in
        record {
          last = (let same = f.last in let more = one_more r.writes a in omega arith);
          carried = subst (λ (u : Sight). Carries before new (log_back l) (log_end l) u) (sym still)
              (subst (λ (x : BundleLog M ghosts). Carries before new (kept_back x) x.end s) (sym log_is) (carries_more before (log_back k) (log_end k) a r.writes s alive.leads f.carried));
          leads_on = subst (λ (x : BundleLog M ghosts). OpenLeads new x.end (log_open l)) (sym log_is)
              (subst (λ (x : Option OpenBundle). OpenLeads new (log_end k) x) (sym now) (joined_leads a (log_end k) o.bundle r writes f.carried.upto to));
        }

-- at rest, with one array more
pub recovers_still : {M : Type 0} {ghosts : Ghosts M} (k : RunLog M ghosts) (s t : Sight) (ws : List Write) → t ≡ s → IsAlive k → image_words (log_sizes k) ≤ s.len → RecoversOn (with_writes ws) k s t
recovers_still k s t ws still alive room before a f =
    subst (λ (u : Sight). AtEveryMoment (RecoversIn (log_sizes k) (with_writes ws a) (log_end k) before) s u) (sym still)
    (moments_less (λ visible told image here. recovers_more ws (log_sizes k) a (log_end k) before told image here) (recovers_here (log_back k) (log_end k) s room alive.leads before a tt f.carried))

pub recovers_more_on : {M : Type 0} {ghosts : Ghosts M} (ws : List Write) (k : RunLog M ghosts) (s t : Sight) → RecoversOn (λ a. a) k s t → RecoversOn (with_writes ws) k s t
recovers_more_on ws k s t one before a is = moments_less (λ visible told image here. recovers_more ws (log_sizes k) a (log_end k) before told image here) (one before a is)

-- ---- a record begins a bundle

-- m is closed, and l has the new bundle besides
module _ {M : Type 0} {ghosts : Ghosts M} (m l : RunLog M ghosts) (ring : ℕ) (r : RedoRecord) (log_is : l.log ≡ m.log) (none_open : log_open m ≡ None) (now : log_open l ≡ Some (record { ring = ring; bundle = bundle_of r })) (next : r.number ≡ log_last m + 1) (last : log_last l ≡ log_last m + 1) (writes : IsWriteList r.writes) (alive : IsAlive m) where
  pub begun_alive : log_last m < MAX_NUMBER → ring < (log_sizes m).rings → All (λ w. w.at < (log_sizes m).pages * 64) r.writes → IsAlive l
  begun_alive small below home = record {
    leads = subst (λ (x : BundleLog M ghosts). LeadsUpTo (kept_back x) x.end) (sym log_is) alive.leads;
    opens = subst (λ (x : BundleLog M ghosts). OpensUpTo (kept_back x).log.sizes x.end (log_last l) (log_open l)) (sym log_is)
        (subst (λ (x : Option OpenBundle). OpensUpTo (log_sizes m) (log_end m) (log_last l) x) (sym now) (record {
          ring = below;
          first = (let end = none_end m alive none_open in omega arith);
          last_is = next ∙ sym last;
          span = omega arith;
          short = (let few = few_cells (length r.writes) writes.few in let many = alive.leads.lawful.accepted.cells.low in omega arith);
          home = home;
        }));
    small = (let same = last in omega arith);
  }

  pub begun_follows : (k : RunLog M ghosts) (s t : Sight) → FollowsOn (λ a. a) k s m t → FollowsOn (with_writes r.writes) k s l t
  begun_follows k s t follows before a is =
      let f = follows before a is in
      let new : RunArrays = with_writes r.writes a in
      let end : log_end m ≡ last_number a = none_end m alive none_open ∙ f.last in
      record {
        last = (let same = f.last in let more = one_more r.writes a in omega arith);
        carried = subst (λ (x : BundleLog M ghosts). Carries before new (kept_back x) x.end t) (sym log_is) (carries_more before (log_back m) (log_end m) a r.writes t alive.leads f.carried);
        leads_on = subst (λ (x : BundleLog M ghosts). OpenLeads new x.end (log_open l)) (sym log_is)
            (subst (λ (x : Option OpenBundle). OpenLeads new (log_end m) x) (sym now) (begun_leads a (log_end m) r end (next ∙ ap (λ (n : ℕ). n + 1) f.last)));
      }
