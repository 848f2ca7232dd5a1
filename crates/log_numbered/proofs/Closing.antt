-- The open bundle is closed, and calls follow.
use Rattle.std.proofs.Common.{◌≡◌, ℕ, ◌+◌, ◌≤◌, true, IsTrue, List, [], ◌∷◌, ◌++◌, Option, Some, None, refl, sym, ap, ◌∙◌, subst, arith}
use Rattle.dude_base.specs.declared.limits.TheConstants.{MAX_SPAN}
use Rattle.pmem_trait.specs.declared.medium.Medium.{Ghosts}
use Rattle.pmem_trait.specs.Words.{IsImage}
use Rattle.pmem_trait.specs.Sights.{Sight, state_now}
use Rattle.pmem_trait.proofs.Laws.{every_moment_then, every_moment_weaker}
use Rattle.back_store.specs.Answers.{announced}
use Rattle.back_store.specs.Back.{home_now}
use Rattle.log_numbered.specs.declared.bundle_log.BundleLog.{BundleLog}
use Rattle.log_numbered.specs.declared.open_bundle.OpenBundle.{OpenBundle}
use Rattle.log_numbered.specs.declared.run_log.RunLog.{RunLog}
use Rattle.log_numbered.specs.Arrays.{LeadsToLast, RecoversIn, RunArrays, array_at, last_number}
use Rattle.log_numbered.specs.Backs.{Any, CarriesOn, LogGoesOn, HomeIsAt, LeadsUpTo, RecoversAlong}
use Rattle.log_numbered.specs.BundleLog.{AnnouncesLast, MakesCheckpoint, TellsOne, kept_back, kept_sight}
use Rattle.log_numbered.specs.LogCalls.{settled}
use Rattle.log_numbered.specs.RunLog.{AnnouncesRun, CheckpointsRun, Closes, EndsAtLast, Follows, FollowsOn, HomeIsLast, IsAlive, IsOpen, OpenLeads, OpensUpTo, RecoversOn, TellsRun, log_back, log_durable, log_end, log_last, log_open, log_parts, log_sight, log_sizes}
use Rattle.log_numbered.proofs.GoingOn.{visible_after}
use Rattle.log_numbered.proofs.LoggedCalls.{announced_behind, checkpointed_behind, parts_are}
use Rattle.back_store.proofs.ToldNumbers.{told_more}

module _ {M : Type 0} {ghosts : Ghosts M} where
  pub opened : (k : RunLog M ghosts) (o : OpenBundle) → IsAlive k → log_open k ≡ Some o → IsOpen (log_sizes k) (log_end k) (log_last k) o
  opened k o alive is = subst (λ (x : Option OpenBundle). OpensUpTo (log_sizes k) (log_end k) (log_last k) x) is alive.opens

  pub leads_to : (before : ℕ) (a : RunArrays) (k : RunLog M ghosts) (s : Sight) (o : OpenBundle) → Follows before a k s → log_open k ≡ Some o → LeadsToLast a (log_end k) o.bundle
  leads_to before a k s o f is = subst (λ (x : Option OpenBundle). OpenLeads a (log_end k) x) is f.leads_on

  -- where none is open all is persisted
  pub none_end : (k : RunLog M ghosts) → IsAlive k → log_open k ≡ None → log_end k ≡ log_last k
  none_end k alive none = subst (λ (x : Option OpenBundle). OpensUpTo (log_sizes k) (log_end k) (log_last k) x) none alive.opens

  pub end_upto : (k : RunLog M ghosts) → IsAlive k → log_end k ≤ log_last k
  end_upto k alive = by (log_open k) alive.opens
    where
      by : (x : Option OpenBundle) → OpensUpTo (log_sizes k) (log_end k) (log_last k) x → log_end k ≤ log_last k
      by None end = omega arith
      by (Some o) at = let first = at.first in let last = at.last_is in omega arith

  -- no more numbers than a bundle may cover aren't persisted
  pub last_near : (k : RunLog M ghosts) → IsAlive k → log_last k ≤ log_end k + (MAX_SPAN + 1)
  last_near k alive = by (log_open k) alive.opens
    where
      by : (x : Option OpenBundle) → OpensUpTo (log_sizes k) (log_end k) (log_last k) x → log_last k ≤ log_end k + (MAX_SPAN + 1)
      by None end = omega arith
      by (Some o) at = let first = at.first in let last = at.last_is in let span = at.span in omega arith

  -- a log without an open bundle
  pub closed_alive : (l : RunLog M ghosts) (last : ℕ) → LeadsUpTo (log_back l) (log_end l) → log_end l ≡ last → log_last l ≡ last → log_open l ≡ None → IsAlive l
  closed_alive l last leads end same none = record {
    leads = leads;
    opens = subst (λ (x : Option OpenBundle). OpensUpTo (log_sizes l) (log_end l) (log_last l) x) (sym none) (end ∙ sym same);
    small = (let small = leads.small in omega arith);
  }

  pub closed_follows : (k l : RunLog M ghosts) (s t : Sight) (P : RunArrays → Type 0) → ((before : ℕ) (a : RunArrays) → Follows before a k s → P a) → CarriesOn P (log_back k) (log_end k) s (log_back l) (log_end l) t
      → log_end l ≡ log_last k → log_last l ≡ log_last k → log_open l ≡ None → FollowsOn (λ a. a) k s l t
  closed_follows k l s t P premise carries end last none before a f = record {
    last = last ∙ f.last;
    carried = carries before a (premise before a f) f.carried;
    leads_on = subst (λ (x : Option OpenBundle). OpenLeads a (log_end l) x) (sym none) (end ∙ f.last);
  }

  pub recovers_closing : (k : RunLog M ghosts) (s t : Sight) (P : RunArrays → Type 0) → ((before : ℕ) (a : RunArrays) → Follows before a k s → P a) → RecoversAlong P (log_back k) (log_end k) s t → RecoversOn (λ a. a) k s t
  recovers_closing k s t P premise along before a f = along before a (premise before a f) f.carried

  -- ---- a call behind the closing

  -- what the images recover to is over the old end
  recovers_from : (k m : RunLog M ghosts) (before : ℕ) (a : RunArrays) (told image : List ℕ) → IsAlive k → log_end m ≡ log_last k → log_sizes m ≡ log_sizes k
      → RecoversIn (log_sizes m) a (log_end m) before told image → RecoversIn (log_sizes k) a (log_end k) before told image
  recovers_from k m before a told image alive end sizes is = record {
    number = is.number;
    from = (let from = is.from in let up = end_upto k alive in omega arith);
    most = is.most;
    recovered = is.recovered;
    same_sizes = is.same_sizes ∙ sizes;
    floor = is.floor;
  }

  pub recovers_behind : (k m : RunLog M ghosts) (s t u : Sight) → IsAlive k → log_end m ≡ log_last k → log_sizes m ≡ log_sizes k → FollowsOn (λ a. a) k s m t → RecoversOn (λ a. a) k s t
      → RecoversAlong Any (log_back m) (log_end m) t u → RecoversOn (λ a. a) k s u
  recovers_behind k m s t u alive end sizes follows one other before a f =
      every_moment_then (one before a f)
      (every_moment_weaker (λ told image size is. recovers_from k m before a told image alive end sizes is) (other before a tt (follows before a f).carried))

  pub ends_behind : (k m : RunLog M ghosts) (s t u : Sight) → log_end m ≡ log_last k → log_sizes m ≡ log_sizes k → LogGoesOn true (log_back k) s (log_back m) t → FollowsOn (λ a. a) k s m t
      → RecoversAlong Any (log_back m) (log_end m) t u → u.len ≡ t.len → EndsAtLast k s u
  ends_behind k m s t u end sizes goes follows along len before a f visible =
      let moments = along before a tt (follows before a f).carried in
      let at = moments.each (visible_after goes visible) u.now moments.later.now (omega arith) in
      record {
        each = λ image is.
            subst (λ z. RecoversIn z a (log_last k) before (state_now u).told image) sizes
            (subst (λ n. RecoversIn (log_sizes m) a n before (state_now u).told image) end
            (at.each image (subst (λ (n : ℕ). IsImage n (state_now u) image) len is)));
      }

  pub home_behind : (k m : RunLog M ghosts) (s t u : Sight) → log_end m ≡ log_last k → log_sizes m ≡ log_sizes k → LogGoesOn true (log_back k) s (log_back m) t → FollowsOn (λ a. a) k s m t
      → HomeIsAt (log_back m) (log_end m) t u → HomeIsLast k s u
  home_behind k m s t u end sizes goes follows home before a f visible =
      subst (λ z. home_now z u ≡ array_at a (last_number a)) sizes
      (home before a (follows before a f).carried (visible_after goes visible) ∙ ap (array_at a) (end ∙ f.last))

  pub told_behind : (k m : RunLog M ghosts) (s t u : Sight) (end last : ℕ) → end ≡ last → LogGoesOn true (log_back k) s (log_back m) t → (IsTrue t.is_visible → (state_now u).told ≡ (state_now t).told ++ end ∷ [])
      → IsTrue s.is_visible → (earlier : List ℕ) × ((state_now u).told ≡ (state_now s).told ++ earlier ++ last ∷ [])
  told_behind k m s t u end last same goes told visible =
      let more = told_more (log_durable k) (log_durable m) (state_now s).told (state_now t).told (goes.tells visible) in (
        more.0,
        told (visible_after goes visible) ∙ ap (λ (l : List ℕ). l ++ end ∷ []) more.1 ∙ ap (λ (n : ℕ). (state_now s).told ++ more.0 ++ n ∷ []) same,
      )

  -- a log whose open bundle was closed, and its last number then told
  pub tells_behind : (k m : RunLog M ghosts) (n : BundleLog M ghosts) → log_last m ≡ log_last k → Closes k m → LogGoesOn true (log_back k) (log_sight k) (log_back m) (log_sight m)
      → n.end ≡ log_end m → (kept_back n).log.durable ≡ log_end m → TellsOne (log_end m) (log_sight m) (kept_sight n)
      → CarriesOn Any (log_back m) (log_end m) (log_sight m) (kept_back n) n.end (kept_sight n) → TellsRun k (record m { log = n })
  tells_behind k m n last closed goes end durable told carries = record {
    told = told_behind k m (log_sight k) (log_sight m) (kept_sight n) (log_end m) (log_last k) closed.end goes told;
    last = last;
    end = end ∙ closed.end;
    durable = durable ∙ closed.end;
    follows = λ before a f.
        closed_follows m (record m { log = n }) (log_sight m) (kept_sight n) Any (λ before a f. tt) carries (end ∙ closed.end ∙ sym last) refl closed.none_open before a (closed.follows before a f);
  }

  -- the open bundle was closed, and the last number then announced
  pub announces_behind : (k m : RunLog M ghosts) (n : BundleLog M ghosts) → log_last m ≡ log_last k → Closes k m → LogGoesOn true (log_back k) (log_sight k) (log_back m) (log_sight m) → n.end ≡ log_end m
      → AnnouncesLast m.log n → AnnouncesRun k (record m { log = n })
  announces_behind k m n last closed goes end told = record {
    calls = announced_behind (log_parts k) (log_parts (record m { log = n })) (log_back m) (log_end m) (log_last k) (log_sight k) (log_sight m) (kept_sight n) closed.end closed.calls
        (parts_are (kept_back n) (announced (log_back m) (log_end m)) (log_open m) None told.back closed.none_open) told.calls;
    tells = tells_behind k m n last closed goes end told.durable told.told told.carries;
  }

  -- and then all that waits reproduced
  pub checkpoints_behind : (k m : RunLog M ghosts) (n : BundleLog M ghosts) → log_last m ≡ log_last k → Closes k m → LogGoesOn true (log_back k) (log_sight k) (log_back m) (log_sight m) → n.end ≡ log_end m
      → RecoversAlong Any (log_back m) (log_end m) (log_sight m) (kept_sight n) → (kept_sight n).len ≡ (log_sight m).len → MakesCheckpoint m.log n → CheckpointsRun k (record m { log = n })
  checkpoints_behind k m n last closed goes end moments len told = record {
    calls = checkpointed_behind (log_parts k) (log_parts (record m { log = n })) (log_back m) (log_end m) (log_last k) (log_sight k) (log_sight m) (kept_sight n) closed.end closed.calls
        (parts_are (kept_back n) (settled (log_back m) (log_end m)) (log_open m) None told.back closed.none_open) told.calls;
    tells = tells_behind k m n last closed goes end told.durable told.told told.carries;
    reproduced = told.reproduced_is ∙ closed.end;
    home = home_behind k m (log_sight k) (log_sight m) (kept_sight n) closed.end goes.sizes goes closed.follows told.home;
    ends = ends_behind k m (log_sight k) (log_sight m) (kept_sight n) closed.end goes.sizes goes closed.follows moments len;
  }
