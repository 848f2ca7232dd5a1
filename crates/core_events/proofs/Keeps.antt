-- Every event, split and join keeps the kept state; what every list of steps leads to.
use Rattle.std.proofs.Common.{◌≡◌, ℕ, zero, suc, ◌+◌, true, List, [], ◌∷◌, ◌++◌, set, sym, ap, ◌∙◌, arith}
use mathlib.Core.Option.{some, some-injective, some-ne-none}
use lib.ListN.{get_elem?}
use Rattle.core_events.specs.Setups.{Setup}
use Rattle.core_events.specs.Keyed.{total}
use Rattle.core_events.specs.Views.{Entry, View}
use Rattle.core_events.specs.Words.{State, found}
use Rattle.core_events.specs.Entries.{all_entries, IsLegal}
use Rattle.core_events.specs.Events.{Event, number, finish, decide, name, view_after}
use Rattle.core_events.specs.Conditions.{IsAllowed, after}
use Rattle.core_events.specs.Partings.{newcomer, left_of, both_of, spent, MaySplit, MayJoin, split, join, Step, event, parting, joining, Leads, AllLead, entries_made, all_made}
use Rattle.core_events.specs.Ghosts.{Ghost, ghost_after, ghost_joined}
use Rattle.core_events.specs.Kept.{LayersKept, Kept}
use Rattle.core_events.proofs.Lists.{set_else}
use Rattle.core_events.proofs.ThreadsKept.{threads_keep, threads_split_keep, threads_join_keep}
use Rattle.core_events.proofs.LocksKept.{locks_keep, locks_split_keep, locks_join_keep}
use Rattle.core_events.proofs.EntriesKept.{entries_keep, entries_split_keep, entries_join_keep}
use Rattle.core_events.proofs.TurnKept.{turn_keep, turn_split_keep, turn_join_keep}
use Rattle.core_events.proofs.PagesKept.{pages_keep, pages_split_keep, pages_join_keep}
use Rattle.core_events.proofs.NumbersKept.{numbers_keep, numbers_split_keep, numbers_join_keep}
use Rattle.core_events.proofs.OrderKept.{order_keep, order_split_keep, order_join_keep}
use Rattle.core_events.proofs.ValuesKept.{values_keep, values_split_keep, values_join_keep}
use Rattle.core_events.proofs.EntriesAll.{all_legal}

module _ (z : Setup) where
  -- ---- the layers that say nothing of values
  pub layers_keep : (e : Event) (c : State) (who : ℕ) (v : View) (g : Ghost) → LayersKept z g c → IsAllowed z c who e v → LayersKept z (ghost_after z g c who v e) (after z c who v e)
  layers_keep e c who v g l a = record {
    threads = threads_keep z e c who v g l.threads a;
    locks = locks_keep z e c who v g l.threads l.locks a;
    entries = entries_keep z e c who v g l.threads l.locks l.entries a;
    numbers = numbers_keep z e c who v g l.threads l.locks l.turn l.numbers a;
    turn = turn_keep z e c who v g l.threads l.locks l.turn a;
    pages = pages_keep z e c who v g l.threads l.locks l.turn l.pages a;
    order = order_keep z e c who v g l.threads l.locks l.turn l.numbers l.order a;
  }

  pub layers_split_keep : (c : State) (who draws : ℕ) (v : View) (g : Ghost) → LayersKept z g c → MaySplit c who v draws → LayersKept z g (split z c who v draws)
  layers_split_keep c who draws v g l a = record {
    threads = threads_split_keep z c who draws v g l.threads a;
    locks = locks_split_keep z c who draws v g l.locks a;
    entries = entries_split_keep z c who draws v g l.entries a;
    numbers = numbers_split_keep z c who draws v g l.numbers a;
    turn = turn_split_keep z c who draws v g l.threads l.turn a;
    pages = pages_split_keep z c who draws v g l.pages a;
    order = order_split_keep z c who draws v g l.order a;
  }

  pub layers_join_keep : (c : State) (who other : ℕ) (v w : View) (g : Ghost) → LayersKept z g c → MayJoin c who v other w → LayersKept z (ghost_joined g who other) (join z c who v other w)
  layers_join_keep c who other v w g l a = record {
    threads = threads_join_keep z c who other v w g l.threads a;
    locks = locks_join_keep z c who other v w g l.locks a;
    entries = entries_join_keep z c who other v w g l.entries a;
    numbers = numbers_join_keep z c who other v w g l.numbers a;
    turn = turn_join_keep z c who other v w g l.threads l.turn a;
    pages = pages_join_keep z c who other v w g l.pages a;
    order = order_join_keep z c who other v w g l.order a;
  }

  -- ---- all layers
  pub event_keeps : (e : Event) (c : State) (who : ℕ) (v : View) → Kept z c → IsAllowed z c who e v → Kept z (after z c who v e)
  event_keeps e c who v k a =
      let g = k.ghost_is in let l = k.layers in record {
        ghost_is = ghost_after z g c who v e;
        layers = layers_keep e c who v g l a;
        values = λ told. values_keep z e c who v g l.threads l.locks l.entries l.numbers l.turn l.pages told a (k.values told);
      }

  pub split_keeps : (c : State) (who draws : ℕ) (v : View) → Kept z c → MaySplit c who v draws → Kept z (split z c who v draws)
  split_keeps c who draws v k a =
      let g = k.ghost_is in let l = k.layers in record {
        ghost_is = g;
        layers = layers_split_keep c who draws v g l a;
        values = λ told. values_split_keep z c who draws v g (k.values told) a;
      }

  pub join_keeps : (c : State) (who other : ℕ) (v w : View) → Kept z c → MayJoin c who v other w → Kept z (join z c who v other w)
  join_keeps c who other v w k a =
      let g = k.ghost_is in let l = k.layers in record {
        ghost_is = ghost_joined g who other;
        layers = layers_join_keep c who other v w g l a;
        values = λ told. values_join_keep z c who other v w g l.locks (k.values told) a;
      }

  step_keeps : (s : Step) (c d : State) → Kept z c → Leads z c s d → Kept z d
  step_keeps (event who e) c d k h = rw h.2 (event_keeps e c who h.0 k h.1)
  step_keeps (parting who draws) c d k h = rw h.2 (split_keeps c who draws h.0 k h.1)
  step_keeps (joining who other) c d k h = rw h.3 (join_keeps c who other h.0 h.1 k h.2)

  pub steps_keep : (ss : List Step) (c d : State) → Kept z c → AllLead z c ss d → Kept z d
  steps_keep [] c d k h = rw h k
  steps_keep (s ∷ ss) c d k h = steps_keep ss h.0 d (step_keeps s c h.0 k h.1) h.2

  -- the entries of a kept state are legal
  pub kept_legal : (c : State) → Kept z c → z.is_told ≡ true → IsLegal z.first z.opening (all_entries c.views)
  kept_legal c k told = all_legal z k.ghost_is c k.layers.entries (k.values told)

-- ---- how the entries of all views weigh together
module _ (f : Entry → ℕ) where
  weigh_append : (xs ys : List Entry) → total f (xs ++ ys) ≡ total f xs + total f ys
  weigh_append [] ys = omega arith
  weigh_append (x ∷ xs) ys = let r = weigh_append xs ys in omega arith

  weigh_set : (views : List View) (j : ℕ) (v w : View) → get_elem? views j ≡ some v → total f (all_entries (set views j w)) + total f v.entries ≡ total f (all_entries views) + total f w.entries
  weigh_set [] j v w e = absurd (some-ne-none v (sym e))
  weigh_set (x ∷ xs) zero v w e =
      let s : total f x.entries ≡ total f v.entries = ap (λ (u : View). total f u.entries) (some-injective x v e) in
      let a = weigh_append w.entries (all_entries xs) in let b = weigh_append x.entries (all_entries xs) in omega arith
  weigh_set (x ∷ xs) (suc j) v w e =
      let h = weigh_set xs j v w e in let a = weigh_append x.entries (all_entries (set xs j w)) in let b = weigh_append x.entries (all_entries xs) in omega arith

  weigh_snoc : (views : List View) (w : View) → total f (all_entries (views ++ w ∷ [])) ≡ total f (all_entries views) + total f w.entries
  weigh_snoc [] w = let a = weigh_append w.entries [] in omega arith
  weigh_snoc (x ∷ xs) w = let h = weigh_snoc xs w in let a = weigh_append x.entries (all_entries (xs ++ w ∷ [])) in let b = weigh_append x.entries (all_entries xs) in omega arith

  module _ (z : Setup) where
    event_weighs : (e : Event) (c : State) (who : ℕ) (v : View) → get_elem? c.views who ≡ some v → total f (all_entries (after z c who v e).views) ≡ total f (all_entries c.views) + total f (entries_made e v)
    event_weighs number c who v at = let h = weigh_set c.views who v (view_after z number v c.threads) at in omega arith
    event_weighs (finish a) c who v at =
        let w : View = view_after z (finish a) v c.threads in let h = weigh_set c.views who v w at in let b = weigh_append v.entries (entries_made (finish a) v) in omega arith
    event_weighs decide c who v at =
        let w : View = view_after z decide v (found c (name z decide v)) in let h = weigh_set c.views who v w at in let b = weigh_append v.entries (entries_made decide v) in omega arith
    event_weighs e c who v at = let w : View = view_after z e v (found c (name z e v)) in let h = weigh_set c.views who v w at in omega arith

    step_weighs : (s : Step) (ss : List Step) (c b d : State) (h : Leads z c s b) (r : AllLead z b ss d) → total f (all_entries d.views) ≡ total f (all_entries b.views) + total f (all_made z ss b d r)
        → total f (all_entries d.views) ≡ total f (all_entries c.views) + total f (all_made z (s ∷ ss) c d (b, h, r))
    step_weighs (event who e) ss c b d h r rest =
        let one = event_weighs e c who h.0 h.1.is_there in let same : total f (all_entries b.views) ≡ total f (all_entries (after z c who h.0 e).views) = ap (λ (x : State). total f (all_entries x.views)) h.2 in
        let both = weigh_append (entries_made e h.0) (all_made z ss b d r) in omega arith
    step_weighs (parting who draws) ss c b d h r rest =
        let v = h.0 in let w = left_of draws v in let same : total f (all_entries b.views) ≡ total f (all_entries (split z c who v draws).views) = ap (λ (x : State). total f (all_entries x.views)) h.2 in
        let one = weigh_set c.views who v w h.1.is_there in let more = weigh_snoc (set c.views who w) (newcomer z 0 draws) in omega arith
    step_weighs (joining who other) ss c b d h r rest =
        let v = h.0 in let w = h.1 in let both = both_of v w in let m = h.2 in let same : total f (all_entries b.views) ≡ total f (all_entries (join z c who v other w).views) = ap (λ (x : State). total f (all_entries x.views)) h.3 in
        let one = weigh_set c.views who v both m.is_there in
        let at : get_elem? (set c.views who both) other ≡ some w = set_else c.views who other both m.apart ∙ m.other_there in
        let two = weigh_set (set c.views who both) other w (spent z) at in let added = weigh_append v.entries w.entries in omega arith

    pub steps_weigh : (ss : List Step) (c d : State) (h : AllLead z c ss d) → total f (all_entries d.views) ≡ total f (all_entries c.views) + total f (all_made z ss c d h)
    steps_weigh [] c d h = let same : total f (all_entries d.views) ≡ total f (all_entries c.views) = ap (λ (x : State). total f (all_entries x.views)) h in omega arith
    steps_weigh (s ∷ ss) c d h = step_weighs s ss c h.0 d h.1 h.2 (steps_weigh ss h.0 d h.2)
