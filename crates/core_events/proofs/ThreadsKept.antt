-- The layer of threads' numbers is kept.
use Rattle.std.proofs.Common.{◌≡◌, ℕ, List, [], ◌∷◌, ◌++◌, set, map, refl, ap}
use Rattle.std.proofs.lemmas.List.{map-set}
use Rattle.core_events.specs.Setups.{Setup}
use Rattle.core_events.specs.Views.{Part, View}
use Rattle.core_events.specs.Words.{State, found}
use Rattle.core_events.specs.Events.{Event, number, name, view_after}
use Rattle.core_events.specs.Conditions.{IsAllowed, after}
use Rattle.core_events.specs.Partings.{newcomer, left_of, both_of, spent, MaySplit, MayJoin, split, join}
use Rattle.core_events.specs.Ghosts.{Ghost, ghost_after, ghost_joined}
use Rattle.core_events.specs.KeptThreads.{part_of}
use Rattle.core_events.specs.Layers.{ThreadsIn}
use Rattle.core_events.proofs.Lists.{at_map, unmoved}
use Rattle.core_events.proofs.Threads.{threads_number, threads_split, threads_join}

map_snoc : (l : List View) (a : View) → map part_of (l ++ a ∷ []) ≡ map part_of l ++ a.part ∷ []
map_snoc [] a = refl
map_snoc (x ∷ xs) a = ap (λ (h : List Part). x.part ∷ h) (map_snoc xs a)

module _ (z : Setup) where
  pub threads_keep : (e : Event) (c : State) (id : ℕ) (v : View) (g : Ghost) → ThreadsIn z g c → IsAllowed z c id e v → ThreadsIn z (ghost_after z g c id v e) (after z c id v e)
  threads_keep number c id v g s a =
      rw (map-set part_of c.views id (view_after z number v c.threads)) (threads_number z.threads g.thread g.home c.threads (map part_of c.views) s id v.part (at_map part_of c.views id v a.is_there) a.may.live a.may.can)
  threads_keep e c id v g s a = rw (unmoved part_of c.views id v (view_after z e v (found c (name z e v))) a.is_there refl) s

  pub threads_split_keep : (c : State) (id draws : ℕ) (v : View) (g : Ghost) → ThreadsIn z g c → MaySplit c id v draws → ThreadsIn z g (split z c id v draws)
  threads_split_keep c id draws v g s may =
      rw (map_snoc (set c.views id (left_of draws v)) (newcomer z 0 draws), map-set part_of c.views id (left_of draws v)) (threads_split z.threads g.thread g.home c.threads (map part_of c.views) s id v.part (at_map part_of c.views id v may.is_there) may.split_left)

  pub threads_join_keep : (c : State) (id other : ℕ) (v w : View) (g : Ghost) → ThreadsIn z g c → MayJoin c id v other w → ThreadsIn z (ghost_joined g id other) (join z c id v other w)
  threads_join_keep c id other v w g s may =
      rw (map-set part_of (set c.views id (both_of v w)) other (spent z), map-set part_of c.views id (both_of v w)) (threads_join z.threads g.thread g.home c.threads (map part_of c.views) s id other v.part w.part (at_map part_of c.views id v may.is_there) may.apart (at_map part_of c.views other w may.other_there) may.other_live)
