-- The log stands where views are split and joined.
use Rattle.std.proofs.Common.{◌≡◌, ℕ, ◌⊎◌, List, [], ◌∷◌, ◌++◌, set, map, refl, sym, ap, ◌∙◌, inl, inr, ⊎_elim, arith}
use Rattle.std.proofs.lemmas.List.{map-set}
use mathlib.Core.Option.{some}
use lib.ListN.{get_elem?}
use Rattle.redo_record.specs.LogState.{LogState}
use Rattle.core_events.specs.Setups.{Setup}
use Rattle.core_events.specs.Views.{View}
use Rattle.core_events.specs.Words.{State}
use Rattle.core_events.specs.Partings.{newcomer, left_of, both_of, spent, MaySplit, MayJoin, split, join}
use Rattle.core_events.specs.Ghosts.{Ghost, ghost_joined}
use Rattle.core_events.specs.KeptNumbers.{numbers_of}
use Rattle.core_events.proofs.Lists.{at_set, at_snoc, unmoved}
use Rattle.core_medium.specs.KeptLog.{Drawer, drawer_of, LogStands, LogIn}
use Rattle.core_medium.proofs.LogOn.{stands_drawn}

module _ (z : Setup) (g : Ghost) (c : State) (l : LogState) (k : LogIn z g c l) where
  -- drawers, where those that aren't old ones have no number
  stands_with : (views2 : List View) → ((i : ℕ) (r : Drawer) → get_elem? (map drawer_of views2) i ≡ some r → (r.number ≡ 0) ⊎ (get_elem? (map drawer_of c.views) i ≡ some r))
      → LogStands z g.claims.hist c.boxes (numbers_of c.persisted) (map drawer_of views2) l
  stands_with views2 old =
      stands_drawn z g.claims.hist c.boxes (numbers_of c.persisted) (map drawer_of c.views) (map drawer_of views2) l k
      (λ i t r e th pos. ⊎_elim (λ none_drawn. absurd (omega arith)) (λ there. k.drawn i t r there th pos) (old i r e))

  map_snoc : (views : List View) (a : View) → map drawer_of (views ++ a ∷ []) ≡ map drawer_of views ++ drawer_of a ∷ []
  map_snoc [] a = refl
  map_snoc (x ∷ xs) a = ap (λ (h : List Drawer). drawer_of x ∷ h) (map_snoc xs a)

  pub log_split_keep : (who draws : ℕ) (v : View) → MaySplit c who v draws → LogIn z g (split z c who v draws) l
  log_split_keep who draws v may =
      let w = left_of draws v in let n = newcomer z 0 draws in let vs : List View = set c.views who w in
      let drawers : map drawer_of (vs ++ n ∷ []) ≡ map drawer_of c.views ++ drawer_of n ∷ [] =
      map_snoc vs n ∙ ap (λ (ds : List Drawer). ds ++ drawer_of n ∷ []) (unmoved drawer_of c.views who v w may.is_there refl) in
      stands_with (vs ++ n ∷ []) (λ i r e. ⊎_elim
      (λ old. inr old)
      (λ new. inl (ap (λ (y : Drawer). y.number) (sym new.0)))
      (at_snoc (map drawer_of c.views) (drawer_of n) r i (rw drawers at e)))

  pub log_join_keep : (who other : ℕ) (v w : View) → MayJoin c who v other w → LogIn z (ghost_joined g who other) (join z c who v other w) l
  log_join_keep who other v w may =
      let both = both_of v w in let gone = spent z in let vs : List View = set c.views who both in
      let drawers : map drawer_of (set vs other gone) ≡ set (map drawer_of c.views) other (drawer_of gone) =
      map-set drawer_of vs other gone ∙ ap (λ (ds : List Drawer). set ds other (drawer_of gone)) (unmoved drawer_of c.views who v both may.is_there refl) in
      stands_with (set vs other gone) (λ i r e. ⊎_elim
      (λ new. inl (ap (λ (y : Drawer). y.number) (sym new.1)))
      (λ old. inr old.1)
      (at_set (map drawer_of c.views) other i (drawer_of gone) r (rw drawers at e)))
