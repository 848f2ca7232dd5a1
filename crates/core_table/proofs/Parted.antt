-- A split of a seat and a join of two keep the rule.
use Rattle.std.proofs.Common.{◌≡◌, ℕ, ◌<◌, List, [], ◌∷◌, ◌++◌, map, set, sym, ap, ◌∙◌, arith}
use Rattle.std.proofs.lemmas.List.{map-set, map-append}
use mathlib.Core.Option.{Option, some}
use lib.ListN.{get_elem?}
use Rattle.atomic_table.specs.Table.{Splits, Joins}
use Rattle.core_events.specs.Setups.{Setup}
use Rattle.core_events.specs.Views.{View}
use Rattle.core_events.specs.Words.{State}
use Rattle.core_events.specs.Partings.{newcomer, left_of, both_of, spent, MaySplit, MayJoin, split, join}
use Rattle.core_events.specs.Telling.{IsSeated}
use Rattle.core_events.proofs.Lists.{set_again, set_else, at_map}
use Rattle.core_events.proofs.Keeps.{split_keeps, join_keeps}
use Rattle.atomic_table.specs.Seated.{TableId}
use Rattle.core_table.specs.Places.{count}
use Rattle.core_table.specs.Layout.{TableSight}
use Rattle.core_table.specs.Known.{Known, known_with, view_of, beside_of}
use Rattle.core_table.specs.Rules.{Holds, OutlastsSplit, OutlastsJoin}
use Rattle.core_table.specs.Seats.{CanSplit, CanJoin, known_left, known_both}

module _ {S X : Type 0} (slot_fact : State → List X → List (Option S) → Type 0) (z : Setup) (x : X) where
  pub by_split : (id draws : ℕ) (k : Known X) → CanSplit k.view draws → OutlastsSplit slot_fact z draws x → Splits (Holds slot_fact z) id k (known_left draws k) (known_with (newcomer z 0 draws) x)
  by_split id draws k can outlasts s h at =
      let c : State = h.core in let new : Known X = known_with (newcomer z 0 draws) x in
      let is_there : get_elem? c.views id ≡ some k.view = rw (← h.views) (at_map view_of s.views id k at) in
      let may : MaySplit c id k.view draws = record { is_there = is_there; live = can.live; split_left = can.split_left; draws_left = can.draws_left } in
      record {
        core = split z c id k.view draws;
        words = h.words;
        views = map-append view_of (set s.views id (known_left draws k)) (new ∷ [])
            ∙ ap (λ (l : List View). l ++ newcomer z 0 draws ∷ []) (map-set view_of s.views id (known_left draws k) ∙ ap (λ (l : List View). set l id (left_of draws k.view)) h.views);
        kept = split_keeps z c id draws k.view h.kept may;
        slots = rw (map-append beside_of (set s.views id (known_left draws k)) (new ∷ []) ∙ ap (λ (l : List X). l ++ x ∷ []) (map-set beside_of s.views id (known_left draws k) ∙ set_again (map beside_of s.views) id k.beside (at_map beside_of s.views id k at)))
            (outlasts c id k.view (map beside_of s.views) s.homes h.kept may h.slots);
      }

  pub by_join : (id other : ℕ) (k l : Known X) → CanJoin k.view l.view → OutlastsJoin slot_fact z x → Joins (Holds slot_fact z) id k other l (known_both k l) (known_with (spent z) x)
  by_join id other k l can outlasts s h at apart at2 =
      let c : State = h.core in let gone : Known X = known_with (spent z) x in let both : Known X = known_both k l in
      let is_there : get_elem? c.views id ≡ some k.view = rw (← h.views) (at_map view_of s.views id k at) in
      let before : get_elem? s.views other ≡ some l = sym (set_else s.views id other both apart) ∙ at2 in
      let other_there : get_elem? c.views other ≡ some l.view = rw (← h.views) (at_map view_of s.views other l before) in
      let may : MayJoin c id k.view other l.view = record { is_there = is_there; live = can.live; apart = apart; other_there = other_there; other_live = can.other_live; other_idle = can.other_idle; no_turn = can.no_turn } in
      record {
        core = join z c id k.view other l.view;
        words = h.words;
        views = map-set view_of (set s.views id both) other gone
            ∙ ap (λ (m : List View). set m other (spent z)) (map-set view_of s.views id both ∙ ap (λ (m : List View). set m id (both_of k.view l.view)) h.views);
        kept = join_keeps z c id other k.view l.view h.kept may;
        slots = rw (map-set beside_of (set s.views id both) other gone ∙ ap (λ (m : List X). set m other x) (map-set beside_of s.views id both ∙ set_again (map beside_of s.views) id k.beside (at_map beside_of s.views id k at)))
            (outlasts c id other k.view l.view (map beside_of s.views) s.homes h.kept may h.slots);
      }

-- the view of a seat that was split is as views of a kept state are
pub seated_left : (z : Setup) (draws : ℕ) (v : View) → IsSeated z v → IsSeated z (left_of draws v)
seated_left z draws v s =
    record { thread = s.thread; snapshot = s.snapshot; owned = s.owned; number = s.number; no_number = s.no_number; pins = s.pins; next = s.next; entries = s.entries; draws = omega (arith, s.draws); splits = omega (arith, s.splits) }

-- a table has a word
pub some_word : {K : Type 0} (t : TableSight K) (z : Setup) (id : TableId) → id.words ≡ count z → 0 < id.words
some_word t z id wide = omega arith
