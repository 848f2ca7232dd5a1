-- A number is decided, its writes are stored, and it is posted.
use Rattle.std.proofs.Common.{◌≡◌, ℕ, suc, ◌-◌, ◌<◌, true, List, [], ◌∷◌, ◌++◌, length, get_or, refl, sym, ap, ◌∙◌, subst, inl, arith}
use Rattle.std.specs.Prelude.{Some, is_some}
use Rattle.std.specs.List.{All, slice_get}
use Rattle.std.proofs.lemmas.Option.{get_or_from_slice_get}
use Rattle.std.proofs.lemmas.Bool.{true≢false}
use Rattle.dude_base.specs.declared.write.Write.{Write}
use Rattle.core_events.specs.Setups.{Setup, lock_of}
use Rattle.core_events.specs.Keyed.{find, has}
use Rattle.core_events.specs.Views.{View, Hand, Part, Paging}
use Rattle.core_events.specs.Events.{decide, post, first_lock, place_behind, view_after}
use Rattle.core_events.specs.Conditions.{May}
use Rattle.stm_transactions.specs.Pages.{IsWrittenPage}
use Rattle.stm_transactions.specs.Settles.{IsLeaving, IsPosted, IsReleasing, IsStoring, IsTouching, MayDecide}
use Rattle.stm_transactions.specs.Pairs.{pairs_of}
use Rattle.stm_transactions.specs.Seats.{IsLive}
use Rattle.stm_transactions.proofs.Pins.{still_live}

first_behind : (xs : List (ℕ × ℕ)) (p : ℕ × ℕ) → 0 < length xs → first_lock (xs ++ p ∷ []) ≡ first_lock xs
first_behind [] p lt = absurd (omega arith)
first_behind (x ∷ xs) p lt = refl

some_pair : (w : Write) (ws : List Write) → 0 < length (pairs_of (w ∷ ws))
some_pair w ws = behind (pairs_of ws)
  where
    behind : (xs : List (ℕ × ℕ)) → 0 < length (xs ++ (w.at, w.value) ∷ [])
    behind [] = omega arith
    behind (x ∷ xs) = omega arith

-- the last write is the first pair
pub first_is_last : (ws : List Write) (d : Write) → 0 < length ws → (get_or ws (length ws - 1) d).at ≡ first_lock (pairs_of ws)
first_is_last [] d lt = absurd (omega arith)
first_is_last (w ∷ []) d lt = refl
first_is_last (w ∷ x ∷ ws) d lt =
    let n : length (w ∷ x ∷ ws) - 1 ≡ suc (length (x ∷ ws) - 1) = omega arith in
    ap (λ (k : ℕ). (get_or (w ∷ x ∷ ws) k d).at) n ∙ (first_is_last (x ∷ ws) d (omega arith) ∙ sym (first_behind (pairs_of (x ∷ ws)) (w.at, w.value) (some_pair x ws)))

module _ (z : Setup) (thread number : ℕ) (ws held frames : List Write) (v : View) (m : MayDecide z thread number ws held frames v) where
  pub decide_may : May z decide v
  decide_may = record { live = m.of.live; threaded = (thread, m.of.its); named = tt; can = (m.undecided, m.good) }

  pub newest_is : (w : Write) → slice_get held (length held - 1) ≡ Some w → w.at ≡ first_lock v.tx.owned
  newest_is w is = ap (λ (y : Write). y.at) (sym (get_or_from_slice_get held (length held - 1) w w is)) ∙ (first_is_last held w m.some_lock ∙ ap first_lock (sym m.owned_are))

  module _ (n : ℕ) (v1 : View) (is1 : v1 ≡ view_after z decide v n) where
    live1 : IsLive v1
    live1 = still_live v v1 (ap (λ (u : View). u.part) is1) (record { live = m.of.live; threaded = (thread, m.of.its) })

    owned1 : v1.tx.owned ≡ pairs_of held
    owned1 = ap (λ (u : View). u.tx.owned) is1 ∙ m.owned_are

    pub storing : IsStoring z ws frames v1
    storing = record {
      its = live1;
      decided = ap (λ (u : View). u.tx.hand.decided) is1;
      writes_are = ap (λ (u : View). u.tx.hand.writes) is1 ∙ m.writes_are;
      pins_are = ap (λ (u : View). u.paging.pins) is1 ∙ m.pins_are;
      inside = m.inside;
      covered = subst (λ (l : List (ℕ × ℕ)). All (λ w. is_some (find l (lock_of z w.at)) ≡ true) ws) (sym owned1) m.covered;
      paged = m.paged;
    }

    module _ (v2 : View) (is2 : v2 ≡ record v1 { tx = record v1.tx { hand = record v1.tx.hand { stored = v2.tx.hand.stored } } }) where
      writes2 : v2.tx.hand.writes ≡ ws
      writes2 = ap (λ (u : View). u.tx.hand.writes) is2 ∙ storing.writes_are

      pub touching : IsTouching number frames v2
      touching = record {
        its = still_live v1 v2 (ap (λ (u : View). u.part) is2) live1;
        decided = ap (λ (u : View). u.tx.hand.decided) is2 ∙ storing.decided;
        number_is = ap (λ (u : View). u.tx.hand.number) is2 ∙ (ap (λ (u : View). u.tx.hand.number) is1 ∙ m.number_is);
        pins_are = ap (λ (u : View). u.paging.pins) is2 ∙ storing.pins_are;
        written_pages = subst (λ (l : List Write). All (IsWrittenPage l) frames) (sym writes2) m.written_pages;
      }

      module _ (stored : All (λ w. has v2.tx.hand.stored w.at ≡ true) ws) (v3 : View) (is3 : v3 ≡ record v2 { paging = record v2.paging { touched = v3.paging.touched } }) where
        hand3 : v3.tx.hand ≡ v2.tx.hand
        hand3 = ap (λ (u : View). u.tx.hand) is3

        stored3 : All (λ w. has v3.tx.hand.stored w.at ≡ true) v3.tx.hand.writes
        stored3 = subst (λ (h : Hand). All (λ w. has h.stored w.at ≡ true) h.writes) (sym hand3) (subst (λ (l : List Write). All (λ w. has v2.tx.hand.stored w.at ≡ true) l) (sym writes2) stored)

        pub releasing : IsReleasing number held v3
        releasing = record {
          its = still_live v2 v3 (ap (λ (u : View). u.part) is3) touching.its;
          decided = ap (λ (h : Hand). h.decided) hand3 ∙ touching.decided;
          number_is = ap (λ (h : Hand). h.number) hand3 ∙ touching.number_is;
          owned_are = ap (λ (u : View). u.tx.owned) is3 ∙ (ap (λ (u : View). u.tx.owned) is2 ∙ owned1);
          stored = stored3;
        }

        module _ (touched : All (λ f. has v3.paging.touched f.at ≡ true) frames) (v4 : View) (is4 : v4 ≡ record v3 { tx = record v3.tx { owned = [] } }) where
          hand4 : v4.tx.hand ≡ v3.tx.hand
          hand4 = ap (λ (u : View). u.tx.hand) is4

          pub leaving : IsLeaving frames v4
          leaving = record {
            its = still_live v3 v4 (ap (λ (u : View). u.part) is4) releasing.its;
            pins_are = ap (λ (u : View). u.paging.pins) is4 ∙ (ap (λ (u : View). u.paging.pins) is3 ∙ touching.pins_are);
            not_undecided = λ u. true≢false (sym (ap (λ (h : Hand). h.decided) hand4 ∙ releasing.decided) ∙ u.not_decided);
            stored = λ d. subst (λ (h : Hand). All (λ w. has h.stored w.at ≡ true) h.writes) (sym hand4) stored3;
            touched = λ d. subst (λ (g : Paging). All (λ f. has g.touched f.at ≡ true) frames) (sym (ap (λ (u : View). u.paging) is4)) touched;
          }

          module _ (v5 : View) (is5 : v5 ≡ record v4 { paging = record v4.paging { pins = [] } }) where
            hand5 : v5.tx.hand ≡ v3.tx.hand
            hand5 = ap (λ (u : View). u.tx.hand) is5 ∙ hand4

            owned5 : v5.tx.owned ≡ []
            owned5 = ap (λ (u : View). u.tx.owned) is5 ∙ ap (λ (u : View). u.tx.owned) is4

            pub post_may : May z post v5
            post_may = let l = still_live v4 v5 (ap (λ (u : View). u.part) is5) leaving.its in record {
              live = l.live;
              threaded = l.threaded;
              named = tt;
              can = (inl (ap (λ (h : Hand). h.decided) hand5 ∙ releasing.decided), owned5, ap (λ (u : View). u.paging.pins) is5);
            }

            pub post_number : v5.tx.hand.number ≡ number
            post_number = ap (λ (h : Hand). h.number) hand5 ∙ releasing.number_is

            part5 : v5.part ≡ v.part
            part5 = ap (λ (u : View). u.part) is5 ∙ (ap (λ (u : View). u.part) is4 ∙ (ap (λ (u : View). u.part) is3 ∙ (ap (λ (u : View). u.part) is2 ∙ ap (λ (u : View). u.part) is1)))

            pub post_thread : v5.part.thread ≡ Some thread
            post_thread = ap (λ (q : Part). q.thread) part5 ∙ m.of.its

            pub next_is : v5.box.next ≡ v.box.next
            next_is = ap (λ (u : View). u.box.next) is5 ∙ (ap (λ (u : View). u.box.next) is4 ∙ (ap (λ (u : View). u.box.next) is3 ∙ (ap (λ (u : View). u.box.next) is2 ∙ ap (λ (u : View). u.box.next) is1)))

            pub posted : (v6 : View) → v6 ≡ view_after z post v5 0 → IsPosted z v v6
            posted v6 is6 = record {
              part = ap (λ (u : View). u.part) is6 ∙ part5;
              draws = ap (λ (u : View). u.draws) is6 ∙ (ap (λ (u : View). u.draws) is5 ∙ (ap (λ (u : View). u.draws) is4 ∙ (ap (λ (u : View). u.draws) is3 ∙ (ap (λ (u : View). u.draws) is2 ∙ ap (λ (u : View). u.draws) is1))));
              drawn = ap (λ (u : View). u.drawn) is6 ∙ (ap (λ (u : View). u.drawn) is5 ∙ (ap (λ (u : View). u.drawn) is4 ∙ (ap (λ (u : View). u.drawn) is3 ∙ (ap (λ (u : View). u.drawn) is2 ∙ ap (λ (u : View). u.drawn) is1))));
              turn = ap (λ (u : View). u.turn) is6 ∙ (ap (λ (u : View). u.turn) is5 ∙ (ap (λ (u : View). u.turn) is4 ∙ (ap (λ (u : View). u.turn) is3 ∙ (ap (λ (u : View). u.turn) is2 ∙ ap (λ (u : View). u.turn) is1))));
              entries = ap (λ (u : View). u.entries) is6 ∙ (ap (λ (u : View). u.entries) is5 ∙ (ap (λ (u : View). u.entries) is4 ∙ (ap (λ (u : View). u.entries) is3 ∙ (ap (λ (u : View). u.entries) is2 ∙ ap (λ (u : View). u.entries) is1))));
              idle = record {
                no_number = ap (λ (u : View). u.tx.hand.number) is6;
                no_lock = ap (λ (u : View). u.tx.owned) is6 ∙ owned5;
                no_pin = ap (λ (u : View). u.paging.pins) is6 ∙ ap (λ (u : View). u.paging.pins) is5;
              };
              next = ap (λ (u : View). u.box.next) is6 ∙ ap (λ (k : ℕ). place_behind z k) next_is;
            }
