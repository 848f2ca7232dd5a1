-- The layer of locks and reads is kept, and what each event may do to what others know.
use Rattle.std.proofs.Common.{◌≡◌, ℕ, Bool, true, false, [], get_or, refl, eq-eqb, ne_eqb}
use Rattle.std.specs.Prelude.{None}
use Rattle.std.proofs.lemmas.List.{set-get_or}
use mathlib.Core.Logic.{dite}
use native.Mathlib.Decide.{ℕ_discrete}
use Rattle.core_events.specs.Setups.{Setup}
use Rattle.core_events.specs.Views.{Transaction, View}
use Rattle.core_events.specs.Words.{State, found}
use Rattle.core_events.specs.Events.{Event, number, begin, extend, look, load, check, finish, take, draw, decide, store, release, restore, see_box, post, name, looked_word, is_good, first_lock, all_checked, reaching, view_after}
use Rattle.core_events.specs.Conditions.{IsAllowed, after}
use Rattle.core_events.specs.Partings.{MaySplit, MayJoin, split, join}
use Rattle.core_events.specs.Ghosts.{Ghost, claims_after, ghost_after, ghost_joined}
use Rattle.core_events.specs.Layers.{ThreadsIn, LocksIn}
use Rattle.core_events.proofs.Stays.{Moves, at_rest, alone}
use Rattle.core_events.proofs.Reading.{begin_knows, closed_knows, look_knows, load_knows}
use Rattle.core_events.proofs.Checks.{extend_knows, checks, check_moves}
use Rattle.core_events.proofs.Takes.{take_keeps, take_moves}
use Rattle.core_events.proofs.Draws.{draw_keeps, draw_moves}
use Rattle.core_events.proofs.Decides.{decide_keeps, decide_moves}
use Rattle.core_events.proofs.Stores.{store_keeps}
use Rattle.core_events.proofs.Releases.{release_keeps, release_moves, restore_keeps, restore_moves, old_word}
use Rattle.core_events.proofs.Numbering.{number_keeps, post_keeps}
use Rattle.core_events.proofs.LocksParted.{locks_split, locks_join}

pub reaching_hand : (b : Bool) (s : ℕ) (x : Transaction) → (reaching b s x).hand ≡ x.hand
reaching_hand true s x = refl
reaching_hand false s x = refl

module _ (z : Setup) where
  pub locks_keep : (e : Event) (c : State) (id : ℕ) (v : View) (g : Ghost) → ThreadsIn z g c → LocksIn z g c → IsAllowed z c id e v → LocksIn z (ghost_after z g c id v e) (after z c id v e)
  locks_keep number c id v g s k a = number_keeps z g.claims g.thread c.clock c.locks c.views k id v a.is_there (view_after z number v c.threads) c.threads a.may.can refl refl
  locks_keep begin c id v g s k a = alone z g.claims g.thread c.clock c.locks c.views k id v (view_after z begin v c.clock) a.is_there refl refl (begin_knows z g.claims g.thread c.clock c.locks c.views k id v a.is_there a.may.can)
  locks_keep extend c id v g s k a =
      let t = a.may.threaded in
      alone z g.claims g.thread c.clock c.locks c.views k id v (view_after z extend v c.clock) a.is_there (reaching_hand (all_checked z [] v.tx.reads) c.clock (record v.tx { checked = []; loaded = None })) refl (extend_knows z g.claims g.thread c.clock c.locks c.views k c.threads g.home s id t.0 v a.is_there t.1 a.may.can)
  locks_keep (look l) c id v g s k a = rw (set-get_or c.locks l 0)
      (alone z g.claims g.thread c.clock c.locks c.views k id v (view_after z (look l) v (get_or c.locks l 0)) a.is_there refl refl (look_knows z g.claims g.thread c.clock c.locks c.views k id v a.is_there l a.may.named a.may.can))
  locks_keep (load i) c id v g s k a =
      let t = a.may.threaded in let good = a.may.can.1 in
      alone z g.claims g.thread c.clock c.locks c.views k id v (view_after z (load i) v (found c (name z (load i) v))) a.is_there refl refl (load_knows z g.claims g.thread c.clock c.locks c.views k id v a.is_there i (found c (name z (load i) v)) good.0 t.0 t.1 a.may.can.0 good.1 good.2)
  locks_keep (check l) c id v g s k a =
      let t = a.may.threaded in let n : ℕ = get_or c.locks l 0 in rw (set-get_or c.locks l 0)
      (checks z g.claims g.thread c.clock c.locks c.views k c.threads g.home s id t.0 v a.is_there t.1 (view_after z (check l) v n) l a.may.named a.may.can refl refl refl)
  locks_keep (finish b) c id v g s k a = alone z g.claims g.thread c.clock c.locks c.views k id v (view_after z (finish b) v c.threads) a.is_there refl refl
      (closed_knows z g.claims g.thread c.clock c.locks c.views k id v a.is_there v.tx.extension v.tx.reads a.may.can.0.undrawn.no_number a.may.can.1 a.may.can.0.no_extension)
  locks_keep (take l) c id v g s k a =
      let t = a.may.threaded in let n : ℕ = get_or c.locks l 0 in
      dite (ℕ_discrete n (looked_word v.tx.look))
      (λ hit. rw (eq-eqb n (looked_word v.tx.look) hit) (take_keeps z g.claims g.thread c.clock c.locks c.views k c.threads g.home s id t.0 v a.is_there t.1 l a.may.named a.may.can hit _ refl refl refl))
      (λ miss. rw (ne_eqb n (looked_word v.tx.look) miss, set-get_or c.locks l 0) (alone z g.claims g.thread c.clock c.locks c.views k id v _ a.is_there refl refl (look_knows z g.claims g.thread c.clock c.locks c.views k id v a.is_there l a.may.named a.may.can.0)))
  locks_keep (draw b ws) c id v g s k a = draw_keeps z g.claims g.thread c.clock c.locks c.views k id v a.is_there b ws a.may.can
  locks_keep decide c id v g s k a = rw (set-get_or c.locks (first_lock v.tx.owned) 0)
      (decide_keeps z g.claims g.thread c.clock c.locks c.views k id v a.is_there a.may.can.0 (view_after z decide v (found c (name z decide v))) refl refl refl)
  locks_keep (store i) c id v g s k a = store_keeps z g.claims g.thread c.clock c.locks c.views k id v a.is_there (view_after z (store i) v (found c (name z (store i) v))) i refl refl refl a.may.can.0
  locks_keep (release l) c id v g s k a = release_keeps z g.claims g.thread c.clock c.locks c.views k id v a.is_there l a.may.named a.may.can (view_after z (release l) v (get_or c.locks l 0)) refl refl refl
  locks_keep (restore l) c id v g s k a = rw (old_word z g.claims g.thread c.clock c.locks c.views k id v a.is_there l a.may.named a.may.can)
      (restore_keeps z g.claims g.thread c.clock c.locks c.views k id v a.is_there l a.may.named a.may.can (view_after z (restore l) v (get_or c.locks l 0)) refl refl refl)
  locks_keep see_box c id v g s k a = alone z g.claims g.thread c.clock c.locks c.views k id v (view_after z see_box v (found c (name z see_box v))) a.is_there refl refl
      (closed_knows z g.claims g.thread c.clock c.locks c.views k id v a.is_there _ _ a.may.can.no_number a.may.can.no_lock refl)
  locks_keep post c id v g s k a = post_keeps z g.claims g.thread c.clock c.locks c.views k id v a.is_there (view_after z post v (found c (name z post v))) a.may.can refl refl
  locks_keep e c id v g s k a = alone z g.claims g.thread c.clock c.locks c.views k id v (view_after z e v (found c (name z e v))) a.is_there refl refl (k.each id v a.is_there)

  -- what the event may do to what others know
  pub moves : (e : Event) (c : State) (id : ℕ) (v : View) (g : Ghost) → ThreadsIn z g c → LocksIn z g c → IsAllowed z c id e v → Moves z id c.clock g.claims (after z c id v e).clock (claims_after z g.claims c id v e)
  moves (check l) c id v g s k a =
      let t = a.may.threaded in check_moves z g.claims g.thread c.clock c.locks c.views k c.threads g.home s id t.0 v a.is_there t.1 l (is_good v.part.thread v.tx.snapshot (get_or c.locks l 0)) a.may.can
  moves (take l) c id v g s k a =
      let t = a.may.threaded in let n : ℕ = get_or c.locks l 0 in
      dite (ℕ_discrete n (looked_word v.tx.look))
      (λ hit. rw (eq-eqb n (looked_word v.tx.look) hit) (take_moves z g.claims g.thread c.clock c.locks c.views k c.threads g.home s id t.0 v a.is_there t.1 l a.may.named a.may.can hit))
      (λ miss. rw (ne_eqb n (looked_word v.tx.look) miss) (at_rest z id c.clock g.claims))
  moves (draw b ws) c id v g s k a = draw_moves z g.claims g.thread c.clock c.locks c.views k id v a.is_there b ws a.may.can
  moves decide c id v g s k a = decide_moves z g.claims g.thread c.clock c.locks c.views k id v a.is_there a.may.can.0
  moves (release l) c id v g s k a = release_moves z g.claims g.thread c.clock c.locks c.views k id v a.is_there l a.may.named a.may.can
  moves (restore l) c id v g s k a = restore_moves z g.claims g.thread c.clock c.locks c.views k id v a.is_there l a.may.named a.may.can
  moves e c id v g s k a = at_rest z id c.clock g.claims

  pub locks_split_keep : (c : State) (id draws : ℕ) (v : View) (g : Ghost) → LocksIn z g c → MaySplit c id v draws → LocksIn z g (split z c id v draws)
  locks_split_keep c id draws v g k may = locks_split z g.claims g.thread c.clock c.locks c.views k id draws v may.is_there may.draws_left

  pub locks_join_keep : (c : State) (id other : ℕ) (v w : View) (g : Ghost) → LocksIn z g c → MayJoin c id v other w → LocksIn z (ghost_joined g id other) (join z c id v other w)
  locks_join_keep c id other v w g k may = locks_join z g.claims g.thread c.clock c.locks c.views k id other v w may.is_there may.apart may.other_there may.other_idle.no_lock
