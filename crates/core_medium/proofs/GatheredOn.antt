-- What may be gathered into a bundle still may, with the same bundle, after every event.
use Rattle.std.proofs.Common.{◌≡◌, ◌≢◌, ℕ, zero, suc, ◌<◌, ◌≤◌, List, [], ◌∷◌, get_or, set, refl, ap, ◌∙◌, arith, get_or-set_other}
use Rattle.std.proofs.lemmas.List.{set-get_or}
use mathlib.Core.Logic.{dite}
use native.Mathlib.Decide.{ℕ_discrete}
use Rattle.dude_base.specs.Records.{RedoRecord, RedoBundle, bundle_of, with_next}
use Rattle.redo_record.specs.LogState.{LogState}
use Rattle.core_events.specs.Setups.{Setup, box_of}
use Rattle.core_events.specs.Views.{View}
use Rattle.core_events.specs.Words.{State}
use Rattle.core_events.specs.Events.{Event, see_box, post, see_full, empty_box, next_box}
use Rattle.core_events.specs.Conditions.{IsAllowed, after, record_of, no_record}
use Rattle.core_events.specs.Ghosts.{Ghost}
use Rattle.core_events.specs.Kept.{LayersKept}
use Rattle.core_events.proofs.Lists.{set_here}
use Rattle.core_events.proofs.Boxes.{box_same, read_there}
use Rattle.core_medium.specs.KeptLog.{IsOnMedium}
use Rattle.core_medium.specs.BoxBundles.{boxed, IsUnpersisted, joined, AllJoin, bundle_in, MayGather}
use Rattle.core_medium.specs.HistoryLaws.{EmptiesPersisted}
use Rattle.core_medium.proofs.Posted.{PostBox, post_box}

module _ (z : Setup) (boxes boxes2 : List ℕ) (records records2 : List RedoRecord) (l : LogState)
    (stay : (t j : ℕ) → IsUnpersisted z boxes l t j → (get_or boxes2 (box_of z t j) 0 ≡ get_or boxes (box_of z t j) 0) × (boxed z records2 t j ≡ boxed z records t j)) where
  unpersisted_on : (t j : ℕ) → IsUnpersisted z boxes l t j → IsUnpersisted z boxes2 l t j
  unpersisted_on t j u = let s = stay t j u in record { thread = u.thread; place = u.place; full = rw s.0 u.full; absent = rw s.0 u.absent }

  join_on : (more : List (ℕ × ℕ)) (b : RedoBundle) → AllJoin z boxes records l b more → AllJoin z boxes2 records2 l b more × (joined z records2 b more ≡ joined z records b more)
  join_on [] b all = (tt, refl)
  join_on (p ∷ ps) b all =
      let s = stay p.0 p.1 all.0 in
      let rest = join_on ps (with_next b (boxed z records p.0 p.1)) all.2 in
      ((unpersisted_on p.0 p.1 all.0, rw s.1 all.1, rw s.1 rest.0), rw s.1 rest.1)

  gather_by : (t j : ℕ) (more : List (ℕ × ℕ)) → MayGather z boxes records l t j more
      → ((x : ℕ) → x < z.boxes → 0 < get_or boxes2 (box_of z t x) 0 → get_or boxes (box_of z t j) 0 ≤ get_or boxes2 (box_of z t x) 0)
      → MayGather z boxes2 records2 l t j more × (bundle_in z records2 t j more ≡ bundle_in z records t j more)
  gather_by t j more m least =
      let s = stay t j m.first in
      let rest = join_on more (bundle_of (boxed z records t j)) m.join in
      (record { first = unpersisted_on t j m.first; least = λ x lx pos. rw s.0 (least x lx pos); join = rw s.1 rest.0 }, rw s.1 rest.1)

module _ (z : Setup) (g : Ghost) (c : State) (k : LayersKept z g c) (l : LogState) (who : ℕ) (v : View) where
  -- a record is put into an empty box, with a number over all in its thread's boxes
  module _ (a : IsAllowed z c who post v) where
    abbrev b : ℕ
    b = next_box z v

    abbrev n : ℕ
    n = v.tx.hand.number

    p : PostBox z c v
    p = post_box z g c k who v a

    post_stays : (t j : ℕ) → IsUnpersisted z c.boxes l t j
        → (get_or (set c.boxes b n) (box_of z t j) 0 ≡ get_or c.boxes (box_of z t j) 0) × (get_or (set c.records b (record_of v.tx.hand)) (box_of z t j) no_record ≡ get_or c.records (box_of z t j) no_record)
    post_stays t j u =
        let zero_there : get_or c.boxes b 0 ≡ 0 = read_there c.boxes b 0 p.empty in
        let full = u.full in
        let other : box_of z t j ≢ b = λ same. (let e : get_or c.boxes (box_of z t j) 0 ≡ 0 = ap (λ (x : ℕ). get_or c.boxes x 0) same ∙ zero_there in omega arith) in
        (get_or-set_other c.boxes b (box_of z t j) n 0 other, get_or-set_other c.records b (box_of z t j) (record_of v.tx.hand) no_record other)

    post_gathers : (t j : ℕ) (more : List (ℕ × ℕ)) → MayGather z c.boxes c.records l t j more
        → MayGather z (set c.boxes b n) (set c.records b (record_of v.tx.hand)) l t j more × (bundle_in z (set c.records b (record_of v.tx.hand)) t j more ≡ bundle_in z c.records t j more)
    post_gathers t j more m = gather_by z c.boxes (set c.boxes b n) c.records (set c.records b (record_of v.tx.hand)) l post_stays t j more m (λ x lx pos. dite (ℕ_discrete (box_of z t x) b)
        (λ hit.
        let at = box_same z.boxes t p.thread x v.box.next lx p.place (hit ∙ p.box_is) in
        let new : get_or (set c.boxes b n) (box_of z t x) 0 ≡ n = read_there (set c.boxes b n) (box_of z t x) n (rw hit (set_here c.boxes b n p.inside)) in
        let less : get_or c.boxes (box_of z p.thread j) 0 < n = (k.order.each who v a.is_there).over p.thread j p.thread_is m.first.place p.drew in
        let same : get_or c.boxes (box_of z t j) 0 ≡ get_or c.boxes (box_of z p.thread j) 0 = ap (λ (y : ℕ). get_or c.boxes (box_of z y j) 0) at.0 in
        omega arith)
        (λ miss. let old : get_or (set c.boxes b n) (box_of z t x) 0 ≡ get_or c.boxes (box_of z t x) 0 = get_or-set_other c.boxes b (box_of z t x) n 0 miss in let le = m.least x lx (rw old at pos) in omega arith))

  -- a record whose number is on the medium leaves its box
  module _ (t0 j0 : ℕ) (there : IsOnMedium l (get_or c.boxes (box_of z t0 j0) 0)) where
    abbrev gone : ℕ
    gone = box_of z t0 j0

    zeroed : (xs : List ℕ) (i : ℕ) → get_or (set xs i 0) i 0 ≡ 0
    zeroed [] i = refl
    zeroed (x ∷ xs) zero = refl
    zeroed (x ∷ xs) (suc i) = zeroed xs i

    empty_stays : (t j : ℕ) → IsUnpersisted z c.boxes l t j
        → (get_or (set c.boxes gone 0) (box_of z t j) 0 ≡ get_or c.boxes (box_of z t j) 0) × (get_or (set c.records gone no_record) (box_of z t j) no_record ≡ get_or c.records (box_of z t j) no_record)
    empty_stays t j u =
        let other : box_of z t j ≢ gone = λ same. u.absent (rw same there) in
        (get_or-set_other c.boxes gone (box_of z t j) 0 0 other, get_or-set_other c.records gone (box_of z t j) no_record no_record other)

    empty_gathers : (t j : ℕ) (more : List (ℕ × ℕ)) → MayGather z c.boxes c.records l t j more
        → MayGather z (set c.boxes gone 0) (set c.records gone no_record) l t j more × (bundle_in z (set c.records gone no_record) t j more ≡ bundle_in z c.records t j more)
    empty_gathers t j more m = gather_by z c.boxes (set c.boxes gone 0) c.records (set c.records gone no_record) l empty_stays t j more m (λ x lx pos. dite (ℕ_discrete (box_of z t x) gone)
        (λ hit. absurd (let new : get_or (set c.boxes gone 0) (box_of z t x) 0 ≡ 0 = rw hit (zeroed c.boxes gone) in omega arith))
        (λ miss. let old : get_or (set c.boxes gone 0) (box_of z t x) 0 ≡ get_or c.boxes (box_of z t x) 0 = get_or-set_other c.boxes gone (box_of z t x) 0 0 miss in let le = m.least x lx (rw old at pos) in omega arith))

  pub gathers_on : (e : Event) → IsAllowed z c who e v → EmptiesPersisted z e c l → (t j : ℕ) (more : List (ℕ × ℕ)) → MayGather z c.boxes c.records l t j more
      → MayGather z (after z c who v e).boxes (after z c who v e).records l t j more × (bundle_in z (after z c who v e).records t j more ≡ bundle_in z c.records t j more)
  gathers_on post a on t j more m = post_gathers a t j more m
  gathers_on (empty_box t0 j0) a on t j more m = empty_gathers t0 j0 on t j more m
  gathers_on see_box a on t j more m = rw (set-get_or c.boxes (next_box z v) 0) (m, refl)
  gathers_on (see_full t0 j0) a on t j more m = rw (set-get_or c.boxes (box_of z t0 j0) 0) (m, refl)
  gathers_on e a on t j more m = (m, refl)
