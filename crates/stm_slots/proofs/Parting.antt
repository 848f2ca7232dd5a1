-- The rule of the slots outlasts that a view takes a thread's number, that one is split, and that two are joined.
use Rattle.std.proofs.Common.{◌≡◌, ℕ, ◌+◌, true, List, [], ◌∷◌, ◌++◌, get_or, set, refl, sym, ap, ◌∙◌, subst, ⊎_elim, arith}
use Rattle.std.specs.Prelude.{Some, None}
use Rattle.std.proofs.lemmas.Bool.{true≢false, false≢true}
use Rattle.std.proofs.lemmas.List.{map-set, map-append}
use mathlib.Core.Option.{Option as Maybe, some}
use mathlib.Core.Logic.{dite}
use native.Mathlib.Decide.{dec_lt}
use lib.ListN.{get_elem?}
use Rattle.pmem_trait.specs.Sights.{Sight}
use Rattle.pmem_trait.specs.declared.medium.Medium.{Ghosts}
use Rattle.core_events.specs.Setups.{Setup}
use Rattle.core_events.specs.Words.{State}
use Rattle.core_events.specs.Events.{Event, number, begin, extend, look, load, check, finish, take, draw, decide, store, release, restore, see_box, post, take_turn, give_turn, see_full, empty_box, raise_durable, raise_reproduced, entry, pin, unpin, touch, load_touch, evict, fill, show, view_after}
use Rattle.core_events.specs.Conditions.{after}
use Rattle.core_events.specs.Partings.{newcomer, left_of, both_of, spent, split, join}
use Rattle.core_events.proofs.Lists.{at_map, unmoved, set_else, set_here, there}
use Rattle.core_events.proofs.Threads.{or_cases}
use Rattle.core_table.specs.Layout.{TableSight}
use Rattle.core_table.specs.Rules.{Outlasts, OutlastsSplit, OutlastsJoin}
use Rattle.stm_slots.specs.Beside.{Beside, nothing_beside}
use Rattle.stm_slots.specs.Stage.{Owner, Stage, owner_of, stage_of}
use Rattle.stm_slots.specs.Queues.{place_at, OwnsQueue}
use Rattle.stm_slots.specs.Opening.{setup_of}
use Rattle.stm_slots.specs.Rule.{SlotsKept, SlotsKeptBy}
use Rattle.stm_slots.specs.declared.slot.Slot.{Slot}
use Rattle.stm_slots.specs.declared.opening.Opening.{Opening}
use Rattle.stm_slots.proofs.Queueing.{place_here}
use Rattle.stm_slots.specs.QuietSteps.{is_quiet, LawOfQuietSteps}
use Rattle.stm_slots.proofs.Quiet.{begin_quiet, extend_quiet, look_quiet, load_quiet, check_quiet, finish_quiet, take_quiet, decide_quiet, store_quiet, release_quiet, restore_quiet, see_box_quiet, entry_quiet, touch_quiet, load_touch_quiet, fill_quiet}
use Rattle.stm_slots.proofs.Pinning.{pin_outlasts, unpin_outlasts}
use Rattle.stm_slots.proofs.Owning.{IsLike, idler, changed, beside_changed, added}

module _ {M : Type 0} {ghosts : Ghosts M} (sight : M → Sight) (o : Opening M ghosts) where
  abbrev z : Setup
  z = setup_of sight o

  abbrev fact : State → List Beside → List (Maybe (Slot M ghosts)) → Type 0
  fact c xs homes = SlotsKept sight o (stage_of c) xs homes

  no_thread : (t : ℕ) → None ≡ Some t → ⊥
  no_thread t e = cc

  the_same : (a b : ℕ) → Some a ≡ Some b → a ≡ b
  the_same a b e = cc

  -- ---- a thread's number is taken
  pub number_outlasts : Outlasts fact z number
  number_outlasts c id v xs homes k allowed f =
      let s = stage_of c in let kept = f.kept in let t0 : ℕ = c.threads in let u : Owner = owner_of v in let w : Owner = record u { thread = Some t0 } in let none : v.part.thread ≡ None = allowed.may.can in
      let at_v = at_map owner_of c.views id v allowed.is_there in
      let free : u.number ≡ 0 = dite (dec_lt 0 u.number) (λ pos. absurd (let d = kept.boxes.opened id u at_v pos in no_thread d.0 (sym none ∙ d.1))) (λ ge. omega arith) in
      let start : place_at z (get_or f.hands.next t0 0) (kept.count t0) ≡ 0 = (let q = kept.queues.unused t0 (omega arith) in ap (λ p. place_at z p (kept.count t0)) q.0 ∙ (ap (place_at z 0) q.1 ∙ place_here z 0 k.layers.turn.some_box)) in
      let owns : OwnsQueue z c.boxes f.hands.next kept.count w = record {
        behind = λ t e. (kept.queues.owners id u at_v).newcomer none ∙ (sym start ∙ ap (λ d. place_at z (get_or f.hands.next d 0) (kept.count d)) (the_same t0 t e));
        over = λ t i e pos lt. absurd (omega arith);
        newcomer = λ e. absurd (no_thread t0 (sym e));
      } in
      let like : IsLike w u = record { number = refl; turn = refl; thread = λ pos. absurd (omega arith); next = λ pos. refl } in
      let same : stage_of (after z c id v number) ≡ record s { threads = t0 + 1; owners = set s.owners id w } = ap (λ os. record s { threads = t0 + 1; owners = os }) (map-set owner_of c.views id (view_after z number v t0)) in
      record { hands = f.hands; kept = subst (λ st. SlotsKeptBy sight o st xs homes f.hands) (sym same) (changed sight o s xs homes f.hands kept id u w at_v like (λ met. kept.lists.fault id u at_v met) owns (t0 + 1) (omega arith)) }

  -- ---- a view is split
  pub split_outlasts : (draws : ℕ) → OutlastsSplit fact z draws nothing_beside
  split_outlasts draws c id v xs homes k may f =
      let s = stage_of c in
      let same : stage_of (split z c id v draws) ≡ record s { owners = s.owners ++ idler ∷ [] } =
      ap (λ os. record s { owners = os }) (map-append owner_of (set c.views id (left_of draws v)) (newcomer z 0 draws ∷ []) ∙ ap (λ os. os ++ idler ∷ []) (unmoved owner_of c.views id v (left_of draws v) may.is_there refl)) in
      record { hands = f.hands; kept = subst (λ st. SlotsKeptBy sight o st (xs ++ nothing_beside ∷ []) homes f.hands) (sym same) (added sight o s xs homes f.hands f.kept) }

  -- ---- two are joined
  pub join_outlasts : OutlastsJoin fact z nothing_beside
  join_outlasts c who other v w xs homes k may f =
      let s = stage_of c in let kept = f.kept in let u : Owner = owner_of v in let d : Owner = owner_of w in let both : Owner = owner_of (both_of v w) in
      let at_v = at_map owner_of c.views who v may.is_there in let at_w = at_map owner_of c.views other w may.other_there in
      let old = kept.queues.owners who u at_v in
      let owns : OwnsQueue z c.boxes f.hands.next kept.count both = record { behind = old.behind; over = old.over; newcomer = old.newcomer } in
      let fault : both.met_fault ≡ true → f.hands.lists.state.dead ≡ true = (λ met. ⊎_elim (kept.lists.fault who u at_v) (kept.lists.fault other d at_w) (or_cases v.turn.met_fault w.turn.met_fault met)) in
      let one = changed sight o s xs homes f.hands kept who u both at_v (record { number = refl; turn = refl; thread = λ pos. refl; next = λ pos. refl }) fault owns c.threads (omega arith) in
      let s1 : Stage = record s { owners = set s.owners who both } in
      let at_other : get_elem? s1.owners other ≡ some d = set_else s.owners who other both may.apart ∙ at_w in
      let gone : OwnsQueue z c.boxes f.hands.next one.count idler = record { behind = λ t e. absurd (no_thread t e); over = λ t i e pos lt. absurd (omega arith); newcomer = λ e. refl } in
      let like : IsLike idler d = record { number = sym may.other_idle.no_number; turn = sym may.no_turn; thread = λ pos. absurd (let e = may.other_idle.no_number in omega arith); next = λ pos. absurd (let e = may.other_idle.no_number in omega arith) } in
      let two = changed sight o s1 xs homes f.hands one other d idler at_other like (λ met. absurd (true≢false (sym met))) gone c.threads (omega arith) in
      let s2 : Stage = record s1 { owners = set s1.owners other idler } in
      let three = beside_changed sight o s2 xs homes f.hands two other idler nothing_beside (set_here s1.owners other idler (there s1.owners other d at_other)) refl in
      let same : stage_of (join z c who v other w) ≡ s2 = ap (λ os. record s { owners = os }) (map-set owner_of (set c.views who (both_of v w)) other (spent z) ∙ ap (λ os. set os other idler) (map-set owner_of c.views who (both_of v w))) in
      record { hands = f.hands; kept = subst (λ st. SlotsKeptBy sight o st (set xs other nothing_beside) homes f.hands) (sym same) three }

  -- ---- all quiet events
  pub quiet_outlasts : (e : Event) → is_quiet e ≡ true → Outlasts fact z e
  quiet_outlasts number e = number_outlasts
  quiet_outlasts begin e = begin_quiet sight o
  quiet_outlasts extend e = extend_quiet sight o
  quiet_outlasts (look k) e = look_quiet sight o k
  quiet_outlasts (load i) e = load_quiet sight o i
  quiet_outlasts (check k) e = check_quiet sight o k
  quiet_outlasts (finish a) e = finish_quiet sight o a
  quiet_outlasts (take k) e = take_quiet sight o k
  quiet_outlasts (draw a ws) e = absurd (false≢true e)
  quiet_outlasts decide e = decide_quiet sight o
  quiet_outlasts (store i) e = store_quiet sight o i
  quiet_outlasts (release k) e = release_quiet sight o k
  quiet_outlasts (restore k) e = restore_quiet sight o k
  quiet_outlasts see_box e = see_box_quiet sight o
  quiet_outlasts post e = absurd (false≢true e)
  quiet_outlasts take_turn e = absurd (false≢true e)
  quiet_outlasts (give_turn failed) e = absurd (false≢true e)
  quiet_outlasts (see_full t j) e = absurd (false≢true e)
  quiet_outlasts (empty_box t j) e = absurd (false≢true e)
  quiet_outlasts (raise_durable x) e = absurd (false≢true e)
  quiet_outlasts (raise_reproduced x) e = absurd (false≢true e)
  quiet_outlasts (entry p) e = entry_quiet sight o p
  quiet_outlasts (pin p) e = pin_outlasts sight o p
  quiet_outlasts (unpin p) e = unpin_outlasts sight o p
  quiet_outlasts (touch p) e = touch_quiet sight o p
  quiet_outlasts (load_touch p) e = load_touch_quiet sight o p
  quiet_outlasts (evict p) e = absurd (false≢true e)
  quiet_outlasts (fill p f i x) e = fill_quiet sight o p f i x
  quiet_outlasts (show p f) e = absurd (false≢true e)

pub quiet_steps : {M : Type 0} {ghosts : Ghosts M} (sight : M → Sight) (t : TableSight (Opening M ghosts)) → t.setup ≡ setup_of sight t.key → LawOfQuietSteps sight t
quiet_steps sight t is = record {
  setup = is;
  events = λ e quiet. rw is (quiet_outlasts sight t.key e quiet);
  splits = λ draws. rw is (split_outlasts sight t.key draws);
  joins = rw is (join_outlasts sight t.key);
}
