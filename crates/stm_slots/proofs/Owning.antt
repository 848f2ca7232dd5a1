-- What becomes of the rule of the slots where a view changes in what no slot depends on, and where a view is added.
use Rattle.std.proofs.Common.{◌≡◌, ◌≢◌, ℕ, ◌+◌, ◌<◌, ◌≤◌, ◌⊎◌, true, false, List, [], ◌∷◌, ◌++◌, set, refl, sym, ap, ◌∙◌, subst, inl, inr, ⊎_elim, arith, length-set}
use Rattle.std.specs.Prelude.{Some, None}
use Rattle.std.proofs.lemmas.Bool.{true≢false, cases_eq}
use Rattle.std.proofs.lemmas.List.{length-append}
use mathlib.Core.Option.{Option as Maybe, none, some, some-injective}
use lib.ListN.{get_elem?}
use Rattle.pmem_trait.specs.Sights.{Sight}
use Rattle.pmem_trait.specs.declared.medium.Medium.{Ghosts}
use Rattle.core_events.specs.Setups.{Setup, box_of}
use Rattle.core_events.proofs.Lists.{there, at_set, set_here, set_else, at_snoc}
use Rattle.core_events.proofs.Threads.{at_longer}
use Rattle.stm_slots.specs.Beside.{Hands, Beside, nothing_beside}
use Rattle.stm_slots.specs.Stage.{Owner, Stage}
use Rattle.stm_slots.specs.Queues.{OwnsQueue}
use Rattle.stm_slots.specs.Opening.{setup_of}
use Rattle.stm_slots.specs.Rule.{SlotsKeptBy}
use Rattle.stm_slots.specs.declared.slot.Slot.{Slot}
use Rattle.stm_slots.specs.declared.opening.Opening.{Opening}
use Rattle.stm_slots.proofs.Listing.{lists_owned}
use Rattle.stm_slots.proofs.Wording.{mapped_on, held_on, reworded}

-- the owner w has the open number and the turn as v has them; its box is the same where it has an open number
pub record IsLike (w v : Owner) : Type 0 where
  pub number : w.number ≡ v.number
  pub turn : w.has_turn ≡ v.has_turn
  pub thread : 0 < v.number → w.thread ≡ v.thread
  pub next : 0 < v.number → w.next ≡ v.next

-- one that has no thread and did nothing
abbrev pub idler : Owner
idler = record { thread = None; number = 0; next = 0; has_turn = false; met_fault = false }

module _ {M : Type 0} {ghosts : Ghosts M} (sight : M → Sight) (o : Opening M ghosts) where
  abbrev z : Setup
  z = setup_of sight o

  module _ (s : Stage) (xs : List Beside) (homes : List (Maybe (Slot M ghosts))) (hands : Hands) (k : SlotsKeptBy sight o s xs homes hands) where
    module _ (id : ℕ) (v w : Owner) (at_v : get_elem? s.owners id ≡ some v) (like : IsLike w v) (fault : w.met_fault ≡ true → hands.lists.state.dead ≡ true) (owns : OwnsQueue z s.boxes hands.next k.count w) (threads : ℕ) (more : s.threads ≤ threads) where
      new_owner : (P : Owner → Type 0) → P w → (j : ℕ) (p : Owner) → get_elem? (set s.owners id w) j ≡ some p → (get_elem? s.owners j ≡ some p → P p) → P p
      new_owner P here j p at old = ⊎_elim (λ e. subst P e.1 here) (λ e. old e.1) (at_set s.owners id j w p at)

      -- the box that an owner has with its open number is still one that an owner has
      still_open : (i j t : ℕ) (p : Owner) → get_elem? s.owners j ≡ some p → 0 < p.number → p.thread ≡ Some t → i ≡ box_of z t p.next
          → (j2 : ℕ) × (t2 : ℕ) × (p2 : Owner) × (get_elem? (set s.owners id w) j2 ≡ some p2) × (0 < p2.number) × (p2.thread ≡ Some t2) × (i ≡ box_of z t2 p2.next)
      still_open i j t p at pos of_t is = by_place (cases_eq j id)
        where
          by_place : (j ≡ id) ⊎ (j ≢ id) → (j2 : ℕ) × (t2 : ℕ) × (p2 : Owner) × (get_elem? (set s.owners id w) j2 ≡ some p2) × (0 < p2.number) × (p2.thread ≡ Some t2) × (i ≡ box_of z t2 p2.next)
          by_place (inl e) =
              let same : p ≡ v = some-injective p v (sym at ∙ (ap (get_elem? s.owners) e ∙ at_v)) in let n = ap (λ (a : Owner). a.number) same in let m = like.number in let pos_v : 0 < v.number = omega arith in (
                id,
                t,
                w,
                set_here s.owners id w (there s.owners id v at_v),
                (let h : 0 < w.number = omega arith in h),
                like.thread pos_v ∙ (ap (λ (a : Owner). a.thread) (sym same) ∙ of_t),
                is ∙ ap (λ b. box_of z t b) (ap (λ (a : Owner). a.next) same ∙ sym (like.next pos_v)),
              )
          by_place (inr other) = (j, t, p, set_else s.owners id j w other ∙ at, pos, of_t, is)

      abbrev s1 : Stage
      s1 = record s { threads = threads; owners = set s.owners id w }

      pub changed : SlotsKeptBy sight o s1 xs homes hands
      changed = record {
        sized = k.sized;
        seats = k.seats ∙ sym (length-set s.owners id w);
        count = k.count;
        queues = record {
          wide = k.queues.wide;
          each = k.queues.each;
          owners = λ j p at. new_owner (OwnsQueue z s.boxes hands.next k.count) owns j p at (k.queues.owners j p);
          unused = λ t le. k.queues.unused t (omega arith);
        };
        lists = lists_owned z s s1 hands.lists hands.boxes k.lists k.lists.durable k.lists.reproduced
            (λ j p at. new_owner (λ q. q.met_fault ≡ true → hands.lists.state.dead ≡ true) fault j p at (k.lists.fault j p))
            (λ alive j t p q at of_t pos among. let r = k.lists.ordered alive in ⊎_elim
            (λ e. let n = ap (λ (a : Owner). a.number) e.1 in let m = like.number in let pos_v : 0 < v.number = omega arith in
            let lt = r.opened id t v q at_v (sym (like.thread pos_v) ∙ (ap (λ (a : Owner). a.thread) e.1 ∙ of_t)) pos_v among in omega arith)
            (λ e. r.opened j t p q e.1 of_t pos among)
            (at_set s.owners id j w p at));
        pages = mapped_on z s s1 hands.map k.pages;
        boxes = record {
          full = k.boxes.full;
          hand = k.boxes.hand;
          free = λ i at. ⊎_elim inl (λ t. inr (still_open i t.0 t.1 t.2 t.3 t.4 t.5 t.6)) (k.boxes.free i at);
          opened = λ j p at pos. ⊎_elim
              (λ e. let n = ap (λ (a : Owner). a.number) e.1 in let m = like.number in let pos_v : 0 < v.number = omega arith in let t = k.boxes.opened id v at_v pos_v in
              let next : box_of z t.0 v.next ≡ box_of z t.0 p.next = ap (λ b. box_of z t.0 b) (sym (like.next pos_v) ∙ ap (λ (a : Owner). a.next) e.1) in
              (t.0, sym (ap (λ (a : Owner). a.thread) e.1) ∙ (like.thread pos_v ∙ t.1), subst (λ i. get_elem? s.boxes i ≡ some 0) next t.2, subst (λ i. get_elem? homes i ≡ some none) next t.3))
              (λ e. k.boxes.opened j p e.1 pos)
              (at_set s.owners id j w p at);
        };
        shown = k.shown;
        home = k.home;
        held = held_on sight o s xs homes hands k id v w at_v like.turn;
      }

    -- what a seat keeps doesn't matter where its view hasn't the turn
    pub beside_changed : (id : ℕ) (v : Owner) (x : Beside) → get_elem? s.owners id ≡ some v → v.has_turn ≡ false → SlotsKeptBy sight o s (set xs id x) homes hands
    beside_changed id v x at_v none_has = reworded sight o s xs homes hands k s (set xs id x) hands k.lists.durable k.lists.reproduced k.shown k.pages (length-set xs id x) k.home
        (λ j p y at at_y has. ⊎_elim
        (λ e. absurd (true≢false (sym has ∙ (ap (λ (a : Owner). a.has_turn) (some-injective p v (sym at ∙ (ap (get_elem? s.owners) e.0 ∙ at_v))) ∙ none_has))))
        (λ e. k.held j p y at e.1 has)
        (at_set xs id j x y at_y))

    abbrev s2 : Stage
    s2 = record s { owners = s.owners ++ idler ∷ [] }

    -- a view is added that did nothing
    pub added : SlotsKeptBy sight o s2 (xs ++ nothing_beside ∷ []) homes hands
    added = record {
      sized = k.sized;
      seats = length-append xs (nothing_beside ∷ []) ∙ (ap (λ (n : ℕ). n + 1) k.seats ∙ sym (length-append s.owners (idler ∷ [])));
      count = k.count;
      queues = record {
        wide = k.queues.wide;
        each = k.queues.each;
        owners = λ j p at. ⊎_elim (λ old. k.queues.owners j p old)
            (λ e. subst (OwnsQueue z s.boxes hands.next k.count) e.0 (record { behind = λ t e2. absurd (no_thread t e2); over = λ t i e2 pos lt. absurd (omega arith); newcomer = λ e2. refl }))
            (at_snoc s.owners idler p j at);
        unused = k.queues.unused;
      };
      lists = lists_owned z s s2 hands.lists hands.boxes k.lists k.lists.durable k.lists.reproduced
          (λ j p at met. ⊎_elim (λ old. k.lists.fault j p old met) (λ e. absurd (true≢false (sym met ∙ sym (ap (λ (a : Owner). a.met_fault) e.0)))) (at_snoc s.owners idler p j at))
          (λ alive j t p q at of_t pos among. ⊎_elim (λ old. (k.lists.ordered alive).opened j t p q old of_t pos among) (λ e. absurd (let n = ap (λ (a : Owner). a.number) e.0 in omega arith)) (at_snoc s.owners idler p j at));
      pages = mapped_on z s s2 hands.map k.pages;
      boxes = record {
        full = k.boxes.full;
        hand = k.boxes.hand;
        free = λ i at. ⊎_elim inl (λ t. inr (t.0, t.1, t.2, at_longer s.owners (idler ∷ []) t.0 t.2 t.3, t.4, t.5, t.6)) (k.boxes.free i at);
        opened = λ j p at pos. ⊎_elim (λ old. k.boxes.opened j p old pos) (λ e. absurd (let n = ap (λ (a : Owner). a.number) e.0 in omega arith)) (at_snoc s.owners idler p j at);
      };
      shown = k.shown;
      home = k.home;
      held = λ j p y at at_y has. ⊎_elim
          (λ old. ⊎_elim (λ old_y. k.held j p y old old_y has) (λ e. absurd (let lt = there s.owners j p old in let n = k.seats in let is = e.1 in omega arith)) (at_snoc xs nothing_beside y j at_y))
          (λ e. absurd (true≢false (sym has ∙ sym (ap (λ (a : Owner). a.has_turn) e.0))))
          (at_snoc s.owners idler p j at);
    }
      where
        no_thread : (t : ℕ) → None ≡ Some t → ⊥
        no_thread t e = cc
