-- The rule of the slots holds at the start.
use Rattle.std.proofs.Common.{◌≡◌, ℕ, zero, suc, ◌+◌, ◌*◌, ◌<◌, [], ◌∷◌, ◌++◌, map, get_or, replicate, refl, sym, ap, ◌∙◌, subst, inl, arith}
use Rattle.std.specs.Prelude.{Some, None}
use Rattle.std.proofs.lemmas.Bool.{true≢false, false≢true}
use Rattle.std.proofs.lemmas.List.{length-map, length-append, length-replicate}
use Rattle.std.proofs.lemmas.List.Elements.{All-nil}
use mathlib.Core.Option.{some, some-injective, some-ne-none}
use lib.ListN.{get_elem?}
use Rattle.dude_base.specs.Records.{RedoRecord}
use Rattle.pmem_trait.specs.Sights.{Sight}
use Rattle.pmem_trait.specs.declared.medium.Medium.{Ghosts}
use Rattle.back_store.specs.BackView.{state_of}
use Rattle.core_events.specs.Setups.{Setup, box_of}
use Rattle.core_events.specs.Partings.{start}
use Rattle.stm_slots.specs.KnownLists.{lists}
use Rattle.stm_slots.specs.Records.{HasRecord, writes_in}
use Rattle.stm_slots.specs.Beside.{Hands, nothing_beside}
use Rattle.stm_slots.specs.Stage.{Owner, Stage, stage_of}
use Rattle.stm_slots.specs.Queues.{place_at, OwnsQueue}
use Rattle.stm_slots.specs.Opened.{IsFirst, first_slots}
use Rattle.stm_slots.specs.Opening.{setup_of}
use Rattle.stm_slots.specs.Rule.{SlotsKept}
use Rattle.stm_slots.specs.declared.home.Home.{Home as TheHome}
use Rattle.stm_slots.specs.declared.slot.Slot.TheVariants.{Empty, Home}
use Rattle.stm_slots.specs.declared.opening.Opening.{Opening}
use Rattle.stm_slots.proofs.Taken.{contains_none}
use Rattle.stm_slots.proofs.Owning.{idler}

in_replicate : {A : Type 0} (n j : ℕ) (a b : A) → get_elem? (replicate n a) j ≡ some b → (a ≡ b) × (j < n)
in_replicate zero j a b e = absurd (some-ne-none b (sym e))
in_replicate (suc n) zero a b e = (some-injective a b e, omega arith)
in_replicate (suc n) (suc j) a b e = let r = in_replicate n j a b e in (r.0, (let lt = r.1 in omega arith))

zeros : (n i x : ℕ) → get_or (replicate n x) i x ≡ x
zeros zero i x = refl
zeros (suc n) zero x = refl
zeros (suc n) (suc i) x = zeros n i x

-- the slots, and one behind them
module _ {S : Type 0} (a b : S) where
  home_before : (n k : ℕ) → k < n → get_elem? (map some (replicate n a ++ b ∷ [])) k ≡ some (some a)
  home_before zero k lt = absurd (omega arith)
  home_before (suc n) zero lt = refl
  home_before (suc n) (suc k) lt = home_before n k (omega arith)

  home_behind : (n : ℕ) → get_elem? (map some (replicate n a ++ b ∷ [])) n ≡ some (some b)
  home_behind zero = refl
  home_behind (suc n) = home_behind n

module _ {M : Type 0} {ghosts : Ghosts M} (sight : M → Sight) (o : Opening M ghosts) (h : TheHome M ghosts) (first : IsFirst sight o h) where
  abbrev z : Setup
  z = setup_of sight o

  abbrev s : Stage
  s = stage_of (start z)

  abbrev hands : Hands
  hands = record { lists = lists (state_of h.back) []; next = h.next; map = h.pager; shown = z.first; boxes = [] }

  one_owner : (j : ℕ) (p : Owner) → get_elem? (idler ∷ []) j ≡ some p → idler ≡ p
  one_owner zero p e = some-injective idler p e
  one_owner (suc j) p e = absurd (some-ne-none p (sym e))

  pub slots_start : SlotsKept sight o s (nothing_beside ∷ []) (map some (first_slots sight o h))
  slots_start = record {
    hands = hands;
    kept = record {
      sized = length-map (first_slots sight o h) some ∙ (length-append (replicate (o.terms.threads * o.terms.boxes) Empty) (Home h ∷ []) ∙ ap (λ (n : ℕ). n + 1) (length-replicate (o.terms.threads * o.terms.boxes) Empty));
      seats = refl;
      count = λ t. 0;
      queues = record {
        wide = first.wide;
        each = λ t lt. record {
          few = omega arith;
          start = (let e = first.next t in let b = first.some_box in omega arith);
          full = λ i lt2. absurd (omega arith);
          free = λ i low high. zeros (o.terms.threads * o.terms.boxes) (box_of z t (place_at z (get_or h.next t 0) i)) 0;
          rising = λ i j a b. absurd (omega arith);
        };
        owners = λ j p e. let same = one_owner j p e in subst (λ (q : Owner). OwnsQueue z s.boxes h.next (λ t. 0) q) same (record { behind = λ t e2. absurd (no_thread t e2); over = λ t i e2 pos lt. absurd (omega arith); newcomer = λ e2. refl });
        unused = λ t lt. (first.next t, refl);
      };
      lists = record {
        lawful = first.known.lawful;
        rings = first.rings;
        pages = first.pages;
        durable = first.durable;
        reproduced = first.known.lawful.from;
        fault = λ j p e met. absurd (true≢false (sym met ∙ sym (ap (λ (q : Owner). q.met_fault) (one_owner j p e))));
        persisted = All-nil (λ (r : RedoRecord). HasRecord [] r.number × (writes_in [] r.number ≡ r.writes));
        handed = λ n has. absurd (false≢true has);
        in_hand = λ alive k n at pos has. absurd (false≢true has);
        ordered = λ alive. record {
          boxed = λ t j n q lt lj at pos lacks among. absurd (let e = (in_replicate (o.terms.threads * o.terms.boxes) (box_of z t j) 0 n at).0 in omega arith);
          opened = λ j t p q at of_t pos among. absurd (let e = ap (λ (a : Owner). a.number) (one_owner j p at) in omega arith);
        };
      };
      pages = first.map;
      boxes = record {
        full = λ k n at pos. absurd (let e = (in_replicate (o.terms.threads * o.terms.boxes) k 0 n at).0 in omega arith);
        hand = λ k r among. absurd (contains_none (k, r) among);
        free = λ k at. inl (home_before Empty (Home h) (o.terms.threads * o.terms.boxes) k (in_replicate (o.terms.threads * o.terms.boxes) k 0 0 at).1);
        opened = λ j p at pos. absurd (let e = ap (λ (a : Owner). a.number) (one_owner j p at) in omega arith);
      };
      shown = refl;
      home = λ e. (h, record { state = refl; next = refl; map = refl; known = first.known.is; settled = first.settled; boxes = refl }, home_behind Empty (Home h) (o.terms.threads * o.terms.boxes));
      held = λ j w x at_w at_x has. absurd (true≢false (sym has ∙ sym (ap (λ (a : Owner). a.has_turn) (one_owner j w at_w))));
    };
  }
    where
      no_thread : (t : ℕ) → None ≡ Some t → ⊥
      no_thread t e = cc
