-- What the back's slot has at first.
use Rattle.std.proofs.Common.{◌≡◌, ◌≤◌, ℕ, zero, suc, [], length, get_or, replicate, refl, sym, ◌∙◌, subst, arith}
use Rattle.dude_base.specs.declared.limits.TheConstants.{MAX_RINGS}
use Rattle.pmem_trait.specs.declared.medium.Medium.{Ghosts}
use Rattle.back_store.specs.declared.back.Back.{Back}
use Rattle.back_store.specs.BackView.{medium_of, state_of}
use Rattle.stm_slots.specs.Calls.{StartsKnown}
use Rattle.stm_slots.specs.Known.{Known}
use Rattle.stm_slots.specs.KnownLists.{lists}
use Rattle.stm_slots.specs.Lists.{IsSettled}
use Rattle.stm_slots.specs.Opened.{IsFirst}
use Rattle.stm_slots.specs.declared.home.Home.{Home as TheHome}
use Rattle.stm_slots.specs.declared.opening.Opening.{Opening}
use Rattle.stm_turns.specs.Starts.{MayStart}

module _ {M : Type 0} {ghosts : Ghosts M} (o : Opening M ghosts) (h : TheHome M ghosts) (may : MayStart o.terms h.back h.pager) (start : StartsKnown h.back) (snapshot : o.back.value ≡ h.back) where
  settled : IsSettled (state_of h.back)
  settled = record { numbers = λ alive. may.idle.reproduced ∙ sym may.idle.durable; next = λ alive w among. absurd (may.idle.none w among) }

  -- it is what the table may start with
  pub is_first : (wide : MAX_RINGS ≤ length h.next) → (next : (t : ℕ) → get_or h.next t 0 ≡ 0) → IsFirst ghosts.sight o h
  is_first wide next = record {
    known = subst (λ (b : Back M ghosts). Known (record { start = ghosts.sight (medium_of b); state = state_of b; opening = o.terms.opening; first = o.terms.first }) (lists (state_of h.back) []) (ghosts.sight (medium_of h.back))) (sym snapshot)
        (start (record { start = ghosts.sight (medium_of h.back); state = state_of h.back; opening = o.terms.opening; first = o.terms.first }) may.idle);
    settled = settled;
    durable = (let e = may.idle.durable in omega arith);
    pages = may.pages;
    rings = may.rings;
    some_box = may.some_box;
    wide = (let t = may.threads in omega arith);
    next = next;
    map = record { pages = may.map.pages; frames = may.map.frames; one_to_one = may.map.one_to_one; shows = may.map.shows; shown = may.map.shown; all = may.map.all };
  }

pub all_zero : (n t : ℕ) → get_or {A = ℕ} (replicate n 0) t 0 ≡ 0
all_zero zero t = refl
all_zero (suc n) zero = refl
all_zero (suc n) (suc t) = all_zero n t
