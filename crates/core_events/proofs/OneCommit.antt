-- The worked transaction is allowed, step by step.
use Rattle.std.proofs.Common.{◌≡◌, ℕ, ◌*◌, ◌<◌, ◌≤◌, true, false, [], ◌∷◌, get_or, refl, sym, subst, inl, inr, eq-eqb, ne_eqb, arith, All}
use Rattle.std.specs.Prelude.{Some, None}
use Rattle.std.proofs.lemmas.Bool.{true≢false}
use mathlib.Core.Logic.{dite}
use native.Mathlib.Decide.{ℕ_discrete}
use Rattle.dude_base.specs.declared.limits.TheConstants.{PAGE}
use Rattle.dude_base.specs.declared.write.Write.{Write}
use Rattle.dude_base.specs.Writes.{written}
use Rattle.core_events.specs.Setups.{Setup, IsSetup, lock_of, page_of}
use Rattle.core_events.specs.Keyed.{has}
use Rattle.core_events.specs.Views.{View}
use Rattle.core_events.specs.Words.{State}
use Rattle.core_events.specs.Entries.{all_entries}
use Rattle.core_events.specs.Events.{Event, number, see_box, begin, entry, pin, look, load, check, take, draw, decide, store, touch, release, unpin, post, take_turn, see_full, empty_box, raise_durable, raise_reproduced, give_turn, no_about}
use Rattle.core_events.specs.Conditions.{IsSteady, Owns, Pins, MayDraw, IsAllowed, after}
use Rattle.core_events.specs.Partings.{newcomer, AllLead, start}
use Rattle.core_events.specs.OneCommit.{smallest, one_write, commit_steps, commit_entry}
use Rattle.core_events.proofs.Lists.{all_one}

-- the write is of the word 3 alone
pub only_three : (P : ℕ → Type 0) → P 3 → (i x : ℕ) → written one_write i ≡ Some x → P i
only_three P h i x e = dite (ℕ_discrete 3 i) (λ same. subst P same h) (λ other. absurd (let r : None ≡ Some x = rw (ne_eqb 3 i other) at e in cc))

-- it is inside of any words that have that one
pub one_inside : (words : ℕ) → 3 < words → All (λ w. w.at < words) one_write
one_inside words lt = all_one (λ (w : Write). w.at < words) (record { at = 3; value = 7 }) lt

-- a transaction that owns the lock of the word 3 and pins its page may draw the write
pub may_draw_one : (z : Setup) (v : View) → IsSteady v.tx → 3 < z.pages * PAGE → Owns v (lock_of z 3) → Pins v (page_of 3) → v.box.is_empty ≡ true → 0 < v.draws → MayDraw z one_write v
may_draw_one z v steady inside owned pinned box left = record {
  steady = steady;
  some_write = omega arith;
  list = record { few = omega arith; distinct = λ i j d a b. absurd (omega arith) };
  inside = one_inside (z.pages * PAGE) inside;
  owned = only_three (λ i. Owns v (lock_of z i)) owned;
  pinned = only_three (λ i. Pins v (page_of i)) pinned;
  box = box;
  draw_left = left;
}

one_checked : All (λ (r : ℕ × ℕ). has (0 ∷ []) (lock_of smallest r.0) ≡ true) ((3, 0) ∷ [])
one_checked = all_one (λ (r : ℕ × ℕ). has (0 ∷ []) (lock_of smallest r.0) ≡ true) (3, 0) refl

only_one : (n : ℕ) → 0 < n → n ≤ 1 → has (1 ∷ []) n ≡ true
only_one n lt le = let e : 1 ≡ n = omega arith in rw (eq-eqb 1 n e) refl

pub smallest_ok : IsSetup smallest
smallest_ok = record {
  threads = record { low = omega arith; high = omega arith };
  run = record {
    frames = record { low = omega arith; high = omega arith };
    locks = record { low = omega arith; high = omega arith };
    boxes = record { low = omega arith; high = omega arith };
  };
  words = refl;
  number = omega arith;
}

abbrev view_in : State → View
view_in c = get_or c.views 0 (newcomer smallest 0 0)

abbrev next : State → Event → State
next c e = after smallest c 0 (view_in c) e

abbrev s0 : State
s0 = start smallest

abbrev s1 : State
s1 = next s0 number

a0 : IsAllowed smallest s0 0 number (view_in s0)
a0 = record { is_there = refl; may = record { live = refl; threaded = tt; named = tt; can = refl }; fits = tt }

abbrev s2 : State
s2 = next s1 see_box

a1 : IsAllowed smallest s1 0 see_box (view_in s1)
a1 = record { is_there = refl; may = record { live = refl; threaded = (0, refl); named = tt; can = record { no_number = refl; no_lock = refl; no_pin = refl } }; fits = tt }

abbrev s3 : State
s3 = next s2 begin

a2 : IsAllowed smallest s2 0 begin (view_in s2)
a2 = record { is_there = refl; may = record { live = refl; threaded = (0, refl); named = tt; can = record { no_number = refl; no_lock = refl; no_pin = refl } }; fits = tt }

abbrev s4 : State
s4 = next s3 (entry 0)

a3 : IsAllowed smallest s3 0 (entry 0) (view_in s3)
a3 = record { is_there = refl; may = record { live = refl; threaded = (0, refl); named = omega arith; can = inl refl }; fits = tt }

abbrev s5 : State
s5 = next s4 (pin 0)

a4 : IsAllowed smallest s4 0 (pin 0) (view_in s4)
a4 = record { is_there = refl; may = record { live = refl; threaded = (0, refl); named = omega arith; can = (refl, (65_536, refl, omega arith), refl, refl) }; fits = tt }

abbrev s6 : State
s6 = next s5 (look 0)

a5 : IsAllowed smallest s5 0 (look 0) (view_in s5)
a5 = record { is_there = refl; may = record { live = refl; threaded = (0, refl); named = omega arith; can = record { undrawn = record { is_open = refl; no_number = refl }; no_extension = refl } }; fits = tt }

abbrev s7 : State
s7 = next s6 (load 3)

a6 : IsAllowed smallest s6 0 (load 3) (view_in s6)
a6 = record { is_there = refl; may = record { live = refl; threaded = (0, refl); named = omega arith; can = (record { undrawn = record { is_open = refl; no_number = refl }; no_extension = refl }, (0, refl, refl), (0, refl)) }; fits = tt }

abbrev s8 : State
s8 = next s7 (check 0)

a7 : IsAllowed smallest s7 0 (check 0) (view_in s7)
a7 = record { is_there = refl; may = record { live = refl; threaded = (0, refl); named = omega arith; can = inl (3, 0, refl, refl) }; fits = tt }

abbrev s9 : State
s9 = next s8 (take 0)

a8 : IsAllowed smallest s8 0 (take 0) (view_in s8)
a8 = record { is_there = refl; may = record { live = refl; threaded = (0, refl); named = omega arith; can = (record { undrawn = record { is_open = refl; no_number = refl }; no_extension = refl }, (0, refl, omega arith)) }; fits = tt }

abbrev s10 : State
s10 = next s9 (draw no_about one_write)

a9 : IsAllowed smallest s9 0 (draw no_about one_write) (view_in s9)
a9 = record { is_there = refl; may = record { live = refl; threaded = (0, refl); named = tt; can = may_draw_one smallest (view_in s9) (record { undrawn = record { is_open = refl; no_number = refl }; no_extension = refl }) (omega arith) (0, refl) (0, refl) refl (omega arith) }; fits = tt }

abbrev s11 : State
s11 = next s10 (check 0)

a10 : IsAllowed smallest s10 0 (check 0) (view_in s10)
a10 = record { is_there = refl; may = record { live = refl; threaded = (0, refl); named = omega arith; can = inr record { no_value = refl; of_read = refl; why = inr (refl, record { number = omega arith; not_decided = refl; not_void = refl }) } }; fits = tt }

abbrev s12 : State
s12 = next s11 decide

a11 : IsAllowed smallest s11 0 decide (view_in s11)
a11 = record { is_there = refl; may = record { live = refl; threaded = (0, refl); named = tt; can = (record { number = omega arith; not_decided = refl; not_void = refl }, one_checked) }; fits = tt }

abbrev s13 : State
s13 = next s12 (store 3)

a12 : IsAllowed smallest s12 0 (store 3) (view_in s12)
a12 = record { is_there = refl; may = record { live = refl; threaded = (0, refl); named = omega arith; can = (refl, (7, refl), (0, refl), (0, refl)) }; fits = tt }

abbrev s14 : State
s14 = next s13 (touch 0)

a13 : IsAllowed smallest s13 0 (touch 0) (view_in s13)
a13 = record { is_there = refl; may = record { live = refl; threaded = (0, refl); named = omega arith; can = (refl, (3, (7, refl), refl), (0, refl)) }; fits = tt }

abbrev s15 : State
s15 = next s14 (release 0)

a14 : IsAllowed smallest s14 0 (release 0) (view_in s14)
a14 = record { is_there = refl; may = record { live = refl; threaded = (0, refl); named = omega arith; can = (refl, (0, refl), (λ i x e under. only_three (λ j. has (3 ∷ []) j ≡ true) refl i x e)) }; fits = tt }

abbrev s16 : State
s16 = next s15 (unpin 0)

a15 : IsAllowed smallest s15 0 (unpin 0) (view_in s15)
a15 = record { is_there = refl; may = record { live = refl; threaded = (0, refl); named = omega arith; can = ((0, refl), (λ u. true≢false u.not_decided), record { each = λ i x d e here. (only_three (λ j. has (3 ∷ []) j ≡ true) refl i x e, refl) }) }; fits = tt }

abbrev s17 : State
s17 = next s16 post

a16 : IsAllowed smallest s16 0 post (view_in s16)
a16 = record { is_there = refl; may = record { live = refl; threaded = (0, refl); named = tt; can = (inl refl, refl, refl) }; fits = tt }

abbrev s18 : State
s18 = next s17 take_turn

a17 : IsAllowed smallest s17 0 take_turn (view_in s17)
a17 = record { is_there = refl; may = record { live = refl; threaded = (0, refl); named = tt; can = (refl, refl) }; fits = tt }

abbrev s19 : State
s19 = next s18 (see_full 0 0)

a18 : IsAllowed smallest s18 0 (see_full 0 0) (view_in s18)
a18 = record { is_there = refl; may = record { live = refl; threaded = (0, refl); named = (omega arith, omega arith); can = refl }; fits = tt }

abbrev s20 : State
s20 = next s19 (empty_box 0 0)

a19 : IsAllowed smallest s19 0 (empty_box 0 0) (view_in s19)
a19 = record { is_there = refl; may = record { live = refl; threaded = (0, refl); named = (omega arith, omega arith); can = refl }; fits = omega arith }

abbrev s21 : State
s21 = next s20 (raise_durable 1)

a20 : IsAllowed smallest s20 0 (raise_durable 1) (view_in s20)
a20 = record { is_there = refl; may = record { live = refl; threaded = (0, refl); named = tt; can = refl }; fits = (omega arith, omega arith) }

abbrev s22 : State
s22 = next s21 (raise_reproduced 1)

a21 : IsAllowed smallest s21 0 (raise_reproduced 1) (view_in s21)
a21 = record { is_there = refl; may = record { live = refl; threaded = (0, refl); named = tt; can = refl }; fits = (omega arith, omega arith) }

abbrev s23 : State
s23 = next s22 (give_turn false)

a22 : IsAllowed smallest s22 0 (give_turn false) (view_in s22)
a22 = record { is_there = refl; may = record { live = refl; threaded = (0, refl); named = tt; can = (refl, (λ e. absurd (true≢false (sym e)))) }; fits = tt }

pub commit_happens : (c : State) × AllLead smallest (start smallest) commit_steps c × (all_entries c.views ≡ commit_entry ∷ []) × (c.durable ≡ 1) × (c.reproduced ≡ 1) × (get_or c.cells 3 0 ≡ 7)
commit_happens = (s23, (s1, (view_in s0, a0, refl), (s2, (view_in s1, a1, refl), (s3, (view_in s2, a2, refl), (s4, (view_in s3, a3, refl), (s5, (view_in s4, a4, refl), (s6, (view_in s5, a5, refl), (s7, (view_in s6, a6, refl), (s8, (view_in s7, a7, refl), (s9, (view_in s8, a8, refl), (s10, (view_in s9, a9, refl), (s11, (view_in s10, a10, refl), (s12, (view_in s11, a11, refl), (s13, (view_in s12, a12, refl), (s14, (view_in s13, a13, refl), (s15, (view_in s14, a14, refl), (s16, (view_in s15, a15, refl), (s17, (view_in s16, a16, refl), (s18, (view_in s17, a17, refl), (s19, (view_in s18, a18, refl), (s20, (view_in s19, a19, refl), (s21, (view_in s20, a20, refl), (s22, (view_in s21, a21, refl), (s23, (view_in s22, a22, refl), refl))))))))))))))))))))))), refl, refl, refl, refl)
