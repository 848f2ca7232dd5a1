-- The worked durable transaction is allowed, step by step.
use Rattle.std.proofs.Common.{◌≡◌, ℕ, zero, suc, ◌*◌, ◌<◌, ◌≤◌, ◌+◌, true, false, List, [], ◌∷◌, ◌++◌, get_or, length, refl, sym, ap, ◌∙◌, subst, inl, inr, ⊎_elim, arith, All, append_assoc}
use Rattle.std.specs.Prelude.{Some}
use Rattle.std.specs.List.{Contains}
use Rattle.std.proofs.lemmas.Bool.{true≢false}
use mathlib.Core.Option.{some}
use lib.ListN.{get_elem?}
use Rattle.dude_base.specs.declared.limits.TheConstants.{PAGE}
use Rattle.dude_base.specs.Image.{cell_at}
use Rattle.dude_base.specs.Records.{RedoRecord, first_of}
use Rattle.dude_base.specs.Sizes.{IsAccepted}
use Rattle.pmem_trait.specs.declared.call.Call.{Call}
use Rattle.pmem_trait.specs.Groups.{group_calls}
use Rattle.pmem_trait.specs.Words.{IsIn, after_all}
use Rattle.redo_record.specs.Calls.{append_calls}
use Rattle.redo_record.specs.BackCalls.{announce_calls, reproduce_calls, read_page_calls}
use Rattle.redo_record.specs.Waiting.{Waiting, Waits, Lead, IsContiguousEnd}
use Rattle.core_events.specs.Setups.{IsSetup, lock_of}
use Rattle.core_events.specs.Keyed.{has}
use Rattle.core_events.specs.Views.{View}
use Rattle.core_events.specs.Words.{State}
use Rattle.core_events.specs.Events.{Event, number, see_box, begin, entry, pin, look, load, check, take, draw, decide, store, touch, release, unpin, post, take_turn, empty_box, raise_durable, raise_reproduced, evict, load_touch, fill, give_turn, no_about}
use Rattle.core_events.specs.Partings.{newcomer}
use Rattle.core_events.specs.Conditions.{HasThread, IsFree}
use Rattle.core_events.proofs.Lists.{all_one}
use Rattle.core_events.specs.OneCommit.{one_write}
use Rattle.core_events.proofs.OneCommit.{only_three, one_inside, may_draw_one, smallest_ok}
use Rattle.core_medium.specs.Stores.{Store}
use Rattle.core_medium.specs.BackCalls.{BackCall, persisting, announcing, reproducing, reading, MayPersist, MayReproduce, MayCall, calls_of, left_by, store_behind, waiting_as}
use Rattle.core_medium.specs.Machines.{Machine, MachineStep, AllMachineLead, IsMet, machine_after}
use Rattle.core_medium.specs.KeptStore.{HasPlaces, opening_medium, start_machine, MachineKept}
use Rattle.core_medium.specs.DurableCommit.{small_sizes, small_setup, one_bundle, by_first, calls_by_first, events_before, persist_one, reproduce_one, last_steps, steps_announcing, durable_steps, reading_steps, IsDurablyCommitted}
use Rattle.core_medium.specs.MachineLaws.{HasReadPage}
use Rattle.redo_record.specs.LogState.{LogState}
use Rattle.core_medium.proofs.Keeps.{steps_keep}
use Rattle.core_medium.proofs.Openings.{opens}
use Rattle.core_medium.proofs.PageReads.{whole_page_read}
use Rattle.core_medium.proofs.Start.{machine_start}
use Rattle.core_medium.proofs.WholeCalls.{whole_leads}

one_checked : All (λ (r : ℕ × ℕ). has (0 ∷ []) (lock_of small_setup r.0) ≡ true) ((3, 0) ∷ [])
one_checked = all_one (λ (r : ℕ × ℕ). has (0 ∷ []) (lock_of small_setup r.0) ≡ true) (3, 0) refl

pub small_accepted : IsAccepted small_sizes
small_accepted = record {
  subscribers = record { low = omega arith; high = omega arith };
  calls = record { low = omega arith; high = omega arith };
  rings = record { low = omega arith; high = omega arith };
  cells = record { low = omega arith; high = omega arith };
  pages = refl;
  index = record { low = omega arith; high = omega arith };
}

pub small_places : HasPlaces small_setup small_sizes
small_places = record { rings = omega arith; pages = refl }

pub small_ok : IsSetup small_setup
small_ok =
    let few = smallest_ok in record {
      threads = few.threads;
      run = record { frames = record { low = omega arith; high = omega arith }; locks = few.run.locks; boxes = few.run.boxes };
      words = refl;
      number = few.number;
    }

abbrev view_in : State → View
view_in c = get_or c.views 0 (newcomer small_setup 0 0)

abbrev next : Machine → Event → Machine
next m e = machine_after small_setup m 0 (view_in m.core) e

-- ---- lists of steps, one behind another
lead_append : (m n o : Machine) (ss ts : List MachineStep) → AllMachineLead small_setup m ss n → AllMachineLead small_setup n ts o → AllMachineLead small_setup m (ss ++ ts) o
lead_append m n o [] ts one other = subst (λ (x : Machine). AllMachineLead small_setup x ts o) one other
lead_append m n o (s ∷ ss) ts one other = (one.0, one.1, lead_append one.0 n o ss ts one.2 other)

-- ---- a whole call of the back that isn't a read
abbrev IsNoRead : BackCall → Type 0
IsNoRead (reading p) = ⊥
IsNoRead b = Unit {0}

module _ (records : List RedoRecord) where
  -- what is left behind its calls
  left_behind : (b : BackCall) → IsNoRead b → (d : Store) (call : Call) (later : List Call) → store_behind small_setup records b d (call ∷ later) ≡ left_by small_setup records b (record d { calls = d.calls ++ call ∷ later })
  left_behind (persisting t j more) quiet d call [] = refl
  left_behind (persisting t j more) quiet d call (x ∷ xs) =
      left_behind (persisting t j more) quiet (record d { calls = d.calls ++ call ∷ [] }) x xs
      ∙ ap (λ (cs : List Call). left_by small_setup records (persisting t j more) (record d { calls = cs })) (append_assoc d.calls (call ∷ []) (x ∷ xs))
  left_behind (announcing n) quiet d call [] = refl
  left_behind (announcing n) quiet d call (x ∷ xs) =
      left_behind (announcing n) quiet (record d { calls = d.calls ++ call ∷ [] }) x xs
      ∙ ap (λ (cs : List Call). left_by small_setup records (announcing n) (record d { calls = cs })) (append_assoc d.calls (call ∷ []) (x ∷ xs))
  left_behind (reproducing rs ws n) quiet d call [] = refl
  left_behind (reproducing rs ws n) quiet d call (x ∷ xs) =
      left_behind (reproducing rs ws n) quiet (record d { calls = d.calls ++ call ∷ [] }) x xs
      ∙ ap (λ (cs : List Call). left_by small_setup records (reproducing rs ws n) (record d { calls = cs })) (append_assoc d.calls (call ∷ []) (x ∷ xs))
  left_behind (reading p) quiet d call later = absurd quiet

  left_rest : (b : BackCall) → IsNoRead b → (d : Store) → d.calls ≡ [] → (calls : List Call) → 0 < length calls → store_behind small_setup records b d calls ≡ left_by small_setup records b (record d { calls = calls })
  left_rest b quiet d none [] filled = absurd (omega arith)
  left_rest b quiet d none (call ∷ later) filled =
      left_behind b quiet d call later ∙ ap (λ (cs : List Call). left_by small_setup records b (record d { calls = cs ++ call ∷ later })) none

-- the machine behind a whole call of the back
abbrev behind : Machine → BackCall → List Call → Machine
behind m b calls = record { core = m.core; store = left_by small_setup m.core.records b (record m.store { calls = calls }) }

-- the view with the turn makes it
whole_call : (m : Machine) (v : View) → get_elem? m.core.views 0 ≡ some v → v.part.is_spent ≡ false → HasThread v → v.turn.has_it ≡ true → (b : BackCall) → IsNoRead b → (calls : List Call) → 0 < length calls → m.store.calls ≡ []
    → MayCall small_setup m.core.boxes m.core.records m.store.log m.store.rest.told b → calls_of small_setup m.core.records m.store.log.sizes m.store.next b ≡ calls → AllMachineLead small_setup m (calls_by_first calls) (behind m b calls)
whole_call m v there live threaded turn b quiet calls filled none may whole =
    subst (λ (d : Store). AllMachineLead small_setup m (calls_by_first calls) (record { core = m.core; store = d })) (left_rest m.core.records b quiet m.store none calls filled)
    (whole_leads small_setup m.core 0 v there live threaded turn b calls m.store may (whole ∙ ap (λ (cs : List Call). cs ++ calls) (sym none)))

append_some : 0 < length (append_calls small_sizes (cell_at 0 0) one_bundle)
unfolding append_calls group_calls
append_some = omega arith

reproduce_some : 0 < length (reproduce_calls small_sizes one_write 1)
unfolding reproduce_calls group_calls
reproduce_some = omega arith

in_last : (ts : List ℕ) (x : ℕ) → IsIn x (ts ++ x ∷ [])
in_last [] x = inl refl
in_last (t ∷ ts) x = inr (in_last ts x)

abbrev m0 : Machine
m0 = start_machine small_setup small_sizes (opening_medium small_setup small_sizes)

abbrev m1 : Machine
m1 = next m0 number

a0 : IsMet small_setup m0 0 number (view_in m0.core)
a0 = record { is_there = refl; may = record { live = refl; threaded = tt; named = tt; can = refl }; meets = tt }

abbrev m2 : Machine
m2 = next m1 see_box

a1 : IsMet small_setup m1 0 see_box (view_in m1.core)
a1 = record { is_there = refl; may = record { live = refl; threaded = (0, refl); named = tt; can = record { no_number = refl; no_lock = refl; no_pin = refl } }; meets = tt }

abbrev m3 : Machine
m3 = next m2 begin

a2 : IsMet small_setup m2 0 begin (view_in m2.core)
a2 = record { is_there = refl; may = record { live = refl; threaded = (0, refl); named = tt; can = record { no_number = refl; no_lock = refl; no_pin = refl } }; meets = tt }

abbrev m4 : Machine
m4 = next m3 (entry 0)

a3 : IsMet small_setup m3 0 (entry 0) (view_in m3.core)
a3 = record { is_there = refl; may = record { live = refl; threaded = (0, refl); named = omega arith; can = inl refl }; meets = tt }

abbrev m5 : Machine
m5 = next m4 (pin 0)

a4 : IsMet small_setup m4 0 (pin 0) (view_in m4.core)
a4 = record { is_there = refl; may = record { live = refl; threaded = (0, refl); named = omega arith; can = (refl, (65_536, refl, omega arith), refl, refl) }; meets = tt }

abbrev m6 : Machine
m6 = next m5 (look 0)

a5 : IsMet small_setup m5 0 (look 0) (view_in m5.core)
a5 = record { is_there = refl; may = record { live = refl; threaded = (0, refl); named = omega arith; can = record { undrawn = record { is_open = refl; no_number = refl }; no_extension = refl } }; meets = tt }

abbrev m7 : Machine
m7 = next m6 (load 3)

a6 : IsMet small_setup m6 0 (load 3) (view_in m6.core)
a6 = record { is_there = refl; may = record { live = refl; threaded = (0, refl); named = omega arith; can = (record { undrawn = record { is_open = refl; no_number = refl }; no_extension = refl }, (0, refl, refl), (0, refl)) }; meets = tt }

abbrev m8 : Machine
m8 = next m7 (check 0)

a7 : IsMet small_setup m7 0 (check 0) (view_in m7.core)
a7 = record { is_there = refl; may = record { live = refl; threaded = (0, refl); named = omega arith; can = inl (3, 0, refl, refl) }; meets = tt }

abbrev m9 : Machine
m9 = next m8 (take 0)

a8 : IsMet small_setup m8 0 (take 0) (view_in m8.core)
a8 = record { is_there = refl; may = record { live = refl; threaded = (0, refl); named = omega arith; can = (record { undrawn = record { is_open = refl; no_number = refl }; no_extension = refl }, (0, refl, omega arith)) }; meets = tt }

abbrev m10 : Machine
m10 = next m9 (draw no_about one_write)

a9 : IsMet small_setup m9 0 (draw no_about one_write) (view_in m9.core)
a9 = record { is_there = refl; may = record { live = refl; threaded = (0, refl); named = tt; can = may_draw_one small_setup (view_in m9.core) (record { undrawn = record { is_open = refl; no_number = refl }; no_extension = refl }) (omega arith) (0, refl) (0, refl) refl (omega arith) }; meets = tt }

abbrev m11 : Machine
m11 = next m10 (check 0)

a10 : IsMet small_setup m10 0 (check 0) (view_in m10.core)
a10 = record { is_there = refl; may = record { live = refl; threaded = (0, refl); named = omega arith; can = inr record { no_value = refl; of_read = refl; why = inr (refl, record { number = omega arith; not_decided = refl; not_void = refl }) } }; meets = tt }

abbrev m12 : Machine
m12 = next m11 decide

a11 : IsMet small_setup m11 0 decide (view_in m11.core)
a11 = record { is_there = refl; may = record { live = refl; threaded = (0, refl); named = tt; can = (record { number = omega arith; not_decided = refl; not_void = refl }, one_checked) }; meets = tt }

abbrev m13 : Machine
m13 = next m12 (store 3)

a12 : IsMet small_setup m12 0 (store 3) (view_in m12.core)
a12 = record { is_there = refl; may = record { live = refl; threaded = (0, refl); named = omega arith; can = (refl, (7, refl), (0, refl), (0, refl)) }; meets = tt }

abbrev m14 : Machine
m14 = next m13 (touch 0)

a13 : IsMet small_setup m13 0 (touch 0) (view_in m13.core)
a13 = record { is_there = refl; may = record { live = refl; threaded = (0, refl); named = omega arith; can = (refl, (3, (7, refl), refl), (0, refl)) }; meets = tt }

abbrev m15 : Machine
m15 = next m14 (release 0)

a14 : IsMet small_setup m14 0 (release 0) (view_in m14.core)
a14 = record { is_there = refl; may = record { live = refl; threaded = (0, refl); named = omega arith; can = (refl, (0, refl), (λ i x e under. only_three (λ j. has (3 ∷ []) j ≡ true) refl i x e)) }; meets = tt }

abbrev m16 : Machine
m16 = next m15 (unpin 0)

a15 : IsMet small_setup m15 0 (unpin 0) (view_in m15.core)
a15 = record { is_there = refl; may = record { live = refl; threaded = (0, refl); named = omega arith; can = ((0, refl), (λ u. true≢false u.not_decided), record { each = λ i x d e here. (only_three (λ j. has (3 ∷ []) j ≡ true) refl i x e, refl) }) }; meets = tt }

abbrev m17 : Machine
m17 = next m16 post

a16 : IsMet small_setup m16 0 post (view_in m16.core)
a16 = record { is_there = refl; may = record { live = refl; threaded = (0, refl); named = tt; can = (inl refl, refl, refl) }; meets = tt }

abbrev m18 : Machine
m18 = next m17 take_turn

a17 : IsMet small_setup m17 0 take_turn (view_in m17.core)
a17 = record { is_there = refl; may = record { live = refl; threaded = (0, refl); named = tt; can = (refl, refl) }; meets = tt }

-- ---- the turn's calls on the medium
one_place : (k : ℕ) → k < 1 → 0 ≡ k
one_place k lt = omega arith

none_waits : (w : Waiting) → Contains [] w → ⊥
none_waits w is = let lt = is.1 in omega arith

may_persist : MayPersist small_setup m18.core.boxes m18.core.records m18.store.log 0 0 []
may_persist = record {
  gather = record {
    first = record { thread = omega arith; place = omega arith; full = omega arith; absent = λ on. ⊎_elim (λ low. omega arith) (λ w. none_waits w.0 w.1) on };
    least = λ k lt full. subst (λ (n : ℕ). 1 ≤ get_or m18.core.boxes (0 + n) 0) (one_place k lt) (omega arith);
    join = tt;
  };
  newest = λ i e lt. absurd (omega arith);
  room = omega arith;
}

abbrev m19 : Machine
m19 = behind m18 (persisting 0 0 []) (append_calls small_sizes (cell_at 0 0) one_bundle)

persists : AllMachineLead small_setup m18 (calls_by_first (append_calls small_sizes (cell_at 0 0) one_bundle)) m19
persists = whole_call m18 (view_in m18.core) refl refl (0, refl) refl (persisting 0 0 []) tt (append_calls small_sizes (cell_at 0 0) one_bundle) append_some refl may_persist refl

abbrev m20 : Machine
m20 = next m19 (empty_box 0 0)

first_waits : Contains (waiting_as 0 one_bundle ∷ []) (waiting_as 0 one_bundle)
first_waits = (0, omega arith, refl)

only_waits : (w : Waiting) → Contains (waiting_as 0 one_bundle ∷ []) w → waiting_as 0 one_bundle ≡ w
only_waits w is = at_first is.0 is.1 is.2
  where
    at_first : (k : ℕ) → k < 1 → get_or (waiting_as 0 one_bundle ∷ []) k w ≡ w → waiting_as 0 one_bundle ≡ w
    at_first zero lt e = e
    at_first (suc k) lt e = absurd (omega arith)

a19 : IsMet small_setup m19 0 (empty_box 0 0) (view_in m19.core)
a19 = record {
  is_there = refl;
  may = record { live = refl; threaded = (0, refl); named = (omega arith, omega arith); can = refl };
  meets = (omega arith, inr (waiting_as 0 one_bundle, first_waits, record { low = omega arith; high = omega arith }));
}

leads_to_one : Lead (waiting_as 0 one_bundle ∷ []) 0 (one_bundle ∷ []) 1
leads_to_one = record { wait = all_one (Waits (waiting_as 0 one_bundle ∷ [])) one_bundle (record { ring = 0; is_one = first_waits }); consecutive = (refl, refl) }

ends_at_one : IsContiguousEnd (waiting_as 0 one_bundle ∷ []) 0 1
ends_at_one = record {
  records = one_bundle ∷ [];
  lead = leads_to_one;
  greatest = λ w is e. (let same = ap (λ (x : Waiting). first_of x.redo) (only_waits w is) in omega arith);
}

abbrev m21 : Machine
m21 = behind m20 (announcing 1) (announce_calls 1)

announces : AllMachineLead small_setup m20 (calls_by_first (announce_calls 1)) m21
announces = whole_call m20 (view_in m20.core) refl refl (0, refl) refl (announcing 1) tt (announce_calls 1) (omega arith) refl ends_at_one refl

abbrev m22 : Machine
m22 = next m21 (raise_durable 1)

told_one : IsIn 1 m21.store.rest.told
told_one = in_last (after_all (append_calls small_sizes (cell_at 0 0) one_bundle) m18.store.rest).told 1

a21 : IsMet small_setup m21 0 (raise_durable 1) (view_in m21.core)
a21 = record { is_there = refl; may = record { live = refl; threaded = (0, refl); named = tt; can = refl }; meets = (omega arith, told_one) }

may_reproduce : MayReproduce m22.store.log m22.store.rest.told (one_bundle ∷ []) one_write 1
may_reproduce = record {
  lead = leads_to_one;
  some = omega arith;
  durable = (1, told_one, omega arith);
  rising = λ i j d a b. absurd (omega arith);
  inside = one_inside (3 * PAGE) (omega arith);
  effect = λ array long. refl;
}

abbrev m23 : Machine
m23 = behind m22 (reproducing (one_bundle ∷ []) one_write 1) (reproduce_calls small_sizes one_write 1)

reproduces : AllMachineLead small_setup m22 (calls_by_first (reproduce_calls small_sizes one_write 1)) m23
reproduces = whole_call m22 (view_in m22.core) refl refl (0, refl) refl (reproducing (one_bundle ∷ []) one_write 1) tt (reproduce_calls small_sizes one_write 1) reproduce_some refl may_reproduce refl

abbrev m24 : Machine
m24 = next m23 (raise_reproduced 1)

a23 : IsMet small_setup m23 0 (raise_reproduced 1) (view_in m23.core)
a23 = record { is_there = refl; may = record { live = refl; threaded = (0, refl); named = tt; can = refl }; meets = (omega arith, inl refl) }

abbrev m25 : Machine
m25 = next m24 (entry 0)

abbrev m26 : Machine
m26 = next m25 (evict 0)

abbrev m27 : Machine
m27 = next m26 (load_touch 0)

a24 : IsMet small_setup m24 0 (entry 0) (view_in m24.core)
a24 = record { is_there = refl; may = record { live = refl; threaded = (0, refl); named = omega arith; can = inr refl }; meets = tt }

a25 : IsMet small_setup m25 0 (evict 0) (view_in m25.core)
a25 = record { is_there = refl; may = record { live = refl; threaded = (0, refl); named = omega arith; can = (refl, (65_536, refl, omega arith)) }; meets = tt }

a26 : IsMet small_setup m26 0 (load_touch 0) (view_in m26.core)
a26 = record { is_there = refl; may = record { live = refl; threaded = (0, refl); named = omega arith; can = (refl, refl) }; meets = tt }

abbrev m28 : Machine
m28 = record { core = m27.core; store = store_behind small_setup m27.core.records (reading 0) m27.store (read_page_calls small_sizes 0) }

reads : AllMachineLead small_setup m27 (calls_by_first (read_page_calls small_sizes 0)) m28
reads = whole_leads small_setup m27.core 0 (view_in m27.core) refl refl (0, refl) refl (reading 0) (read_page_calls small_sizes 0) m27.store (omega arith) refl

commits : AllMachineLead small_setup m0 (by_first events_before) m18
commits = (m1, (view_in m0.core, a0, refl), (m2, (view_in m1.core, a1, refl), (m3, (view_in m2.core, a2, refl), (m4, (view_in m3.core, a3, refl), (m5, (view_in m4.core, a4, refl), (m6, (view_in m5.core, a5, refl), (m7, (view_in m6.core, a6, refl), (m8, (view_in m7.core, a7, refl), (m9, (view_in m8.core, a8, refl), (m10, (view_in m9.core, a9, refl), (m11, (view_in m10.core, a10, refl), (m12, (view_in m11.core, a11, refl), (m13, (view_in m12.core, a12, refl), (m14, (view_in m13.core, a13, refl), (m15, (view_in m14.core, a14, refl), (m16, (view_in m15.core, a15, refl), (m17, (view_in m16.core, a16, refl), (m18, (view_in m17.core, a17, refl), refl))))))))))))))))))

emptied : AllMachineLead small_setup m19 (by_first (empty_box 0 0 ∷ [])) m20
emptied = (m20, (view_in m19.core, a19, refl), refl)

raised : AllMachineLead small_setup m21 (by_first (raise_durable 1 ∷ [])) m22
raised = (m22, (view_in m21.core, a21, refl), refl)

reproduced : AllMachineLead small_setup m23 (by_first (raise_reproduced 1 ∷ [])) m24
reproduced = (m24, (view_in m23.core, a23, refl), refl)

evicted : AllMachineLead small_setup m24 (by_first (entry 0 ∷ evict 0 ∷ load_touch 0 ∷ [])) m27
evicted = (m25, (view_in m24.core, a24, refl), (m26, (view_in m25.core, a25, refl), (m27, (view_in m26.core, a26, refl), refl)))

-- from each leg to the raise of the reproduced word
from_raised : AllMachineLead small_setup m22 last_steps m24
from_raised = lead_append m22 m23 m24 reproduce_one (by_first (raise_reproduced 1 ∷ [])) reproduces reproduced

from_emptied : AllMachineLead small_setup m20 steps_announcing m24
from_emptied =
    lead_append m20 m21 m24 (calls_by_first (announce_calls 1)) (by_first (raise_durable 1 ∷ []) ++ last_steps) announces
    (lead_append m21 m22 m24 (by_first (raise_durable 1 ∷ [])) last_steps raised from_raised)

durably : AllMachineLead small_setup m0 durable_steps m24
durably =
    lead_append m0 m18 m24 (by_first events_before) (persist_one ++ (by_first (empty_box 0 0 ∷ []) ++ steps_announcing)) commits
    (lead_append m18 m19 m24 persist_one (by_first (empty_box 0 0 ∷ []) ++ steps_announcing) persists
    (lead_append m19 m20 m24 (by_first (empty_box 0 0 ∷ [])) steps_announcing emptied from_emptied))

-- ---- the page that was read
kept : MachineKept small_setup m27
kept =
    steps_keep small_setup (durable_steps ++ by_first (entry 0 ∷ evict 0 ∷ load_touch 0 ∷ [])) m0 m27
    (machine_start small_setup small_sizes (opening_medium small_setup small_sizes) small_ok (opens small_setup small_sizes small_ok small_accepted small_places))
    (lead_append m0 m24 m27 durable_steps (by_first (entry 0 ∷ evict 0 ∷ load_touch 0 ∷ [])) durably evicted)

page : HasReadPage 0 m27.store m28.store
page = whole_page_read small_setup kept.ghost_is m27.core kept.layers 0 m27.store kept.store (omega arith) refl

-- no entry names the first frame
free_frame : IsFree small_setup m28.core 0
free_frame zero lt pos = absurd (omega arith)
free_frame (suc zero) lt pos = λ e. absurd (omega arith)
free_frame (suc (suc zero)) lt pos = λ e. absurd (omega arith)
free_frame (suc (suc (suc q))) lt pos = absurd (omega arith)

abbrev m29 : Machine
m29 = next m28 (fill 0 0 3 7)

a28 : IsMet small_setup m28 0 (fill 0 0 3 7) (view_in m28.core)
a28 = record {
  is_there = refl;
  may = record { live = refl; threaded = (0, refl); named = (omega arith, omega arith, omega arith); can = (refl, refl, (1, refl)) };
  meets = (free_frame, (λ y e. (let f : Some 1 ≡ Some y = e in let same : 1 ≡ y = cc in omega arith)), page.words 3 (omega arith));
}

abbrev m30 : Machine
m30 = next m29 (give_turn false)

a29 : IsMet small_setup m29 0 (give_turn false) (view_in m29.core)
a29 = record { is_there = refl; may = record { live = refl; threaded = (0, refl); named = tt; can = (refl, (λ e. absurd (true≢false (sym e)))) }; meets = (page.calls, refl) }

filled : AllMachineLead small_setup m28 (by_first (fill 0 0 3 7 ∷ give_turn false ∷ [])) m30
filled = (m29, (view_in m28.core, a28, refl), (m30, (view_in m29.core, a29, refl), refl))

all_lead : AllMachineLead small_setup m0 (durable_steps ++ reading_steps) m30
all_lead =
    lead_append m0 m24 m30 durable_steps reading_steps durably
    (lead_append m24 m27 m30 (by_first (entry 0 ∷ evict 0 ∷ load_touch 0 ∷ [])) (calls_by_first (read_page_calls small_sizes 0) ++ by_first (fill 0 0 3 7 ∷ give_turn false ∷ [])) evicted
    (lead_append m27 m28 m30 (calls_by_first (read_page_calls small_sizes 0)) (by_first (fill 0 0 3 7 ∷ give_turn false ∷ [])) reads filled))

nineteen : length persist_one + length (announce_calls 1) + length reproduce_one ≡ 19
unfolding append_calls reproduce_calls group_calls
nineteen = refl

pub commit_lasts : (m : Machine) × IsDurablyCommitted m
commit_lasts = (
  m30,
  record {
    led = all_lead;
    durable = refl;
    reproduced = refl;
    mark = ap (λ (l : LogState). l.reproduced) page.log;
    word = ap (λ (l : LogState). get_or l.home 3 0) page.log;
    calls = nineteen;
  },
)
