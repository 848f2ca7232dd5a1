-- A page is pinned, and a pin is taken back.
use Rattle.std.proofs.Common.{◌≡◌, ◌≢◌, ℕ, ◌-◌, ◌/◌, ◌<◌, ◌≤◌, ◌==◌, true, false, List, [], ◌∷◌, refl, sym, ap, ◌∙◌, inl, ⊎_elim, eq-eqb, ne_eqb, arith}
use Rattle.std.specs.Prelude.{Option, Some, None}
use Rattle.std.proofs.lemmas.Bool.{true≢false}
use Rattle.word_space.specs.declared.stop.Stop.TheVariants.{Out, Busy}
use Rattle.core_events.specs.Setups.{Setup, ENTRY, frame_in}
use Rattle.core_events.specs.Keyed.{find, without, or_else}
use Rattle.core_events.specs.Views.{View, Part, the_entry}
use Rattle.core_events.specs.Events.{Event, entry, pin, unpin, kept_entry, view_after, one_more}
use Rattle.core_events.specs.Conditions.{May}
use Rattle.core_events.specs.Telling.{EntryTold, IsSeated}
use Rattle.core_events.proofs.Lists.{find_head}
use Rattle.core_table.specs.Known.{Known, known_after}
use Rattle.core_table.specs.Layout.{TableSight}
use Rattle.core_table.specs.Steps.{BelongsTo, HasMade, HasFound, IsAfter}
use Rattle.atomic_table.specs.declared.shared.Seat.{Seat}
use Rattle.stm_transactions.specs.declared.pinned.Pinned.{Pinned}
use Rattle.stm_transactions.specs.Pins.{IsNotPinned, IsPinning, Paged, pin_list}
use Rattle.stm_transactions.specs.Seats.{HasRisen, IsLive, Stays}

module _ {S X K : Type 0} (t : TableSight K) where
  pub stays_none : (s : Seat S (Known X)) → BelongsTo t s → Stays t s s
  stays_none s b = record { belongs = b; id = refl; beside = refl; slots = refl }

  pub stays_made : (e : _) (s u : Seat S (Known X)) → HasMade t e s u → Stays t s u
  stays_made e s u m = record { belongs = m.belongs; id = m.id; beside = m.beside; slots = m.slots }

  pub stays_once : (e : _) (n : ℕ) (s u : Seat S (Known X)) → HasFound t e s u n → Stays t s u
  stays_once e n s u m = stays_made e s u m.made

  -- what the seat knows behind an event that found the number n
  pub known_found : (e : Event) (n : ℕ) (s u : Seat S (Known X)) → IsAfter t e s u n → HasFound t e s u n → u.me.0 ≡ known_after t.setup e s.me.0 n
  known_found e n s u view m =
      ap (λ (w : View). let k : Known X = record { view = w; beside = u.me.0.beside; made = u.me.0.made } in k) view
      ∙ (ap (λ (x : X). let k : Known X = record { view = view_after t.setup e s.me.0.view n; beside = x; made = u.me.0.made } in k) m.made.beside
      ∙ ap (λ (es : List Event). let k : Known X = record { view = view_after t.setup e s.me.0.view n; beside = s.me.0.beside; made = es } in k) m.made.made)

  pub stays_on : (s u w : Seat S (Known X)) → Stays t s u → Stays t u w → Stays t s w
  stays_on s u w a b = record { belongs = b.belongs; id = b.id ∙ a.id; beside = b.beside ∙ a.beside; slots = b.slots ∙ a.slots }

  pub stays_twice : (e f : _) (n m : ℕ) (s u w : Seat S (Known X)) → HasFound t e s u n → HasFound t f u w m → Stays t s w
  stays_twice e f n m s u w a b = stays_on s u w (stays_once e n s u a) (stays_once f m u w b)

-- an entry that isn't 0 names a frame
pub is_frame : (z : Setup) (n : ℕ) → EntryTold z n → n ≢ 0 → 1 ≤ n / ENTRY
is_frame z n told pos = ⊎_elim (λ e. absurd (pos e)) (λ f. let is = f.2 in omega arith) told

module _ (z : Setup) (page : ℕ) (v : View) (r : IsPinning v.paging.pins v) (there : page < z.pages) where
  pub entry_may : May z (entry page) v
  entry_may = record { live = r.its.live; threaded = r.its.threaded; named = there; can = inl r.is_open }

  module _ (n : ℕ) (v1 : View) (is1 : v1 ≡ view_after z (entry page) v n) where
    kept_is : find v1.paging.entries page ≡ Some n
    kept_is = ap (λ (x : View). find x.paging.entries page) is1 ∙ find_head v.paging.entries page n

    pub out_paged : Paged v.paging.pins v v1
    out_paged = rw is1 (record { rest = refl; pins_are = refl; counted = omega arith })

    pub out_why : n ≡ 0 → IsNotPinned z page (Out page) v1 × (HasRisen v.count v1.count)
    out_why none = ((refl, ap (λ (x : View). x.found) is1 ∙ ap (λ (k : ℕ). Some (the_entry page, k)) none), (let c = ap (λ (x : View). x.count) is1 in omega arith))

    pub pin_may : n ≢ 0 → find v.paging.pins page ≡ None → May z (pin page) v1
    pin_may pos free = rw is1 (record { live = r.its.live; threaded = r.its.threaded; named = there; can = (r.is_open, (n, find_head v.paging.entries page n, omega arith), free, r.no_turn) })

    module _ (m : ℕ) (v2 : View) (is2 : v2 ≡ view_after z (pin page) v1 m) where
      word : kept_entry v1 page ≡ n
      word = ap (λ (o : Option ℕ). or_else o 0) kept_is

      pub pinned_paged : m ≡ n → Paged ((page, n / ENTRY - 1) ∷ v.paging.pins) v v2
      pinned_paged same =
          let yes : (m == kept_entry v1 page) ≡ true = eq-eqb m (kept_entry v1 page) (same ∙ sym word) in
          let e : v2 ≡ record v1 { paging = record v1.paging { pins = (page, frame_in m) ∷ v1.paging.pins } } = is2 ∙ rw yes refl in
          rw (e, is1) (record { rest = refl; pins_are = ap (λ (k : ℕ). (page, k / ENTRY - 1) ∷ v.paging.pins) same; counted = omega arith })

      not_kept : m ≢ n → (m == kept_entry v1 page) ≡ false
      not_kept other = ne_eqb m (kept_entry v1 page) (λ s. other (s ∙ word))

      pub busy_paged : m ≢ n → Paged v.paging.pins v v2
      busy_paged other =
          let e : v2 ≡ record v1 { paging = record v1.paging { entries = (page, m) ∷ v1.paging.entries }; found = Some (the_entry page, m); count = one_more v1.count } = is2 ∙ rw (not_kept other) refl in
          rw (e, is1) (record { rest = refl; pins_are = refl; counted = omega arith })

      pub busy_why : m ≢ n → IsNotPinned z page (Busy page m) v2 × (HasRisen v.count v2.count)
      busy_why other =
          let e : v2 ≡ record v1 { paging = record v1.paging { entries = (page, m) ∷ v1.paging.entries }; found = Some (the_entry page, m); count = one_more v1.count } = is2 ∙ rw (not_kept other) refl in
          ((refl, ap (λ (x : View). x.found) e, (v1, n, is2, kept_is, (λ s. other (sym s)))), (let c = ap (λ (x : View). x.count) e in let d = ap (λ (x : View). x.count) is1 in omega arith))

-- ---- a pin is taken back
module _ (z : Setup) (p : Pinned) (v : View) (r : IsPinning (pin_list (Some p)) v) (seated : IsSeated z v) where
  pinned_at : find v.paging.pins p.page ≡ Some p.frame
  pinned_at = ap (λ (l : List (ℕ × ℕ)). find l p.page) r.pins_are ∙ find_head [] p.page p.frame

  pub unpin_may : May z (unpin p.page) v
  unpin_may = record {
    live = r.its.live;
    threaded = r.its.threaded;
    named = (seated.pins p.page p.frame pinned_at).0;
    can = ((p.frame, pinned_at), (λ u. let pos = u.number in let none = r.no_number in absurd (omega arith)), record { each = λ i x d w e. absurd (true≢false (sym d ∙ (seated.no_number r.no_number).0)) });
  }

  pub let_go_paged : (n : ℕ) (v1 : View) → v1 ≡ view_after z (unpin p.page) v n → Paged [] v v1
  let_go_paged n v1 is =
      let gone : without v.paging.pins p.page ≡ [] = ap (λ (l : List (ℕ × ℕ)). without l p.page) r.pins_are ∙ rw (eq-eqb p.page p.page refl) refl in
      rw is (record { rest = refl; pins_are = gone; counted = omega arith })

pub none_paged : (v : View) → IsPinning (pin_list None) v → Paged [] v v
none_paged v r = record { rest = refl; pins_are = r.pins_are; counted = omega arith }

pub paged_on : (p q : List (ℕ × ℕ)) (u v w : View) → Paged p u v → Paged q v w → Paged q u w
paged_on p q u v w a b = record {
  rest = b.rest ∙ ap (λ (x : View). record x { paging = w.paging; found = w.found; count = w.count }) a.rest;
  pins_are = b.pins_are;
  counted = (let c = a.counted in let d = b.counted in omega arith);
}

pub still_live : (v w : View) → w.part ≡ v.part → IsLive v → IsLive w
still_live v w same r = record { live = ap (λ (p : Part). p.is_spent) same ∙ r.live; threaded = (r.threaded.0, ap (λ (p : Part). p.thread) same ∙ r.threaded.1) }

pub still_pinning : (p q : List (ℕ × ℕ)) (v w : View) → IsPinning p v → Paged q v w → IsPinning q w
still_pinning p q v w r a = record {
  its = still_live v w (ap (λ (x : View). x.part) a.rest) r.its;
  is_open = ap (λ (x : View). x.tx.is_open) a.rest ∙ r.is_open;
  no_number = ap (λ (x : View). x.tx.hand.number) a.rest ∙ r.no_number;
  no_turn = ap (λ (x : View). x.turn.has_it) a.rest ∙ r.no_turn;
  pins_are = a.pins_are;
}
