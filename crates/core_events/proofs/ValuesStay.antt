-- Values that others read, wait for, filled or have in entries outlast a step.
use Rattle.std.proofs.Common.{◌≡◌, ◌≢◌, ℕ, ◌+◌, ◌*◌, ◌<◌, ◌≤◌, ◌⊎◌, Bool, true, false, List, get_or, refl, sym, ap, ◌∙◌, inl, inr, ⊎_elim, arith, All}
use Rattle.std.specs.Prelude.{Option, Some, None}
use mathlib.Core.Option.{some}
use lib.ListN.{get_elem?}
use Rattle.dude_base.specs.declared.limits.TheConstants.{PAGE}
use Rattle.dude_base.specs.declared.write.Write.{Write}
use Rattle.dude_base.specs.Writes.{written}
use Rattle.core_events.specs.Setups.{Setup, lock_of, page_of, cell_of}
use Rattle.core_events.specs.Keyed.{find, has, or_else}
use Rattle.core_events.specs.Views.{Entry, Hand, View}
use Rattle.core_events.specs.Words.{State}
use Rattle.core_events.specs.Entries.{History, value, read_at}
use Rattle.core_events.specs.Events.{Event, draw, decide, own_word}
use Rattle.core_events.specs.Conditions.{IsAllowed, after}
use Rattle.core_events.specs.Ghosts.{Hold, taken, writing, version, IsWriting, Claims, Ghost, claims_after}
use Rattle.core_events.specs.KeptEntries.{entries_of, EntriesKept}
use Rattle.core_events.specs.KeptPages.{pins_of, PagesKept}
use Rattle.core_events.specs.KeptValues.{ShownWords, ReadValues, EntryReads, ValuesKept}
use Rattle.core_events.specs.Layers.{LocksIn}
use Rattle.core_events.proofs.Lists.{at_map, at_change}
use Rattle.core_events.proofs.Values.{value_same, value_next, either_way}
use Rattle.core_events.proofs.Stays.{Moves}

-- a word whose lock is being written, and whose owner has still to store it
abbrev pub Unstored : Setup → (ℕ → Hold) → List Hand → ℕ → Type 0
Unstored z lock hands i = (j : ℕ) × (u : ℕ) × (h : Hand) × (x : ℕ) × (lock (lock_of z i) ≡ writing j u) × (get_elem? hands j ≡ some h) × (written h.writes i ≡ Some x) × (has h.stored i ≡ false)

-- shown words stay so, where their cells and their values do, and so do the words that are still to be stored
pub shown_on : (z : Setup) (hist hist2 : History) (lock lock2 : ℕ → Hold) (frame frame2 : ℕ → Option ℕ) (clock clock2 : ℕ) (cells cells2 : List ℕ) (hands hands2 : List Hand) → ShownWords z hist lock frame clock cells hands
    → ((i f : ℕ) → i < z.pages * PAGE → frame2 (page_of i) ≡ Some f → (frame (page_of i) ≡ Some f) × (get_or cells2 (cell_of f i) 0 ≡ get_or cells (cell_of f i) 0) × (value z.opening hist2 clock2 i ≡ value z.opening hist clock i))
    → ((i : ℕ) → Unstored z lock hands i → Unstored z lock2 hands2 i) → ShownWords z hist2 lock2 frame2 clock2 cells2 hands2
shown_on z hist hist2 lock lock2 frame frame2 clock clock2 cells cells2 hands hands2 y same on = record {
  shown = λ i f lt e. let w = same i f lt e in ⊎_elim (λ t. inl (w.1 ∙ (t ∙ sym w.2))) (λ t. inr (on i t)) (y.shown i f lt w.0);
}

module _ (z : Setup) where
  -- a word of a page that is in no frame has the value that it had
  pub absent_value : (e : Event) (c : State) (id : ℕ) (v : View) (g : Ghost) → LocksIn z g c → PagesKept z g c → IsAllowed z c id e v → (i : ℕ) → g.frame (page_of i) ≡ None
      → value z.opening (claims_after z g.claims c id v e).hist (after z c id v e).clock i ≡ value z.opening g.claims.hist c.clock i
  absent_value (draw b ws) c id v g l k a i none_there = value_next z.opening g.claims.hist c.clock i ∙ ap (λ (ws : List Write). or_else (written ws i) (value z.opening g.claims.hist c.clock i)) (l.numbers.later (c.clock + 1) (omega arith)).0
  absent_value decide c id v g l k a i none_there =
      let und = a.may.can.0 in let n : ℕ = v.tx.hand.number in let ws = v.tx.hand.writes in
      let not_written : written ws i ≡ None = ⊎_elim (λ e. e) (λ e. let p = (k.each id v a.is_there).pins.written_pinned und i e.0 e.1 in
      let f : None ≡ Some p.0 = sym none_there ∙ k.pins.pinned id (page_of i) p.0 (pins_of v) (at_map pins_of c.views id v a.is_there) p.1 in absurd cc) (either_way (written ws i)) in
      let was : written (g.claims.hist n) i ≡ None = ap (λ (l : List Write). written l i) ((l.each id v a.is_there).number.undecided und).0 in
      value_same z.opening g.claims.hist (claims_after z g.claims c id v decide).hist c.clock i
      (λ m le. ⊎_elim (λ t. ap (λ (l : List Write). written l i) t.1 ∙ (not_written ∙ sym (ap (λ (x : ℕ). written (g.claims.hist x) i) t.0 ∙ was))) (λ t. ap (λ (l : List Write). written l i) t.1) (at_change g.claims.hist n ws m))
  absent_value e c id v g l k a i none_there = refl

  module _ (c : State) (g : Ghost) (id clock2 : ℕ) (r : Claims) (mv : Moves z id c.clock g.claims clock2 r) (l : LocksIn z g c) (o : EntriesKept z g c) (y : ValuesKept z g c) where
    abbrev q : Claims
    q = g.claims

    -- reads that are confirmed
    pub read_on : (j : ℕ) (u : View) → get_elem? c.views j ≡ some u → u.tx.is_open ≡ true → All (λ p. p.1 ≡ value z.opening r.hist u.tx.snapshot p.0) u.tx.reads
    read_on j u at opened n d lt =
        let i : ℕ = (get_or u.tx.reads n d).0 in let m = l.each j u at in
        let old : (get_or u.tx.reads n d).1 ≡ value z.opening q.hist u.tx.snapshot i = ((y.reads j u at).read opened n d lt) in
        old ∙ sym (value_same z.opening q.hist r.hist u.tx.snapshot i (λ x le. (mv.silent x i (let b = (m.confirmed.snap opened).1 in omega arith) ((m.apart.apart opened x le n d lt))).0))

    -- a value that another waits for
    pub waits_on : (j : ℕ) (u : View) → get_elem? c.views j ≡ some u → j ≢ id → (i x : ℕ) → u.tx.loaded ≡ Some (i, x)
        → (x ≡ value z.opening r.hist u.tx.snapshot i)
        ⊎ (((w : ℕ) × (u.tx.look ≡ Some (lock_of z i, 2 * w)) × (IsWriting (r.lock (lock_of z i)) ⊎ (w < version (r.lock (lock_of z i))))) ⊎ ((u.tx.look ≡ Some (lock_of z i, own_word u.part.thread)) × (find u.tx.owned (lock_of z i) ≡ None)))
    waits_on j u at other i x e =
        let m = l.each j u at in let w0 = m.look.waits i x e in let k : ℕ = lock_of z i in
        let le = (m.confirmed.snap w0.0.is_open).1 in
        let same : ((n : ℕ) → n ≤ c.clock → written (r.hist n) i ≡ written (q.hist n) i) → x ≡ value z.opening q.hist u.tx.snapshot i → x ≡ value z.opening r.hist u.tx.snapshot i = λ still s. s ∙ sym (value_same z.opening q.hist r.hist u.tx.snapshot i (λ n b. still n (omega arith))) in
        ⊎_elim
        (λ value_is. let now : x ≡ value z.opening q.hist u.tx.snapshot i = value_is in
        ⊎_elim (λ still. inl (same still now))
        (λ is. ⊎_elim
        (λ free. inr (inl (free.0, free.1, inl is)))
        (λ own. ⊎_elim
        (λ gone. inr (inr (own.0, gone)))
        (λ held. let p = m.owns.owns k held.0 held.1 in
        let mine : q.lock k ≡ taken j p.0 = (p.3 (m.number.blank w0.0.no_number).0) in
        let f : taken j p.0 ≡ writing is.0 is.1 = sym (mv.taken_on j k p.0 other mine) ∙ is.2 in absurd cc)
        (either_way (find u.tx.owned k)))
        w0.2)
        (mv.changed i))
        (λ rest. ⊎_elim
        (λ free. let b = mv.version_up k in
        let now : IsWriting (q.lock k) ⊎ (free.0 < version (q.lock k)) = free.2 in
        inr (inl (free.0, free.1, ⊎_elim (λ is. ⊎_elim (λ p. inl p) (λ lt. inr (let a = m.look.looked k (2 * free.0) free.0 free.1 refl in let a2 : free.0 ≤ version (q.lock k) = a in omega arith)) (mv.writing_on k is)) (λ lt. inr (omega arith)) now)))
        (λ own. inr (inr own)) rest)
        ((y.reads j u at).waits i x e)

    pub reads_on : (j : ℕ) (u : View) → get_elem? c.views j ≡ some u → j ≢ id → ReadValues z r.hist r.lock u.part.thread u.tx
    reads_on j u at other = record { read = read_on j u at; waits = waits_on j u at other }

    -- what entries read
    pub entries_on : (j : ℕ) (u : View) → get_elem? c.views j ≡ some u → All (EntryReads z r.hist) u.entries
    entries_on j u at n d lt =
        let e : Entry = get_or u.entries n d in let legal = o.legal j u.entries (at_map entries_of c.views j u at) n d lt in
        let below : read_at e ≤ e.number = read_below e e.wrote refl in record {
          read = λ i p h. let old : (get_or e.reads i p).1 ≡ value z.opening q.hist (read_at e) (get_or e.reads i p).0 = ((y.entries j u at n d lt).read i p h) in
              old ∙ sym (value_same z.opening q.hist r.hist (read_at e) (get_or e.reads i p).0 (λ x le. (mv.silent x (get_or e.reads i p).0 (let up = legal.upto in omega arith) ((legal.apart x le i p h))).0));
        }
      where
        read_below : (e : Entry) (b : Bool) → e.wrote ≡ b → read_at e ≤ e.number
        read_below e true is = rw is (omega arith)
        read_below e false is = rw is (omega arith)
