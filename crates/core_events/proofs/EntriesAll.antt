-- The entries of all views together.
use Rattle.std.proofs.Common.{◌≡◌, ℕ, zero, suc, ◌<◌, ◌≤◌, Bool, true, false, List, [], ◌∷◌, get_or, refl, sym, ap, ◌∙◌, ⊎_elim, eq-eqb, ne_eqb, arith, All}
use Rattle.std.proofs.lemmas.Bool.{true≢false}
use Rattle.std.proofs.lemmas.List.Elements.{All-append}
use mathlib.Core.Option.{some, some-injective, some-ne-none}
use mathlib.Core.Logic.{dite}
use native.Mathlib.Decide.{ℕ_discrete}
use lib.ListN.{get_elem?}
use Rattle.dude_base.specs.declared.write.Write.{Write}
use Rattle.dude_base.specs.Writes.{written}
use Rattle.core_events.specs.Setups.{Setup}
use Rattle.core_events.specs.Keyed.{has, Distinct}
use Rattle.core_events.specs.Views.{Entry, View}
use Rattle.core_events.specs.Words.{State}
use Rattle.core_events.specs.Entries.{History, value, value_at, writes_of, numbers_written, all_entries, read_at, HaveNumbers, IsLegal}
use Rattle.core_events.specs.Ghosts.{Ghost}
use Rattle.core_events.specs.KeptEntries.{entries_of, EntriesKept}
use Rattle.core_events.specs.KeptValues.{ValuesKept}
use Rattle.core_events.proofs.Lists.{at_map, of_map}
use Rattle.core_events.proofs.Values.{value_same}
use Rattle.core_events.proofs.Threads.{has_append, has_left, has_right, distinct_append, not_true}
use Rattle.core_events.proofs.EntriesOnce.{written_append}

pub all_each : (P : Entry → Type 0) (views : List View) → ((j : ℕ) (u : View) → get_elem? views j ≡ some u → All P u.entries) → All P (all_entries views)
all_each P [] h = λ k d lt. absurd (omega arith)
all_each P (v ∷ vs) h = All-append P v.entries (all_entries vs) (h 0 v refl) (all_each P vs (λ j u e. h (suc j) u e))

-- an entry of all is one of a view
pub has_all : (views : List View) (n : ℕ) → has (numbers_written (all_entries views)) n ≡ true → (j : ℕ) × (u : View) × (get_elem? views j ≡ some u) × (has (numbers_written u.entries) n ≡ true)
has_all [] n e = absurd (true≢false (sym e))
has_all (v ∷ vs) n e = ⊎_elim
    (λ t. (0, v, refl, t))
    (λ t. let r = has_all vs n t in (suc r.0, r.1, r.2, r.3))
    (has_append (numbers_written v.entries) (numbers_written (all_entries vs)) n (ap (λ (l : List ℕ). has l n) (sym (written_append v.entries (all_entries vs))) ∙ e))

pub has_in : (views : List View) (j n : ℕ) (u : View) → get_elem? views j ≡ some u → has (numbers_written u.entries) n ≡ true → has (numbers_written (all_entries views)) n ≡ true
has_in [] j n u at e = absurd (some-ne-none u (sym at))
has_in (v ∷ vs) zero n u at e = ap (λ (l : List ℕ). has l n) (written_append v.entries (all_entries vs)) ∙ has_left (numbers_written v.entries) _ n (ap (λ (x : View). has (numbers_written x.entries) n) (some-injective v u at) ∙ e)
has_in (v ∷ vs) (suc j) n u at e = ap (λ (l : List ℕ). has l n) (written_append v.entries (all_entries vs)) ∙ has_right (numbers_written v.entries) _ n (has_in vs j n u at e)

-- the writes of a number that wrote, and of one that didn't
wrote_case : (hist : History) (e : Entry) (es : List Entry) (n : ℕ) (b : Bool) → e.wrote ≡ b → (b ≡ true → e.writes ≡ hist e.number) → (has (numbers_written es) n ≡ true → writes_of es n ≡ hist n) → has (numbers_written (e ∷ es)) n ≡ true → writes_of (e ∷ es) n ≡ hist n
wrote_case hist e es n true is mine rest h = dite (ℕ_discrete e.number n)
    (λ same. rw (is, eq-eqb e.number n same) (mine refl ∙ ap hist same))
    (λ other. rw (is, ne_eqb e.number n other) (rest (let r = rw (is, ne_eqb e.number n other) at h in r)))
wrote_case hist e es n false is mine rest h = rw is (rest (rw is at h))

pub writes_found : (hist : History) (es : List Entry) (n : ℕ) → All (λ e. e.wrote ≡ true → e.writes ≡ hist e.number) es → has (numbers_written es) n ≡ true → writes_of es n ≡ hist n
writes_found hist [] n all h = absurd (true≢false (sym h))
writes_found hist (e ∷ es) n all h = wrote_case hist e es n e.wrote refl (λ b. all 0 e (omega arith) b) (writes_found hist es n (λ k d lt. all (suc k) d (omega arith))) h

none_case : (e : Entry) (es : List Entry) (n : ℕ) (b : Bool) → e.wrote ≡ b → (has (numbers_written es) n ≡ false → writes_of es n ≡ []) → has (numbers_written (e ∷ es)) n ≡ false → writes_of (e ∷ es) n ≡ []
none_case e es n true is rest h = dite (ℕ_discrete e.number n)
    (λ same. absurd (true≢false (let r : true ≡ false = rw (is, eq-eqb e.number n same) at h in r)))
    (λ other. rw (is, ne_eqb e.number n other) (rest (let r = rw (is, ne_eqb e.number n other) at h in r)))
none_case e es n false is rest h = rw is (rest (rw is at h))

pub writes_none : (es : List Entry) (n : ℕ) → has (numbers_written es) n ≡ false → writes_of es n ≡ []
writes_none [] n h = refl
writes_none (e ∷ es) n h = none_case e es n e.wrote refl (writes_none es n) h

-- numbers that are in one view each are distinct in all
distinct_all : (views : List View) → ((j : ℕ) (u : View) → get_elem? views j ≡ some u → Distinct (numbers_written u.entries))
    → ((i j n : ℕ) (u w : View) → get_elem? views i ≡ some u → get_elem? views j ≡ some w → has (numbers_written u.entries) n ≡ true → has (numbers_written w.entries) n ≡ true → i ≡ j) → Distinct (numbers_written (all_entries views))
distinct_all [] each one = tt
distinct_all (v ∷ vs) each one =
    rw (written_append v.entries (all_entries vs)) (distinct_append (numbers_written v.entries) (numbers_written (all_entries vs)) (each 0 v refl) (distinct_all vs (λ j u e. each (suc j) u e) (λ i j n u w a b h k. let r = one (suc i) (suc j) n u w a b h k in omega arith))
    (λ n h. not_true (has (numbers_written (all_entries vs)) n) (λ k. let r = has_all vs n k in let same = one 0 (suc r.0) n v r.1 refl r.2 h r.3 in omega arith)))

module _ (z : Setup) (g : Ghost) (c : State) (o : EntriesKept z g c) where
  -- the writes of a number by entries are those by the ghost
  pub writes_are : (n : ℕ) → writes_of (all_entries c.views) n ≡ g.claims.hist n
  writes_are n = by_case (g.claims.settled n) refl
    where
      by_case : (b : Bool) → g.claims.settled n ≡ b → writes_of (all_entries c.views) n ≡ g.claims.hist n
      by_case true e =
          let x = (o.once.entered n e).1 in let u = of_map entries_of c.views (g.author n) x.0 x.1 in
          writes_found g.claims.hist (all_entries c.views) n
          (all_each (λ e. e.wrote ≡ true → e.writes ≡ g.claims.hist e.number) c.views (λ j w at k d lt b. sym (((o.legal j w.entries (at_map entries_of c.views j w at)) k d lt).wrote b).2))
          (has_in c.views (g.author n) n u.0 u.1 (ap (λ (l : List Entry). has (numbers_written l) n) u.2 ∙ x.2))
      by_case false e =
          writes_none (all_entries c.views) n (not_true _ (λ h. let r = has_all c.views n h in let w = o.once.wrote r.0 n r.1.entries (at_map entries_of c.views r.0 r.1 r.2) r.3 in true≢false (sym w.1 ∙ e))) ∙ sym (o.only n e)

  pub value_is : (n i : ℕ) → value_at z.opening (all_entries c.views) n i ≡ value z.opening g.claims.hist n i
  value_is n i = value_same z.opening g.claims.hist (writes_of (all_entries c.views)) n i (λ m le. ap (λ (ws : List Write). written ws i) (writes_are m))

  pub all_numbered : HaveNumbers z.first (all_entries c.views)
  all_numbered = record {
    over = all_each (λ e. e.wrote ≡ true → z.first < e.number) c.views (λ j u at k d lt b. ((o.legal j u.entries (at_map entries_of c.views j u at) k d lt).wrote b).0);
    once = distinct_all c.views (λ j u at. o.once.once j u.entries (at_map entries_of c.views j u at))
        (λ i j n u w a b h k. sym (o.once.wrote i n u.entries (at_map entries_of c.views i u a) h).0 ∙ (o.once.wrote j n w.entries (at_map entries_of c.views j w b) k).0);
    from = all_each (λ e. z.first ≤ read_at e) c.views (λ j u at k d lt. (o.legal j u.entries (at_map entries_of c.views j u at) k d lt).from);
  }

  pub all_legal : ValuesKept z g c → IsLegal z.first z.opening (all_entries c.views)
  all_legal y = record {
    numbers = all_numbered;
    read = all_each (λ e. All (λ r. r.1 ≡ value_at z.opening (all_entries c.views) (read_at e) r.0) e.reads) c.views
        (λ j u at k d lt i p h. let e : Entry = get_or u.entries k d in (y.entries j u at k d lt).read i p h ∙ sym (value_is (read_at e) (get_or e.reads i p).0));
  }
