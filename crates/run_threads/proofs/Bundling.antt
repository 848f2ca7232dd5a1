-- The bundle of the next records of a rest: of one, and of one more.
use Rattle.std.proofs.Common.{◌≡◌, ◌≢◌, ◌⊎◌, ℕ, ◌+◌, ◌<◌, ◌≤◌, List, [], ◌∷◌, length, sym, ap, ◌∙◌, subst, inl, inr, ⊎_elim, arith}
use Rattle.std.specs.Option.{option_or}
use Rattle.std.specs.Prelude.{Option, None, Some}
use Rattle.std.proofs.lemmas.Bool.{true≢false}
use Rattle.std.proofs.lemmas.List.Elements.{All-get_or}
use mathlib.Core.Logic.{dite}
use native.Mathlib.Decide.{dec_lt}
use Rattle.dude_base.specs.declared.limits.TheConstants.{MAX_WRITES}
use Rattle.dude_base.specs.Records.{RedoBundle, RedoRecord, bundle_of, first_of, with_next}
use Rattle.dude_base.specs.Writes.{IsWriteList, written}
use Rattle.redo_record.specs.Record.{cells_for}
use Rattle.dude_base.proofs.Joining.{written-put_all}
use Rattle.stm_slots.specs.Records.{HasRecord, JoinsJust, writes_in}
use Rattle.stm_slots.proofs.JoinedRecords.{has_either, has_here, has_more, joined_records_law, writes_here, writes_more}
use Rattle.run_threads.specs.Bundled.{BeginsWith, IsBundled, TakesNext}
use Rattle.run_threads.specs.Rest.{AreUnder, IsWithin, at, no_posted, number_at, writes_at}
use Rattle.run_threads.specs.declared.open_bundle.OpenBundle.{OpenBundle}
use Rattle.tiny_stm.specs.declared.posted.Posted.{Posted}

either_written : (a b : Option ℕ) (x : ℕ) → option_or a b ≡ Some x → (a ≡ Some x) ⊎ (b ≡ Some x)
either_written (Some y) b x is = inl is
either_written None b x is = inr is

module _ (cells : ℕ) (rest : List Posted) (from : ℕ) where
  -- one record
  pub bundled_one : (o : OpenBundle) → from < length rest → IsWriteList (writes_at rest from) → cells_for MAX_WRITES ≤ cells → BeginsWith (at rest from) from o → IsBundled cells rest from o
  bundled_one o inside list room b =
      let r : RedoRecord = (at rest from).redo in
      let same : o.bundle ≡ bundle_of r = b.bundle in
      let end : o.end ≡ from + 1 = b.end in
      let records : List RedoRecord = r ∷ [] in record {
        some = omega arith;
        within = omega arith;
        ring = b.ring;
        records = records;
        joins = subst (JoinsJust records) (sym same) (joined_records_law.one r);
        has = λ i low high. let here : from ≡ i = omega arith in
            subst (λ (k : ℕ). HasRecord records (number_at rest k) × (writes_in records (number_at rest k) ≡ writes_at rest k)) here (has_here r [], writes_here r []);
        only = λ n has. ⊎_elim
            (λ e. record { place = from; low = (omega arith); high = (omega arith); is = e })
            (λ none. absurd (true≢false (sym none)))
            (has_either r [] n has);
        first = ap first_of same ∙ (let e : first_of (bundle_of r) ≡ r.number = omega arith in e);
        span = subst (λ (c : RedoBundle). c.span ≤ c.last) (sym same) (omega arith);
        short = subst (λ (c : RedoBundle). cells_for (length c.writes) ≤ cells) (sym same) (let few = list.few in omega arith);
        home = λ words all. subst (λ (c : RedoBundle). AreUnder words c.writes) (sym same) (All-get_or (λ (q : Posted). AreUnder words q.redo.writes) rest from no_posted inside all);
      }

  -- one more
  module _ (o p : OpenBundle) (is : IsBundled cells rest from o) (inside : o.end < length rest) (list : IsWriteList (writes_at rest o.end)) (k : TakesNext (at rest o.end).redo cells o p) where
    abbrev r : RedoRecord
    r = (at rest o.end).redo

    abbrev more : List RedoRecord
    more = r ∷ is.records

    is_new : (n : ℕ) → HasRecord is.records n → r.number ≢ n
    is_new n has e = let c = is.joins.only n has in let high = c.high in let next = k.can.next in absurd (omega arith)

    joins_next : JoinsJust more (with_next o.bundle r)
    joins_next = joined_records_law.next is.records o.bundle r is.joins is.span k.can.next list.distinct

    has_next : (i : ℕ) → from ≤ i → i < o.end + 1 → HasRecord more (number_at rest i) × (writes_in more (number_at rest i) ≡ writes_at rest i)
    has_next i low high = dite (dec_lt i o.end)
        (λ before. let h = is.has i low before in (has_more r is.records (number_at rest i) h.0, writes_more r is.records (number_at rest i) (is_new (number_at rest i) h.0) ∙ h.1))
        (λ last. let here : o.end ≡ i = omega arith in
        subst (λ (j : ℕ). HasRecord more (number_at rest j) × (writes_in more (number_at rest j) ≡ writes_at rest j)) here (has_here r is.records, writes_here r is.records))

    only_next : (n : ℕ) → HasRecord more n → IsWithin rest from (o.end + 1) n
    only_next n has = let some = is.some in ⊎_elim
        (λ e. record { place = o.end; low = (omega arith); high = (omega arith); is = e })
        (λ old. let w = is.only n old in record { place = w.place; low = w.low; high = (let h = w.high in omega arith); is = w.is })
        (has_either r is.records n has)

    pub bundled_next : IsBundled cells rest from p
    bundled_next =
        let same : p.bundle ≡ with_next o.bundle r = k.bundle in
        let end : p.end ≡ o.end + 1 = k.end in record {
          some = (let s = is.some in omega arith);
          within = omega arith;
          ring = k.ring ∙ is.ring;
          records = more;
          joins = subst (JoinsJust more) (sym same) joins_next;
          has = λ i low high. has_next i low (omega arith);
          only = λ n has. subst (λ (u : ℕ). IsWithin rest from u n) (sym end) (only_next n has);
          first = ap first_of same ∙ ((let s = is.span in let e : first_of (with_next o.bundle r) ≡ first_of o.bundle = omega arith in e) ∙ is.first);
          span = subst (λ (c : RedoBundle). c.span ≤ c.last) (sym same) (let s = is.span in omega arith);
          short = k.short;
          home = λ words all. subst (λ (c : RedoBundle). AreUnder words c.writes) (sym same) (λ i x w. ⊎_elim
              (λ new. All-get_or (λ (q : Posted). AreUnder words q.redo.writes) rest o.end no_posted inside all i x new)
              (λ old. is.home words all i x old)
              (either_written (written r.writes i) (written o.bundle.writes i) x (sym (written-put_all o.bundle.writes r.writes i list.distinct) ∙ w)));
        }
