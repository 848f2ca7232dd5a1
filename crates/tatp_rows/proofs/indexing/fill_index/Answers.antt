use Rattle.std.proofs.Common.{◌≡◌, ℕ, ◌+◌, ◌-◌, ◌<◌, ◌≤◌, List, sym, ap, ◌∙◌, subst, arith}
use Rattle.dude_base.specs.declared.sizes.Sizes.{Sizes}
use Rattle.word_space.specs.Flats.{fresh, words_of}
use Rattle.tree_index.specs.Tree.{FitsTree}
use Rattle.tatp_layout.specs.Layout.{index_tree}
use Rattle.tatp_layout.proofs.Indexes.{no_tree, with_tree}
use Rattle.tatp_rows.specs.Populated.{IsPopulatedTo}
use Rattle.tatp_rows.proofs.IndexSteps.{fits_in, key_is, populated_more}
use Rattle.tatp_rows.proofs.indexing.fill_index.Goals as goal

-- without an index no key is wanted
none_wanted : {s : Sizes} {a : List ℕ} (n : ℕ) → s.index ≡ 0 → IsPopulatedTo s 0 a → IsPopulatedTo s n a
none_wanted n none before = record { tables = before.tables; index = λ some. absurd (some none) }

pub returns-in_default-clause-populated : goal.returns-in_default-clause-populated
returns-in_default-clause-populated c = none_wanted c.args.lay.now.subscribers (no_tree c.args.lay.now.index (index_tree c.args.lay.now) (sym c.index.ensures.tree ∙ c.in_default.is)) c.requires

pub loop-s-init : goal.loop-s-init
loop-s-init c = record {
  populated = subst (IsPopulatedTo c.args.lay.now 0) (sym c.new-flat.ensures.words) c.requires;
  fresh = c.new-flat.ensures.fresh ∙ ap fresh (sym c.new-flat.ensures.words);
}

pub insert_alone-requires-clause-fits : goal.insert_alone-requires-clause-fits
insert_alone-requires-clause-fits c = subst (FitsTree c.in-Some.tree) (sym c.loop-s.invariant.populated.tables.size) (fits_in c.index.result c.in-Some.tree c.in-Some.is c.index.ensures.fits)

pub insert_alone-requires-clause-fresh : goal.insert_alone-requires-clause-fresh
insert_alone-requires-clause-fresh c = c.loop-s.invariant.fresh

pub loop-s-preserved : goal.loop-s-preserved
loop-s-preserved c =
    let lay = c.args.lay.now in
    let s = c.loop-s.s in
    let count = ap (λ (z : Sizes). z.subscribers) c.sizes-s-end.ensures.sizes in
    let accepted = c.sizes-s-end.ensures.accepted.subscribers.high in
    let low : 1 ≤ s = omega arith in
    let room : s - 1 < lay.subscribers = omega (arith, count, low) in
    let next : s - 1 + 1 ≡ s + 1 - 1 = omega (arith, low) in
    let there = with_tree lay.index 0 0 (sym c.index.ensures.tree ∙ c.in-Some.is) in
    let key = key_is s c.location_key.result c.subscriber_row-row.result low (omega (arith, count, accepted)) c.subscriber_row-row.ensures c.location_key.ensures in
    record {
      populated = subst (λ n. IsPopulatedTo lay n (words_of c.insert_alone.new.flat)) next
          (populated_more (s - 1) c.location_key.result c.in_ok-insert_alone.field-0 there.2 (fits_in c.index.result c.in-Some.tree c.in-Some.is c.index.ensures.fits) there.0 room key c.loop-s.invariant.populated c.in_ok-insert_alone.ensures.puts);
      fresh = c.in_ok-insert_alone.ensures.fresh;
    }

pub returns-clause-populated : goal.returns-clause-populated
returns-clause-populated c =
    let lay = c.args.lay.now in
    let count = ap (λ (z : Sizes). z.subscribers) c.sizes-s-end.ensures.sizes in
    let all : c.loop-s.s - 1 ≡ lay.subscribers = omega (arith, count) in
    subst (IsPopulatedTo lay lay.subscribers) (sym c.into_words.ensures)
    (subst (λ n. IsPopulatedTo lay n (words_of c.loop-s.flat)) all c.loop-s.invariant.populated)
