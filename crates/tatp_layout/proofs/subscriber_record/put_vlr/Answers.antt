use Rattle.std.proofs.Common.{◌+◌, OnOk, Result, Ok, Err, length, refl, sym, ap, ◌∙◌, subst, arith, lit≤, lit<, slice_index, slice_set}
use Rattle.std.proofs.lemmas.Result.{IfOk-weaker}
use Rattle.word_space.specs.Sights.{shown}
use Rattle.word_space.specs.Steps.{Wrote, stop_of}
use Rattle.word_space.proofs.Runs.{below_before, below_behind, length_shown, shown_same, used_behind, used_handed, used_more, used_then, used_until, wrote_one, wrote_some, wrote_then}
use Rattle.tree_index.specs.declared.tree.Tree.{Tree}
use Rattle.tatp_layout.specs.Index.{MovesKey}
use Rattle.tatp_layout.specs.Layout.{index_tree}
use Rattle.tatp_layout.specs.Records.{HoldsRow, subscriber_form}
use Rattle.tatp_layout.proofs.Indexes.{by_index_least, no_tree, with_tree}
use Rattle.tatp_layout.proofs.Moved.{moves_alone, moves_indexed}
use Rattle.tatp_layout.proofs.Stored.{vlr_set, word_fits}
use Rattle.tatp_layout.proofs.subscriber_record.put_vlr.Goals as goal

-- whatever a call answered
always : {T E : Type 0} (r : Result T E) {P : Type 0} → P → OnOk r P
always (Ok v) p = p
always (Err e) p = tt

pub returns-in_default-clause-moves : goal.returns-in_default-clause-moves
returns-in_default-clause-moves g c = λ array below.
    let inside = word_fits _ 6 (lit< tt) c.subscribers.ensures.table c.subscribers.ensures.fits c.requires.record (length_shown (below_before c.in_ok-write.ensures.uses below) ∙ c.requires.size) in
    moves_alone inside (no_tree c.args.lay.now.index (index_tree c.args.lay.now) (sym c.index.ensures.tree ∙ c.in_default.is)) (c.in_ok-write.ensures.shown array)

pub returns-in_default-clause-holds : goal.returns-in_default-clause-holds
returns-in_default-clause-holds g c = λ bare array below r held.
    subst (λ seen. HoldsRow subscriber_form seen c.args.at (record r { vlr = c.args.vlr })) (sym (c.in_ok-write.ensures.shown array))
    (vlr_set c.args.vlr (word_fits _ 6 (lit< tt) c.subscribers.ensures.table c.subscribers.ensures.fits c.requires.record (length_shown (below_before c.in_ok-write.ensures.uses below) ∙ c.requires.size)) held)

pub returns-in_err-write-2-clause-uses : goal.returns-in_err-write-2-clause-uses
returns-in_err-write-2-clause-uses g c =
    let r = c.from_residual-in_err-write-2 in
    let there = with_tree c.args.lay.now.index 0 392 (sym c.index.ensures.tree ∙ c.in-Some.is) in
    used_handed r.result r.ensures.1 (used_until (used_then c.in_ok-s_id.ensures.uses c.in_ok-was.ensures.uses) c.in_err-write-2.ensures.uses)
    (omega (arith, there.1)) (by_index_least c.args.lay.now.index 1 7 1 (lit≤ tt) (lit≤ tt))

pub returns-clause-uses : goal.returns-clause-uses
returns-clause-uses g c =
    let stop = stop_of c.move_key.result in
    let tree = sym c.index.ensures.tree ∙ c.in-Some.is in
    let reads = with_tree c.args.lay.now.index 0 392 tree in
    let writes = with_tree c.args.lay.now.index 1 7 tree in
    used_more {stop = stop} (used_behind {stop = stop} (used_then c.in_ok-s_id.ensures.uses (used_then c.in_ok-was.ensures.uses c.in_ok-write-2.ensures.uses)) c.move_key.ensures.uses)
    (omega (arith, reads.1)) (omega (arith, writes.1))

pub returns-clause-wrote : goal.returns-clause-wrote
returns-clause-wrote g c =
    let most = c.move_key.ensures.uses.most in
    let more : Wrote (length most.made) (g.W.Words.sight c.write-2.new.self) (g.W.Words.sight c.move_key.new.w) = record { made = most.made; count = refl; writes = most.writes } in
    always c.move_key.result (λ none. omega (arith, wrote_some (wrote_then (wrote_one c.in_ok-write-2.ensures.writes) more) (omega arith), ap length none))

pub returns-clause-moves : goal.returns-clause-moves
returns-clause-moves g c =
    let there = with_tree c.args.lay.now.index 0 0 (sym c.index.ensures.tree ∙ c.in-Some.is) in
    let id = c.in_ok-s_id.ensures in
    let was = c.in_ok-was.ensures in
    let write = c.in_ok-write-2.ensures in
    IfOk-weaker c.move_key.result _ _ (λ done moves array below.
    let below_write = below_behind {stop = stop_of c.move_key.result} c.move_key.ensures.uses below in
    let below_was = below_before write.uses below_write in
    let below_id = below_before was.uses below_was in
    let inside = word_fits _ 6 (lit< tt) c.subscribers.ensures.table c.subscribers.ensures.fits c.requires.record (length_shown (below_before id.uses below_id) ∙ c.requires.size) in
    let mid = shown (g.W.Words.sight c.write-2.new.self) array in
    let new = shown (g.W.Words.sight c.move_key.new.w) array in
    moves_indexed inside c.location_key.result c.location_key-2.result c.in_ok-s_id.s_id c.in_ok-was.was' there.0 c.requires.range c.requires.record
    (id.value array below_id)
    (was.value array below_was ∙ ap (λ l. slice_index l (c.args.at + 6)) (shown_same id.uses array))
    (write.shown array ∙ ap (λ l. slice_set l (c.args.at + 6) c.args.vlr) (shown_same (used_then id.uses was.uses) array))
    c.location_key.ensures c.location_key-2.ensures
    (subst (λ (t : Tree). MovesKey t c.location_key.result c.location_key-2.result mid new tt) (sym there.2) (moves array below)))
    c.move_key.ensures.moves
