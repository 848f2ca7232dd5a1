use Rattle.std.proofs.Common.{IfSome, arith, subst, ap, refl, slice_index, ◌+◌, ◌∙◌, lit≤}
use Rattle.std.proofs.lemmas.Bool.{false≢true}
use Rattle.std.proofs.lemmas.Result.{IfOk-from_err}
use Rattle.word_space.proofs.Runs.{below_before, shown_same, used_handed, used_more, used_then, used_until}
use Rattle.record_heap.specs.Pool.{IsRecord}
use Rattle.hash_table.specs.declared.table.Table.{Table}
use Rattle.hash_table.specs.Walk.{walk_reads}
use Rattle.tatp_layout.proofs.Seen.{fits_still}
use Rattle.tatp_core.proofs.Answered.{finds_at}
use Rattle.tatp_core.proofs.Phones.{id_in_range, id_read, no_id}
use Rattle.tatp_core.proofs.phone.id_of.Goals as goal

pub find-requires : goal.find-requires
find-requires g c = record { fits = fits_still c.requires.size c.numbers.ensures.fits }

pub overflow_add-number : goal.overflow_add-number
overflow_add-number g c = omega (arith, c.numbers.ensures.fits.pool.inside c.in-Some.number (subst (λ o. IfSome o (IsRecord c.numbers.result.pool)) c.in-Some.is c.in_ok-number.ensures.record), ap (λ (t : Table). t.pool.size) c.numbers.ensures.table, c.requires.size, (g.met.W.Words.well_formed c.args.w.now).count)

pub read-requires : goal.read-requires
read-requires g c = record { inside = omega (arith, c.numbers.ensures.fits.pool.inside c.in-Some.number (subst (λ o. IfSome o (IsRecord c.numbers.result.pool)) c.in-Some.is c.in_ok-number.ensures.record), ap (λ (t : Table). t.pool.size) c.numbers.ensures.table, c.requires.size, c.in_ok-number.ensures.uses.count) }

pub returns-in_err-number : goal.returns-in_err-number
returns-in_err-number g c = record {
  uses = used_handed c.from_residual.result c.from_residual.ensures.1 c.in_err-number.ensures.uses (omega (arith, ap walk_reads c.numbers.ensures.table)) (lit≤ tt);
  range = IfOk-from_err _ _ c.from_residual.ensures.0;
  id = IfOk-from_err _ _ c.from_residual.ensures.0;
}

pub returns-in_default-clause-uses : goal.returns-in_default-clause-uses
returns-in_default-clause-uses g c = used_more c.in_ok-number.ensures.uses (omega (arith, ap walk_reads c.numbers.ensures.table)) (lit≤ tt)

pub returns-in_default-clause-id : goal.returns-in_default-clause-id
returns-in_default-clause-id g c = λ array below db stands.
    no_id c.args.sub_nbr stands (finds_at c.numbers.ensures.table refl refl c.in_default.is (c.in_ok-number.ensures.found array below))

pub returns-in_err-s_id : goal.returns-in_err-s_id
returns-in_err-s_id g c = record {
  uses = used_handed c.from_residual-in_err-s_id.result c.from_residual-in_err-s_id.ensures.1 (used_until c.in_ok-number.ensures.uses c.in_err-s_id.ensures.uses) (omega (arith, ap walk_reads c.numbers.ensures.table)) (lit≤ tt);
  range = IfOk-from_err _ _ c.from_residual-in_err-s_id.ensures.0;
  id = IfOk-from_err _ _ c.from_residual-in_err-s_id.ensures.0;
}

pub returns-then-not-is_id-clause-uses : goal.returns-then-not-is_id-clause-uses
returns-then-not-is_id-clause-uses g c = used_more (used_then c.in_ok-number.ensures.uses c.in_ok-s_id.ensures.uses) (omega (arith, ap walk_reads c.numbers.ensures.table)) (lit≤ tt)

pub returns-then-not-is_id-clause-id : goal.returns-then-not-is_id-clause-id
returns-then-not-is_id-clause-id g c = λ array below db stands.
    absurd (false≢true (c.if-not-is_id.ensures.1 (id_in_range c.args.sub_nbr stands c.in-Some.number c.in_ok-s_id.s_id
    (finds_at c.numbers.ensures.table refl refl c.in-Some.is (c.in_ok-number.ensures.found array (below_before c.in_ok-s_id.ensures.uses below)))
    (c.in_ok-s_id.ensures.value array below ∙ ap (λ l. slice_index l (c.in-Some.number + 2)) (shown_same c.in_ok-number.ensures.uses array)))))

pub returns-clause-uses : goal.returns-clause-uses
returns-clause-uses g c = used_more (used_then c.in_ok-number.ensures.uses c.in_ok-s_id.ensures.uses) (omega (arith, ap walk_reads c.numbers.ensures.table)) (lit≤ tt)

pub returns-clause-id : goal.returns-clause-id
returns-clause-id g c = λ array below db stands.
    id_read c.args.sub_nbr stands c.in-Some.number c.in_ok-s_id.s_id
    (finds_at c.numbers.ensures.table refl refl c.in-Some.is (c.in_ok-number.ensures.found array (below_before c.in_ok-s_id.ensures.uses below)))
    (c.in_ok-s_id.ensures.value array below ∙ ap (λ l. slice_index l (c.in-Some.number + 2)) (shown_same c.in_ok-number.ensures.uses array))

pub returns-clause-range : goal.returns-clause-range
returns-clause-range g c = c.if-not-is_id.ensures.0 refl
