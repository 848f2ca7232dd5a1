use Rattle.std.proofs.Common.{◌∙◌, lit≤, lit<}
use Rattle.word_space.proofs.Runs.{below_before, length_shown, used_until}
use Rattle.tatp_layout.proofs.Fields.{field_left, field_set}
use Rattle.tatp_layout.proofs.Stored.{word_fits, data_a_set}
use Rattle.tatp_layout.proofs.facility_record.put_data_a.Goals as goal

pub returns-in_err-word : goal.returns-in_err-word
returns-in_err-word g c = let r = c.from_residual in field_left r.result r.ensures.0 r.ensures.1 c.in_err-word.ensures.uses (lit≤ tt) (lit≤ tt)

pub returns-in_err-write : goal.returns-in_err-write
returns-in_err-write g c = let r = c.from_residual-in_err-write in field_left r.result r.ensures.0 r.ensures.1 (used_until c.in_ok-word.ensures.uses c.in_err-write.ensures.uses) (lit≤ tt) (lit≤ tt)

pub returns : goal.returns
returns g c = field_set c.in_ok-word.ensures.uses c.in_ok-write.ensures.uses c.in_ok-write.ensures.writes c.in_ok-write.ensures.shown (λ array below r range held. data_a_set c.in_ok-word.word c.args.value (word_fits _ 2 (lit< tt) c.facilities.ensures.table c.facilities.ensures.fits c.requires.record (length_shown (below_before c.in_ok-word.ensures.uses below) ∙ c.requires.size)) (c.in_ok-word.ensures.value array below) c.requires.range range held)
