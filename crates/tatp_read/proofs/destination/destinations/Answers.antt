use Rattle.std.proofs.Common.{◌≡◌, ◌<◌, ◌+◌, ◌/◌, ◌-◌, arith, sym, ap, ◌∙◌, lit≤}
use Rattle.std.proofs.lemmas.Result.{IfOk-from_err}
use Rattle.tatp_model.specs.declared.numbers.Numbers.{Numbers}
use Rattle.tatp_model.specs.Numbers.{numbers_of}
use Rattle.tatp_model.proofs.Calls.{eighth}
use Rattle.tatp_read.specs.Forwarding.{numbers_within}
use Rattle.tatp_read.proofs.Forwarding.{numbers_all, numbers_kept, numbers_none, numbers_pushed, one_look_up_more, three_look_ups}
use Rattle.tatp_read.proofs.destination.destinations.Goals.{in-Some, in_default}
use Rattle.word_space.proofs.Runs.{below_before, used_until, used_handed, used_more, used_none, used_then}
use Rattle.tatp_layout.proofs.Seen.{stands_still}
use Rattle.tatp_read.specs.Lookups.{call_reads}
use Rattle.tatp_read.proofs.destination.destinations.Goals as goal

pub returns-in_err-phone : goal.returns-in_err-phone
returns-in_err-phone g c =
    let small : c.args.start_time / 8 < 3 = eighth c.args.start_time c.requires.start in
    let reads = call_reads c.args.lay.now in
    let more = one_look_up_more c.loop-key.key c.first_call_key-first.result reads c.loop-key.auto.key in
    let all = three_look_ups (c.loop-key.key + 1 - c.first_call_key-first.result) reads (omega (arith, small)) in
    record {
      uses = used_handed c.from_residual.result c.from_residual.ensures.1 (used_until c.loop-key.invariant.uses c.in_err-phone.ensures.uses) (omega (arith, more, all)) (lit≤ tt);
      numbers = IfOk-from_err _ _ c.from_residual.ensures.0;
    }

pub returns-clause-uses : goal.returns-clause-uses
returns-clause-uses g c =
    let small : c.args.start_time / 8 < 3 = eighth c.args.start_time c.requires.start in
    used_more c.loop-key.invariant.uses (three_look_ups (c.loop-key.key - c.first_call_key-first.result) (call_reads c.args.lay.now) (omega (arith, small, c.loop-key.auto.key-end))) (lit≤ tt)

pub destination-requires : goal.destination-requires
destination-requires g c = record { size = c.loop-key.invariant.uses.count ∙ c.requires.size }

pub push-requires : goal.push-requires
push-requires g c =
    let small : c.args.start_time / 8 < 3 = eighth c.args.start_time c.requires.start in
    omega (arith, small, c.loop-key.invariant.few)

pub overflow_add-key-end : goal.overflow_add-key-end
overflow_add-key-end g c = omega (arith, c.first_call_key-first.ensures, c.requires.id, c.requires.kind, eighth c.args.start_time c.requires.start)

pub overflow_add-key-end-2 : goal.overflow_add-key-end-2
overflow_add-key-end-2 g c = omega (arith, c.first_call_key-first.ensures, c.requires.id, c.requires.kind, eighth c.args.start_time c.requires.start)

pub loop-key-init : goal.loop-key-init
loop-key-init g c = record {
  uses = used_more used_none (omega arith) (lit≤ tt);
  few = omega (arith, ap (λ (n : Numbers). n.count) c.new-phones.ensures);
  numbers = λ array below db stands. c.new-phones.ensures ∙ ap numbers_of (sym (numbers_none c.first_call_key-first.result c.args.end_time db.calls));
}

pub loop-key-preserved : goal.loop-key-preserved
loop-key-preserved g c =
    let before = c.loop-key.invariant in
    let step = c.in_ok-phone.ensures in
    record {
      uses = used_more (used_then before.uses step.uses) (one_look_up_more c.loop-key.key c.first_call_key-first.result (call_reads c.args.lay.now) c.loop-key.auto.key) (lit≤ tt);
      few = elim c.match-branch-2.branch [
        | in-Some w ↦ omega (arith, before.few, ap (λ (n : Numbers). n.count) w.phones-is, w.push.ensures.counted)
        | in_default w ↦ omega (arith, before.few, ap (λ (n : Numbers). n.count) w.phones-is)
      ];
      numbers = λ array below db stands.
          let below_step = below_before step.uses below in
          let held = before.numbers array below_step db stands in
          let told = step.numbers array below db (stands_still array before.uses stands) in
          elim c.match-branch-2.branch [
            | in-Some w ↦ w.phones-is ∙ numbers_pushed c.first_call_key-first.result c.loop-key.key c.args.end_time db.calls c.in_ok-phone.field-0 stands.in_order.calls_rise c.loop-key.auto.key held told w.in-Some.phone w.in-Some.is w.push.ensures.appended
            | in_default w ↦ numbers_kept c.first_call_key-first.result c.loop-key.key c.args.end_time db.calls c.in_ok-phone.field-0 stands.in_order.calls_rise c.loop-key.auto.key held told w.in_default.is w.phones-is
          ];
    }

pub returns-clause-numbers : goal.returns-clause-numbers
returns-clause-numbers g c = λ array below db stands.
    let first = c.first_call_key-first.result in
    let end : c.loop-key.key ≡ first + c.args.start_time / 8 + 1 = omega (arith, c.loop-key.auto.key-end) in
    let held = c.loop-key.invariant.numbers array below db stands in
    held ∙ ap numbers_of (ap (λ k. numbers_within first k c.args.end_time db.calls) end ∙ ap (λ k. numbers_within k (k + c.args.start_time / 8 + 1) c.args.end_time db.calls) c.first_call_key-first.ensures
    ∙ numbers_all c.args.s_id c.args.sf_type c.args.start_time c.args.end_time c.requires.id c.requires.kind c.requires.start db.calls stands.in_order.calls_in_range)
