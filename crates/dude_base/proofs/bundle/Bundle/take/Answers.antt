use Rattle.std.proofs.Common.{◌≡◌, ℕ, ◌≤◌, ◌+◌, List, length, None, sym, ap, ◌∙◌, arith, subst, take_all, rules}
use Rattle.dude_base.specs.declared.write.Write.{Write}
use Rattle.dude_base.specs.Records.{RedoBundle}
use Rattle.dude_base.specs.Writes.{put_all, put_write, written}
use Rattle.dude_base.proofs.Joining.{place_more, put_next, same_word, few_so_far}
use Rattle.dude_base.proofs.bundle.Bundle.take.Goals as goal

pub unreachable-requires : goal.unreachable-requires
unreachable-requires c =
    let ws = c.self.inside.writes in
    let vs = c.args.r.now.writes in
    let distinct = c.len-k-end.ensures.writes.distinct in
    let same : ws ≡ c.args.self.now.writes = ap (λ (b : RedoBundle). b.writes) c.self.view_is in
    let wide = c.put.ensures.wide.0 (sym c.is_err.ensures.value ∙ c.if-is_err.true) in
    let full = ap length (sym c.loop-k.invariant.writes) ∙ wide.full in
    let none : written ws c.write_at.result.at ≡ None =
    sym (same_word ws vs c.loop-k.k c.write_at.result distinct c.write_at.ensures) ∙ (ap (λ (l : List Write). written l c.write_at.result.at) (sym c.loop-k.invariant.writes) ∙ wide.new) in
    let one = place_more ws vs c.loop-k.k c.write_at.result distinct c.write_at.ensures none in
    let few = few_so_far ws vs c.loop-k.k c.write_at.result distinct c.write_at.ensures in
    let narrow : length (put_all ws vs) ≤ 96 = subst (λ (l : List Write). length (put_all l vs) ≤ 96) (sym same) c.requires.narrow in
    omega arith

pub loop-k-preserved : goal.loop-k-preserved
loop-k-preserved c =
    let ws = c.self.inside.writes in
    let vs = c.args.r.now.writes in
    let distinct = c.len-k-end.ensures.writes.distinct in
    let ok : c.put.new.self ≡ put_write c.loop-k.self-inside.writes c.write_at.result = search rules in
    record {
      writes = ok ∙ (ap (λ (l : List Write). put_write l c.write_at.result) c.loop-k.invariant.writes ∙ sym (put_next ws vs c.loop-k.k c.write_at.result distinct c.write_at.ensures));
      span = c.loop-k.invariant.span;
    }

pub overflow_add-self : goal.overflow_add-self
overflow_add-self c =
    let kept = c.loop-k.invariant.span in
    let same : c.self.inside.span ≡ c.args.self.now.span = ap (λ (b : RedoBundle). b.span) c.self.view_is in
    let short = c.requires.short in
    omega arith

pub invariant_of-self : goal.invariant_of-self
invariant_of-self c =
    let kept = c.loop-k.invariant.span in
    let span : c.self.inside.span ≡ c.args.self.now.span = ap (λ (b : RedoBundle). b.span) c.self.view_is in
    let last : c.self.inside.last ≡ c.args.self.now.last = ap (λ (b : RedoBundle). b.last) c.self.view_is in
    let short = c.requires.short in
    let next = c.requires.next in
    let old = c.self.invariant.1 in
    (omega arith, omega arith)

pub returns : goal.returns
returns c =
    let last : c.number-self-inside.result ≡ c.args.self.now.last + 1 = c.number-self-inside.ensures ∙ c.requires.next in
    let span : c.loop-k.self-inside.span + 1 ≡ c.args.self.now.span + 1 = ap (λ n. n + 1) (c.loop-k.invariant.span ∙ ap (λ (b : RedoBundle). b.span) c.self.view_is) in
    let size : length c.args.r.now.writes ≤ c.loop-k.k = (let few = c.len-k-end.ensures.len in omega arith) in
    let writes : c.loop-k.self-inside.writes ≡ put_all c.args.self.now.writes c.args.r.now.writes = c.loop-k.invariant.writes
    ∙ (ap (λ (vs : List Write). put_all c.self.inside.writes vs) (take_all c.loop-k.k c.args.r.now.writes size) ∙ ap (λ (b : RedoBundle). put_all b.writes c.args.r.now.writes) c.self.view_is) in
    of_parts last span writes
  where
    of_parts : {n m k l : ℕ} {ws vs : List Write} → n ≡ k → m ≡ l → ws ≡ vs → ◌≡◌ {A = RedoBundle} (record { last = n; span = m; writes = ws }) (record { last = k; span = l; writes = vs })
    of_parts p q r = cc
