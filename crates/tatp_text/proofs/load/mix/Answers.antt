use Rattle.std.proofs.Common.{ℕ, ◌≡◌, ◌+◌, ◌-◌, ◌/◌, ◌∷◌, ◌++◌, ◌∙◌, [], List, All, ap, sym, subst, arith, length-append}
use Rattle.std.proofs.lemmas.List.Elements.{All-append, All-cons, All-nil}
use Rattle.tatp_model.specs.declared.request.Request.{Request}
use Rattle.tatp_model.specs.declared.request.Request.TheVariants.{Sync}
use Rattle.tatp_model.specs.Request.{IsInRange}
use Rattle.tatp_text.specs.Draws.{chosen, draws_of, subscriber_of}
use Rattle.tatp_text.specs.declared.draws.Draws.{Draws}
use Rattle.tatp_text.proofs.Drawn.{requests_from-more, requests_from-none}
use Rattle.tatp_text.proofs.load.mix.Goals as goal

-- one more request in range
All-push : (requests after : List Request) (request : Request) → after ≡ requests ++ request ∷ [] → All IsInRange requests → IsInRange request → All IsInRange after
All-push requests after request is all one =
    subst (All IsInRange) (sym is) (All-append IsInRange requests (request ∷ []) all (All-cons IsInRange request [] one (All-nil IsInRange)))

pub loop-request-preserved : goal.loop-request-preserved
loop-request-preserved c =
    let a = c.args in
    let each = a.subscribers / a.files in
    let g = c.loop-request.generator in
    let done = c.loop-request.requests.items in
    let request : c.request.result ≡ chosen (subscriber_of a.file a.files each (draws_of g)) (draws_of g) =
    c.request.ensures.value ∙ ap (λ (s : ℕ). chosen s c.take-draws.result) c.subscriber_of-subscriber.ensures.value ∙ ap (λ (d : Draws). chosen (subscriber_of a.file a.files each d) d) c.take-draws.ensures.words in
    let pushed = c.in_ok-push.ensures.items ∙ ap (λ (q : Request). done ++ q ∷ []) request in
    record {
      load =
          rw (pushed, c.take-draws.ensures.after) (c.loop-request.invariant.load
          ∙ requests_from-more a.file a.files each (a.count - c.loop-request._request) (a.count - (c.loop-request._request + 1)) g done (omega arith));
      count = rw c.in_ok-push.ensures.items (simp length-append (omega (arith, c.loop-request.invariant.count)));
      ranges = λ few.
          All-push done _ c.request.result c.in_ok-push.ensures.items (c.loop-request.invariant.ranges few) (c.request.ensures.range (c.subscriber_of-subscriber.ensures.range.0, omega (arith, few)));
    }

pub returns-clause-load : goal.returns-clause-load
returns-clause-load c =
    let a = c.args in
    let all = c.loop-request.invariant.load
    ∙ requests_from-none a.file a.files (a.subscribers / a.files) (a.count - c.loop-request._request) c.loop-request.generator c.loop-request.requests.items (omega arith) in
    c.in_ok-push-2.ensures.items ∙ ap (λ (l : List Request). l ++ Sync ∷ []) (sym all)

pub returns-clause-ranges : goal.returns-clause-ranges
returns-clause-ranges c =
    λ few. All-push c.loop-request.requests.items _ Sync c.in_ok-push-2.ensures.items (c.loop-request.invariant.ranges few) tt
