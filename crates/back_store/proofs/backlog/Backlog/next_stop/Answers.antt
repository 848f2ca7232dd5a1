use Rattle.std.proofs.Common.{◌≡◌, ◌⊎◌, inl, inr, ℕ, ◌<◌, ◌≤◌, List, sym, subst, arith}
use Rattle.redo_record.specs.Waiting.{IsEnd}
use Rattle.back_store.specs.KeptBacklog.{backlog_state}
use Rattle.back_store.specs.Lane.{LaneState}
use Rattle.back_store.specs.Lanes.{AreLed, waiting_of}
use Rattle.back_store.specs.Backlog.{BacklogState}
use Rattle.back_store.proofs.Merging.{led_up}
use Rattle.back_store.proofs.Stops.{is_near, stops_last, stops_next}
use Rattle.back_store.proofs.backlog.Backlog.next_stop.Goals.{else-stop-self-via-then-stop-self+then-most-gt0+else-self-stop, else-stop-self-via-then-stop-self+else-most-gt0, else-stop-self-via-else-stop-self}
use Rattle.back_store.proofs.backlog.Backlog.next_stop.Goals as goal

pub last_end-stop-requires-clause-from : goal.last_end-stop-requires-clause-from
last_end-stop-requires-clause-from c =
    let a = c.self.inside in
    let up = led_up a.lanes.items a.reproduced a.durable c.self.invariant.lawful.led in
    let fits = c.self.invariant.lawful.small in
    omega (arith, c.min-near.ensures, c.saturating_add.ensures)

pub returns-then-self-stop-clause-upto : goal.returns-then-self-stop-clause-upto
returns-then-self-stop-clause-upto c =
    let a = c.self.inside in
    let led = c.self.invariant.lawful.led in
    let some = c.if-self-stop.true in
    let same = c.if-stop-self.true in
    let end : IsEnd (waiting_of c.deref-then-self-stop.result.now) c.last_end-stop.result a.durable =
    subst (λ (n : ℕ). IsEnd (waiting_of c.deref-then-self-stop.result.now) n a.durable) (sym same)
    (subst (λ (ls : List LaneState). IsEnd (waiting_of ls) a.reproduced a.durable) (sym c.deref-then-self-stop.ensures.value) (record { records = led.records; lead = led.lead })) in
    let upto = c.next_end.ensures.least a.durable end some in
    rw (← c.self.view_is) upto

pub returns-then-self-stop-clause-stop : goal.returns-then-self-stop-clause-stop
returns-then-self-stop-clause-stop c =
    let v : BacklogState = backlog_state c.self.inside in
    let stop = c.last_end-stop.result in
    let near = is_near v c.args.most c.min-near.result c.saturating_add.result c.saturating_add.ensures c.min-near.ensures c.self.invariant.lawful.small in
    let led = subst (λ (ls : List LaneState). AreLed ls v.reproduced stop) c.deref.ensures.value c.last_end-stop.ensures.led in
    let last = subst (λ (ls : List LaneState). (n : ℕ) → IsEnd (waiting_of ls) v.reproduced n → n ≤ c.min-near.result → n ≤ stop) c.deref.ensures.value c.last_end-stop.ensures.last in
    let same = c.if-stop-self.true in
    let led_on = subst (λ (n : ℕ). AreLed v.lanes n c.next_end.result) same (subst (λ (ls : List LaneState). AreLed ls stop c.next_end.result) c.deref-then-self-stop.ensures.value c.next_end.ensures.led) in
    let least = subst (λ (m : ℕ). (n : ℕ) → IsEnd (waiting_of v.lanes) m n → m < n → c.next_end.result ≤ n) same
    (subst (λ (ls : List LaneState). (n : ℕ) → IsEnd (waiting_of ls) stop n → stop < n → c.next_end.result ≤ n) c.deref-then-self-stop.ensures.value c.next_end.ensures.least) in
    let more = c.if-self-stop.true in
    let over = c.next_end.ensures.over in
    let some = c.if-most-gt0.true in
    rw (← c.self.view_is) (stops_next v c.args.most c.min-near.result stop near led c.last_end-stop.ensures.near last c.next_end.result same (omega arith) (omega arith) led_on (omega arith) least)

pub returns-clause-stop : goal.returns-clause-stop
returns-clause-stop c =
    let v : BacklogState = backlog_state c.self.inside in
    let stop = c.last_end-stop.result in
    let near = is_near v c.args.most c.min-near.result c.saturating_add.result c.saturating_add.ensures c.min-near.ensures c.self.invariant.lawful.small in
    let led = subst (λ (ls : List LaneState). AreLed ls v.reproduced stop) c.deref.ensures.value c.last_end-stop.ensures.led in
    let last = subst (λ (ls : List LaneState). (n : ℕ) → IsEnd (waiting_of ls) v.reproduced n → n ≤ c.min-near.result → n ≤ stop) c.deref.ensures.value c.last_end-stop.ensures.last in
    let up = led_up v.lanes v.reproduced stop led in
    let announced = near.announced in
    let low = c.last_end-stop.ensures.near in
    let why : (v.reproduced < stop) ⊎ (v.durable ≡ v.reproduced) ⊎ (c.args.most ≡ 0) = elim c.else-stop-self.branch [
      | else-stop-self-via-then-stop-self+then-most-gt0+else-self-stop w ↦ (let same = w.if-stop-self.true in let no = w.if-self-stop.false in let is : v.durable ≡ v.reproduced = omega arith in inr (inl is))
      | else-stop-self-via-then-stop-self+else-most-gt0 w ↦ (let no = w.if-most-gt0.false in let is : c.args.most ≡ 0 = omega arith in inr (inr is))
      | else-stop-self-via-else-stop-self w ↦ (let no = w.if-stop-self.false in let is : v.reproduced < stop = omega arith in inl is)
    ] in
    rw (← c.self.view_is) (stops_last v c.args.most c.min-near.result stop near led low last why)
