-- Where a reproduction stops.
use Rattle.std.proofs.Common.{◌≡◌, ◌⊎◌, inl, inr, ℕ, ◌+◌, ◌<◌, ◌≤◌, min, subst, arith}
use Rattle.dude_base.specs.declared.limits.TheConstants.{MAX_NUMBER}
use Rattle.redo_record.specs.Waiting.{IsEnd}
use Rattle.back_store.specs.Lanes.{AreLed, waiting_of}
use Rattle.back_store.specs.Backlog.{BacklogState, IsLastEnd, StopsAfter}

-- the bound within which the greatest end is looked for
pub record IsNear (v : BacklogState) (most near : ℕ) : Type 0 where
  pub announced : near ≤ v.durable
  pub close : near ≤ v.reproduced + most
  pub all : (n : ℕ) → n ≤ v.durable → n ≤ v.reproduced + most → n ≤ near

pub is_near : (v : BacklogState) (most near sum : ℕ) → sum ≡ min (v.reproduced + most) 18446744073709551615 → near ≡ min v.durable sum → v.durable ≤ MAX_NUMBER → IsNear v most near
is_near v most near sum is near_is small = record { announced = omega arith; close = omega arith; all = λ n upto close. omega arith }

module _ (v : BacklogState) (most near stop : ℕ) (is : IsNear v most near) (led : AreLed v.lanes v.reproduced stop) (low : stop ≤ near)
    (last : (n : ℕ) → IsEnd (waiting_of v.lanes) v.reproduced n → n ≤ near → n ≤ stop) where
  last_stop : IsLastEnd v most stop
  last_stop = record {
    end = record { records = led.records; lead = led.lead };
    announced = (let upto = is.announced in omega arith);
    near = (let close = is.close in omega arith);
    last = λ n end upto close. last n end (is.all n upto close);
  }

  -- it is greater than the reproduced number, or nothing is left, or nothing was asked for
  pub stops_last : (v.reproduced < stop) ⊎ (v.durable ≡ v.reproduced) ⊎ (most ≡ 0) → StopsAfter v most stop
  stops_last why = inl (last_stop, why)

  -- nothing is near, and the next end is taken
  pub stops_next : (next : ℕ) → stop ≡ v.reproduced → 1 ≤ most → v.reproduced < v.durable → AreLed v.lanes v.reproduced next → v.reproduced < next
      → ((n : ℕ) → IsEnd (waiting_of v.lanes) v.reproduced n → v.reproduced < n → next ≤ n) → StopsAfter v most next
  stops_next next same some more led_on over least = inr (some, more, subst (IsLastEnd v most) same last_stop, record { end = record { records = led_on.records; lead = led_on.lead }; over = over; least = least })
