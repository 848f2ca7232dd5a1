-- What the printer takes from the lanes, and what the sink gets of it.
use Rattle.std.specs.Prelude.{◌≡◌, ◌≢◌, ◌==◌, ◌⊎◌, ℕ, ◌+◌, ◌<◌, ◌≤◌, Bool, true, false, IsFalse, if◌then◌else◌, Result, OnOk, IfOk, IfErr, List, [], ◌∷◌, ◌++◌, length, map, filter, All, slice_index_or}
use Rattle.std.specs.List.{flat_map, sum_by}
use Rattle.tatp_model.specs.declared.done.Done.{Done}
use Rattle.dude_io.specs.Sink.{SinkSight, Took, TookPart}
use Rattle.dude_stream.specs.declared.outlet.Outlet.{Outlet}
use Rattle.dude_stream.specs.declared.print_fault.PrintFault.{PrintFault}
use Rattle.dude_stream.specs.declared.print_fault.PrintFault.TheVariants.{Sink, NoMemory}
use Rattle.dude_stream.specs.Lanes.{IsSameDrain, known_to, received_by}
use Rattle.dude_stream.specs.Lines.{lane_line}

-- ---- one lane
-- all lines of its file are printed, or no reply is known to be in the lane
abbrev pub IsDrained : Outlet → Type 0
IsDrained o = (o.left ≡ 0) ⊎ (known_to o.drain ≡ [])

-- these replies were received from the lane, and so many fewer lines of its file are left
pub record Gave (taken : List Done) (a b : Outlet) : Type 0 where
  pub same : IsSameDrain a.drain b.drain
  pub received : received_by b.drain ≡ received_by a.drain ++ taken
  pub left : length taken + b.left ≡ a.left

-- these replies were received from the lane, and then perhaps more, whose lines are left
pub record GaveMore (taken : List Done) (a b : Outlet) : Type 0 where
  pub same : IsSameDrain a.drain b.drain
  pub more : List Done
  pub received : received_by b.drain ≡ received_by a.drain ++ taken ++ more
  pub left : length taken + b.left ≡ a.left

-- a reply was received and its line stands behind the text; or there was none
abbrev pub GaveNext : Bool → Outlet → Outlet → List ℕ → List ℕ → Type 0
GaveNext true a b old new = (done : Done) × Gave (done ∷ []) a b × (new ≡ old ++ lane_line done)
GaveNext false a b old new = Gave [] a b × (new ≡ old) × IsDrained b

-- the lines of the replies that were received stand behind the text
abbrev pub GaveLines : Outlet → Outlet → List ℕ → List ℕ → Type 0
GaveLines a b old new = (taken : List Done) × Gave taken a b × (new ≡ old ++ flat_map lane_line taken)

-- the lines of the first replies that were received stand behind the text
abbrev pub GaveSomeLines : Outlet → Outlet → List ℕ → List ℕ → Type 0
GaveSomeLines a b old new = (taken : List Done) × GaveMore taken a b × (new ≡ old ++ flat_map lane_line taken)

-- some lines fewer are left, or none and the lane is drained
abbrev pub Empties : Bool → Outlet → Outlet → Type 0
Empties true a b = b.left < a.left
Empties false a b = (b.left ≡ a.left) × IsDrained b

-- ---- all lanes
-- a reply that was taken, and the lane that it came from
pub record Taken : Type 0 where
  pub lane : ℕ
  pub done : Done

-- those of one lane, in order
abbrev pub of_lane : ℕ → List Taken → List Done
of_lane lane lines = map (λ t. t.done) (filter (λ t. t.lane == lane) lines)

-- their lines, one behind another
abbrev pub lines_text : List Taken → List ℕ
lines_text lines = flat_map (λ t. lane_line t.done) lines

-- these are the replies that were received, and no others
pub record Received (lines : List Taken) (from now : List Outlet) : Type 0 where
  pub count : length now ≡ length from
  pub inside : All (λ l. l.lane < length from) lines
  pub each : (lane : ℕ) (d : Outlet) → lane < length from → Gave (of_lane lane lines) (slice_index_or from lane d) (slice_index_or now lane d)

-- these are the first replies that were received from each lane
pub record ReceivedMore (lines : List Taken) (from now : List Outlet) : Type 0 where
  pub count : length now ≡ length from
  pub inside : All (λ l. l.lane < length from) lines
  pub each : (lane : ℕ) (d : Outlet) → lane < length from → GaveMore (of_lane lane lines) (slice_index_or from lane d) (slice_index_or now lane d)

-- the lines of all replies that were received stand behind the text
abbrev pub HasGathered : List Outlet → List Outlet → List ℕ → List ℕ → Type 0
HasGathered from now old new = (lines : List Taken) × Received lines from now × (new ≡ old ++ lines_text lines)

-- the lines of the first replies that were received from each lane stand behind the text
abbrev pub HasGatheredSome : List Outlet → List Outlet → List ℕ → List ℕ → Type 0
HasGatheredSome from now old new = (lines : List Taken) × ReceivedMore lines from now × (new ≡ old ++ lines_text lines)

-- the sink took the lines of all replies that were received, and no others
abbrev pub HasPrinted : List Outlet → List Outlet → SinkSight → SinkSight → Type 0
HasPrinted from now s t = (lines : List Taken) × Received lines from now × Took (lines_text lines) s t

-- the sink took the lines of the first replies that were received from each lane, and no others; or it failed in one of these
abbrev pub IsStopped : PrintFault → List Outlet → List Outlet → SinkSight → SinkSight → Type 0
IsStopped NoMemory from now s t = (lines : List Taken) × ReceivedMore lines from now × Took (lines_text lines) s t
IsStopped Sink from now s t = (lines : List Taken) × ReceivedMore lines from now × TookPart (lines_text lines) s t

-- how many lines are left
abbrev pub left_in : List Outlet → ℕ
left_in outlets = sum_by (λ o. o.left) outlets

-- fewer lines are left where some were taken, and never more
abbrev pub Lessens : Bool → List Outlet → List Outlet → Type 0
Lessens some from now = (if some then 1 else 0) + left_in now ≤ left_in from

-- the lane had its turn: no other one changed, and it is drained where it gave none
pub record HadTurn (lane : ℕ) (from now : List Outlet) (some : Bool) : Type 0 where
  pub others : (k : ℕ) (d : Outlet) → k ≢ lane → slice_index_or now k d ≡ slice_index_or from k d
  pub drained : some ≡ false → (d : Outlet) → IsDrained (slice_index_or now lane d)
  pub lessens : Lessens some from now

-- Some lines were printed, or none; at Ok it is told whether there were some.
pub record PrintsSome (result : Result Bool PrintFault) (from now : List Outlet) (s t : SinkSight) : Type 0 where
  -- at Ok the sink took the lines of all replies that were received
  pub ok : OnOk result (HasPrinted from now s t)
  -- where there were none, all lanes are drained
  pub drained : IfOk result (λ some. IsFalse some → All IsDrained now)
  -- and where there were some, fewer are left
  pub lessens : IfOk result (λ some. Lessens some from now)
  -- at Err the printing stopped as the fault says
  pub err : IfErr result (λ fault. IsStopped fault from now s t)
