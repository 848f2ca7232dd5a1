-- What tries of a request leave of a pass.
use Rattle.std.specs.Prelude.{◌≡◌, ℕ, ◌+◌, ◌*◌, ◌<◌, ◌≤◌, ◌⊎◌, Bool, true, false}
use Rattle.dude_base.specs.declared.sizes.Sizes.{Sizes}
use Rattle.word_space.specs.declared.stop.Stop.{Stop}
use Rattle.word_space.specs.declared.stop.Stop.TheVariants as stop
use Rattle.stm_transactions.specs.declared.lost.Lost.{Lost}
use Rattle.stm_transactions.specs.declared.lost.Lost.TheVariants as lost
use Rattle.tatp_model.specs.declared.request.Request.{Request}
use Rattle.tatp_model.specs.declared.reply.Reply.TheVariants.{Durable}
use Rattle.tatp_model.specs.declared.done.Done.{Done as DoneOf}
use Rattle.tatp_model.specs.OneThread.{is_sync}
use Rattle.core_table.specs.Layout.{TableSight}
use Rattle.stm_transactions.specs.Numbers.{bit}
use Rattle.stm_transactions.specs.Passes.{PassSight, IsResting, pass_view}
use Rattle.request_attempts.specs.declared.tried.Tried.{Tried}
use Rattle.request_attempts.specs.declared.tried.Tried.TheVariants.{Done, Again, Device, NoMemory}
use Rattle.request_attempts.specs.Counting.{LAST_COUNT, PATIENCE, RisesBy}
use Rattle.request_attempts.specs.Served.{HasServed}
use Rattle.request_attempts.specs.Turns.{HasFailed, HasFetched, HasPumped, KeepsPass, KeepsRest, WasRefused}

-- A `SYNC` was answered with a durable number that is at least each one of the pass
pub record HasSynced {X K : Type 0} (t : TableSight K) (file index : ℕ) (q : Request) (p r : PassSight X) (d : DoneOf) : Type 0 where
  pub rests : IsResting t r
  pub done : d ≡ record { file = file; index = index; number = r.numbers.durable; wrote = false; request = q; reply = Durable }
  pub entries : (pass_view r).entries ≡ (pass_view p).entries
  pub last : p.numbers.last ≤ d.number

-- what an answer leaves, of a `SYNC` where it is one
abbrev pub AnswersBy : {X K : Type 0} → Bool → TableSight K → Sizes → ℕ → ℕ → Request → PassSight X → PassSight X → DoneOf → Type 0
AnswersBy true t s file index q p r d = HasSynced t file index q p r d
AnswersBy false t s file index q p r d = HasServed t s file index q p r d

-- so many of p's draws were used at most
pub record DrawsUpTo {X : Type 0} (most : ℕ) (p r : PassSight X) : Type 0 where
  pub used : ℕ
  pub draws : r.numbers.left + used ≡ p.numbers.left
  pub few : used ≤ most

-- The request was answered by the pass, which is whose it was; at most so many numbers were drawn, no fault was met, and the durable
-- number didn't fall
pub record IsServing {X K : Type 0} (most : ℕ) (t : TableSight K) (s : Sizes) (file index : ℕ) (q : Request) (p r : PassSight X) (d : DoneOf) : Type 0 where
  pub answers : AnswersBy (is_sync q) t s file index q p r d
  pub part : (pass_view r).part ≡ (pass_view p).part
  pub draws : DrawsUpTo most p r
  pub no_fault : r.numbers.met_fault ≡ p.numbers.met_fault
  pub durable : p.numbers.durable ≤ r.numbers.durable

-- It wasn't: the pass is whose it was, no entry is new, and the durable number didn't fall
pub record IsUnserved {X K : Type 0} (most : ℕ) (t : TableSight K) (p r : PassSight X) : Type 0 where
  pub rests : IsResting t r
  pub part : (pass_view r).part ≡ (pass_view p).part
  pub entries : (pass_view r).entries ≡ (pass_view p).entries
  pub draws : DrawsUpTo most p r
  pub durable : p.numbers.durable ≤ r.numbers.durable

-- It was given up: it drew 64 numbers in vain, or was refused a million times; a number drawn in vain is a refusal, too
pub record IsGivenUp {X K : Type 0} (t : TableSight K) (p r : PassSight X) : Type 0 where
  pub cause : (r.numbers.left + 64 ≤ p.numbers.left) ⊎ RisesBy PATIENCE p.numbers.refused r.numbers.refused
  pub often : RisesBy 64 p.numbers.refused r.numbers.refused
  pub unserved : IsUnserved 64 t p r

-- A try that made no entry and is to be made again
pub record IsAgain {X K : Type 0} (t : TableSight K) (p r : PassSight X) : Type 0 where
  pub pass : KeepsPass t p r
  pub no_fault : r.numbers.met_fault ≡ p.numbers.met_fault
  pub draws : DrawsUpTo 1 p r
  -- it counts a refusal, or the pass has had a turn by it; each number that it drew counts one
  pub counts : (LAST_COUNT ≤ r.numbers.refused) ⊎ ((p.numbers.refused + draws.used ≤ r.numbers.refused) × (2 * p.numbers.refused + bit p.numbers.had_turn < 2 * r.numbers.refused + bit r.numbers.had_turn))

-- So many tries were made again, and the request isn't given up yet
pub record HasTried {X K : Type 0} (k : ℕ) (t : TableSight K) (p q : PassSight X) : Type 0 where
  pub pass : KeepsPass t p q
  pub no_fault : q.numbers.met_fault ≡ p.numbers.met_fault
  -- so many numbers were drawn, each for a refusal, fewer than 64
  pub used : ℕ
  pub draws : q.numbers.left + used ≡ p.numbers.left
  pub counted : p.numbers.refused + used ≤ q.numbers.refused
  -- two tries count a refusal at least
  pub tries : 2 * p.numbers.refused + k ≤ 2 * q.numbers.refused + bit q.numbers.had_turn
  pub few : used < 64
  pub under : q.numbers.refused < p.numbers.refused + PATIENCE

-- A turn for a try that can't get on counted a refusal, or was had
pub record HasGained {X K : Type 0} (t : TableSight K) (p q : PassSight X) : Type 0 where
  pub keeps : KeepsRest t p q
  pub no_fault : q.numbers.met_fault ≡ p.numbers.met_fault
  pub had : p.numbers.had_turn ≡ true → q.numbers.had_turn ≡ true
  pub gains : (LAST_COUNT ≤ q.numbers.refused) ⊎ ((p.numbers.refused < q.numbers.refused) ⊎ (q.numbers.had_turn ≡ true))

-- what follows a full box: a pump, and a try again unless it met a fault
abbrev pub AfterFull : {X K : Type 0} → TableSight K → Tried → PassSight X → PassSight X → Type 0
AfterFull t (Done d) p q = ⊥
AfterFull t Again p q = ((n : ℕ) × HasPumped t p q n) ⊎ WasRefused t p q
AfterFull t Device p q = HasFailed t p q
AfterFull t NoMemory p q = ⊥

-- what follows a page that is out: its fetch, and a try again unless it met a fault
abbrev pub AfterOut : {X K : Type 0} → TableSight K → ℕ → Tried → PassSight X → PassSight X → Type 0
AfterOut t page (Done d) p q = ⊥
AfterOut t page Again p q = HasFetched t page p q ⊎ WasRefused t p q
AfterOut t page Device p q = HasFailed t p q
AfterOut t page NoMemory p q = ⊥

-- the answer is this one, and nothing was done
abbrev pub AnswersAtOnce : {X : Type 0} → Tried → Tried → PassSight X → PassSight X → Type 0
AnswersAtOnce which tried p q = (tried ≡ which) × (q ≡ p)

-- what follows a Stop
abbrev pub AfterStop : {X K : Type 0} → TableSight K → Stop → Tried → PassSight X → PassSight X → Type 0
AfterStop t (stop.Conflict lock seen) tried p q = AnswersAtOnce Again tried p q
AfterStop t (stop.Out page) tried p q = AfterOut t page tried p q
AfterStop t (stop.Busy page seen) tried p q = AnswersAtOnce Again tried p q
AfterStop t stop.Wide tried p q = AnswersAtOnce Again tried p q
AfterStop t stop.NoMemory tried p q = AnswersAtOnce NoMemory tried p q

-- the Stop whose consequences a commit has that was lost so
abbrev pub stop_for : Lost → Stop
stop_for (lost.Out page) = stop.Out page
stop_for (lost.Busy page seen) = stop.Busy page seen
stop_for (lost.Conflict lock seen n) = stop.Conflict lock seen

-- what a try leaves, by how it ended
abbrev pub AfterTry : {X K : Type 0} → TableSight K → Sizes → ℕ → ℕ → Request → Tried → PassSight X → PassSight X → Type 0
AfterTry t s file index q (Done d) p r = IsServing 1 t s file index q p r d
AfterTry t s file index q Again p r = IsAgain t p r
AfterTry t s file index q Device p r = IsUnserved 0 t p r × (r.numbers.met_fault ≡ true)
AfterTry t s file index q NoMemory p r = IsUnserved 0 t p r × (r.numbers.met_fault ≡ p.numbers.met_fault)
