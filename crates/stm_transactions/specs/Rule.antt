-- What passes and transactions ask of the slots.
use Rattle.std.specs.Prelude.{◌≡◌, ℕ, true, List, refl}
use mathlib.Core.Option.{Option}
use Rattle.pmem_trait.specs.Sights.{Sight}
use Rattle.pmem_trait.specs.declared.medium.Medium.{Ghosts}
use Rattle.core_events.specs.Events.{Event, number, begin, extend, look, load, check, finish, take, decide, store, release, restore, see_box, entry, pin, unpin, touch}
use Rattle.core_events.specs.Words.{State}
use Rattle.core_table.specs.Layout.{TableSight}
use Rattle.core_table.specs.Rules.{Outlasts, OutlastsSplit, OutlastsJoin}
use Rattle.stm_transactions.specs.Passes.{OutlastsPasses}
use Rattle.stm_slots.specs.Beside.{nothing_beside}
use Rattle.stm_slots.specs.QuietSteps.{LawOfQuietSteps, fact_of, is_quiet}
use Rattle.stm_slots.specs.declared.opening.Opening.{Opening}
use Rattle.stm_transactions.specs.CommitRule.{OutlastsEnding}

-- The fact of the slots outlasts each step of a pass and of a transaction, but for the draw and the post of a number; a new seat has x
-- beside its view.
pub record LetsTransact {S X K : Type 0} (slot_fact : K → State → List X → List (Option S) → Type 0) (x : X) (t : TableSight K) : Type 0 where
  pub passes : OutlastsPasses slot_fact x t
  pub ending : OutlastsEnding slot_fact t

-- a fact of the slots that outlasts quiet events, splits and joins lets all that be
lets_by : {S X K : Type 0} (slot_fact : K → State → List X → List (Option S) → Type 0) (x : X) (t : TableSight K) → ((draws : ℕ) → OutlastsSplit (slot_fact t.key) t.setup draws x) → OutlastsJoin (slot_fact t.key) t.setup x
    → ((e : Event) → is_quiet e ≡ true → Outlasts (slot_fact t.key) t.setup e) → LetsTransact slot_fact x t
lets_by slot_fact x t splits joins events = record {
  passes = record { split = splits; join = joins; number = events number refl; see_box = events see_box refl; begin = events begin refl };
  ending = record {
    reading = record {
      entry = λ page. events (entry page) refl;
      pin = λ page. events (pin page) refl;
      unpin = λ page. events (unpin page) refl;
      look = λ lock. events (look lock) refl;
      load = λ at. events (load at) refl;
      check = λ lock. events (check lock) refl;
      take = λ lock. events (take lock) refl;
      extend = events extend refl;
    };
    decide = events decide refl;
    finish = λ about. events (finish about) refl;
    store = λ at. events (store at) refl;
    touch = λ page. events (touch page) refl;
    release = λ lock. events (release lock) refl;
    restore = λ lock. events (restore lock) refl;
  };
}

-- where nothing is kept of the slots, every step leaves it so
pub any_lets : {S K : Type 0} (t : TableSight K) → LetsTransact {S = S} {X = Unit {0}} {K = K} (λ key c xs homes. Unit {0}) tt t
any_lets t = lets_by (λ key c xs homes. Unit {0}) tt t (λ draws c who v xs homes kept may fact. tt) (λ c who other v w xs homes kept may fact. tt) (λ e quiet c who v xs homes kept may fact. tt)

-- where the back and the records stand in the slots, quiet steps leave it so
pub kept_lets : {M : Type 0} {ghosts : Ghosts M} (sight : M → Sight) (t : TableSight (Opening M ghosts)) → LawOfQuietSteps sight t → LetsTransact (fact_of sight) nothing_beside t
kept_lets sight t law = lets_by (fact_of sight) nothing_beside t law.splits law.joins law.events
