-- Turns as they are kept: the last of them, whether a key goes by them, and where the walk turns back to.
use Rattle.std.proofs.Common.{◌≡◌, ◌↔◌, ℕ, ◌+◌, ◌<◌, List, [], ◌∷◌, ◌++◌, length, take, get_or, Option, Some, None, refl, sym, ap, ◌∙◌, subst, arith}
use Rattle.std.specs.Option.{option_or}
use Rattle.std.proofs.lemmas.List.{length_push, same_from_push, take_more}
use Rattle.tree_index.specs.Shape.{Shape, Fork, least_of}
use Rattle.tatp_check.specs.declared.tree_seen.OpenFork.{OpenFork}
use Rattle.tatp_check.specs.TreeSeen.{IsTurned, PassesFork, Progress, kept_fork, kept_forks, turned}
use Rattle.tatp_check.specs.TreeWalk.{GoesByTurns, ToOnes, ToZeros, Turn, bit_limit}

-- the last turn that is kept, and those before it
pub record HasLast (turns : List Turn) (before : List OpenFork) (fork : OpenFork) : Type 0 where
  pub turn : Turn
  pub rest : List Turn
  pub turns_are : turns ≡ turn ∷ rest
  pub fork_is : fork ≡ kept_fork turn
  pub before_are : before ≡ kept_forks rest

pub last_kept : (turns : List Turn) (before : List OpenFork) (fork : OpenFork) → before ++ fork ∷ [] ≡ kept_forks turns → HasLast turns before fork
last_kept [] before fork same = absurd (omega (arith, length_push before fork, ap (λ (l : List OpenFork). length l) same))
last_kept (turn ∷ rest) before fork same =
    let both = same_from_push before (kept_forks rest) fork (kept_fork turn) same in
    record { turn = turn; rest = rest; turns_are = refl; fork_is = both.1; before_are = both.0 }

-- there is none
pub none_kept : (turns : List Turn) → [] ≡ kept_forks turns → turns ≡ []
none_kept [] same = refl
none_kept (turn ∷ rest) same = absurd (omega (arith, length_push (kept_forks rest) (kept_fork turn), ap (λ (l : List OpenFork). length l) same))

-- the last one's bit limits those behind it
pub limit_kept : (turn : Turn) (rest : List Turn) → (kept_fork turn).bit ≡ bit_limit (turn ∷ rest)
limit_kept (ToZeros at bit) rest = refl
limit_kept (ToOnes at bit zeros) rest = refl

-- ---- whether a key goes by them

-- of the turns the first `left` are still to be tested
pub record LeavesTurns (key : ℕ) (above : List OpenFork) (turns : List Turn) (left : ℕ) (first : Option ℕ) : Type 0 where
  pub rest : List Turn
  pub kept : take left above ≡ kept_forks rest
  pub same : GoesByTurns key None turns ↔ GoesByTurns key first rest

passes_last : (key : ℕ) (first : Option ℕ) (turn : Turn) (rest : List Turn)
    → GoesByTurns key first (turn ∷ rest) ↔ (PassesFork key (kept_fork turn) first × GoesByTurns key (option_or (kept_fork turn).first first) rest)
passes_last key first (ToZeros at bit) rest = ((λ g. ((g.0, g.1), g.2)), (λ g. (g.0.0, g.0.1, g.1)))
passes_last key first (ToOnes at bit zeros) rest = ((λ g. ((g.0, g.1), g.2)), (λ g. (g.0.0, g.0.1, g.1)))

module _ (key : ℕ) (above : List OpenFork) (turns : List Turn) where
  module _ (left : ℕ) (first : Option ℕ) (d : OpenFork) (known : LeavesTurns key above turns (left + 1) first) (below : left < length above) where
    abbrev pub fork : OpenFork
    fork = get_or above left d

    last_is : HasLast known.rest (take left above) fork
    last_is = last_kept known.rest (take left above) fork (sym (take_more above left d below) ∙ known.kept)

    tested : GoesByTurns key first known.rest ↔ (PassesFork key fork first × GoesByTurns key (option_or fork.first first) last_is.rest)
    tested =
        let there = passes_last key first last_is.turn last_is.rest in
        let whole = subst (λ f. GoesByTurns key first (last_is.turn ∷ last_is.rest) ↔ (PassesFork key f first × GoesByTurns key (option_or f.first first) last_is.rest)) (sym last_is.fork_is) there in
        subst (λ t. GoesByTurns key first t ↔ (PassesFork key fork first × GoesByTurns key (option_or fork.first first) last_is.rest)) (sym last_is.turns_are) whole

    -- it doesn't pass the last one
    pub stops_there : ¬ PassesFork key fork first → ¬ GoesByTurns key None turns
    stops_there not goes = not (tested.0 (known.same.0 goes)).0

    -- it passes it
    pub goes_on_there : PassesFork key fork first → LeavesTurns key above turns left (option_or (get_or above left d).first first)
    goes_on_there passes = record {
      rest = last_is.rest;
      kept = last_is.before_are;
      same = ((λ goes. (tested.0 (known.same.0 goes)).1), (λ goes. known.same.1 (tested.1 (passes, goes))));
    }

  -- none is left
  pub goes_by_all : (first : Option ℕ) → LeavesTurns key above turns 0 first → GoesByTurns key None turns
  goes_by_all first known = known.same.1 (subst (GoesByTurns key first) (sym (none_kept known.rest known.kept)) tt)

-- ---- where the walk turns back to

-- behind these turns a shape with this least key is done, and the walk goes on as from that place
pub record StandsBack (place : Progress) (first : ℕ) (above : List OpenFork) : Type 0 where
  pub turns : List Turn
  pub shape : Shape
  pub kept : above ≡ kept_forks turns
  pub least : first ≡ least_of shape
  pub same : turned shape turns ≡ place

module _ (place : Progress) (first : ℕ) (above before : List OpenFork) (fork : OpenFork) (known : StandsBack place first above) (popped : above ≡ before ++ fork ∷ []) where
  back_last : HasLast known.turns before fork
  back_last = last_kept known.turns before fork (sym popped ∙ known.kept)

  -- the ones of the last record are done, and so it is
  pub back_further : (other : ℕ) → fork.first ≡ Some other → StandsBack place other before
  back_further other is = by back_last.turn back_last.fork_is back_last.turns_are
    where
      by : (turn : Turn) → fork ≡ kept_fork turn → known.turns ≡ turn ∷ back_last.rest → StandsBack place other before
      by (ToZeros at bit) fork_is turns_are = let no : None ≡ Some other = sym (ap (λ (f : OpenFork). f.first) fork_is) ∙ is in absurd (cc)
      by (ToOnes at bit zeros) fork_is turns_are =
          let yes : Some (least_of zeros) ≡ Some other = sym (ap (λ (f : OpenFork). f.first) fork_is) ∙ is in
          record {
            turns = back_last.rest;
            shape = Fork at bit zeros known.shape;
            kept = back_last.before_are;
            least = cc;
            same = ap (λ t. turned known.shape t) (sym turns_are) ∙ known.same;
          }

  -- its zeros are done
  pub back_to_ones : (root : ℕ) → fork.first ≡ None → IsTurned root place (Some (fork.at + 3)) (before ++ (record { at = fork.at; bit = fork.bit; first = Some first }) ∷ [])
  back_to_ones root is = by back_last.turn back_last.fork_is back_last.turns_are
    where
      by : (turn : Turn) → fork ≡ kept_fork turn → known.turns ≡ turn ∷ back_last.rest → IsTurned root place (Some (fork.at + 3)) (before ++ (record { at = fork.at; bit = fork.bit; first = Some first }) ∷ [])
      by (ToOnes at bit zeros) fork_is turns_are = let no : Some (least_of zeros) ≡ None = sym (ap (λ (f : OpenFork). f.first) fork_is) ∙ is in absurd (cc)
      by (ToZeros at bit) fork_is turns_are =
          let now : IsTurned root (turned known.shape (ToZeros at bit ∷ back_last.rest)) (Some (at + 3)) (kept_forks back_last.rest ++ (record { at = at; bit = bit; first = Some (least_of known.shape) }) ∷ []) = (refl, refl) in
          subst (λ p. IsTurned root p (Some (fork.at + 3)) (before ++ (record { at = fork.at; bit = fork.bit; first = Some first }) ∷ [])) (ap (λ t. turned known.shape t) (sym turns_are) ∙ known.same)
          (subst (λ (f : OpenFork). IsTurned root (turned known.shape (ToZeros at bit ∷ back_last.rest)) (Some (f.at + 3)) (before ++ (record { at = f.at; bit = f.bit; first = Some first }) ∷ [])) (sym fork_is)
          (subst (λ l. IsTurned root (turned known.shape (ToZeros at bit ∷ back_last.rest)) (Some (at + 3)) (l ++ (record { at = at; bit = bit; first = Some first }) ∷ [])) (sym back_last.before_are)
          (subst (λ k. IsTurned root (turned known.shape (ToZeros at bit ∷ back_last.rest)) (Some (at + 3)) (kept_forks back_last.rest ++ (record { at = at; bit = bit; first = Some k }) ∷ [])) (sym known.least) now)))

-- the whole is done
pub back_at_end : (root : ℕ) (place : Progress) (first : ℕ) (above after : List OpenFork) → StandsBack place first above → above ≡ [] → IsTurned root place None after
back_at_end root place first above after known none =
    subst (λ p. IsTurned root p None after) (ap (λ t. turned known.shape t) (sym (none_kept known.turns (sym none ∙ known.kept))) ∙ known.same) refl
