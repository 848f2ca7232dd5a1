-- The first table where something is wrong.
use Rattle.std.proofs.Common.{◌≡◌, ℕ, ◌+◌, ◌<◌, List, inl, inr, refl, sym, subst, arith}
use Rattle.std.proofs.lemmas.Bool.{cases_order}
use Rattle.dude_base.specs.declared.sizes.Sizes.{Sizes}
use Rattle.tatp_check.specs.declared.check_fault.CheckFault.{CheckFault}
use Rattle.tatp_check.specs.declared.taken.Taken.{Taken}
use Rattle.tatp_check.specs.Faults.{IsCause, IsFirstWrong}
use Rattle.tatp_check.specs.Taken.{records_taken}
use Rattle.tatp_check.specs.Whole.{KeepsWhole}
use Rattle.tatp_check.proofs.Ends.{cause_of}
use Rattle.tatp_check.specs.declared.table_kind.TableKind.{TableKind}
use Rattle.tatp_check.specs.declared.table_kind.TableKind.TheVariants.{Subscribers, Numbers, Access, Facilities, Calls}
use Rattle.tatp_check.specs.Content.{content_of, table_of}
use Rattle.tatp_check.specs.Order.{IsInTables, IsWholeKind}
use Rattle.tatp_check.specs.References.{kind_rank}
use Rattle.tatp_check.proofs.OneWord.{one_rank}

module _ (s : Sizes) (array : List ℕ) where
  -- nothing is wrong in the tables before this one
  abbrev pub AreWholeBefore : TableKind → Type 0
  AreWholeBefore kind = (other : TableKind) → kind_rank other < kind_rank kind → (records : List ℕ) × IsWholeKind s array other records

  -- what is wrong in it is first
  pub first_in : (kind : TableKind) → AreWholeBefore kind → (fault : CheckFault) → IsCause (IsFirstWrong (content_of kind) (table_of kind s) array) fault → IsCause (IsInTables s array) fault
  first_in kind before fault cause = cause_of _ _ (λ word wrong. record { kind = kind; before = before; wrong = wrong }) fault cause

  -- nor is anything wrong in the tables before the next one, where nothing is in this one
  before_next : (kind next : TableKind) → kind_rank next ≡ kind_rank kind + 1 → AreWholeBefore kind → (records : List ℕ) × IsWholeKind s array kind records → AreWholeBefore next
  before_next kind next follows before whole other below = elim (cases_order (kind_rank other) (kind_rank kind)) [
    | inl level ↦ subst (λ k. (records : List ℕ) × IsWholeKind s array k records) (one_rank kind other (sym level)) whole
    | inr order ↦ elim order [ inl sooner ↦ before other sooner | inr later ↦ absurd (omega (arith, follows, below, later)) ]
  ]

  module _ (subscribers : Taken) (first : KeepsWhole (content_of Subscribers) (table_of Subscribers s) array subscribers) where
    pub before_numbers : AreWholeBefore Numbers
    before_numbers = before_next Subscribers Numbers refl (λ other below. absurd (omega (arith, below))) (records_taken subscribers, first.whole)

    module _ (numbers : Taken) (second : KeepsWhole (content_of Numbers) (table_of Numbers s) array numbers) where
      pub before_access : AreWholeBefore Access
      before_access = before_next Numbers Access refl before_numbers (records_taken numbers, second.whole)

      module _ (access : Taken) (third : KeepsWhole (content_of Access) (table_of Access s) array access) where
        pub before_facilities : AreWholeBefore Facilities
        before_facilities = before_next Access Facilities refl before_access (records_taken access, third.whole)

        pub before_calls : (facilities : Taken) → KeepsWhole (content_of Facilities) (table_of Facilities s) array facilities → AreWholeBefore Calls
        before_calls facilities fourth = before_next Facilities Calls refl before_facilities (records_taken facilities, fourth.whole)
