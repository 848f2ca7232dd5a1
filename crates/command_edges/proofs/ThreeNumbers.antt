-- The words of a command that takes three numbers.
use Rattle.std.proofs.lemmas.Bool.{cases_Bool}
use Rattle.std.proofs.lemmas.Slice.Eq.{bytes_eq-Decides}
use Rattle.std.proofs.Common.{inl, inr, ℕ, ◌≡◌, ◌<◌, ◌^◌, ◌-◌, ◌∙◌, Bool, true, false, List, [], ◌∷◌, Option, Some, None, refl, arith, codes, drop}
use Rattle.std.specs.Prelude.{◌==◌, ◌&&◌, if◌then◌else◌}
use Rattle.std.specs.Str.{bytes_eq}
use Rattle.dude_base.specs.declared.limits.TheConstants.{MAX_RINGS}
use Rattle.clap.specs.Walk.{Held, Row, Text, idle, nothing_held, value, walked}
use Rattle.clap.specs.Simple.{Shape, built, matches_of}
use Rattle.clap.specs.Faults.{defaults_fault, fault_of, step_fault, walk_fault}
use Rattle.clap.specs.Kinds.{or_else}
use Rattle.clap.specs.ValueTests.{accepts}
use Rattle.clap.specs.declared.builder.value_parser.ValueParser.TheVariants as vp
use Rattle.command_edges.specs.Command.{DriveLoad, Limits, LocateRange, Meaning, drive_of, locate_of, of_three, with_three}
use Rattle.command_edges.specs.Clap.{drive_app, drive_in, has_three_form, is_number, locate_app, locate_in, parsed_number, three_app, three_in}
use Rattle.command_edges.proofs.NumberWords.{both, first-digit, word_number-parsed}
use Rattle.command_edges.proofs.Plain.{at, fault-end, fault-turn, walked-idle}
use Rattle.command_edges.proofs.Readings.{Reads, failing_unless, reads-by}
use Rattle.command_edges.proofs.Rows.{held, value_row}

-- the names of three arguments differ, and none is that of the help
pub record AreApart (i j k : Text) : Type 0 where
  pub first_second : bytes_eq i j ≡ false
  pub first_third : bytes_eq i k ≡ false
  pub second_third : bytes_eq j k ≡ false
  pub first_help : bytes_eq i (codes "help") ≡ false
  pub second_help : bytes_eq j (codes "help") ≡ false
  pub third_help : bytes_eq k (codes "help") ≡ false

same : (i : Text) → bytes_eq i i ≡ true
same i = (bytes_eq-Decides i i).1 refl

-- three numbers, each where its test holds
none-last : (made : ℕ → ℕ → ℕ → Meaning) (s c : Option ℕ) → with_three made s c None ≡ None
none-last made None c = refl
none-last made (Some a) None = refl
none-last made (Some a) (Some b) = refl

none-second : (made : ℕ → ℕ → ℕ → Meaning) (s n : Option ℕ) → with_three made s None n ≡ None
none-second made None n = refl
none-second made (Some a) n = refl

all-pass : (made : ℕ → ℕ → ℕ → Meaning) (x y z : Bool) (s c n : Option ℕ)
    → with_three made (if x then s else None) (if y then c else None) (if z then n else None)
    ≡ (if x && y && z then with_three made s c n else None)
all-pass made true true true s c n = refl
all-pass made false y z s c n = refl
all-pass made true false z s c n = none-second made s (if z then n else None)
all-pass made true true false s c n = none-last made s c

module _ (title i j k : Text) (apart : AreApart i j k) (p q r : Limits) where
  -- what a parse reads of it, built
  abbrev shape : Shape
  shape = (built (three_app title i j k p q r)).top

  abbrev after_one : Text → Held
  after_one s = held [] i (s ∷ [])

  abbrev after_two : Text → Text → Held
  after_two s c = held (value_row i s ∷ []) j (c ∷ [])

  abbrev after_three : Text → Text → Text → Held
  after_three s c n = held (value_row i s ∷ value_row j c ∷ []) k (n ∷ [])

  step-one : (a : ℕ) (s : Text) → (a == 45) ≡ false → walked shape.rules [] (at nothing_held idle 1) (a ∷ s) ≡ at (after_one (a ∷ s)) idle 2
  step-one a s e = walked-idle shape.rules nothing_held 1 a s e

  step-two : (s : Text) (b : ℕ) (c : Text) → (b == 45) ≡ false → walked shape.rules [] (at (after_one s) idle 2) (b ∷ c) ≡ at (after_two s (b ∷ c)) idle 3
  step-two s b c e = walked-idle shape.rules (after_one s) 2 b c e ∙ simp (apart.first_second, same i)

  step-three : (s c : Text) (d : ℕ) (n : Text) → (d == 45) ≡ false → walked shape.rules [] (at (after_two s c) idle 3) (d ∷ n) ≡ at (after_three s c (d ∷ n)) idle 4
  step-three s c d n e =
      walked-idle shape.rules (after_two s c) 3 d n e ∙ simp (apart.first_second, apart.second_third, same j)

  abbrev three_rows : Text → Text → Text → List Row
  three_rows s c n = value_row i s ∷ value_row j c ∷ value_row k n ∷ []

  -- the matches
  matches_of-three : (name : Text) (a : ℕ) (s : Text) (b : ℕ) (c : Text) (d : ℕ) (n : Text)
      → (a == 45) ≡ false → (b == 45) ≡ false → (d == 45) ≡ false
      → matches_of (three_app title i j k p q r) (name ∷ (a ∷ s) ∷ (b ∷ c) ∷ (d ∷ n) ∷ []) ≡ three_rows (a ∷ s) (b ∷ c) (d ∷ n)
  matches_of-three name a s b c d n na nb nd =
      rw (step-one a s na, step-two (a ∷ s) b c nb, step-three (a ∷ s) (b ∷ c) d n nd)
      (simp (apart.first_second, apart.first_third, apart.second_third, apart.first_help, apart.second_help, apart.third_help, same i, same j, same k))

  fault-walk : (a : ℕ) (s : Text) (b : ℕ) (c : Text) (d : ℕ) (n : Text)
      → (a == 45) ≡ false → (b == 45) ≡ false → (d == 45) ≡ false
      → walk_fault shape [] (at nothing_held idle 1) ((a ∷ s) ∷ (b ∷ c) ∷ (d ∷ n) ∷ [])
      ≡ or_else (step_fault shape 1 nothing_held value)
      (or_else (step_fault shape 2 (after_one (a ∷ s)) value)
      (or_else (step_fault shape 3 (after_two (a ∷ s) (b ∷ c)) value) []))
  fault-walk a s b c d n na nb nd =
      rw (
        fault-turn shape nothing_held (after_one (a ∷ s)) 1 a s ((b ∷ c) ∷ (d ∷ n) ∷ []) na (step-one a s na),
        fault-turn shape (after_one (a ∷ s)) (after_two (a ∷ s) (b ∷ c)) 2 b c ((d ∷ n) ∷ []) nb (step-two (a ∷ s) b c nb),
        fault-turn shape (after_two (a ∷ s) (b ∷ c)) (after_three (a ∷ s) (b ∷ c) (d ∷ n)) 3 d n [] nd (step-three (a ∷ s) (b ∷ c) d n nd),
        fault-end shape (at (after_three (a ∷ s) (b ∷ c) (d ∷ n)) idle 4),
      ) refl

  -- each number passes its parser
  abbrev all_accepted : Text → Text → Text → Bool
  all_accepted s c n =
      accepts false (vp.Unsigned p.0 p.1) s && accepts false (vp.Unsigned q.0 q.1) c && accepts false (vp.Unsigned r.0 r.1) n

  -- it fails only where a number doesn't pass
  fault_of-three : (name : Text) (a : ℕ) (s : Text) (b : ℕ) (c : Text) (d : ℕ) (n : Text)
      → (a == 45) ≡ false → (b == 45) ≡ false → (d == 45) ≡ false
      → fault_of (three_app title i j k p q r) (name ∷ (a ∷ s) ∷ (b ∷ c) ∷ (d ∷ n) ∷ []) ≡ failing_unless (all_accepted (a ∷ s) (b ∷ c) (d ∷ n))
  unfolding defaults_fault
  fault_of-three name a s b c d n na nb nd =
      rw (fault-walk a s b c d n na nb nd, step-one a s na, step-two (a ∷ s) b c nb, step-three (a ∷ s) (b ∷ c) d n nd)
      (simp (apart.first_second, apart.first_third, apart.second_third, apart.first_help, apart.second_help, apart.third_help, same i, same j, same k)
      (elim (cases_Bool (accepts false (vp.Unsigned p.0 p.1) (a ∷ s))) [
        | inr bad ↦ rw bad refl
        | inl one ↦ elim (cases_Bool (accepts false (vp.Unsigned q.0 q.1) (b ∷ c))) [
          | inr bad ↦ rw (one, bad) refl
          | inl two ↦ elim (cases_Bool (accepts false (vp.Unsigned r.0 r.1) (d ∷ n))) [
            | inr bad ↦ rw (one, two, bad) refl
            | inl three ↦ rw (one, two, three) refl
          ]
        ]
      ]))

  -- what three numbers mean is what is read of their matches, where each passes
  module _ (made : ℕ → ℕ → ℕ → Meaning) (first : p.1 < 2 ^ 64) (second : q.1 < 2 ^ 64) (third : r.1 < 2 ^ 64) where
    of_three-parsed : (s c n : Text) → is_number s ≡ true → is_number c ≡ true → is_number n ≡ true
        → of_three made p q r (s ∷ c ∷ n ∷ [])
        ≡ (if all_accepted s c n then three_in made i j k (three_rows s c n) else None)
    of_three-parsed s c n one two three =
        rw (word_number-parsed p.0 p.1 s first one, word_number-parsed q.0 q.1 c second two, word_number-parsed r.0 r.1 n third three)
        (simp (apart.first_second, apart.first_third, apart.second_third, same i, same j, same k)
        (all-pass made (accepts false (vp.Unsigned p.0 p.1) s) (accepts false (vp.Unsigned q.0 q.1) c) (accepts false (vp.Unsigned r.0 r.1) n)
        (parsed_number s) (parsed_number c) (parsed_number n)))

    three-words : (name s c n : Text) → is_number s ≡ true → is_number c ≡ true → is_number n ≡ true
        → Reads (three_app title i j k p q r) (name ∷ s ∷ c ∷ n ∷ []) (of_three made p q r (s ∷ c ∷ n ∷ [])) (three_in made i j k)
    three-words name s c n fs fc fn =
        let one = first-digit s fs in
        let two = first-digit c fc in
        let three = first-digit n fn in
        let means = of_three-parsed s c n fs fc fn in
        rw (one.2, two.2, three.2)
        (reads-by (three_app title i j k p q r) (name ∷ (one.0 ∷ one.1) ∷ (two.0 ∷ two.1) ∷ (three.0 ∷ three.1) ∷ []) _ (three_in made i j k)
        (all_accepted (one.0 ∷ one.1) (two.0 ∷ two.1) (three.0 ∷ three.1)) (three_rows (one.0 ∷ one.1) (two.0 ∷ two.1) (three.0 ∷ three.1))
        (fault_of-three name one.0 one.1 two.0 two.1 three.0 three.1 one.3 two.3 three.3)
        (matches_of-three name one.0 one.1 two.0 two.1 three.0 three.1 one.3 two.3 three.3) (rw (one.2, two.2, three.2) at means))

    -- words of the form
    pub three-reads : (words : List Text) → has_three_form words ≡ true → Reads (three_app title i j k p q r) words (of_three made p q r (drop 1 words)) (three_in made i j k)
    three-reads [] h = cc h
    three-reads (name ∷ []) h = cc h
    three-reads (name ∷ s ∷ []) h = cc h
    three-reads (name ∷ s ∷ c ∷ []) h = cc h
    three-reads (name ∷ s ∷ c ∷ n ∷ x ∷ more) h = cc h
    three-reads (name ∷ s ∷ c ∷ n ∷ []) h =
        let last = both _ _ h in
        let second = both _ _ last.0 in
        three-words name s c n second.0 second.1 last.1

-- the words of `drive`
pub drive-reads : (words : List Text) → has_three_form words ≡ true → Reads drive_app words (drive_of (drop 1 words)) drive_in
drive-reads words form =
    three-reads (codes "drive") (codes "seed") (codes "count") (codes "files")
    (record { first_second = refl; first_third = refl; second_third = refl; first_help = refl; second_help = refl; third_help = refl })
    (0, 2 ^ 64 - 1) (0, 99_999) (1, MAX_RINGS) DriveLoad (omega arith) (omega arith) (omega arith) words form

-- the words of `locate`
pub locate-reads : (words : List Text) → has_three_form words ≡ true → Reads locate_app words (locate_of (drop 1 words)) locate_in
locate-reads words form =
    three-reads (codes "locate") (codes "low") (codes "high") (codes "limit")
    (record { first_second = refl; first_third = refl; second_third = refl; first_help = refl; second_help = refl; third_help = refl })
    (0, 4_294_967_295) (0, 4_294_967_295) (1, 10_000) LocateRange (omega arith) (omega arith) (omega arith) words form
