-- What refuses a medium: its content, or its length.
use Rattle.std.proofs.Common.{◌≡◌, ℕ, ◌<◌, ◌≤◌, IsTrue, List, refl, sym, ap, ◌∙◌, subst, arith, Option, Some, None}
use Rattle.dude_base.specs.declared.sizes.Sizes.{Sizes}
use Rattle.dude_base.specs.Image.{image_words}
use Rattle.pmem_trait.specs.Words.{IsContent}
use Rattle.pmem_trait.specs.Sights.{Sight, state_now}
use Rattle.pmem_trait.specs.Reads.{ContentHas}
use Rattle.tatp_model.specs.Population.{population_calls}
use Rattle.image_recovery.specs.Recovered.{Recovery, Unformatted, Damaged, NotDb, Recovered, Gives}
use Rattle.dude_recover.specs.Causes.{FitsImage}
use Rattle.command_edges.specs.Command.{Meaning}
use Rattle.dude_engine.specs.Opening.{Opening}
use Rattle.command_edges.specs.declared.fault.Fault.{Fault}
use Rattle.command_edges.specs.declared.fault.Fault.TheVariants as fault
use Rattle.command_openings.specs.Openings.{IsOpeningOn}
use Rattle.command_openings.proofs.OneOpening.{content_of, one_recovery}
use Rattle.dude_program.specs.Causes.{RefusesContent, RefusesFormat, sizes_made}

-- the fault that a recovery is answered with
abbrev fault_of_recovery : Recovery → Option Fault
fault_of_recovery Unformatted = Some fault.Unformatted
fault_of_recovery (Damaged line) = Some (fault.Damaged line)
fault_of_recovery (NotDb word) = Some (fault.NotDb word)
fault_of_recovery (Recovered number sizes db) = None

-- the recovery of the medium's content is answered with this fault
record GivenFor (why : Fault) (s : Sight) : Type 0 where
  recovery : Recovery
  is : fault_of_recovery recovery ≡ Some why
  gives : (content : List ℕ) → IsContent s.len (state_now s) content → Gives content recovery

never : (why : Fault) (s : Sight) → IsTrue s.is_visible → ((content : List ℕ) → RefusesContent content why → ⊥) → ContentHas (λ content. RefusesContent content why) s → GivenFor why s
never why s visible none has = let content = content_of s in absurd (none content.0 (has visible content.0 content.1))

given_for : (why : Fault) (s : Sight) → IsTrue s.is_visible → ContentHas (λ content. RefusesContent content why) s → GivenFor why s
given_for fault.Unformatted s visible has = record { recovery = Unformatted; is = refl; gives = has visible }
given_for (fault.Damaged line) s visible has = record { recovery = Damaged line; is = refl; gives = has visible }
given_for (fault.NotDb word) s visible has = record { recovery = NotDb word; is = refl; gives = has visible }
given_for fault.Usage s visible has = never fault.Usage s visible (λ content no. no) has
given_for (fault.File a) s visible has = never (fault.File a) s visible (λ content no. no) has
given_for (fault.Text a b c) s visible has = never (fault.Text a b c) s visible (λ content no. no) has
given_for (fault.Small a b) s visible has = never (fault.Small a b) s visible (λ content no. no) has
given_for (fault.TooFew a b) s visible has = never (fault.TooFew a b) s visible (λ content no. no) has
given_for (fault.ManyFiles a b) s visible has = never (fault.ManyFiles a b) s visible (λ content no. no) has
given_for (fault.Frames a b) s visible has = never (fault.Frames a b) s visible (λ content no. no) has
given_for (fault.FewSubscribers a b) s visible has = never (fault.FewSubscribers a b) s visible (λ content no. no) has
given_for (fault.Numbers a b) s visible has = never (fault.Numbers a b) s visible (λ content no. no) has
given_for fault.Device s visible has = never fault.Device s visible (λ content no. no) has
given_for fault.Output s visible has = never fault.Output s visible (λ content no. no) has
given_for fault.Memory s visible has = never fault.Memory s visible (λ content no. no) has
given_for (fault.Audit a) s visible has = never (fault.Audit a) s visible (λ content no. no) has
given_for (fault.Strange a b) s visible has = never (fault.Strange a b) s visible (λ content no. no) has

-- it is refused for one reason
pub one_content_fault : (s : Sight) (a b : Fault) → IsTrue s.is_visible → ContentHas (λ content. RefusesContent content a) s → ContentHas (λ content. RefusesContent content b) s
    → ◌≡◌ {A = Option Fault} (Some a) (Some b)
one_content_fault s a b visible one other =
    let x = given_for a s visible one in
    let y = given_for b s visible other in
    sym x.is ∙ (ap fault_of_recovery (one_recovery s x.recovery y.recovery visible x.gives y.gives) ∙ y.is)

-- and for none, where it recovers
pub opens_not_refused : (s : Sight) (opening : Opening) (why : Fault) → IsTrue s.is_visible → IsOpeningOn s opening → ContentHas (λ content. RefusesContent content why) s → ⊥
opens_not_refused s opening why visible on refused =
    let x = given_for why s visible refused in
    let same = one_recovery s x.recovery (Recovered opening.number opening.sizes opening.database) visible x.gives (on visible) in
    let no : None ≡ Some why = sym (ap fault_of_recovery same) ∙ x.is in
    let never : ⊥ = cc in never

-- Which length it is.
data Which (s : Sizes) (len : ℕ) (why : Fault) : Type 0 where
  small : (why ≡ fault.Small len (image_words s)) → (len < image_words s) → Which s len why
  few : (why ≡ fault.TooFew (population_calls s.subscribers) s.calls) → (image_words s ≤ len) → (s.calls < population_calls s.subscribers) → Which s len why

which : (meaning : Meaning) (s : Sizes) (len : ℕ) (why : Fault) → sizes_made meaning ≡ Some s → RefusesFormat meaning len why → Which s len why
which meaning s len (fault.Small has needs) is r =
    let same : r.0 ≡ s = (let e = r.1 in cc) in
    let h : has ≡ len = r.2 in
    let n : needs ≡ image_words s = r.3 ∙ ap image_words same in
    small (let p = h in let q = n in cc) (omega (arith, h, n, r.4))
which meaning s len (fault.TooFew rows calls) is r =
    let same : r.0 ≡ s = (let e = r.1 in cc) in
    let a : rows ≡ population_calls s.subscribers = r.3 ∙ ap (λ (z : Sizes). population_calls z.subscribers) same in
    let b : calls ≡ s.calls = r.4 ∙ ap (λ (z : Sizes). z.calls) same in
    let w : image_words s ≤ len = subst (λ (z : Sizes). image_words z ≤ len) same r.2 in
    few (let p = a in let q = b in cc) w (omega (arith, a, b, r.5))
which meaning s len why is r = absurd r

pub one_format_fault : (meaning : Meaning) (s : Sizes) (len : ℕ) (a b : Fault) → sizes_made meaning ≡ Some s → RefusesFormat meaning len a → RefusesFormat meaning len b → a ≡ b
one_format_fault meaning s len a b is one other = by (which meaning s len a is one) (which meaning s len b is other)
  where
    by : Which s len a → Which s len b → a ≡ b
    by (small e x) (small g y) = e ∙ sym g
    by (small e x) (few g y z) = absurd (omega (arith, x, y))
    by (few e x z) (small g y) = absurd (omega (arith, x, y))
    by (few e x z) (few g y w) = e ∙ sym g

pub fits_not_refused : (meaning : Meaning) (s : Sizes) (len : ℕ) (why : Fault) → sizes_made meaning ≡ Some s → FitsImage s len → RefusesFormat meaning len why → ⊥
fits_not_refused meaning s len why is fits refused = by (which meaning s len why is refused)
  where
    by : Which s len why → ⊥
    by (small e x) = omega (arith, x, fits.room)
    by (few e x z) = omega (arith, z, fits.calls)

-- a command that makes no image isn't refused for a length
pub makes_none : (meaning : Meaning) (len : ℕ) (why : Fault) → sizes_made meaning ≡ None → RefusesFormat meaning len why → ⊥
makes_none meaning len (fault.Small has needs) is r = let e = r.1 in let no : ⊥ = cc in no
makes_none meaning len (fault.TooFew rows calls) is r = let e = r.1 in let no : ⊥ = cc in no
makes_none meaning len fault.Usage is r = r
makes_none meaning len (fault.File a) is r = r
makes_none meaning len (fault.Text a b c) is r = r
makes_none meaning len fault.Unformatted is r = r
makes_none meaning len (fault.Damaged a) is r = r
makes_none meaning len (fault.NotDb a) is r = r
makes_none meaning len (fault.ManyFiles a b) is r = r
makes_none meaning len (fault.Frames a b) is r = r
makes_none meaning len (fault.FewSubscribers a b) is r = r
makes_none meaning len (fault.Numbers a b) is r = r
makes_none meaning len fault.Device is r = r
makes_none meaning len fault.Output is r = r
makes_none meaning len fault.Memory is r = r
makes_none meaning len (fault.Audit a) is r = r
makes_none meaning len (fault.Strange a b) is r = r
