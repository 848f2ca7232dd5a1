-- The content of a visible medium recovers to one opening, and to none where it is refused.
use Rattle.std.proofs.Common.{◌≡◌, ℕ, IsTrue, List, map, arith}
use Rattle.std.specs.List.{range_with_len}
use Rattle.std.proofs.lemmas.List.FromFn.{get_or-map-range_with_len, length-map-range_with_len}
use Rattle.dude_base.specs.declared.sizes.Sizes.{Sizes}
use Rattle.pmem_trait.specs.Words.{State, IsContent, value_of}
use Rattle.pmem_trait.specs.Sights.{Sight, state_now}
use Rattle.tatp_model.specs.Database.{Database}
use Rattle.image_recovery.specs.Recovered.{Recovery, Recovered, Gives}
use Rattle.image_recovery.proofs.OneRecovery.{one_recovery_law}
use Rattle.dude_engine.specs.Opening.{Opening}
use Rattle.command_openings.specs.Openings.{IsOpeningOn}

-- each state has a content
abbrev content_at : ℕ → State → List ℕ
content_at len p = map (λ k. value_of (p.word k)) (range_with_len 0 len)

has_content : (len : ℕ) (p : State) → IsContent len p (content_at len p)
has_content len p = record {
  size = length-map-range_with_len (λ k. value_of (p.word k)) 0 len;
  each = λ k below. get_or-map-range_with_len (λ k. value_of (p.word k)) 0 len k k 0 below (omega arith);
}

-- the content of a visible medium
pub content_of : (s : Sight) → (content : List ℕ) × IsContent s.len (state_now s) content
content_of s = (content_at s.len (state_now s), has_content s.len (state_now s))

abbrev pub opening_with : ℕ → Sizes → Database → Opening
opening_with number sizes db = record { number = number; sizes = sizes; database = db }

abbrev opening_given : Opening → Recovery
opening_given opening = Recovered opening.number opening.sizes opening.database

one_given : (n m : ℕ) (s t : Sizes) (d e : Database) → Recovered n s d ≡ Recovered m t e → opening_with n s d ≡ opening_with m t e
one_given n m s t d e is =
    let numbers : n ≡ m = cc in
    let sizes : s ≡ t = cc in
    let databases : d ≡ e = cc in
    cc

-- two recoveries of a visible medium's content are one
pub one_recovery : (s : Sight) (a b : Recovery) → IsTrue s.is_visible → ((content : List ℕ) → IsContent s.len (state_now s) content → Gives content a)
    → ((content : List ℕ) → IsContent s.len (state_now s) content → Gives content b) → a ≡ b
one_recovery s a b visible one other =
    let content = content_of s in
    one_recovery_law content.0 a b (one content.0 content.1) (other content.0 content.1)

pub one_opening : (s : Sight) (a b : Opening) → IsTrue s.is_visible → IsOpeningOn s a → IsOpeningOn s b → a ≡ b
one_opening s a b visible one other =
    one_given a.number b.number a.sizes b.sizes a.database b.database (one_recovery s (opening_given a) (opening_given b) visible (one visible) (other visible))
