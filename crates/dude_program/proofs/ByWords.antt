-- What holds of a command that is given by its words, by what they mean.
use Rattle.std.proofs.Common.{◌≡◌, ℕ, List, [], IsTrue, inl, inr, refl, subst, Option, Some, None}
use Rattle.pmem_trait.specs.Sights.{IsAtRest, Sight}
use Rattle.tatp_model.specs.declared.done.Done.{Done}
use Rattle.dude_io.specs.Files.{FilesSight}
use Rattle.dude_io.specs.Sink.{SinkSight}
use Rattle.command_edges.specs.Command.{Meaning, meaning_of}
use Rattle.command_edges.specs.declared.fault.Fault.{Fault}
use Rattle.command_edges.specs.declared.fault.Fault.TheVariants.{Memory, Usage}
use Rattle.dude_program.specs.World.{World, world_of}
use Rattle.dude_program.specs.Opening.{has_headline}
use Rattle.dude_program.specs.Headline.{Headline}
use Rattle.dude_program.specs.Causes.{Causes}
use Rattle.dude_program.specs.Ended.{Ends, EndsByWords, HasOwnTheorem}
use Rattle.dude_program.proofs.FollowEnds.{follows_at_rest}
use Rattle.dude_program.proofs.Stops.{ends_at_words}

-- words have one meaning, or none
one_meaning : {o : Option Meaning} {a b : Meaning} → o ≡ Some a → o ≡ Some b → a ≡ b
one_meaning one other = cc

none_or_one : {o : Option Meaning} {a : Meaning} → o ≡ None → o ≡ Some a → ⊥
none_or_one none one = cc

-- words that mean a command
pub words_meant : (words : List (List ℕ)) (own : Meaning) {old new : World} {done : List Done} {fault : Option Fault} → meaning_of words ≡ Some own → Ends own old new done fault → HasOwnTheorem own old new fault
    → EndsByWords words old new done fault
words_meant words own {old} {new} {done} {fault} means ends theorem = record {
  refused = λ none. absurd (none_or_one none means);
  headline = λ other is. subst (λ (m : Meaning). IsTrue (has_headline m) → Headline m old new done fault) (one_meaning means is) ends.headline;
  causes = λ other is. subst (λ (m : Meaning). Causes m old new done fault) (one_meaning means is) ends.causes;
  follows = λ names is. subst (λ (m : Meaning). HasOwnTheorem m old new fault) (one_meaning means is) theorem;
}

module _ (words : List (List ℕ)) (s : Sight) (f : FilesSight) (k : SinkSight) where
  -- words that mean none
  pub words_refused : meaning_of words ≡ None → EndsByWords words (world_of s f k) (world_of s f k) [] (Some Usage)
  words_refused none = record {
    refused = λ is. record { answer = inl refl; same = (refl, refl, refl); none = refl };
    headline = λ own means. absurd (none_or_one none means);
    causes = λ own means. absurd (none_or_one none means);
    follows = λ names means. absurd (none_or_one none means);
  }

  -- there was no memory to read them
  pub words_unread : IsAtRest s → EndsByWords words (world_of s f k) (world_of s f k) [] (Some Memory)
  words_unread settled = record {
    refused = λ is. record { answer = inr refl; same = (refl, refl, refl); none = refl };
    headline = λ own means. (ends_at_words own s f k settled).headline;
    causes = λ own means. (ends_at_words own s f k settled).causes;
    follows = λ names means. follows_at_rest names s settled f f k Memory tt;
  }
