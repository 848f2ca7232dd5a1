-- Two entries over three words, written out: one read the first word at number 0 and wrote the second one with number 1, the other wrote
-- with number 3. Number 2 is void.
use Rattle.std.proofs.Common.{◌≡◌, ℕ, true, List, [], ◌∷◌, map, refl}
use Rattle.dude_base.specs.declared.write.Write.{Write}
use Rattle.tatp_model.specs.declared.request.Request.TheVariants.{UpdateLocation}
use Rattle.tatp_model.specs.declared.reply.Reply.TheVariants.{Changed}
use Rattle.core_events.specs.Views.{Entry}
use Rattle.core_events.specs.Entries.{value_at}
use Rattle.legal_entries.specs.Served.{done_of, array_at}

abbrev opening : List ℕ
opening = 10 ∷ 11 ∷ 12 ∷ []

abbrev write : ℕ → ℕ → Write
write at value = record { at = at; value = value }

abbrev update : ℕ → ℕ → List Write → Entry
update number vlr writes = record {
  number = number;
  wrote = true;
  about = record { file = 0; index = 0; request = UpdateLocation 1 vlr; reply = Changed };
  reads = (0, 10) ∷ [];
  writes = writes;
}

abbrev entries : List Entry
entries = update 3 8 (write 0 5 ∷ write 1 6 ∷ []) ∷ update 1 7 (write 1 20 ∷ []) ∷ []

first_number_writes : array_at opening entries 1 ≡ 10 ∷ 20 ∷ 12 ∷ []
first_number_writes = refl

void_number_changes_nothing : array_at opening entries 2 ≡ array_at opening entries 1
void_number_changes_nothing = refl

later_number_overwrites : array_at opening entries 3 ≡ 5 ∷ 6 ∷ 12 ∷ []
later_number_overwrites = refl

words_are_values : map (value_at opening entries 3) (0 ∷ 1 ∷ 2 ∷ []) ≡ array_at opening entries 3
words_are_values = refl

entry_as_done : done_of (update 1 7 []) ≡ record { file = 0; index = 0; number = 1; wrote = true; request = UpdateLocation 1 7; reply = Changed }
entry_as_done = refl
