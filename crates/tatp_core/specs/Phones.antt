-- Subscribers by their phone numbers.
use Rattle.std.specs.Prelude.{◌≡◌, ℕ, ◌+◌, List, Option, find, option_map}
use Rattle.dude_base.specs.declared.sizes.Sizes.{Sizes}
use Rattle.hash_table.specs.Walk.{walk_reads}
use Rattle.tatp_model.specs.Database.{Database}
use Rattle.tatp_model.specs.Transaction.{has_phone}
use Rattle.tatp_layout.specs.Layout.{number_table}
use Rattle.tatp_layout.specs.StandsFor.{StandsFor}

-- the id of the subscriber with the number
abbrev pub id_by_phone : Database → ℕ → Option ℕ
id_by_phone db sub_nbr = option_map (λ r. r.s_id) (find (has_phone sub_nbr) db.subscribers)

-- the answer is the id of the subscriber with the number, if there is one
abbrev pub FindsId : Sizes → ℕ → List ℕ → Option ℕ → Type 0
FindsId s sub_nbr array id = (db : Database) → StandsFor s array db → id ≡ id_by_phone db sub_nbr

-- the most reads of such a look-up: those of a walk along a chain, and the id
abbrev pub id_reads : Sizes → ℕ
id_reads s = walk_reads (number_table s) + 1
