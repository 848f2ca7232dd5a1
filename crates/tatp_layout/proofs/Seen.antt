-- Tables and databases of the words as they are seen, before calls and after them.
use Rattle.std.proofs.Common.{◌≡◌, ℕ, List, [], IfSome, Option, Some, None, sym, subst}
use Rattle.dude_base.specs.declared.sizes.Sizes.{Sizes}
use Rattle.dude_base.specs.Writes.{overwritten}
use Rattle.record_heap.specs.Pool.{IsRecord}
use Rattle.hash_table.specs.declared.table.Table.{Table}
use Rattle.hash_table.specs.Table.{FitsTable}
use Rattle.word_space.specs.Sights.{WordsSight, shown}
use Rattle.word_space.specs.Steps.{WordsUsed}
use Rattle.word_space.proofs.Runs.{shown_same}
use Rattle.tatp_model.specs.Database.{Database}
use Rattle.tatp_layout.specs.StandsFor.{StandsFor}

-- where no word is written yet, the array is seen as it is
pub stands_bare : {s : Sizes} {array : List ℕ} {db : Database} (sight : WordsSight) → sight.writes ≡ [] → StandsFor s array db → StandsFor s (shown sight array) db
stands_bare {s} {array} {db} sight bare stands = subst (λ ws. StandsFor s (overwritten ws array) db) (sym bare) stands

-- calls that wrote nothing leave it so
pub stands_still : {S : Type 0} {sight : S → WordsSight} {turns_into : S → S → Type 0} {m : ℕ} {x y : S} {s : Sizes} {db : Database} (array : List ℕ)
    → WordsUsed sight turns_into m 0 None x y → StandsFor s (shown (sight x) array) db → StandsFor s (shown (sight y) array) db
stands_still {s = s} {db = db} array used stands = subst (λ l. StandsFor s l db) (sym (shown_same used array)) stands

-- the record of an answer
pub record_at : {t u : Table} {r : Option ℕ} {at : ℕ} → t ≡ u → r ≡ Some at → IfSome r (IsRecord t.pool) → IsRecord u.pool at
record_at {t} {u} {r} {at} table is some = subst (λ (x : Table). IsRecord x.pool at) table (subst (λ o. IfSome o (IsRecord t.pool)) is some)

-- a table fits, after calls that keep the count of words
pub fits_still : {t : Table} {m n : ℕ} → m ≡ n → FitsTable t n → FitsTable t m
fits_still {t} count fits = subst (FitsTable t) (sym count) fits
