-- The rows of walked tables are those of the database for which the array stands.
use Rattle.std.proofs.Common.{◌≡◌, ℕ, List, map, sym, ◌∙◌}
use Rattle.dude_base.specs.declared.sizes.Sizes.{Sizes}
use Rattle.tatp_model.specs.Database.{Database, IsSubRow}
use Rattle.tatp_layout.specs.Decoded.{subscriber_back}
use Rattle.tatp_layout.specs.Decoding.{subscriber_in}
use Rattle.tatp_layout.specs.Layout.{subscriber_table}
use Rattle.tatp_layout.specs.Records.{subscriber_form}
use Rattle.tatp_layout.specs.StandsFor.{StandsFor}
use Rattle.tatp_check.specs.declared.table_kind.TableKind.TheVariants.{Subscribers}
use Rattle.tatp_check.specs.declared.walked.Walked.{Walked}
use Rattle.tatp_check.specs.References.{AreAllBound}
use Rattle.tatp_check.specs.Taken.{records_by_key}
use Rattle.tatp_check.specs.Walked.{AreWalked, records_of_kind}
use Rattle.tatp_check.proofs.Lawful.{lawful_records, lawful_whole}
use Rattle.tatp_check.proofs.OneDatabase.{rows_one}
use Rattle.tatp_check.proofs.OneWord.{same_records}
use Rattle.tatp_check.proofs.StandsFor.{in_order, subscribers_had, subscribers_taken}

pub subscribers_walked : (s : Sizes) (array : List ℕ) (db : Database) → (stands : StandsFor s array db) → (walked : Walked) (w : AreWalked s array walked) → AreAllBound array (records_of_kind walked)
    → db.subscribers ≡ map (subscriber_in array) (records_by_key walked.subscribers)
subscribers_walked s array db stands walked w bound =
    let whole = (w.each Subscribers).whole in
    let same = same_records s array Subscribers (lawful_records s array db stands Subscribers) (records_of_kind walked Subscribers) (lawful_whole s array db stands Subscribers) whole in
    let ordered = in_order s array walked w bound in
    rows_one subscriber_form IsSubRow (subscriber_in array) (subscriber_table s) array (λ at r range held. subscriber_back range held) db.subscribers (map (subscriber_in array) (records_by_key walked.subscribers))
    stands.subscribers (subscribers_had s array walked w bound) (same ∙ sym (subscribers_taken s array walked w bound)) stands.in_order.subscribers_in_range ordered.subscribers_in_range stands.in_order.subscribers_rise ordered.subscribers_rise
