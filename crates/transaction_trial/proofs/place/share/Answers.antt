use Rattle.std.proofs.Common.{refl}
use Rattle.transaction_trial.proofs.place.share.Goals as goal

pub new-requires-2 : goal.new-requires-2
new-requires-2 c = let z = c.requires.setup in record { may = record { setup = record { threads = z.threads; run = z.run; words = z.words; number = z.number }; pages = c.requires.pages; terms_are = refl; slots = tt } }
