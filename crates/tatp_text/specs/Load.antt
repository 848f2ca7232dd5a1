-- The generated load.
use Rattle.std.specs.Prelude.{◌≡◌, ℕ, zero, suc, ◌/◌, List, [], ◌∷◌, ◌++◌, All}
use Rattle.std.specs.Global.{Vec}
use Rattle.rand_pcg.specs.Lcg.{Lcg, increment_of, started}
use Rattle.rand_pcg.specs.Pcg.{multiplier_64}
use Rattle.tatp_model.specs.declared.request.Request.{Request}
use Rattle.tatp_model.specs.declared.request.Request.TheVariants.{Sync}
use Rattle.tatp_model.specs.Request.{IsInRange}
use Rattle.tatp_text.specs.Draws.{after_draws, chosen, draws_of, subscriber_of}

-- the generator of a file: PCG32 of the load's seed, with the file's number as its stream
abbrev pub generator : ℕ → ℕ → Lcg
generator seed file = started 64 multiplier_64 seed (increment_of 64 file)

-- so many requests of a file, from a generator, where each file has so many subscribers
unfoldable pub requests_from : ℕ → ℕ → ℕ → ℕ → Lcg → List Request
requests_from file files each zero g = []
requests_from file files each (suc n) g =
    chosen (subscriber_of file files each (draws_of g)) (draws_of g) ∷ requests_from file files each n (after_draws g)

-- a file of so many files over so many subscribers: so many requests, and a SYNC
abbrev pub mixed : ℕ → ℕ → ℕ → ℕ → ℕ → List Request
mixed seed file files subscribers count =
    requests_from file files (subscribers / files) count (generator seed file) ++ Sync ∷ []

-- these are the requests of one file of a load
abbrev pub IsLoad : ℕ → ℕ → ℕ → ℕ → ℕ → Vec Request → Type 0
IsLoad seed file files subscribers count requests = requests.items ≡ mixed seed file files subscribers count

-- the numbers of each request are in their ranges
abbrev pub AreInRange : Vec Request → Type 0
AreInRange requests = All IsInRange requests.items
