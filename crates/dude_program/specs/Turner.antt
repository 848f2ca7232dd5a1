-- A file without requests, whose worker takes turns for the others.
use Rattle.std.specs.Prelude.{◌≡◌, ◌⊎◌, ℕ, ◌<◌, List, [], ◌∷◌, ◌++◌, length}
use Rattle.std.specs.Global.{Vec}
use Rattle.tatp_model.specs.declared.request.Request.{Request}

-- the same files; or, where they are fewer than rings, one more behind them that has no request
abbrev pub HasTurner : ℕ → List (Vec Request) → List (Vec Request) → Type 0
HasTurner rings lists files = (files ≡ lists) ⊎ ((length lists < rings) × (last : Vec Request) × (last.items ≡ []) × (files ≡ lists ++ last ∷ []))
