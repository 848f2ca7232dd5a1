-- Texts that grow at their end.
use Rattle.std.specs.Prelude.{◌≡◌, ℕ, List, ◌++◌}
use Rattle.std.specs.Global.{Vec}

-- these bytes were appended
abbrev pub Adds : Vec ℕ → Vec ℕ → List ℕ → Type 0
Adds old new more = new.items ≡ old.items ++ more
