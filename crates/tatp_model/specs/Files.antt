-- The requests of files.
use Rattle.std.specs.Prelude.{List, map}
use Rattle.std.specs.Global.{Vec}
use Rattle.tatp_model.specs.declared.request.Request.{Request}

-- the requests of each file
abbrev pub requests_in : List (Vec Request) → List (List Request)
requests_in lists = map (λ list. list.items) lists
