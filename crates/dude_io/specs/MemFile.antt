-- Files by their names.
use Rattle.std.specs.Prelude.{ℕ, List, Option, find, bytes_eq, string_bytes}
use Rattle.std.specs.Option.{option_map}
use Rattle.dude_io.specs.declared.mem_file.MemFile.{MemFile}

-- the text of the first file of that name
abbrev pub text_of : List MemFile → List ℕ → Option (List ℕ)
text_of files name = option_map (λ file. file.bytes.items) (find (λ file. bytes_eq (string_bytes file.name) name) files)
