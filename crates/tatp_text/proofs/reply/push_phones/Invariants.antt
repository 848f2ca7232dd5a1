use Rattle.std.proofs.Common.{◌≡◌, ◌∷◌, ◌++◌, take}
use Rattle.std.specs.List.{flat_map}
use Rattle.tatp_text.specs.Number.{phone_text}
use Rattle.tatp_text.proofs.reply.push_phones.Given as goal

-- the numbers so far are appended
abbrev pub invariant-loop-other : goal.invariant-loop-other
invariant-loop-other l = l.line.items ≡ l.initial.line.items ++ flat_map (λ n. 44 ∷ phone_text n) (take l.other-index l.others)
