-- A vector's items are as many as a number of 64 bits can count.
use Rattle.std.specs.Prelude.{ℕ, ◌<◌, ◌^◌, length, Vec}
use Rattle.std.proofs.Common.{arith}
use Rattle.std.specs.declared.alloc.Global.{Global}

-- a vector has fewer than 2^64 items
pub items_fit : (v : Vec ℕ Global) → length v.items < 2 ^ 64
items_fit v = omega (arith, v.ok, v.small)
