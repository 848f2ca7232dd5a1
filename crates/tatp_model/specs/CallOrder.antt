-- How the keys of call rows compare.
use Rattle.std.specs.Prelude.{ℕ, ◌≡◌, ◌<◌, ◌≤◌, List, length, slice_index_or}
use Rattle.std.specs.Ordering.{nat_cmp, ordering_then}
use Rattle.std.specs.declared.cmp.Ordering.{Ordering}
use Rattle.std.specs.declared.cmp.Ordering.TheVariants.{Less}
use Rattle.tatp_model.specs.declared.call_row.CallRow.{CallRow}

-- a call row's key, compared with this one: by s_id, then by sf_type, then by start time
abbrev pub call_order : ℕ → ℕ → ℕ → CallRow → Ordering
call_order s_id sf_type start_time r =
    ordering_then (ordering_then (nat_cmp r.s_id s_id) (nat_cmp r.sf_type sf_type)) (nat_cmp r.start_time start_time)

-- the first n rows are those that stand before this key
pub record IsCountBefore (s_id sf_type start_time : ℕ) (rows : List CallRow) (n : ℕ) : Type 0 where
  pub within : n ≤ length rows
  pub before : (k : ℕ) (d : CallRow) → k < n → call_order s_id sf_type start_time (slice_index_or rows k d) ≡ Less
  pub from : (k : ℕ) (d : CallRow) → n ≤ k → k < length rows → call_order s_id sf_type start_time (slice_index_or rows k d) ≡ Less → ⊥
