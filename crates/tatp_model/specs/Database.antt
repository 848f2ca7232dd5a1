-- The four tables as lists of rows, and what it is for them to be in order.
use Rattle.std.specs.Prelude.{ℕ, ◌≡◌, ◌≢◌, ◌+◌, ◌-◌, ◌*◌, ◌/◌, ◌<◌, ◌≤◌, List, length, map, slice_index_or, All, Any, AllPairs}
use Rattle.std.specs.List.Sorted.{IsStrictlyIncreasing}
use Rattle.tatp_model.specs.declared.sub_row.SubRow.{SubRow}
use Rattle.tatp_model.specs.declared.access_row.AccessRow.{AccessRow}
use Rattle.tatp_model.specs.declared.fac_row.FacRow.{FacRow}
use Rattle.tatp_model.specs.declared.call_row.CallRow.{CallRow}
use Rattle.tatp_model.specs.declared.tables.Tables.{Tables}
use Rattle.tatp_model.specs.Ranges.{IsId, IsPhone, IsKind, IsStartTime, IsEndTime, IsLocation, IsByte, IsBit, IsLetter}

-- the tables, each a list of rows
pub record Database : Type 0 where
  pub subscribers : List SubRow
  pub access : List AccessRow
  pub facilities : List FacRow
  pub calls : List CallRow

-- the lists that the tables in memory hold
abbrev pub database_of : Tables → Database
database_of t = record {
  subscribers = t.subscribers.items;
  access = t.access.items;
  facilities = t.facilities.items;
  calls = t.calls.items;
}

-- the key by which access rows rise: each subscriber has four, by type
abbrev pub access_key : AccessRow → ℕ
access_key r = 4 * r.s_id + r.ai_type - 1

-- the key by which facilities rise: each subscriber has four, by type
abbrev pub facility_key : FacRow → ℕ
facility_key r = 4 * r.s_id + r.sf_type - 1

-- the key by which call rows rise: each facility has three, by the start times 0, 8 and 16
abbrev pub call_key : CallRow → ℕ
call_key r = 3 * (4 * r.s_id + r.sf_type - 1) + r.start_time / 8

-- the keys of the call rows before index i are below this one
abbrev pub KeysAreBelow : ℕ → List CallRow → ℕ → Type 0
KeysAreBelow key rows i = (k : ℕ) (d : CallRow) → k < i → call_key (slice_index_or rows k d) < key

-- the key of the call row at index i, if there is one, is this one or a later one
abbrev pub IsKeyFrom : ℕ → List CallRow → ℕ → Type 0
IsKeyFrom key rows i = (d : CallRow) → i < length rows → key ≤ call_key (slice_index_or rows i d)

-- each field of a subscriber's row is in its range
pub record IsSubRow (r : SubRow) : Type 0 where
  pub s_id : IsId r.s_id
  pub sub_nbr : IsPhone r.sub_nbr
  pub bits : All IsBit r.bits
  pub hexes : All (λ h. h < 16) r.hexes
  pub bytes : All IsByte r.bytes
  pub msc : IsLocation r.msc
  pub vlr : IsLocation r.vlr

-- each field of an access row is in its range
pub record IsAccessRow (r : AccessRow) : Type 0 where
  pub s_id : IsId r.s_id
  pub ai_type : IsKind r.ai_type
  pub data1 : IsByte r.info.data1
  pub data2 : IsByte r.info.data2
  pub data3 : All IsLetter r.info.data3
  pub data4 : All IsLetter r.info.data4

-- each field of a facility is in its range
pub record IsFacRow (r : FacRow) : Type 0 where
  pub s_id : IsId r.s_id
  pub sf_type : IsKind r.sf_type
  pub is_active : IsBit r.is_active
  pub error_cntrl : IsByte r.error_cntrl
  pub data_a : IsByte r.data_a
  pub data_b : All IsLetter r.data_b

-- each field of a call row is in its range
pub record IsCallRow (r : CallRow) : Type 0 where
  pub s_id : IsId r.s_id
  pub sf_type : IsKind r.sf_type
  pub start_time : IsStartTime r.start_time
  pub end_time : IsEndTime r.end_time
  pub numberx : IsPhone r.numberx

-- each list rises by key, the fields are in their ranges, no two subscribers have one number, each access row and
-- each facility has its subscriber, and each call row has its facility
pub record IsInOrder (db : Database) : Type 0 where
  pub subscribers_rise : IsStrictlyIncreasing (map (λ r. r.s_id) db.subscribers)
  pub access_rise : IsStrictlyIncreasing (map access_key db.access)
  pub facilities_rise : IsStrictlyIncreasing (map facility_key db.facilities)
  pub calls_rise : IsStrictlyIncreasing (map call_key db.calls)
  pub subscribers_in_range : All IsSubRow db.subscribers
  pub access_in_range : All IsAccessRow db.access
  pub facilities_in_range : All IsFacRow db.facilities
  pub calls_in_range : All IsCallRow db.calls
  pub phones_differ : AllPairs (λ r s. r.sub_nbr ≢ s.sub_nbr) db.subscribers
  pub access_belongs : All (λ a. Any (λ r. r.s_id ≡ a.s_id) db.subscribers) db.access
  pub facilities_belong : All (λ f. Any (λ r. r.s_id ≡ f.s_id) db.subscribers) db.facilities
  pub calls_belong : All (λ c. Any (λ f. (f.s_id ≡ c.s_id) × (f.sf_type ≡ c.sf_type)) db.facilities) db.calls
