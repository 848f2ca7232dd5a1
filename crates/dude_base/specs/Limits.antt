-- The limits of the store and the units of its image, as numbers.
use Rattle.std.specs.Prelude.{◌≡◌, ◌-◌, ◌^◌, codes}
use Rattle.std.specs.Slice.Scan.{little_endian}
use Rattle.dude_base.specs.declared.limits.TheConstants.{LINE, PAGE, MAX_WRITES, MAX_BUNDLE_WRITES, MAX_SPAN, MAX_SUBSCRIBERS, MAX_CALLS, MAX_ROWS, SUBSCRIBER_WORDS, ROW_WORDS, MAX_RINGS, MAX_RINGS_ONE, MIN_CELLS, MAX_CELLS, MAX_INDEX, MIN_FRAMES, MAX_LOCKS, DEFAULT_LOCKS, MAX_BOXES, DEFAULT_BOXES, MAX_NUMBER, HEADER, MAGIC, VERSION, VERSION_ONE, VERSION_WORD, MARK}

-- what each constant of the code is
pub record LimitsAre : Type 0 where
  pub line : LINE ≡ 8
  pub page : PAGE ≡ 64
  pub max_writes : MAX_WRITES ≡ 24
  pub max_bundle_writes : MAX_BUNDLE_WRITES ≡ 96
  pub max_span : MAX_SPAN ≡ 255
  pub max_subscribers : MAX_SUBSCRIBERS ≡ 10_000
  pub max_calls : MAX_CALLS ≡ 120_000
  pub max_rows : MAX_ROWS ≡ 4
  pub subscriber_words : SUBSCRIBER_WORDS ≡ 8
  pub row_words : ROW_WORDS ≡ 4
  pub max_rings : MAX_RINGS ≡ 16
  pub max_rings_one : MAX_RINGS_ONE ≡ 8
  pub min_cells : MIN_CELLS ≡ 16
  pub max_cells : MAX_CELLS ≡ 4_096
  pub max_index : MAX_INDEX ≡ 1
  pub min_frames : MIN_FRAMES ≡ 32
  pub max_locks : MAX_LOCKS ≡ 65_536
  pub default_locks : DEFAULT_LOCKS ≡ 1_024
  pub max_boxes : MAX_BOXES ≡ 64
  pub default_boxes : DEFAULT_BOXES ≡ 8
  pub max_number : MAX_NUMBER ≡ 2 ^ 48 - 1
  pub header : HEADER ≡ 16
  pub magic : MAGIC ≡ 0x4D45_4D54_4544_5544
  pub magic_bytes : MAGIC ≡ little_endian (codes "DUDETMEM") 0
  pub version : VERSION ≡ 2
  pub version_one : VERSION_ONE ≡ 1
  pub version_word : VERSION_WORD ≡ 1
  pub mark : MARK ≡ 8
