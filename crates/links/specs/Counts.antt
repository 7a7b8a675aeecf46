-- Sizes of the table.
use Rattle.std.specs.Prelude.{ℕ, ◌+◌}

-- how many readings are kept of a curve
abbrev pub reading_count : ℕ
reading_count = 64

-- how many links the table has places for, and how many lanes they have
abbrev pub table_size : ℕ
table_size = 48

abbrev pub lane_count : ℕ
lane_count = table_size + table_size
