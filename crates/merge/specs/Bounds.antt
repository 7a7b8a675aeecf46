-- The rates and the periods that a gate may have, and what it lets pass.
use Rattle.std.specs.Prelude.{ℕ, ◌%◌, Bool, ◌&&◌, cond, min, nat_le, ◌==◌}

abbrev pub allowed : ℕ → ℕ → Bool
allowed rate period = (nat_le 1 rate && nat_le rate 200) && (nat_le 1 period && nat_le period 63)

-- The second limit at a clock under a gate of this rate and period, where the limit below is `l`.
abbrev pub cut_by : ℕ → ℕ → ℕ → ℕ → ℕ
cut_by rate period clock l = cond (clock % period == 0) (min rate l) 0
