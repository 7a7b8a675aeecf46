-- The numbers that clearing asks for are there: H and W for every network that keeps the rules, and Z for every rule that opens each merge leg by a
-- period, as a ramp meter over a rule without limits does.
use Rattle.std.specs.Prelude.{◌≡◌, ℕ, ◌%◌, ◌<◌, ◌≤◌, Some, Option}
use Rattle.network.specs.Net.{Net, Sound, MostLinks, LongestSteps}
use Rattle.merge.specs.declared.gate.Gate.{Gate}
use Rattle.merge.specs.Rules.{Meaning, no_limit}
use Rattle.merge.specs.Metering.{meter_limits}
use Rattle.newell.specs.Promise.{Opens}

abbrev pub LongestWalkThere : Type 0
LongestWalkThere = (net : Net) → Sound net → (H : ℕ) × MostLinks net H

abbrev pub LongestStepsThere : Type 0
LongestStepsThere = (net : Net) → Sound net → (W : ℕ) × LongestSteps net W

-- At clocks from `low` on and before `high`, at the node n both limits are above zero at each multiple of its period p n, and no period is above z.
pub record ByPeriod (m : ℕ → Meaning) (low high : ℕ) (p : ℕ → ℕ) (z : ℕ) : Type 0 where
  pub least : (n : ℕ) → 1 ≤ p n
  pub most : (n : ℕ) → p n ≤ z
  pub opened : (t n : ℕ) → low ≤ t → t < high → t % p n ≡ 0 → (0 < ((m t).limits n t).0) × (0 < ((m t).limits n t).1)

abbrev pub PeriodOpens : Type 0
PeriodOpens = (net : Net) (m : ℕ → Meaning) (low high : ℕ) (p : ℕ → ℕ) (z : ℕ) → ByPeriod m low high p z → Opens net m low high z

-- Rules without limits under a meter, with periods of at most z: 63 always does, and 1 where there is no gate.
pub record Gated (m : ℕ → Meaning) (low high : ℕ) (gates : ℕ → Option Gate) (z : ℕ) : Type 0 where
  pub least : 1 ≤ z
  pub gate : (n : ℕ) (g : Gate) → gates n ≡ Some g → g.period ≤ z
  pub limits : (t n : ℕ) → low ≤ t → t < high → (m t).limits n t ≡ meter_limits gates no_limit n t

abbrev pub MeterOpens : Type 0
MeterOpens = (net : Net) (m : ℕ → Meaning) (low high : ℕ) (gates : ℕ → Option Gate) (z : ℕ) → Gated m low high gates z → Opens net m low high z
