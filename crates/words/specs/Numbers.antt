-- Which number a text is.
use Rattle.std.specs.Prelude.{◌≡◌, ℕ, ◌<◌, List, decimal, Option, MatchOption, ◌≢◌}

-- a number is decimal, 0 to 65,535, without leading zeros; any other text is a name
abbrev pub IsNumberOf : Option ℕ → List ℕ → Type 0
IsNumberOf r t = MatchOption r ((n : ℕ) → n < 65536 → t ≢ decimal n) (λ n. (t ≡ decimal n) × (n < 65536))
