-- What a network is in the words of the law.
use Rattle.std.specs.Prelude.{ℕ, Some, None, Option}
use Rattle.network.specs.declared.network.Network.{Network}
use Rattle.network.specs.Net.{Net}
use Rattle.network.specs.Layouts.{drawn}

abbrev pub net_of : Network → Net
net_of n = drawn n.layout

-- some link is told that P holds of, or none where there is none
abbrev pub Found : Option ℕ → (ℕ → Type 0) → Type 0
Found None P = (j : ℕ) → P j → ⊥
Found (Some j) P = P j
