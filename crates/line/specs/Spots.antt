-- The slots of a queue as a ring that entries are written on.
use Rattle.std.specs.Prelude.{ℕ, ◌+◌, cond, List, [], ◌∷◌, length, nat_lt, slice_set}
use Rattle.line.specs.Ring.{slot_of}
use Rattle.line.specs.Parts.{part_of}
use Rattle.line.specs.declared.shape.Part.{Part}

-- what the slots hold, and where the next entry will lie
pub record Spots (X : Type 0) : Type 0 where
  pub slots : List X
  pub tail : ℕ

-- a place round the ring
abbrev pub round : ℕ → ℕ → ℕ
round room i = cond (nat_lt i room) i 0

module _ {X : Type 0} where
  -- one more entry is written
  abbrev pub wrote : Spots X → X → Spots X
  wrote s x = record { slots = slice_set s.slots s.tail x; tail = round (length s.slots) (s.tail + 1) }

  -- entries are written, one behind the other
  abbrev pub written : Spots X → List X → Spots X
  written s [] = s
  written s (x ∷ xs) = written (wrote s x) xs

  -- the spots of the queue in a part of an area
  abbrev pub spots_in : List X → Part → Spots X
  spots_in area p = record { slots = part_of p.start p.size area; tail = round p.size (slot_of p.size p.head p.len) }
