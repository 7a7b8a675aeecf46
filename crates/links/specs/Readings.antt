-- Readings by how many clocks ago they were taken.
use Rattle.std.specs.Prelude.{◌≡◌, ℕ, ◌+◌, ◌-◌, ◌%◌, ◌<◌, ◌≤◌, List, length, slice_index}
use Rattle.line.specs.Ring.{held}
use Rattle.line.specs.Parts.{part_of}
use Rattle.links.specs.Counts.{reading_count}
use Rattle.links.specs.declared.curve.Curve.{Curve}

-- where in the ring of slots the oldest lies
abbrev pub head_of : Curve → ℕ
head_of c = c.oldest % reading_count

-- the entries of the queue that has all the slots and is full
abbrev pub readings : Curve → List ℕ
readings c = held (part_of 0 reading_count c.slots) (head_of c) reading_count

pub record Full (c : Curve) : Type 0 where
  pub wide : length c.slots ≡ reading_count
  pub inside : head_of c ≤ reading_count
  pub full : length (readings c) ≡ reading_count

unfoldable pub back : Curve → ℕ → ℕ
back c k = slice_index (readings c) (reading_count - 1 - k)

pub record Next (c : Curve) (x : ℕ) (c' : Curve) : Type 0 where
  pub full : Full c'
  pub inside : c'.oldest ≤ reading_count
  pub newest : back c' 0 ≡ x
  pub older : (k : ℕ) → k < reading_count - 1 → back c' (k + 1) ≡ back c k
