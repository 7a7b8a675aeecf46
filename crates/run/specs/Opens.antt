-- A run just opened.
use Rattle.std.specs.Prelude.{◌≡◌, ℕ, zero, suc, ◌+◌, ◌-◌, ◌<◌, cond, List, [], ◌∷◌, length, None, nat_lt}
use Rattle.network.specs.Net.{Net, entering}
use Rattle.links.specs.declared.records.LinkRecord.{LinkRecord}
use Rattle.links.specs.declared.records.Table.{Table}
use Rattle.line.specs.Parts.{fresh}
use Rattle.links.specs.Tables.{Gauge, fresh_curve, fresh_record, record_at}

-- 500 slots at an entrance, which no link enters
abbrev pub waiting_slots : List ℕ → ℕ
waiting_slots [] = 500
waiting_slots (i ∷ is) = 0

-- the slots of a link, and of those who wait for it
abbrev pub road_size : Net → ℕ → ℕ
road_size net i = cond (nat_lt i net.links) (net.link i).storage 0

abbrev pub queue_size : Net → ℕ → ℕ
queue_size net i = cond (nat_lt i net.links) (waiting_slots (entering net (net.link i).from)) 0

-- the slots of a lane: first the links', then those of who waits for them
abbrev pub size_at : Net → ℕ → ℕ
size_at net k = cond (nat_lt k 48) (road_size net k) (queue_size net (k - 48))

-- the lanes lie one behind the other
unfoldable pub offset : Net → ℕ → ℕ
offset net zero = 0
offset net (suc k) = offset net k + size_at net k

-- the vehicle entries that opening needs
abbrev pub entries_for : Net → ℕ
entries_for net = offset net 96

abbrev pub fresh_gauge : Gauge
fresh_gauge = record { ons = fresh_curve; offs = fresh_curve; travel = None }

-- the record of the link i
abbrev pub fresh_at : Net → ℕ → LinkRecord
fresh_at net i = fresh_record (fresh (offset net i) (road_size net i)) (fresh (offset net (48 + i)) (queue_size net i))

pub record Fresh (net : Net) (t : Table) : Type 0 where
  pub whole : length t.links ≡ 48
  pub each : (i : ℕ) → i < 48 → record_at t i ≡ fresh_at net i
