-- What a yard holds, in the words of the law.
use Rattle.std.specs.Prelude.{ℕ, ◌+◌, ◌-◌, ◌≤◌, min}
use Rattle.newell.specs.Now.{RunNow}
use Rattle.network.specs.Net.{Net}
use Rattle.links.specs.declared.records.Table.{Table}
use Rattle.links.specs.declared.records.Yard.{Yard}
use Rattle.links.specs.Readings.{back}
use Rattle.links.specs.Tables.{record_at}
use Rattle.links.specs.Yards.{holds, gauge_of}
use Rattle.flow.specs.Flows.{exits}

-- the readings of a link: a table has them, wherever its lanes lie
abbrev pub ons_in : Table → ℕ → ℕ → ℕ
ons_in table i = back (record_at table i).ons

abbrev pub offs_in : Table → ℕ → ℕ → ℕ
offs_in table i = back (record_at table i).offs

abbrev pub ons : Yard → ℕ → ℕ → ℕ
ons y i = ons_in y.table i

abbrev pub offs : Yard → ℕ → ℕ → ℕ
offs y i = offs_in y.table i

-- what a run holds whose clock is t
abbrev pub view_of : Yard → ℕ → RunNow
view_of y t = record {
  clock = t;
  link = λ i. record { ons = ons y i; offs = offs y i; cars = holds y i; travel = (gauge_of y i).travel };
  queue = λ j. exits (holds y (48 + j));
}

-- what a link may send and take
abbrev pub sends_in : Net → Table → ℕ → ℕ
sends_in net table i = min (ons_in table i ((net.link i).free - 1) - offs_in table i 0) (net.link i).capacity

abbrev pub takes_in : Net → Table → ℕ → ℕ
takes_in net table j = min (offs_in table j ((net.link j).wave - 1) + (net.link j).storage - ons_in table j 0) (net.link j).capacity

abbrev pub sends_of : Net → Yard → ℕ → ℕ
sends_of net y i = sends_in net y.table i

abbrev pub takes_of : Net → Yard → ℕ → ℕ
takes_of net y j = takes_in net y.table j

-- what telling them asks: no difference falls below 0
pub record ReadableIn (net : Net) (table : Table) (i : ℕ) : Type 0 where
  pub sending : offs_in table i 0 ≤ ons_in table i ((net.link i).free - 1)
  pub taking : ons_in table i 0 ≤ offs_in table i ((net.link i).wave - 1) + (net.link i).storage

abbrev pub Readable : Net → Yard → ℕ → Type 0
Readable net y i = ReadableIn net y.table i
