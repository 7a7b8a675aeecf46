use Rattle.std.proofs.Common.{◌≡◌, ◌+◌, ◌++◌, replicate}
use Rattle.line.specs.Spots.{written}
use Rattle.links.specs.Yards.{holds, spots_of, Put}
use Rattle.flow.proofs.queue.queue_up.Given as goal

abbrev pub invariant-loop : goal.invariant-loop
invariant-loop l =
    Put l.initial.yard l.yard (48 + l.j) (holds l.initial.yard (48 + l.j) ++ replicate l.counter (record { exit = l.x; since = 0 }))
    × (spots_of l.yard (48 + l.j) ≡ written (spots_of l.initial.yard (48 + l.j)) (replicate l.counter (record { exit = l.x; since = 0 })))
