-- Bookings, and places of links.
use Rattle.std.proofs.Common.{◌≡◌, ℕ, zero, suc, ◌+◌, ◌<◌, ◌≤◌, ◌≢◌, List, [], ◌∷◌, ◌++◌, replicate, refl, ap, ◌∙◌, arith}
use mathlib.Core.List.{map-append}
use Rattle.network.specs.declared.network.Network.{Network}
use Rattle.network.specs.Net.{Net, Entrance, Exit}
use Rattle.network.specs.Nets.{net_of}
use Rattle.network.proofs.Rights.{right_of}
use Rattle.network.proofs.Sorts.{in₁, off₁}
use Rattle.newell.specs.declared.records.Vehicle.{Vehicle}
use Rattle.newell.specs.History.{book, told}
use Rattle.newell.specs.Now.{RunNow, Queued, Carries}
use Rattle.newell.proofs.Carried.{booking_carries}
use Rattle.links.specs.declared.records.Yard.{Yard}
use Rattle.links.specs.Readings.{back}
use Rattle.links.specs.Yards.{holds, Put}
use Rattle.flow.specs.Flows.{exits}
use Rattle.plan.specs.View.{view_of}
use Rattle.step.specs.Steps.{Built}
use Rattle.step.proofs.Stepping.{built_on}
use Rattle.run.specs.Stores.{Bookable}

exits_append : (vs ws : List Vehicle) → exits (vs ++ ws) ≡ exits vs ++ exits ws
unfolding exits
exits_append vs ws = map-append (λ v. v.exit) vs ws

exits_same : (n x : ℕ) → exits (replicate n (record { exit = x; since = 0 })) ≡ replicate n x
unfolding exits
exits_same zero x = refl
exits_same (suc n) x = ap (λ xs. x ∷ xs) (exits_same n x)

-- the entrance's link and the exit's link lie in the table
pub entrance_place : (n : Network) (e j : ℕ) → Entrance (net_of n) e j → j < 48
entrance_place n e j en = omega (arith, (off₁ (net_of n) e j [] en.1).0, (right_of n).count)

pub exit_place : (n : Network) (x i : ℕ) → Exit (net_of n) x i → i < 48
exit_place n x i ex = omega (arith, (in₁ (net_of n) x i [] ex.0).0, (right_of n).count)

-- what the push of n vehicles makes of the run
pub queued : (net : Net) (y y' : Yard) (t j x n : ℕ) → net.links ≤ 48 → j < 48 → Put y y' (48 + j) (holds y (48 + j) ++ replicate n (record { exit = x; since = 0 }))
    → Queued net (view_of y t) j x n (view_of y' t)
queued net y y' t j x n few l p = record {
  clock = refl;
  link = λ i h. let ne : i ≢ 48 + j = omega arith in let g = p.gauges i in
      (λ z. record { ons = back (g z).ons; offs = back (g z).offs; cars = p.others i (omega arith) ne z; travel = (g z).travel });
  here = ap exits p.here ∙ exits_append (holds y (48 + j)) (replicate n (record { exit = x; since = 0 })) ∙ ap (λ xs. exits (holds y (48 + j)) ++ xs) (exits_same n x);
  other = λ k h ne. let d : j ≢ k = ne in let q : 48 + k ≢ 48 + j = omega arith in ap exits (p.others (48 + k) (omega arith) q);
}

pub built_still : (net : Net) (y y' : Yard) (k : ℕ) (vs : List Vehicle) → Built net y → Put y y' k vs → Built net y'
built_still net y y' k vs b p = built_on net y y' b p.sizes

pub booked_on : (net : Net) (r : RunNow) (e x n j : ℕ) (r' : RunNow) → Bookable net r e x n j → Queued net r j x n r' → Carries net r (book e x n (told tt)) r'
booked_on net r e x n j r' b q = booking_carries net r r' e j x b.exit.0 b.served.0 n b.entrance b.exit.1 b.served.1 b.least b.most b.room q
