-- How a network grows: link by link, then route by route.
use Rattle.std.specs.Prelude.{◌≡◌, ℕ, ◌+◌, ◌-◌, ◌<◌, ◌≤◌, Bool, cond, ◌&&◌, List, [], ◌∷◌, length, replicate, Some, None, Ok, Err, Option, Result, ◌==◌, nat_le, slice_index_or, slice_set}
use Rattle.network.specs.declared.link.Link.{Link}
use Rattle.network.specs.declared.kind.NodeKind.{NodeKind}
use Rattle.network.specs.declared.kind.NodeKind.TheVariants.{Entrance, Exit}
use Rattle.network.specs.declared.layout.Layout.{Layout}
use Rattle.network.specs.declared.network.Network.{Network}
use Rattle.network.specs.declared.draft.Draft.{Draft}
use Rattle.network.specs.declared.draft.LinkFault.{LinkFault}
use Rattle.network.specs.declared.draft.LinkFault.TheVariants.{Many, Numbers, Downward}
use Rattle.network.specs.declared.draft.NodeFault.{NodeFault}
use Rattle.network.specs.declared.draft.NodeFault.TheVariants.{Missing, Odd}
use Rattle.network.specs.declared.draft.RouteFault.{RouteFault}
use Rattle.network.specs.declared.draft.RouteFault.TheVariants.{Misfit, Second}
use Rattle.network.specs.Net.{Net, Kind, entering, leaving}
use Rattle.network.specs.Net as law
use Rattle.network.specs.Layouts.{blank_link, drawn, IsTold}
use Rattle.network.specs.Nets.{net_of}

-- so many nodes, and no link yet
abbrev pub bare_net : ℕ → Net
bare_net nodes = record { nodes = nodes; links = 0; link = λ i. blank_link; route = λ n x. None }

-- one link more, at the next place
abbrev pub with_link : Net → Link → Net
with_link net l = record { nodes = net.nodes; links = net.links + 1; link = λ i. cond (i == net.links) l (net.link i); route = net.route }

-- one route more
abbrev pub with_route : Net → ℕ → ℕ → ℕ → Net
with_route net n x j = record { nodes = net.nodes; links = net.links; link = net.link; route = λ m y. cond (m == n && y == x) (Some j) (net.route m y) }

-- nodes 1 and 2 with one link, all its numbers 1
abbrev pub fresh_link : Link
fresh_link = record { from = 1; to = 2; free = 1; wave = 1; capacity = 1; storage = 1 }

abbrev pub fresh_net : Net
fresh_net = with_link (bare_net 2) fresh_link

abbrev pub fresh_kinds : List (Option NodeKind)
fresh_kinds = slice_set (slice_set (replicate 33 None) 1 (Some (Entrance 0))) 2 (Some (Exit 0))

abbrev pub draft_of : Draft → Net
draft_of d = drawn d.layout

-- a number from 1 to `most`
abbrev pub counted : ℕ → ℕ → Bool
counted x most = nat_le 1 x && nat_le x most

-- the numbers of a link are in their ranges
pub record Ranged (nodes : ℕ) (l : Link) : Type 0 where
  pub from_least : 1 ≤ l.from
  pub from_most : l.from ≤ nodes
  pub to_least : 1 ≤ l.to
  pub to_most : l.to ≤ nodes
  pub free_least : 1 ≤ l.free
  pub free_most : l.free ≤ 63
  pub wave_least : 1 ≤ l.wave
  pub wave_most : l.wave ≤ 63
  pub capacity_least : 1 ≤ l.capacity
  pub capacity_most : l.capacity ≤ 200
  pub storage_least : 1 ≤ l.storage
  pub storage_most : l.storage ≤ 2000

-- a draft just begun, or the counts are out of range
abbrev pub Started : ℕ → ℕ → Option Draft → Type 0
Started nodes links None = (2 ≤ nodes) × (nodes ≤ 32) × (1 ≤ links) × (links ≤ 48) → ⊥
Started nodes links (Some d) = (draft_of d ≡ bare_net nodes) × (d.wanted ≡ links)

-- a link was taken or refused; the checks stand in this order
abbrev pub Added : Draft → Link → Result (Unit {0}) LinkFault → Draft → Type 0
Added d l (Ok u) d' = ((draft_of d).links < d.wanted) × Ranged (draft_of d).nodes l × (l.from < l.to) × (draft_of d' ≡ with_link (draft_of d) l) × (d'.wanted ≡ d.wanted)
Added d l (Err Many) d' = (d.wanted ≤ (draft_of d).links) × (d' ≡ d)
Added d l (Err Numbers) d' = ((draft_of d).links < d.wanted) × (Ranged (draft_of d).nodes l → ⊥) × (d' ≡ d)
Added d l (Err Downward) d' = ((draft_of d).links < d.wanted) × Ranged (draft_of d).nodes l × (l.to ≤ l.from) × (d' ≡ d)

-- the lowest node of no kind
pub record LowestOdd (net : Net) (n : ℕ) : Type 0 where
  pub least : 1 ≤ n
  pub most : n ≤ net.nodes
  pub odd : Kind net n → ⊥
  pub below : (k : ℕ) → 1 ≤ k → k < n → Kind net k

-- each node has the kind that is told, or one has none
abbrev pub AllKinds : Layout → Result (List (Option NodeKind)) NodeFault → Type 0
AllKinds l (Ok kinds) = (length kinds ≡ 33) × ((k : ℕ) → 1 ≤ k → k ≤ l.nodes → IsTold (drawn l) k (slice_index_or kinds k None))
AllKinds l (Err Missing) = ⊥
AllKinds l (Err (Odd n)) = LowestOdd (drawn l) n

-- the links make a network, or they do not
abbrev pub Finished : Draft → Result Network NodeFault → Type 0
Finished d (Ok n) = ((draft_of d).links ≡ d.wanted) × (net_of n ≡ draft_of d)
Finished d (Err Missing) = (draft_of d).links < d.wanted
Finished d (Err (Odd n)) = ((draft_of d).links ≡ d.wanted) × LowestOdd (draft_of d) n

abbrev pub IsMerge : Net → ℕ → Type 0
IsMerge net n = (i : ℕ) × (i' : ℕ) × (j : ℕ) × (entering net n ≡ i ∷ i' ∷ []) × (leaving net n ≡ j ∷ [])

abbrev pub IsDiverge : Net → ℕ → Type 0
IsDiverge net n = (i : ℕ) × (j : ℕ) × (j' : ℕ) × (entering net n ≡ i ∷ []) × (leaving net n ≡ j ∷ j' ∷ [])

abbrev pub IsExit : Net → ℕ → Type 0
IsExit net x = (i : ℕ) × law.Exit net x i

-- the link of number k leaves the node n
pub record Leaving (net : Net) (k n : ℕ) : Type 0 where
  pub least : 1 ≤ k
  pub most : k ≤ net.links
  pub from : (net.link (k - 1)).from ≡ n

-- from a diverge, to an exit, by the link of number k, which leaves the diverge
pub record RouteFits (net : Net) (n x k : ℕ) : Type 0 where
  pub diverge : IsDiverge net n
  pub exit : IsExit net x
  pub leaves : Leaving net k n

-- a route was taken or refused; the checks stand in this order
abbrev pub Routed : Network → ℕ → ℕ → ℕ → Result (Unit {0}) RouteFault → Network → Type 0
Routed a n x k (Ok u) b = RouteFits (net_of a) n x k × ((net_of a).route n x ≡ None) × (net_of b ≡ with_route (net_of a) n x (k - 1))
Routed a n x k (Err Misfit) b = (RouteFits (net_of a) n x k → ⊥) × (b ≡ a)
Routed a n x k (Err Second) b = RouteFits (net_of a) n x k × ((j : ℕ) × ((net_of a).route n x ≡ Some j)) × (b ≡ a)
