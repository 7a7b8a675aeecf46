-- What a layout says in the words of the law, and when it is right.
use Rattle.std.specs.Prelude.{◌≡◌, ℕ, ◌<◌, ◌≤◌, Bool, true, false, List, [], ◌∷◌, length, replicate, Some, None, Option, slice_index_or}
use Rattle.network.specs.declared.link.Link.{Link}
use Rattle.network.specs.declared.kind.NodeKind.{NodeKind}
use Rattle.network.specs.declared.kind.NodeKind.TheVariants.{Entrance, Exit, Mainline, Merge, Diverge}
use Rattle.network.specs.declared.layout.Layout.{Layout}
use Rattle.network.specs.Net.{Net, SoundLink, entering, leaving}

abbrev pub blank_link : Link
blank_link = record { from = 0; to = 0; free = 0; wave = 0; capacity = 0; storage = 0 }

-- so many nodes, and no link
unfoldable pub empty_layout : ℕ → Layout
empty_layout nodes = record { nodes = nodes; count = 0; links = replicate 48 blank_link; kinds = replicate 33 None; routes = replicate 33 (replicate 33 None) }

abbrev pub link_of : Layout → ℕ → Link
link_of l i = slice_index_or l.links i blank_link

abbrev pub route_at : Layout → ℕ → ℕ → Option ℕ
route_at l n x = slice_index_or (slice_index_or l.routes n []) x None

abbrev pub drawn : Layout → Net
drawn l = record { nodes = l.nodes; links = l.count; link = link_of l; route = route_at l }

abbrev pub kind_at : Layout → ℕ → Option NodeKind
kind_at l n = slice_index_or l.kinds n None

-- the node's links are those that its kind names
abbrev pub Has : Net → ℕ → List ℕ → List ℕ → Type 0
Has net n ins outs = (entering net n ≡ ins) × (leaving net n ≡ outs)

abbrev pub IsKind : Net → ℕ → NodeKind → Type 0
IsKind net n (Entrance j) = Has net n [] (j ∷ [])
IsKind net n (Exit i) = Has net n (i ∷ []) []
IsKind net n (Mainline i j) = Has net n (i ∷ []) (j ∷ [])
IsKind net n (Merge i i' j) = Has net n (i ∷ i' ∷ []) (j ∷ [])
IsKind net n (Diverge i j j') = Has net n (i ∷ []) (j ∷ j' ∷ [])

-- a kind is told, and it is the node's
abbrev pub IsTold : Net → ℕ → Option NodeKind → Type 0
IsTold net n None = ⊥
IsTold net n (Some k) = IsKind net n k

abbrev pub Inside : ℕ → NodeKind → Type 0
Inside c (Entrance j) = j < c
Inside c (Exit i) = i < c
Inside c (Mainline i j) = (i < c) × (j < c)
Inside c (Merge i i' j) = (i < c) × (i' < c) × (j < c)
Inside c (Diverge i j j') = (i < c) × (j < c) × (j' < c)

abbrev pub is_diverge : Option NodeKind → Bool
is_diverge None = false
is_diverge (Some (Entrance j)) = false
is_diverge (Some (Exit i)) = false
is_diverge (Some (Mainline i j)) = false
is_diverge (Some (Merge i i' j)) = false
is_diverge (Some (Diverge i j j')) = true

abbrev pub is_exit : Option NodeKind → Bool
is_exit None = false
is_exit (Some (Entrance j)) = false
is_exit (Some (Exit i)) = true
is_exit (Some (Mainline i j)) = false
is_exit (Some (Merge i i' j)) = false
is_exit (Some (Diverge i j j')) = false

-- a route row leads from a diverge by a link that leaves it, to an exit
pub record Leads (l : Layout) (k x j : ℕ) : Type 0 where
  pub here : j < l.count
  pub leaves : (link_of l j).from ≡ k
  pub diverge : is_diverge (kind_at l k) ≡ true
  pub exit : is_exit (kind_at l x) ≡ true
  pub node : k ≤ l.nodes
  pub goal_least : 1 ≤ x
  pub goal_most : x ≤ l.nodes

pub record Right (l : Layout) : Type 0 where
  pub whole : length l.links ≡ 48
  pub wide : length l.kinds ≡ 33
  pub ways : length l.routes ≡ 33
  pub way : (n : ℕ) → n < 33 → length (slice_index_or l.routes n []) ≡ 33
  pub nodes_least : 2 ≤ l.nodes
  pub nodes : l.nodes ≤ 32
  pub count_least : 1 ≤ l.count
  pub count : l.count ≤ 48
  pub link : (i : ℕ) → i < l.count → SoundLink l.nodes (link_of l i)
  pub rows : (k x j : ℕ) → route_at l k x ≡ Some j → Leads l k x j
  pub kinds : (k : ℕ) → 1 ≤ k → k ≤ l.nodes → IsTold (drawn l) k (kind_at l k)
