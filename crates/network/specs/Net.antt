-- Networks: links, nodes by their degree, the next link of a vehicle, walks.
-- Links are counted by place, from 0; the link at place i has number i + 1.
use Rattle.network.specs.declared.link.Link.{Link}
use Rattle.std.specs.Prelude.{◌≡◌, ℕ, zero, suc, ◌<◌, ◌≤◌, Bool, false, cond, ◌⊎◌, List, [], ◌∷◌, ◌++◌, Some, None, Option, ◌==◌, nat_eq}

pub record Net : Type 0 where
  pub nodes : ℕ
  pub links : ℕ
  pub link : ℕ → Link
  -- the route row for a diverge and an exit
  pub route : ℕ → ℕ → Option ℕ

-- the places below n that pass a test, in order
abbrev pub places : (ℕ → Bool) → ℕ → List ℕ
places p zero = []
places p (suc n) = places p n ++ cond (p n) (n ∷ []) []

-- the links that enter a node, and those that leave it, in number order
abbrev pub entering : Net → ℕ → List ℕ
entering net n = places (λ i. nat_eq (net.link i).to n) net.links

abbrev pub leaving : Net → ℕ → List ℕ
leaving net n = places (λ i. nat_eq (net.link i).from n) net.links

-- A node's kind follows from how many links enter and leave it. Of a merge, i is the first leg.
pub data Kind (net : Net) (n : ℕ) : Type 0 where
  entrance : (j : ℕ) → entering net n ≡ [] → leaving net n ≡ j ∷ [] → Kind net n
  exit : (i : ℕ) → entering net n ≡ i ∷ [] → leaving net n ≡ [] → Kind net n
  mainline : (i j : ℕ) → entering net n ≡ i ∷ [] → leaving net n ≡ j ∷ [] → Kind net n
  merge : (i i' j : ℕ) → entering net n ≡ i ∷ i' ∷ [] → leaving net n ≡ j ∷ [] → Kind net n
  diverge : (i j j' : ℕ) → entering net n ≡ i ∷ [] → leaving net n ≡ j ∷ j' ∷ [] → Kind net n

-- The link that a vehicle for the exit x takes after the link i: the only one that leaves, or the route row's.
abbrev pub onward : List ℕ → Option ℕ → Option ℕ
onward [] r = None
onward (j ∷ []) r = Some j
onward (j ∷ k ∷ js) r = r

abbrev pub next : Net → ℕ → ℕ → Option ℕ
next net i x = onward (leaving net (net.link i).to) (net.route (net.link i).to x)

abbrev pub is : Option ℕ → ℕ → Bool
is None j = false
is (Some k) j = k == j

-- A walk for the exit x from the link i on, of n links.
pub data Walk (net : Net) (x : ℕ) : ℕ → ℕ → Type 0 where
  there : {i : ℕ} → (net.link i).to ≡ x → leaving net x ≡ [] → Walk net x i 1
  along : {i j n : ℕ} → next net i x ≡ Some j → Walk net x j n → Walk net x i (suc n)

abbrev pub Entrance : Net → ℕ → ℕ → Type 0
Entrance net e j = (entering net e ≡ []) × (leaving net e ≡ j ∷ [])

abbrev pub Exit : Net → ℕ → ℕ → Type 0
Exit net x i = (entering net x ≡ i ∷ []) × (leaving net x ≡ [])

-- The pair is served: the walk for the exit that starts on the entrance's link ends at that exit.
abbrev pub Served : Net → ℕ → ℕ → ℕ → Type 0
Served net e x n = (j : ℕ) × Entrance net e j × Walk net x j n

-- A network that keeps the rules.
pub record SoundLink (nodes : ℕ) (l : Link) : Type 0 where
  pub from_node : 1 ≤ l.from
  pub upward : l.from < l.to
  pub to_node : l.to ≤ nodes
  pub free_least : 1 ≤ l.free
  pub free_most : l.free ≤ 63
  pub wave_least : 1 ≤ l.wave
  pub wave_most : l.wave ≤ 63
  pub capacity_least : 1 ≤ l.capacity
  pub capacity_most : l.capacity ≤ 200
  pub storage_least : 1 ≤ l.storage
  pub storage_most : l.storage ≤ 2000

pub record Sound (net : Net) : Type 0 where
  pub nodes_least : 2 ≤ net.nodes
  pub nodes_most : net.nodes ≤ 32
  pub links_least : 1 ≤ net.links
  pub links_most : net.links ≤ 48
  pub link : (i : ℕ) → i < net.links → SoundLink net.nodes (net.link i)
  pub kind : (n : ℕ) → 1 ≤ n → n ≤ net.nodes → Kind net n
  pub route : (n x k : ℕ) → net.route n x ≡ Some k → (i : ℕ) × (j : ℕ) × (j' : ℕ)
      × (entering net n ≡ i ∷ []) × (leaving net n ≡ j ∷ j' ∷ []) × ((k ≡ j) ⊎ (k ≡ j')) × ((l : ℕ) × Exit net x l)

-- H: the most links on a served walk; 0 with no served pair.
pub record MostLinks (net : Net) (h : ℕ) : Type 0 where
  pub bound : (e x n : ℕ) → Served net e x n → n ≤ h
  pub met : (h ≡ 0) ⊎ ((e : ℕ) × (x : ℕ) × Served net e x h)

-- W: the network's longest free or wave steps.
pub record LongestSteps (net : Net) (w : ℕ) : Type 0 where
  pub free : (i : ℕ) → i < net.links → (net.link i).free ≤ w
  pub wave : (i : ℕ) → i < net.links → (net.link i).wave ≤ w
  pub met : (i : ℕ) × (i < net.links) × ((w ≡ (net.link i).free) ⊎ (w ≡ (net.link i).wave))
