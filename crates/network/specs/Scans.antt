-- The links at a node, as they are counted.
use Rattle.std.specs.Prelude.{◌≡◌, ℕ, ◌+◌, ◌<◌, Bool, cond, List, [], ◌∷◌, length, None, Some, Option, slice_index, slice_index_or}
use Rattle.network.specs.declared.link.Link.{Link}
use Rattle.network.specs.Net.{Net}
use Rattle.network.specs.Net as law
use Rattle.network.specs.declared.kind.NodeKind.{NodeKind}
use Rattle.network.specs.declared.scan.Few.{Few}
use Rattle.network.specs.declared.scan.Few.TheVariants.{Zero, One, Two, More}
use Rattle.network.specs.Layouts.{blank_link, IsKind}

abbrev pub end_of : Bool → Link → ℕ
end_of leaves l = cond leaves l.from l.to

abbrev pub link_in : List Link → ℕ → Link
link_in ls i = slice_index_or ls i blank_link

-- links alone, with no word of nodes or routes
abbrev pub links_net : List Link → Net
links_net ls = record { nodes = 0; links = length ls; link = link_in ls; route = λ n x. None }

abbrev pub few_count : Few → ℕ
few_count Zero = 0
few_count (One i) = 1
few_count (Two i j) = 2
few_count (More i j n) = n

abbrev pub more_of : Few → ℕ → Few
more_of Zero k = One k
more_of (One i) k = Two i k
more_of (Two i j) k = More i j 3
more_of (More i j n) k = More i j (n + 1)

-- the few are the places, or the first two of more
abbrev pub IsFew : Few → List ℕ → Type 0
IsFew Zero xs = xs ≡ []
IsFew (One i) xs = xs ≡ i ∷ []
IsFew (Two i j) xs = xs ≡ i ∷ j ∷ []
IsFew (More i j n) xs = (2 < n) × (length xs ≡ n) × (slice_index xs 0 ≡ i) × (slice_index xs 1 ≡ j)

-- the kind is the node's, or the node is of no kind
abbrev pub IsOrNone : Net → ℕ → Option NodeKind → Type 0
IsOrNone net n None = law.Kind net n → ⊥
IsOrNone net n (Some k) = IsKind net n k
