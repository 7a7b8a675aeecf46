-- That a layout is right has one proof at most, and a right layout is a network that keeps the rules.
use Rattle.std.proofs.Common.{◌≡◌, ℕ, ◌≤◌, true, false, ◌⊎◌, List, [], ◌∷◌, Option, None, Some, refl, subst}
use mathlib.Core.Logic.{∥∥₁_elim}
use mathlib.Core.List.{is_set}
use mathlib.Core.Bool.{Bool-set}
use native.Mathlib.Nat.{ℕ_set}
use native.Mathlib.Bridge.{le_prop}
use Rattle.std.proofs.lemmas.Bool.{both_ways}
use Rattle.network.specs.declared.link.Link.{Link}
use Rattle.network.specs.declared.kind.NodeKind.{NodeKind}
use Rattle.network.specs.declared.kind.NodeKind.TheVariants.{Entrance, Exit, Mainline, Merge, Diverge}
use Rattle.network.specs.declared.layout.Layout.{Layout}
use Rattle.network.specs.declared.network.Network.{Network}
use Rattle.network.specs.Net.{Net, SoundLink, Sound, Kind, entrance, exit, mainline, merge, diverge, entering, leaving}
use Rattle.network.specs.Net as law
use Rattle.network.specs.Layouts.{drawn, link_of, kind_at, Has, IsKind, IsTold, is_diverge, is_exit, Leads, Right}
use Rattle.network.proofs.Places.{In, leaves, pair}

has_prop : (net : Net) (n : ℕ) (ins outs : List ℕ) → IsProp (Has net n ins outs)
has_prop net n ins outs a b = λ z. (is_set ℕ_set _ _ a.0 b.0 z, is_set ℕ_set _ _ a.1 b.1 z)

kind_prop : (net : Net) (n : ℕ) (k : NodeKind) → IsProp (IsKind net n k)
kind_prop net n (Entrance j) = has_prop net n _ _
kind_prop net n (Exit i) = has_prop net n _ _
kind_prop net n (Mainline i j) = has_prop net n _ _
kind_prop net n (Merge i i' j) = has_prop net n _ _
kind_prop net n (Diverge i j j') = has_prop net n _ _

told_prop : (net : Net) (n : ℕ) (k : Option NodeKind) → IsProp (IsTold net n k)
told_prop net n None = λ a b. absurd a
told_prop net n (Some k) = kind_prop net n k

pub link_prop : (n : ℕ) (l : Link) → IsProp (SoundLink n l)
link_prop n l a b = λ z. record {
  from_node = le_prop a.from_node b.from_node z;
  upward = le_prop a.upward b.upward z;
  to_node = le_prop a.to_node b.to_node z;
  free_least = le_prop a.free_least b.free_least z;
  free_most = le_prop a.free_most b.free_most z;
  wave_least = le_prop a.wave_least b.wave_least z;
  wave_most = le_prop a.wave_most b.wave_most z;
  capacity_least = le_prop a.capacity_least b.capacity_least z;
  capacity_most = le_prop a.capacity_most b.capacity_most z;
  storage_least = le_prop a.storage_least b.storage_least z;
  storage_most = le_prop a.storage_most b.storage_most z;
}

leads_prop : (l : Layout) (k x j : ℕ) → IsProp (Leads l k x j)
leads_prop l k x j a b = λ z. record {
  here = le_prop a.here b.here z;
  leaves = ℕ_set _ _ a.leaves b.leaves z;
  diverge = Bool-set _ _ a.diverge b.diverge z;
  exit = Bool-set _ _ a.exit b.exit z;
  node = le_prop a.node b.node z;
  goal_least = le_prop a.goal_least b.goal_least z;
  goal_most = le_prop a.goal_most b.goal_most z;
}

pub right_prop : (l : Layout) → IsProp (Right l)
right_prop l a b = λ z. record {
  whole = ℕ_set _ _ a.whole b.whole z;
  wide = ℕ_set _ _ a.wide b.wide z;
  ways = ℕ_set _ _ a.ways b.ways z;
  way = λ n h. ℕ_set _ _ (a.way n h) (b.way n h) z;
  nodes_least = le_prop a.nodes_least b.nodes_least z;
  nodes = le_prop a.nodes b.nodes z;
  count_least = le_prop a.count_least b.count_least z;
  count = le_prop a.count b.count z;
  link = λ i h. link_prop l.nodes (link_of l i) (a.link i h) (b.link i h) z;
  rows = λ k x j e. leads_prop l k x j (a.rows k x j e) (b.rows k x j e) z;
  kinds = λ k h m. told_prop (drawn l) k (kind_at l k) (a.kinds k h m) (b.kinds k h m) z;
}

-- what every network keeps
pub right_of : (n : Network) → Right n.layout
right_of n = ∥∥₁_elim n.right (right_prop n.layout) (λ r. r)

pub kind_of : (net : Net) (n : ℕ) (k : NodeKind) → IsKind net n k → Kind net n
kind_of net n (Entrance j) h = entrance j h.0 h.1
kind_of net n (Exit i) h = exit i h.0 h.1
kind_of net n (Mainline i j) h = mainline i j h.0 h.1
kind_of net n (Merge i i' j) h = merge i i' j h.0 h.1
kind_of net n (Diverge i j j') h = diverge i j j' h.0 h.1

pub told_kind : (net : Net) (n : ℕ) (k : Option NodeKind) → IsTold net n k → Kind net n
told_kind net n None h = absurd h
told_kind net n (Some k) h = kind_of net n k h

module _ (net : Net) where
  abbrev Fork : ℕ → ℕ → Type 0
  Fork n k = (i : ℕ) × (j : ℕ) × (j' : ℕ) × (entering net n ≡ i ∷ []) × (leaving net n ≡ j ∷ j' ∷ []) × ((k ≡ j) ⊎ (k ≡ j'))

  fork_of : (n k : ℕ) (d : Option NodeKind) → IsTold net n d → is_diverge d ≡ true → In k (leaving net n) → Fork n k
  fork_of n k None h e m = absurd h
  fork_of n k (Some (Entrance j)) h e m = absurd (both_ways false refl e)
  fork_of n k (Some (Exit i)) h e m = absurd (both_ways false refl e)
  fork_of n k (Some (Mainline i j)) h e m = absurd (both_ways false refl e)
  fork_of n k (Some (Merge i i' j)) h e m = absurd (both_ways false refl e)
  fork_of n k (Some (Diverge i j j')) h e m = (i, j, j', h.0, h.1, pair k j j' (subst (In k) h.1 m))

  exit_of : (x : ℕ) (d : Option NodeKind) → IsTold net x d → is_exit d ≡ true → (l : ℕ) × law.Exit net x l
  exit_of x None h e = absurd h
  exit_of x (Some (Entrance j)) h e = absurd (both_ways false refl e)
  exit_of x (Some (Exit i)) h e = (i, h)
  exit_of x (Some (Mainline i j)) h e = absurd (both_ways false refl e)
  exit_of x (Some (Merge i i' j)) h e = absurd (both_ways false refl e)
  exit_of x (Some (Diverge i j j')) h e = absurd (both_ways false refl e)

pub sound_of : (l : Layout) → Right l → Sound (drawn l)
sound_of l r = record {
  nodes_least = r.nodes_least;
  nodes_most = r.nodes;
  links_least = r.count_least;
  links_most = r.count;
  link = r.link;
  kind = λ n a b. told_kind (drawn l) n (kind_at l n) (r.kinds n a b);
  route = λ n x k e.
      let w = r.rows n x k e in
      let s = r.link k w.here in
      let nl : 1 ≤ n = subst (λ m. 1 ≤ m) w.leaves s.from_node in
      let m : In k (leaving (drawn l) n) = subst (λ v. In k (leaving (drawn l) v)) w.leaves (leaves (drawn l) k w.here) in
      let f = fork_of (drawn l) n k (kind_at l n) (r.kinds n nl w.node) w.diverge m in
      (f.0, f.1, f.2, f.3, f.4, f.5, exit_of (drawn l) x (kind_at l x) (r.kinds x w.goal_least w.goal_most) w.exit);
}
