-- A draft and its links.
use Rattle.std.proofs.Common.{◌≡◌, ℕ, ◌+◌, ◌<◌, ◌≤◌, cond, eqb, List, [], length, get_or, set, replicate, Some, None, Option, sym, ap, ◌∙◌, subst, ⊎_elim, arith}
use mathlib.Core.Logic.{∥∥₁_elim}
use native.Mathlib.Nat.{ℕ_set}
use native.Mathlib.Bridge.{le_prop}
use Rattle.std.proofs.lemmas.Bool.{cases_eq, cases_lt, eq-eqb, ne_eqb, cond-true, cond-false}
use Rattle.std.proofs.lemmas.List.{length-set, length-replicate, get_or-set_same, get_or-set_other, get_or-replicate, get_or_past}
use Rattle.network.specs.declared.link.Link.{Link}
use Rattle.network.specs.declared.kind.NodeKind.{NodeKind}
use Rattle.network.specs.declared.layout.Layout.{Layout}
use Rattle.network.specs.declared.draft.Draft.{Draft}
use Rattle.network.specs.Net.{SoundLink}
use Rattle.network.specs.Layouts.{blank_link, drawn, link_of, route_at, empty_layout}
use Rattle.network.specs.Begun.{Begun}
use Rattle.network.specs.Drafts.{bare_net, with_link, Ranged}
use Rattle.network.proofs.Rights.{link_prop}

begun_prop : (l : Layout) (w : ℕ) → IsProp (Begun l w)
begun_prop l w a b = λ z. record {
  whole = ℕ_set _ _ a.whole b.whole z;
  wide = ℕ_set _ _ a.wide b.wide z;
  ways = ℕ_set _ _ a.ways b.ways z;
  way = λ n h. ℕ_set _ _ (a.way n h) (b.way n h) z;
  nodes_least = le_prop a.nodes_least b.nodes_least z;
  nodes = le_prop a.nodes b.nodes z;
  wanted_least = le_prop a.wanted_least b.wanted_least z;
  wanted_most = le_prop a.wanted_most b.wanted_most z;
  fits = le_prop a.fits b.fits z;
  link = λ i h. link_prop l.nodes (link_of l i) (a.link i h) (b.link i h) z;
  no_route = λ k x j e. let q : a.no_route k x j e ≡ b.no_route k x j e = absurd (a.no_route k x j e) in q z;
}

pub begun_of : (d : Draft) → Begun d.layout d.wanted
begun_of d = ∥∥₁_elim d.begun (begun_prop d.layout d.wanted) (λ r. r)

-- a list of one entry over and over reads as that entry, and so does what lies behind it
alike : {X : Type 0} (n i : ℕ) (a : X) → get_or (replicate n a) i a ≡ a
alike n i a = ⊎_elim (λ (h : i < n). get_or-replicate n i a a h) (λ (h : n ≤ i). get_or_past (replicate n a) i a (subst (λ m. m ≤ i) (sym (length-replicate n a)) h)) (cases_lt i n)

no_row : (m n x : ℕ) → get_or (get_or (replicate m (replicate {A = Option ℕ} m None)) n []) x None ≡ None
no_row m n x = ⊎_elim
    (λ (h : n < m). ap (λ r. get_or r x None) (get_or-replicate m n (replicate {A = Option ℕ} m None) [] h) ∙ alike m x None)
    (λ (h : m ≤ n). ap (λ r. get_or r x None) (get_or_past (replicate m (replicate {A = Option ℕ} m None)) n [] (subst (λ k. k ≤ n) (sym (length-replicate m (replicate {A = Option ℕ} m None))) h)))
    (cases_lt n m)

pub empty_draws : (nodes : ℕ) → drawn (empty_layout nodes) ≡ bare_net nodes
unfolding empty_layout
empty_draws nodes = λ z. record { nodes = nodes; links = 0; link = λ i. alike 48 i blank_link z; route = λ n x. no_row 33 n x z }

none_some : (o : Option ℕ) (j : ℕ) → o ≡ None → o ≡ Some j → ⊥
none_some o j p q = let z : ◌≡◌ {A = ℕ} 0 1 = cc in omega arith

pub begun_empty : (nodes w : ℕ) → 2 ≤ nodes → nodes ≤ 32 → 1 ≤ w → w ≤ 48 → Begun (empty_layout nodes) w
unfolding empty_layout
begun_empty nodes w a b c d = record {
  whole = length-replicate 48 blank_link;
  wide = length-replicate {A = Option NodeKind} 33 None;
  ways = length-replicate 33 (replicate {A = Option ℕ} 33 None);
  way = λ n h. ap length (get_or-replicate 33 n (replicate {A = Option ℕ} 33 None) [] h) ∙ length-replicate {A = Option ℕ} 33 None;
  nodes_least = a;
  nodes = b;
  wanted_least = c;
  wanted_most = d;
  fits = omega arith;
  link = λ i h. absurd (omega arith);
  no_route = λ k x j e. none_some _ j (no_row 33 k x) e;
}

-- the layout with one link more
abbrev pub grown : Layout → Link → Layout
grown l k = record { nodes = l.nodes; count = l.count + 1; links = set l.links l.count k; kinds = l.kinds; routes = l.routes }

pub set_reads : {X : Type 0} (xs : List X) (n i : ℕ) (x d : X) → n < length xs → get_or (set xs n x) i d ≡ cond (eqb i n) x (get_or xs i d)
set_reads xs n i x d h = ⊎_elim
    (λ (e : i ≡ n). (ap (λ m. get_or (set xs n x) m d) e ∙ get_or-set_same xs n x d h) ∙ sym (cond-true (eqb i n) _ _ (eq-eqb i n e)))
    (λ ne. get_or-set_other xs n i x d ne ∙ sym (cond-false (eqb i n) _ _ (ne_eqb i n ne)))
    (cases_eq i n)

pub more_draws : (l : Layout) (k : Link) → l.count < length l.links → drawn (grown l k) ≡ with_link (drawn l) k
more_draws l k h = λ z. record { nodes = l.nodes; links = l.count + 1; link = λ i. set_reads l.links l.count i k blank_link h z; route = route_at l }

sound_link : (nodes : ℕ) (k : Link) → Ranged nodes k → k.from < k.to → SoundLink nodes k
sound_link nodes k r u = record {
  from_node = r.from_least;
  upward = u;
  to_node = r.to_most;
  free_least = r.free_least;
  free_most = r.free_most;
  wave_least = r.wave_least;
  wave_most = r.wave_most;
  capacity_least = r.capacity_least;
  capacity_most = r.capacity_most;
  storage_least = r.storage_least;
  storage_most = r.storage_most;
}

pub begun_more : (l : Layout) (w : ℕ) (k : Link) → Begun l w → l.count < w → Ranged l.nodes k → k.from < k.to → Begun (grown l k) w
begun_more l w k b h r u = record {
  whole = length-set l.links l.count k ∙ b.whole;
  wide = b.wide;
  ways = b.ways;
  way = b.way;
  nodes_least = b.nodes_least;
  nodes = b.nodes;
  wanted_least = b.wanted_least;
  wanted_most = b.wanted_most;
  fits = omega arith;
  link = λ i m. ⊎_elim
      (λ (e : i ≡ l.count). subst (SoundLink l.nodes) (sym (ap (λ j. link_of (grown l k) j) e ∙ get_or-set_same l.links l.count k blank_link (omega (arith, b.whole, b.wanted_most)))) (sound_link l.nodes k r u))
      (λ ne. subst (SoundLink l.nodes) (sym (get_or-set_other l.links l.count i k blank_link ne)) (b.link i (omega (arith, ne))))
      (cases_eq i l.count);
  no_route = b.no_route;
}
