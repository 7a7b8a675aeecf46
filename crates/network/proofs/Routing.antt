-- Nodes that a route names, and a route row more.
use Rattle.std.proofs.Common.{◌≡◌, ℕ, ◌-◌, ◌<◌, ◌≤◌, Bool, true, false, cond, ◌&&◌, eqb, ⊎_elim, List, [], ◌∷◌, length, get_or, set, Some, None, Option, sym, refl, ap, ◌∙◌, subst, arith}
use Rattle.std.proofs.lemmas.Bool.{cases_eq, eq-eqb, ne_eqb, eqb-true, cond-true, cond-false, and_parts, and_left}
use Rattle.std.proofs.lemmas.List.{length-set, get_or-set_same, get_or-set_other}
use Rattle.network.specs.declared.kind.NodeKind.{NodeKind}
use Rattle.network.specs.declared.kind.NodeKind.TheVariants.{Entrance, Exit, Mainline, Merge, Diverge}
use Rattle.network.specs.declared.layout.Layout.{Layout}
use Rattle.network.specs.Net.{Net, entering}
use Rattle.network.specs.Layouts.{drawn, link_of, route_at, kind_at, IsTold, is_diverge, is_exit, Leads, Right}
use Rattle.network.specs.Drafts.{IsDiverge, IsExit, RouteFits, with_route}
use Rattle.network.proofs.Growing.{set_reads}
use Rattle.network.proofs.Sorts.{in₁}

module _ (l : Layout) (r : Right l) where
  -- a node that a link enters is one of the network's
  pub node_in : (n i : ℕ) (is : List ℕ) → entering (drawn l) n ≡ i ∷ is → (1 ≤ n) × (n ≤ l.nodes)
  node_in n i is e =
      let w = in₁ (drawn l) n i is e in
      let s = r.link i w.0 in
      (omega (arith, s.from_node, s.upward, w.1), omega (arith, s.to_node, w.1))

  pub fits_in : (n x k : ℕ) → RouteFits (drawn l) n x k → (n ≤ 32) × (x ≤ 32) × (1 ≤ k) × (k ≤ 48)
  fits_in n x k f =
      let d = f.diverge in
      let a = node_in n d.0 [] d.3 in
      let e = f.exit in
      let b = node_in x e.0 [] e.1.0 in
      (omega (arith, r.nodes, a.1), omega (arith, r.nodes, b.1), f.leaves.least, omega (arith, r.count, f.leaves.most))

diverges : (net : Net) (n : ℕ) (k : Option NodeKind) → IsTold net n k → IsDiverge net n → is_diverge k ≡ true
diverges net n None h d = absurd h
diverges net n (Some (Entrance j)) h d = absurd (let z : ◌≡◌ {A = ℕ} 0 1 = ap length (sym h.0 ∙ d.3) in omega arith)
diverges net n (Some (Exit i)) h d = absurd (let z : ◌≡◌ {A = ℕ} 0 2 = ap length (sym h.1 ∙ d.4) in omega arith)
diverges net n (Some (Mainline i j)) h d = absurd (let z : ◌≡◌ {A = ℕ} 1 2 = ap length (sym h.1 ∙ d.4) in omega arith)
diverges net n (Some (Merge i i' j)) h d = absurd (let z : ◌≡◌ {A = ℕ} 1 2 = ap length (sym h.1 ∙ d.4) in omega arith)
diverges net n (Some (Diverge i j j')) h d = refl

exits : (net : Net) (n : ℕ) (k : Option NodeKind) → IsTold net n k → IsExit net n → is_exit k ≡ true
exits net n None h d = absurd h
exits net n (Some (Entrance j)) h d = absurd (let z : ◌≡◌ {A = ℕ} 0 1 = ap length (sym h.0 ∙ d.1.0) in omega arith)
exits net n (Some (Exit i)) h d = refl
exits net n (Some (Mainline i j)) h d = absurd (let z : ◌≡◌ {A = ℕ} 0 1 = ap length (sym d.1.1 ∙ h.1) in omega arith)
exits net n (Some (Merge i i' j)) h d = absurd (let z : ◌≡◌ {A = ℕ} 0 1 = ap length (sym d.1.1 ∙ h.1) in omega arith)
exits net n (Some (Diverge i j j')) h d = absurd (let z : ◌≡◌ {A = ℕ} 0 2 = ap length (sym d.1.1 ∙ h.1) in omega arith)

-- the table with an entry written
abbrev pub written : List (List (Option ℕ)) → ℕ → ℕ → Option ℕ → List (List (Option ℕ))
written t n x o = set t n (set (get_or t n []) x o)

-- the layout with one route row more
abbrev pub routed : Layout → ℕ → ℕ → ℕ → Layout
routed l n x j = record { nodes = l.nodes; count = l.count; links = l.links; kinds = l.kinds; routes = written l.routes n x (Some j) }

-- the table reads as that entry there, and as before elsewhere
spot_reads : (t : List (List (Option ℕ))) (n x m y : ℕ) (o : Option ℕ) → n < length t → x < length (get_or t n [])
    → get_or (get_or (written t n x o) m []) y None ≡ cond (eqb m n && eqb y x) o (get_or (get_or t m []) y None)
spot_reads t n x m y o a b = ⊎_elim
    (λ (e : m ≡ n). subst (λ i. get_or (get_or (written t n x o) i []) y None ≡ cond (eqb i n && eqb y x) o (get_or (get_or t i []) y None)) (sym e) here)
    (λ ne. ap (λ r. get_or r y None) (get_or-set_other t n m (set (get_or t n []) x o) [] ne) ∙ sym (cond-false _ _ _ (and_left (eqb m n) (eqb y x) (ne_eqb m n ne))))
    (cases_eq m n)
  where
    here : get_or (get_or (written t n x o) n []) y None ≡ cond (eqb n n && eqb y x) o (get_or (get_or t n []) y None)
    here = ap (λ r. get_or r y None) (get_or-set_same t n (set (get_or t n []) x o) [] a)
        ∙ set_reads (get_or t n []) x y o None b
        ∙ ap (λ c. cond (c && eqb y x) o (get_or (get_or t n []) y None)) (sym (eq-eqb n n refl))

row_length : (t : List (List (Option ℕ))) (n x m : ℕ) (o : Option ℕ) → n < length t → length (get_or (written t n x o) m []) ≡ length (get_or t m [])
row_length t n x m o a = ⊎_elim
    (λ (e : m ≡ n). subst (λ i. length (get_or (written t n x o) i []) ≡ length (get_or t i [])) (sym e) (ap length (get_or-set_same t n (set (get_or t n []) x o) [] a) ∙ length-set (get_or t n []) x o))
    (λ ne. ap length (get_or-set_other t n m (set (get_or t n []) x o) [] ne))
    (cases_eq m n)

module _ (l : Layout) (r : Right l) (n x k : ℕ) (f : RouteFits (drawn l) n x k) where
  reads : (m y : ℕ) → route_at (routed l n x (k - 1)) m y ≡ cond (eqb m n && eqb y x) (Some (k - 1)) (route_at l m y)
  reads m y =
      let q = fits_in l r n x k f in
      spot_reads l.routes n x m y (Some (k - 1)) (omega (arith, r.ways)) (let w = r.way n (omega arith) in omega arith)

  pub routed_draws : drawn (routed l n x (k - 1)) ≡ with_route (drawn l) n x (k - 1)
  routed_draws = λ z. record { nodes = l.nodes; links = l.count; link = link_of l; route = λ m y. reads m y z }

  leads : (m y j : ℕ) → route_at (routed l n x (k - 1)) m y ≡ Some j → Leads (routed l n x (k - 1)) m y j
  leads m y j e = go (eqb m n && eqb y x) refl (sym (reads m y) ∙ e)
    where
      new : m ≡ n → y ≡ x → k - 1 ≡ j → Leads (routed l n x (k - 1)) m y j
      new a b c =
          let v = f.leaves in
          let d = f.diverge in
          let q = node_in l r n d.0 [] d.3 in
          let u = node_in l r x f.exit.0 [] f.exit.1.0 in
          record {
            here = omega (arith, v.least, v.most);
            leaves = subst (λ i. (link_of l i).from ≡ m) c (v.from ∙ sym a);
            diverge = subst (λ i. is_diverge (kind_at l i) ≡ true) (sym a) (diverges (drawn l) n (kind_at l n) (r.kinds n q.0 q.1) d);
            exit = subst (λ i. is_exit (kind_at l i) ≡ true) (sym b) (exits (drawn l) x (kind_at l x) (r.kinds x u.0 u.1) f.exit);
            node = omega (arith, q.1);
            goal_least = omega (arith, u.0);
            goal_most = omega (arith, u.1);
          }

      go : (b : Bool) → (eqb m n && eqb y x) ≡ b → cond (eqb m n && eqb y x) (Some (k - 1)) (route_at l m y) ≡ Some j → Leads (routed l n x (k - 1)) m y j
      go true q c =
          let z = sym (cond-true (eqb m n && eqb y x) (Some (k - 1)) (route_at l m y) q) ∙ c in
          let w : k - 1 ≡ j = cc in
          let both = and_parts (eqb m n) (eqb y x) q in
          new (eqb-true m n both.0) (eqb-true y x both.1) w
      go false q c =
          let w = r.rows m y j (sym (cond-false (eqb m n && eqb y x) (Some (k - 1)) (route_at l m y) q) ∙ c) in
          record { here = w.here; leaves = w.leaves; diverge = w.diverge; exit = w.exit; node = w.node; goal_least = w.goal_least; goal_most = w.goal_most }

  pub right_routed : Right (routed l n x (k - 1))
  right_routed = record {
    whole = r.whole;
    wide = r.wide;
    ways = length-set l.routes n (set (get_or l.routes n []) x (Some (k - 1))) ∙ r.ways;
    way = λ m h. row_length l.routes n x m (Some (k - 1)) (let q = fits_in l r n x k f in omega (arith, r.ways)) ∙ r.way m h;
    nodes_least = r.nodes_least;
    nodes = r.nodes;
    count_least = r.count_least;
    count = r.count;
    link = r.link;
    rows = leads;
    kinds = r.kinds;
  }
