-- Every corridor that keeps the rules has a text that reads as it. Assumes nothing.
use Rattle.std.proofs.Common.{◌≡◌, ℕ, zero, suc, ◌+◌, ◌-◌, ◌*◌, ◌<◌, ◌≤◌, Bool, cond, eqb, ◌⊎◌, List, [], ◌∷◌, ◌++◌, length, Some, None, Option, sym, refl, ap, ◌∙◌, subst, inl, inr, ⊎_elim, arith}
use Rattle.std.proofs.lemmas.List.{length-append, take_all}
use Rattle.std.proofs.lemmas.Bool.{cases_eq, eq-eqb, ne_eqb, cond-true, cond-false}
use Rattle.network.specs.Drafts.{IsMerge, RouteFits}
use Rattle.network.specs.Net as law
use Rattle.network.specs.Net.{Net as AnyNet, places, entering, leaving}
use Rattle.network.proofs.Places.{In as Among, entered, left_from}
use Rattle.rows.specs.Kinds.{in_order}
use Rattle.rows.specs.Rows.{kind_of, text_of}
use Rattle.rows.specs.declared.kind.Stage.{Stage}
use Rattle.rows.specs.declared.kind.Stage.TheVariants.{Links, Routes, Meters}
use Rattle.rows.specs.declared.row.Row.{Row}
use Rattle.rows.specs.declared.row.Row.TheVariants.{Net, Link, Route, Merge, Meter, Go}
use Rattle.rows.proofs.OneRow.{text_short}
use Rattle.reader.specs.Checks.{Sound, Follows}
use Rattle.reader.specs.Laws.{SoundSaid, AllWritten}
use Rattle.reader.specs.Said.{In, Said, shown, net_said, rule_said, meters_said, wanted, stage_of, said_by}
use Rattle.reader.proofs.Answering.{sound_small}
use Rattle.reader.proofs.Faithful.{all_faithful}
use Rattle.reader.proofs.Members.{tag_of, node_of, exit_of, last_of}
use Rattle.reader.proofs.Standing.{stands_from}
use Rattle.reader.proofs.Taking.{not_start, not_links, not_routes, not_meters}

places_same : (p q : ℕ → Bool) (n : ℕ) → ((i : ℕ) → i < n → p i ≡ q i) → places p n ≡ places q n
places_same p q zero h = refl
places_same p q (suc n) h = λ i. places_same p q n (λ k lt. h k (omega arith)) i ++ cond (h n (omega arith) i) (n ∷ []) []

-- two networks with the same links
module _ (a b : AnyNet) (count : a.links ≡ b.links) (same : (i : ℕ) → i < b.links → a.link i ≡ b.link i) where
  entering_same : (n : ℕ) → entering a n ≡ entering b n
  entering_same n = ap (places (λ i. eqb (a.link i).to n)) count ∙ places_same (λ i. eqb (a.link i).to n) (λ i. eqb (b.link i).to n) b.links (λ i lt. ap (λ k. eqb k n) (ap (λ k. k.to) (same i lt)))

  leaving_same : (n : ℕ) → leaving a n ≡ leaving b n
  leaving_same n = ap (places (λ i. eqb (a.link i).from n)) count ∙ places_same (λ i. eqb (a.link i).from n) (λ i. eqb (b.link i).from n) b.links (λ i lt. ap (λ k. eqb k n) (ap (λ k. k.from) (same i lt)))

  kind_same : (n : ℕ) → law.Kind b n → law.Kind a n
  kind_same n (law.entrance j e l) = law.entrance j (entering_same n ∙ e) (leaving_same n ∙ l)
  kind_same n (law.exit i e l) = law.exit i (entering_same n ∙ e) (leaving_same n ∙ l)
  kind_same n (law.mainline i j e l) = law.mainline i j (entering_same n ∙ e) (leaving_same n ∙ l)
  kind_same n (law.merge i i' j e l) = law.merge i i' j (entering_same n ∙ e) (leaving_same n ∙ l)
  kind_same n (law.diverge i j j' e l) = law.diverge i j j' (entering_same n ∙ e) (leaving_same n ∙ l)

  merge_same : (n : ℕ) → IsMerge b n → IsMerge a n
  merge_same n m = (m.0, m.1, m.2, entering_same n ∙ m.3, leaving_same n ∙ m.4)

-- the rows of a network that keeps the rules
module _ (net : AnyNet) (ok : law.Sound net) where
  abbrev link_rows : ℕ → List Row
  link_rows zero = Net net.nodes net.links ∷ []
  link_rows (suc i) = Link (net.link i) ∷ link_rows i

  nodes_l : (i : ℕ) → (net_said (link_rows i)).nodes ≡ net.nodes
  nodes_l zero = refl
  nodes_l (suc i) = nodes_l i

  wants_l : (i : ℕ) → wanted (link_rows i) ≡ net.links
  wants_l zero = refl
  wants_l (suc i) = wants_l i

  count_l : (i : ℕ) → (net_said (link_rows i)).links ≡ i
  count_l zero = refl
  count_l (suc i) = omega (arith, count_l i)

  link_l : (i j : ℕ) → j < i → (net_said (link_rows i)).link j ≡ net.link j
  link_l zero j h = absurd (omega arith)
  link_l (suc i) j h =
      ⊎_elim
      (λ e. cond-true (eqb j (net_said (link_rows i)).links) (net.link i) ((net_said (link_rows i)).link j) (eq-eqb _ _ (e ∙ sym (count_l i))) ∙ ap net.link (sym e))
      (λ ne. cond-false (eqb j (net_said (link_rows i)).links) (net.link i) ((net_said (link_rows i)).link j) (ne_eqb _ _ (λ e. ne (e ∙ count_l i))) ∙ link_l i j (omega arith))
      (cases_eq j i)

  stage_l : (i : ℕ) → i < net.links → stage_of (link_rows i) ≡ Links
  stage_l zero h = refl
  stage_l (suc i) h = cond-false (eqb ((net_said (link_rows i)).links + 1) (wanted (link_rows i))) Routes Links (ne_eqb _ _ (λ e. omega (arith, count_l i, wants_l i)))

  stage_last : (i : ℕ) → suc i ≡ net.links → stage_of (link_rows (suc i)) ≡ Routes
  stage_last i h = cond-true (eqb ((net_said (link_rows i)).links + 1) (wanted (link_rows i))) Routes Links (eq-eqb _ _ (omega (arith, count_l i, wants_l i)))

  stage_full : (n : ℕ) → n ≡ net.links → stage_of (link_rows n) ≡ Routes
  stage_full zero h = absurd (let least = ok.links_least in omega arith)
  stage_full (suc i) h = stage_last i h

  only_links : (i : ℕ) (r : Row) → In r (link_rows i) → tag_of r ≤ 1
  only_links zero r h = ⊎_elim (λ e. omega (arith, ap tag_of e)) (λ e. absurd e) h
  only_links (suc i) r h = ⊎_elim (λ e. omega (arith, ap tag_of e)) (λ e. only_links i r e) h

  length_l : (i : ℕ) → length (link_rows i) ≡ i + 1
  length_l zero = refl
  length_l (suc i) = omega (arith, length_l i)

  sound_l : (i : ℕ) → i ≤ net.links → Sound (link_rows i)
  sound_l zero h = (
    tt,
    record {
      going = not_start;
      order = refl;
      ranged = ((ok.nodes_least, ok.nodes_most), ((ok.links_least, ok.links_most), tt));
      passes = λ p. ((λ j x. x.1), ((λ j x. x.1), ((λ j x. x.1), ((λ j x. x.1), ((λ j x. x.1), tt)))));
    },
  )
  sound_l (suc i) h =
      let lt : i < net.links = omega arith in
      let k = ok.link i lt in
      let nodes = nodes_l i in (
        sound_l i (omega arith),
        record {
          going = λ e. not_links (sym (stage_l i lt) ∙ e);
          order = ap (λ (x : Stage). in_order x (kind_of (Link (net.link i)))) (stage_l i lt);
          ranged = (
            (k.from_node, let a = k.upward in let b = k.to_node in omega arith),
            (
              (let a = k.upward in let b = k.from_node in omega arith, let b = k.to_node in omega arith),
              ((k.free_least, k.free_most), ((k.wave_least, k.wave_most), ((k.capacity_least, k.capacity_most), ((k.storage_least, k.storage_most), tt)))),
            ),
          );
          passes = λ p. (
            (λ j x. let a = k.upward in let b = x.1 in omega arith),
            (
              (λ j x.
                  let last : suc i ≡ net.links = omega (arith, x.1, count_l i, wants_l i) in
                  let odd = x.2.1 in
                  odd.2 (kind_same (net_said (link_rows (suc i))) net (count_l (suc i) ∙ last) (λ m lm. link_l (suc i) m (omega arith)) x.2.0 (ok.kind x.2.0 odd.0 (let b = odd.1 in omega arith)))),
              ((λ j x. x.1), ((λ j x. x.1), ((λ j x. x.1), tt))),
            ),
          );
        },
      )

  -- a route's node, exit and link are there
  fork : (n x k : ℕ) → net.route n x ≡ Some k → ((1 ≤ n) × (n ≤ net.nodes)) × (((1 ≤ x) × (x ≤ net.nodes)) × ((k < net.links) × ((net.link k).from ≡ n)))
  fork n x k e =
      let r = ok.route n x k e in
      let among : Among k (leaving net n) = subst (Among k) (sym r.4) (⊎_elim (λ a. inl a) (λ a. inr (inl a)) r.5) in
      let out = left_from net n k among in
      let one = ok.link k out.0 in
      let in' = entered net x r.6.0 (subst (Among r.6.0) (sym r.6.1.0) (inl refl)) in
      let two = ok.link r.6.0 in'.0 in (
        (let a = one.from_node in omega (arith, out.1), let a = one.upward in let b = one.to_node in omega (arith, out.1)),
        ((let a = two.from_node in let b = two.upward in omega (arith, in'.1), let a = two.to_node in omega (arith, in'.1)), out),
      )

  -- the routes of the nodes below n, and of n to the exits below x, are written
  pub record Routed (rows : List Row) (n x : ℕ) : Type 0 where
    pub sound : Sound rows
    pub stage : stage_of rows ≡ Routes
    pub nodes : (net_said rows).nodes ≡ net.nodes
    pub wants : wanted rows ≡ net.links
    pub links : (net_said rows).links ≡ net.links
    pub link : (i : ℕ) → i < net.links → (net_said rows).link i ≡ net.link i
    pub came : (m y k : ℕ) → In (Route m y k) rows → ((m < n) ⊎ ((m ≡ n) × (y < x))) × ((j : ℕ) × (k ≡ j + 1) × (net.route m y ≡ Some j))
    pub there : (m y k : ℕ) → (m < n) ⊎ ((m ≡ n) × (y < x)) → y < 33 → net.route m y ≡ Some k → In (Route m y (k + 1)) rows
    pub plain : (r : Row) → In r rows → tag_of r ≤ 2
    pub few : length rows ≤ 49 + n * 33 + x

  abbrev add_route : Option ℕ → ℕ → ℕ → List Row → List Row
  add_route None n x rows = rows
  add_route (Some k) n x rows = Route n x (k + 1) ∷ rows

  routed_start : Routed (link_rows net.links) 0 0
  routed_start = record {
    sound = sound_l net.links (omega arith);
    stage = stage_full net.links refl;
    nodes = nodes_l net.links;
    wants = wants_l net.links;
    links = count_l net.links;
    link = λ i h. link_l net.links i h;
    came = λ m y k h. absurd (let t = only_links net.links (Route m y k) h in omega arith);
    there = λ m y k h. absurd (⊎_elim (λ a. omega arith) (λ a. let b = a.1 in omega arith) h);
    plain = λ r h. let t = only_links net.links r h in omega arith;
    few = let most = ok.links_most in omega (arith, length_l net.links);
  }

  -- the next exit: no route
  routed_none : (rows : List Row) (n x : ℕ) → net.route n x ≡ None → Routed rows n x → Routed rows n (suc x)
  routed_none rows n x e h = record {
    sound = h.sound;
    stage = h.stage;
    nodes = h.nodes;
    wants = h.wants;
    links = h.links;
    link = h.link;
    came = λ m y k i. let c = h.came m y k i in (⊎_elim (λ a. inl a) (λ a. let b = a.1 in inr (a.0, omega arith)) c.0, c.1);
    there = λ m y k where' low is. ⊎_elim
        (λ a. h.there m y k (inl a) low is)
        (λ a. ⊎_elim
        (λ same. absurd (let z : ◌≡◌ {A = ℕ} 0 1 = nothing m y k a.0 same is in omega arith))
        (λ ne. h.there m y k (inr (a.0, let b = a.1 in omega arith)) low is)
        (cases_eq y x))
        where';
    plain = h.plain;
    few = let f = h.few in omega arith;
  }
    where
      nothing : (m y k : ℕ) → m ≡ n → y ≡ x → net.route m y ≡ Some k → ◌≡◌ {A = ℕ} 0 1
      nothing m y k a b is = let z : net.route m y ≡ None = (λ i. net.route (a i) (b i)) ∙ e in cc

  -- the next exit: a route
  module _ (rows : List Row) (n x k : ℕ) (e : net.route n x ≡ Some k) (h : Routed rows n x) where
    fits : RouteFits (net_said rows) n x (k + 1)
    fits =
        let r = ok.route n x k e in
        let f = fork n x k e in
        let back : k + 1 - 1 ≡ k = omega arith in
        record {
          diverge = (r.0, r.1, r.2, entering_same (net_said rows) net h.links h.link n ∙ r.3, leaving_same (net_said rows) net h.links h.link n ∙ r.4);
          exit = (r.6.0, (entering_same (net_said rows) net h.links h.link x ∙ r.6.1.0, leaving_same (net_said rows) net h.links h.link x ∙ r.6.1.1));
          leaves = record {
            least = omega arith;
            most = let a = f.1.1.0 in omega (arith, h.links);
            from = ap (λ j. ((net_said rows).link j).from) back ∙ ap (λ l. l.from) (h.link k f.1.1.0) ∙ f.1.1.1;
          };
        }

    follows : Follows rows (Route n x (k + 1))
    follows =
        let f = fork n x k e in
        record {
          going = λ z. not_routes (sym h.stage ∙ z);
          order = ap (λ (y : Stage). in_order y (kind_of (Route n x (k + 1)))) h.stage;
          ranged = (
            (f.0.0, let a = f.0.1 in omega (arith, h.nodes)),
            ((f.1.0.0, let a = f.1.0.1 in omega (arith, h.nodes)), ((omega arith, let a = f.1.1.0 in omega (arith, h.wants)), tt)),
          );
          passes = λ p. (
            (λ j y. y.1),
            (
              (λ j y. y.1),
              (
                (λ j y. y.1 fits),
                (
                  (λ j y. let c = h.came n x y.1.0 y.1.1 in ⊎_elim (λ a. omega arith) (λ a. let b = a.1 in omega arith) c.0),
                  ((λ j y. y.1), tt),
                ),
              ),
            ),
          );
        }

    routed_some : Routed (Route n x (k + 1) ∷ rows) n (suc x)
    routed_some = record {
      sound = (h.sound, follows);
      stage = refl;
      nodes = h.nodes;
      wants = h.wants;
      links = h.links;
      link = h.link;
      came = λ m y j i. ⊎_elim
          (λ is.
          let a = ap node_of is in
          let b = ap exit_of is in
          (inr (a, omega arith), (k, ap last_of is, (λ z. net.route (a z) (b z)) ∙ e)))
          (λ old. let c = h.came m y j old in (⊎_elim (λ a. inl a) (λ a. let b = a.1 in inr (a.0, omega arith)) c.0, c.1))
          i;
      there = λ m y j where' low is. ⊎_elim
          (λ a. inr (h.there m y j (inl a) low is))
          (λ a. ⊎_elim
          (λ same. let one : k ≡ j = found m y j a.0 same is in inl (λ z. Route (a.0 z) (same z) (sym one z + 1)))
          (λ ne. inr (h.there m y j (inr (a.0, let b = a.1 in omega arith)) low is))
          (cases_eq y x))
          where';
      plain = λ r i. ⊎_elim (λ is. omega (arith, ap tag_of is)) (λ old. h.plain r old) i;
      few = let f = h.few in omega arith;
    }
      where
        found : (m y j : ℕ) → m ≡ n → y ≡ x → net.route m y ≡ Some j → k ≡ j
        found m y j a b is = let z : net.route m y ≡ Some k = (λ i. net.route (a i) (b i)) ∙ e in cc

  routed_more : (rows : List Row) (n x : ℕ) (o : Option ℕ) → net.route n x ≡ o → Routed rows n x → Routed (add_route o n x rows) n (suc x)
  routed_more rows n x None e h = routed_none rows n x e h
  routed_more rows n x (Some k) e h = routed_some rows n x k e h

  abbrev exit_rows : ℕ → List Row → ℕ → List Row
  exit_rows n rows zero = rows
  exit_rows n rows (suc x) = add_route (net.route n x) n x (exit_rows n rows x)

  routed_exits : (n : ℕ) (rows : List Row) (x : ℕ) → Routed rows n 0 → Routed (exit_rows n rows x) n x
  routed_exits n rows zero h = h
  routed_exits n rows (suc x) h = routed_more (exit_rows n rows x) n x (net.route n x) refl (routed_exits n rows x h)

  abbrev route_rows : ℕ → List Row
  route_rows zero = link_rows net.links
  route_rows (suc n) = exit_rows n (route_rows n) 33

  -- the next node
  routed_on : (rows : List Row) (n : ℕ) → Routed rows n 33 → Routed rows (suc n) 0
  routed_on rows n h = record {
    sound = h.sound;
    stage = h.stage;
    nodes = h.nodes;
    wants = h.wants;
    links = h.links;
    link = h.link;
    came = λ m y k i. let c = h.came m y k i in (⊎_elim (λ a. inl (omega arith)) (λ a. let b = a.0 in inl (omega arith)) c.0, c.1);
    there = λ m y k where' low is. ⊎_elim
        (λ a. ⊎_elim (λ same. h.there m y k (inr (same, low)) low is) (λ ne. h.there m y k (inl (omega arith)) low is) (cases_eq m n))
        (λ a. absurd (let b = a.1 in omega arith))
        where';
    plain = h.plain;
    few = let f = h.few in omega arith;
  }

  routed_all : (n : ℕ) → Routed (route_rows n) n 0
  routed_all zero = routed_start
  routed_all (suc n) = routed_on (exit_rows n (route_rows n) 33) n (routed_exits n (route_rows n) 33 (routed_all n))

  same_option : (a b : Option ℕ) → ((k : ℕ) → a ≡ Some k → b ≡ Some k) → ((k : ℕ) → b ≡ Some k → a ≡ Some k) → b ≡ a
  same_option None None f g = refl
  same_option None (Some k) f g = sym (g k refl)
  same_option (Some k) b f g = f k refl

  -- the routes that the rows say are the network's
  routes_same : (n x : ℕ) → (net_said (route_rows 33)).route n x ≡ net.route n x
  routes_same n x =
      let h = routed_all 33 in
      let faith = all_faithful (route_rows 33) h.sound in
      let most = ok.nodes_most in
      same_option (net.route n x) ((net_said (route_rows 33)).route n x)
      (λ k e.
      let f = fork n x k e in
      faith.route n x k (h.there n x k (inl (let a = f.0.1 in omega arith)) (let a = f.1.0.1 in omega arith) e))
      (λ k e.
      let c = h.came n x (k + 1) (faith.routed n x k e) in
      let one : c.1.0 ≡ k = omega (arith, c.1.1) in
      c.1.2 ∙ ap Some one)

module _ (s : Said) (ok : SoundSaid s) where
  abbrev full_rows : List Row
  full_rows = Merge s.rule ∷ route_rows s.net ok.net 33

  -- the meters of the nodes below n are written
  pub record Metered (rows : List Row) (n : ℕ) : Type 0 where
    pub sound : Sound rows
    pub stage : stage_of rows ≡ Meters
    pub net : net_said rows ≡ net_said (route_rows s.net ok.net 33)
    pub wants : wanted rows ≡ s.net.links
    pub rule : rule_said rows ≡ s.rule
    pub came : (m u t : ℕ) → In (Meter m u t) rows → (m < n) × (s.meters m ≡ Some (u, t))
    pub there : (m u t : ℕ) → m < n → s.meters m ≡ Some (u, t) → In (Meter m u t) rows
    pub few : length rows ≤ 1139 + n

  metered_start : Metered full_rows 0
  metered_start =
      let h = routed_all s.net ok.net 33 in
      record {
        sound = (
          h.sound,
          record {
            going = λ z. not_routes (sym h.stage ∙ z);
            order = ap (λ (y : Stage). in_order y (kind_of (Merge s.rule))) h.stage;
            ranged = (tt, tt);
            passes = λ p. ((λ j x. x.1), ((λ j x. x.1), ((λ j x. x.1), ((λ j x. x.1), ((λ j x. x.1), tt)))));
          },
        );
        stage = refl;
        net = refl;
        wants = h.wants;
        rule = refl;
        came = λ m u t i. absurd (⊎_elim (λ is. omega (arith, ap tag_of is)) (λ old. let t = h.plain (Meter m u t) old in omega arith) i);
        there = λ m u t lt. absurd (omega arith);
        few = let f = h.few in omega arith;
      }

  abbrev add_meter : Option (ℕ × ℕ) → ℕ → List Row → List Row
  add_meter None n rows = rows
  add_meter (Some g) n rows = Meter n g.0 g.1 ∷ rows

  metered_none : (rows : List Row) (n : ℕ) → s.meters n ≡ None → Metered rows n → Metered rows (suc n)
  metered_none rows n e h = record {
    sound = h.sound;
    stage = h.stage;
    net = h.net;
    wants = h.wants;
    rule = h.rule;
    came = λ m u t i. let c = h.came m u t i in (let a = c.0 in omega arith, c.1);
    there = λ m u t lt is. ⊎_elim (λ same. absurd (let z : ◌≡◌ {A = ℕ} 0 1 = nothing m u t same is in omega arith)) (λ ne. h.there m u t (omega arith) is) (cases_eq m n);
    few = let f = h.few in omega arith;
  }
    where
      nothing : (m u t : ℕ) → m ≡ n → s.meters m ≡ Some (u, t) → ◌≡◌ {A = ℕ} 0 1
      nothing m u t a is = let z : s.meters m ≡ None = ap s.meters a ∙ e in cc

  module _ (rows : List Row) (n : ℕ) (g : ℕ × ℕ) (e : s.meters n ≡ Some g) (h : Metered rows n) where
    net_is : (i : ℕ) → i < s.net.links → (net_said rows).link i ≡ s.net.link i
    net_is i lt = ap (λ (x : AnyNet). x.link i) h.net ∙ (routed_all s.net ok.net 33).link i lt

    count_is : (net_said rows).links ≡ s.net.links
    count_is = ap (λ (x : AnyNet). x.links) h.net ∙ (routed_all s.net ok.net 33).links

    nodes_is : (net_said rows).nodes ≡ s.net.nodes
    nodes_is = ap (λ (x : AnyNet). x.nodes) h.net ∙ (routed_all s.net ok.net 33).nodes

    merges : IsMerge s.net n
    merges = ok.merge n g.0 g.1 e

    -- a merge is a node
    node_in : (1 ≤ n) × (n ≤ s.net.nodes)
    node_in =
        let in' = entered s.net n merges.0 (subst (Among merges.0) (sym merges.3) (inl refl)) in
        let k = ok.net.link merges.0 in'.0 in
        (let a = k.from_node in let b = k.upward in omega (arith, in'.1), let a = k.to_node in omega (arith, in'.1))

    metered_some : Metered (Meter n g.0 g.1 ∷ rows) (suc n)
    metered_some = record {
      sound = (
        h.sound,
        record {
          going = λ z. not_meters (sym h.stage ∙ z);
          order = ap (λ (y : Stage). in_order y (kind_of (Meter n g.0 g.1))) h.stage;
          ranged = ((node_in.0, let a = node_in.1 in omega (arith, nodes_is)), (ok.rate n g.0 g.1 e, (ok.period n g.0 g.1 e, tt)));
          passes = λ p. (
            (λ j x. x.1),
            (
              (λ j x. x.1),
              (
                (λ j x. x.1),
                (
                  (λ j x. let a = (h.came n x.1.0 x.1.1 x.1.2).0 in omega arith),
                  ((λ j x. x.1 (merge_same (net_said rows) s.net count_is net_is n merges)), tt),
                ),
              ),
            ),
          );
        },
      );
      stage = refl;
      net = h.net;
      wants = h.wants;
      rule = h.rule;
      came = λ m u t i. ⊎_elim
          (λ is.
          let a = ap node_of is in
          (omega arith, ap s.meters a ∙ e ∙ (λ z. Some (sym (ap exit_of is) z, sym (ap last_of is) z))))
          (λ old. let c = h.came m u t old in (let a = c.0 in omega arith, c.1))
          i;
      there = λ m u t lt is. ⊎_elim
          (λ same. inl (let one : g ≡ (u, t) = found m u t same is in λ z. Meter (same z) (sym one z).0 (sym one z).1))
          (λ ne. inr (h.there m u t (omega arith) is))
          (cases_eq m n);
      few = let f = h.few in omega arith;
    }
      where
        found : (m u t : ℕ) → m ≡ n → s.meters m ≡ Some (u, t) → g ≡ (u, t)
        found m u t a is = let z : s.meters m ≡ Some g = ap s.meters a ∙ e in cc

  metered_more : (rows : List Row) (n : ℕ) (o : Option (ℕ × ℕ)) → s.meters n ≡ o → Metered rows n → Metered (add_meter o n rows) (suc n)
  metered_more rows n None e h = metered_none rows n e h
  metered_more rows n (Some g) e h = metered_some rows n g e h

  abbrev meter_rows : ℕ → List Row
  meter_rows zero = full_rows
  meter_rows (suc n) = add_meter (s.meters n) n (meter_rows n)

  metered_all : (n : ℕ) → Metered (meter_rows n) n
  metered_all zero = metered_start
  metered_all (suc n) = metered_more (meter_rows n) n (s.meters n) refl (metered_all n)

  abbrev all_rows : List Row
  all_rows = Go ∷ meter_rows 33

  same_meter : (a b : Option (ℕ × ℕ)) → ((u t : ℕ) → a ≡ Some (u, t) → b ≡ Some (u, t)) → ((u t : ℕ) → b ≡ Some (u, t) → a ≡ Some (u, t)) → b ≡ a
  same_meter None None f g = refl
  same_meter None (Some k) f g = sym (g k.0 k.1 refl)
  same_meter (Some k) b f g = f k.0 k.1 refl

  whole_sound : Sound all_rows
  whole_sound =
      let h = metered_all 33 in (
        h.sound,
        record {
          going = λ z. not_meters (sym h.stage ∙ z);
          order = ap (λ (y : Stage). in_order y (kind_of Go)) h.stage;
          ranged = tt;
          passes = λ p. ((λ j x. x.1), ((λ j x. x.1), ((λ j x. x.1), ((λ j x. x.1), ((λ j x. x.1), tt)))));
        },
      )

  meters_same : (n : ℕ) → meters_said all_rows n ≡ s.meters n
  meters_same n =
      let h = metered_all 33 in
      let faith = all_faithful (meter_rows 33) h.sound in
      same_meter (s.meters n) (meters_said all_rows n)
      (λ u t e.
      let most = ok.net.nodes_most in
      let in' = node_in (meter_rows n) n (u, t) e (metered_all n) in
      faith.meter n u t (h.there n u t (let a = in'.1 in omega arith) e))
      (λ u t e. (h.came n u t (faith.metered n u t e)).1)

shown_short : (rows : List Row) → Sound rows → length (shown rows) ≤ 42 * length rows
shown_short [] h = omega arith
shown_short (r ∷ rows) h =
    let few = sound_small rows h.0 in
    omega (arith, shown_short rows h.0, length-append (shown rows) (text_of r), text_short (net_said rows).nodes (wanted rows) few.0 few.1 r h.1.ranged)

pub all_written : AllWritten
all_written s ok =
    let rows = meter_rows s ok 33 in
    let h = metered_all s ok 33 in
    let f = h.few in
    let bytes = shown (Go ∷ rows) in
    record {
      bytes = bytes;
      said = said_by (Go ∷ rows);
      line = 1 + length rows;
      place = 0 + length (shown rows);
      last = 1 + length (Go ∷ rows);
      answer = (
        omega (arith, shown_short (Go ∷ rows) (whole_sound s ok)),
        record {
          rows = rows;
          head = record { text = stands_from bytes 0 (shown rows) (text_of Go) refl; sound = h.sound; line = refl; place = refl };
          whole = record { text = take_all (length bytes) bytes (omega arith); sound = whole_sound s ok; line = refl; place = omega arith };
          says = refl;
        },
      );
      agrees = record {
        nodes = ap (λ (x : AnyNet). x.nodes) h.net ∙ (routed_all s.net ok.net 33).nodes;
        links = ap (λ (x : AnyNet). x.links) h.net ∙ (routed_all s.net ok.net 33).links;
        link = λ i lt. ap (λ (x : AnyNet). x.link i) h.net ∙ (routed_all s.net ok.net 33).link i lt;
        route = λ n x. ap (λ (y : AnyNet). y.route n x) h.net ∙ routes_same s.net ok.net n x;
        rule = h.rule;
        meters = meters_same s ok;
      };
    }
