-- The kinds of all nodes, and the network that they make.
use Rattle.std.proofs.Common.{◌≡◌, ℕ, zero, suc, ◌+◌, ◌<◌, ◌≤◌, Bool, cond, eqb, List, [], ◌∷◌, ◌++◌, Option, None, length, get_or, set, take, sym, refl, ap, ◌∙◌, subst, ⊎_elim, arith}
use Rattle.std.proofs.lemmas.Bool.{cases_eq}
use Rattle.std.proofs.lemmas.List.{get_or-set_same, get_or-set_other, get_or-take, length-take-le}
use Rattle.network.specs.declared.link.Link.{Link}
use Rattle.network.specs.declared.kind.NodeKind.{NodeKind}
use Rattle.network.specs.declared.kind.NodeKind.TheVariants.{Entrance, Exit, Mainline, Merge, Diverge}
use Rattle.network.specs.declared.layout.Layout.{Layout}
use Rattle.network.specs.Net.{Net, Kind, entrance, exit, mainline, merge, diverge, places, entering, leaving}
use Rattle.network.specs.Layouts.{blank_link, drawn, link_of, Has, IsKind, IsTold, Right}
use Rattle.network.specs.Scans.{links_net}
use Rattle.network.specs.Begun.{Begun}
use Rattle.network.specs.Drafts.{LowestOdd}
use Rattle.network.proofs.Rights.{told_kind}

places_same : (p q : ℕ → Bool) (n : ℕ) → ((i : ℕ) → i < n → p i ≡ q i) → places p n ≡ places q n
places_same p q zero h = refl
places_same p q (suc n) h =
    ap (λ (xs : List ℕ). xs ++ cond (p n) (n ∷ []) []) (places_same p q n (λ i l. h i (omega arith)))
    ∙ ap (λ b. places q n ++ cond b (n ∷ []) []) (h n (omega arith))

-- the links of a layout, cut to as many as there are, stand at a node as the layout's do
module _ (l : Layout) (n : ℕ) (fits : l.count ≤ length l.links) where
  abbrev cut : Net
  cut = links_net (take l.count l.links)

  long : cut.links ≡ l.count
  long = length-take-le l.count l.links fits

  same : (p : Link → Bool) → places (λ i. p (cut.link i)) cut.links ≡ places (λ i. p (link_of l i)) l.count
  same p = ap (places (λ i. p (cut.link i))) long ∙ places_same (λ i. p (cut.link i)) (λ i. p (link_of l i)) l.count (λ i h. ap p (get_or-take l.count l.links i blank_link h))

  same_ins : entering cut n ≡ entering (drawn l) n
  same_ins = same (λ k. eqb k.to n)

  same_outs : leaving cut n ≡ leaving (drawn l) n
  same_outs = same (λ k. eqb k.from n)

  has_cut : (ins outs : List ℕ) → Has cut n ins outs → Has (drawn l) n ins outs
  has_cut ins outs h = (sym same_ins ∙ h.0, sym same_outs ∙ h.1)

  pub kind_cut : (k : NodeKind) → IsKind cut n k → IsKind (drawn l) n k
  kind_cut (Entrance j) h = has_cut [] (j ∷ []) h
  kind_cut (Exit i) h = has_cut (i ∷ []) [] h
  kind_cut (Mainline i j) h = has_cut (i ∷ []) (j ∷ []) h
  kind_cut (Merge i i' j) h = has_cut (i ∷ i' ∷ []) (j ∷ []) h
  kind_cut (Diverge i j j') h = has_cut (i ∷ []) (j ∷ j' ∷ []) h

  pub odd_cut : (Kind cut n → ⊥) → Kind (drawn l) n → ⊥
  odd_cut h (entrance j e f) = h (entrance j (same_ins ∙ e) (same_outs ∙ f))
  odd_cut h (exit i e f) = h (exit i (same_ins ∙ e) (same_outs ∙ f))
  odd_cut h (mainline i j e f) = h (mainline i j (same_ins ∙ e) (same_outs ∙ f))
  odd_cut h (merge i i' j e f) = h (merge i i' j (same_ins ∙ e) (same_outs ∙ f))
  odd_cut h (diverge i j j' e f) = h (diverge i j j' (same_ins ∙ e) (same_outs ∙ f))

-- the kinds of all nodes below n
abbrev pub Told : Net → ℕ → List (Option NodeKind) → Type 0
Told net n ks = (k : ℕ) → 1 ≤ k → k ≤ net.nodes → k < n → IsTold net k (get_or ks k None)

module _ (net : Net) (n : ℕ) (ks : List (Option NodeKind)) (below : Told net n ks) where
  pub lowest : 1 ≤ n → n ≤ net.nodes → (Kind net n → ⊥) → LowestOdd net n
  lowest l m h = record { least = l; most = m; odd = h; below = λ j a b. told_kind net j (get_or ks j None) (below j a (omega (arith, m)) b) }

  pub more_told : (o : Option NodeKind) → n < length ks → (1 ≤ n → n ≤ net.nodes → IsTold net n o) → Told net (n + 1) (set ks n o)
  more_told o f h m a b c = ⊎_elim
      (λ (e : m ≡ n). subst (λ j. IsTold net j (get_or (set ks n o) j None)) (sym e) (subst (IsTold net n) (sym (get_or-set_same ks n o None f)) (h (omega arith) (omega arith))))
      (λ ne. subst (IsTold net m) (sym (get_or-set_other ks n m o None ne)) (below m a b (omega (arith, ne))))
      (cases_eq m n)

-- the layout with the kinds of its nodes
abbrev pub kinded : Layout → List (Option NodeKind) → Layout
kinded l ks = record { nodes = l.nodes; count = l.count; links = l.links; kinds = ks; routes = l.routes }

pub right_kinded : (l : Layout) (w : ℕ) (ks : List (Option NodeKind)) → Begun l w → w ≤ l.count → length ks ≡ 33
    → ((k : ℕ) → 1 ≤ k → k ≤ l.nodes → IsTold (drawn l) k (get_or ks k None)) → Right (kinded l ks)
right_kinded l w ks b h wide each = record {
  whole = b.whole;
  wide = wide;
  ways = b.ways;
  way = b.way;
  nodes_least = b.nodes_least;
  nodes = b.nodes;
  count_least = omega (arith, b.wanted_least);
  count = omega (arith, b.fits, b.wanted_most);
  link = b.link;
  rows = λ k x j e. absurd (b.no_route k x j e);
  kinds = each;
}
