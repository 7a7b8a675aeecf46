-- The fresh network keeps the rules.
use Rattle.std.proofs.Common.{◌≡◌, ℕ, ◌≤◌, List, Option, None, get_or, set, sym, refl, ap, ◌∙◌, subst, ⊎_elim, arith, lit<, lit≤}
use Rattle.std.proofs.lemmas.Bool.{cases_eq}
use Rattle.network.specs.declared.kind.NodeKind.{NodeKind}
use Rattle.network.specs.declared.layout.Layout.{Layout}
use Rattle.network.specs.Layouts.{drawn, IsTold, Right, empty_layout}
use Rattle.network.specs.Begun.{Begun}
use Rattle.network.specs.Net.{Net}
use Rattle.network.specs.Drafts.{with_link, fresh_net, fresh_link, fresh_kinds, Ranged}
use Rattle.network.proofs.Growing.{begun_empty, empty_draws, begun_more, more_draws, grown}
use Rattle.network.proofs.Finishing.{kinded, right_kinded}

ranged : Ranged 2 fresh_link
ranged = record {
  from_least = lit≤ tt;
  from_most = lit≤ tt;
  to_least = lit≤ tt;
  to_most = lit≤ tt;
  free_least = lit≤ tt;
  free_most = lit≤ tt;
  wave_least = lit≤ tt;
  wave_most = lit≤ tt;
  capacity_least = lit≤ tt;
  capacity_most = lit≤ tt;
  storage_least = lit≤ tt;
  storage_most = lit≤ tt;
}

begun : Begun (empty_layout 2) 1
begun = begun_empty 2 1 (lit≤ tt) (lit≤ tt) (lit≤ tt) (lit≤ tt)

kinds : (k : ℕ) → 1 ≤ k → k ≤ 2 → IsTold fresh_net k (get_or fresh_kinds k None)
kinds k a b = ⊎_elim
    (λ (e : k ≡ 1). subst (λ n. IsTold fresh_net n (get_or fresh_kinds n None)) (sym e) (refl, refl))
    (λ ne. subst (λ n. IsTold fresh_net n (get_or fresh_kinds n None)) (let e : 2 ≡ k = omega (arith, ne) in e) (refl, refl))
    (cases_eq k 1)

abbrev start : Layout
start = grown (empty_layout 2) fresh_link

draws : drawn start ≡ fresh_net
unfolding empty_layout
draws = more_draws (empty_layout 2) fresh_link (lit< tt) ∙ ap (λ (net : Net). with_link net fresh_link) (empty_draws 2)

right : Right (kinded start fresh_kinds)
unfolding empty_layout
right = right_kinded start 1 fresh_kinds (begun_more (empty_layout 2) 1 fresh_link begun (lit< tt) ranged (lit< tt)) (lit≤ tt) refl
    (λ k a b. subst (λ (net : Net). IsTold net k (get_or fresh_kinds k None)) (sym draws) (kinds k a b))

-- what the code makes of an empty layout
abbrev pub joined : Layout → List (Option NodeKind) → Layout
joined l ks = record { nodes = l.nodes; count = 1; links = set l.links 0 fresh_link; kinds = ks; routes = l.routes }

pub fresh_draws : (l : Layout) (ks : List (Option NodeKind)) → l ≡ empty_layout 2 → drawn (joined l ks) ≡ fresh_net
unfolding empty_layout
fresh_draws l ks e = subst (λ (m : Layout). drawn (joined m ks) ≡ fresh_net) (sym e) draws

pub fresh_right : (l : Layout) (ks : List (Option NodeKind)) → l ≡ empty_layout 2 → ks ≡ fresh_kinds → Right (joined l ks)
unfolding empty_layout
fresh_right l ks e f = subst (λ (m : Layout). Right (joined m ks)) (sym e) (subst (λ (qs : List (Option NodeKind)). Right (joined (empty_layout 2) qs)) (sym f) right)
