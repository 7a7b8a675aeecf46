-- What rows say is what each of them says. Assumes nothing.
use Rattle.std.proofs.Common.{◌≡◌, ℕ, ◌+◌, ◌-◌, ◌<◌, true, ◌&&◌, eqb, ◌⊎◌, List, [], ◌∷◌, length, get_or, Some, sym, refl, ap, ◌∙◌, subst, inl, inr, ⊎_elim, arith}
use Rattle.std.proofs.lemmas.List.{length_push, get_or_push, get_or_append_left}
use Rattle.std.proofs.lemmas.Bool.{both_ways, cases_Bool, cases_eq, and_parts, and_from, eq-eqb, ne_eqb, eqb-true, cond-true, cond-false}
use Rattle.network.specs.Layouts.{blank_link}
use Rattle.merge.specs.declared.choice.Choice.{Choice}
use Rattle.rows.specs.Kinds.{in_order}
use Rattle.rows.specs.declared.kind.Kind.TheVariants as kind
use Rattle.rows.specs.declared.kind.Stage.{Stage}
use Rattle.rows.specs.declared.kind.Stage.TheVariants.{Start, Links, Routes, Meters, Calls}
use Rattle.rows.specs.declared.row.Row.{Row}
use Rattle.rows.specs.declared.row.Row.TheVariants.{Net, Link, Route, Merge, Meter, Go, Call}
use Rattle.reader.specs.Checks.{Sound, Follows, Twice}
use Rattle.reader.specs.Laws.{links_in, AllFaithful}
use Rattle.reader.specs.Said.{In, net_said, rule_said, meters_said, stage_of}
use Rattle.reader.proofs.Members.{net_first, first_row, start_only, meter_in, route_in, tag_of, node_of, exit_of, last_of}

-- no second route or meter stands behind the first
once : (r : Row) (rows : List Row) → Follows rows r → Twice rows r → ⊥
once r rows f h = (f.passes 0).1.1.1.0 0 (refl, h)

none_in : (rows : List Row) → rows ≡ [] → 0 ≡ length (links_in rows)
none_in rows e = sym (ap (λ (x : List Row). length (links_in x)) e)

pub links_counted : (rows : List Row) → Sound rows → (net_said rows).links ≡ length (links_in rows)
links_counted [] s = refl
links_counted (Net n l ∷ rows) s = none_in rows (first_row rows (start_only (stage_of rows) s.1.order))
links_counted (Link k ∷ rows) s = omega (arith, links_counted rows s.0, length_push (links_in rows) k)
links_counted (Route n x k ∷ rows) s = links_counted rows s.0
links_counted (Merge u ∷ rows) s = links_counted rows s.0
links_counted (Meter n u t ∷ rows) s = links_counted rows s.0
links_counted (Go ∷ rows) s = links_counted rows s.0
links_counted (Call c ∷ rows) s = links_counted rows s.0

pub link_placed : (rows : List Row) → Sound rows → (i : ℕ) → i < length (links_in rows) → (net_said rows).link i ≡ get_or (links_in rows) i blank_link
link_placed [] s i h = refl
link_placed (Net n l ∷ rows) s i h = absurd (omega (arith, none_in rows (first_row rows (start_only (stage_of rows) s.1.order))))
link_placed (Link k ∷ rows) s i h =
    let n = links_counted rows s.0 in
    ⊎_elim
    (λ e. cond-true (eqb i (net_said rows).links) k ((net_said rows).link i) (eq-eqb _ _ e) ∙ sym (get_or_push (links_in rows) k blank_link i (omega arith)))
    (λ ne.
    let lt : i < length (links_in rows) = omega (arith, length_push (links_in rows) k) in
    cond-false (eqb i (net_said rows).links) k ((net_said rows).link i) (ne_eqb _ _ ne) ∙ link_placed rows s.0 i lt ∙ sym (get_or_append_left (links_in rows) (k ∷ []) blank_link i lt))
    (cases_eq i (net_said rows).links)
link_placed (Route n x k ∷ rows) s i h = link_placed rows s.0 i h
link_placed (Merge u ∷ rows) s i h = link_placed rows s.0 i h
link_placed (Meter n u t ∷ rows) s i h = link_placed rows s.0 i h
link_placed (Go ∷ rows) s i h = link_placed rows s.0 i h
link_placed (Call c ∷ rows) s i h = link_placed rows s.0 i h

nodes_said : (rows : List Row) (n l : ℕ) → Sound rows → In (Net n l) rows → (net_said rows).nodes ≡ n
nodes_said [] n l s h = absurd h
nodes_said (Net m k ∷ rows) n l s h = ⊎_elim (λ is. sym (let e : n ≡ m = cc in e)) (λ is. absurd (net_first (Net n l) m k rows s.1 is)) h
nodes_said (Link k ∷ rows) n l s h = ⊎_elim (λ is. absurd (omega (arith, ap tag_of is))) (λ is. nodes_said rows n l s.0 is) h
nodes_said (Route m x k ∷ rows) n l s h = ⊎_elim (λ is. absurd (omega (arith, ap tag_of is))) (λ is. nodes_said rows n l s.0 is) h
nodes_said (Merge u ∷ rows) n l s h = ⊎_elim (λ is. absurd (omega (arith, ap tag_of is))) (λ is. nodes_said rows n l s.0 is) h
nodes_said (Meter m u t ∷ rows) n l s h = ⊎_elim (λ is. absurd (omega (arith, ap tag_of is))) (λ is. nodes_said rows n l s.0 is) h
nodes_said (Go ∷ rows) n l s h = ⊎_elim (λ is. absurd (omega (arith, ap tag_of is))) (λ is. nodes_said rows n l s.0 is) h
nodes_said (Call c ∷ rows) n l s h = ⊎_elim (λ is. absurd (omega (arith, ap tag_of is))) (λ is. nodes_said rows n l s.0 is) h

meter_said : (rows : List Row) (m v w : ℕ) → Sound rows → In (Meter m v w) rows → meters_said rows m ≡ Some (v, w)
meter_said [] m v w s h = absurd h
meter_said (Net n l ∷ rows) m v w s h = ⊎_elim (λ is. absurd (omega (arith, ap tag_of is))) (λ is. meter_said rows m v w s.0 is) h
meter_said (Link k ∷ rows) m v w s h = ⊎_elim (λ is. absurd (omega (arith, ap tag_of is))) (λ is. meter_said rows m v w s.0 is) h
meter_said (Route n x k ∷ rows) m v w s h = ⊎_elim (λ is. absurd (omega (arith, ap tag_of is))) (λ is. meter_said rows m v w s.0 is) h
meter_said (Merge u ∷ rows) m v w s h = ⊎_elim (λ is. absurd (omega (arith, ap tag_of is))) (λ is. meter_said rows m v w s.0 is) h
meter_said (Meter n u t ∷ rows) m v w s h =
    ⊎_elim
    (λ is. cond-true (eqb m n) (Some (u, t)) (meters_said rows m) (eq-eqb m n (ap node_of is)) ∙ (λ i. Some (sym (ap exit_of is) i, sym (ap last_of is) i)))
    (λ is.
    let ne : m ≡ n → ⊥ = λ e. once (Meter n u t) rows s.1 (v, w, subst (λ k. In (Meter k v w) rows) e is) in
    cond-false (eqb m n) (Some (u, t)) (meters_said rows m) (ne_eqb m n ne) ∙ meter_said rows m v w s.0 is)
    h
meter_said (Go ∷ rows) m v w s h = ⊎_elim (λ is. absurd (omega (arith, ap tag_of is))) (λ is. meter_said rows m v w s.0 is) h
meter_said (Call c ∷ rows) m v w s h = ⊎_elim (λ is. absurd (omega (arith, ap tag_of is))) (λ is. meter_said rows m v w s.0 is) h

route_said : (rows : List Row) (m y j : ℕ) → Sound rows → In (Route m y (j + 1)) rows → (net_said rows).route m y ≡ Some j
route_said [] m y j s h = absurd h
route_said (Net n l ∷ rows) m y j s h = ⊎_elim (λ is. absurd (omega (arith, ap tag_of is))) (λ is. absurd (net_first (Route m y (j + 1)) n l rows s.1 is)) h
route_said (Link k ∷ rows) m y j s h = ⊎_elim (λ is. absurd (omega (arith, ap tag_of is))) (λ is. route_said rows m y j s.0 is) h
route_said (Route n x k ∷ rows) m y j s h =
    ⊎_elim
    (λ is.
    let q : k - 1 ≡ j = omega (arith, ap last_of is) in
    cond-true (eqb m n && eqb y x) (Some (k - 1)) ((net_said rows).route m y) (and_from (eqb m n) (eqb y x) (eq-eqb m n (ap node_of is)) (eq-eqb y x (ap exit_of is))) ∙ ap Some q)
    (λ is.
    ⊎_elim
    (λ yes'. let e = and_parts (eqb m n) (eqb y x) yes' in absurd (once (Route n x k) rows s.1 (j + 1, subst (λ (z : ℕ × ℕ). In (Route z.0 z.1 (j + 1)) rows) (λ i. (eqb-true m n e.0 i, eqb-true y x e.1 i)) is)))
    (λ no'. cond-false (eqb m n && eqb y x) (Some (k - 1)) ((net_said rows).route m y) no' ∙ route_said rows m y j s.0 is)
    (cases_Bool (eqb m n && eqb y x)))
    h
route_said (Merge u ∷ rows) m y j s h = ⊎_elim (λ is. absurd (omega (arith, ap tag_of is))) (λ is. route_said rows m y j s.0 is) h
route_said (Meter n u t ∷ rows) m y j s h = ⊎_elim (λ is. absurd (omega (arith, ap tag_of is))) (λ is. route_said rows m y j s.0 is) h
route_said (Go ∷ rows) m y j s h = ⊎_elim (λ is. absurd (omega (arith, ap tag_of is))) (λ is. route_said rows m y j s.0 is) h
route_said (Call c ∷ rows) m y j s h = ⊎_elim (λ is. absurd (omega (arith, ap tag_of is))) (λ is. route_said rows m y j s.0 is) h

-- before a `merge` row there is none
merge_stage : (s : Stage) → in_order s kind.Merge ≡ true → s ≡ Routes
merge_stage Start e = absurd (both_ways _ refl e)
merge_stage Links e = absurd (both_ways _ refl e)
merge_stage Routes e = refl
merge_stage Meters e = absurd (both_ways _ refl e)
merge_stage Calls e = absurd (both_ways _ refl e)

-- a `merge` row leads to the meters and on
abbrev Late : Stage → Type 0
Late s = (s ≡ Meters) ⊎ (s ≡ Calls)

not_late : (s : Stage) → Late s → (s ≡ Start) ⊎ ((s ≡ Links) ⊎ (s ≡ Routes)) → ⊥
not_late s (inl a) (inl b) = let z : ◌≡◌ {A = ℕ} 0 1 = cc in omega arith
not_late s (inl a) (inr (inl b)) = let z : ◌≡◌ {A = ℕ} 0 1 = cc in omega arith
not_late s (inl a) (inr (inr b)) = let z : ◌≡◌ {A = ℕ} 0 1 = cc in omega arith
not_late s (inr a) (inl b) = let z : ◌≡◌ {A = ℕ} 0 1 = cc in omega arith
not_late s (inr a) (inr (inl b)) = let z : ◌≡◌ {A = ℕ} 0 1 = cc in omega arith
not_late s (inr a) (inr (inr b)) = let z : ◌≡◌ {A = ℕ} 0 1 = cc in omega arith

link_stage : (s : Stage) → in_order s kind.Link ≡ true → s ≡ Links
link_stage Start e = absurd (both_ways _ refl e)
link_stage Links e = refl
link_stage Routes e = absurd (both_ways _ refl e)
link_stage Meters e = absurd (both_ways _ refl e)
link_stage Calls e = absurd (both_ways _ refl e)

route_stage : (s : Stage) → in_order s kind.Route ≡ true → s ≡ Routes
route_stage Start e = absurd (both_ways _ refl e)
route_stage Links e = absurd (both_ways _ refl e)
route_stage Routes e = refl
route_stage Meters e = absurd (both_ways _ refl e)
route_stage Calls e = absurd (both_ways _ refl e)

late : (rows : List Row) (u : Choice) → Sound rows → In (Merge u) rows → Late (stage_of rows)
late [] u s h = absurd h
late (Net n l ∷ rows) u s h = ⊎_elim (λ is. absurd (omega (arith, ap tag_of is))) (λ is. absurd (net_first (Merge u) n l rows s.1 is)) h
late (Link k ∷ rows) u s h = ⊎_elim (λ is. absurd (omega (arith, ap tag_of is))) (λ is. absurd (not_late (stage_of rows) (late rows u s.0 is) (inr (inl (link_stage (stage_of rows) s.1.order))))) h
late (Route n x k ∷ rows) u s h = ⊎_elim (λ is. absurd (omega (arith, ap tag_of is))) (λ is. absurd (not_late (stage_of rows) (late rows u s.0 is) (inr (inr (route_stage (stage_of rows) s.1.order))))) h
late (Merge v ∷ rows) u s h = inl refl
late (Meter n v t ∷ rows) u s h = inl refl
late (Go ∷ rows) u s h = inr refl
late (Call c ∷ rows) u s h = inr refl

abbrev rule_in : Choice → Row → Choice
rule_in d r = elim r [ Net n l ↦ d | Link k ↦ d | Route n x k ↦ d | Merge u ↦ u | Meter n u t ↦ d | Go ↦ d | Call c ↦ d ]

rule_as_said : (rows : List Row) (u : Choice) → Sound rows → In (Merge u) rows → rule_said rows ≡ u
rule_as_said [] u s h = absurd h
rule_as_said (Net n l ∷ rows) u s h = ⊎_elim (λ is. absurd (omega (arith, ap tag_of is))) (λ is. rule_as_said rows u s.0 is) h
rule_as_said (Link k ∷ rows) u s h = ⊎_elim (λ is. absurd (omega (arith, ap tag_of is))) (λ is. rule_as_said rows u s.0 is) h
rule_as_said (Route n x k ∷ rows) u s h = ⊎_elim (λ is. absurd (omega (arith, ap tag_of is))) (λ is. rule_as_said rows u s.0 is) h
rule_as_said (Merge v ∷ rows) u s h = ⊎_elim (λ is. sym (ap (rule_in u) is)) (λ is. absurd (not_late (stage_of rows) (late rows u s.0 is) (inr (inr (merge_stage (stage_of rows) s.1.order))))) h
rule_as_said (Meter n v t ∷ rows) u s h = ⊎_elim (λ is. absurd (omega (arith, ap tag_of is))) (λ is. rule_as_said rows u s.0 is) h
rule_as_said (Go ∷ rows) u s h = ⊎_elim (λ is. absurd (omega (arith, ap tag_of is))) (λ is. rule_as_said rows u s.0 is) h
rule_as_said (Call c ∷ rows) u s h = ⊎_elim (λ is. absurd (omega (arith, ap tag_of is))) (λ is. rule_as_said rows u s.0 is) h

pub all_faithful : AllFaithful
all_faithful rows s = record {
  nodes = λ n l h. nodes_said rows n l s h;
  links = links_counted rows s;
  link = link_placed rows s;
  route = λ n x k h. route_said rows n x k s h;
  routed = λ n x k e. route_in rows n x k s e;
  rule = λ u h. rule_as_said rows u s h;
  meter = λ n u t h. meter_said rows n u t s h;
  metered = λ n u t e. meter_in rows n u t e;
}
