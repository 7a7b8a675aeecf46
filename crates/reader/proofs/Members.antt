-- What the tables of routes and meters say is what their rows say. Assumes nothing.
use Rattle.std.proofs.Common.{◌≡◌, ℕ, ◌+◌, ◌-◌, ◌≤◌, Bool, true, false, cond, ◌&&◌, eqb, List, [], ◌∷◌, Some, None, Option, sym, refl, ap, ◌∙◌, subst, inl, inr, ⊎_elim, arith}
use Rattle.std.proofs.lemmas.Bool.{both_ways, cases_Bool, and_parts, and_from, eq-eqb, eqb-true, cond-true, cond-false}
use Rattle.rows.specs.Kinds.{in_order}
use Rattle.rows.specs.declared.kind.Kind.TheVariants as kind
use Rattle.rows.specs.declared.kind.Stage.{Stage}
use Rattle.rows.specs.declared.kind.Stage.TheVariants.{Start, Links, Routes, Meters, Calls}
use Rattle.rows.specs.declared.row.Row.{Row}
use Rattle.rows.specs.declared.row.Row.TheVariants.{Net, Link, Route, Merge, Meter, Go, Call}
use Rattle.reader.specs.Checks.{Sound, Follows}
use Rattle.reader.specs.Said.{In, net_said, meters_said, stage_of}

-- the stage of a `net` row is the first
pub start_only : (s : Stage) → in_order s kind.Net ≡ true → s ≡ Start
start_only Start e = refl
start_only Links e = absurd (both_ways _ refl e)
start_only Routes e = absurd (both_ways _ refl e)
start_only Meters e = absurd (both_ways _ refl e)
start_only Calls e = absurd (both_ways _ refl e)

not_start : (b : Bool) → cond b Routes Links ≡ Start → ⊥
not_start true e = let z : ◌≡◌ {A = ℕ} 0 1 = cc in omega arith
not_start false e = let z : ◌≡◌ {A = ℕ} 0 1 = cc in omega arith

pub first_row : (rows : List Row) → stage_of rows ≡ Start → rows ≡ []
first_row [] e = refl
first_row (Net n l ∷ rows) e = let z : ◌≡◌ {A = ℕ} 0 1 = cc in absurd (omega arith)
first_row (Link k ∷ rows) e = absurd (not_start _ e)
first_row (Route n x k ∷ rows) e = let z : ◌≡◌ {A = ℕ} 0 1 = cc in absurd (omega arith)
first_row (Merge u ∷ rows) e = let z : ◌≡◌ {A = ℕ} 0 1 = cc in absurd (omega arith)
first_row (Meter n u t ∷ rows) e = let z : ◌≡◌ {A = ℕ} 0 1 = cc in absurd (omega arith)
first_row (Go ∷ rows) e = let z : ◌≡◌ {A = ℕ} 0 1 = cc in absurd (omega arith)
first_row (Call c ∷ rows) e = let z : ◌≡◌ {A = ℕ} 0 1 = cc in absurd (omega arith)

-- no row stands ahead of `net`
pub net_first : (r : Row) (n l : ℕ) (rows : List Row) → Follows rows (Net n l) → In r rows → ⊥
net_first r n l rows f h = subst (In r) (first_row rows (start_only (stage_of rows) f.order)) h

some_one : {X : Type 0} (a b : X) → ◌≡◌ {A = Option X} (Some a) (Some b) → a ≡ b
some_one a b e = cc

no_some : {X : Type 0} (a : X) → ◌≡◌ {A = Option X} (Some a) None → ⊥
no_some a e = let z : ◌≡◌ {A = ℕ} 0 1 = cc in omega arith

-- a row of the table, found in the rows
step_meter : (b : Bool) (m n u t v s : ℕ) (o : Option (ℕ × ℕ)) (rows : List Row) → (b ≡ true → m ≡ n) → (o ≡ Some (v, s) → In (Meter m v s) rows) → cond b (Some (u, t)) o ≡ Some (v, s) → In (Meter m v s) (Meter n u t ∷ rows)
step_meter true m n u t v s o rows is rec e =
    let p = some_one (u, t) (v, s) e in
    inl (λ i. Meter (is refl i) (sym (ap (λ (x : ℕ × ℕ). x.0) p) i) (sym (ap (λ (x : ℕ × ℕ). x.1) p) i))
step_meter false m n u t v s o rows is rec e = inr (rec e)

pub meter_in : (rows : List Row) (m v s : ℕ) → meters_said rows m ≡ Some (v, s) → In (Meter m v s) rows
meter_in [] m v s e = absurd (no_some (v, s) (sym e))
meter_in (Net n l ∷ rows) m v s e = inr (meter_in rows m v s e)
meter_in (Link k ∷ rows) m v s e = inr (meter_in rows m v s e)
meter_in (Route n x k ∷ rows) m v s e = inr (meter_in rows m v s e)
meter_in (Merge u ∷ rows) m v s e = inr (meter_in rows m v s e)
meter_in (Meter n u t ∷ rows) m v s e = step_meter (eqb m n) m n u t v s (meters_said rows m) rows (eqb-true m n) (meter_in rows m v s) e
meter_in (Go ∷ rows) m v s e = inr (meter_in rows m v s e)
meter_in (Call c ∷ rows) m v s e = inr (meter_in rows m v s e)

abbrev pub node_of : Row → ℕ
node_of r = elim r [ Net n l ↦ 0 | Link k ↦ 0 | Route n x k ↦ n | Merge u ↦ 0 | Meter n u t ↦ n | Go ↦ 0 | Call c ↦ 0 ]

abbrev pub exit_of : Row → ℕ
exit_of r = elim r [ Net n l ↦ 0 | Link k ↦ 0 | Route n x k ↦ x | Merge u ↦ 0 | Meter n u t ↦ u | Go ↦ 0 | Call c ↦ 0 ]

abbrev pub last_of : Row → ℕ
last_of r = elim r [ Net n l ↦ 0 | Link k ↦ 0 | Route n x k ↦ k | Merge u ↦ 0 | Meter n u t ↦ t | Go ↦ 0 | Call c ↦ 0 ]

-- the tags of rows, to tell them apart
abbrev pub tag_of : Row → ℕ
tag_of r = elim r [ Net n l ↦ 0 | Link k ↦ 1 | Route n x k ↦ 2 | Merge u ↦ 3 | Meter n u t ↦ 4 | Go ↦ 5 | Call c ↦ 6 ]

pub meter_some : (rows : List Row) (m v s : ℕ) → In (Meter m v s) rows → meters_said rows m ≡ None → ⊥
meter_some [] m v s h e = h
meter_some (Net n l ∷ rows) m v s h e = ⊎_elim (λ is. omega (arith, ap tag_of is)) (λ is. meter_some rows m v s is e) h
meter_some (Link k ∷ rows) m v s h e = ⊎_elim (λ is. omega (arith, ap tag_of is)) (λ is. meter_some rows m v s is e) h
meter_some (Route n x k ∷ rows) m v s h e = ⊎_elim (λ is. omega (arith, ap tag_of is)) (λ is. meter_some rows m v s is e) h
meter_some (Merge u ∷ rows) m v s h e = ⊎_elim (λ is. omega (arith, ap tag_of is)) (λ is. meter_some rows m v s is e) h
meter_some (Meter n u t ∷ rows) m v s h e =
    ⊎_elim
    (λ yes'. no_some (u, t) (sym (cond-true (eqb m n) (Some (u, t)) (meters_said rows m) yes') ∙ e))
    (λ no'.
    let rest = sym (cond-false (eqb m n) (Some (u, t)) (meters_said rows m) no') ∙ e in
    ⊎_elim (λ is. both_ways (eqb m n) no' (eq-eqb m n (ap node_of is))) (λ is. meter_some rows m v s is rest) h)
    (cases_Bool (eqb m n))
meter_some (Go ∷ rows) m v s h e = ⊎_elim (λ is. omega (arith, ap tag_of is)) (λ is. meter_some rows m v s is e) h
meter_some (Call c ∷ rows) m v s h e = ⊎_elim (λ is. omega (arith, ap tag_of is)) (λ is. meter_some rows m v s is e) h

step_route : (b : Bool) (m y n x k j : ℕ) (o : Option ℕ) (rows : List Row) → 1 ≤ k → (b ≡ true → (m ≡ n) × (y ≡ x)) → (o ≡ Some j → In (Route m y (j + 1)) rows) → cond b (Some (k - 1)) o ≡ Some j → In (Route m y (j + 1)) (Route n x k ∷ rows)
step_route true m y n x k j o rows low is rec e =
    let p = some_one (k - 1) j e in
    let q : j + 1 ≡ k = omega arith in
    inl (λ i. Route ((is refl).0 i) ((is refl).1 i) (q i))
step_route false m y n x k j o rows low is rec e = inr (rec e)

pub route_in : (rows : List Row) (m y j : ℕ) → Sound rows → (net_said rows).route m y ≡ Some j → In (Route m y (j + 1)) rows
route_in [] m y j s e = absurd (no_some j (sym e))
route_in (Net n l ∷ rows) m y j s e = absurd (no_some j (sym e))
route_in (Link k ∷ rows) m y j s e = inr (route_in rows m y j s.0 e)
route_in (Route n x k ∷ rows) m y j s e = step_route (eqb m n && eqb y x) m y n x k j ((net_said rows).route m y) rows s.1.ranged.1.1.0.0 (λ b. let h = and_parts (eqb m n) (eqb y x) b in (eqb-true m n h.0, eqb-true y x h.1)) (route_in rows m y j s.0) e
route_in (Merge u ∷ rows) m y j s e = inr (route_in rows m y j s.0 e)
route_in (Meter n u t ∷ rows) m y j s e = inr (route_in rows m y j s.0 e)
route_in (Go ∷ rows) m y j s e = inr (route_in rows m y j s.0 e)
route_in (Call c ∷ rows) m y j s e = inr (route_in rows m y j s.0 e)

pub route_some : (rows : List Row) (m y j : ℕ) → Sound rows → In (Route m y j) rows → (net_said rows).route m y ≡ None → ⊥
route_some [] m y j s h e = h
route_some (Net n l ∷ rows) m y j s h e = ⊎_elim (λ is. omega (arith, ap tag_of is)) (λ is. net_first (Route m y j) n l rows s.1 is) h
route_some (Link k ∷ rows) m y j s h e = ⊎_elim (λ is. omega (arith, ap tag_of is)) (λ is. route_some rows m y j s.0 is e) h
route_some (Route n x k ∷ rows) m y j s h e =
    ⊎_elim
    (λ yes'. no_some (k - 1) (sym (cond-true (eqb m n && eqb y x) (Some (k - 1)) ((net_said rows).route m y) yes') ∙ e))
    (λ no'.
    let rest = sym (cond-false (eqb m n && eqb y x) (Some (k - 1)) ((net_said rows).route m y) no') ∙ e in
    ⊎_elim (λ is. both_ways (eqb m n && eqb y x) no' (and_from (eqb m n) (eqb y x) (eq-eqb m n (ap node_of is)) (eq-eqb y x (ap exit_of is)))) (λ is. route_some rows m y j s.0 is rest) h)
    (cases_Bool (eqb m n && eqb y x))
route_some (Merge u ∷ rows) m y j s h e = ⊎_elim (λ is. omega (arith, ap tag_of is)) (λ is. route_some rows m y j s.0 is e) h
route_some (Meter n u t ∷ rows) m y j s h e = ⊎_elim (λ is. omega (arith, ap tag_of is)) (λ is. route_some rows m y j s.0 is e) h
route_some (Go ∷ rows) m y j s h e = ⊎_elim (λ is. omega (arith, ap tag_of is)) (λ is. route_some rows m y j s.0 is e) h
route_some (Call c ∷ rows) m y j s h e = ⊎_elim (λ is. omega (arith, ap tag_of is)) (λ is. route_some rows m y j s.0 is e) h
