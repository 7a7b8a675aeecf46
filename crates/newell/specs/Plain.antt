-- The plain run: Newell's curves, kept for all clocks, and the law of a step.
-- At and before clock 0 no vehicle has come on a link: subtraction stops at 0, so that U(t - k) is U(0) there.
use Rattle.newell.specs.declared.records.Vehicle.{Vehicle}
use Rattle.merge.specs.declared.question.Question.{Question}
use Rattle.std.specs.Prelude.{◌≡◌, ℕ, ◌+◌, ◌-◌, ◌<◌, ◌≤◌, min, List, [], ◌∷◌, ◌++◌, map, length, take, drop, filter}
use Rattle.std.specs.List.{flat_map}
use Rattle.network.specs.Net.{Net, entering, leaving, next, is}
use Rattle.merge.specs.Rules.{Meaning}

-- For each link and clock: the vehicles that have come on it by that clock, in order, and how many have left it.
pub record Curves : Type 0 where
  pub came : ℕ → ℕ → List Vehicle
  pub left : ℕ → ℕ → ℕ

-- their exits, in order
abbrev pub exits : List Vehicle → List ℕ
exits vs = map (λ v. v.exit) vs

-- of vehicles that leave the link i, those that take the link j
abbrev pub towards : Net → ℕ → ℕ → List Vehicle → List Vehicle
towards net i j vs = filter (λ v. is (next net i v.exit) j) vs

-- the greatest number of which P holds
pub record Greatest (P : ℕ → Type 0) (k : ℕ) : Type 0 where
  pub holds : P k
  pub most : (m : ℕ) → P m → m ≤ k

module _ (net : Net) (c : Curves) where
  -- how many have come on a link by a clock, and how many have left it
  abbrev pub U : ℕ → ℕ → ℕ
  U i t = length (c.came i t)

  abbrev pub V : ℕ → ℕ → ℕ
  V i t = c.left i t

  -- the vehicles on a link, the first to leave first
  abbrev pub on : ℕ → ℕ → List Vehicle
  on i t = drop (V i t) (c.came i t)

  -- What a link may send in the step from t: those past their free steps, at most its capacity. What it may take: the places that the wave has
  -- brought back, at most its capacity.
  abbrev pub S : ℕ → ℕ → ℕ
  S i t = min (U i (t + 1 - (net.link i).free) - V i t) (net.link i).capacity

  abbrev pub R : ℕ → ℕ → ℕ
  R j t = min (V j (t + 1 - (net.link j).wave) + (net.link j).storage - U j t) (net.link j).capacity

  -- those that leave a link in the step from t: the first on it
  abbrev pub leavers : ℕ → ℕ → List Vehicle
  leavers i t = take (V i (t + 1) - V i t) (on i t)

  -- those that come on a link in the step from t
  abbrev pub newcomers : ℕ → ℕ → List Vehicle
  newcomers j t = drop (U j t) (c.came j (t + 1))

  -- those waiting for the link j at clock t, by their exits, if `booked` are all that were booked at its entrance
  abbrev pub waiting : List ℕ → ℕ → ℕ → List ℕ
  waiting booked j t = drop (U j t) booked

  -- The exits of those that come on the link j in the step from t: of those that wait at an entrance the first, as many as the link may take;
  -- at any other node those that leave a link there for j, the first leg's ahead of the second's.
  abbrev pub arrivals : List ℕ → ℕ → ℕ → List ℕ
  arrivals booked j t =
      take (R j t) (waiting booked j t)
      ++ flat_map (λ i. exits (towards net i j (leavers i t))) (entering net (net.link j).from)

  -- what a diverge with the leaving links j and j' may pass: of the first k vehicles, each leaving link gets no more than it may take
  pub record Passable (i j j' t k : ℕ) : Type 0 where
    pub sent : k ≤ S i t
    pub one : length (towards net i j (take k (on i t))) ≤ R j t
    pub other : length (towards net i j' (take k (on i t))) ≤ R j' t

  -- what a merge with the legs i and i' asks its rule
  abbrev pub question : ℕ → ℕ → ℕ → ℕ → Question
  question i i' j t = record { clock = t; s1 = S i t; s2 = S i' t; r = R j t; q1 = (net.link i).capacity; q2 = (net.link i').capacity }

  -- The law of the step from t, if `booked` tells for each node who was booked there so far and the rule handed in means m. Those that arrive come on
  -- behind the others, with the clock t + 1. An exit passes S. A mainline node passes the least of S and R. A merge passes its rule's split. A diverge
  -- passes the most that it may: counting stops at the first vehicle that finds its link full.
  pub record Law (booked : ℕ → List ℕ) (m : Meaning) (t : ℕ) : Type 0 where
    pub arrive : (j : ℕ) → j < net.links
        → c.came j (t + 1) ≡ c.came j t ++ map (λ x. record { exit = x; since = t + 1 }) (arrivals (booked (net.link j).from) j t)
    pub exit : (n i : ℕ) → entering net n ≡ i ∷ [] → leaving net n ≡ [] → V i (t + 1) ≡ V i t + S i t
    pub mainline : (n i j : ℕ) → entering net n ≡ i ∷ [] → leaving net n ≡ j ∷ [] → V i (t + 1) ≡ V i t + min (S i t) (R j t)
    pub merge : (n i i' j : ℕ) → entering net n ≡ i ∷ i' ∷ [] → leaving net n ≡ j ∷ []
        → (V i (t + 1) ≡ V i t + (m.splits n [] (question i i' j t)).0) × (V i' (t + 1) ≡ V i' t + (m.splits n [] (question i i' j t)).1)
    pub diverge : (n i j j' : ℕ) → entering net n ≡ i ∷ [] → leaving net n ≡ j ∷ j' ∷ []
        → (k : ℕ) × (V i (t + 1) ≡ V i t + k) × Greatest (Passable i j j' t) k
