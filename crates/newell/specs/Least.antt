-- Newell's counts: how many have passed a point by the next clock is the least of what has arrived there, what the wave lets through, and what
-- capacity adds to those that have passed.
use Rattle.std.specs.Prelude.{◌≡◌, ℕ, ◌+◌, ◌-◌, ◌<◌, ◌≤◌, min, [], ◌∷◌, length}
use Rattle.network.specs.Net.{Net, Entrance, Exit, entering, leaving}
use Rattle.newell.specs.Plain.{Curves, U, V}
use Rattle.newell.specs.History.{History, clock, booked}
use Rattle.newell.specs.Promise.{Always}

module _ (net : Net) (c : Curves) (h : History) where
  -- At each clock those that have left the links that enter a node are those that have come on the links that leave it.
  pub record Balanced (t : ℕ) : Type 0 where
    pub mainline : (n i j : ℕ) → entering net n ≡ i ∷ [] → leaving net n ≡ j ∷ [] → U net c j t ≡ V net c i t
    pub merge : (n i i' j : ℕ) → entering net n ≡ i ∷ i' ∷ [] → leaving net n ≡ j ∷ [] → U net c j t ≡ V net c i t + V net c i' t
    pub diverge : (n i j j' : ℕ) → entering net n ≡ i ∷ [] → leaving net n ≡ j ∷ j' ∷ [] → U net c j t + U net c j' t ≡ V net c i t

  pub record Least (t : ℕ) : Type 0 where
    pub entrance : (e j : ℕ) → Entrance net e j
        → U net c j (t + 1) ≡ min (length (booked h t e)) (min (V net c j (t + 1 - (net.link j).wave) + (net.link j).storage) (U net c j t + (net.link j).capacity))
    pub mainline : (n i j : ℕ) → entering net n ≡ i ∷ [] → leaving net n ≡ j ∷ []
        → V net c i (t + 1) ≡ min (U net c i (t + 1 - (net.link i).free))
        (min (V net c j (t + 1 - (net.link j).wave) + (net.link j).storage) (V net c i t + min (net.link i).capacity (net.link j).capacity))
    pub exit : (x i : ℕ) → Exit net x i → V net c i (t + 1) ≡ min (U net c i (t + 1 - (net.link i).free)) (V net c i t + (net.link i).capacity)

abbrev pub NodesBalanced : Type 0
NodesBalanced = Always (λ net c h. (t : ℕ) → t ≤ clock h → Balanced net c h t)

abbrev pub LeastOfThree : Type 0
LeastOfThree = Always (λ net c h. (t : ℕ) → t < clock h → Least net c h t)
