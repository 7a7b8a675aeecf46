-- How many leave each link, node by node.
use Rattle.std.specs.Prelude.{◌≡◌, ℕ, ◌<◌, ◌≤◌, List, [], ◌∷◌, length}
use Rattle.merge.specs.declared.question.Question.{Question}
use Rattle.merge.specs.Rules.{Meaning}
use Rattle.network.specs.Net.{Net, entering, leaving}
use Rattle.newell.specs.Now.{RunNow, asks}
use Rattle.links.specs.declared.records.Yard.{Yard}
use Rattle.links.specs.Yards.{holds, Laid, AllFull}
use Rattle.plan.specs.View.{sends_of, Readable}

-- what planning asks of a yard
pub record Plannable (net : Net) (y : Yard) : Type 0 where
  pub full : AllFull y
  pub laid : Laid y
  pub safe : (i : ℕ) → i < net.links → Readable net y i
  pub enough : (i : ℕ) → i < net.links → sends_of net y i ≤ length (holds y i)

module _ (net : Net) where
  -- the node k is a merge
  abbrev pub Merges : ℕ → ℕ → ℕ → ℕ → Type 0
  Merges k i i' j = (entering net k ≡ i ∷ i' ∷ []) × (leaving net k ≡ j ∷ [])

  -- what the rule means after it was asked at n, if that is a merge
  pub record AskedAt (r : RunNow) (n : ℕ) (m m' : Meaning) : Type 0 where
    pub limits : (k t : ℕ) → m'.limits k t ≡ m.limits k t
    pub here : (i i' j : ℕ) → Merges n i i' j → (asked : List Question) (q : Question) → m'.splits n asked q ≡ m.splits n (asks net r i i' j ∷ asked) q
    pub other : (k : ℕ) → (k ≡ n → (i i' j : ℕ) → Merges k i i' j → ⊥) → (asked : List Question) (q : Question) → m'.splits k asked q ≡ m.splits k asked q

  -- after it was asked at each merge below n
  pub record AskedBelow (r : RunNow) (n : ℕ) (m m' : Meaning) : Type 0 where
    pub limits : (k t : ℕ) → m'.limits k t ≡ m.limits k t
    pub here : (k i i' j : ℕ) → k < n → Merges k i i' j → (asked : List Question) (q : Question) → m'.splits k asked q ≡ m.splits k (asks net r i i' j ∷ asked) q
    pub other : (k : ℕ) → (k < n → (i i' j : ℕ) → Merges k i i' j → ⊥) → (asked : List Question) (q : Question) → m'.splits k asked q ≡ m.splits k asked q
