-- Laws of reading.
use Rattle.std.specs.Prelude.{◌≡◌, ℕ, ◌+◌, ◌<◌, ◌≤◌, List, [], ◌∷◌, ◌++◌, length, Some, slice_index_or}
use Rattle.network.specs.Drafts.{IsMerge}
use Rattle.network.specs.Layouts.{blank_link}
use Rattle.network.specs.Net as law
use Rattle.network.specs.declared.link.Link.{Link as LinkData}
use Rattle.merge.specs.declared.choice.Choice.{Choice}
use Rattle.rows.specs.declared.row.Row.{Row}
use Rattle.rows.specs.declared.row.Row.TheVariants.{Net, Link, Route, Merge, Meter, Go, Call}
use Rattle.reader.specs.Calls.{CallAnswer, CallAnswers}
use Rattle.reader.specs.Checks.{Sound}
use Rattle.reader.specs.Files.{Answer, network, Answers}
use Rattle.reader.specs.Said.{In, Said, said_by}

-- A file has one answer: no two networks, no two faults, and not both.
abbrev pub OneAnswer : Type 0
OneAnswer = (bytes : List ℕ) (l₀ p₀ : ℕ) (a b : Answer) → Answers bytes l₀ p₀ a → Answers bytes l₀ p₀ b → a ≡ b

-- So has each line behind `go`.
abbrev pub OneCall : Type 0
OneCall = (bytes : List ℕ) (l p : ℕ) (a b : CallAnswer) → CallAnswers bytes l p a → CallAnswers bytes l p b → a ≡ b

-- the links of the rows, in their order
abbrev pub links_in : List Row → List LinkData
links_in [] = []
links_in (r ∷ rows) = elim r [ Net n l ↦ links_in rows | Link k ↦ links_in rows ++ (k ∷ []) | Route n x k ↦ links_in rows | Merge u ↦ links_in rows | Meter n u t ↦ links_in rows | Go ↦ links_in rows | Call c ↦ links_in rows ]

-- What rows say is what each of them says: counts, links in order, routes, rule and meters.
pub record Faithful (rows : List Row) : Type 0 where
  pub nodes : (n l : ℕ) → In (Net n l) rows → (said_by rows).net.nodes ≡ n
  pub links : (said_by rows).net.links ≡ length (links_in rows)
  pub link : (i : ℕ) → i < length (links_in rows) → (said_by rows).net.link i ≡ slice_index_or (links_in rows) i blank_link
  pub route : (n x k : ℕ) → In (Route n x (k + 1)) rows → (said_by rows).net.route n x ≡ Some k
  pub routed : (n x k : ℕ) → (said_by rows).net.route n x ≡ Some k → In (Route n x (k + 1)) rows
  pub rule : (u : Choice) → In (Merge u) rows → (said_by rows).rule ≡ u
  pub meter : (n u t : ℕ) → In (Meter n u t) rows → (said_by rows).meters n ≡ Some (u, t)
  pub metered : (n u t : ℕ) → (said_by rows).meters n ≡ Some (u, t) → In (Meter n u t) rows

abbrev pub AllFaithful : Type 0
AllFaithful = (rows : List Row) → Sound rows → Faithful rows

-- A corridor that keeps the rules: a sound network, and meters at merges with their numbers in range.
pub record SoundSaid (s : Said) : Type 0 where
  pub net : law.Sound s.net
  pub merge : (n u t : ℕ) → s.meters n ≡ Some (u, t) → IsMerge s.net n
  pub rate : (n u t : ℕ) → s.meters n ≡ Some (u, t) → (1 ≤ u) × (u ≤ 200)
  pub period : (n u t : ℕ) → s.meters n ≡ Some (u, t) → (1 ≤ t) × (t ≤ 63)

-- the same nodes, links, routes, rule and meters
pub record Agrees (s t : Said) : Type 0 where
  pub nodes : t.net.nodes ≡ s.net.nodes
  pub links : t.net.links ≡ s.net.links
  pub link : (i : ℕ) → i < s.net.links → t.net.link i ≡ s.net.link i
  pub route : (n x : ℕ) → t.net.route n x ≡ s.net.route n x
  pub rule : t.rule ≡ s.rule
  pub meters : (n : ℕ) → t.meters n ≡ s.meters n

-- the text reads as a corridor that says s, up to its end
pub record TextOf (s : Said) : Type 0 where
  pub bytes : List ℕ
  pub said : Said
  pub line : ℕ
  pub place : ℕ
  pub last : ℕ
  pub answer : Answers bytes 1 0 (network said line place last (length bytes))
  pub agrees : Agrees s said

-- Every corridor that keeps the rules has a text that reads as it.
abbrev pub AllWritten : Type 0
AllWritten = (s : Said) → SoundSaid s → TextOf s
