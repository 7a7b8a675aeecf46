-- How far the head of a file is read.
use Rattle.std.specs.Prelude.{◌≡◌, ℕ, ◌+◌, ◌-◌, ◌<◌, ◌≤◌, cond, ◌⊎◌, List, length, Some, None, Option, Result, MatchResult, ◌==◌}
use Rattle.words.specs.declared.fault.Told.{Told}
use Rattle.network.specs.Drafts.{bare_net, draft_of, with_link, with_route, LowestOdd, RouteFits, IsMerge}
use Rattle.network.specs.Net as network
use Rattle.network.specs.Nets.{net_of}
use Rattle.network.specs.declared.draft.Draft.{Draft}
use Rattle.network.specs.declared.link.Link.{Link}
use Rattle.network.specs.declared.network.Network.{Network}
use Rattle.merge.specs.Metering.{gates_of}
use Rattle.merge.specs.declared.choice.Choice.{Choice}
use Rattle.merge.specs.declared.choice.Choice.TheVariants.{Fair}
use Rattle.merge.specs.declared.gates.Gates.{Gates}
use Rattle.rows.specs.Reading.{Reads, Refused as RefusedLine}
use Rattle.rows.specs.Rows.{text_of}
use Rattle.rows.specs.declared.kind.Stage.{Stage}
use Rattle.rows.specs.declared.kind.Stage.TheVariants.{Links, Meters}
use Rattle.rows.specs.declared.row.Row.{Row}
use Rattle.rows.specs.declared.row.Row.TheVariants as row
use Rattle.reader.specs.Faults.{filed, file_told}
use Rattle.reader.specs.Files.{Upto, Refused, Network as Whole, numbers_of}
use Rattle.reader.specs.Said.{net_said, wanted, stage_of, Said, said_by}
use Rattle.words.specs.declared.position.Position.{Position}
use Rattle.rows.specs.declared.row.Counts.{Counts}
use Rattle.reader.specs.declared.fault.FileFault.{FileFault}
use Rattle.reader.specs.declared.fault.FileFault.TheVariants as fault

-- the line l at place p is refused, or there is none
abbrev pub NoRow : List ℕ → ℕ → ℕ → Stage → ℕ → ℕ → Told → Type 0
NoRow file p l stage nodes links t =
    ((p ≡ length file) × (t ≡ filed 15 l p 0)) ⊎ ((p < length file) × RefusedLine file p l stage nodes links t)

abbrev pub NextRow : List ℕ → ℕ → ℕ → Stage → ℕ → ℕ → ℕ → ℕ → Result Row FileFault → Type 0
NextRow file p l stage nodes links p' l' r =
    MatchResult r
    (λ x. Reads file p stage nodes links x × (p' ≡ p + length (text_of x)) × (l' ≡ l + 1))
    (λ f. NoRow file p l stage nodes links (file_told f))

abbrev pub said : network.Net → Choice → (ℕ → Option (ℕ × ℕ)) → Said
said net rule meters = record { net = net; rule = rule; meters = meters }

abbrev pub bare : network.Net → Said
bare net = said net Fair (λ n. None)

-- rows are read up to line l at place p, and say s; such may stand next
pub record Got (file : List ℕ) (l₀ p₀ l p : ℕ) (next : Stage) (n k : ℕ) (s : Said) : Type 0 where
  pub rows : List Row
  pub upto : Upto file l₀ p₀ rows l p
  pub stage : stage_of rows ≡ next
  pub nodes : (net_said rows).nodes ≡ n
  pub links : wanted rows ≡ k
  pub says : said_by rows ≡ s

-- reading goes on from one stage to another, or is refused
abbrev pub Phase : {X : Type 0} → List ℕ → ℕ → ℕ → Stage → ℕ → ℕ → Said → ℕ → ℕ → Stage → (X → Said) → Result X FileFault → Type 0
Phase file l p from nodes links s l' p' to s' r =
    (l₀ p₀ : ℕ) → Got file l₀ p₀ l p from nodes links s → MatchResult r (λ x. Got file l₀ p₀ l' p' to nodes links (s' x)) (λ f. Refused file l₀ p₀ (file_told f))

-- the `net` row is read
abbrev pub Opening : List ℕ → ℕ → ℕ → ℕ → ℕ → Result Counts FileFault → Type 0
Opening file l p l' p' r =
    MatchResult r
    (λ x. ((2 ≤ x.nodes) × (x.nodes ≤ 32) × (1 ≤ x.links) × (x.links ≤ 48)) × Got file l p l' p' Links x.nodes x.links (bare (bare_net x.nodes)))
    (λ f. Refused file l p (file_told f))

abbrev pub meters_of : Gates → ℕ → Option (ℕ × ℕ)
meters_of gates n = numbers_of (gates_of gates n)

-- a meter is taken, or it is refused
abbrev pub TakenMeter : Network → Gates → ℕ → ℕ → ℕ → Position → Gates → Result (Unit {0}) FileFault → Type 0
TakenMeter net g n u t start g' r =
    MatchResult r
    (λ _. (meters_of g n ≡ None) × IsMerge (net_of net) n × ((m : ℕ) → meters_of g' m ≡ cond (m == n) (Some (u, t)) (meters_of g m)))
    (λ f. ((f ≡ fault.Again start) × ((v : ℕ) × (s : ℕ) × (meters_of g n ≡ Some (v, s)))) ⊎ ((f ≡ fault.Meter start) × (meters_of g n ≡ None) × (IsMerge (net_of net) n → ⊥)))

-- the meters are read, and `go` behind them
abbrev pub Closing : List ℕ → ℕ → ℕ → ℕ → ℕ → Network → ℕ → ℕ → Result (Gates × Position) FileFault → Type 0
Closing file l p nodes links net l' p' r =
    (l₀ p₀ : ℕ) (rule : Choice) → Got file l₀ p₀ l p Meters nodes links (said (net_of net) rule (λ n. None)) →
    MatchResult r (λ x. Whole file l₀ p₀ (said (net_of net) rule (meters_of x.0)) x.1.line x.1.place l' p') (λ f. Refused file l₀ p₀ (file_told f))

-- a link is taken, or it is refused
abbrev pub TakenLink : Draft → Link → Position → Draft → Result (Unit {0}) FileFault → Type 0
TakenLink d k start d' r =
    MatchResult r
    (λ _. (k.from < k.to) × (draft_of d' ≡ with_link (draft_of d) k) × (d'.wanted ≡ d.wanted))
    (λ f. (f ≡ fault.Link start) × (k.to ≤ k.from))

-- a `link` row stands at a, and the next row at a'
abbrev pub LinkRow : List ℕ → Position → ℕ → ℕ → Link → Position → Type 0
LinkRow file a nodes links k a' = Reads file a.place Links nodes links (row.Link k) × (a'.place ≡ a.place + length (text_of (row.Link k))) × (a'.line ≡ a.line + 1)

-- the row that stands next is a link, and it is taken; or there is none, or it is refused
abbrev pub NextLink : List ℕ → Position → ℕ → ℕ → Draft → Draft → Position → Result Position FileFault → Type 0
NextLink file a nodes links d d' a' r =
    MatchResult r
    (λ start. (start ≡ a) × ((k : Link) × LinkRow file a nodes links k a' × (k.from < k.to) × (draft_of d' ≡ with_link (draft_of d) k) × (d'.wanted ≡ d.wanted)))
    (λ f. NoRow file a.place a.line Links nodes links (file_told f) ⊎ ((k : Link) × LinkRow file a nodes links k a' × (f ≡ fault.Link a) × (k.to ≤ k.from)))

-- the links make a network, or the lowest node of no kind is told
abbrev pub Closed : Draft → Position → Result Network FileFault → Type 0
Closed d start r =
    MatchResult r
    (λ n. net_of n ≡ draft_of d)
    (λ f. (m : ℕ) × (f ≡ fault.Node start m) × LowestOdd (draft_of d) m)

-- a route is taken, or it is refused
abbrev pub TakenRoute : Network → ℕ → ℕ → ℕ → Position → Network → Result (Unit {0}) FileFault → Type 0
TakenRoute a n x k start b r =
    MatchResult r
    (λ _. RouteFits (net_of a) n x k × ((net_of a).route n x ≡ None) × (net_of b ≡ with_route (net_of a) n x (k - 1)))
    (λ f. ((f ≡ fault.Route start) × (RouteFits (net_of a) n x k → ⊥)) ⊎ ((f ≡ fault.Again start) × RouteFits (net_of a) n x k × ((j : ℕ) × ((net_of a).route n x ≡ Some j))))
