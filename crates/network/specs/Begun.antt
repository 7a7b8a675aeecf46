-- A layout whose links are still coming.
use Rattle.std.specs.Prelude.{◌≡◌, ℕ, ◌<◌, ◌≤◌, length, Some, ◌≢◌, [], slice_index_or}
use Rattle.network.specs.declared.layout.Layout.{Layout}
use Rattle.network.specs.Net.{SoundLink}
use Rattle.network.specs.Layouts.{link_of, route_at}

pub record Begun (l : Layout) (wanted : ℕ) : Type 0 where
  pub whole : length l.links ≡ 48
  pub wide : length l.kinds ≡ 33
  pub ways : length l.routes ≡ 33
  pub way : (n : ℕ) → n < 33 → length (slice_index_or l.routes n []) ≡ 33
  pub nodes_least : 2 ≤ l.nodes
  pub nodes : l.nodes ≤ 32
  pub wanted_least : 1 ≤ wanted
  pub wanted_most : wanted ≤ 48
  pub fits : l.count ≤ wanted
  pub link : (i : ℕ) → i < l.count → SoundLink l.nodes (link_of l i)
  pub no_route : (k x j : ℕ) → route_at l k x ≢ Some j
