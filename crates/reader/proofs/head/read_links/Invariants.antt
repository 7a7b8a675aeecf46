use Rattle.std.proofs.Common.{◌≡◌, ℕ, ◌+◌}
use Rattle.network.specs.Drafts.{bare_net, draft_of}
use Rattle.rows.specs.declared.kind.Stage.TheVariants.{Links}
use Rattle.reader.specs.Heads.{Got, bare}
use Rattle.reader.proofs.head.read_links.Given as goal

abbrev pub invariant-loop : goal.invariant-loop
invariant-loop l = record {
  count : (draft_of l.draft).links + 1 ≡ l.counter;
  wanted : l.draft.wanted ≡ l.counts.links;
  nodes : (draft_of l.draft).nodes ≡ l.counts.nodes;
  same : l.reader.file.now ≡ l.initial.reader.file.now;
  got : (l₀ p₀ : ℕ) → Got l.initial.reader.file.now l₀ p₀ l.initial.reader.at.line l.initial.reader.at.place Links l.counts.nodes l.counts.links (bare (bare_net l.counts.nodes)) → Got l.initial.reader.file.now l₀ p₀ l.reader.at.line l.reader.at.place Links l.counts.nodes l.counts.links (bare (draft_of l.draft));
}
