use Rattle.std.proofs.Common.{ℕ, List, sym, subst, ◌∙◌, arith, None}
use Rattle.network.specs.Drafts.{bare_net}
use Rattle.network.specs.Nets.{net_of}
use Rattle.rows.specs.declared.kind.Stage.TheVariants.{Links, Routes, Meters}
use Rattle.reader.specs.Files as files
use Rattle.reader.specs.Heads.{Got, bare, said, meters_of}
use Rattle.reader.proofs.load.read_network.Goals as goal

-- stage by stage, each in the file as it stood at the beginning
pub returns-clause-reads : goal.returns-clause-reads
returns-clause-reads c =
    let a = c.args.reader.now.at in
    let n = c.in_ok-counts.counts in
    let net = net_of c.in_ok-network.network in
    let e₁ = c.in_ok-counts.ensures.kept in
    let e₂ = c.in_ok-bare.ensures.kept in
    let e₃ = c.in_ok-network.ensures.kept in
    let g₁ = subst (λ (f : List ℕ). Got f a.line a.place c.read_net.new.reader.at.line c.read_net.new.reader.at.place Links n.nodes n.links (bare (bare_net n.nodes))) (sym e₁) c.in_ok-counts.ensures.opens.1 in
    let g₂ = subst (λ (f : List ℕ). Got f a.line a.place c.read_links.new.reader.at.line c.read_links.new.reader.at.place Routes n.nodes n.links (bare (net_of c.in_ok-bare.bare))) (sym e₂) (c.in_ok-bare.ensures.goes a.line a.place g₁) in
    let g₃ = subst (λ (f : List ℕ). Got f a.line a.place c.read_routes.new.reader.at.line c.read_routes.new.reader.at.place Meters n.nodes n.links (said net c.in_ok-network.rule (λ m. None))) (sym e₃) (c.in_ok-network.ensures.goes a.line a.place g₂) in
    let out = c.in_ok-gates.ensures.goes a.line a.place c.in_ok-network.rule g₃ in (
      omega (arith, c.len.ensures),
      subst (λ (f : List ℕ). files.Network f a.line a.place (said net c.in_ok-network.rule (meters_of c.in_ok-gates.gates)) c.in_ok-gates.go.line c.in_ok-gates.go.place c.read_meters.new.reader.at.line c.read_meters.new.reader.at.place) (e₃ ∙ e₂ ∙ e₁) out,
    )
