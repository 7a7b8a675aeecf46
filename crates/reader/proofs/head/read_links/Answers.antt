use Rattle.std.proofs.Common.{◌≡◌, ◌+◌, ap, ◌∙◌, arith}
use Rattle.std.proofs.lemmas.Result.{err_from_is_err_and, MatchResult-weaker}
use Rattle.network.specs.Drafts.{draft_of}
use Rattle.network.specs.Net as network
use Rattle.reader.proofs.Taking.{link_row, link_refused, link_on, link_last, link_odd}
use Rattle.reader.proofs.head.read_links.Goals as goal

pub returns-in_err-next_link-clause-goes : goal.returns-in_err-next_link-clause-goes
returns-in_err-next_link-clause-goes c =
    let told = c.in_err-next_link.ensures in
    let same = c.loop.invariant.same in
    let r = err_from_is_err_and c.from_residual.result c.from_residual.ensures.1 in
    rw (r.1, r.2) (λ l₀ p₀ g. link_refused _ _ l₀ p₀ c.loop.reader.at c.args.counts.nodes c.args.counts.links (draft_of c.loop.draft) c.next_link.new.reader.at same (c.loop.invariant.got l₀ p₀ g) c.in_err-next_link.field-0.0 told.next)

pub loop-preserved : goal.loop-preserved
loop-preserved c =
    let told = c.in_ok-next_link.ensures in
    let h = c.loop.invariant in
    let took = told.next.1 in
    let row = link_row _ _ c.loop.reader.at c.args.counts.nodes c.args.counts.links took.0 c.next_link.new.reader.at h.same took.1 in
    record {
      count = omega (arith, ap (λ (x : network.Net). x.links) took.3, h.count);
      wanted = took.4 ∙ h.wanted;
      nodes = ap (λ (x : network.Net). x.nodes) took.3 ∙ h.nodes;
      same = told.kept ∙ h.same;
      got = λ l₀ p₀ g. link_on _ l₀ p₀ c.loop.reader.at.line c.loop.reader.at.place c.args.counts.nodes c.args.counts.links (draft_of c.loop.draft) took.0 (h.got l₀ p₀ g) row.0 _ _ _ took.2 (λ z. omega (arith, h.count)) took.3 row.1 row.2;
    }

pub returns-in_err-last-clause-goes : goal.returns-in_err-last-clause-goes
returns-in_err-last-clause-goes c =
    let told = c.in_err-last.ensures in
    let same = c.loop.invariant.same in
    let r = err_from_is_err_and c.from_residual-in_err-last.result c.from_residual-in_err-last.ensures.1 in
    rw (r.1, r.2) (λ l₀ p₀ g. link_refused _ _ l₀ p₀ c.loop.reader.at c.args.counts.nodes c.args.counts.links (draft_of c.loop.draft) c.next_link-2.new.reader.at same (c.loop.invariant.got l₀ p₀ g) c.in_err-last.field-0.0 told.next)

pub returns-clause-goes : goal.returns-clause-goes
returns-clause-goes c =
    let told = c.in_ok-last.ensures in
    let h = c.loop.invariant in
    let took = told.next.1 in
    let at = c.loop.reader.at in
    let n = c.args.counts.nodes in
    let k = c.args.counts.links in
    let d = draft_of c.loop.draft in
    let last : d.links + 1 ≡ c.args.counts.links = omega (arith, h.count, c.loop.auto.counter-end c.requires.links.0) in
    let row = link_row _ _ at n k took.0 c.next_link-2.new.reader.at h.same took.1 in
    λ l₀ p₀ g. MatchResult-weaker c.close.result c.close.ensures
    (λ net is. link_last _ l₀ p₀ at.line at.place n k d took.0 (h.got l₀ p₀ g) row.0 last took.2 _ took.3 _ _ net is row.1 row.2)
    (λ f x. link_odd _ l₀ p₀ at.line at.place n k d took.0 (h.got l₀ p₀ g) row.0 last took.2 _ took.3 f _ x.0 x.1 told.next.0 x.2)
