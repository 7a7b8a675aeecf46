use Rattle.std.proofs.Common.{sym, ap, ◌∙◌, subst, arith, rules}
use Rattle.std.proofs.lemmas.Grind.{common_steps}
use Rattle.network.specs.declared.layout.Layout.{Layout}
use Rattle.network.specs.Layouts.{drawn}
use Rattle.network.specs.Begun.{Begun}
use Rattle.network.specs.Drafts.{bare_net}
use Rattle.network.proofs.Growing.{begun_empty, empty_draws}
use Rattle.network.proofs.draft.Draft.new.Goals as goal

pub invariant_of-result : goal.invariant_of-result
invariant_of-result c =
    record { begun = ∣ subst (λ (l : Layout). Begun l c.from-wanted.result) (sym c.empty_layout-layout.ensures) (begun_empty c.from-nodes.result c.from-wanted.result (search rules) (grind arith) (search rules) (grind (arith, common_steps))) ∣₁ }

pub returns : goal.returns
returns c = (ap drawn c.empty_layout-layout.ensures ∙ empty_draws c.from-nodes.result ∙ ap bare_net c.from-nodes.ensures, c.from-wanted.ensures)
