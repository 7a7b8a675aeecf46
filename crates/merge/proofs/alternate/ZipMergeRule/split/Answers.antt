use Rattle.merge.specs.declared.alternate.Leg.TheVariants.{First}
use Rattle.merge.specs.Rules.{no_limit}
use Rattle.merge.specs.Turns.{zip_split, zip_all, turns_of}
use Rattle.merge.proofs.Places.{leaves}
use Rattle.merge.proofs.alternate.ZipMergeRule.split.Goals as goal

pub returns-clause-leaves : goal.returns-clause-leaves
returns-clause-leaves c =
    leaves no_limit zip_split (λ turn q. (zip_all turn q).turn) (turns_of c.args.self.now.turns.at) (turns_of c.set.new.self.at) c.args.node c.args.q
    (λ n. let h = c.set.ensures.holds First n in cc)
