use Rattle.plan.proofs.scene.Scene.takes.Goals as goal

pub may_take-requires-clause-safe : goal.may_take-requires-clause-safe
may_take-requires-clause-safe c = c.args.self.now.plannable.safe c.args.j c.requires
