use Rattle.plan.proofs.scene.Scene.sends.Goals as goal

pub may_send-requires-clause-safe : goal.may_send-requires-clause-safe
may_send-requires-clause-safe c = c.args.self.now.plannable.safe c.args.i c.requires
