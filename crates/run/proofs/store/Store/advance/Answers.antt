use Rattle.run.proofs.store.Store.advance.Goals as goal

pub advance-requires-clause-reached : goal.advance-requires-clause-reached
advance-requires-clause-reached g c = rw c.new-tick.ensures c.requires.reached
