use Rattle.std.proofs.Common.{rules}
use Rattle.network.proofs.Rights.{right_of}
use Rattle.network.proofs.Walking.{no_kind, past}
use Rattle.network.proofs.network.Network.node.Goals as goal

pub returns-else-contains : goal.returns-else-contains
returns-else-contains c = no_kind c.args.self.now.layout (right_of c.args.self.now) c.args.n (past c.args.n c.args.self.now.layout.nodes (search rules))
