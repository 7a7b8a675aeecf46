use Rattle.links.specs.Tables.{lane_no}
use Rattle.links.proofs.Changing.{lane_few, count_of}
use Rattle.links.proofs.records.Yard.count.Goals as goal

pub returns : goal.returns
returns c = count_of c.args.self.now (lane_no c.args.side c.args.i) c.lane.result (lane_few c.args.side c.args.i c.requires.here) c.lane.ensures
