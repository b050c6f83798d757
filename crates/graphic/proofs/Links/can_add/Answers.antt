-- The labels of the two ends tell whether they are joined.
use Rattle.sets.specs.Bits.{marked}
use Rattle.graphic.proofs.Kept.{add_answer}
use Rattle.graphic.proofs.Links.can_add.Goals as goal

pub returns : goal.returns
returns c =
    add_answer c.args.self.now.file.now c.args.self.now.n c.args.self.now.towns c.args.self.now.at (marked c.args.set.now) c.args.state.now
    c.args.self.now.well c.requires.ready c.args.x c.ends-from.result.0 c.ends-from.result.1 c.requires.new.0 c.requires.new.1
    c.ends-from.ensures.first c.ends-from.ensures.second
