use Rattle.sets.specs.Bits.{marked}
use Rattle.laminar.proofs.Keeping.{exchange_answer}
use Rattle.laminar.proofs.Limits.can_exchange.Goals as goal

pub returns : goal.returns
returns c =
    let rule = c.args.self.now in
    exchange_answer rule.file.now rule.n rule.groups rule.at c.requires.well.few (marked c.args.set.now) c.args.state.now c.requires.ready
    c.kept_groups-full.result c.kept_groups-come.result c.args.x c.kept_groups-full.type_inv c.kept_groups-come.type_inv
    c.kept_groups-full.ensures c.kept_groups-come.ensures c.kept_groups-go.result c.args.y c.kept_groups-go.type_inv c.kept_groups-go.ensures
    c.requires.outside.0 c.requires.outside.1 c.requires.inside.0 c.requires.inside.1
