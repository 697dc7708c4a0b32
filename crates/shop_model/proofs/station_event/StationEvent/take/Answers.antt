use Rattle.shop_model.specs.Stations.{counts_of}
use Rattle.shop_model.specs.CountLaws.{spare_frees}
use Rattle.shop_model.proofs.station_event.StationEvent.take.Goals as goal

pub begin-counts-requires-clause-free : goal.begin-counts-requires-clause-free
begin-counts-requires-clause-free c =
    let at = c.args.self.now in
    rw c.of-counts.ensures (spare_frees at.station.now.most (counts_of at.cells.now.contents) at.lawful.counts at.lawful.opened c.requires.spare)
