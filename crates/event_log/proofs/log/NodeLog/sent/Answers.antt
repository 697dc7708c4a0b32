-- The object stands at its place.
use Rattle.std.proofs.Common.{arith}
use Rattle.object_log.specs.Whole.{object_view}
use Rattle.event_log.proofs.LogFacts.{object-seen, stands-seen}
use Rattle.event_log.proofs.log.NodeLog.sent.Goals as goal

pub index-requires : goal.index-requires
index-requires c =
    let within = stands-seen _ c.self.inside.events c.args.self.now c.args.place c.self.view_is c.requires in
    omega (arith, within, c.self.inside.objects.ok.0)

pub returns : goal.returns
returns c =
    let o = c.index.result.now in
    (object_view o, object-seen _ c.self.inside.events c.args.self.now c.args.place o c.self.view_is c.requires c.index.ensures, c.sent.ensures)
