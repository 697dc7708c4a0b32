use Rattle.std.proofs.Common.{append_assoc}
use Rattle.shop_model.specs.StationEffects.{begin_effect}
use Rattle.shop_model.specs.Stations.{counts_of}
use Rattle.shop_model.specs.CountLaws.{spare_frees}
use Rattle.shop_model.proofs.station_event.StationEvent.begin_entry.Goals as goal

pub begin-counts-requires-clause-free : goal.begin-counts-requires-clause-free
begin-counts-requires-clause-free c =
    let at = c.args.self.now in
    rw c.of-counts.ensures (spare_frees at.station.now.most (counts_of at.cells.now.contents) at.lawful.counts at.lawful.opened c.requires.spare)

pub returns : goal.returns
unfolding begin_effect
returns c =
    rw (
      c.told-sheet.ensures,
      c.saturating_sub.ensures,
      c.line_at-since.ensures,
      c.at-lines.ensures.since,
      c.call.ensures,
      c.begin-counts.ensures.sheet,
      c.begin-counts.ensures.counts,
      c.go_out.ensures.sheet,
      c.push.ensures,
      c.service-service.ensures.sheet,
      c.service-service.ensures.value,
      c.line_at-birth.ensures,
      c.at-lines.ensures.births,
      c.saturating_sub-waiting.ensures,
      c.of-counts.ensures,
    )
    (simp append_assoc)
