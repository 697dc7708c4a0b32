use Rattle.std.proofs.Common.{◌≡◌, Ok, refl}
use Rattle.toml.specs.View.{table_view}
use Rattle.text_fields.specs.Fields.{only}
use Rattle.shop_text.specs.StationTexts.{station_keys, station_named}
use Rattle.shop_text.proofs.stations.station_named.Goals as goal

pub returns-clause-read : goal.returns-clause-read
unfolding station_named
returns-clause-read c =
    let known : only c.args.item station_keys (table_view c.args.table.now) ≡ Ok tt = c.in_ok-only.ensures in
    rw (c.in_ok-desk.ensures.read, c.in_ok-timetable.ensures.read, c.in_ok-breakdowns.ensures.read, known, c.station_with.ensures, c.in_ok-name.ensures, c.as_bytes.ensures.value) refl

pub returns-clause-in_range : goal.returns-clause-in_range
returns-clause-in_range c =
    rw c.station_with.ensures
    (record {
      servers = c.in_ok-desk.ensures.servers;
      most = refl;
      line = c.in_ok-desk.ensures.line;
      timetable = c.in_ok-timetable.ensures.in_range;
      breakdowns = c.in_ok-breakdowns.ensures.in_range;
    })
