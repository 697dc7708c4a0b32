use Rattle.std.proofs.Common.{◌≡◌, ◌-◌, ◌<◌, ℕ, List, Ok, refl, arith, sym, subst}
use Rattle.std.proofs.lemmas.Result.{IfOk-weaker}
use Rattle.toml.specs.Data.{Data, Members}
use Rattle.toml.specs.View.{table_view, view}
use Rattle.shop_model.specs.declared.station.Station.{Station}
use Rattle.text_fields.specs.Checks.{◌>>=◌}
use Rattle.text_fields.specs.Directories.{finder}
use Rattle.text_fields.specs.Fields.{table_of}
use Rattle.text_fields.specs.Names.{Finder, required_name, taken_in}
use Rattle.shop_text.specs.Ranges.{IsStationText, LinksBelow}
use Rattle.shop_text.specs.StationTexts.{station, station_named, station_place}
use Rattle.shop_text.proofs.GivesLemmas.{gives_more}
use Rattle.shop_text.proofs.LinkLemmas.{below_more, below_taken}
use Rattle.shop_text.proofs.stations.station.Goals as goal

name-read : (at : ℕ) (find : Finder) (d : Data) (ms : Members) (name : List ℕ)
    → table_of at d ≡ Ok ms → required_name find at ms ≡ Ok name
    → station at find d ≡ (station_named at name ms >>= (λ station. Ok (station, taken_in find name (station_place at))))
unfolding station
name-read at find d ms name one two = rw (one, two) refl

pub returns-clause-read : goal.returns-clause-read
returns-clause-read c =
    let find = finder c.args.directory.now in
    let name = c.in_ok-name.name.now in
    let ms = table_view c.in_ok-table.table.now in
    rw (name-read c.args.item find (view c.args.value.now) ms name c.in_ok-table.ensures c.in_ok-name.ensures.read, c.in_ok-name.ensures.taken_in)
    (gives_more (λ (station : Station). station) (λ (station : Station). (station, taken_in find name (station_place c.args.item)))
    c.station_named.result (station_named c.args.item name ms) c.station_named.ensures.read)

pub returns-clause-links : goal.returns-clause-links
returns-clause-links c = λ below.
    let find = finder c.args.directory.now in
    let before : LinksBelow c.args.item find = below_more (c.args.item - 1) c.args.item find (omega arith) below in
    let below_it : c.args.item - 1 < c.args.item = omega (arith, c.requires) in
    let after = subst (λ (more : Finder). LinksBelow c.args.item more) (sym c.in_ok-name.ensures.taken_in)
    (below_taken c.args.item find _ (station_place c.args.item) before (λ takes. below_it)) in
    IfOk-weaker c.station_named.result IsStationText _ (λ station is. after) c.station_named.ensures.in_range
