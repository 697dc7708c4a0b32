use Rattle.std.proofs.Common.{ℕ, ◌-◌, ◌<◌, ◌≤◌, length, ap, sym, ◌∙◌, subst, arith}
use Rattle.std.specs.Prelude.{IsTrue}
use Rattle.event_key.specs.Stamps.{time_part}
use Rattle.model_core.specs.declared.effect.Outcome.TheVariants.{Goes}
use Rattle.shop_model.specs.declared.class.Class.{Class}
use Rattle.shop_model.specs.declared.routes.Routes.{Routes}
use Rattle.shop_model.specs.declared.site.Site.{Site}
use Rattle.shop_model.specs.declared.station.Station.{Station}
use Rattle.shop_model.specs.Classes.{is_class_cells}
use Rattle.shop_model.specs.EffectKeeps.{class_fine}
use Rattle.shop_model.specs.HasStation.{HasStation}
use Rattle.shop_model.specs.Meaning.{shop_meaning, station_effect, class_effect}
use Rattle.shop_model.specs.ModelLaws.{station_fine, has_levels, station_stands, lawful_class, effect_station, effect_class}
use Rattle.shop_model.specs.Parts.{IsClass}
use Rattle.shop_model.specs.Routes.{class_at}
use Rattle.shop_model.specs.ShopParts.{routes_of, shop_under, station_at}
use Rattle.shop_model.specs.Stations.{level_of}
use Rattle.shop_model.specs.Views.{parts_of}
use Rattle.shop_model.proofs.shop.Shop.respond_under.Goals as goal

pub invariant_of-at-clause-lawful : goal.invariant_of-at-clause-lawful
unfolding shop_meaning
invariant_of-at-clause-lawful c =
    let early : c.args.object < length c.args.self.now.stations.items = omega (arith, c.args.self.now.numbered) in
    subst (λ (station : Station). HasStation station c.args.cells.now.contents) (sym c.station.ensures)
    (station_stands (parts_of c.args.self.now) c.args.object c.args.cells.now.contents early c.requires.lawful)

pub invariant_of-at-clause-levels : goal.invariant_of-at-clause-levels
invariant_of-at-clause-levels c class within =
    let p = parts_of c.args.self.now in
    let early : c.args.object < length c.args.self.now.stations.items = omega (arith, c.args.self.now.numbered) in
    subst (λ (station : Station). level_of station.order (class_at (routes_of p) class).priority < station.levels) (sym c.station.ensures)
    (has_levels p (station_at p.stations c.args.object) (station_fine p c.args.object c.args.self.now.in_range early) class within)

pub invariant_of-at-else-object-self-clause-in_range : goal.invariant_of-at-else-object-self-clause-in_range
unfolding shop_meaning
invariant_of-at-else-object-self-clause-in_range c =
    let p = parts_of c.args.self.now in
    let there = c.requires.object in
    subst (λ (class : Class). IsClass c.args.self.now.routes.stations class) (sym c.class.ensures)
    (subst (λ (stations : ℕ). IsClass stations (class_at (routes_of p) (c.args.object - length p.stations))) (sym c.args.self.now.numbered)
    (class_fine (routes_of p) (c.args.object - length p.stations) c.args.self.now.in_range.routes (omega (arith, c.args.self.now.numbered))))

pub invariant_of-at-else-object-self-clause-here : goal.invariant_of-at-else-object-self-clause-here
unfolding shop_meaning
invariant_of-at-else-object-self-clause-here c =
    let there = c.requires.object in
    record { after = omega arith; exists = omega (arith, c.args.self.now.numbered); tick = omega (arith, c.time_of.ensures, c.requires.time) }

pub invariant_of-at-else-object-self-clause-lawful : goal.invariant_of-at-else-object-self-clause-lawful
unfolding shop_meaning
invariant_of-at-else-object-self-clause-lawful c =
    let late : length c.args.self.now.stations.items ≤ c.args.object = omega (arith, c.args.self.now.numbered) in
    subst (λ (class : Class). IsTrue (is_class_cells class.count c.args.cells.now.contents)) (sym c.class.ensures)
    (lawful_class (parts_of c.args.self.now) c.args.object c.args.cells.now.contents late c.requires.lawful)

pub returns-then-object-self : goal.returns-then-object-self
unfolding shop_meaning
returns-then-object-self c =
    let shop = c.args.self.now in
    let p = shop_under c.args.seed (parts_of shop) in
    let cells = c.args.cells.now.contents in
    let event = c.args.event.now in
    let early : c.args.object < length shop.stations.items = omega (arith, shop.numbered) in
    let site = λ (tick : ℕ). let at : Site = record { seed = c.args.seed; object = c.args.object; tick = tick } in at in
    let routes = λ (stations : ℕ). let all : Routes = record { stations = stations; classes = shop.routes.classes } in all in
    ap Goes
    (c.react.ensures
    ∙ ap (λ (tick : ℕ). station_effect (site tick) shop.routes c.station.result.now cells event) c.time_of.ensures
    ∙ ap (λ (stations : ℕ). station_effect (site (time_part event.key.stamp)) (routes stations) c.station.result.now cells event) shop.numbered
    ∙ ap (λ (station : Station). station_effect (site (time_part event.key.stamp)) (routes_of p) station cells event) c.station.ensures
    ∙ sym (effect_station p c.args.object cells event early))

pub returns-else-object-self : goal.returns-else-object-self
unfolding shop_meaning
returns-else-object-self c =
    let shop = c.args.self.now in
    let p = shop_under c.args.seed (parts_of shop) in
    let cells = c.args.cells.now.contents in
    let event = c.args.event.now in
    let late : length shop.stations.items ≤ c.args.object = omega (arith, shop.numbered) in
    let site = λ (tick : ℕ). let at : Site = record { seed = c.args.seed; object = c.args.object; tick = tick } in at in
    let routes = λ (stations : ℕ). let all : Routes = record { stations = stations; classes = shop.routes.classes } in all in
    ap Goes
    (c.react-else-object-self.ensures
    ∙ ap (λ (tick : ℕ). class_effect (site tick) shop.routes c.class.result.now cells event) c.time_of.ensures
    ∙ ap (λ (stations : ℕ). class_effect (site (time_part event.key.stamp)) (routes stations) c.class.result.now cells event) shop.numbered
    ∙ ap (λ (class : Class). class_effect (site (time_part event.key.stamp)) (routes_of p) class cells event) c.class.ensures
    ∙ sym (effect_class p c.args.object cells event late))
