use Rattle.std.proofs.Common.{◌≡◌, ◌∙◌, ◌+◌, ◌^◌, ◌++◌, ℕ, List, length, get_or, ap, arith}
use Rattle.std.proofs.lemmas.List.{get_or-map, get_or_read}
use Rattle.shop_model.specs.Meaning.{shop_meaning, name_at}
use Rattle.shop_model.specs.Views.{parts_of}
use Rattle.shop_totals.specs.declared.visit_sums.VisitSums.{VisitSums}
use Rattle.shop_totals.specs.Summed.{visit_of}
use Rattle.shop_totals.specs.Visits.{classes_at}
use Rattle.shop_totals.proofs.LineLemmas.{visit_line-put}
use Rattle.shop_totals.proofs.ObjectLemmas.{station-object, class-object, visitor-few}
use Rattle.shop_totals.proofs.station_totals.StationTotals.put_visit.Goals as goal

pub overflow_cast-class : goal.overflow_cast-class
overflow_cast-class g c =
    let few = visitor-few _ _ _ _ _ _ _ _ _ c.args.listing.now.shop.now.in_range c.requires.sums.2 c.requires.place c.index.ensures in
    omega (arith, few.1)

pub overflow_add-first : goal.overflow_add-first
overflow_add-first g c =
    let few = visitor-few _ _ _ _ _ _ _ _ _ c.args.listing.now.shop.now.in_range c.requires.sums.2 c.requires.place c.index.ensures in
    omega (arith, few.1, ap length c.stations.ensures)

pub put_named-requires : goal.put_named-requires
put_named-requires g c = station-object (parts_of c.args.listing.now.shop.now) c.args.visit.station c.requires.station

pub put_name-requires : goal.put_name-requires
put_name-requires g c =
    let p = parts_of c.args.listing.now.shop.now in
    let few = visitor-few _ _ _ _ _ _ _ _ _ c.args.listing.now.shop.now.in_range c.requires.sums.2 c.requires.place c.index.ensures in
    omega (arith, class-object p c.index.result.now few.0, ap length c.stations.ensures)

pub returns : goal.returns
unfolding shop_meaning
returns g c first parts told is =
    let p = parts_of c.args.listing.now.shop.now in
    let place = c.args.visit.place in
    let classes = classes_at p c.args.visit.station in
    let class = get_or classes place 0 in
    let read : c.index.result.now ≡ class =
    get_or_read c.args.self.now.classes.items place c.index.result.now (omega (arith, ap length is.visitors, c.requires.place)) c.index.ensures 0
    ∙ ap (λ (classes : List ℕ). get_or classes place 0) is.visitors in
    let object : length c.stations.result.now + c.index.result.now ≡ length p.stations + class = omega (arith, ap length c.stations.ensures, read) in
    let sums : c.index-2.result.now ≡ visit_of first told class =
    c.index-2.ensures ∙ ap (λ (visits : List VisitSums). get_or visits place c.index-2.result.now) is.visits
    ∙ get_or-map (visit_of first told) classes place 0 c.index-2.result.now c.requires.place in
    visit_line-put (g.F.LineForm.form c.args.listing.now.form.now) p first told c.args.visit.station class
    c.args.into.now.items c.put_named.new.into.items c.push.new.self.items c.put_name.new.into.items c.put_line.new.into.items c.index-2.result.now
    c.in_ok-put_named.ensures c.in_ok-push.ensures.items
    (c.in_ok-put_name.ensures.ok ∙ ap (λ object. c.push.new.self.items ++ name_at p object) object)
    c.in_ok-put_line.ensures sums
