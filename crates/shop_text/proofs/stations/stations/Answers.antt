use Rattle.std.proofs.Common.{◌≡◌, ◌+◌, ◌-◌, ◌++◌, ◌∷◌, [], arith, Ok, refl, sym, subst}
use Rattle.std.proofs.lemmas.List.{length_push}
use Rattle.std.proofs.lemmas.Result.{err_from_is_err_and}
use Rattle.std.proofs.lemmas.List.Elements.{All-nil, All-push}
use Rattle.toml.specs.View.{view, items_view}
use Rattle.text_fields.specs.Checks.{Fails}
use Rattle.text_fields.specs.Directories.{finder}
use Rattle.text_fields.specs.Fields.{each_with}
use Rattle.text_fields.specs.Names.{Finder, nothing}
use Rattle.text_fields.proofs.Known.{with_known, known_begins, known_goes_on, known_ends}
use Rattle.shop_text.specs.Ranges.{IsStationText, LinksBelow}
use Rattle.shop_text.specs.StationTexts.{station, stations}
use Rattle.shop_text.proofs.LinkLemmas.{below_nothing}
use Rattle.shop_text.proofs.stations.stations.Goals as goal

pub loop-value-init : goal.loop-value-init
loop-value-init c =
    let values = c.args.values.now in
    let find = finder c.new-directory.result in
    let none : find ≡ nothing = c.new-directory.ensures in
    let read : Finder → Type 0 = λ found. with_known [] (each_with station 1 found (items_view values)) ≡ stations (items_view values) in
    let below : LinksBelow 0 find = subst (λ (found : Finder). LinksBelow 0 found) (sym none) (below_nothing 0) in
    let so_far : read find = subst read (sym none) (known_begins (stations (items_view values))) in
    rw c.new-stations.ensures.items (record { count = refl; in_range = All-nil IsStationText; links = below; so_far = so_far })

pub returns-in_err-station-clause-read : goal.returns-in_err-station-clause-read
returns-in_err-station-clause-read c =
    let refused = err_from_is_err_and c.from_residual.result c.from_residual.ensures.1 in
    let e = c.in_err-station.field-0.0 in
    let item : c.len.result + 1 ≡ c.loop-value.value-index + 1 = omega (arith, c.loop-value.invariant.count) in
    let fails : Fails e (station (c.loop-value.value-index + 1) (finder c.loop-value.directory) (view c.value-item.result)) =
    subst (λ n. Fails e (station n (finder c.loop-value.directory) (view c.value-item.result))) item c.in_err-station.ensures.read in
    rw (refused.1, refused.2)
    (known_ends station c.loop-value.stations.items e (c.loop-value.value-index + 1) c.loop-value.value-index (finder c.loop-value.directory) c.args.values.now c.value-item.result _
    c.loop-value-test.true c.value-item.is fails c.loop-value.invariant.so_far)

pub loop-value-preserved : goal.loop-value-preserved
loop-value-preserved c =
    let before = c.loop-value.stations.items in
    let s = c.in_ok-station.field-0 in
    let find = finder c.loop-value.directory in
    let more = finder c.station.new.directory in
    let pushed : c.push.new.self.items ≡ before ++ s ∷ [] = c.in_ok-push.ensures.items in
    let item : c.len.result + 1 ≡ c.loop-value.value-index + 1 = omega (arith, c.loop-value.invariant.count) in
    let read = subst (λ n. station n find (view c.value-item.result) ≡ Ok (s, more)) item c.in_ok-station.ensures.read in
    let below : LinksBelow (c.len.result + 1 - 1) find = subst (λ n. LinksBelow n find) (omega (arith, c.loop-value.invariant.count)) c.loop-value.invariant.links in
    record {
      count = rw pushed (omega (arith, length_push before s, c.loop-value.invariant.count));
      in_range = rw pushed (All-push IsStationText before s c.loop-value.invariant.in_range c.in_ok-station.ensures.in_range);
      links = subst (λ n. LinksBelow n more) item (c.in_ok-station.ensures.links below);
      so_far = rw pushed (known_goes_on station before (c.loop-value.value-index + 1) c.loop-value.value-index find c.args.values.now c.value-item.result s more _
          c.loop-value-test.true c.value-item.is read c.loop-value.invariant.so_far);
    }
