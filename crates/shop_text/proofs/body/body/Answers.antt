use Rattle.std.proofs.Common.{◌≡◌, ◌+◌, ℕ, List, Ok, length, nat_lt, false, refl, arith}
use Rattle.std.proofs.lemmas.Bool.Decides.{nat_tests}
use Rattle.std.specs.Prelude.{codes}
use Rattle.toml.specs.Data.{Members, Items, array, no_items}
use Rattle.toml.specs.View.{items_view, table_view}
use Rattle.model_core.specs.declared.limits.TheConstants.{MOST_OBJECTS}
use Rattle.shop_model.specs.declared.station.Station.{Station}
use Rattle.text_fields.specs.Fields.{array_of, item_count, optional}
use Rattle.text_fields.specs.Names.{Finder}
use Rattle.shop_text.specs.ClassTexts.{ClassText, Known, classes}
use Rattle.shop_text.specs.ShopTexts.{body, linked_shop}
use Rattle.shop_text.specs.StationTexts.{stations}
use Rattle.shop_text.proofs.body.body.Goals as goal

-- both arrays and all entries are read: what is left are the links
entries-read : (seed : ℕ) (ms : Members) (tables others : Items) (read : List Station × Finder) (texts : List ClassText × Known)
    → array_of 0 MOST_OBJECTS (optional (array no_items) (codes "station") ms) ≡ Ok tables
    → array_of 0 MOST_OBJECTS (optional (array no_items) (codes "class") ms) ≡ Ok others
    → nat_lt MOST_OBJECTS (item_count tables + item_count others) ≡ false
    → stations tables ≡ Ok read → classes (item_count tables + 1) read.1 others ≡ Ok texts
    → body seed ms ≡ linked_shop seed texts.1.find read.0 texts.0
unfolding body
entries-read seed ms tables others read texts one other few first second = rw (one, other, few, first, second) refl

pub linked_shop-requires-clause-links : goal.linked_shop-requires-clause-links
linked_shop-requires-clause-links c =
    rw c.in_ok-stations.ensures.count
    (c.in_ok-named.ensures.links (length c.in_ok-tables.tables.now) c.in_ok-stations.ensures.links)

pub returns : goal.returns
returns c =
    let ms = table_view c.args.table.now in
    let few : nat_lt MOST_OBJECTS (c.item_count.result + c.item_count-2.result) ≡ false = grind (arith, nat_tests, c.if-item_count-most.false) in
    let few = rw (c.item_count.ensures.count, c.item_count-2.ensures.count) at few in
    let second = rw c.item_count-3.ensures.count at c.in_ok-named.ensures.read in
    rw (entries-read c.args.seed ms (items_view c.in_ok-tables.tables.now) (items_view c.in_ok-others.others.now) _ _ c.in_ok-tables.ensures.read c.in_ok-others.ensures.read few c.in_ok-stations.ensures.read second)
    c.linked_shop.ensures
