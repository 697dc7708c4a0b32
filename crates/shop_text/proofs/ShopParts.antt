-- The parts that are read are those of a shop.
use Rattle.std.proofs.Common.{◌≡◌, ℕ, ◌+◌, ◌^◌, ◌<◌, ◌≤◌, List, [], ◌∷◌, length, map, Ok, refl, sym, ap, subst, ◌∙◌, arith}
use Rattle.std.specs.Prelude.{All, max, sum_by}
use Rattle.std.specs.List.{fold}
use Rattle.std.proofs.lemmas.List.{length-map}
use Rattle.std.proofs.lemmas.List.Elements.{All-nil, All-cons, All-head, All-tail, All-map, All-weaker}
use Rattle.std.proofs.lemmas.List.Sums.{sum_by-cons}
use Rattle.shop_model.specs.declared.class.Class.{Class}
use Rattle.shop_model.specs.declared.station.Order.{Order}
use Rattle.shop_model.specs.declared.station.Order.TheVariants.{First, Last, Priority}
use Rattle.shop_model.specs.declared.station.Shift.{Shift}
use Rattle.shop_model.specs.declared.station.Station.{Station}
use Rattle.shop_model.specs.HasStation.{IsStation, IsShift as IsShiftOf}
use Rattle.shop_model.specs.Parts.{IsClass}
use Rattle.shop_model.specs.ShopParts.{ShopParts, shop_of, most_open, calmest, levels_of, IsStationOf, IsShop}
use Rattle.text_fields.specs.Names.{Finder}
use Rattle.shop_text.specs.declared.named.NamedClass.{NamedClass}
use Rattle.shop_text.specs.ClassTexts.{ClassText}
use Rattle.model_reader.specs.declared.refusal.Refusal.{Refusal}
use Rattle.model_reader.specs.declared.refusal.Refusal.TheVariants.{At, OutOfMemory}
use Rattle.text_fields.specs.Checks.{Checked, Fails, ◌>>=◌}
use Rattle.shop_text.specs.LinkedRoutes.{linked_class, linked_classes}
use Rattle.shop_text.specs.Ranges.{IsShift, IsStationText, IsClassText, LinksBelow}
use Rattle.shop_text.specs.ShopTexts.{with_levels, linked_shop}
use Rattle.shop_text.specs.Views.{class_text, class_texts, linked_named}
use Rattle.shop_text.proofs.LinkedParts.{classes-linked, times_named}
use Rattle.shop_model.specs.ModelLaws.{most_open-le, some_levels}

open_few : (servers : ℕ) (shifts : List Shift) → servers ≤ 1024 → All IsShift shifts → most_open servers shifts ≤ 1024
open_few servers [] few fine = few
open_few servers (s ∷ shifts) few fine =
    let here : s.servers ≤ 1024 = (All-head IsShift s shifts fine).servers in
    open_few (max servers s.servers) shifts (omega (arith, here, few)) (All-tail IsShift s shifts fine)

open_each : (servers : ℕ) (shifts : List Shift) → All (λ (s : Shift). s.servers ≤ most_open servers shifts) shifts
open_each servers [] = All-nil (λ (s : Shift). s.servers ≤ servers)
open_each servers (s ∷ shifts) =
    let here : s.servers ≤ most_open (max servers s.servers) shifts = omega (arith, most_open-le (max servers s.servers) shifts) in
    All-cons (λ (t : Shift). t.servers ≤ most_open (max servers s.servers) shifts) s shifts here (open_each (max servers s.servers) shifts)

shifts_within : (station : Station) (shifts : List Shift) → All IsShift shifts → All (λ (s : Shift). s.servers ≤ station.most) shifts → All (IsShiftOf station) shifts
shifts_within station [] fine within = All-nil (IsShiftOf station)
shifts_within station (s ∷ shifts) fine within =
    let few : s.servers ≤ station.most = All-head (λ (t : Shift). t.servers ≤ station.most) s shifts within in
    All-cons (IsShiftOf station) s shifts (record { at = (All-head IsShift s shifts fine).at; servers = few })
    (shifts_within station shifts (All-tail IsShift s shifts fine) (All-tail (λ (t : Shift). t.servers ≤ station.most) s shifts within))

calmest_few : (priority : ℕ) (classes : List Class) (n : ℕ) → priority ≤ 7 → All (IsClass n) classes
    → fold (λ priority (class : Class). max priority class.priority) priority classes ≤ 7
calmest_few priority [] n few fine = few
calmest_few priority (c ∷ classes) n few fine =
    let here : c.priority ≤ 7 = (All-head (IsClass n) c classes fine).priority in
    calmest_few (max priority c.priority) classes n (omega (arith, here, few)) (All-tail (IsClass n) c classes fine)

few_levels : (order : Order) (classes : List Class) → calmest classes ≤ 7 → levels_of order classes ≤ 8
few_levels First classes few = omega arith
few_levels Last classes few = omega arith
few_levels Priority classes few = omega (arith, few)

station-levelled : (classes : List Class) (station : Station) → calmest classes ≤ 7 → IsStationText station → IsStationOf classes (with_levels classes station)
station-levelled classes station few fine =
    let most : station.most ≤ 1024 = omega (arith, fine.most, open_few station.servers station.shifts fine.servers fine.timetable.shifts) in
    let within : All (λ (s : Shift). s.servers ≤ station.most) station.shifts =
    subst (λ n. All (λ (s : Shift). s.servers ≤ n) station.shifts) (sym fine.most) (open_each station.servers station.shifts) in
    let numbers : IsStation (with_levels classes station) = record {
      most = most;
      line = fine.line;
      some_levels = some_levels station.order classes;
      few_levels = few_levels station.order classes few;
      few_shifts = fine.timetable.few;
      shifts = shifts_within (with_levels classes station) station.shifts fine.timetable.shifts within;
      period = fine.timetable.period;
      breakdowns = fine.breakdowns;
    } in
    record { numbers = numbers; most = fine.most; levels = refl; rising = fine.timetable.rising; again = fine.timetable.again }

-- the same ticks are named, whether the labels are seen as a directory or as what it finds
times_seen : (named : List NamedClass) → times_named (class_texts named) ≡ sum_by (λ (class : NamedClass). length class.class.times) named
times_seen [] = refl
times_seen (c ∷ named) =
    sum_by-cons (λ (text : ClassText). length text.class.times) (class_text c) (class_texts named)
    ∙ ap (λ n. length c.class.times + n) (times_seen named)
    ∙ sym (sum_by-cons (λ (class : NamedClass). length class.class.times) c named)

pub linked_seen : (find : Finder) (k : ℕ) (named : List NamedClass) → linked_classes find k (class_texts named) ≡ linked_named find k named
linked_seen find k [] = refl
linked_seen find k (c ∷ named) =
    ap (λ (others : Checked (List Class)). linked_class find k (class_text c) >>= (λ first. others >>= (λ rest. Ok (first ∷ rest)))) (linked_seen find (k + 1) named)

pub shop-calm : (k : ℕ) (stations : List Station) (named : List NamedClass) (classes : List Class) (find : Finder)
    → All (λ (class : NamedClass). IsClassText (class_text class)) named → LinksBelow (length stations) find → linked_named find k named ≡ Ok classes → calmest classes ≤ 7
shop-calm k stations named classes find fine_classes below gives =
    let fine : All IsClassText (class_texts named) = All-map IsClassText class_text named fine_classes in
    let linked = classes-linked (length stations) k find (class_texts named) classes below fine (linked_seen find k named ∙ gives) in
    calmest_few 0 classes (length stations) (omega arith) linked.in_range

pub shop-lawful : (seed k : ℕ) (stations : List Station) (named : List NamedClass) (classes : List Class) (find : Finder)
    → seed < 2 ^ 63 → length stations + length named ≤ 65536 → All IsStationText stations → All (λ (class : NamedClass). IsClassText (class_text class)) named
    → sum_by (λ (class : NamedClass). length class.class.times) named ≤ 250000 → LinksBelow (length stations) find
    → linked_named find k named ≡ Ok classes → IsShop (shop_of seed (map (with_levels classes) stations) classes)
shop-lawful seed k stations named classes find low few fine_stations fine_classes few_times below gives =
    let texts : List ClassText = class_texts named in
    let fine : All IsClassText texts = All-map IsClassText class_text named fine_classes in
    let linked = classes-linked (length stations) k find texts classes below fine (linked_seen find k named ∙ gives) in
    let same : length (map (with_levels classes) stations) ≡ length stations = length-map stations (with_levels classes) in
    let count : length classes ≡ length named = linked.count ∙ length-map named class_text in
    let calm : calmest classes ≤ 7 = shop-calm k stations named classes find fine_classes below gives in
    record {
      seed = low;
      routes = record {
        few = omega (arith, same, count, few);
        classes = subst (λ n. All (IsClass n) classes) (sym same) linked.in_range;
      };
      stations = All-map (IsStationOf classes) (with_levels classes) stations
          (All-weaker IsStationText (λ station. IsStationOf classes (with_levels classes station)) (λ station read. station-levelled classes station calm read) stations fine_stations);
      few_times = omega (arith, linked.times, times_seen named, few_times);
    }

abbrev then_shop : ℕ → List Station → Checked (List Class) → Checked ShopParts
then_shop seed stations check = check >>= (λ classes. Ok (shop_of seed (map (with_levels classes) stations) classes))

-- the first link that fails is the answer
pub links_stop : (seed first : ℕ) (find : Finder) (stations : List Station) (named : List NamedClass) (e : Refusal) → first ≡ length stations + 1
    → Fails e (linked_named find first named) → Fails e (linked_shop seed find stations (class_texts named))
unfolding linked_shop
links_stop seed first find stations named OutOfMemory at fails = tt
links_stop seed first find stations named (At code item) at fails =
    ap (λ n. then_shop seed stations (linked_classes find n (class_texts named))) (sym at)
    ∙ ap (λ check. then_shop seed stations check) (linked_seen find first named ∙ fails)

pub links_done : (seed first : ℕ) (find : Finder) (stations : List Station) (named : List NamedClass) (classes : List Class) → first ≡ length stations + 1
    → linked_named find first named ≡ Ok classes
    → linked_shop seed find stations (class_texts named) ≡ Ok (shop_of seed (map (with_levels classes) stations) classes)
unfolding linked_shop
links_done seed first find stations named classes at gives =
    ap (λ n. then_shop seed stations (linked_classes find n (class_texts named))) (sym at)
    ∙ ap (λ check. then_shop seed stations check) (linked_seen find first named ∙ gives)
