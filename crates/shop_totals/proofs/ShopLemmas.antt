-- The totals of a shop with one record more.
use Rattle.std.proofs.Common.{◌≡◌, ◌≢◌, ◌∙◌, ℕ, ◌+◌, ◌*◌, ◌-◌, ◌<◌, ◌≤◌, Bool, true, false, List, [], ◌∷◌, ◌++◌, length, replicate, get_or, eqb, eqb-true, eq-eqb, refl, ap, sym, subst, arith}
use Rattle.std.proofs.Math.ListN.{set}
use Rattle.std.proofs.lemmas.Grind.{get_or-set_at}
use Rattle.std.proofs.lemmas.List.{get_or-set_other, get_or-replicate, length-replicate, length-set, get_or_append_left, get_or_push, length_push}
use Rattle.event_key.specs.declared.key.Key.{Key}
use Rattle.event_key.specs.Stamps.{time_part}
use Rattle.model_core.specs.declared.limits.TheConstants.{MOST_EVENTS}
use Rattle.model_core.specs.declared.note.Note.{Note}
use Rattle.run_tally.specs.Tallies.{last_time}
use Rattle.run_tally.proofs.InTime.{last_time-more}
use Rattle.shop_model.specs.ShopParts.{ShopParts, station_at}
use Rattle.shop_totals.specs.declared.class_sums.ClassSums.{ClassSums}
use Rattle.shop_totals.specs.declared.shop_totals.ShopTotals.{ShopTotals}
use Rattle.shop_totals.specs.declared.station_totals.StationTotals.{StationTotals}
use Rattle.shop_totals.specs.Records.{timed_parts, told_at}
use Rattle.shop_totals.specs.Summed.{SumsUpShopStation, SumsUpClass, SumsUpAtStation, SumsUpAtClass, SumsUpShop, IsNewStation, AreNewStations}
use Rattle.shop_totals.specs.Visits.{classes_at}
use Rattle.shop_totals.proofs.BoundLemmas.{sums_up-within, class_sums_up-within}
use Rattle.shop_totals.proofs.ClassLemmas.{class_sums_up-told}
use Rattle.shop_totals.proofs.RecordLemmas.{told_at-here, told_at-elsewhere}
use Rattle.shop_totals.proofs.StationLemmas.{sums_up-told}

one-more : (records : List (Key × Note)) (told : Key × Note) → length (records ++ told ∷ []) ≡ length records + 1
one-more records told = length_push records told

station-elsewhere : (p : ShopParts) (first : ℕ) (records : List (Key × Note)) (told : Key × Note) (last k : ℕ) (totals : StationTotals)
    → told.0.dest ≢ k → last ≤ time_part told.0.stamp
    → SumsUpAtStation p first records last k totals → SumsUpAtStation p first (records ++ told ∷ []) (time_part told.0.stamp) k totals
station-elsewhere p first records told last k totals apart le is = (
  sums_up-within first (station_at p.stations k).servers (classes_at p k) (told_at k (records ++ told ∷ [])) (4 * length records)
      (4 * length (records ++ told ∷ [])) totals
      (omega (arith, one-more records told))
      (sums_up-told first (station_at p.stations k).servers (classes_at p k) (told_at k records) (told_at k (records ++ told ∷ [])) (4 * length records) totals
      (sym (told_at-elsewhere k records told apart)) is.0),
  omega (arith, is.1),
)

station-here : (p : ShopParts) (first : ℕ) (records : List (Key × Note)) (told : Key × Note) (k : ℕ) (totals : StationTotals) → told.0.dest ≡ k
    → SumsUpShopStation p first k (told_at k records ++ timed_parts told) (4 * length records + 4) totals
    → totals.sums.clock ≡ time_part told.0.stamp → SumsUpAtStation p first (records ++ told ∷ []) (time_part told.0.stamp) k totals
station-here p first records told k totals here is clock = (
  sums_up-within first (station_at p.stations k).servers (classes_at p k) (told_at k (records ++ told ∷ [])) (4 * length records + 4)
      (4 * length (records ++ told ∷ [])) totals
      (omega (arith, one-more records told))
      (sums_up-told first (station_at p.stations k).servers (classes_at p k) (told_at k records ++ timed_parts told) (told_at k (records ++ told ∷ [])) (4 * length records + 4) totals
      (sym (told_at-here k records told here)) is),
  omega (arith, clock),
)

class-elsewhere : (p : ShopParts) (first : ℕ) (records : List (Key × Note)) (told : Key × Note) (last k : ℕ) (totals : ClassSums)
    → told.0.dest ≢ length p.stations + k
    → last ≤ time_part told.0.stamp → SumsUpAtClass p first records last k totals
    → SumsUpAtClass p first (records ++ told ∷ []) (time_part told.0.stamp) k totals
class-elsewhere p first records told last k totals apart le is = (
  class_sums_up-within first (told_at (length p.stations + k) (records ++ told ∷ [])) (4 * length records) (4 * length (records ++ told ∷ [])) totals
      (omega (arith, one-more records told))
      (class_sums_up-told first (told_at (length p.stations + k) records) (told_at (length p.stations + k) (records ++ told ∷ [])) (4 * length records) totals
      (sym (told_at-elsewhere (length p.stations + k) records told apart)) is.0),
  omega (arith, is.1),
)

class-here : (p : ShopParts) (first : ℕ) (records : List (Key × Note)) (told : Key × Note) (k : ℕ) (totals : ClassSums)
    → told.0.dest ≡ length p.stations + k
    → SumsUpClass first (told_at (length p.stations + k) records ++ timed_parts told) (4 * length records + 4) totals
    → totals.clock ≡ time_part told.0.stamp → SumsUpAtClass p first (records ++ told ∷ []) (time_part told.0.stamp) k totals
class-here p first records told k totals here is clock = (
  class_sums_up-within first (told_at (length p.stations + k) (records ++ told ∷ [])) (4 * length records + 4)
      (4 * length (records ++ told ∷ [])) totals
      (omega (arith, one-more records told))
      (class_sums_up-told first (told_at (length p.stations + k) records ++ timed_parts told) (told_at (length p.stations + k) (records ++ told ∷ [])) (4 * length records + 4) totals
      (sym (told_at-here (length p.stations + k) records told here)) is),
  omega (arith, clock),
)

-- a record of a station
pub shop-station : (p : ShopParts) (first : ℕ) (records : List (Key × Note)) (told : Key × Note) (totals new : ShopTotals) (one : StationTotals)
    → SumsUpShop p first totals records
    → length records < MOST_EVENTS → told.0.dest < length p.stations → last_time 0 records ≤ time_part told.0.stamp
    → new.stations.items ≡ set totals.stations.items told.0.dest one → new.classes.items ≡ totals.classes.items → new.last ≡ time_part told.0.stamp
    → SumsUpShopStation p first told.0.dest (told_at told.0.dest records ++ timed_parts told) (4 * length records + 4) one
    → one.sums.clock ≡ time_part told.0.stamp → SumsUpShop p first new (records ++ told ∷ [])
shop-station p first records told totals new one is few exists in_time stations classes last sums clock = record {
  few = omega (arith, one-more records told);
  last = last ∙ sym (last_time-more 0 records told);
  station_count = ap (λ (all : List StationTotals). length all) stations ∙ length-set totals.stations.items told.0.dest one ∙ is.station_count;
  stations = λ k none within.
      let At : List StationTotals → ℕ → Type 0 = λ all last. SumsUpAtStation p first (records ++ told ∷ []) last k (get_or all k none) in
      subst (λ last. At new.stations.items last) (sym last)
      (subst (λ all. At all (time_part told.0.stamp)) (sym stations) (by k none within (eqb k told.0.dest) refl));
  class_count = ap (λ (all : List ClassSums). length all) classes ∙ is.class_count;
  classes = λ k none within.
      let At : List ClassSums → ℕ → Type 0 = λ all last. SumsUpAtClass p first (records ++ told ∷ []) last k (get_or all k none) in
      subst (λ last. At new.classes.items last) (sym last)
      (subst (λ all. At all (time_part told.0.stamp)) (sym classes)
      (class-elsewhere p first records told totals.last k (get_or totals.classes.items k none) (λ same. omega (arith, same)) (omega (arith, is.last)) (is.classes k none within)));
}
  where
    by : (k : ℕ) (none : StationTotals) → k < length p.stations → (b : Bool) → eqb k told.0.dest ≡ b
        → SumsUpAtStation p first (records ++ told ∷ []) (time_part told.0.stamp) k (get_or (set totals.stations.items told.0.dest one) k none)
    by k none within true same =
        let here : k ≡ told.0.dest = eqb-true k told.0.dest same in
        let At : ℕ → StationTotals → Type 0 = λ k totals. SumsUpAtStation p first (records ++ told ∷ []) (time_part told.0.stamp) k totals in
        subst (λ totals. At k totals) (sym (get_or-set_at totals.stations.items told.0.dest k one none here (omega (arith, is.station_count))))
        (subst (λ k. At k one) (sym here) (station-here p first records told told.0.dest one refl sums clock))
    by k none within false other =
        let apart : k ≢ told.0.dest = λ same. let yes = eq-eqb k told.0.dest same in cc in
        let At : StationTotals → Type 0 = SumsUpAtStation p first (records ++ told ∷ []) (time_part told.0.stamp) k in
        subst At (sym (get_or-set_other totals.stations.items told.0.dest k one none apart))
        (station-elsewhere p first records told totals.last k (get_or totals.stations.items k none) (λ same. apart (sym same)) (omega (arith, is.last)) (is.stations k none within))

-- what is kept of the class of an object that stands behind the stations
pub class-before : (p : ShopParts) (first : ℕ) (records : List (Key × Note)) (totals : ShopTotals) (object stations : ℕ) (own : ClassSums)
    → SumsUpShop p first totals records
    → object < length p.stations + length p.classes → stations ≡ length p.stations → stations ≤ object
    → own ≡ get_or totals.classes.items (object - stations) own
    → SumsUpAtClass p first records totals.last (object - stations) own
class-before p first records totals object stations own is exists many behind same =
    let At : ClassSums → Type 0 = SumsUpAtClass p first records totals.last (object - stations) in
    subst At (sym same) (is.classes (object - stations) own (omega arith))

-- a record of a class
pub shop-class : (p : ShopParts) (first : ℕ) (records : List (Key × Note)) (told : Key × Note) (class : ℕ) (totals new : ShopTotals) (one : ClassSums)
    → SumsUpShop p first totals records
    → length records < MOST_EVENTS → told.0.dest ≡ length p.stations + class → class < length p.classes → last_time 0 records ≤ time_part told.0.stamp
    → new.stations.items ≡ totals.stations.items → new.classes.items ≡ set totals.classes.items class one → new.last ≡ time_part told.0.stamp
    → SumsUpClass first (told_at told.0.dest records ++ timed_parts told) (4 * length records + 4) one
    → one.clock ≡ time_part told.0.stamp → SumsUpShop p first new (records ++ told ∷ [])
shop-class p first records told class totals new one is few dest exists in_time stations classes last sums clock = record {
  few = omega (arith, one-more records told);
  last = last ∙ sym (last_time-more 0 records told);
  station_count = ap (λ (all : List StationTotals). length all) stations ∙ is.station_count;
  stations = λ k none within.
      let At : List StationTotals → ℕ → Type 0 = λ all last. SumsUpAtStation p first (records ++ told ∷ []) last k (get_or all k none) in
      subst (λ last. At new.stations.items last) (sym last)
      (subst (λ all. At all (time_part told.0.stamp)) (sym stations)
      (station-elsewhere p first records told totals.last k (get_or totals.stations.items k none) (λ same. omega (arith, same, dest)) (omega (arith, is.last)) (is.stations k none within)));
  class_count = ap (λ (all : List ClassSums). length all) classes ∙ length-set totals.classes.items class one ∙ is.class_count;
  classes = λ k none within.
      let At : List ClassSums → ℕ → Type 0 = λ all last. SumsUpAtClass p first (records ++ told ∷ []) last k (get_or all k none) in
      subst (λ last. At new.classes.items last) (sym last)
      (subst (λ all. At all (time_part told.0.stamp)) (sym classes) (by k none within (eqb k class) refl));
}
  where
    Own : ℕ → Type 0
    Own object = SumsUpClass first (told_at object records ++ timed_parts told) (4 * length records + 4) one

    by : (k : ℕ) (none : ClassSums) → k < length p.classes → (b : Bool) → eqb k class ≡ b
        → SumsUpAtClass p first (records ++ told ∷ []) (time_part told.0.stamp) k (get_or (set totals.classes.items class one) k none)
    by k none within true same =
        let here : k ≡ class = eqb-true k class same in
        let At : ℕ → ClassSums → Type 0 = λ k totals. SumsUpAtClass p first (records ++ told ∷ []) (time_part told.0.stamp) k totals in
        subst (λ totals. At k totals) (sym (get_or-set_at totals.classes.items class k one none here (omega (arith, is.class_count))))
        (subst (λ k. At k one) (sym here) (class-here p first records told class one dest (subst Own dest sums) clock))
    by k none within false other =
        let apart : k ≢ class = λ same. let yes = eq-eqb k class same in cc in
        let At : ClassSums → Type 0 = SumsUpAtClass p first (records ++ told ∷ []) (time_part told.0.stamp) k in
        subst At (sym (get_or-set_other totals.classes.items class k one none apart))
        (class-elsewhere p first records told totals.last k (get_or totals.classes.items k none) (λ same. apart (omega (arith, same, dest))) (omega (arith, is.last)) (is.classes k none within))

-- one station more, of which nothing was told
pub stations-more : (p : ShopParts) (first n : ℕ) (all : List StationTotals) (one : StationTotals) → AreNewStations p first n all
    → IsNewStation p first n one
    → AreNewStations p first (n + 1) (all ++ one ∷ [])
stations-more p first n all one are is = (length_push all one ∙ ap (λ n. n + 1) are.0, λ k none within. by k none within (eqb k n) refl)
  where
    by : (k : ℕ) (none : StationTotals) → k < n + 1 → (b : Bool) → eqb k n ≡ b → IsNewStation p first k (get_or (all ++ one ∷ []) k none)
    by k none within true same =
        let here : k ≡ n = eqb-true k n same in
        let New : ℕ → StationTotals → Type 0 = λ k totals. IsNewStation p first k totals in
        subst (λ totals. New k totals) (sym (get_or_push all one none k (are.0 ∙ sym here))) (subst (λ k. New k one) (sym here) is)
    by k none within false other =
        let apart : k ≢ n = λ same. let yes = eq-eqb k n same in cc in
        let below : k < n = omega (arith, apart) in
        let New : StationTotals → Type 0 = IsNewStation p first k in
        subst New (sym (get_or_append_left all (one ∷ []) none k (omega (arith, are.0)))) (are.1 k none below)

-- before anything is told
pub shop-new : (p : ShopParts) (first : ℕ) (totals : ShopTotals) (one : ClassSums) → AreNewStations p first (length p.stations) totals.stations.items
    → totals.classes.items ≡ replicate (length p.classes) one → SumsUpClass first [] 0 one → one.clock ≡ 0 → totals.last ≡ 0
    → SumsUpShop p first totals []
unfolding told_at last_time
shop-new p first totals one stations classes sums clock last = record {
  few = omega arith;
  last = last;
  station_count = stations.0;
  stations = λ k none within. ((stations.1 k none within).0, omega (arith, (stations.1 k none within).1));
  class_count = ap (λ (all : List ClassSums). length all) classes ∙ length-replicate (length p.classes) one;
  classes = λ k none within.
      let At : ClassSums → Type 0 = SumsUpAtClass p first [] totals.last k in
      subst At (sym (ap (λ (all : List ClassSums). get_or all k none) classes ∙ get_or-replicate (length p.classes) k one none within))
      (sums, omega (arith, clock));
}
