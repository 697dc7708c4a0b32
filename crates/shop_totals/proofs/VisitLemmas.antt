-- The sums of the classes that visit a station, with a part more.
use Rattle.std.proofs.Common.{◌≡◌, ◌≢◌, ℕ, ◌/◌, ◌<◌, ◌≤◌, ltb, ltb-true, ltb-false, Bool, true, false, List, [], ◌∷◌, ◌++◌, length, map, replicate, refl, sym, ap, ◌∙◌, arith, eqb, eqb-true, eq-eqb, get_or, length-set}
use Rattle.std.specs.List.{AllPairs}
use Rattle.std.proofs.Math.ListN.{set}
use Rattle.std.proofs.lemmas.Grind.{get_or-set_at}
use Rattle.std.proofs.lemmas.List.{length-map, length-replicate, get_or-replicate, same_lists, get_or-map, get_or-set_other}
use Rattle.shop_model.specs.declared.job.TheConstants.{JOBS_A_CLASS}
use Rattle.shop_totals.specs.declared.visit_sums.VisitSums.{VisitSums}
use Rattle.shop_totals.specs.Records.{of_class}
use Rattle.shop_totals.specs.Summed.{visit_of}
use Rattle.shop_totals.specs.Sums.{visit_sums_of}
use Rattle.shop_totals.specs.Told.{TimedPart, told_from}
use Rattle.shop_totals.proofs.FlowLemmas.{told_from-counts, told_from-passes}
use Rattle.shop_totals.proofs.RecordLemmas.{of_class-here, of_class-elsewhere}

map_same : {X : Type 0} (f g : ℕ → X) (keys : List ℕ) → ((k : ℕ) → k < length keys → f (get_or keys k 0) ≡ g (get_or keys k 0))
    → map f keys ≡ map g keys
map_same f g keys same =
    same_lists (map f keys) (map g keys) (length-map keys f ∙ sym (length-map keys g))
    (λ k d within.
    let below : k < length keys = omega (arith, length-map keys f) in
    get_or-map f keys k 0 d below ∙ same k below ∙ sym (get_or-map g keys k 0 d below))

-- what is so of each key, where that changes at one of them
map_set : {X : Type 0} (f g : ℕ → X) (keys : List ℕ) (place : ℕ) (new : X) → place < length keys → new ≡ g (get_or keys place 0)
    → ((k : ℕ) → k < length keys → k ≢ place → f (get_or keys k 0) ≡ g (get_or keys k 0)) → set (map f keys) place new ≡ map g keys
map_set {X} f g keys place new exists here elsewhere =
    same_lists (set (map f keys) place new) (map g keys) (length-set (map f keys) place new ∙ length-map keys f ∙ sym (length-map keys g))
    (λ k d within.
    let below : k < length keys = omega (arith, length-set (map f keys) place new, length-map keys f) in
    by k d (eqb k place) refl below ∙ sym (get_or-map g keys k 0 d below))
  where
    by : (k : ℕ) (d : X) (b : Bool) → eqb k place ≡ b → k < length keys → get_or (set (map f keys) place new) k d ≡ g (get_or keys k 0)
    by k d true is below =
        let same : k ≡ place = eqb-true k place is in
        get_or-set_at (map f keys) place k new d same (omega (arith, length-map keys f)) ∙ here ∙ ap (λ k. g (get_or keys k 0)) (sym same)
    by k d false is below =
        let apart : k ≢ place = λ same. let yes = eq-eqb k place same in cc in
        get_or-set_other (map f keys) place k new d apart ∙ get_or-map f keys k 0 d below ∙ elsewhere k below apart

visit_of-early : (first : ℕ) (told : List TimedPart) (one : TimedPart) (class : ℕ) → one.time < first
    → visit_of first told class ≡ visit_of first (told ++ one ∷ []) class
visit_of-early first told one class early = by (eqb (one.part.a / JOBS_A_CLASS) class) refl
  where
    by : (b : Bool) → eqb (one.part.a / JOBS_A_CLASS) class ≡ b → visit_of first told class ≡ visit_of first (told ++ one ∷ []) class
    by true is =
        let here : one.part.a / JOBS_A_CLASS ≡ class = eqb-true (one.part.a / JOBS_A_CLASS) class is in
        ap (λ (told : List TimedPart). visit_sums_of told)
        (sym (told_from-passes first (of_class class told) one early) ∙ ap (λ (told : List TimedPart). told_from first told) (sym (of_class-here class told one here)))
    by false is =
        let apart : one.part.a / JOBS_A_CLASS ≢ class = λ same. let yes = eq-eqb (one.part.a / JOBS_A_CLASS) class same in cc in
        ap (λ (told : List TimedPart). visit_sums_of (told_from first told)) (sym (of_class-elsewhere class told one apart))

visit_of-elsewhere : (first : ℕ) (told : List TimedPart) (one : TimedPart) (class : ℕ) → class ≢ one.part.a / JOBS_A_CLASS
    → visit_of first told class ≡ visit_of first (told ++ one ∷ []) class
visit_of-elsewhere first told one class apart =
    ap (λ (told : List TimedPart). visit_sums_of (told_from first told)) (sym (of_class-elsewhere class told one (λ same. apart (sym same))))

-- a part before the first tick counts for no class
pub visits-early : (first : ℕ) (told : List TimedPart) (one : TimedPart) (classes : List ℕ) → one.time < first
    → map (visit_of first told) classes ≡ map (visit_of first (told ++ one ∷ [])) classes
visits-early first told one classes early =
    map_same (visit_of first told) (visit_of first (told ++ one ∷ [])) classes (λ k within. visit_of-early first told one (get_or classes k 0) early)

-- nor does one of a class that doesn't visit
pub visits-nowhere : (first : ℕ) (told : List TimedPart) (one : TimedPart) (classes : List ℕ)
    → ((k : ℕ) → k < length classes → get_or classes k 0 ≢ one.part.a / JOBS_A_CLASS)
    → map (visit_of first told) classes ≡ map (visit_of first (told ++ one ∷ [])) classes
visits-nowhere first told one classes nowhere =
    map_same (visit_of first told) (visit_of first (told ++ one ∷ [])) classes
    (λ k within. visit_of-elsewhere first told one (get_or classes k 0) (nowhere k within))

rising-apart : (classes : List ℕ) (k place : ℕ) → AllPairs (λ (a b : ℕ). a < b) classes → k < length classes → place < length classes → k ≢ place
    → get_or classes k 0 ≢ get_or classes place 0
rising-apart classes k place rising within exists apart same = by (ltb k place) refl
  where
    by : (b : Bool) → ltb k place ≡ b → ⊥
    by true is = let lt = rising k place 0 (ltb-true k place is) exists in omega arith
    by false is = let most : place ≤ k = ltb-false k place is in let lt = rising place k 0 (omega arith) within in omega arith

pub rising-up : (classes : List ℕ) → AllPairs (λ (a b : ℕ). a < b) classes → (i j : ℕ) → i ≤ j → j < length classes
    → get_or classes i 0 ≤ get_or classes j 0
rising-up classes rising i j le within = by (eqb i j) refl
  where
    by : (b : Bool) → eqb i j ≡ b → get_or classes i 0 ≤ get_or classes j 0
    by true is = let same : get_or classes i 0 ≡ get_or classes j 0 = ap (λ k. get_or classes k 0) (eqb-true i j is) in omega (arith, same)
    by false is =
        let apart : i ≢ j = λ same. let yes = eq-eqb i j same in cc in
        let lt = rising i j 0 (omega (arith, apart)) within in
        omega (arith, lt)

-- a number that lies between two neighbours is none of them
pub around-apart : (classes : List ℕ) (class place : ℕ) → ((k : ℕ) → k < place → get_or classes k 0 < class)
    → ((k : ℕ) → place ≤ k → k < length classes → class < get_or classes k 0)
    → (k : ℕ) → k < length classes → get_or classes k 0 ≢ class
around-apart classes class place below above k within same = by (ltb k place) refl
  where
    by : (b : Bool) → ltb k place ≡ b → ⊥
    by true is = let lt = below k (ltb-true k place is) in omega (arith, lt, same)
    by false is = let lt = above k (ltb-false k place is) within in omega (arith, lt, same)

-- before anything is told
pub visits-none : (first : ℕ) (classes : List ℕ) → replicate (length classes) (visit_sums_of []) ≡ map (visit_of first []) classes
visits-none first classes =
    same_lists (replicate (length classes) (visit_sums_of [])) (map (visit_of first []) classes)
    (length-replicate (length classes) (visit_sums_of []) ∙ sym (length-map classes (visit_of first [])))
    (λ k d within.
    let below : k < length classes = omega (arith, length-replicate (length classes) (visit_sums_of [])) in
    get_or-replicate (length classes) k (visit_sums_of []) d below ∙ sym (get_or-map (visit_of first []) classes k 0 d below))

-- and one of a class that visits counts there alone
pub visits-here : (first : ℕ) (told : List TimedPart) (one : TimedPart) (classes : List ℕ) (place : ℕ) (new : VisitSums) → first ≤ one.time
    → AllPairs (λ (a b : ℕ). a < b) classes → place < length classes → get_or classes place 0 ≡ one.part.a / JOBS_A_CLASS
    → new ≡ visit_sums_of (told_from first (of_class (get_or classes place 0) told) ++ one ∷ [])
    → set (map (visit_of first told) classes) place new ≡ map (visit_of first (told ++ one ∷ [])) classes
visits-here first told one classes place new counts rising exists found is =
    let class = get_or classes place 0 in
    map_set (visit_of first told) (visit_of first (told ++ one ∷ [])) classes place new exists
    (is ∙ ap (λ (told : List TimedPart). visit_sums_of told)
    (sym (told_from-counts first (of_class class told) one counts) ∙ ap (λ (told : List TimedPart). told_from first told) (sym (of_class-here class told one (sym found)))))
    (λ k within apart. visit_of-elsewhere first told one (get_or classes k 0)
    (λ same. rising-apart classes k place rising within exists apart (same ∙ sym found)))
