use Rattle.std.proofs.Common.{◌≡◌, ◌∙◌, ◌+◌, ◌≤◌, ◌++◌, ◌∷◌, [], ℕ, List, map, subst, sym, ap, refl, arith}
use Rattle.shop_totals.specs.declared.station_totals.StationTotals.{StationTotals}
use Rattle.shop_totals.specs.declared.visit_sums.VisitSums.{VisitSums}
use Rattle.shop_totals.specs.Summed.{SumsUpStation, visit_of}
use Rattle.shop_totals.specs.Told.{TimedPart}
use Rattle.shop_totals.proofs.BoundLemmas.{visits-within}
use Rattle.shop_totals.proofs.StationLemmas.{sums_up-part, sums_up-told}
use Rattle.shop_totals.proofs.VisitLemmas.{visits-early}
use Rattle.shop_totals.proofs.station_totals.StationTotals.add_part.Goals as goal

pub returns-then-self-clause-sums : goal.returns-then-self-clause-sums
returns-then-self-clause-sums c first servers time classes told parts at is =
    let clock = c.args.self.now.sums.clock in
    let one : TimedPart = record { time = clock; part = c.args.part } in
    let visitors : c.deref.result.now ≡ classes = c.deref.ensures.value ∙ is.visitors in
    let counts : first ≤ clock = omega (arith, c.if-self.true, c.and-self.ensures.first, c.and-self.ensures.clock, is.since) in
    let Visits : List VisitSums → List ℕ → Type 0 = λ visits classes. visits ≡ map (visit_of first told) classes in
    let After : List ℕ → Type 0 = λ classes. c.count_visit.new.visits.items ≡ map (visit_of first (told ++ one ∷ [])) classes in
    at_time (record { sums = c.and-self.result; classes = c.args.self.now.classes; visits = c.count_visit.new.visits })
    (sums_up-part first servers classes told parts c.args.part c.args.self.now
    (record { sums = c.and-self.result; classes = c.args.self.now.classes; visits = c.count_visit.new.visits })
    is c.and-self.ensures.clock c.and-self.ensures.first c.and-self.ensures.sums c.and-self.ensures.within refl
    (subst After visitors
    (c.count_visit.ensures.sums first clock told counts (is.visits ∙ ap (λ classes. map (visit_of first told) classes) (sym visitors))))
    (c.count_visit.ensures.within parts is.visits_within))
  where
    at_time : (new : StationTotals)
        → SumsUpStation first servers classes (told ++ record { time = c.args.self.now.sums.clock; part = c.args.part } ∷ []) (parts + 1) new
        → SumsUpStation first servers classes (told ++ record { time = time; part = c.args.part } ∷ []) (parts + 1) new
    at_time new is = sums_up-told first servers classes _ (told ++ record { time = time; part = c.args.part } ∷ []) (parts + 1) new
        (ap (λ time. (let one : TimedPart = record { time = time; part = c.args.part } in told ++ one ∷ [])) at) is

pub returns-else-self-clause-sums : goal.returns-else-self-clause-sums
returns-else-self-clause-sums c first servers time classes told parts at is =
    let one : TimedPart = record { time = c.args.self.now.sums.clock; part = c.args.part } in
    at_time (record { sums = c.and-self.result; classes = c.args.self.now.classes; visits = c.args.self.now.visits })
    (sums_up-part first servers classes told parts c.args.part c.args.self.now
    (record { sums = c.and-self.result; classes = c.args.self.now.classes; visits = c.args.self.now.visits })
    is c.and-self.ensures.clock c.and-self.ensures.first c.and-self.ensures.sums c.and-self.ensures.within refl
    (is.visits ∙ visits-early first told one classes (omega (arith, c.if-self.false, c.and-self.ensures.first, c.and-self.ensures.clock, is.since)))
    (visits-within parts (parts + 1) c.args.self.now.visits.items (omega arith) is.visits_within))
  where
    at_time : (new : StationTotals)
        → SumsUpStation first servers classes (told ++ record { time = c.args.self.now.sums.clock; part = c.args.part } ∷ []) (parts + 1) new
        → SumsUpStation first servers classes (told ++ record { time = time; part = c.args.part } ∷ []) (parts + 1) new
    at_time new is = sums_up-told first servers classes _ (told ++ record { time = time; part = c.args.part } ∷ []) (parts + 1) new
        (ap (λ time. (let one : TimedPart = record { time = time; part = c.args.part } in told ++ one ∷ [])) at) is
