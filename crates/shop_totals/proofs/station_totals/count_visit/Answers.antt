use Rattle.std.proofs.Common.{◌∙◌, ◌/◌, ◌+◌, List, Ok, Err, get_or, subst, sym, ap, arith}
use Rattle.std.proofs.Math.ListN.{set}
use Rattle.std.proofs.lemmas.List.{get_or-map}
use Rattle.std.proofs.lemmas.List.Elements.{All-set}
use Rattle.std.proofs.lemmas.List.Sorted.{searched}
use Rattle.shop_model.specs.declared.job.TheConstants.{JOBS_A_CLASS}
use Rattle.shop_totals.specs.declared.visit_sums.VisitSums.{VisitSums}
use Rattle.shop_totals.specs.Records.{of_class}
use Rattle.shop_totals.specs.Summed.{visit_of}
use Rattle.shop_totals.specs.Sums.{IsVisitWithin}
use Rattle.shop_totals.specs.Told.{TimedPart, told_from}
use Rattle.shop_totals.proofs.BoundLemmas.{visits-within}
use Rattle.shop_totals.proofs.VisitLemmas.{rising-up, around-apart, visits-here, visits-nowhere}
use Rattle.shop_totals.proofs.station_totals.count_visit.Goals as goal

pub returns-in-Ok-clause-within : goal.returns-in-Ok-clause-within
returns-in-Ok-clause-within c parts within =
    let found =
    searched c.args.classes.now (c.args.part.a / JOBS_A_CLASS) (Ok c.in-Ok.place) c.in-Ok.ensures.position
    (rising-up c.args.classes.now c.requires.rising) in
    All-set (IsVisitWithin (parts + 1)) c.args.visits.now.items c.in-Ok.place c.and.result
    (c.and.ensures.within parts
    (subst (IsVisitWithin parts) (sym c.index_mut-visit.ensures.value) (within c.in-Ok.place c.index_mut-visit.result.now (omega (arith, found.0, c.requires.long)))))
    (visits-within parts (parts + 1) c.args.visits.now.items (omega arith) within)

pub returns-in-Ok-clause-sums : goal.returns-in-Ok-clause-sums
returns-in-Ok-clause-sums c first time told counts are =
    let classes = c.args.classes.now in
    let place = c.in-Ok.place in
    let class = get_or classes place 0 in
    let one : TimedPart = record { time = time; part = c.args.part } in
    let found = searched classes (c.args.part.a / JOBS_A_CLASS) (Ok place) c.in-Ok.ensures.position (rising-up classes c.requires.rising) in
    ap (λ (visits : List VisitSums). set visits place c.and.result) are
    ∙ visits-here first told one classes place c.and.result counts c.requires.rising found.0 found.1
    (c.and.ensures.sums (told_from first (of_class class told)) time
    (c.index_mut-visit.ensures.value ∙ ap (λ (visits : List VisitSums). get_or visits place c.index_mut-visit.result.now) are
    ∙ get_or-map (visit_of first told) classes place 0 c.index_mut-visit.result.now found.0))

pub returns-in_default-clause-sums : goal.returns-in_default-clause-sums
returns-in_default-clause-sums c first time told counts are =
    let classes = c.args.classes.now in
    let one : TimedPart = record { time = time; part = c.args.part } in
    let found =
    searched classes (c.args.part.a / JOBS_A_CLASS) (Err c.in_default.field-0) c.in_default.ensures.position (rising-up classes c.requires.rising) in
    are ∙ visits-nowhere first told one classes (around-apart classes (c.args.part.a / JOBS_A_CLASS) c.in_default.field-0 found.1 found.2)
