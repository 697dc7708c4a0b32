use Rattle.std.proofs.Common.{◌≡◌, ◌∙◌, ◌≤◌, [], length, replicate, subst, ap, sym, refl, arith}
use Rattle.std.specs.Prelude.{All}
use Rattle.std.proofs.lemmas.List.Elements.{All-nil, All-replicate}
use Rattle.shop_totals.specs.declared.visit_sums.VisitSums.{VisitSums}
use Rattle.shop_totals.specs.Sums.{station_sums_of, IsVisitWithin}
use Rattle.shop_totals.specs.Told.{TimedPart}
use Rattle.shop_totals.proofs.VisitLemmas.{visits-none}
use Rattle.shop_totals.proofs.station_totals.StationTotals.new.Goals as goal

pub returns-clause-sums : goal.returns-clause-sums
returns-clause-sums c =
    let many : c.len.result ≡ length c.args.classes.items = omega (arith, c.len.ensures) in
    let are : c.in_ok-visits.visits.items ≡ replicate (length c.args.classes.items) c.new.result =
    c.in_ok-visits.ensures.items_if_clones_equal (λ y same. same) ∙ ap (λ n. replicate n c.new.result) many in
    record {
      since = c.new-2.ensures.first;
      by = All-nil (λ (one : TimedPart). one.time ≤ c.new-2.result.clock);
      sums = c.new-2.ensures.sums ∙ ap (λ clock. station_sums_of c.args.first c.args.servers [] clock) (sym c.new-2.ensures.clock);
      within = c.new-2.ensures.within;
      visitors = refl;
      rising = c.requires;
      visits = are ∙ ap (λ (sums : VisitSums). replicate (length c.args.classes.items) sums) c.new.ensures.sums ∙ visits-none c.args.first c.args.classes.items;
      visits_within = subst (All (IsVisitWithin 0)) (sym are) (All-replicate (IsVisitWithin 0) (length c.args.classes.items) c.new.result c.new.ensures.within);
    }
