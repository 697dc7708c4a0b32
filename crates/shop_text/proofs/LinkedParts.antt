-- What is linked lies within its bounds.
use Rattle.std.proofs.Common.{◌≡◌, ℕ, suc, ◌+◌, ◌<◌, ◌≤◌, List, [], ◌∷◌, length, Ok, refl, sym, ap, subst, ◌∙◌, arith}
use Rattle.std.specs.Prelude.{All, sum_by}
use Rattle.std.proofs.lemmas.List.Elements.{All-nil, All-cons, All-head, All-tail, All-weaker}
use Rattle.std.proofs.lemmas.List.Sums.{sum_by-cons}
use Rattle.shop_model.specs.declared.class.Class.{Class}
use Rattle.shop_model.specs.declared.step.Step.{Step}
use Rattle.shop_model.specs.declared.step.Step.TheVariants.{Free, Delay, Go}
use Rattle.shop_model.specs.Parts.{IsVisit, IsBranch, IsStep, IsClass}
use Rattle.shop_text.specs.declared.named.NamedStep.{NamedStep}
use Rattle.shop_text.specs.declared.named.NamedStep.TheVariants.{Visit as NamesVisit, Free as NamesFree, Delay as NamesDelay, Go as NamesGo}
use Rattle.shop_text.specs.declared.named.NamedVisit.{NamedVisit}
use Rattle.shop_text.specs.declared.links.VisitLinks.{VisitLinks}
use Rattle.text_fields.specs.Fields.{each_of}
use Rattle.text_fields.specs.Links.{link, links, IsFound}
use Rattle.text_fields.specs.Names.{Finder}
use Rattle.text_fields.proofs.Found.{bound, seen, link-found, links-found}
use Rattle.shop_text.specs.ClassTexts.{ClassText}
use Rattle.shop_text.specs.LinkedRoutes.{visit_links, visit_with, linked_visit, linked_step, linked_steps, linked_class, linked_classes}
use Rattle.shop_text.specs.Ranges.{IsNamedVisit, IsNamedStep, IsClassText, LinksBelow}
use Rattle.shop_text.proofs.LinkLemmas.{below_found}

abbrev linked_to : ℕ → ℕ → ℕ → VisitLinks
linked_to station away full = record { station = station; away = away; full = full }

visit-linked : (n m at : ℕ) (find labels : Finder) (visit : NamedVisit) (step : Step) → LinksBelow n find → LinksBelow (m + 2) labels → IsNamedVisit visit
    → linked_visit find labels at visit ≡ Ok step → IsStep n m step
unfolding linked_visit visit_links
visit-linked n m at find labels visit step stations ends fine gives =
    let links = seen (visit_links find labels at visit.names) (visit_with visit) step gives in
    let one = bound (link find at visit.names.station) _ links.0 links.1 in
    let two = bound (link labels at visit.names.away) _ links.0 one.2 in
    let three = seen (link labels at visit.names.full) (λ (full : ℕ). linked_to one.0 two.0 full) links.0 two.2 in
    let station : one.0 < n = below_found n one.0 find stations (link-found find at visit.names.station one.0 one.1) in
    let away : two.0 < m + 2 = below_found (m + 2) two.0 labels ends (link-found labels at visit.names.away two.0 two.1) in
    let full : three.0 < m + 2 = below_found (m + 2) three.0 labels ends (link-found labels at visit.names.full three.0 three.1) in
    let lawful : IsVisit n m (record { station = one.0; service = visit.service; patience = visit.patience; away = two.0; full = three.0 }) =
    record { exists = station; service = fine.service; patience = fine.patience; away = omega (arith, away); full = omega (arith, full) } in
    subst (IsStep n m) links.2 (subst (λ (links : VisitLinks). IsStep n m (visit_with visit links)) three.2 lawful)

step-linked : (n m at : ℕ) (find labels : Finder) (named : NamedStep) (step : Step) → LinksBelow n find → LinksBelow (m + 2) labels → IsNamedStep named
    → linked_step find labels at named ≡ Ok step → IsStep n m step
step-linked n m at find labels (NamesVisit visit) step stations ends fine gives = visit-linked n m at find labels visit step stations ends fine gives
step-linked n m at find labels (NamesFree station) step stations ends fine gives =
    let found = seen (link find at station) (λ number. Free number) step gives in
    let below : found.0 < n = below_found n found.0 find stations (link-found find at station found.0 found.1) in
    subst (IsStep n m) found.2 below
step-linked n m at find labels (NamesDelay law) step stations ends fine gives =
    let same : Delay law ≡ step = cc in
    subst (IsStep n m) same fine
step-linked n m at find labels (NamesGo names weights) step stations ends fine gives =
    let found = seen (links labels at names) (λ numbers. Go (record { steps = numbers; weights = weights })) step gives in
    let numbers = links-found labels at 0 names found.0 found.1 in
    let below : (k : ℕ) → IsFound labels k → k ≤ m + 1 = λ k is. omega (arith, below_found (m + 2) k labels ends is) in
    let branch : IsBranch m (record { steps = found.0; weights = weights }) = record {
      matched = fine.0 ∙ numbers.1;
      choice = fine.1;
      links = All-weaker (IsFound labels) (λ k. k ≤ m + 1) below found.0 numbers.0;
    } in
    subst (IsStep n m) found.2 branch

steps-linked : (n m at k : ℕ) (find labels : Finder) (named : List NamedStep) (steps : List Step) → LinksBelow n find → LinksBelow (m + 2) labels → All IsNamedStep named
    → each_of (λ i. linked_step find labels at) k named ≡ Ok steps → All (IsStep n m) steps × (length steps ≡ length named)
steps-linked n m at k find labels [] steps stations ends fine gives =
    let none : [] ≡ steps = cc in
    (subst (All (IsStep n m)) none (All-nil (IsStep n m)), sym (ap length none))
steps-linked n m at k find labels (s ∷ named) steps stations ends fine gives =
    let first = bound (linked_step find labels at s) _ steps gives in
    let others = seen (each_of (λ i. linked_step find labels at) (k + 1) named) (λ rest. first.0 ∷ rest) steps first.2 in
    let rest = steps-linked n m at (k + 1) find labels named others.0 stations ends (All-tail IsNamedStep s named fine) others.1 in
    let here = step-linked n m at find labels s first.0 stations ends (All-head IsNamedStep s named fine) first.1 in (
      subst (All (IsStep n m)) others.2 (All-cons (IsStep n m) first.0 others.0 here rest.0),
      sym (ap length others.2) ∙ ap suc rest.1,
    )

-- a class with its route is in range, and names the same ticks
pub record IsLinkedClass (n : ℕ) (text : ClassText) (class : Class) : Type 0 where
  pub in_range : IsClass n class
  pub times : length class.times ≡ length text.class.times

class-linked : (n at : ℕ) (find : Finder) (text : ClassText) (class : Class) → LinksBelow n find → IsClassText text → linked_class find at text ≡ Ok class → IsLinkedClass n text class
unfolding linked_class
class-linked n at find text class stations fine gives =
    let found = seen (linked_steps find text.labels at text.route) (λ (route : List Step). record text.class { route = route }) class gives in
    let steps = steps-linked n (length text.route) at 0 find text.labels text.route found.0 stations fine.route.labels fine.route.steps found.1 in
    let lawful : IsClass n (record text.class { route = found.0 }) = record {
      every = fine.fields.every;
      first = fine.fields.first;
      until = fine.fields.until;
      times = fine.fields.times;
      batch = fine.fields.batch;
      some = fine.fields.some;
      few = fine.fields.few;
      priority = fine.fields.priority;
      due = fine.fields.due;
      first_step = omega (arith, steps.1, fine.route.some);
      few_steps = omega (arith, steps.1, fine.route.few);
      steps = subst (λ m. All (IsStep n m) found.0) (sym steps.1) steps.0;
    } in
    subst (IsLinkedClass n text) found.2 (record { in_range = lawful; times = refl })

abbrev pub times_of : List Class → ℕ
times_of classes = sum_by (λ (class : Class). length class.times) classes

abbrev pub times_named : List ClassText → ℕ
times_named texts = sum_by (λ (text : ClassText). length text.class.times) texts

pub record AreLinked (n : ℕ) (texts : List ClassText) (classes : List Class) : Type 0 where
  pub in_range : All (IsClass n) classes
  pub count : length classes ≡ length texts
  pub times : times_of classes ≡ times_named texts

pub classes-linked : (n k : ℕ) (find : Finder) (texts : List ClassText) (classes : List Class) → LinksBelow n find → All IsClassText texts
    → linked_classes find k texts ≡ Ok classes → AreLinked n texts classes
classes-linked n k find [] classes stations fine gives =
    let none : [] ≡ classes = cc in
    subst (AreLinked n []) none (record { in_range = All-nil (IsClass n); count = refl; times = refl })
classes-linked n k find (text ∷ texts) classes stations fine gives =
    let first = bound (linked_class find k text) _ classes gives in
    let others = seen (each_of (linked_class find) (k + 1) texts) (λ (rest : List Class). first.0 ∷ rest) classes first.2 in
    let here = class-linked n k find text first.0 stations (All-head IsClassText text texts fine) first.1 in
    let rest = classes-linked n (k + 1) find texts others.0 stations (All-tail IsClassText text texts fine) others.1 in
    subst (AreLinked n (text ∷ texts)) others.2 (record {
      in_range = All-cons (IsClass n) first.0 others.0 here.in_range rest.in_range;
      count = ap suc rest.count;
      times = omega (arith, here.times, rest.times, sum_by-cons (λ (class : Class). length class.times) first.0 others.0, sum_by-cons (λ (text : ClassText). length text.class.times) text texts);
    })
