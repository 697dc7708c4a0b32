-- Pass two: the names of stations and the labels of steps become numbers.
use Rattle.std.specs.Prelude.{ℕ, List, Ok}
use Rattle.shop_model.specs.declared.class.Class.{Class}
use Rattle.shop_model.specs.declared.step.Step.{Step}
use Rattle.shop_model.specs.declared.step.Step.TheVariants.{Visit, Free, Delay, Go}
use Rattle.shop_text.specs.declared.named.NamedStep.{NamedStep}
use Rattle.shop_text.specs.declared.named.NamedStep.TheVariants.{Visit as NamesVisit, Free as NamesFree, Delay as NamesDelay, Go as NamesGo}
use Rattle.shop_text.specs.declared.named.NamedVisit.{NamedVisit}
use Rattle.shop_text.specs.declared.named.VisitNames.{VisitNames}
use Rattle.shop_text.specs.declared.links.VisitLinks.{VisitLinks}
use Rattle.text_fields.specs.Checks.{Checked, ◌>>=◌}
use Rattle.text_fields.specs.Fields.{each_of}
use Rattle.text_fields.specs.Links.{link, links}
use Rattle.text_fields.specs.Names.{Finder}
use Rattle.shop_text.specs.ClassTexts.{ClassText}

-- the station first, and then the labels
unfoldable pub visit_links : Finder → Finder → ℕ → VisitNames → Checked VisitLinks
visit_links find labels at names = do
  station ← link find at names.station
  away ← link labels at names.away
  full ← link labels at names.full
  Ok (record { station = station; away = away; full = full })

abbrev pub visit_with : NamedVisit → VisitLinks → Step
visit_with visit links =
    Visit (record { station = links.station; service = visit.service; patience = visit.patience; away = links.away; full = links.full })

unfoldable pub linked_visit : Finder → Finder → ℕ → NamedVisit → Checked Step
linked_visit find labels at visit = do
  links ← visit_links find labels at visit.names
  Ok (visit_with visit links)

abbrev pub linked_step : Finder → Finder → ℕ → NamedStep → Checked Step
linked_step find labels at (NamesVisit visit) = linked_visit find labels at visit
linked_step find labels at (NamesFree station) = link find at station >>= (λ number. Ok (Free number))
linked_step find labels at (NamesDelay law) = Ok (Delay law)
linked_step find labels at (NamesGo steps weights) =
    links labels at steps >>= (λ numbers. Ok (Go (record { steps = numbers; weights = weights })))

-- the steps one after another
abbrev pub linked_steps : Finder → Finder → ℕ → List NamedStep → Checked (List Step)
linked_steps find labels at steps = each_of (λ k. linked_step find labels at) 0 steps

unfoldable pub linked_class : Finder → ℕ → ClassText → Checked Class
linked_class find at text = do
  route ← linked_steps find text.labels at text.route
  Ok (record text.class { route = route })

-- the classes one after another, with items from this one on
abbrev pub linked_classes : Finder → ℕ → List ClassText → Checked (List Class)
linked_classes find first texts = each_of (linked_class find) first texts
