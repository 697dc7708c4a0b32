-- The check of a step of a route: its label, its form, the fields of its form, and then unknown keys.
use Rattle.std.specs.Prelude.{ℕ, ◌+◌, ◌==◌, true, List, [], ◌∷◌, length, Option, Some, None, is_some, Ok, codes, if◌then◌else◌}
use Rattle.toml.specs.Data.{Data, Items, Members, get_member}
use Rattle.random_streams.specs.declared.delay_law.DelayLaw.{DelayLaw}
use Rattle.shop_model.specs.declared.class.TheConstants.{MOST_STEPS}
use Rattle.shop_text.specs.declared.named.NamedStep.{NamedStep}
use Rattle.shop_text.specs.declared.named.NamedStep.TheVariants.{Visit, Free, Delay, Go}
use Rattle.shop_text.specs.declared.named.VisitNames.{VisitNames}
use Rattle.text_fields.specs.declared.directory.Place.{Place}
use Rattle.text_fields.specs.declared.refusal.Cause.TheVariants.{BadValue, Missing}
use Rattle.text_fields.specs.Checks.{Checked, refusal, refusal_where, ◌>>=◌}
use Rattle.text_fields.specs.Fields.{text, text_or, table_of, item_count, array_of, required, only, each_with}
use Rattle.text_fields.specs.Names.{Finder, new_name, nothing, taken_in}
use Rattle.text_fields.specs.Weights.{ways, weights_or_ones}
use Rattle.shop_text.specs.LawTexts.{delay_law, optional_law}

-- the station, and where a job goes that isn't served
unfoldable pub visit_names : ℕ → List ℕ → Members → Checked VisitNames
visit_names at station ms = do
  away ← text_or at (codes "drop") (get_member (codes "away") ms)
  full ← text_or at (codes "drop") (get_member (codes "full") ms)
  Ok (record { station = station; away = away; full = full })

-- how long a job waits, and where it goes if it isn't served, of a step that has no other keys than these
unfoldable pub visit : ℕ → List ℕ → Option DelayLaw → List (List ℕ) → Members → Checked NamedStep
visit at station service keys ms = do
  patience ← optional_law at (get_member (codes "patience") ms)
  names ← visit_names at station ms
  known ← only at keys ms
  Ok (Visit (record { names = names; service = service; patience = patience }))

unfoldable pub service : ℕ → Members → Checked NamedStep
service at ms = do
  station ← required at (codes "at") ms >>= text at
  law ← required at (codes "service") ms >>= delay_law at
  visit at station (Some law) (codes "label" ∷ codes "at" ∷ codes "service" ∷ codes "patience" ∷ codes "away" ∷ codes "full" ∷ []) ms

unfoldable pub hold : ℕ → Members → Checked NamedStep
hold at ms = do
  station ← required at (codes "hold") ms >>= text at
  visit at station None (codes "label" ∷ codes "hold" ∷ codes "patience" ∷ codes "away" ∷ codes "full" ∷ []) ms

unfoldable pub free : ℕ → Members → Checked NamedStep
free at ms = do
  station ← required at (codes "free") ms >>= text at
  known ← only at (codes "label" ∷ codes "free" ∷ []) ms
  Ok (Free station)

unfoldable pub delay : ℕ → Members → Checked NamedStep
delay at ms = do
  law ← required at (codes "delay") ms >>= delay_law at
  known ← only at (codes "label" ∷ codes "delay" ∷ []) ms
  Ok (Delay law)

unfoldable pub go : ℕ → Members → Checked NamedStep
go at ms = do
  steps ← required at (codes "go") ms >>= ways at
  weights ← weights_or_ones at (length steps) (get_member (codes "weights") ms)
  known ← only at (codes "label" ∷ codes "go" ∷ codes "weights" ∷ []) ms
  Ok (Go steps weights)

-- the first of these keys that is there says which form a step has
abbrev pub step_form : ℕ → Members → Checked NamedStep
step_form at ms =
    if is_some (get_member (codes "at") ms) then service at ms
    else if is_some (get_member (codes "hold") ms) then hold at ms
    else if is_some (get_member (codes "free") ms) then free at ms
    else if is_some (get_member (codes "delay") ms) then delay at ms
    else if is_some (get_member (codes "go") ms) then go at ms
    else refusal Missing at

abbrev pub step_place : ℕ → Place
step_place number = record { number = number; takes_links = true }

-- how labels are found after a step that may have one
abbrev pub label : ℕ → ℕ → Finder → Option Data → Checked Finder
label at number labels None = Ok labels
label at number labels (Some d) = new_name labels at d >>= (λ name. Ok (taken_in labels name (step_place number)))

-- the step with this number, where the labels before it are found so, and how labels are found after it
unfoldable pub step : ℕ → ℕ → Finder → Data → Checked (NamedStep × Finder)
step at number labels d = do
  ms ← table_of at d
  more ← label at number labels (get_member (codes "label") ms)
  form ← step_form at ms
  Ok (form, more)

-- a route of so many steps ends in two further ones: the job leaves, or is given up
abbrev pub route_ends : ℕ → Finder
route_ends steps = taken_in (taken_in nothing (codes "out") (step_place steps)) (codes "drop") (step_place (steps + 1))

-- the steps one after another, numbered from 0 on
abbrev pub steps : ℕ → Items → Checked (List NamedStep × Finder)
steps at ds = each_with (step at) 0 (route_ends (item_count ds)) ds

-- a route, and how its labels are found
unfoldable pub route : ℕ → Data → Checked (List NamedStep × Finder)
route at d = do
  ds ← array_of at MOST_STEPS d
  some ← refusal_where (item_count ds == 0) BadValue at
  steps at ds
