-- The check of a class: its fields in their order, its route, and then unknown keys.
use Rattle.std.specs.Prelude.{ℕ, ◌+◌, ◌-◌, false, List, [], ◌∷◌, length, Ok, codes}
use Rattle.toml.specs.Data.{Data, array, Items, no_items, Members, get_member}
use Rattle.event_key.specs.declared.stamp.TheConstants.{LAST_TICK}
use Rattle.shop_model.specs.declared.class.Class.{Class}
use Rattle.shop_model.specs.declared.class.TheConstants.{MOST_COUNT, MOST_DUE, MOST_PRIORITY, MOST_TIMES}
use Rattle.shop_text.specs.declared.arrivals.Arrivals.{Arrivals}
use Rattle.shop_text.specs.declared.arrivals.Batches.{Batches}
use Rattle.shop_text.specs.declared.arrivals.Window.{Window}
use Rattle.shop_text.specs.declared.classes.Urgency.{Urgency}
use Rattle.shop_text.specs.declared.named.NamedStep.{NamedStep}
use Rattle.text_fields.specs.declared.directory.Place.{Place}
use Rattle.text_fields.specs.Checks.{Checked, ◌>>=◌}
use Rattle.text_fields.specs.Fields.{number, number_or, optional_number, table_of, array_of, required, optional, only, each, each_with}
use Rattle.text_fields.specs.Names.{Finder, new_name, taken_in}
use Rattle.shop_text.specs.LawTexts.{optional_law}
use Rattle.shop_text.specs.StepTexts.{route}

-- from when to when jobs arrive
unfoldable pub window : ℕ → Members → Checked Window
window at ms = do
  first ← number_or at 0 0 LAST_TICK (get_member (codes "first") ms)
  until ← number_or at LAST_TICK 0 LAST_TICK (get_member (codes "until") ms)
  Ok (record { first = first; until = until })

-- the ticks of further arrivals, where the classes before name so many
unfoldable pub times : ℕ → ℕ → Members → Checked (List ℕ)
times at before ms = do
  ds ← array_of at (MOST_TIMES - before) (optional (array no_items) (codes "times") ms)
  each (number at 0 LAST_TICK) ds

-- how many jobs arrive at a time, and how many in all
unfoldable pub batches : ℕ → Members → Checked Batches
batches at ms = do
  batch ← optional_law at (get_member (codes "batch") ms)
  count ← number_or at MOST_COUNT 1 MOST_COUNT (get_member (codes "count") ms)
  Ok (record { batch = batch; count = count })

unfoldable pub arrivals : ℕ → ℕ → Members → Checked Arrivals
arrivals at before ms = do
  every ← optional_law at (get_member (codes "every") ms)
  window ← window at ms
  times ← times at before ms
  batches ← batches at ms
  Ok (record { every = every; window = window; times = times; batches = batches })

-- how urgent the jobs of a class are, and how soon they are due
unfoldable pub urgency : ℕ → Members → Checked Urgency
urgency at ms = do
  priority ← number_or at 0 0 MOST_PRIORITY (get_member (codes "priority") ms)
  due ← optional_number at 0 MOST_DUE (get_member (codes "due") ms)
  Ok (record { priority = priority; due = due })

-- a class whose route is to be linked yet, its steps, and how their labels are found
pub record ClassText : Type 0 where
  pub class : Class
  pub route : List NamedStep
  pub labels : Finder

abbrev pub class_with : List ℕ → Arrivals → Urgency → Class
class_with name arrivals urgency = record {
  name = name;
  every = arrivals.every;
  first = arrivals.window.first;
  until = arrivals.window.until;
  times = arrivals.times;
  batch = arrivals.batches.batch;
  count = arrivals.batches.count;
  priority = urgency.priority;
  due = urgency.due;
  route = [];
}

-- a class with this name, but for its route
unfoldable pub class_fields : ℕ → ℕ → List ℕ → Members → Checked Class
class_fields at before name ms = do
  arrivals ← arrivals at before ms
  urgency ← urgency at ms
  Ok (class_with name arrivals urgency)

-- what is known of the stations and classes before: their names, and how many ticks these classes name
pub record Known : Type 0 where
  pub find : Finder
  pub times : ℕ

abbrev pub class_keys : List (List ℕ)
class_keys =
    codes "name" ∷ codes "every" ∷ codes "first" ∷ codes "until" ∷ codes "times" ∷ codes "batch" ∷ codes "count" ∷ codes "priority"
    ∷ codes "due" ∷ codes "route" ∷ []

-- the route of a class, whose table has no other keys than these
unfoldable pub class_route : ℕ → Members → Checked (List NamedStep × Finder)
class_route at ms = do
  route ← required at (codes "route") ms >>= route at
  no_others ← only at class_keys ms
  Ok route

-- a class with this name
unfoldable pub class_named : ℕ → ℕ → List ℕ → Members → Checked ClassText
class_named at before name ms = do
  class ← class_fields at before name ms
  route ← class_route at ms
  Ok (record { class = class; route = route.0; labels = route.1 })

-- no route may name a class
abbrev pub class_place : ℕ → Place
class_place at = record { number = at - 1; takes_links = false }

-- a class, where so much is known of those before it
unfoldable pub class : ℕ → Known → Data → Checked (ClassText × Known)
class at known d = do
  ms ← table_of at d
  name ← required at (codes "name") ms >>= new_name known.find at
  text ← class_named at known.times name ms
  Ok (
    text,
    record { find = taken_in known.find name (class_place at); times = known.times + length text.class.times },
  )

-- the classes one after another, whose items follow those of the stations
abbrev pub classes : ℕ → Finder → Items → Checked (List ClassText × Known)
classes first find ds = each_with class first (record { find = find; times = 0 }) ds
