-- Which classes visit a station.
use Rattle.std.specs.Prelude.{ℕ, Bool, false, ◌==◌, List, length}
use Rattle.std.specs.List.{filter, list_any, range_with_len}
use Rattle.shop_model.specs.declared.class.Class.{Class}
use Rattle.shop_model.specs.declared.step.Step.{Step}
use Rattle.shop_model.specs.declared.step.Step.TheVariants.{Visit, Free, Delay, Go}
use Rattle.shop_model.specs.Routes.{class_at}
use Rattle.shop_model.specs.ShopParts.{ShopParts, routes_of}

-- at the step a job is served at the station or takes a server of it
abbrev pub is_visit : ℕ → Step → Bool
is_visit station (Visit visit) = visit.station == station
is_visit station (Free other) = false
is_visit station (Delay law) = false
is_visit station (Go branch) = false

-- the route of a class has such a step
abbrev pub has_visit : ℕ → Class → Bool
has_visit station class = list_any (is_visit station) class.route

-- the classes that visit a station, in order
unfoldable pub classes_at : ShopParts → ℕ → List ℕ
classes_at p station = filter (λ class. has_visit station (class_at (routes_of p) class)) (range_with_len 0 (length p.classes))
