-- That the parts of a shop are in range, and so what an event finds there, has one proof at most.
use Rattle.std.specs.Prelude.{ℕ}
use Rattle.delta_exchange.specs.Changes.{CellData}
use Rattle.shop_model.specs.declared.class.Class.{Class}
use Rattle.shop_model.specs.declared.routes.Routes.{Routes}
use Rattle.shop_model.specs.declared.station.Station.{Station}
use Rattle.shop_model.specs.declared.step.Step.{Step}
use Rattle.shop_model.specs.declared.step.Step.TheVariants.{Visit, Free, Delay, Go}
use Rattle.shop_model.specs.HasStation.{HasStation, IsStation}
use Rattle.shop_model.specs.Parts.{AreRoutes, IsClass, IsStep}
use Rattle.shop_model.specs.ShopParts.{ShopParts, IsShop}
use denote.Struct.Props.{props}

IsStep-prop : (stations steps : ℕ) (step : Step) → IsProp (IsStep stations steps step)
IsStep-prop stations steps (Visit visit) = hlevel props
IsStep-prop stations steps (Free station) = hlevel props
IsStep-prop stations steps (Delay law) = hlevel props
IsStep-prop stations steps (Go branch) = hlevel props

pub IsClass-prop : (stations : ℕ) (class : Class) → IsProp (IsClass stations class)
IsClass-prop stations class = hlevel (props, IsStep-prop)

pub AreRoutes-prop : (routes : Routes) → IsProp (AreRoutes routes)
AreRoutes-prop routes = hlevel (props, IsStep-prop)

pub IsStation-prop : (station : Station) → IsProp (IsStation station)
IsStation-prop station = hlevel props

pub HasStation-prop : (station : Station) (cells : CellData) → IsProp (HasStation station cells)
HasStation-prop station cells = hlevel props

pub IsShop-prop : (p : ShopParts) → IsProp (IsShop p)
IsShop-prop p = hlevel (props, IsStep-prop)
