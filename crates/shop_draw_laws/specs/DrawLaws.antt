-- Each object of a shop draws from its own stream, each time where it stopped before.
use Rattle.std.specs.Prelude.{◌≡◌, ℕ, ◌+◌, ◌<◌, List, ◌∷◌, All, length, slice_index, Option, None, Some}
use Rattle.std.specs.Option.{ForSome}
use Rattle.event_key.specs.declared.key.Key.{Key}
use Rattle.delta_exchange.specs.Changes.{CellData}
use Rattle.model_core.specs.declared.event.Event.{Event}
use Rattle.model_core.specs.declared.event.Send.{Send}
use Rattle.model_core.specs.declared.note.Note.{Note}
use Rattle.random_streams.specs.declared.delay_law.DelayLaw.{DelayLaw}
use Rattle.random_streams.specs.declared.delay_law.DelayLaw.TheVariants.{Plain}
use Rattle.random_streams.specs.declared.law.Law.TheVariants.{Choice}
use Rattle.random_streams.specs.Delays.{draw_delay}
use Rattle.run_laws.specs.Reached.{after_events, Reaches}
use Rattle.sim_spec.specs.declared.terms.Terms.{Terms}
use Rattle.sim_spec.specs.Run.{does, next}
use Rattle.sim_spec.specs.State.{State}
use Rattle.shop_model.specs.declared.kinds.TheConstants.{MAKE}
use Rattle.shop_model.specs.declared.step.Branch.{Branch}
use Rattle.shop_model.specs.declared.step.Step.TheVariants.{Go}
use Rattle.shop_model.specs.Jobs.{step_of}
use Rattle.shop_model.specs.Meaning.{class_of_object, effect_at, shop_meaning}
use Rattle.shop_model.specs.ShopParts.{ShopParts, IsShop, routes_of}
use Rattle.shop_model.specs.Sites.{place_of}
use Rattle.shop_laws.specs.Told.{cells_at}
use Rattle.shop_draw_laws.specs.Draws.{laws_of, step_come, delay_law, laws_by, place_behind}

-- the random place of an object is behind the words that its laws have read, from word 0 on
abbrev pub PlacesFollow : Type 0
PlacesFollow =
    (p : ShopParts) (t : Terms) (i n : ℕ) → IsShop p → i < length p.stations + length p.classes
    → place_of (cells_at (after_events n (shop_meaning p) t) i) ≡ place_behind p.seed i 0 (laws_by p t i n)

-- the value of a law from a place of an object's words on
abbrev pub value_at : ShopParts → ℕ → ℕ → DelayLaw → ℕ
value_at p object place law = (draw_delay p.seed object place law).0

-- how many jobs an arrival brings, by the law of its class, if there is one
abbrev pub brought : ShopParts → ℕ → ℕ → Option DelayLaw → ℕ
brought p object place None = 1
brought p object place (Some law) = value_at p object place law

-- what is drawn shows in the events that are sent from an object with these cells
pub record AreDrawn (p : ShopParts) (cells : CellData) (e : Event) (sends : List Send) : Type 0 where
  -- services, patiences, standstills, times of work and stays
  pub delays : All (λ (s : Send). ForSome (delay_law p e s) (λ law. s.delay ≡ value_at p e.key.dest (place_of cells) law)) sends
  -- the step to which a job goes
  pub ways : (branch : Branch) → step_come (routes_of p) e ≡ Some (Go branch)
      → All (λ (s : Send). step_of s.a ≡ slice_index branch.steps (value_at p e.key.dest (place_of cells) (Plain (Choice branch.weights)))) sends
  -- the others of an arrival, beside the one that is made now
  pub batches : e.kind ≡ MAKE → e.a ≡ 0
      → All (λ (s : Send). s.kind ≡ MAKE → s.b ≡ 0 → s.a + 1 ≡ brought p e.key.dest (place_of cells) (class_of_object p e.key.dest).batch) sends
  -- the next arrival, drawn after these
  pub gaps : e.kind ≡ MAKE
      → (let place = place_behind p.seed e.key.dest (place_of cells) (laws_of (class_of_object p e.key.dest).batch) in
      All (λ (s : Send). s.kind ≡ MAKE → s.b ≡ 1 → ForSome (class_of_object p e.key.dest).every (λ law. s.delay ≡ value_at p e.key.dest place law)) sends)

-- by the next event of each reached state
abbrev pub ValuesAreDrawn : Type 0
ValuesAreDrawn =
    (p : ShopParts) (t : Terms) (s : State) (told : Key × Note) (after : State) (e : Event) (rest : List Event) → IsShop p → Reaches (shop_meaning p) t s
    → next (shop_meaning p) t s ≡ does told after → s.pending ≡ e ∷ rest
    → AreDrawn p (cells_at s e.key.dest) e (effect_at p e.key.dest (cells_at s e.key.dest) e).sends
