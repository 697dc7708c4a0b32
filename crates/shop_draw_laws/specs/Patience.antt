-- Who joins a line, and the patience that is drawn then.
use Rattle.std.specs.Prelude.{ℕ, ◌==◌, ◌&&◌, if◌then◌else◌, List, [], map}
use Rattle.std.specs.List.{flat_map}
use Rattle.event_key.specs.Stamps.{time_part}
use Rattle.model_core.specs.declared.event.Event.{Event}
use Rattle.model_core.specs.declared.words.TheConstants.{WAITING_WORD}
use Rattle.random_streams.specs.declared.delay_law.DelayLaw.{DelayLaw}
use Rattle.run_laws.specs.Reached.{gathered}
use Rattle.run_laws.specs.Sent.{first_of}
use Rattle.sim_spec.specs.declared.terms.Terms.{Terms}
use Rattle.sim_spec.specs.Run.{Next, stops, does}
use Rattle.sim_spec.specs.State.{State}
use Rattle.shop_model.specs.Meaning.{shop_meaning}
use Rattle.shop_model.specs.ShopParts.{ShopParts, routes_of}
use Rattle.shop_model.specs.Sites.{place_of}
use Rattle.shop_laws.specs.Told.{word_told, first_told, cells_at}
use Rattle.shop_draw_laws.specs.DrawLaws.{value_at}
use Rattle.shop_draw_laws.specs.Draws.{laws_of, patience_at, step_come}

-- a job of this id waits since this tick, for so many ticks at most
pub record Waiter : Type 0 where
  pub id : ℕ
  pub since : ℕ
  pub patience : ℕ

-- who joins the line of an object next, with the patience that is drawn from the object's words, if its visit has one
abbrev pub joins_next : ShopParts → ℕ → State → Next → List Waiter
joins_next p i s (stops stop) = []
joins_next p i s (does told after) =
    if told.0.dest == i && word_told told.1 == WAITING_WORD
    then flat_map
    (λ (e : Event). map
    (λ (law : DelayLaw). record { id = first_told told.1; since = time_part told.0.stamp; patience = value_at p i (place_of (cells_at s i)) law })
    (laws_of (patience_at (step_come (routes_of p) e))))
    (first_of s.pending)
    else []

-- who joined within the first n events
abbrev pub joined : ShopParts → Terms → ℕ → ℕ → List Waiter
joined p t i n = gathered (joins_next p i) n (shop_meaning p) t
