-- The last of the news is taken back.
use Rattle.std.specs.Prelude.{◌≡◌, ℕ, List, [], ◌∷◌, ◌++◌, length, map}
use Rattle.model_core.specs.declared.event.Event.{Event}
use Rattle.object_log.specs.Dones.{Done}
use Rattle.object_log.specs.Tellings.{told_of}
use Rattle.event_log.specs.News.{NewsView}
use Rattle.event_log.specs.Outboxes.{message}

-- the last messages are taken out
pub record TakesLast (old new : List (ℕ × Event)) (count : ℕ) (taken : List Event) : Type 0 where
  pub own : List (ℕ × Event)
  pub split : old ≡ new ++ own
  pub long : length own ≡ count
  pub taken_are : taken ≡ map message own

-- the last event is taken out
pub record HasPopped (old new : NewsView) (entry : Done) : Type 0 where
  pub done : old.done ≡ new.done ++ entry ∷ []
  pub gone : new.gone ≡ told_of entry.event.key entry.verdict ++ old.gone
  pub messages : TakesLast old.sent new.sent (length entry.sends) entry.sends
  pub nodes : new.nodes ≡ old.nodes
