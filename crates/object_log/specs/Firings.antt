-- Processed events as firings, in the order of their keys.
use Rattle.std.specs.Prelude.{ℕ, List, [], ◌∷◌, ◌++◌}
use Rattle.model_core.specs.declared.event.Event.{Event}
use Rattle.sim_spec.specs.Firing.{Firing, ObjectState}
use Rattle.object_log.specs.Dones.{Done}
use Rattle.object_log.specs.declared.done.Verdict.{Verdict}
use Rattle.object_log.specs.declared.done.Verdict.TheVariants.{Noted, Failed}
use Rattle.object_log.specs.Logs.{undone}
use Rattle.object_log.specs.Replays.{firing_of}
use Rattle.object_log.specs.EventLogs.{dones_at}

-- an event that went, with what it left
abbrev pub fired_of : ObjectState → Done → Verdict → List (Event × Firing)
fired_of later d (Noted note) = (d.event, firing_of later d note) ∷ []
fired_of later d (Failed code) = []

-- events of one object that has this state once it has processed them and the rest
unfoldable pub firings_at : ObjectState → List Done → List Done → List (Event × Firing)
firings_at state rest [] = []
firings_at state rest (d ∷ ds) = fired_of (undone state (ds ++ rest)) d d.verdict ++ firings_at state rest ds

-- events of many objects
unfoldable pub firings : (ℕ → ObjectState) → List Done → List Done → List (Event × Firing)
firings states rest [] = []
firings states rest (d ∷ ds) = fired_of (undone (states d.event.key.dest) (dones_at d.event.key.dest (ds ++ rest))) d d.verdict ++ firings states rest ds
