-- What the nodes commit and send, part by part.
use Rattle.std.specs.Prelude.{◌≡◌, ℕ, zero, suc, List, [], ◌++◌, filter, ◌==◌, Option}
use Rattle.std.specs.List.{AllByRecursion}
use Rattle.event_key.specs.declared.key.Key.{Key}
use Rattle.model_core.specs.declared.event.Event.{Event}
use Rattle.model_core.specs.declared.note.Note.{Note}
use Rattle.model_core.specs.Meaning.{Meaning}
use Rattle.sim_spec.specs.Firing.{Firing}
use Rattle.key_order.specs.Ascending.{IsAscending}
use Rattle.sim_spec.specs.Cut.{events_of, emissions_of, records_of}
use Rattle.sim_spec.specs.Replay.{done_at}
use Rattle.key_order.specs.Due.{is_due}
use Rattle.world_spec.specs.Share.{is_at, IsHome, IsAtHome, NodeData}

-- what a node has done of these
abbrev pub done_of : (ℕ → ℕ) → ℕ → List (Event × Firing) → List (Event × Firing)
done_of home node done = filter (λ d. home d.0.key.dest == node) done

-- what one node sends to another
abbrev pub parcel : (ℕ → ℕ) → List (Event × Firing) → ℕ → ℕ → List Event
parcel home done from to = filter (is_at home to) (emissions_of (done_of home from done))

-- what the first n nodes send to a node
unfoldable pub parcels : (ℕ → ℕ) → List (Event × Firing) → ℕ → ℕ → List Event
parcels home done to zero = []
parcels home done to (suc n) = parcels home done to n ++ parcel home done n to

-- what the first n nodes tell, node by node
unfoldable pub records_by_node : (ℕ → ℕ) → List (Event × Firing) → ℕ → List (Key × Note)
records_by_node home done zero = []
records_by_node home done (suc n) = records_by_node home done n ++ records_of (done_of home n done)

-- what a node's commit hands out: in the order of the keys, and object by object what was due in the log
pub record IsHandedOut (m : Meaning) (home : ℕ → ℕ) (node bound : ℕ) (cut : Option Key) (held : NodeData) (done : List (Event × Firing)) : Type 0 where
  pub ordered : IsAscending (events_of done)
  pub homed : AllByRecursion (IsAtHome m home node) (events_of done)
  pub parts : (object : ℕ) → IsHome m home node object → done_at object done ≡ filter (λ d. is_due bound cut d.0.key) (held.log object).done
