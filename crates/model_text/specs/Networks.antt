-- The check of the body of a network: both arrays, and then three passes. It gives what the network means under each seed.
use Rattle.std.specs.Prelude.{ℕ, ◌+◌, List, length, Ok, codes}
use Rattle.toml.specs.Data.{array, Members, Items, no_items}
use Rattle.model_core.specs.declared.limits.TheConstants.{MOST_ENTRIES, MOST_OBJECTS}
use Rattle.model_core.specs.Meaning.{Meaning}
use Rattle.queue_models.specs.declared.network.Network.{Network}
use Rattle.queue_models.specs.Objects.{network_of, network_under}
use Rattle.queue_models.specs.Meaning.{network_meaning}
use Rattle.queue_models.specs.Views.{parts_of}
use Rattle.model_text.specs.declared.formats.Format.{Format}
use Rattle.text_fields.specs.Checks.{Checked, ◌>>=◌}
use Rattle.text_fields.specs.Fields.{array_of, optional}
use Rattle.model_text.specs.Jobs.{jobs_from}
use Rattle.model_text.specs.Names.{NamedItem, place_in}
use Rattle.model_text.specs.Objects.{objects, linked_from}

-- what a network means under each seed
abbrev pub network_family : Network → ℕ → Meaning
network_family model seed = network_meaning (network_under seed (parts_of model))

-- passes two and three, after pass one; the items of the objects begin with 1, and those of the jobs follow them
unfoldable pub linked_network : Format → List NamedItem → Items → Checked (ℕ → Meaning)
linked_network format named entries = do
  linked ← linked_from (place_in named) 1 named
  jobs ← jobs_from format (place_in named) (length named + 1) entries
  Ok (λ seed. network_meaning (network_of seed linked jobs))

unfoldable pub network : Format → Members → Checked (ℕ → Meaning)
network format ms = do
  tables ← array_of 0 MOST_OBJECTS (optional (array no_items) (codes "object") ms)
  entries ← array_of 0 MOST_ENTRIES (optional (array no_items) (codes "job") ms)
  named ← objects format tables
  linked_network format named entries
