-- The objects of a network, and the parts of which it is made.
use Rattle.std.specs.Prelude.{ℕ, false, None, List, [], length, slice_index_or}
use Rattle.std.specs.List.{filter, range_with_len}
use Rattle.model_core.specs.declared.entry.Entry.{Entry}
use Rattle.queue_models.specs.declared.kind.ItemOver.{ItemOver}
use Rattle.queue_models.specs.declared.kind.KindOver.TheVariants.{Sink}
use Rattle.queue_models.specs.Kinds.{is_source}

-- an object that sends to objects by their numbers
abbrev pub Item : Type 0
Item = ItemOver ℕ

-- a seed, the objects, and the jobs that are there beside those of the sources
pub record NetworkParts : Type 0 where
  pub seed : ℕ
  pub objects : List Item
  pub jobs : List Entry

abbrev pub network_of : ℕ → List Item → List Entry → NetworkParts
network_of seed objects jobs = record { seed = seed; objects = objects; jobs = jobs }

-- the same parts with another seed
abbrev pub network_under : ℕ → NetworkParts → NetworkParts
network_under seed p = network_of seed p.objects p.jobs

-- what stands for an object where there is none
abbrev pub no_object : Item
no_object = record { name = []; kind = Sink (record { due = None }); rank = 0; quiet = false; trace = false }

-- objects are numbered from 0 on, in their order
abbrev pub object_at : List Item → ℕ → Item
object_at objects number = slice_index_or objects number no_object

-- the numbers of the sources among the first objects, in their order
unfoldable pub sources_below : List Item → ℕ → List ℕ
sources_below objects count = filter (λ number. is_source (object_at objects number).kind) (range_with_len 0 count)

abbrev pub source_numbers : List Item → List ℕ
source_numbers objects = sources_below objects (length objects)
