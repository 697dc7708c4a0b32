-- The parts of a network lie within their bounds, and name what there is.
use Rattle.std.specs.Prelude.{◌≡◌, ◌≢◌, ℕ, ◌^◌, ◌<◌, ◌≤◌, ◌==◌, ◌||◌, ◌&&◌, nat_le, not, Bool, false, IsTrue, List, length, All}
use Rattle.std.specs.List.{AllPairs, list_all}
use Rattle.event_key.specs.declared.key.TheConstants.{MOST_RANK}
use Rattle.model_core.specs.declared.entry.Entry.{Entry}
use Rattle.model_core.specs.declared.limits.TheConstants.{MOST_ENTRIES, MOST_OBJECTS}
use Rattle.queue_models.specs.Kinds.{IsKind, is_source, is_station}
use Rattle.queue_models.specs.Objects.{Item, NetworkParts, object_at}

-- an ASCII letter, a digit, '_' or '-'
abbrev pub is_name_byte : ℕ → Bool
is_name_byte byte =
    nat_le 65 byte && nat_le byte 90 || nat_le 97 byte && nat_le byte 122 || nat_le 48 byte && nat_le byte 57 || byte == 95 || byte == 45

pub record IsName (name : List ℕ) : Type 0 where
  pub some : 1 ≤ length name
  pub short : length name ≤ 16
  pub bytes : IsTrue (list_all is_name_byte name)

-- an object that there is, and that takes jobs
pub record IsLink (objects : List Item) (number : ℕ) : Type 0 where
  pub exists : number < length objects
  pub takes : is_source (object_at objects number).kind ≡ false

-- only a station is traced
pub record IsObject (objects : List Item) (object : Item) : Type 0 where
  pub name : IsName object.name
  pub kind : IsKind (IsLink objects) object.kind
  pub rank : object.rank ≤ MOST_RANK
  pub traced : IsTrue (not object.trace || is_station object.kind)

-- a job begins at an object that takes jobs
pub record IsJob (objects : List Item) (job : Entry) : Type 0 where
  pub time : job.time < 2 ^ 46
  pub at : IsLink objects job.at
  pub rank : job.rank ≤ MOST_RANK

pub record IsNetwork (p : NetworkParts) : Type 0 where
  pub seed : p.seed < 2 ^ 63
  pub few_objects : length p.objects ≤ MOST_OBJECTS
  pub few_jobs : length p.jobs ≤ MOST_ENTRIES
  pub names : AllPairs (λ (a b : Item). a.name ≢ b.name) p.objects
  pub objects : All (IsObject p.objects) p.objects
  pub jobs : All (IsJob p.objects) p.jobs
