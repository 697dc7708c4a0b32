-- Carried events and news, read in the order of their keys.
use Rattle.std.specs.Prelude.{◌≡◌, ◌+◌, ◌≤◌, List, ◌∷◌, length, drop, map}
use Rattle.event_key.specs.declared.key.Key.{Key}
use Rattle.object_log.specs.Carrying.{Placed, placed_key}
use Rattle.object_log.specs.Dones.{Done}
use Rattle.object_log.specs.Logs.{keys_of}
use Rattle.object_log.specs.Weave.{weave}
use Rattle.event_log.specs.declared.reading.Reading.{Reading}

abbrev pub own_key : Key → Key
own_key k = k

-- no more was read than there is
pub record IsWithin (read : Reading) (carried : List Placed) (news : List Done) : Type 0 where
  pub carried_in : read.carried ≤ length carried
  pub news_in : read.news ≤ length news

-- the keys that aren't read yet
abbrev pub keys_from : Reading → List Placed → List Done → List Key
keys_from read carried news = weave own_key (drop read.news (keys_of news)) (drop read.carried (map placed_key carried))

-- the first of these, and what is read with it
pub record NextKey (read : Reading) (carried : List Placed) (news : List Done) (key : Key) (next : Reading) : Type 0 where
  pub first : keys_from read carried news ≡ key ∷ keys_from next carried news
  pub within : IsWithin next carried news
  pub one : next.carried + next.news ≡ read.carried + read.news + 1
