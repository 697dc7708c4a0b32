-- Records whose parts stand in one list.
use Rattle.std.specs.Prelude.{ℕ, ◌+◌, ◌*◌, ◌^◌, ◌≤◌, List, length, map, take, drop, All}
use Rattle.std.specs.Vec.{vec_capacity}
use Rattle.std.specs.declared.vec.Vec.{Vec}
use Rattle.event_key.specs.declared.key.Key.{Key}
use Rattle.model_core.specs.declared.note.Note.{Note}
use Rattle.model_core.specs.declared.note.Part.{Part}
use Rattle.model_core.specs.declared.record_head.RecordHead.{RecordHead}

-- what contracts see of a buffer: its records, and for how many more there is room, whatever they tell
pub record RecordsView : Type 0 where
  pub items : List (Key × Note)
  pub room : ℕ

-- a record by its head and the parts of all records
abbrev pub record_of : List Part → RecordHead → Key × Note
record_of parts head = (head.key, take head.count (drop head.start parts))

abbrev pub records_of : List RecordHead → List Part → List (Key × Note)
records_of heads parts = map (record_of parts) heads

abbrev pub record_key : Key × Note → Key
record_key told = told.0

abbrev pub head_key : RecordHead → Key
head_key head = head.key

-- where an event comes among others, but for its source and serial
abbrev pub place : Key → ℕ
place key = key.stamp * 2 ^ 64 + key.rank * 2 ^ 32 + key.dest

-- a head whose parts lie so much further on
abbrev pub shifted : ℕ → RecordHead → RecordHead
shifted by head = record head { start = head.start + by }

-- the parts of a record are among these, and at most four
pub record IsAmong (parts : List Part) (head : RecordHead) : Type 0 where
  pub end : head.start + head.count ≤ length parts
  pub few : head.count ≤ 4

module _ {Z : Type 0} where
  -- all parts are there and few others, with room for so many more records
  pub record AreKept (heads : Vec RecordHead Z) (parts : Vec Part Z) (room : ℕ) : Type 0 where
    pub among : All (IsAmong parts.items) heads.items
    pub head_room : length heads.items + room ≤ vec_capacity heads
    pub part_room : length parts.items + 4 * room ≤ vec_capacity parts
    pub few_parts : length parts.items ≤ 4 * length heads.items
