-- The lines of a state text, each as it is read.
use Rattle.std.specs.Prelude.{ℕ, ◌-◌, ◌^◌, Bool, true, ◌&&◌, ◌==◌, nat_lt, List, length, codes, Option, Some, None, Ok}
use Rattle.event_key.specs.declared.key.Key.{Key}
use Rattle.event_key.specs.Keys.{key_lt}
use Rattle.event_key.specs.Stamps.{stamp_at}
use Rattle.model_core.specs.declared.event.Event.{Event}
use Rattle.model_core.specs.declared.limits.TheConstants.{MOST_OBJECTS, MOST_TEXT_BYTES}
use Rattle.sim_spec.specs.Firing.{ObjectState}
use Rattle.sim_spec.specs.State.{State}
use Rattle.run_save.specs.Checks.{Checked, ◌>>=◌}
use Rattle.run_save.specs.Rests.{Rest, formed, after, next_line, number, field, small_field, any_field, in_turn, each, counted}

-- a line of a word and a number
unfoldable pub named : List ℕ → ℕ → Rest → Checked (ℕ × Rest)
named word most rest = do
  behind ← after word rest
  value ← field most behind
  next ← next_line value.1
  Ok (value.0, next)

-- the line of an object
unfoldable pub object : Rest → Checked (ObjectState × Rest)
object rest = do
  behind ← after (codes "object") rest
  sent ← any_field behind
  words ← counted sent.1
  many ← any_field words.1
  lines ← each counted many.0 many.1
  next ← next_line lines.1
  Ok (record { cells = record { words = words.0; lines = lines.0 }; sent = sent.0 }, next)

-- a time and a step
unfoldable pub stamp : Rest → Checked (ℕ × Rest)
stamp rest = do
  time ← number (2 ^ 47 - 1) rest
  dot ← after (codes ".") time.1
  step ← number 65535 dot
  Ok (stamp_at time.0 step.0, step.1)

unfoldable pub key : Rest → Checked (Key × Rest)
key rest = do
  stamp ← stamp rest
  rank ← small_field stamp.1
  dest ← small_field rank.1
  src ← small_field dest.1
  serial ← any_field src.1
  Ok (record { stamp = stamp.0; rank = rank.0; dest = dest.0; src = src.0; serial = serial.0 }, serial.1)

-- the line of an event, in whatever order
unfoldable pub event_line : Rest → Checked (Event × Rest)
event_line rest = do
  behind ← after (codes "event ") rest
  key ← key behind
  kind ← small_field key.1
  a ← any_field kind.1
  b ← any_field a.1
  next ← next_line b.1
  Ok (record { key = key.0; kind = kind.0; a = a.0; b = b.0 }, next)

-- the key is above that of the event before, if there is one
abbrev pub is_above : Option Event → Key → Bool
is_above None key = true
is_above (Some before) key = key_lt before.key key

-- the line of an event, in the order of the keys
unfoldable pub event : Option Event → Rest → Checked (Event × Rest)
event before rest = do
  read ← event_line rest
  in_order ← formed (is_above before read.0.key) rest
  Ok read

-- the line of the model's length, and as many bytes, which are all that is left
unfoldable pub model_bytes : Rest → Checked (List ℕ)
model_bytes rest = do
  size ← named (codes "model") MOST_TEXT_BYTES rest
  whole ← formed (nat_lt 0 size.0 && size.0 == length size.1.bytes) rest
  Ok size.1.bytes

-- what a state text says, with the line of its model
pub record Draft : Type 0 where
  pub state : State
  pub model : List ℕ
  pub line : ℕ

-- all lines, from the first to the last
unfoldable pub whole_text : Rest → Checked Draft
whole_text rest = do
  head ← after (codes "state 1") rest
  second ← next_line head
  count ← named (codes "count") (2 ^ 64 - 1) second
  many ← named (codes "objects") MOST_OBJECTS count.1
  objects ← each object many.0 many.1
  waiting ← named (codes "events") (2 ^ 64 - 1) objects.1
  pending ← in_turn event None waiting.0 waiting.1
  model ← model_bytes pending.1
  Ok (record {
    state = record { objects = objects.0; pending = pending.0; count = count.0 };
    model = model;
    line = pending.1.line;
  })
