-- The text of a saved state: lines of words and numbers, and then the bytes of its model.
use Rattle.std.specs.Prelude.{ℕ, List, ◌++◌, length, decimal, codes}
use Rattle.std.specs.List.{flat_map}
use Rattle.event_key.specs.declared.key.Key.{Key}
use Rattle.model_core.specs.declared.event.Event.{Event}
use Rattle.sim_spec.specs.Firing.{ObjectState}
use Rattle.sim_spec.specs.State.{State}
use Rattle.sim_io.specs.Texts.{stamp_text}

-- a space and a number
unfoldable pub field_text : ℕ → List ℕ
field_text n = codes " " ++ decimal n

-- how many numbers there are, and the numbers
unfoldable pub counted_text : List ℕ → List ℕ
counted_text ns = field_text (length ns) ++ flat_map field_text ns

-- a line of a word and a number
unfoldable pub named_text : List ℕ → ℕ → List ℕ
named_text word n = word ++ (field_text n ++ codes "\n")

-- an object: how much it has sent, its words, and its lines of values
unfoldable pub object_text : ObjectState → List ℕ
object_text o =
    codes "object" ++ (field_text o.sent ++ (counted_text o.cells.words
    ++ (field_text (length o.cells.lines) ++ (flat_map counted_text o.cells.lines ++ codes "\n"))))

-- when, of which rank, where, from where, and as how manieth of its source
unfoldable pub key_text : Key → List ℕ
key_text key =
    stamp_text key.stamp ++ (field_text key.rank ++ (field_text key.dest ++ (field_text key.src ++ field_text key.serial)))

-- an event: its key, what it is, and its two numbers
unfoldable pub event_text : Event → List ℕ
event_text e =
    codes "event " ++ (key_text e.key ++ (field_text e.kind ++ (field_text e.a ++ (field_text e.b ++ codes "\n"))))

-- the whole text: the state, and the bytes of its model behind a line with their number
unfoldable pub state_text : State → List ℕ → List ℕ
state_text s model =
    codes "state 1\n" ++ (named_text (codes "count") s.count
    ++ (named_text (codes "objects") (length s.objects) ++ (flat_map object_text s.objects
    ++ (named_text (codes "events") (length s.pending) ++ (flat_map event_text s.pending
    ++ (named_text (codes "model") (length model) ++ model))))))
