-- Where an event happens, and what objects of several kinds do there.
use Rattle.std.specs.Prelude.{ℕ, ◌==◌, ◌&&◌, Bool, List, [], ◌∷◌, length, slice_index}
use Rattle.delta_exchange.specs.Changes.{CellData}
use Rattle.model_core.specs.declared.event.Send.{Send}
use Rattle.model_core.specs.declared.note.Part.{Part}
use Rattle.random_streams.specs.declared.law.Law.{Law}
use Rattle.random_streams.specs.Laws.{draw}
use Rattle.queue_models.specs.declared.site.Site.{Site}

-- the place of an object's next random word, which is its word 0
abbrev pub place_of : CellData → ℕ
place_of cells = slice_index cells.words 0

-- what an object draws by a law from its place on: the value, and the place after the words that are read
abbrev pub drawn_at : Site → CellData → Law → ℕ × ℕ
drawn_at site cells law = draw site.seed site.object (place_of cells) law

-- a job on its way to another object, where it arrives after a delay
abbrev pub job_to : Site → ℕ → ℕ → ℕ → ℕ → Send
job_to site object delay job birth = record { dest = object; delay = delay; kind = 3; a = job; b = birth; rank = site.rank }

-- a note of one part
abbrev pub told : ℕ → ℕ → ℕ → List Part
told word a b = record { word = word; a = a; b = b } ∷ []

-- the cells of an object that keeps nothing but its place: one word, and no line
abbrev pub is_plain_cells : CellData → Bool
is_plain_cells cells = length cells.words == 1 && length cells.lines == 0

abbrev pub plain_cells : CellData
plain_cells = record { words = 0 ∷ []; lines = [] }
