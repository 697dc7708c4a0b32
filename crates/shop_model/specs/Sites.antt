-- Where and when an event happens, what an object sends to itself there, and what is drawn.
use Rattle.std.specs.Prelude.{ℕ, List, [], ◌∷◌, Option, None, Some, slice_index}
use Rattle.delta_exchange.specs.Changes.{CellData}
use Rattle.model_core.specs.declared.event.Send.{Send}
use Rattle.model_core.specs.declared.note.Part.{Part}
use Rattle.random_streams.specs.declared.delay_law.DelayLaw.{DelayLaw}
use Rattle.random_streams.specs.Delays.{draw_delay}
use Rattle.random_streams.specs.Words.{StreamView}
use Rattle.shop_model.specs.declared.site.Site.{Site}
use Rattle.shop_model.specs.Kinds.{rank_of}

abbrev pub to_self : Site → ℕ → ℕ → ℕ → ℕ → Send
to_self site delay kind a b = record { dest = site.object; delay = delay; kind = kind; a = a; b = b; rank = rank_of kind }

-- the place of an object's next random word, which is its word 0
abbrev pub place_of : CellData → ℕ
place_of cells = slice_index cells.words 0

-- what an object draws by a law from a place on: the value, and the place after the words that are read
abbrev pub drawn_at : Site → ℕ → DelayLaw → ℕ × ℕ
drawn_at site place law = draw_delay site.seed site.object place law

-- the words of the object, from a place on
abbrev pub words_at : Site → ℕ → StreamView
words_at site place = record { seed = site.seed; object = site.object; place = place }

-- what is drawn from there by a law that may be absent, and then this value
abbrev pub drawn_or : ℕ → StreamView → Option DelayLaw → ℕ × ℕ
drawn_or value words None = (value, words.place)
drawn_or value words (Some law) = draw_delay words.seed words.object words.place law

-- a note of one part
abbrev pub told : ℕ → ℕ → ℕ → List Part
told word a b = record { word = word; a = a; b = b } ∷ []
