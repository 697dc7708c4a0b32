-- What a PHOLD model means: every event hops on to another object after a drawn delay.
use Rattle.std.specs.Prelude.{ℕ, ◌+◌, ◌%◌, ◌^◌, ◌==◌, ◌&&◌, Bool, if◌then◌else◌, List, [], ◌∷◌, ◌++◌, length, map, flat_map, replicate, slice_index, slice_index_or, codes, decimal}
use Rattle.std.specs.List.{range_with_len}
use Rattle.delta_exchange.specs.Changes.{CellData}
use Rattle.model_core.specs.declared.effect.Outcome.{Outcome}
use Rattle.model_core.specs.declared.effect.Outcome.TheVariants.{Goes}
use Rattle.model_core.specs.declared.event.Start.{Start}
use Rattle.model_core.specs.declared.words.TheConstants.{HOP_WORD}
use Rattle.model_core.specs.Meaning.{Meaning}
use Rattle.model_core.specs.Words.{record_word, fault_word}
use Rattle.model_core.specs.Places.{place_changes}
use Rattle.random_streams.specs.Laws.{draw}
use Rattle.random_streams.specs.Words.{word_of}
use Rattle.phold_model.specs.Parts.{PholdParts}

-- an initial event
abbrev pub hop_start : ℕ → ℕ → ℕ → Start
hop_start time object rank = record { time = time; dest = object; kind = 4; a = 0; b = 0; rank = rank }

-- the initial events: object by object as many at time 0 as each has, then the further ones in their order
unfoldable pub starts_of : PholdParts → List Start
starts_of p =
    flat_map (λ object. replicate p.each (hop_start 0 object p.rank)) (range_with_len 0 p.objects)
    ++ map (λ entry. hop_start entry.time entry.at entry.rank) p.start

-- the delay of a hop from an object whose random place is this
unfoldable pub hop_delay : PholdParts → ℕ → ℕ → ℕ
hop_delay p object place = (draw p.seed object place p.delay).0

-- its destination: the next object, or the word after those of the delay, modulo the number of objects
unfoldable pub hop_dest : PholdParts → ℕ → ℕ → ℕ
hop_dest p object place =
    if p.uniform then word_of p.seed object (draw p.seed object place p.delay).1 % p.objects else (object + 1) % p.objects

-- the place after the words that it reads
unfoldable pub hop_next : PholdParts → ℕ → ℕ → ℕ
hop_next p object place =
    let next = (draw p.seed object place p.delay).1 in if p.uniform then (next + 1) % 2 ^ 64 else next

-- what an event does, whatever its kind: one event is sent on, and told of
unfoldable pub hop_effect : PholdParts → ℕ → CellData → Outcome
hop_effect p object cells =
    let place = slice_index cells.words 0 in
    let delay = hop_delay p object place in
    let dest = hop_dest p object place in
    Goes (record {
      changes = place_changes place (hop_next p object place);
      sends = record { dest = dest; delay = delay; kind = 4; a = 0; b = 0; rank = p.rank } ∷ [];
      note = record { word = HOP_WORD; a = delay; b = dest } ∷ [];
    })

-- one word, the random place, and no line
abbrev pub is_hop_cells : CellData → Bool
is_hop_cells cells = length cells.words == 1 && length cells.lines == 0

unfoldable pub phold_meaning : PholdParts → Meaning
phold_meaning p = record {
  objects = p.objects;
  lawful = λ _ cells. is_hop_cells cells;
  effect = λ object cells _. hop_effect p object cells;
  first = λ _. record { words = 0 ∷ []; lines = [] };
  starts = length (starts_of p);
  start_at = λ i. slice_index_or (starts_of p) i (hop_start 0 0 0);
  label = λ object. codes "p" ++ decimal object;
  word = record_word;
  fault = fault_word;
}
