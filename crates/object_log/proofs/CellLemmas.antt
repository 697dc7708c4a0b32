-- A cell for each event that is undone.
use Rattle.std.proofs.Common.{◌≡◌, ℕ, ◌+◌, ◌<◌, ◌≤◌, List, [], ◌∷◌, length, refl, arith}
use Rattle.delta_exchange.specs.Views.{CellsView}
use Rattle.model_core.specs.declared.event.Event.{Event}
use Rattle.object_log.specs.Dones.{Done}
use Rattle.object_log.specs.Keeping.{Keeps}
use Rattle.object_log.proofs.KeepingLemmas.{keeps-rest}
use Rattle.std.specs.Prelude.{◌++◌}
use Rattle.object_log.specs.Flat.{none_in, zeros}

-- one event more
pub zeros-push : (ds : List Done) (d : Done) → zeros (ds ++ d ∷ []) ≡ zeros ds + none_in d.sends
unfolding zeros
zeros-push [] d = omega arith
zeros-push (x ∷ xs) d = (let more = zeros-push xs d in omega arith)

by-sends : (n spare later idle idle' : ℕ) (es : List Event) → n ≤ idle → idle + 8 ≤ spare → length es ≤ 8 → spare + 1 ≤ later + length es → (0 < length es → idle' ≡ idle) → (length es ≡ 0 → idle' ≡ idle + 1)
    → (n + none_in es ≤ idle') × (idle' ≤ later) × (idle' ≤ idle + 1)
by-sends n spare later idle idle' [] kept enough few is some none = (let one = none refl in (omega arith, omega arith, omega arith))
by-sends n spare later idle idle' (e ∷ es) kept enough few is some none = (let one = some (omega arith) in (omega arith, omega arith, omega arith))

-- an event fires: its own cell goes to the spare ones, and its messages take theirs. There is a cell for each that sends nothing
pub zeros-fired : (ds : List Done) (d : Done) (spare later idle idle' : ℕ) → zeros ds ≤ idle → idle + 8 ≤ spare → length d.sends ≤ 8 → spare + 1 ≤ later + length d.sends → (0 < length d.sends → idle' ≡ idle) → (length d.sends ≡ 0 → idle' ≡ idle + 1)
    → (zeros (ds ++ d ∷ []) ≤ idle') × (idle' ≤ later) × (idle' ≤ idle + 1)
zeros-fired ds d spare later idle idle' kept enough few is some none =
    let both = by-sends (zeros ds) spare later idle idle' d.sends kept enough few is some none in
    let one = zeros-push ds d in
    let first = both.0 in
    (omega arith, both.1, both.2)

-- what is true of an object's cells and log stays true once its oldest events are committed
pub keeps-left : (cells : CellsView) (sent : ℕ) (gone left : List Done) → Keeps cells sent (gone ++ left) → Keeps cells sent left
keeps-left cells sent [] left k = k
keeps-left cells sent (d ∷ gone) left k = keeps-left cells sent gone left (keeps-rest cells sent d (gone ++ left) k)
