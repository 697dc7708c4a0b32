-- The serials of what an object has sent.
use Rattle.std.specs.Prelude.{◌≡◌, ℕ, ◌<◌, List}
use Rattle.std.specs.List.{AllByRecursion}
use Rattle.model_core.specs.declared.event.Event.{Event}

-- what one object has sent has serials below n
abbrev pub SerialsBelow : ℕ → ℕ → List Event → Type 0
SerialsBelow object n es = AllByRecursion (λ e. e.key.src ≡ object → e.key.serial < n) es
