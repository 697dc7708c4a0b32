-- Events in the order of their keys, one after another.
use Rattle.std.proofs.Common.{◌≡◌, ◌^◌, ◌<◌, true, List, [], ◌∷◌, ◌++◌, Option, Some, None, refl, subst, ◌+◌}
use Rattle.std.specs.List.{AllByRecursion}
use Rattle.event_key.specs.Stamps.{time_part}
use Rattle.model_core.specs.declared.event.Event.{Event}
use Rattle.key_order.specs.Ascending.{Ascends, IsAscending, key_of}
use Rattle.key_order.proofs.AscendingLemmas.{After-head}
use Rattle.run_save.specs.Lines.{event_line, is_above, event}
use Rattle.run_save.specs.Rests.{Rest, formed}
use Rattle.run_save.specs.SavedLaws.{FitsEvent}
use Rattle.run_save.specs.StateTexts.{event_text}
use Rattle.run_save.proofs.CheckLemmas.{bound, joined, passes, passed, same_given}
use Rattle.run_save.proofs.InTurnLemmas.{FitInTurn, IsTaken, IsRead}
use Rattle.run_save.proofs.LineLemmas.{IsTellable, event_line-takes, event_line-reads}
use Rattle.run_save.proofs.RestLemmas.{at}

-- an event that may be told after another one
pub record Follows (before : Option Event) (e : Event) : Type 0 where
  pub told : IsTellable e
  pub above : is_above before e.key ≡ true

pub event-taken : IsTaken event event_text Follows
unfolding event
event-taken before rest x reads =
    let line = bound (event_line rest) _ x reads in
    let order = bound (formed (is_above before line.0.0.key) rest) _ x line.2 in
    let own = event_line-takes rest line.0 line.1 in
    subst (λ (y : Event × Rest). (rest.bytes ≡ event_text y.0 ++ y.1.bytes) × Follows before y.0) (same_given line.0 x order.2)
    (own.0, record { told = own.1; above = passes _ _ _ _ order.1 })

pub event-read : IsRead event event_text Follows
unfolding event
event-read before e more line follows plain = (
  line + 1,
  joined (event_line (at (event_text e ++ more) line)) _ (e, at more (line + 1)) _ (event_line-reads e more line follows.told)
      (joined (formed (is_above before e.key) (at (event_text e ++ more) line)) _ tt _ (passed _ _ _ follows.above) refl),
)

pub turn_ascends : (before : Option Event) (es : List Event) → FitInTurn Follows before es → IsAscending es
unfolding Ascends
turn_ascends before [] fit = tt
turn_ascends before (e ∷ []) fit = (tt, tt)
turn_ascends before (e ∷ f ∷ es) fit =
    let rest = turn_ascends (Some e) (f ∷ es) fit.1 in
    (After-head key_of e.key f es fit.1.0.above rest, rest)

pub ascends_turn : (before : Option Event) (e : Event) (es : List Event) → is_above before e.key ≡ true → IsAscending (e ∷ es) → AllByRecursion IsTellable (e ∷ es) → FitInTurn Follows before (e ∷ es)
unfolding Ascends
ascends_turn before e [] above up told = (record { told = told.0; above = above }, tt)
ascends_turn before e (f ∷ es) above up told = (record { told = told.0; above = above }, ascends_turn (Some e) f es up.0.0 up.1 told.1)

pub first_turn : (es : List Event) → IsAscending es → AllByRecursion IsTellable es → FitInTurn Follows None es
first_turn [] up told = tt
first_turn (e ∷ es) up told = ascends_turn None e es refl up told

-- what is told of each event: its time, and that the types hold its numbers
pub told_times : (before : Option Event) (es : List Event) → FitInTurn Follows before es → AllByRecursion (λ e. time_part e.key.stamp < 2 ^ 47) es
told_times before [] fit = tt
told_times before (e ∷ es) fit = (fit.0.told.time, told_times (Some e) es fit.1)

pub told_fits : (before : Option Event) (es : List Event) → FitInTurn Follows before es → AllByRecursion FitsEvent es
told_fits before [] fit = tt
told_fits before (e ∷ es) fit = (fit.0.told.fits, told_fits (Some e) es fit.1)

pub tellable : (es : List Event) → AllByRecursion (λ e. time_part e.key.stamp < 2 ^ 47) es → AllByRecursion FitsEvent es → AllByRecursion IsTellable es
tellable [] times fits = tt
tellable (e ∷ es) times fits = (record { time = times.0; fits = fits.0 }, tellable es times.1 fits.1)
