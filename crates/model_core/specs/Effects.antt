-- What an event does, as it stands in a sheet.
use Rattle.std.specs.Prelude.{[]}
use Rattle.model_core.specs.declared.effect.Effect.{Effect}
use Rattle.model_core.specs.declared.effect.Ending.{Ending}
use Rattle.model_core.specs.declared.effect.Ending.TheVariants as ending
use Rattle.model_core.specs.declared.effect.Outcome.{Outcome}
use Rattle.model_core.specs.declared.effect.Outcome.TheVariants.{Goes, Fails}

-- nothing is changed, sent or told
abbrev pub blank : Effect
blank = record { changes = []; sends = []; note = [] }

-- what an event comes to, by its ending and its sheet
abbrev pub outcome_by : Ending → Effect → Outcome
outcome_by ending.Goes sheet = Goes sheet
outcome_by (ending.Fails code) sheet = Fails code
