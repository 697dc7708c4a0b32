-- What a delay does: it sends each job on after a drawn delay.
use Rattle.std.specs.Prelude.{ℕ, [], ◌∷◌}
use Rattle.delta_exchange.specs.Changes.{CellData}
use Rattle.model_core.specs.declared.effect.Outcome.{Outcome}
use Rattle.model_core.specs.declared.effect.Outcome.TheVariants.{Goes}
use Rattle.model_core.specs.declared.event.Event.{Event}
use Rattle.model_core.specs.declared.words.TheConstants.{HELD_WORD}
use Rattle.queue_models.specs.declared.delay.Delay.{Delay}
use Rattle.queue_models.specs.declared.site.Site.{Site}
use Rattle.model_core.specs.Places.{place_changes}
use Rattle.queue_models.specs.Sites.{place_of, drawn_at, job_to, told}

unfoldable pub delay_effect : Site → Delay ℕ → CellData → Event → Outcome
delay_effect site delay cells event =
    let drawn = drawn_at site cells delay.delay in
    Goes (record {
      changes = place_changes (place_of cells) drawn.1;
      sends = job_to site delay.next drawn.0 event.a event.b ∷ [];
      note = told HELD_WORD event.a drawn.0;
    })
