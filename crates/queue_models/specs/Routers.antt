-- What a router does: it sends each job at once to one of several objects, drawn by their weights.
use Rattle.std.specs.Prelude.{ℕ, [], ◌∷◌, slice_index}
use Rattle.delta_exchange.specs.Changes.{CellData}
use Rattle.model_core.specs.declared.effect.Outcome.{Outcome}
use Rattle.model_core.specs.declared.effect.Outcome.TheVariants.{Goes}
use Rattle.model_core.specs.declared.event.Event.{Event}
use Rattle.model_core.specs.declared.words.TheConstants.{ROUTED_WORD}
use Rattle.random_streams.specs.declared.law.Law.TheVariants.{Choice}
use Rattle.queue_models.specs.declared.router.Router.{Router}
use Rattle.queue_models.specs.declared.site.Site.{Site}
use Rattle.model_core.specs.Places.{place_changes}
use Rattle.queue_models.specs.Sites.{place_of, drawn_at, job_to, told}

unfoldable pub router_effect : Site → Router ℕ → CellData → Event → Outcome
router_effect site router cells event =
    let way = drawn_at site cells (Choice router.weights) in
    let dest = slice_index router.next way.0 in
    Goes (record {
      changes = place_changes (place_of cells) way.1;
      sends = job_to site dest 0 event.a event.b ∷ [];
      note = told ROUTED_WORD event.a dest;
    })
