-- Where jobs go on to, and when.
use Rattle.std.specs.Prelude.{◌≡◌, ◌≢◌, ℕ, Bool, true, false, List, [], ◌∷◌, slice_index, Contains}
use Rattle.event_key.specs.declared.key.Key.{Key}
use Rattle.event_key.specs.Stamps.{next_stamp}
use Rattle.model_core.specs.declared.event.Event.{Event}
use Rattle.model_core.specs.declared.note.Note.{Note}
use Rattle.sim_spec.specs.declared.terms.Terms.{Terms}
use Rattle.sim_spec.specs.State.{State}
use Rattle.sim_spec.specs.Run.{does, next}
use Rattle.queue_models.specs.declared.kind.KindOver.{KindOver}
use Rattle.queue_models.specs.declared.kind.KindOver.TheVariants.{Source, Station, Delay, Router}
use Rattle.queue_models.specs.Meaning.{plain_meaning}
use Rattle.queue_models.specs.Objects.{NetworkParts, object_at}
use Rattle.queue_models.specs.Parts.{IsNetwork}
use Rattle.run_laws.specs.Reached.{Reaches}
use Rattle.run_laws.specs.Sent.{sent_next}
use Rattle.subject_laws.specs.Draws.{draws_next}
use Rattle.subject_laws.specs.Places.{job_told}

-- the objects to which an object sends jobs
abbrev pub ways_of : KindOver ℕ → List ℕ
ways_of (Source source) = source.next ∷ []
ways_of (Station station) = station.next ∷ []
ways_of (Delay delay) = delay.next ∷ []
ways_of (Router router) = router.next
ways_of other = []

abbrev pub is_router : KindOver ℕ → Bool
is_router (Router router) = true
is_router other = false

-- a delay keeps a job as long as it draws, and any other object sends it on at once
abbrev pub keeps_for : KindOver ℕ → List ℕ → ℕ
keeps_for (Delay delay) drawn = slice_index drawn 0
keeps_for other drawn = 0

-- a job goes on by this event, from an object of this kind: the event told of the job and drew these values
pub record GoesOn (kind : KindOver ℕ) (told : Key × Note) (drawn : List ℕ) (e : Event) : Type 0 where
  pub job : e.a ≡ job_told told.1
  pub way : Contains (ways_of kind) e.key.dest
  pub chosen : is_router kind ≡ true → drawn ≡ e.key.dest ∷ []
  pub time : e.key.stamp ≡ next_stamp told.0.stamp (keeps_for kind drawn)

-- each event of kind 3 that is sent is a job on its way
abbrev pub WaysLaw : Type 0
WaysLaw =
    (p : NetworkParts) (t : Terms) (s : State) (told : Key × Note) (after : State) (e : Event)
    → IsNetwork p → Reaches (plain_meaning p) t s → next (plain_meaning p) t s ≡ does told after
    → Contains (sent_next (plain_meaning p) s) e → e.kind ≡ 3
    → (let kind = (object_at p.objects told.0.dest).kind in
    GoesOn kind told (draws_next (plain_meaning p) kind told.0.dest s (does told after)) e)

-- any other event that is sent is the object's own: it comes to the object that sends it
abbrev pub OthersStayLaw : Type 0
OthersStayLaw =
    (p : NetworkParts) (t : Terms) (s : State) (told : Key × Note) (after : State) (e : Event)
    → IsNetwork p → Reaches (plain_meaning p) t s → next (plain_meaning p) t s ≡ does told after
    → Contains (sent_next (plain_meaning p) s) e → e.kind ≢ 3 → e.key.dest ≡ told.0.dest
