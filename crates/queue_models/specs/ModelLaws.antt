-- A network keeps the laws of models.
use Rattle.std.proofs.Common.{◌≡◌, ℕ, ◌+◌, ◌-◌, ◌<◌, ◌^◌, Bool, true, false, refl, length, arith}
use Rattle.std.specs.Prelude.{IsTrue, if◌then◌else◌, nat_lt, slice_index}
use Rattle.std.proofs.lemmas.Bool.Decides.{nat_tests}
use Rattle.delta_exchange.specs.Changes.{CellData}
use Rattle.model_core.specs.declared.event.Event.{Event}
use Rattle.model_core.specs.declared.effect.Outcome.{Outcome}
use Rattle.model_core.specs.declared.effect.Outcome.TheVariants.{Goes, Fails}
use Rattle.model_core.specs.Meaning.{MeaningLaws, OutcomeLaws, StartLaws}
use Rattle.queue_models.specs.Keeping.{OutcomeKeeps, outcome_laws}
use Rattle.queue_models.specs.Kinds.{is_lawful, effect_at}
use Rattle.queue_models.specs.Meaning.{plain_meaning, network_meaning, site_of, source_start, job_start, start_of}
use Rattle.queue_models.specs.Objects.{NetworkParts, network_under, object_at, source_numbers}
use Rattle.queue_models.specs.Parts.{IsNetwork, IsObject}
use Rattle.queue_models.specs.KindLaws.{kind_keeps, first_lawful, first_time}
use Rattle.queue_models.specs.Starts.{length-source_numbers, source_numbers-exist}
use Rattle.queue_models.specs.Telling.{as_told}

-- the parts lie within their bounds under any other seed too
pub is_network_under : (seed : ℕ) → seed < 2 ^ 63 → (p : NetworkParts) → IsNetwork p → IsNetwork (network_under seed p)
is_network_under seed below p fine =
    record { seed = below; few_objects = fine.few_objects; few_jobs = fine.few_jobs; names = fine.names; objects = fine.objects; jobs = fine.jobs }

pub object_fine : (p : NetworkParts) → IsNetwork p → (object : ℕ) → object < length p.objects → IsObject p.objects (object_at p.objects object)
object_fine p fine object exists = fine.objects object _ exists

start_laws : (p : NetworkParts) → IsNetwork p → (i : ℕ) → i < length (source_numbers p.objects) + length p.jobs → StartLaws (plain_meaning p) (start_of p i)
unfolding plain_meaning network_meaning start_of
start_laws p fine i exists = by (nat_lt i (length (source_numbers p.objects))) refl
  where
    from : ℕ
    from = length (source_numbers p.objects)

    by : (early : Bool) → nat_lt i from ≡ early
        → StartLaws (plain_meaning p) (if early then source_start p (slice_index (source_numbers p.objects) i) else job_start p (i - from))
    by true early_is =
        let number = slice_index (source_numbers p.objects) i in
        let there : number < length p.objects = source_numbers-exist p.objects i (grind (arith, nat_tests)) in
        let object = object_fine p fine number there in
        record { dest = there; time = first_time p.objects _ object.kind; rank = object.rank }
    by false early_is =
        let within : i - from < length p.jobs = grind (arith, nat_tests) in
        let job = fine.jobs (i - from) (record { time = 0; at = 0; rank = 0 }) within in
        record { dest = job.at.exists; time = job.time; rank = job.rank }

-- what an event at an object keeps
pub object_keeps : (p : NetworkParts) → IsNetwork p → (object : ℕ) (cells : CellData) (event : Event) → object < length p.objects → IsTrue (is_lawful (object_at p.objects object).kind cells)
    → OutcomeKeeps (length p.objects) (λ c. is_lawful (object_at p.objects object).kind c) cells (effect_at (site_of p object) (object_at p.objects object).kind cells event)
object_keeps p fine object cells event exists lawful =
    kind_keeps p.objects (site_of p object) (object_at p.objects object).kind cells event (object_fine p fine object exists).kind
    (record { object = exists; rank = (object_fine p fine object exists).rank }) lawful

pub plain_laws : (p : NetworkParts) → IsNetwork p → MeaningLaws (plain_meaning p)
unfolding plain_meaning network_meaning
plain_laws p fine = record {
  objects = fine.few_objects;
  starts = omega (arith, length-source_numbers p.objects, fine.few_objects, fine.few_jobs);
  first = λ object exists. first_lawful p.objects _ (object_fine p fine object exists).kind;
  outcome = λ object cells event exists lawful.
      outcome_laws (plain_meaning p) object cells _ (object_keeps p fine object cells event exists lawful);
  start = λ i exists. start_laws p fine i exists;
}

-- the laws don't ask what is told
told_laws : (p : NetworkParts) (object : ℕ) (cells : CellData) (outcome : Outcome) → OutcomeLaws (plain_meaning p) object cells outcome
    → OutcomeLaws (network_meaning p) object cells (as_told (object_at p.objects object) cells outcome)
unfolding network_meaning plain_meaning
told_laws p object cells (Goes x) laws =
    record { few_changes = laws.few_changes; few_sends = laws.few_sends; fits = laws.fits; lawful = laws.lawful; sends = laws.sends }
told_laws p object cells (Fails code) laws = laws

pub network_laws : (p : NetworkParts) → IsNetwork p → MeaningLaws (network_meaning p)
unfolding network_meaning plain_meaning
network_laws p fine =
    let plain = plain_laws p fine in
    record {
      objects = plain.objects;
      starts = plain.starts;
      first = plain.first;
      outcome = λ object cells event exists lawful. told_laws p object cells ((plain_meaning p).effect object cells event) (plain.outcome object cells event exists lawful);
      start = λ i exists. record { dest = (plain.start i exists).dest; time = (plain.start i exists).time; rank = (plain.start i exists).rank };
    }
