-- What the laws of models ask of an effect, and of what it sends.
use Rattle.std.proofs.Common.{ℕ, ◌+◌, ◌^◌, ◌<◌, ◌≤◌, Bool, true, false, List, [], ◌∷◌, ◌++◌, length, length-append, refl, subst, arith}
use Rattle.std.specs.Prelude.{IsTrue, if◌then◌else◌, ◌==◌, ◌&&◌, ◌||◌, nat_lt, Option, None, Some}
use Rattle.std.specs.Option.{ForSome}
use Rattle.std.proofs.lemmas.Option.{slice_get_within, get_or_from_slice_get}
use Rattle.delta_exchange.specs.declared.change.Change.TheVariants.{Set}
use Rattle.delta_exchange.specs.Changes.{CellData, cells_after_all}
use Rattle.model_core.specs.declared.effect.Effect.{Effect}
use Rattle.model_core.specs.declared.event.Send.{Send}
use Rattle.model_core.specs.Effects.{blank}
use Rattle.model_core.specs.Places.{place_changes}
use Rattle.model_core.specs.Meaning.{Meaning, EffectLaws, SendsInRange}
use Rattle.random_streams.proofs.DelayBounds.{draw_delay-le}
use Rattle.random_streams.specs.declared.delay_law.DelayLaw.{DelayLaw}
use Rattle.random_streams.specs.Delays.{is_delay_law}
use Rattle.shop_model.specs.declared.counts.Counts.{Counts}
use Rattle.shop_model.specs.declared.job.Job.{Job}
use Rattle.shop_model.specs.declared.kinds.TheConstants.{MAKE, CALL, TIRE, SHIFT, BREAK, MEND}
use Rattle.shop_model.specs.declared.routes.Routes.{Routes}
use Rattle.shop_model.specs.declared.site.Site.{Site}
use Rattle.shop_model.specs.declared.step.Step.{Step}
use Rattle.shop_model.specs.declared.step.Step.TheVariants.{Visit, Free, Delay, Go}
use Rattle.shop_model.specs.Keeping.{Keeps, keeps_none}
use Rattle.shop_model.specs.Kinds.{rank_of}
use Rattle.shop_model.specs.Parts.{AreRoutes, IsClass, IsStep}
use Rattle.shop_model.specs.Routes.{class_at, step_at, stands_at, object_at, moved, HasJob, no_class}
use Rattle.shop_model.specs.Sites.{to_self, drawn_at}
use Rattle.shop_model.specs.Stations.{call_sent, spare_of}

-- the changes are few and keep what holds of the cells, and what is sent is little
pub record EffectKeeps (objects : ℕ) (Holds : CellData → Type 0) (cells : CellData) (effect : Effect) : Type 0 where
  pub changes : Keeps Holds effect.changes cells
  pub few_changes : length effect.changes ≤ 16
  pub few_sends : length effect.sends ≤ 8
  pub sends : SendsInRange objects effect.sends

pub blank_keeps : (objects : ℕ) (P : CellData → Type 0) (cells : CellData) → P cells → EffectKeeps objects P cells blank
blank_keeps objects P cells h = record { changes = keeps_none P cells h; few_changes = omega arith; few_sends = omega arith; sends = tt }

pub effect_laws : (m : Meaning) (object : ℕ) (P : CellData → Type 0) (cells : CellData) (effect : Effect)
    → ((c : CellData) → P c → IsTrue (m.lawful object c))
    → EffectKeeps m.objects P cells effect → EffectLaws m object cells effect
effect_laws m object P cells effect lawful keeps = record {
  few_changes = keeps.few_changes;
  few_sends = keeps.few_sends;
  fits = keeps.changes.fits;
  lawful = lawful (cells_after_all effect.changes cells) keeps.changes.after;
  sends = keeps.sends;
}

-- at most so many are sent, each to an object that there is, with no long delay and a small rank
pub record Sent (objects most : ℕ) (list : List Send) : Type 0 where
  pub few : length list ≤ most
  pub sends : SendsInRange objects list

pub sent_none : (objects : ℕ) → Sent objects 0 []
sent_none objects = record { few = omega arith; sends = tt }

pub sent_append : (objects n m : ℕ) (first last : List Send) → Sent objects n first → Sent objects m last → Sent objects (n + m) (first ++ last)
sent_append objects n m first last a b = record { few = omega (arith, a.few, b.few, length-append first last); sends = both first a.sends }
  where
    both : (first : List Send) → SendsInRange objects first → SendsInRange objects (first ++ last)
    both [] h = b.sends
    both (s ∷ rest) h = (h.0, h.1, h.2, both rest h.3)

pub sent_more : (objects n : ℕ) (send : Send) (rest : List Send) → Sent objects 1 (send ∷ []) → Sent objects n rest
    → Sent objects (n + 1) (send ∷ rest)
sent_more objects n send rest a b = record { few = omega (arith, b.few); sends = (a.sends.0, a.sends.1, a.sends.2, b.sends) }

pub rank_of-le : (kind : ℕ) → rank_of kind ≤ 16
unfolding rank_of
rank_of-le kind = by (kind == MAKE) (kind == CALL) (kind == TIRE) (kind == SHIFT) (kind == BREAK || kind == MEND)
  where
    by : (make call tire shift other : Bool)
        → (if make then 4 else if call then 16 else if tire then 3 else if shift then 2 else if other then 1 else 0) ≤ 16
    by true call tire shift other = omega arith
    by false true tire shift other = omega arith
    by false false true shift other = omega arith
    by false false false true other = omega arith
    by false false false false true = omega arith
    by false false false false false = omega arith

pub self_sent : (objects : ℕ) (site : Site) (delay kind a b : ℕ) → site.object < objects → delay ≤ 2 ^ 40
    → Sent objects 1 (to_self site delay kind a b ∷ [])
self_sent objects site delay kind a b here short = record { few = omega arith; sends = (here, short, omega (arith, rank_of-le kind), tt) }

pub call_sent-laws : (objects most : ℕ) (site : Site) (counts : Counts) → site.object < objects → Sent objects 1 (call_sent most site counts)
unfolding call_sent
call_sent-laws objects most site counts here = by (nat_lt 0 counts.waiting && nat_lt 0 (spare_of most counts))
  where
    by : (calls : Bool) → Sent objects 1 (if calls then to_self site 0 CALL 0 0 ∷ [] else [])
    by true = self_sent objects site 0 CALL 0 0 here (omega arith)
    by false = record { few = omega arith; sends = tt }

pub class_fine : (routes : Routes) (class : ℕ) → AreRoutes routes → class < length routes.classes → IsClass routes.stations (class_at routes class)
class_fine routes class fine there = fine.classes class no_class there

-- a step of a class's route
pub step_fine : (routes : Routes) (class step : ℕ) → AreRoutes routes → class < length routes.classes
    → ForSome (step_at routes class step) (λ s. IsStep routes.stations (length (class_at routes class).route) s)
step_fine routes class step fine there s is =
    let route = (class_at routes class).route in
    let within : step < length route = slice_get_within route step s is in
    subst (λ x. IsStep routes.stations (length route) x) (get_or_from_slice_get route step s s is)
    ((class_fine routes class fine there).steps step s within)

stands_exists : (routes : Routes) (class steps : ℕ) (step : Option Step) → class < length routes.classes
    → ForSome step (λ s. IsStep routes.stations steps s)
    → stands_at (routes.stations + class) step < routes.stations + length routes.classes
stands_exists routes class steps None there fine = omega arith
stands_exists routes class steps (Some (Visit visit)) there fine = omega (arith, (fine (Visit visit) refl).exists)
stands_exists routes class steps (Some (Free station)) there fine = omega (arith, fine (Free station) refl)
stands_exists routes class steps (Some (Delay law)) there fine = omega arith
stands_exists routes class steps (Some (Go branch)) there fine = omega arith

-- a job goes to an object that there is
pub job_sent : (routes : Routes) (job : Job) (b step delay : ℕ) → AreRoutes routes → HasJob routes job → delay ≤ 2 ^ 40
    → Sent (routes.stations + length routes.classes) 1 (moved routes job b step delay ∷ [])
unfolding moved object_at
job_sent routes job b step delay fine has short = record {
  few = omega arith;
  sends = (
    stands_exists routes job.class (length (class_at routes job.class).route) (step_at routes job.class step) has.class
        (step_fine routes job.class step fine has.class),
    short,
    omega (arith, (class_fine routes job.class fine has.class).priority),
    tt,
  );
}

-- what is drawn is no long delay
pub drawn_short : (site : Site) (place : ℕ) (law : DelayLaw) → IsTrue (is_delay_law law) → (drawn_at site place law).0 ≤ 2 ^ 40
drawn_short site place law fine = draw_delay-le site.seed site.object place law fine

-- no change or one
pub few_places : (place next : ℕ) → length (place_changes place next) ≤ 1
unfolding place_changes
few_places place next = by (next == place)
  where
    by : (same : Bool) → length (if same then [] else Set 0 next ∷ []) ≤ 1
    by true = omega arith
    by false = omega arith
