-- What an object tells: a traced one is a station, whose load can be counted.
use Rattle.std.proofs.Common.{◌≡◌, ℕ, ◌<◌, Bool, true, false, List, length, subst, sym, arith}
use Rattle.std.specs.Prelude.{IsTrue, not, ◌||◌}
use Rattle.std.proofs.lemmas.Bool.Decides.{nat_tests}
use Rattle.delta_exchange.specs.Changes.{CellData}
use Rattle.model_core.specs.declared.effect.Effect.{Effect}
use Rattle.model_core.specs.declared.effect.Outcome.TheVariants.{Goes}
use Rattle.model_core.specs.declared.event.Event.{Event}
use Rattle.queue_models.specs.declared.kind.KindOver.{KindOver}
use Rattle.queue_models.specs.declared.kind.KindOver.TheVariants.{Station}
use Rattle.queue_models.specs.Keeping.{EffectKeeps, OutcomeKeeps}
use Rattle.queue_models.specs.Kinds.{is_station, is_lawful, effect_at, IsKind}
use Rattle.queue_models.specs.Loads.{HasLoad}
use Rattle.queue_models.specs.Meaning.{site_of}
use Rattle.queue_models.specs.ModelLaws.{object_fine, object_keeps}
use Rattle.queue_models.specs.Objects.{Item, NetworkParts, object_at}
use Rattle.queue_models.specs.Parts.{IsLink, IsNetwork}

station_load : (objects : List Item) (kind : KindOver ℕ) (cells : CellData) (x : Effect) → is_station kind ≡ true → IsKind (IsLink objects) kind → IsTrue (is_lawful kind cells)
    → EffectKeeps (length objects) (λ c. is_lawful kind c) cells x → HasLoad cells x.changes
station_load objects (Station station) cells x serves fine lawful keeps = record {
  words = grind (arith, nat_tests);
  lines = grind (arith, nat_tests);
  short = (let least = fine.0.short in grind (arith, nat_tests));
  few = keeps.changes.few;
  fits = keeps.changes.fits;
}
station_load objects other cells x serves fine lawful keeps = absurd (cc)

traced_station : (trace station : Bool) → IsTrue (not trace || station) → trace ≡ true → station ≡ true
traced_station true station fine traced = fine
traced_station false station fine traced = absurd (cc)

effect_keeps : (p : NetworkParts) → IsNetwork p → (object : ℕ) (cells : CellData) (event : Event) (x : Effect) → object < length p.objects → IsTrue (is_lawful (object_at p.objects object).kind cells)
    → Goes x ≡ effect_at (site_of p object) (object_at p.objects object).kind cells event → EffectKeeps (length p.objects) (λ c. is_lawful (object_at p.objects object).kind c) cells x
effect_keeps p fine object cells event x exists lawful goes =
    subst (OutcomeKeeps (length p.objects) (λ c. is_lawful (object_at p.objects object).kind c) cells) (sym goes) (object_keeps p fine object cells event exists lawful)

pub has_load : (p : NetworkParts) → IsNetwork p → (object : ℕ) (cells : CellData) (event : Event) (x : Effect) → object < length p.objects → IsTrue (is_lawful (object_at p.objects object).kind cells)
    → Goes x ≡ effect_at (site_of p object) (object_at p.objects object).kind cells event → (object_at p.objects object).trace ≡ true → HasLoad cells x.changes
has_load p fine object cells event x exists lawful goes traced =
    let here = object_fine p fine object exists in
    station_load p.objects (object_at p.objects object).kind cells x (traced_station _ _ here.traced traced) here.kind lawful
    (effect_keeps p fine object cells event x exists lawful goes)

pub one_part : (p : NetworkParts) → IsNetwork p → (object : ℕ) (cells : CellData) (event : Event) (x : Effect) → object < length p.objects → IsTrue (is_lawful (object_at p.objects object).kind cells)
    → Goes x ≡ effect_at (site_of p object) (object_at p.objects object).kind cells event → length x.note ≡ 1
one_part p fine object cells event x exists lawful goes = (effect_keeps p fine object cells event x exists lawful goes).one_part
