-- The lag of a station is the sum of the standstills that were told.
use Rattle.std.proofs.Common.{◌≡◌, ◌≢◌, ℕ, suc, ◌+◌, ◌%◌, ◌^◌, ◌<◌, ◌≤◌, List, [], ◌∷◌, ◌++◌, length, refl, sym, ap, ◌∙◌, ⊎_elim, arith, append-nil}
use Rattle.std.specs.Prelude.{if◌then◌else◌, ◌==◌}
use Rattle.std.proofs.lemmas.Bool.{cases_eq}
use Rattle.std.proofs.lemmas.List.Sums.{sum_by-append}
use Rattle.event_key.specs.declared.key.Key.{Key}
use Rattle.event_key.specs.Stamps.{time_part}
use Rattle.delta_exchange.specs.Changes.{CellData}
use Rattle.model_core.specs.declared.effect.Effect.{Effect}
use Rattle.model_core.specs.declared.event.Event.{Event}
use Rattle.model_core.specs.declared.note.Note.{Note}
use Rattle.model_core.specs.declared.words.TheConstants.{DOWN_WORD}
use Rattle.model_core.specs.Meaning.{Meaning}
use Rattle.random_streams.proofs.DelayBounds.{draw_delay-le}
use Rattle.run_laws.specs.Reached.{after_events, gathered, record_of}
use Rattle.run_laws.proofs.Induction.{after_events-stops, gathered-more, each_number}
use Rattle.sim_spec.specs.Run.{stops, does}
use Rattle.sim_spec.specs.State.{State}
use Rattle.shop_model.specs.declared.site.Site.{Site}
use Rattle.shop_model.specs.declared.station.Station.{Station}
use Rattle.shop_model.specs.Meaning.{shop_meaning, site_of}
use Rattle.shop_model.specs.ModelLaws.{station_fine}
use Rattle.shop_model.specs.ShopParts.{ShopParts, IsShop, routes_of, station_at}
use Rattle.shop_model.specs.Sites.{place_of}
use Rattle.shop_model.specs.StationEffects.{take_effect, wait_effect, lose_effect, begin_effect, pass_effect, renege_effect, still_effect, works_effect}
use Rattle.shop_totals.specs.Records.{timed_parts, parts_at, told_at}
use Rattle.shop_totals.specs.Told.{TimedPart}
use Rattle.shop_totals.proofs.RecordLemmas.{told_at-here, told_at-elsewhere}
use Rattle.shop_laws.specs.FlowLaws.{standstills}
use Rattle.shop_laws.specs.Told.{cells_at}
use Rattle.shop_laws.proofs.Cases.{StationDoes, rests, goes_on, frees, takes, waits, loses, passes, begins, ends, puts_off, reneges, shifts, stands, works}
use Rattle.shop_laws.proofs.FlowLaw.{flow_law}
use Rattle.shop_laws.proofs.Serving.{serving, station_step}
use Rattle.shop_laws.proofs.Steps.{IsShopStep, shop_step}
use Rattle.shop_draw_laws.specs.Services.{lag_at}
use Rattle.shop_draw_laws.specs.StandingLaws.{LagIsTold}
use Rattle.shop_draw_laws.proofs.StandingLaw.{lag_bound}

-- an event tells one standstill at most
module _ (p : ShopParts) (fine : IsShop p) (cells : CellData) (e : Event) (early : e.key.dest < length p.stations) (time : ℕ) where
  abbrev site : Site
  site = site_of p e.key.dest e

  abbrev station : Station
  station = station_at p.stations e.key.dest

  short_told : (x : Effect) → StationDoes site (routes_of p) station cells e x → standstills (parts_at time x.note) ≤ 2 ^ 40
  unfolding take_effect wait_effect lose_effect begin_effect pass_effect renege_effect still_effect works_effect
  short_told x (rests no_come no_done no_call no_turn) = omega arith
  short_told x (goes_on job at) = omega arith
  short_told x (frees job at some) = omega arith
  short_told x (takes job visit at visits nobody spare) = omega arith
  short_told x (waits job visit level at visits below busy) = omega arith
  short_told x (loses job visit at visits) = omega arith
  short_told x (passes level calls empty) = omega arith
  short_told x (begins level job visit calls there) = omega arith
  short_told x (ends job at below some on_time) = omega arith
  short_told x (puts_off job at served below late) = omega arith
  short_told x (reneges level place job visit kind below within now there) = omega arith
  short_told x (shifts kind within) = omega arith
  short_told x (stands breakdowns kind has up) =
      let shop = station_fine p e.key.dest fine early in
      omega (arith, draw_delay-le p.seed e.key.dest (place_of cells) breakdowns.down (shop.numbers.breakdowns breakdowns has).down)
  short_told x (works breakdowns kind has) = omega arith

-- what is told of standstills, one record more
told_more : (i : ℕ) (records : List (Key × Note)) (told : Key × Note) → told.0.dest ≡ i
    → standstills (told_at i (records ++ told ∷ [])) ≡ standstills (told_at i records) + standstills (timed_parts told)
told_more i records told here =
    ap standstills (told_at-here i records told here) ∙ sum_by-append (λ (one : TimedPart). if one.part.word == DOWN_WORD then one.part.a else 0) (told_at i records) (timed_parts told)

pub lag_is_told : LagIsTold
unfolding after_events gathered told_at
lag_is_told p t n i fine exists =
    each_number m t (λ n. lag_at (after_events n m t) i ≡ standstills (told_at i (gathered record_of n m t)))
    (omega (arith, (flow_law p t 0 i fine exists).lag))
    (λ n stop is_next before.
    let records : gathered record_of (suc n) m t ≡ gathered record_of n m t = gathered-more record_of m t n (stops stop) is_next ∙ append-nil (gathered record_of n m t) in
    ap (λ (s : State). lag_at s i) (after_events-stops m t n stop is_next) ∙ before ∙ ap (λ (rs : List (Key × Note)). standstills (told_at i rs)) (sym records))
    (λ n told after is_next before.
    let s : State = after_events n m t in
    let rs : List (Key × Note) = gathered record_of n m t in
    let records : gathered record_of (suc n) m t ≡ rs ++ told ∷ [] = gathered-more record_of m t n (does told after) is_next in
    let all : standstills (told_at i (gathered record_of (suc n) m t)) ≡ standstills (told_at i (rs ++ told ∷ [])) = ap (λ (rs : List (Key × Note)). standstills (told_at i rs)) records in
    let lag : lag_at (after_events (suc n) m t) i ≡ standstills (told_at i (gathered record_of (suc n) m t)) % 2 ^ 64 = (flow_law p t (suc n) i fine exists).lag in
    let bound : lag_at s i ≤ 2 ^ 47 = lag_bound p t fine n i exists in
    let step : IsShopStep p t s told after = shop_step p t s told after fine (n, refl) is_next in
    ⊎_elim
    (λ (here : told.0.dest ≡ i).
    let there : step.step.event.key.dest ≡ i = ap (λ (r : Key × Note). r.0.dest) (sym step.step.tells) ∙ here in
    let early : step.step.event.key.dest < length p.stations = omega (arith, exists, there) in
    let short : standstills (parts_at (time_part step.step.event.key.stamp) step.step.effect.note) ≤ 2 ^ 40 =
    short_told p fine (cells_at s step.step.event.key.dest) step.step.event early (time_part step.step.event.key.stamp) step.step.effect
    (station_step p t s told after fine step (serving p t s fine (n, refl)) early).does_so in
    let its : standstills (timed_parts told) ≡ standstills (parts_at (time_part step.step.event.key.stamp) step.step.effect.note) = ap (λ (r : Key × Note). standstills (timed_parts r)) step.step.tells in
    omega (arith, lag, all, told_more i rs told here, before, bound, its, short))
    (λ (apart : told.0.dest ≢ i).
    let same : standstills (told_at i (rs ++ told ∷ [])) ≡ standstills (told_at i rs) = ap standstills (told_at-elsewhere i rs told apart) in
    omega (arith, lag, all, same, before, bound))
    (cases_eq told.0.dest i))
    n
  where
    m : Meaning
    m = shop_meaning p
