-- The stations and delays of a ring, and when what they send happens.
use Rattle.std.proofs.Common.{◌≡◌, ◌≢◌, ℕ, ◌+◌, ◌*◌, ◌/◌, ◌%◌, ◌<◌, ◌≤◌, Bool, true, false, cond, refl, sym, ap, ◌∙◌, subst, arith, eqb, eqb-true, ne_eqb}
use Rattle.std.specs.Prelude.{◌==◌, ◌&&◌}
use Rattle.std.proofs.lemmas.Bool.{eqb-false}
use Rattle.std.proofs.lemmas.List.FromFn.{get_or-map-range_with_len}
use Rattle.event_key.specs.Stamps.{time_part, step_part, next_stamp, has_no_step}
use Rattle.random_streams.specs.declared.law.Law.{Law}
use Rattle.random_streams.specs.declared.law.Law.TheVariants.{Uniform}
use Rattle.random_streams.specs.Laws.{draw, drawn_value}
use Rattle.queue_models.specs.declared.delay.Delay.{Delay as DelayOver}
use Rattle.queue_models.specs.declared.kind.KindOver.{KindOver}
use Rattle.queue_models.specs.declared.kind.KindOver.TheVariants.{Station, Delay}
use Rattle.queue_models.specs.declared.station.Station.{Station as StationOver}
use Rattle.queue_models.specs.Objects.{Item, object_at, no_object}
use Rattle.queue_models.specs.Rings.{ring_station, ring_delay, ring_object, ring_objects}

-- a law draws from 1 to 11 ticks
pub record IsShort (law : Law) : Type 0 where
  pub some : (seed object place : ℕ) → 1 ≤ (draw seed object place law).0
  pub few : (seed object place : ℕ) → (draw seed object place law).0 ≤ 11

short : (more : ℕ) → more ≤ 10 → IsShort (Uniform 1 (1 + more))
unfolding draw drawn_value
short more small = record {
  some = λ seed object place. omega arith;
  few = λ seed object place. omega arith;
}

pub record IsRingStation (station : StationOver ℕ) : Type 0 where
  pub line : station.line ≡ 256
  pub loose : station.strict ≡ false
  pub next : station.next % 2 ≡ 1
  pub service : IsShort station.service

pub record IsRingDelay (delay : DelayOver ℕ) : Type 0 where
  pub next : delay.next % 2 ≡ 0
  pub delay_law : IsShort delay.delay

-- what there is with a number: a station if it is even, a delay if it is odd
pub data RingKind (number : ℕ) : KindOver ℕ → Type 0 where
  at_station : number % 2 ≡ 0 → (station : StationOver ℕ) → IsRingStation station → RingKind number (Station station)
  at_delay : number % 2 ≡ 1 → (delay : DelayOver ℕ) → IsRingDelay delay → RingKind number (Delay delay)

ring_object_kind : (n number : ℕ) → RingKind number (ring_object n number).kind
unfolding ring_station ring_delay
ring_object_kind n number = by (eqb (number % 2) 0) refl
  where
    station : StationOver ℕ
    station = record { servers = 1; service = Uniform 1 (1 + number / 2 % 7); line = 256; strict = false; next = 2 * (number / 2) + 1 }

    delay : DelayOver ℕ
    delay = record { delay = Uniform 1 (1 + number / 2 % 11); next = 2 * ((number / 2 + 1) % n) }

    by : (even : Bool) → eqb (number % 2) 0 ≡ even → RingKind number (cond even (ring_station (number / 2)) (ring_delay n (number / 2))).kind
    by true is = at_station (eqb-true (number % 2) 0 is) (record { servers = 1; service = Uniform 1 (1 + number / 2 % 7); line = 256; strict = false; next = 2 * (number / 2) + 1 })
        (record { line = refl; loose = refl; next = omega arith; service = short (number / 2 % 7) (omega arith) })
    by false is = at_delay (let odd : number % 2 ≢ 0 = eqb-false (number % 2) 0 is in omega arith)
        (record { delay = Uniform 1 (1 + number / 2 % 11); next = 2 * ((number / 2 + 1) % n) })
        (record { next = omega arith; delay_law = short (number / 2 % 11) (omega arith) })

pub ring_kind : (n number : ℕ) → number < 2 * n → RingKind number (object_at (ring_objects n) number).kind
ring_kind n number exists =
    let R : Item → Type 0 = λ object. RingKind number object.kind in
    subst R (sym (get_or-map-range_with_len (ring_object n) 0 (2 * n) number number no_object exists (omega arith))) (ring_object_kind n number)

-- after a delay it is the first step of a later tick
pub later_free : (stamp delay : ℕ) → 1 ≤ delay → has_no_step stamp delay ≡ false
unfolding has_no_step
later_free stamp delay some = ap (λ b. b && (step_part stamp == 65535)) (ne_eqb delay 0 (λ zero. omega arith))

pub later_step : (stamp delay : ℕ) → 1 ≤ delay → step_part (next_stamp stamp delay) ≡ 0
unfolding next_stamp
later_step stamp delay some =
    ap (λ b. step_part (cond b (stamp + 1) ((time_part stamp + delay) * 65536))) (ne_eqb delay 0 (λ zero. omega arith)) ∙ first_step (time_part stamp + delay)
  where
    first_step : (time : ℕ) → step_part (time * 65536) ≡ 0
    first_step time = omega arith

-- without one it is the next step of the same tick, which there is after the first step
pub now_free : (stamp : ℕ) → step_part stamp ≡ 0 → has_no_step stamp 0 ≡ false
unfolding has_no_step
now_free stamp first = ne_eqb (step_part stamp) 65535 (λ last. omega arith)
