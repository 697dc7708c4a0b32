-- An event of a ring: it keeps the jobs, takes no step too many, and takes time for what it does.
use Rattle.std.proofs.Common.{◌≡◌, ◌≢◌, ℕ, ◌+◌, ◌-◌, ◌*◌, ◌%◌, ◌<◌, ◌≤◌, Bool, false, cond, List, [], ◌∷◌, length, drop, refl, ap, ◌∙◌, subst, arith, eq-eqb, ne_eqb, length-append}
use Rattle.std.specs.Prelude.{IsTrue, sum_by, slice_index, ◌==◌, ◌||◌}
use Rattle.std.specs.List.{AllByRecursion as Each}
use Rattle.event_key.specs.Stamps.{time_part, step_part, next_stamp}
use Rattle.delta_exchange.specs.Changes.{CellData, line_of, cells_after_all}
use Rattle.model_core.specs.declared.effect.Effect.{Effect}
use Rattle.model_core.specs.declared.effect.Outcome.TheVariants.{Goes}
use Rattle.model_core.specs.declared.event.Event.{Event}
use Rattle.sim_spec.specs.Firing.{emission, emissions, has_endless_chain}
use Rattle.sim_spec.proofs.FiringLemmas.{goes-effect}
use Rattle.queue_models.specs.declared.delay.Delay.{Delay as DelayOver}
use Rattle.queue_models.specs.declared.kind.KindOver.TheVariants.{Delay}
use Rattle.queue_models.specs.declared.site.Site.{Site}
use Rattle.queue_models.specs.declared.station.Station.{Station as StationOver}
use Rattle.queue_models.specs.Delays.{delay_effect}
use Rattle.queue_models.specs.Kinds.{is_lawful}
use Rattle.queue_models.specs.Sites.{place_of, drawn_at, job_to}
use Rattle.queue_models.specs.Stations.{waiting_jobs, done_after, take_effect, wait_effect, lose_effect, serve_effect, free_effect}
use Rattle.model_core.specs.Places.{place_changes}
use Rattle.subject_laws.proofs.QueueLemmas.Cases.{StationDoes, takes, waits, loses, serves, frees}
use Rattle.subject_laws.proofs.QueueLemmas.Leaves.{HasStationCells, plain_shape, plain_leaves, take_leaves, wait_leaves, serve_leaves, free_leaves}
use Rattle.subject_laws.proofs.RingLemmas.RingParts.{IsShort, IsRingStation, IsRingDelay, later_free, later_step, now_free}
use Rattle.event_key.proofs.StampLemmas.{next_time}

-- twice as many events as a job can have had before this one, and one: three of them take two ticks
unfoldable pub weight : Event → ℕ
weight e = cond (e.key.dest % 2 == 0) (cond (e.kind == 2) (3 * time_part e.key.stamp) (3 * time_part e.key.stamp + 1)) (3 * time_part e.key.stamp + 2)

-- an event comes no sooner than now and not long after the end, and at a station in the first step of its tick
pub record IsTurn (now : ℕ) (e : Event) : Type 0 where
  pub early : now ≤ time_part e.key.stamp
  pub soon : time_part e.key.stamp ≤ 1011
  pub step : e.key.dest % 2 ≡ 0 → step_part e.key.stamp ≡ 0

-- what an event sends, and how many wait then
pub record Moves (e : Event) (sent : List Event) (before after : ℕ) : Type 0 where
  pub jobs : length sent + after ≡ 1 + before
  pub pace : weight e + before * (3 * time_part e.key.stamp + 3) + 2 ≤ sum_by weight sent + after * (3 * time_part e.key.stamp + 3)
  pub turns : Each (IsTurn (time_part e.key.stamp)) sent

weight_arrival : (e : Event) → e.key.dest % 2 ≡ 0 → e.kind ≢ 2 → weight e ≡ 3 * time_part e.key.stamp + 1
unfolding weight
weight_arrival e even other =
    ap (λ b. cond b (cond (e.kind == 2) (3 * time_part e.key.stamp) (3 * time_part e.key.stamp + 1)) (3 * time_part e.key.stamp + 2)) (eq-eqb (e.key.dest % 2) 0 even)
    ∙ ap (λ b. cond b (3 * time_part e.key.stamp) (3 * time_part e.key.stamp + 1)) (ne_eqb e.kind 2 other)

weight_end : (e : Event) → e.key.dest % 2 ≡ 0 → e.kind ≡ 2 → weight e ≡ 3 * time_part e.key.stamp
unfolding weight
weight_end e even done =
    ap (λ b. cond b (cond (e.kind == 2) (3 * time_part e.key.stamp) (3 * time_part e.key.stamp + 1)) (3 * time_part e.key.stamp + 2)) (eq-eqb (e.key.dest % 2) 0 even)
    ∙ ap (λ b. cond b (3 * time_part e.key.stamp) (3 * time_part e.key.stamp + 1)) (eq-eqb e.kind 2 done)

weight_held : (e : Event) → e.key.dest % 2 ≡ 1 → weight e ≡ 3 * time_part e.key.stamp + 2
unfolding weight
weight_held e odd =
    ap (λ b. cond b (cond (e.kind == 2) (3 * time_part e.key.stamp) (3 * time_part e.key.stamp + 1)) (3 * time_part e.key.stamp + 2)) (ne_eqb (e.key.dest % 2) 0 (λ even. omega arith))

-- an event that is sent after a while, and one that is sent at once from the first step of a tick
later_turn : (e x : Event) (delay : ℕ) → time_part e.key.stamp ≤ 1000 → 1 ≤ delay → delay ≤ 11 → x.key.stamp ≡ next_stamp e.key.stamp delay → IsTurn (time_part e.key.stamp) x
later_turn e x delay due some few at =
    let time : time_part x.key.stamp ≡ time_part e.key.stamp + delay = ap time_part at ∙ next_time e.key.stamp delay (later_free e.key.stamp delay some) in
    record { early = omega arith; soon = omega arith; step = λ even. ap step_part at ∙ later_step e.key.stamp delay some }

now_turn : (e x : Event) → time_part e.key.stamp ≤ 1000 → step_part e.key.stamp ≡ 0 → x.key.dest % 2 ≡ 1 → x.key.stamp ≡ next_stamp e.key.stamp 0 → IsTurn (time_part e.key.stamp) x
now_turn e x due first odd at =
    let time : time_part x.key.stamp ≡ time_part e.key.stamp + 0 = ap time_part at ∙ next_time e.key.stamp 0 (now_free e.key.stamp first) in
    record { early = omega arith; soon = omega arith; step = λ even. absurd (omega arith) }

-- the end of a service that begins, and a job that goes on to the delay behind
end_weight : (site : Site) (station : StationOver ℕ) (cells : CellData) (e : Event) (serial job birth : ℕ) → e.key.dest % 2 ≡ 0 → site.object ≡ e.key.dest → IsShort station.service
    → (let x : Event = emission e.key.stamp e.key.dest serial (done_after site (drawn_at site cells station.service).0 job birth) in 3 * time_part e.key.stamp + 3 ≤ weight x)
end_weight site station cells e serial job birth even at service =
    let drawn : ℕ = (drawn_at site cells station.service).0 in
    let x : Event = emission e.key.stamp e.key.dest serial (done_after site drawn job birth) in
    let some : 1 ≤ drawn = service.some site.seed site.object (place_of cells) in
    let time : time_part x.key.stamp ≡ time_part e.key.stamp + drawn = next_time e.key.stamp drawn (later_free e.key.stamp drawn some) in
    let weighs : weight x ≡ 3 * time_part x.key.stamp = weight_end x (ap (λ k. k % 2) at ∙ even) refl in
    omega arith

job_weight : (site : Site) (next : ℕ) (e : Event) (serial : ℕ) → step_part e.key.stamp ≡ 0 → next % 2 ≡ 1
    → (let x : Event = emission e.key.stamp e.key.dest serial (job_to site next 0 e.a e.b) in weight x ≡ 3 * time_part e.key.stamp + 2)
job_weight site next e serial first odd =
    let x : Event = emission e.key.stamp e.key.dest serial (job_to site next 0 e.a e.b) in
    let time : time_part x.key.stamp ≡ time_part e.key.stamp + 0 = next_time e.key.stamp 0 (now_free e.key.stamp first) in
    let weighs : weight x ≡ 3 * time_part x.key.stamp + 2 = weight_held x odd in
    omega arith

one_sum : (x : Event) → sum_by weight (x ∷ []) ≡ weight x
one_sum x = omega arith

two_sum : (x y : Event) → sum_by weight (x ∷ y ∷ []) ≡ weight x + weight y
two_sum x y = omega arith

-- an event at a station of the ring where not all wait
pub station_moves : (site : Site) (station : StationOver ℕ) (cells : CellData) (e : Event) (x : Effect) (serial : ℕ) → IsRingStation station → HasStationCells cells
    → site.object ≡ e.key.dest → e.key.dest % 2 ≡ 0 → step_part e.key.stamp ≡ 0 → time_part e.key.stamp ≤ 1000 → waiting_jobs cells < 256 → StationDoes site cells e station x
    → Moves e (emissions e.key.stamp e.key.dest serial x.sends) (waiting_jobs cells) (waiting_jobs (cells_after_all x.changes cells))
unfolding emissions take_effect wait_effect lose_effect serve_effect free_effect
station_moves site station cells e x serial ring has at even first due few (takes other free) =
    let drawn : ℕ = (drawn_at site cells station.service).0 in
    let end : Event = emission e.key.stamp e.key.dest serial (done_after site drawn e.a e.b) in
    let left : waiting_jobs (cells_after_all (take_effect site station cells e).changes cells) ≡ waiting_jobs cells = ap (λ (c : CellData). length (line_of c 0)) (take_leaves site station cells e has) in
    let K : ℕ → ℕ = λ w. w * (3 * time_part e.key.stamp + 3) in
    record {
      jobs = omega (arith, left);
      pace = omega (arith, ap K left, one_sum end, weight_arrival e even other, end_weight site station cells e serial e.a e.b even at ring.service);
      turns = (later_turn e end drawn due (ring.service.some site.seed site.object (place_of cells)) (ring.service.few site.seed site.object (place_of cells)) refl, tt);
    }
station_moves site station cells e x serial ring has at even first due few (waits other full room) =
    let left : waiting_jobs (cells_after_all (wait_effect cells e).changes cells) ≡ waiting_jobs cells + 1 =
    ap (λ (c : CellData). length (line_of c 0)) (wait_leaves cells e has) ∙ length-append (line_of cells 0) (e.a ∷ []) in
    let K : ℕ → ℕ = λ w. w * (3 * time_part e.key.stamp + 3) in
    record {
      jobs = omega (arith, left);
      pace = omega (arith, ap K left, weight_arrival e even other);
      turns = tt;
    }
station_moves site station cells e x serial ring has at even first due few (loses other full none) = absurd (let line = ring.line in omega arith)
station_moves site station cells e x serial ring has at even first due few (serves done some) =
    let drawn : ℕ = (drawn_at site cells station.service).0 in
    let job : ℕ = slice_index (line_of cells 0) 0 in
    let birth : ℕ = slice_index (line_of cells 1) 0 in
    let gone : Event = emission e.key.stamp e.key.dest serial (job_to site station.next 0 e.a e.b) in
    let end : Event = emission e.key.stamp e.key.dest (serial + 1) (done_after site drawn job birth) in
    let left : waiting_jobs (cells_after_all (serve_effect site station cells e).changes cells) ≡ waiting_jobs cells - 1 =
    ap (λ (c : CellData). length (line_of c 0)) (serve_leaves site station cells e has) ∙ one_less (line_of cells 0) in
    let split : waiting_jobs cells ≡ (waiting_jobs cells - 1) + 1 = omega arith in
    let K : ℕ → ℕ = λ w. w * (3 * time_part e.key.stamp + 3) in
    record {
      jobs = omega (arith, left);
      pace = omega (arith, ap K left, ap K split, two_sum gone end, weight_end e even done, job_weight site station.next e serial first ring.next, end_weight site station cells e (serial + 1) job birth even at ring.service);
      turns = (
        now_turn e gone due first ring.next refl,
        (later_turn e end drawn due (ring.service.some site.seed site.object (place_of cells)) (ring.service.few site.seed site.object (place_of cells)) refl, tt),
      );
    }
  where
    one_less : (xs : List ℕ) → length (drop 1 xs) ≡ length xs - 1
    one_less [] = refl
    one_less (x ∷ xs) = omega arith
station_moves site station cells e x serial ring has at even first due few (frees done none) =
    let gone : Event = emission e.key.stamp e.key.dest serial (job_to site station.next 0 e.a e.b) in
    let left : waiting_jobs (cells_after_all (free_effect site station cells e).changes cells) ≡ waiting_jobs cells = ap (λ (c : CellData). length (line_of c 0)) (free_leaves site station cells e has) in
    let K : ℕ → ℕ = λ w. w * (3 * time_part e.key.stamp + 3) in
    record {
      jobs = omega (arith, left);
      pace = omega (arith, ap K left, one_sum gone, weight_end e even done, job_weight site station.next e serial first ring.next);
      turns = (now_turn e gone due first ring.next refl, tt);
    }

-- an event at a delay of the ring
pub delay_moves : (site : Site) (delay : DelayOver ℕ) (cells : CellData) (e : Event) (x : Effect) (serial : ℕ) → IsRingDelay delay → IsTrue (is_lawful (Delay delay) cells)
    → e.key.dest % 2 ≡ 1 → time_part e.key.stamp ≤ 1000 → delay_effect site delay cells e ≡ Goes x
    → Moves e (emissions e.key.stamp e.key.dest serial x.sends) (waiting_jobs cells) (waiting_jobs (cells_after_all x.changes cells))
unfolding delay_effect emissions
delay_moves site delay cells e x serial ring lawful odd due is =
    let drawn : ℕ × ℕ = drawn_at site cells delay.delay in
    let gone : Event = emission e.key.stamp e.key.dest serial (job_to site delay.next drawn.0 e.a e.b) in
    let some : 1 ≤ drawn.0 = ring.delay_law.some site.seed site.object (place_of cells) in
    let shape = plain_shape cells lawful in
    let before : waiting_jobs cells ≡ 0 = ap (λ (c : CellData). length (line_of c 0)) shape in
    let after : waiting_jobs (cells_after_all (place_changes (place_of cells) drawn.1) cells) ≡ 0 =
    ap (λ (c : CellData). length (line_of c 0)) (plain_leaves cells drawn.1 shape) in
    let K : ℕ → ℕ = λ w. w * (3 * time_part e.key.stamp + 3) in
    let time : time_part gone.key.stamp ≡ time_part e.key.stamp + drawn.0 = next_time e.key.stamp drawn.0 (later_free e.key.stamp drawn.0 some) in
    let weighs : weight gone ≡ 3 * time_part gone.key.stamp + 1 = weight_arrival gone ring.next (λ two. absurd (let w : ◌≡◌ {A = ℕ} 3 2 = two in omega arith)) in
    let M : Effect → Type 0 = λ x. Moves e (emissions e.key.stamp e.key.dest serial x.sends) (waiting_jobs cells) (waiting_jobs (cells_after_all x.changes cells)) in
    subst M (goes-effect _ x is) (record {
      jobs = omega (arith, before, after);
      pace = omega (arith, ap K before, ap K after, one_sum gone, weight_held e odd);
      turns = (later_turn e gone drawn.0 due some (ring.delay_law.few site.seed site.object (place_of cells)) refl, tt);
    })

-- no chain of steps in one tick
pub station_free : (site : Site) (station : StationOver ℕ) (cells : CellData) (e : Event) (x : Effect) → IsRingStation station → step_part e.key.stamp ≡ 0 → StationDoes site cells e station x
    → has_endless_chain e.key.stamp x.sends ≡ false
unfolding has_endless_chain take_effect wait_effect lose_effect serve_effect free_effect
station_free site station cells e x ring first (takes other free) =
    either (later_free e.key.stamp (drawn_at site cells station.service).0 (ring.service.some site.seed site.object (place_of cells)))
  where
    either : {b : Bool} → b ≡ false → (b || false) ≡ false
    either {b} none = ap (λ c. c || false) none
station_free site station cells e x ring first (waits other full room) = refl
station_free site station cells e x ring first (loses other full none) = refl
station_free site station cells e x ring first (serves done some) =
    both (now_free e.key.stamp first) (later_free e.key.stamp (drawn_at site cells station.service).0 (ring.service.some site.seed site.object (place_of cells)))
  where
    both : {a b : Bool} → a ≡ false → b ≡ false → (a || (b || false)) ≡ false
    both {a} {b} none also = ap (λ c. c || (b || false)) none ∙ ap (λ c. c || false) also
station_free site station cells e x ring first (frees done none) = either (now_free e.key.stamp first)
  where
    either : {b : Bool} → b ≡ false → (b || false) ≡ false
    either {b} none = ap (λ c. c || false) none

pub delay_free : (site : Site) (delay : DelayOver ℕ) (cells : CellData) (e : Event) (x : Effect) → IsRingDelay delay → delay_effect site delay cells e ≡ Goes x → has_endless_chain e.key.stamp x.sends ≡ false
unfolding has_endless_chain delay_effect
delay_free site delay cells e x ring is =
    let H : Effect → Type 0 = λ x. has_endless_chain e.key.stamp x.sends ≡ false in
    subst H (goes-effect _ x is) (ap (λ c. c || false) (later_free e.key.stamp (drawn_at site cells delay.delay).0 (ring.delay_law.some site.seed site.object (place_of cells))))
