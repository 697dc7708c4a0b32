-- However many events a node processes, it stands for the same share.
use Rattle.std.proofs.Common.{Bool, List, [], ap, arith, cond, drop, eq-eqb, eqb, eqb-true, false, length, ne_eqb, refl, subst, suc, sym, take, true, zero, ℕ, ◌++◌, ◌+◌, ◌<◌, ◌∙◌, ◌∷◌, ◌≡◌, ◌≢◌, ◌≤◌}
use Rattle.std.proofs.lemmas.Bool.{eqb-false}
use Rattle.std.proofs.lemmas.List.{length-append}
use Rattle.std.specs.List.{AllByRecursion as Each}
use Rattle.std.specs.Prelude.{None, Option, Some}
use Rattle.event_key.proofs.Order.{key_lt-irrefl, key_lt-trans}
use Rattle.event_key.specs.Keys.{key_lt}
use Rattle.event_key.specs.Stamps.{end_stamp}
use Rattle.event_key.specs.declared.key.Key.{Key}
use Rattle.model_core.specs.Meaning.{Meaning}
use Rattle.model_core.specs.declared.event.Event.{Event}
use Rattle.sim_spec.specs.Firing.{ObjectState, fails, fire, goes}
use Rattle.key_order.specs.Ascending.{IsAscending, key_of, Ascends}
use Rattle.sim_spec.specs.Replay.{Replay, events_at, replay, replay_fired, taken, replay_after}
use Rattle.sim_spec.specs.Run.{next}
use Rattle.sim_spec.specs.declared.terms.Terms.{Terms}
use Rattle.key_order.proofs.AscendingLemmas.{Ascends-before}
use Rattle.key_order.proofs.EachLemmas.{Each-append}
use Rattle.sim_spec.proofs.PartLemmas.{IsAscending-events_at, events_at-first, events_at-other}
use Rattle.sim_spec.proofs.ReplayLemmas.{replay-append, replay-fault}
use Rattle.world_spec.specs.Moves.{IsStep, Steps, one_more, raised}
use Rattle.world_spec.specs.NodeLaws.{AdvanceLaw, StepsLaw}
use Rattle.world_spec.specs.Share.{IsAhead, IsAtHome, IsHome, NodeData, Share, StandsFor, log_of}
use Rattle.sim_spec.proofs.TakenLemmas.{taken-whole}

-- the first event that is not taken
pub next-of : (n : ℕ) (xs : List Event) (e : Event) (ys : List Event) → drop n xs ≡ e ∷ ys → (take (suc n) xs ≡ take n xs ++ (e ∷ [])) × (drop (suc n) xs ≡ ys) × (xs ≡ take n xs ++ (e ∷ ys))
next-of zero [] e ys h = absurd (cc)
next-of zero (x ∷ xs) e ys h = (ap (take 1) h, ap (drop 1) h, h)
next-of (suc n) [] e ys h = absurd (cc)
next-of (suc n) (x ∷ xs) e ys h = let q = next-of n xs e ys h in (ap (λ zs. x ∷ zs) q.0, q.1, ap (λ zs. x ∷ zs) q.2)

pub taken-one : (m : Meaning) (object : ℕ) (state : ObjectState) (e : Event) → taken (replay m object state (e ∷ [])) ≡ 1
unfolding replay replay_fired
taken-one m object state e = elim (fire m object state e) as (λ f. taken (replay_fired state e (λ x. replay m object x.state []) f) ≡ 1) [ goes x ↦ refl | fails code ↦ refl ]

-- what an object that has not faulted holds with one event more
pub ahead-more : (m : Meaning) (t : Terms) (share : Share) (object n : ℕ) (e : Event) (ys : List Event) → IsAhead m t share object n → drop n (events_at object share.pending) ≡ e ∷ ys
    → (log_of m share object n).fault ≡ None → e.key.stamp < end_stamp t.end → (log_of m share object (suc n) ≡ one_more m object (log_of m share object n) e) × IsAhead m t share object (suc n)
unfolding log_of
ahead-more m t share object n e ys ahead next none below =
    let evs = events_at object share.pending in
    let base = share.states object in
    let longer : take (suc n) evs ≡ take n evs ++ (e ∷ []) = (next-of n evs e ys next).0 in
    let r = replay m object base (take n evs) in
    let one = replay m object r.state (e ∷ []) in
    let same : replay m object base (take (suc n) evs) ≡ replay_after r.done one = ap (replay m object base) longer ∙ replay-append m object base (take n evs) (e ∷ []) none in
    let count : taken (replay m object base (take (suc n) evs)) ≡ taken (replay_after r.done one) = ap taken same in
    let sum : length (r.done ++ one.done) ≡ length r.done + length one.done = length-append r.done one.done in
    let whole : taken r ≡ n = ahead.whole in
    let gone : taken r ≡ length r.done = taken-whole r none in
    let last : taken one ≡ 1 = taken-one m object r.state e in
    let P : List Event → Type 0 = Each (λ (e : Event). e.key.stamp < end_stamp t.end) in (
      same,
      record {
        whole = (let total : taken (replay m object base (take (suc n) evs)) ≡ suc n = omega arith in total);
        below = subst P (sym longer) (Each-append (λ (e : Event). e.key.stamp < end_stamp t.end) (take n evs) (e ∷ []) ahead.below (below, tt));
      },
    )

module _ (m : Meaning) (t : Terms) (home : ℕ → ℕ) (node bound : ℕ) (share : Share) (ahead : ℕ → ℕ) (old new : NodeData) where
  abbrev same_share : Type 0
  same_share = StandsFor m t home node share ahead old

  pub waits_here : same_share → (step : IsStep m home node bound old new) → Each (IsAtHome m home node) (step.event ∷ new.unprocessed)
  waits_here stands step = let P : List Event → Type 0 = Each (IsAtHome m home node) in subst P step.waits stands.waiting_homed

  pub dest_home : same_share → (step : IsStep m home node bound old new) → IsHome m home node step.event.key.dest
  dest_home stands step = (waits_here stands step).0

  next_here : same_share → (step : IsStep m home node bound old new) → drop (ahead step.event.key.dest) (events_at step.event.key.dest share.pending) ≡ step.event ∷ events_at step.event.key.dest new.unprocessed
  next_here stands step =
      sym (stands.waiting step.event.key.dest (dest_home stands step)) ∙ ap (events_at step.event.key.dest) step.waits ∙ events_at-first step.event new.unprocessed

  pub no_fault_here : same_share → (step : IsStep m home node bound old new) → (log_of m share step.event.key.dest (ahead step.event.key.dest)).fault ≡ None
  unfolding log_of
  no_fault_here stands step = by_fault (log_of m share object (ahead object)).fault refl
    where
      e : Event
      e = step.event

      object : ℕ
      object = e.key.dest

      before : Each (λ (x : Event). key_lt x.key e.key ≡ true) (take (ahead object) (events_at object share.pending))
      before =
          let split = (next-of (ahead object) (events_at object share.pending) e (events_at object new.unprocessed) (next_here stands step)).2 in
          let P : List Event → Type 0 = IsAscending in
          Ascends-before key_of (take (ahead object) (events_at object share.pending)) e (events_at object new.unprocessed) (subst P split (IsAscending-events_at object share.pending stands.ordered))

      by_fault : (f : Option (Key × ℕ)) → (log_of m share object (ahead object)).fault ≡ f → f ≡ None
      by_fault None h = refl
      by_fault (Some fault) h =
          let one : key_lt fault.0 e.key ≡ true = replay-fault (λ k. key_lt k e.key ≡ true) m object (share.states object) (take (ahead object) (events_at object share.pending)) before fault h in
          let two : key_lt e.key fault.0 ≡ true = step.before object (dest_home stands step) fault (ap (λ (r : Replay). r.fault) (stands.logs object (dest_home stands step)) ∙ h) in
          let loop = key_lt-trans e.key fault.0 e.key two one in
          let no = key_lt-irrefl e.key in
          absurd (cc)

  at_each : (P : ℕ → Type 0) (dest : ℕ) → P dest → ((object : ℕ) → object ≢ dest → P object) → (object : ℕ) → P object
  at_each P dest here there object = by_test (eqb object dest) refl
    where
      by_test : (b : Bool) → eqb object dest ≡ b → P object
      by_test true h = subst P (sym (eqb-true object dest h)) here
      by_test false h = there object (eqb-false object dest h)

  raised_here : (dest : ℕ) → suc (ahead dest) ≡ raised ahead dest dest
  raised_here dest = sym (ap (λ b. cond b (suc (ahead dest)) (ahead dest)) (eq-eqb dest dest refl))

  raised_there : (dest object : ℕ) → object ≢ dest → ahead object ≡ raised ahead dest object
  raised_there dest object apart = sym (ap (λ b. cond b (suc (ahead object)) (ahead object)) (ne_eqb object dest apart))

  pub step_stands : bound ≤ end_stamp t.end → (step : IsStep m home node bound old new) → same_share → StandsFor m t home node share (raised ahead step.event.key.dest) new
  unfolding Ascends
  step_stands le step stands =
      let e = step.event in
      let dest = e.key.dest in
      let here = dest_home stands step in
      let low : e.key.stamp < bound = step.below in
      let more = ahead-more m t share dest (ahead dest) e (events_at dest new.unprocessed) (stands.early dest here) (next_here stands step) (no_fault_here stands step) (omega arith) in
      let U : List Event → Type 0 = IsAscending in
      let up : IsAscending (e ∷ new.unprocessed) = subst U step.waits stands.waiting_ordered in
      let A : ℕ → ℕ → Type 0 = λ object n. IsHome m home node object → IsAhead m t share object n in
      let L : ℕ → ℕ → Type 0 = λ object n. IsHome m home node object → new.log object ≡ log_of m share object n in
      let W : ℕ → ℕ → Type 0 = λ object n. IsHome m home node object → events_at object new.unprocessed ≡ drop n (events_at object share.pending) in
      record {
        ordered = stands.ordered;
        homed = stands.homed;
        cells = stands.cells;
        early = at_each (λ object. A object (raised ahead dest object)) dest
            (subst (λ n. A dest n) (raised_here dest) (λ home. more.1))
            (λ object apart. subst (λ n. A object n) (raised_there dest object apart) (λ home. stands.early object home));
        logs = at_each (λ object. L object (raised ahead dest object)) dest
            (subst (λ n. L dest n) (raised_here dest) (λ home. step.log ∙ ap (λ r. one_more m dest r e) (stands.logs dest here) ∙ sym more.0))
            (λ object apart. subst (λ n. L object n) (raised_there dest object apart) (λ home. step.others object home apart ∙ stands.logs object home));
        waiting_ordered = up.1;
        waiting_homed = (waits_here stands step).1;
        waiting = at_each (λ object. W object (raised ahead dest object)) dest
            (subst (λ n. W dest n) (raised_here dest) (λ home. sym (next-of (ahead dest) (events_at dest share.pending) e (events_at dest new.unprocessed) (next_here stands step)).1))
            (λ object apart. subst (λ n. W object n) (raised_there dest object apart)
            (λ home. sym (events_at-other object e new.unprocessed apart) ∙ ap (events_at object) (sym step.waits) ∙ stands.waiting object home));
      }

-- so do any number of steps, and no object falls back
pub steps_law : (m : Meaning) (t : Terms) → StepsLaw m t
unfolding Steps
steps_law m t home node [] share ahead old new within steps stands =
    record { ahead_now = ahead; further = λ object. omega arith; stands = let P : NodeData → Type 0 = StandsFor m t home node share ahead in subst P steps stands }
steps_law m t home node (bound ∷ bounds) share ahead old new within steps stands =
    let mid = steps.0 in
    let dest = steps.1.event.key.dest in
    let one = step_stands m t home node bound share ahead old mid within.0 steps.1 stands in
    let more = steps_law m t home node bounds share (raised ahead dest) mid new within.1 steps.2 one in
    record {
      ahead_now = more.ahead_now;
      further = λ object. let le = more.further object in let first = raised_le ahead dest object in omega arith;
      stands = more.stands;
    }
  where
    raised_le : (ahead : ℕ → ℕ) (dest object : ℕ) → ahead object ≤ raised ahead dest object
    raised_le ahead dest object = elim (eqb object dest) as (λ b. ahead object ≤ cond b (suc (ahead object)) (ahead object)) [ true ↦ omega arith | false ↦ omega arith ]

pub advance_law : (m : Meaning) (t : Terms) → AdvanceLaw m t
advance_law m t home node seen depth share ahead old new advance stands = steps_law m t home node advance.bounds share ahead old new advance.within advance.steps stands
