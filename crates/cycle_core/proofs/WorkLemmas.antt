-- Work of a node, step by step.
use Rattle.sim_spec.proofs.PartLemmas.{emissions_of-append}
use Rattle.std.proofs.Common.{◌≡◌, ◌≢◌, ◌⊎◌, ℕ, suc, ◌+◌, ◌<◌, ◌≤◌, min, Bool, true, false, cond, List, [], ◌∷◌, ◌++◌, length, refl, sym, ap, ◌∙◌, subst, inl, inr, arith, eqb, eqb-true, ltb, ltb-true, ltb-false, append_assoc}
use Rattle.std.proofs.lemmas.Bool.{eqb-false}
use Rattle.std.proofs.lemmas.List.{length-append, length-map, append-nil}
use Rattle.std.proofs.lemmas.List.Elements.{Contains-append_left}
use Rattle.std.specs.Prelude.{Contains, filter, ◌==◌, Option, Some, None, is_some}
use Rattle.std.specs.List.{AllByRecursion as Each}
use Rattle.event_key.specs.declared.key.Key.{Key}
use Rattle.event_key.specs.Stamps.{end_stamp}
use Rattle.model_core.specs.Meaning.{Meaning}
use Rattle.model_core.specs.declared.event.Event.{Event}
use Rattle.sim_spec.specs.declared.terms.Terms.{Terms}
use Rattle.sim_spec.specs.Cut.{emissions_of}
use Rattle.sim_spec.specs.Replay.{Replay, replay}
use Rattle.key_order.proofs.EachLemmas.{Each-append, Each-map}
use Rattle.object_log.specs.Dones.{Done}
use Rattle.object_log.specs.Logs.{LogView, undone}
use Rattle.object_log.specs.Replays.{replay_of}
use Rattle.world_spec.specs.Share.{IsHome, NodeData}
use Rattle.world_spec.specs.Moves.{IsStep, Steps, IsIdle, IsPastFaultOf}
use Rattle.key_order.proofs.FilterLemmas.{length-filter_le}
use Rattle.node_core.specs.Homes.{home_of}
use Rattle.node_core.specs.Nodes.{NodeView, log_at, log_or, slot_at, base_at, pending_at, home, ahead_of, data_of, IsSameNode, IsAsBefore}
use Rattle.node_core.specs.Shares.{AreProcessedKeys}
use Rattle.node_core.specs.Steps.{HoldsMessageAt, HasProcessed, IsLeftIdle, raised}
use Rattle.cycle_core.specs.Works.{HasFault, IsFull, WorksOn, IsHeldFrom, IsSettled}

pub raised-cases : (n : ℕ) → (raised n ≡ n + 1) ⊎ ((raised n ≡ n) × IsFull n)
raised-cases n = by_test (ltb n 18446744073709551615) refl
  where
    by_test : (b : Bool) → ltb n 18446744073709551615 ≡ b → (cond b (n + 1) n ≡ n + 1) ⊎ ((cond b (n + 1) n ≡ n) × IsFull n)
    by_test true h = inl refl
    by_test false h = inr (refl, ltb-false n 18446744073709551615 h)

pub steps-more : (m : Meaning) (home : ℕ → ℕ) (node : ℕ) (bounds : List ℕ) (bound : ℕ) (old mid new : NodeData) → Steps m home node bounds old mid → IsStep m home node bound mid new
    → Steps m home node (bounds ++ bound ∷ []) old new
unfolding Steps
steps-more m home node [] bound old mid new steps step =
    let P : NodeData → Type 0 = λ x. IsStep m home node bound x new in
    (new, subst P (sym steps) step, refl)
steps-more m home node (b ∷ bounds) bound old mid new steps step = (steps.0, steps.1, steps-more m home node bounds bound steps.0 mid new steps.2 step)

pub steps-then : (m : Meaning) (home : ℕ → ℕ) (node : ℕ) (bounds more : List ℕ) (old mid new : NodeData) → Steps m home node bounds old mid → Steps m home node more mid new
    → Steps m home node (bounds ++ more) old new
unfolding Steps
steps-then m home node [] more old mid new first then =
    let P : NodeData → Type 0 = λ x. Steps m home node more x new in subst P (sym first) then
steps-then m home node (b ∷ bounds) more old mid new first then = (first.0, first.1, steps-then m home node bounds more first.0 mid new first.2 then)

module _ {M : Type 0} where
  pub same-none : (n : NodeView M) → IsSameNode n n
  same-none n = record { model = refl; terms = refl; number = refl; homes = refl }

  pub same-then : (a b c : NodeView M) → IsSameNode a b → IsSameNode b c → IsSameNode a c
  same-then a b c x y = record { model = y.model ∙ x.model; terms = y.terms ∙ x.terms; number = y.number ∙ x.number; homes = y.homes ∙ x.homes }

  pub home-before : (m : Meaning) (old new : NodeView M) → IsSameNode old new → (object : ℕ) → IsHome m (home new) new.number object → IsHome m (home old) old.number object
  home-before m old new same object at = (at.0, ap (λ h. home_of h object) (sym same.homes) ∙ at.1 ∙ same.number)

  pub home-after : (m : Meaning) (old new : NodeView M) → IsSameNode old new → (object : ℕ) → IsHome m (home old) old.number object → IsHome m (home new) new.number object
  home-after m old new same object at = (at.0, ap (λ h. home_of h object) same.homes ∙ at.1 ∙ sym same.number)

  -- an object whose slot is the same has the same log
  pub slot-log : (old new : NodeView M) (object : ℕ) → slot_at new.logs object ≡ slot_at old.logs object → log_at new.logs object ≡ log_at old.logs object
  unfolding log_at
  slot-log old new object same = ap log_or same

  pub as_before : (n : NodeView M) → IsAsBefore n n
  as_before n = record { same = same-none n; logs = refl; processed = refl; waiting = refl; spare = omega arith; work = refl; met = refl; counts = refl }

module _ {M : Type 0} (m : Meaning) where
  pub ahead-few : (n : NodeView M) → AreProcessedKeys m n → (object : ℕ) → ahead_of n object ≤ length n.processed
  ahead-few n keys object =
      let le = length-filter_le (λ (k : Key). k.dest == object) n.processed in
      let same : length (filter (λ (k : Key). k.dest == object) n.processed) ≡ length (log_at n.logs object).done =
      ap length (keys.parts object) ∙ length-map (log_at n.logs object).done (λ d. d.event.key) in
      omega arith

  pub data-same : (old new : NodeView M) → IsAsBefore old new → data_of old ≡ data_of new
  data-same old new un =
      let with_logs : List (Option LogView) → NodeData = λ logs. record { log = λ (object : ℕ). replay_of (log_at logs object).state (log_at logs object).done; unprocessed = old.waiting } in
      let with_waiting : List Event → NodeData = λ waiting. record { log = λ (object : ℕ). replay_of (log_at new.logs object).state (log_at new.logs object).done; unprocessed = waiting } in
      ap with_logs (sym un.logs) ∙ ap with_waiting (sym un.waiting)

  -- nothing was done
  pub works-none : (old new : NodeView M) → IsAsBefore old new → WorksOn m old new
  unfolding Steps
  works-none old new un = record {
    same = un.same;
    bounds = [];
    within = tt;
    steps = data-same old new un;
    begins = λ object. ([], ap (λ logs. (log_at logs object).done) un.logs ∙ sym (append-nil (log_at old.logs object).done));
    base = λ object. ap (λ logs. base_at logs object) un.logs;
    pending = λ object. ap (λ logs. pending_at logs new.waiting object) un.logs ∙ ap (λ waiting. pending_at old.logs waiting object) un.waiting;
    held_on = λ stamp h.
        (let P : List (Option LogView) → Type 0 = λ logs. Contains (emissions_of (replay_of (log_at logs h.0).state (log_at logs h.0).done).done) h.2 in
        (h.0, home-after m old new un.same h.0 h.1, h.2, subst P (sym un.logs) h.3, h.4));
    processed = ap length un.processed ∙ (let e : length old.processed ≡ length old.processed + 0 = omega arith in e);
    waiting = (let same : length new.waiting ≡ length old.waiting = ap length un.waiting in let e : length new.waiting + 0 ≡ length old.waiting = omega arith in e);
    spare = un.spare;
    undone = ap (λ c. c.undone) un.counts;
    work = inl (let same : new.work ≡ old.work = un.work in let e : new.work ≡ old.work + 0 = omega arith in e);
    work_up = (let same : new.work ≡ old.work = un.work in omega arith);
    met = (let same : new.met ≡ old.met = un.met in omega arith);
    met_more = λ f. inl (f.0, home-before m old new un.same f.0 f.1, f.2, ap (λ logs. (replay_of (log_at logs f.0).state (log_at logs f.0).done).fault) (sym un.logs) ∙ f.3);
  }

  -- first this, then that
  pub works-then : (old mid new : NodeView M) → WorksOn m old mid → WorksOn m mid new → WorksOn m old new
  works-then old mid new first then =
      let sum = length-append first.bounds then.bounds in
      record {
        same = same-then old mid new first.same then.same;
        bounds = first.bounds ++ then.bounds;
        within =
            (let P : ℕ → Type 0 = λ e. Each (λ (b : ℕ). b ≤ end_stamp e) then.bounds in
            Each-append (λ (b : ℕ). b ≤ end_stamp old.terms.end) first.bounds then.bounds first.within (subst P (ap (λ (t : Terms). t.end) first.same.terms) then.within));
        steps =
            (let P : (ℕ → ℕ) → ℕ → Type 0 = λ h k. Steps m h k then.bounds (data_of mid) (data_of new) in
            let homes : home mid ≡ home old = ap home_of first.same.homes in
            let more : Steps m (home old) mid.number then.bounds (data_of mid) (data_of new) = subst (λ h. P h mid.number) homes then.steps in
            steps-then m (home old) old.number first.bounds then.bounds (data_of old) (data_of mid) (data_of new) first.steps (subst (λ k. P (home old) k) first.same.number more));
        begins = λ object.
            let a = first.begins object in
            let b = then.begins object in
            (a.0 ++ b.0, b.1 ∙ ap (λ xs. xs ++ b.0) a.1 ∙ append_assoc (log_at old.logs object).done a.0 b.0);
        base = λ object. then.base object ∙ first.base object;
        pending = λ object. then.pending object ∙ first.pending object;
        held_on = λ stamp h. then.held_on stamp (first.held_on stamp h);
        processed = (let a = first.processed in let b = then.processed in let e : length new.processed ≡ length old.processed + length (first.bounds ++ then.bounds) = omega arith in e);
        waiting = (let a = first.waiting in let b = then.waiting in let e : length new.waiting + length (first.bounds ++ then.bounds) ≡ length old.waiting = omega arith in e);
        spare = (let a = first.spare in let b = then.spare in omega arith);
        undone = then.undone ∙ first.undone;
        work =
            (let up = then.work_up in
            elim then.work [
              | inr full ↦ inr full
              | inl e ↦ elim first.work [
                | inl f ↦ inl (let r : new.work ≡ old.work + length (first.bounds ++ then.bounds) = omega arith in r)
                | inr full ↦ inr (omega arith)
              ]
            ]);
        work_up = (let a = first.work_up in let b = then.work_up in omega arith);
        met = (let a = first.met in let b = then.met in omega arith);
        met_more = λ f. let up = then.met in let low = first.met in elim (then.met_more f) [
          | inr (inl more) ↦ inr (inl (omega arith))
          | inr (inr full) ↦ inr (inr full)
          | inl before ↦ elim (first.met_more before) [
            | inl at_first ↦ inl at_first
            | inr (inl more) ↦ inr (inl (omega arith))
            | inr (inr full) ↦ inr (inr (omega arith))
          ]
        ];
      }

  -- one step more
  module _ (old mid new : NodeView M) (bound : ℕ) (key : Key) (least : ℕ) (works : WorksOn m old mid) (did : HasProcessed m bound mid new key least) where
    log_there : (object : ℕ) → object ≢ key.dest → log_at new.logs object ≡ log_at mid.logs object
    log_there object apart = slot-log mid new object (did.others object apart)

    at_each : (P : ℕ → Type 0) → P key.dest → ((object : ℕ) → object ≢ key.dest → P object) → (object : ℕ) → P object
    at_each P here there object = by_test (eqb object key.dest) refl
      where
        by_test : (b : Bool) → eqb object key.dest ≡ b → P object
        by_test true h = subst P (sym (eqb-true object key.dest h)) here
        by_test false h = there object (eqb-false object key.dest h)

    begins_here : (object : ℕ) → (more : List Done) × ((log_at new.logs object).done ≡ (log_at mid.logs object).done ++ more)
    begins_here = at_each (λ object. (more : List Done) × ((log_at new.logs object).done ≡ (log_at mid.logs object).done ++ more))
        (did.log.entry ∷ [], did.log.done)
        (λ object apart. ([], ap (λ (l : LogView). l.done) (log_there object apart) ∙ sym (append-nil (log_at mid.logs object).done)))

    met_is : (mid.met ≤ new.met) × (HasFault m new → HasFault m mid ⊎ ((mid.met < new.met) ⊎ IsFull new.met))
    met_is = by_fault ((data_of new).log key.dest).fault refl
      where
        there : ((data_of new).log key.dest).fault ≡ None → HasFault m new → HasFault m mid
        there none f = by_object (eqb f.0 key.dest) refl
          where
            by_object : (b : Bool) → eqb f.0 key.dest ≡ b → HasFault m mid
            by_object true h =
                let is_dest = eqb-true f.0 key.dest h in
                let same : ((data_of new).log key.dest).fault ≡ Some f.2 = ap (λ o. ((data_of new).log o).fault) (sym is_dest) ∙ f.3 in
                absurd (cc)
            by_object false h =
                (f.0, home-before m mid new did.same f.0 f.1, f.2, ap (λ (l : LogView). (replay_of l.state l.done).fault) (sym (log_there f.0 (eqb-false f.0 key.dest h))) ∙ f.3)

        by_fault : (f : Option (Key × ℕ)) → ((data_of new).log key.dest).fault ≡ f → (mid.met ≤ new.met) × (HasFault m new → HasFault m mid ⊎ ((mid.met < new.met) ⊎ IsFull new.met))
        by_fault None h =
            let same : new.met ≡ mid.met = did.met ∙ ap (λ (x : Option (Key × ℕ)). cond (is_some x) (raised mid.met) mid.met) h in
            ((omega arith), λ f. inl (there h f))
        by_fault (Some x) h =
            let same : new.met ≡ raised mid.met = did.met ∙ ap (λ (x : Option (Key × ℕ)). cond (is_some x) (raised mid.met) mid.met) h in
            elim (raised-cases mid.met) [
              | inl up ↦ ((let e : new.met ≡ mid.met + 1 = same ∙ up in omega arith), λ f. inr (inl (let e : new.met ≡ mid.met + 1 = same ∙ up in omega arith)))
              | inr full ↦ ((let e : new.met ≡ mid.met = same ∙ full.0 in omega arith), λ f. inr (inr (let e : new.met ≡ mid.met = same ∙ full.0 in let g = full.1 in omega arith)))
            ]

    work_is : ((new.work ≡ mid.work + 1) ⊎ IsFull new.work) × (mid.work ≤ new.work)
    work_is = elim (raised-cases mid.work) [
      | inl up ↦ (let e : new.work ≡ mid.work + 1 = did.work ∙ up in (inl e, omega arith))
      | inr full ↦ (let e : new.work ≡ mid.work = did.work ∙ full.0 in (inr (let g = full.1 in omega arith), omega arith))
    ]

    held_here : (stamp : ℕ) → HoldsMessageAt m mid stamp → HoldsMessageAt m new stamp
    held_here stamp h = by_object (eqb h.0 did.step.event.key.dest) refl
      where
        by_object : (b : Bool) → eqb h.0 did.step.event.key.dest ≡ b → HoldsMessageAt m new stamp
        by_object true is_b =
            let same = eqb-true h.0 did.step.event.key.dest is_b in
            let P : Replay → Type 0 = λ r. Contains (emissions_of r.done) h.2 in
            let r = (data_of mid).log did.step.event.key.dest in
            let x = replay m did.step.event.key.dest r.state (did.step.event ∷ []) in
            let before : P r = subst (λ o. P ((data_of mid).log o)) same h.3 in
            let E : List Event → Type 0 = λ es. Contains es h.2 in
            let wider : E (emissions_of (r.done ++ x.done)) = subst E (sym (emissions_of-append r.done x.done)) (Contains-append_left (emissions_of r.done) (emissions_of x.done) h.2 before) in
            let now : P ((data_of new).log did.step.event.key.dest) = subst P (sym did.step.log) wider in
            (h.0, home-after m mid new did.same h.0 h.1, h.2, subst (λ o. P ((data_of new).log o)) (sym same) now, h.4)
        by_object false is_b =
            let apart = eqb-false h.0 did.step.event.key.dest is_b in
            let P : Replay → Type 0 = λ r. Contains (emissions_of r.done) h.2 in
            (h.0, home-after m mid new did.same h.0 h.1, h.2, subst P (sym (did.step.others h.0 h.1 apart)) h.3, h.4)

    pub works-more : bound ≤ end_stamp old.terms.end → WorksOn m old new
    works-more within = record {
      same = same-then old mid new works.same did.same;
      bounds = works.bounds ++ bound ∷ [];
      within = Each-append (λ (b : ℕ). b ≤ end_stamp old.terms.end) works.bounds (bound ∷ []) works.within (within, tt);
      steps =
          (let P : (ℕ → ℕ) → ℕ → Type 0 = λ h k. IsStep m h k bound (data_of mid) (data_of new) in
          let homes : home mid ≡ home old = ap home_of works.same.homes in
          let step : IsStep m (home old) mid.number bound (data_of mid) (data_of new) = subst (λ h. P h mid.number) homes did.step in
          steps-more m (home old) old.number works.bounds bound (data_of old) (data_of mid) (data_of new) works.steps (subst (λ k. P (home old) k) works.same.number step));
      begins = λ object.
          let first = works.begins object in
          let next = begins_here object in
          (first.0 ++ next.0, next.1 ∙ ap (λ xs. xs ++ next.0) first.1 ∙ append_assoc (log_at old.logs object).done first.0 next.0);
      pending = λ object. did.pending object ∙ works.pending object;
      held_on = λ stamp h. held_here stamp (works.held_on stamp h);
      base = λ object. at_each (λ object. base_at new.logs object ≡ base_at mid.logs object) did.base (λ object apart. ap (λ (l : LogView). undone l.state l.done) (log_there object apart)) object ∙ works.base object;
      processed =
          (let a = works.processed in let b = did.processed in let c = length-append works.bounds (bound ∷ []) in
          let e : length new.processed ≡ length old.processed + length (works.bounds ++ bound ∷ []) = omega arith in e);
      waiting =
          (let a = works.waiting in let b : length mid.waiting ≡ suc (length new.waiting) = ap length did.step.waits in let c = length-append works.bounds (bound ∷ []) in
          let e : length new.waiting + length (works.bounds ++ bound ∷ []) ≡ length old.waiting = omega arith in e);
      spare = (let a = works.spare in let b = did.spare in omega arith);
      undone = ap (λ c. c.undone) did.counts ∙ works.undone;
      work =
          (let c = length-append works.bounds (bound ∷ []) in let up = work_is.1 in
          elim work_is.0 [
            | inr full ↦ inr full
            | inl e ↦ elim works.work [
              | inl f ↦ inl (let r : new.work ≡ old.work + length (works.bounds ++ bound ∷ []) = omega arith in r)
              | inr full ↦ inr (omega arith)
            ]
          ]);
      work_up = (let a = works.work_up in let b = work_is.1 in omega arith);
      met = (let a = works.met in let b = met_is.0 in omega arith);
      met_more = λ f. let up = met_is.0 in let low = works.met in elim (met_is.1 f) [
        | inr (inl more) ↦ inr (inl (omega arith))
        | inr (inr full) ↦ inr (inr full)
        | inl before ↦ elim (works.met_more before) [
          | inl first ↦ inl first
          | inr (inl more) ↦ inr (inl (omega arith))
          | inr (inr full) ↦ inr (inr (omega arith))
        ]
      ];
    }

-- a node that is idle below a bound is idle below a lower one
pub idle-lower : (m : Meaning) (home : ℕ → ℕ) (node g h : ℕ) (held : NodeData) → g ≤ h → IsIdle m home node h held → IsIdle m home node g held
idle-lower m home node g h held le idle =
    Each-map (λ (e : Event). (h ≤ e.key.stamp) ⊎ IsPastFaultOf m home node held e.key) (λ (e : Event). (g ≤ e.key.stamp) ⊎ IsPastFaultOf m home node held e.key) held.unprocessed
    (λ e waits. elim waits [ inl late ↦ inl (omega arith) | inr past ↦ inr past ]) idle

-- a node on its way to being idle
pub record IsSettling {M : Type 0} (m : Meaning) (first : NodeView M) (bound fallen : ℕ) (n : NodeView M) : Type 0 where
  pub works : WorksOn m first n
  pub from : IsHeldFrom m fallen n
  pub within : fallen ≤ bound
  pub reached : (fallen ≡ bound) ⊎ (fallen ≡ from.least)

module _ {M : Type 0} (meaning_of : M → Meaning) (first : NodeView M) where
  abbrev m : Meaning
  m = meaning_of first.model

  pub works-refused : (mid new : NodeView M) → WorksOn m first mid → IsAsBefore mid new → WorksOn m first new
  works-refused mid new works un = works-then m first mid new works (works-none m mid new un)

  pub settling-first : (bound : ℕ) → IsHeldFrom m bound first → IsSettling m first bound bound first
  settling-first bound from = record { works = works-none m first first (as_before first); from = from; within = omega arith; reached = inl refl }

  -- by a step below any bound up to the end
  pub settling-more : (bound fallen below least : ℕ) (key : Key) (mid new : NodeView M) → below ≤ end_stamp first.terms.end → IsSettling m first bound fallen mid → HasProcessed (meaning_of mid.model) below mid new key least
      → IsSettling m first bound (min fallen least) new
  settling-more bound fallen below least key mid new far settling did_there =
      let D : M → Type 0 = λ x. HasProcessed (meaning_of x) below mid new key least in
      let did : HasProcessed m below mid new key least = subst D settling.works.same.model did_there in
      let low = settling.within in
      let above = settling.from.above in
      record {
        works = works-more m first mid new below key least settling.works did far;
        from = record { least = min settling.from.least least; held = did.held settling.from.least settling.from.held; above = omega arith };
        within = omega arith;
        reached = by_test (ltb least fallen) refl low above settling.reached;
      }
    where
      by_test : (b : Bool) → ltb least fallen ≡ b → fallen ≤ bound → fallen ≤ settling.from.least → (fallen ≡ bound) ⊎ (fallen ≡ settling.from.least) → (min fallen least ≡ bound) ⊎ (min fallen least ≡ min settling.from.least least)
      by_test true h below above reached = let lt = ltb-true least fallen h in inr (omega arith)
      by_test false h below above reached = let ge = ltb-false least fallen h in elim reached [ inl e ↦ inl (omega arith) | inr e ↦ inr (omega arith) ]

  pub settling-idle : (bound fallen : ℕ) (mid new : NodeView M) → IsSettling m first bound fallen mid → IsLeftIdle (meaning_of mid.model) fallen mid new → IsSettled m bound fallen new
  settling-idle bound fallen mid new settling idle_there =
      let P : NodeView M → Type 0 = λ n. IsSettled m bound fallen n in
      let D : M → Type 0 = λ x. IsLeftIdle (meaning_of x) fallen mid new in
      let idle = subst D settling.works.same.model idle_there in
      subst P (sym idle.unchanged) (record { from = settling.from; within = settling.within; reached = settling.reached; idle = idle.idle })
