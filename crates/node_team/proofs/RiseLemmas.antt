-- How far a node works ahead.
use Rattle.std.proofs.Common.{◌≡◌, ◌⊎◌, inl, inr, ℕ, suc, ◌+◌, ◌≤◌, min, Bool, true, false, cond, List, [], ◌∷◌, length, refl, sym, ap, ◌∙◌, subst, arith, ltb, ltb-true}
use Rattle.std.specs.List.{AllByRecursion as Each}
use Rattle.std.specs.Prelude.{filter, Option}
use Rattle.std.proofs.lemmas.Option.{slice_get_within}
use Rattle.event_key.specs.declared.key.Key.{Key}
use Rattle.model_core.specs.declared.note.Note.{Note}
use Rattle.event_key.specs.Stamps.{end_stamp}
use Rattle.model_core.specs.Meaning.{Meaning}
use Rattle.model_core.specs.declared.event.Event.{Event}
use Rattle.sim_spec.specs.declared.terms.Terms.{Terms}
use Rattle.world_spec.specs.Share.{NodeData}
use Rattle.world_spec.specs.Moves.{Steps, IsIdle, IsPastFaultOf}
use Rattle.node_core.specs.Nodes.{NodeView, home, data_of}
use Rattle.cycle_core.specs.Cuts.{HaveEnded}
use Rattle.cycle_core.specs.Works.{HasFault, IsFull, WorksOn, AllWorkOn}
use Rattle.cycle_core.proofs.PlaceLemmas.{at-some}
use Rattle.node_team.specs.Rises.{count_below, WorkRises, AllRise}
use Rattle.node_team.specs.Forks.{AllHaveRun}

-- an event more is one more at most
one-fewer : (bound : ℕ) (e : Event) (es : List Event) → count_below bound (e ∷ es) ≤ suc (count_below bound es)
one-fewer bound e es = by_test (ltb e.key.stamp bound)
  where
    by_test : (b : Bool) → length (cond b (e ∷ filter (λ x. ltb x.key.stamp bound) es) (filter (λ x. ltb x.key.stamp bound) es)) ≤ suc (length (filter (λ x. ltb x.key.stamp bound) es))
    by_test true = omega arith
    by_test false = omega arith

-- steps take as many events as they are
steps-take : (m : Meaning) (home : ℕ → ℕ) (node bound : ℕ) (bounds : List ℕ) (old new : NodeData) → Steps m home node bounds old new
    → count_below bound old.unprocessed ≤ length bounds + count_below bound new.unprocessed
unfolding Steps
steps-take m home node bound [] old new same = let is = ap (λ (d : NodeData). count_below bound d.unprocessed) same in omega arith
steps-take m home node bound (b ∷ bounds) old new steps =
    let step = steps.1 in
    let is = ap (count_below bound) step.waits in
    let one = one-fewer bound step.event steps.0.unprocessed in
    let more = steps-take m home node bound bounds steps.0 new steps.2 in
    omega arith

module _ {M : Type 0} (m : Meaning) (n : NodeView M) where
  -- where nothing faulted, an idle node has no event below the bound
  none-left : (bound : ℕ) (es : List Event) → Each (λ e. (bound ≤ e.key.stamp) ⊎ IsPastFaultOf m (home n) n.number (data_of n) e.key) es → HasFault m n ⊎ (count_below bound es ≡ 0)
  none-left bound [] idle = inr refl
  none-left bound (e ∷ es) idle = by_first idle.0 (none-left bound es idle.1)
    where
      by_test : (b : Bool) → ltb e.key.stamp bound ≡ b → bound ≤ e.key.stamp → length (filter (λ x. ltb x.key.stamp bound) es) ≡ 0
          → length (cond b (e ∷ filter (λ x. ltb x.key.stamp bound) es) (filter (λ x. ltb x.key.stamp bound) es)) ≡ 0
      by_test true is far rest = absurd (let lt = ltb-true e.key.stamp bound is in omega arith)
      by_test false is far rest = rest

      by_first : (bound ≤ e.key.stamp) ⊎ IsPastFaultOf m (home n) n.number (data_of n) e.key → HasFault m n ⊎ (count_below bound es ≡ 0) → HasFault m n ⊎ (count_below bound (e ∷ es) ≡ 0)
      by_first (inr past) rest = inl (past.0, past.1, past.2, past.3)
      by_first (inl far) (inl fault) = inl fault
      by_first (inl far) (inr none) = inr (by_test (ltb e.key.stamp bound) refl far none)

-- an advance raises the work
pub work-rises : {M : Type 0} (m : Meaning) (ahead : ℕ) (old new : NodeView M) → WorksOn m old new
    → (ahead + length old.processed ≤ length new.processed) ⊎ IsIdle m (home new) new.number (end_stamp new.terms.end) (data_of new) → WorkRises m ahead old new
work-rises m ahead old new works deep = by_work works.work
  where
    taken : count_below (end_stamp old.terms.end) old.waiting ≤ length works.bounds + count_below (end_stamp old.terms.end) new.waiting
    taken = steps-take m (home old) old.number (end_stamp old.terms.end) works.bounds (data_of old) (data_of new) works.steps

    many : ahead ≤ length works.bounds ⊎ (count_below (end_stamp old.terms.end) old.waiting ≤ length works.bounds) → new.work ≡ old.work + length works.bounds
        → old.work + min ahead (count_below (end_stamp old.terms.end) old.waiting) ≤ new.work
    many (inl far) is = omega arith
    many (inr all) is = omega arith

    by_none : new.work ≡ old.work + length works.bounds → HasFault m new ⊎ (count_below (end_stamp new.terms.end) new.waiting ≡ 0) → WorkRises m ahead old new
    by_none is (inl fault) = inl (works.met_more fault)
    by_none is (inr none) =
        let P : Terms → Type 0 = λ t. count_below (end_stamp t.end) new.waiting ≡ 0 in
        let zero_here : P old.terms = subst P works.same.terms none in
        let all = taken in
        inr (inr (many (inr (omega arith)) is))

    by_deep : new.work ≡ old.work + length works.bounds → (ahead + length old.processed ≤ length new.processed) ⊎ IsIdle m (home new) new.number (end_stamp new.terms.end) (data_of new) → WorkRises m ahead old new
    by_deep is (inl far) = let more = works.processed in inr (inr (many (inl (omega arith)) is))
    by_deep is (inr idle) = by_none is (none-left m new (end_stamp new.terms.end) new.waiting idle)

    by_work : (new.work ≡ old.work + length works.bounds) ⊎ IsFull new.work → WorkRises m ahead old new
    by_work (inr full) = inr (inl full)
    by_work (inl is) = by_deep is deep

-- what comes after an advance keeps what it raised
pub rises-on : {M : Type 0} (m : Meaning) (ahead : ℕ) (old mid new : NodeView M) → WorkRises m ahead old mid → mid.work ≤ new.work → mid.met ≤ new.met → WorkRises m ahead old new
rises-on m ahead old mid new rises work met =
    elim rises [
      | inl (inl fault) ↦ inl (inl fault)
      | inl (inr (inl more)) ↦ inl (inr (inl (omega arith)))
      | inl (inr (inr full)) ↦ inl (inr (inr (omega arith)))
      | inr (inl full) ↦ inr (inl (omega arith))
      | inr (inr enough) ↦ inr (inr (omega arith))
    ]

-- a cycle raises the work of each node
pub all-rise : {M : Type 0} (meaning_of : M → Meaning) (ahead bound : ℕ) (below : Option Key) (w0 w1 w2 w3 : List (NodeView M)) (records : List (Key × Note))
    → AllHaveRun meaning_of ahead w0 w1 → AllWorkOn meaning_of w1 w2 → HaveEnded meaning_of bound below w2 w3 records → AllRise meaning_of ahead w0 w3
all-rise meaning_of ahead bound below w0 w1 w2 w3 records run close have = record {
  many = have.receives.many ∙ have.commits.many ∙ close.many ∙ run.many;
  pairs = λ place x y at_x at_y.
      let lt = slice_get_within w0 place x at_x in
      let one : length w1 ≡ length w0 = run.many in
      let two : length w2 ≡ length w1 = close.many in
      let three : length have.mids ≡ length w2 = have.commits.many in
      let count : length have.all ≡ length w2 = have.commits.count in
      let long : length have.parcels ≡ length w2 = have.long in
      let a = at-some w1 place (omega arith) in
      let b = at-some w2 place (omega arith) in
      let d = at-some have.mids place (omega arith) in
      let c = at-some have.all place (omega arith) in
      let es = at-some have.parcels place (omega arith) in
      let more = close.pairs place a.0 b.0 a.1 b.1 in
      let commit = have.commits.each place b.0 d.0 c.0 (omega arith) b.1 d.1 c.1 in
      let receive = have.receives.each place d.0 y es.0 (omega arith) d.1 at_y es.1 in
      let ran = run.pairs place x a.0 at_x a.1 in
      let rises = work-rises (meaning_of x.model) ahead x a.0 ran.works ran.deep in
      let work : b.0.work ≡ y.work = sym (receive.receives.work ∙ receive.room.work ∙ commit.work) in
      let met : b.0.met ≡ y.met = sym (receive.receives.met ∙ receive.room.met ∙ commit.met) in
      let work_up : a.0.work ≤ b.0.work = more.work_up in
      let met_up : a.0.met ≤ b.0.met = more.met in
      rises-on (meaning_of x.model) ahead x a.0 y rises (omega arith) (omega arith);
}
