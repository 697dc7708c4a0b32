-- A cycle in threads: advanced, closed, cut and ended.
use Rattle.std.proofs.Common.{◌≡◌, ℕ, Bool, true, false, List, refl, sym, ap, ◌∙◌, subst, arith}
use Rattle.std.specs.Prelude.{Result, Ok, Err, IfOk, OnErr, OnOk}
use Rattle.std.proofs.lemmas.Option.{slice_get_within}
use Rattle.event_key.specs.declared.key.Key.{Key}
use Rattle.event_key.specs.Stamps.{end_stamp}
use Rattle.delta_exchange.specs.declared.memory.OutOfMemory.{OutOfMemory}
use Rattle.model_core.specs.Meaning.{Meaning, MeaningLaws}
use Rattle.model_core.specs.declared.note.Note.{Note}
use Rattle.sim_spec.specs.State.{State}
use Rattle.world_spec.specs.WorldLaws.{WorldStepsLaw}
use Rattle.node_core.specs.Nodes.{NodeView}
use Rattle.cycle_core.specs.declared.cut.Cut.{Cut}
use Rattle.cycle_core.specs.Busy.{NamesBusy}
use Rattle.cycle_core.specs.Cuts.{IsCutOf, HaveEnded}
use Rattle.cycle_core.specs.Cycled.{IsClosedAt}
use Rattle.cycle_core.specs.Known.{AreKnown}
use Rattle.cycle_core.specs.Works.{AllWorkOn, WorksOn, IsOpened, AreIdle}
use Rattle.cycle_core.specs.Worlds.{WorldView, StandsAt}
use Rattle.cycle_core.proofs.PassLemmas.{busy-on}
use Rattle.cycle_core.proofs.PlaceLemmas.{at-some, same-some}
use Rattle.cycle_core.proofs.WholeCycle.{HasCycled, whole-cycle}
use Rattle.cycle_core.proofs.WorkLemmas.{as_before, works-none, works-then}
use Rattle.cycle_core.proofs.WorldLemmas.{close-closed, close-stands}
use Rattle.node_team.specs.Closes.{HasClosed}
use Rattle.node_team.specs.Forks.{AllHaveRun}
use Rattle.node_team.proofs.RunningLemmas.{run-works}

-- what holds unless a call was refused holds of a world that isn't spent
pub ready-after : {A E : Type 0} (P : Type 0) (r : Result A E) (spent : Bool) → OnOk r P → OnErr r (spent ≡ true) → spent ≡ false → P
ready-after P (Ok x) spent ready refused awake = ready
ready-after P (Err e) spent ready refused awake = absurd (cc)

module _ {M : Type 0} (meaning_of : M → Meaning) where
  -- nodes that did nothing
  pub none-worked : (xs : List (NodeView M)) → AllWorkOn meaning_of xs xs
  none-worked xs = record {
    many = refl;
    pairs = λ place x y at_x at_y.
        let P : NodeView M → Type 0 = λ v. WorksOn (meaning_of x.model) x v in
        subst P (same-some x y (sym at_x ∙ at_y)) (works-none (meaning_of x.model) x x (as_before x));
  }

  -- nodes that worked on, and worked on
  pub all-works-then : (xs ys zs : List (NodeView M)) → AllWorkOn meaning_of xs ys → AllWorkOn meaning_of ys zs → AllWorkOn meaning_of xs zs
  all-works-then xs ys zs first then = record {
    many = then.many ∙ first.many;
    pairs = λ place x z at_x at_z.
        let lt = slice_get_within xs place x at_x in
        let many = first.many in
        let y = at-some ys place (omega arith) in
        let a = first.pairs place x y.0 at_x y.1 in
        let b = then.pairs place y.0 z y.1 at_z in
        let P : M → Type 0 = λ v. WorksOn (meaning_of v) y.0 z in
        works-then (meaning_of x.model) x y.0 z a (subst P a.same.model b);
  }

  -- nodes that ran together and then settled have closed the cycle
  module _ (ahead : ℕ) (w0 w1 w2 : WorldView M) (run : AllHaveRun meaning_of ahead w0.nodes w1.nodes) (running : w1 ≡ record w0 { nodes = w1.nodes })
      (run_stands : (s : State) → StandsAt (meaning_of w0.model) w0 s → StandsAt (meaning_of w0.model) w1 s) (closing : w2 ≡ record w1 { nodes = w2.nodes }) (close_works : AllWorkOn meaning_of w1.nodes w2.nodes)
      (close_stands : (s : State) → StandsAt (meaning_of w1.model) w1 s → StandsAt (meaning_of w2.model) w2 s) where
    pub closed-two : (bound : ℕ) → IsClosedAt meaning_of w1 w2.nodes bound → HasClosed meaning_of ahead w0 w2 bound
    closed-two bound closed = record {
      mids = w1.nodes;
      run = run;
      works = close_works;
      world = let with_nodes : WorldView M → WorldView M = λ v. record v { nodes = w2.nodes } in closing ∙ ap with_nodes running;
      closed = let C : WorldView M → Type 0 = λ v. IsClosedAt meaning_of v w2.nodes bound in subst C running closed;
      stands = λ s stands.
          let model : w1.model ≡ w0.model = ap (λ (v : WorldView M). v.model) running in
          let P : M → Type 0 = λ v. StandsAt (meaning_of v) w1 s in
          close_stands s (subst P (sym model) (run_stands s stands));
    }

    pub closed-if : (result : Result ℕ OutOfMemory) → IfOk result (IsClosedAt meaning_of w1 w2.nodes) → IfOk result (HasClosed meaning_of ahead w0 w2)
    closed-if (Err refused) closed = tt
    closed-if (Ok bound) closed = closed-two bound closed

  -- nodes that ran until the cycle was closed have closed it
  pub closed-one : (ahead : ℕ) (w : WorldView M) (nodes : List (NodeView M)) (bound : ℕ) (s : State) → StandsAt (meaning_of w.model) w s → WorldStepsLaw (meaning_of w.model) w.terms → AllHaveRun meaning_of ahead w.nodes nodes
      → IsOpened meaning_of (end_stamp w.terms.end) nodes bound → AreIdle meaning_of bound nodes → HasClosed meaning_of ahead w (record w { nodes = nodes }) bound
  closed-one ahead w nodes bound s stands law run opened idle =
      let works = run-works meaning_of ahead w.nodes nodes run in
      record {
        mids = nodes;
        run = run;
        works = none-worked nodes;
        world = refl;
        closed = close-closed meaning_of w w.nodes nodes refl works bound stands.has opened idle;
        stands = λ s_2 stands_2. close-stands meaning_of w w.nodes nodes refl works law s_2 stands_2;
      }

  -- the world that it leaves is closed
  pub closed-here : (ahead : ℕ) (w0 w2 : WorldView M) (bound : ℕ) → HasClosed meaning_of ahead w0 w2 bound → IsClosedAt meaning_of w2 w2.nodes bound
  closed-here ahead w0 w2 bound closed = let C : WorldView M → Type 0 = λ v. IsClosedAt meaning_of v w2.nodes bound in subst C (sym closed.world) closed.closed

  -- the nodes that have events in it are those that had
  pub still-busy : (ahead : ℕ) (w0 w2 : WorldView M) (bound : ℕ) → HasClosed meaning_of ahead w0 w2 bound → (places : List ℕ) → NamesBusy w0.nodes places → NamesBusy w2.nodes places
  still-busy ahead w0 w2 bound closed places busy =
      busy-on meaning_of w0.nodes w2.nodes places (all-works-then w0.nodes closed.mids w2.nodes (run-works meaning_of ahead w0.nodes closed.mids closed.run) closed.works) busy

  -- what a closed cycle leaves, when it is cut and ended
  pub closed-cycle : (ahead : ℕ) (w0 w2 : WorldView M) (bound : ℕ) → HasClosed meaning_of ahead w0 w2 bound → MeaningLaws (meaning_of w2.model) → AreKnown meaning_of w2.nodes
      → (c : Cut) → IsCutOf meaning_of w2 bound c → (w4 : WorldView M) (records : List (Key × Note)) → AreKnown meaning_of w4.nodes → w4 ≡ record w2 { nodes = w4.nodes }
      → HaveEnded meaning_of bound c.below w2.nodes w4.nodes records
      → (s : State) → StandsAt (meaning_of w0.model) w0 s → HasCycled meaning_of (meaning_of w0.model) w0.terms s bound c records w0.nodes w4
  closed-cycle ahead w0 w2 bound closed laws known c is_cut w4 records known_new ending have s stands =
      let works = all-works-then w0.nodes closed.mids w2.nodes (run-works meaning_of ahead w0.nodes closed.mids closed.run) closed.works in
      whole-cycle meaning_of w0 w2 w4 bound c records closed.world closed.closed (λ s_2 at. closed.stands s_2 at) is_cut laws known works known_new ending have s stands
