-- A node that advances on its own, below a plain bound.
use Rattle.std.proofs.Common.{◌≡◌, ◌⊎◌, inl, inr, ℕ, suc, ◌≤◌, List, [], min, refl, sym, ap, ◌∙◌, subst, arith}
use Rattle.std.specs.Prelude.{slice_get, Some}
use Rattle.std.specs.List.{AllByRecursion as Each}
use Rattle.event_key.specs.declared.key.Key.{Key}
use Rattle.event_key.specs.Stamps.{end_stamp}
use Rattle.model_core.specs.Meaning.{Meaning}
use Rattle.model_core.specs.declared.event.Event.{Event}
use Rattle.sim_spec.specs.declared.terms.Terms.{Terms}
use Rattle.world_spec.specs.Moves.{IsPastFaultOf}
use Rattle.node_core.specs.Nodes.{NodeView, data_of, home}
use Rattle.node_core.specs.Steps.{HasProcessed, IsLeftIdle}
use Rattle.cycle_core.specs.Busy.{IsQuiet}
use Rattle.cycle_core.specs.Known.{IsKnown}
use Rattle.cycle_core.specs.Works.{IsSettled}
use Rattle.cycle_core.proofs.ClosingLemmas.{AreSettling, settling-next}
use Rattle.cycle_core.proofs.PlaceLemmas.{at-same, upto-more}
use Rattle.cycle_core.proofs.WorkLemmas.{IsSettling, as_before, settling-more, works-none}
use Rattle.node_team.specs.Advances.{IsDeep, IsIdleBelow}
use Rattle.node_team.specs.Forks.{HasRun}
use Rattle.node_team.proofs.AdvanceLemmas.{idle-after}
use Rattle.node_team.proofs.RunningLemmas.{AreRunning}

-- a node that has settled below what the bound fell to, and may go on past it
pub record IsPast {M : Type 0} (m : Meaning) (first : NodeView M) (bound fallen : ℕ) (n : NodeView M) : Type 0 where
  pub settling : IsSettling m first bound fallen n
  pub idle : IsIdleBelow m fallen n

-- where nothing waits, nothing does below a bound
pub idle-none : {M : Type 0} (m : Meaning) (n : NodeView M) (bound : ℕ) → n.waiting ≡ [] → IsIdleBelow m bound n
idle-none m n bound none =
    let P : List Event → Type 0 = Each (λ (e : Event). (bound ≤ e.key.stamp) ⊎ IsPastFaultOf m (home n) n.number (data_of n) e.key) in
    subst P (sym none) tt

module _ {M : Type 0} (meaning_of : M → Meaning) (first : NodeView M) (bound fallen : ℕ) (n : NodeView M) where
  abbrev m : Meaning
  m = meaning_of first.model

  pub past-settled : IsPast m first bound fallen n → IsSettled m bound fallen n
  past-settled past = record { from = past.settling.from; within = past.settling.within; reached = past.settling.reached; idle = past.idle }

  -- it may as soon as it is idle
  pub past-first : (new : NodeView M) → IsSettling m first bound fallen n → IsLeftIdle (meaning_of n.model) fallen n new → IsPast m first bound fallen new
  past-first new settling left =
      let P : NodeView M → Type 0 = λ x. IsPast m first bound fallen x in
      let I : M → Type 0 = λ x. IsIdleBelow (meaning_of x) fallen n in
      subst P (sym left.unchanged) (record { settling = settling; idle = subst I settling.works.same.model left.idle })

  -- it is deep enough where nothing is left below the end
  pub past-deep : (ahead end : ℕ) (new : NodeView M) → IsPast m first bound fallen n → IsLeftIdle (meaning_of n.model) end n new → end ≡ end_stamp first.terms.end → IsDeep m ahead first new
  past-deep ahead end new past left is =
      let same = past.settling.works.same in
      let P : NodeView M → Type 0 = λ x. IsDeep m ahead first x in
      let I : M → ℕ → Type 0 = λ v b. IsIdleBelow (meaning_of v) b n in
      let end_is : end ≡ end_stamp n.terms.end = is ∙ ap (λ t. end_stamp t.end) (sym same.terms) in
      subst P (sym left.unchanged) (inr (subst (λ b. I first.model b) end_is (subst (λ v. I v end) same.model left.idle)))

  -- a step below any bound up to the end keeps it so
  pub past-more : (below least : ℕ) (key : Key) (new : NodeView M) → below ≤ end_stamp first.terms.end → IsKnown (meaning_of n.model) n → IsPast m first bound fallen n
      → HasProcessed (meaning_of n.model) below n new key least → IsPast m first bound (min fallen least) new
  past-more below least key new far known past did =
      let K : M → Type 0 = λ x. IsKnown (meaning_of x) n in
      let D : M → Type 0 = λ x. HasProcessed (meaning_of x) below n new key least in
      let same = past.settling.works.same.model in
      record {
        settling = settling-more meaning_of first bound fallen below least key n new far past.settling did;
        idle = idle-after m below n new key least (subst K same known) (subst D same did) (min fallen least) fallen (omega arith) past.idle;
      }

-- nodes that advance one after another, as far as they have
pub record AreAdvancing {M : Type 0} (meaning_of : M → Meaning) (terms : Terms) (ahead : ℕ) (first now : List (NodeView M)) (fallen : ℕ) (place : ℕ) : Type 0 where
  pub settling : AreSettling meaning_of terms place first now fallen
  pub running : AreRunning meaning_of ahead place first now

-- a node without events has done so
pub advancing-over : {M : Type 0} (meaning_of : M → Meaning) (terms : Terms) (ahead : ℕ) (first now : List (NodeView M)) (fallen : ℕ) → (place : ℕ) (n : NodeView M) → slice_get first place ≡ Some n → IsQuiet n
    → AreAdvancing meaning_of terms ahead first now fallen place → AreAdvancing meaning_of terms ahead first now fallen (suc place)
advancing-over meaning_of terms ahead first now fallen place n at quiet so_far =
    let m = meaning_of n.model in
    let here = so_far.settling.upto.rest place (omega arith) ∙ at in
    let works = works-none m n n (as_before n) in
    let same = at-same now place n here in
    let S : List (NodeView _) → Type 0 = λ ns. AreSettling meaning_of terms (suc place) first ns fallen in
    let R : List (NodeView _) → Type 0 = λ ns. AreRunning meaning_of ahead (suc place) first ns in
    record {
      settling = subst S same
          (settling-next meaning_of terms place first now fallen fallen n n so_far.settling here works
          (record { from = so_far.settling.opened.from place n here; within = omega arith; reached = inl refl; idle = idle-none m n fallen quiet.1 }));
      running = subst R same
          (upto-more (λ old new. HasRun (meaning_of old.model) ahead old new) place first now n n so_far.running here (record { works = works; deep = inr (idle-none m n (end_stamp n.terms.end) quiet.1) }));
    }
