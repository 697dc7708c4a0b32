-- A cycle over the nodes of a world, from its cut to the state after it.
use Rattle.std.proofs.Common.{◌≡◌, ℕ, ◌+◌, ◌-◌, ◌<◌, ◌≤◌, ◌^◌, Bool, true, false, cond, List, [], ◌∷◌, ◌++◌, length, take, drop, map, ◌%◌, ◌&&◌, refl, sym, ap, ◌∙◌, subst, arith, nat_lt, ◌==◌}
use Rattle.std.proofs.Math.Seq.{take-append_seam}
use Rattle.std.proofs.lemmas.List.{length-map, map-append}
use Rattle.std.proofs.lemmas.List.Elements.{Contains-append_left}
use Rattle.std.proofs.lemmas.Option.{slice_get_within}
use Rattle.std.specs.Prelude.{slice_get, Option, Some, None, IsPermutation, filter, Contains}
use Rattle.event_key.specs.declared.key.Key.{Key}
use Rattle.model_core.specs.Meaning.{Meaning, MeaningLaws}
use Rattle.model_core.specs.declared.event.Event.{Event}
use Rattle.model_core.specs.declared.note.Note.{Note}
use Rattle.sim_spec.specs.declared.bucket.Bucket.{Bucket}
use Rattle.sim_spec.specs.Cut.{after, committed_events, cut, records_of}
use Rattle.sim_spec.specs.Replay.{Replay, early_replay, events_at}
use Rattle.sim_spec.specs.State.{State}
use Rattle.object_log.specs.Dones.{Done}
use Rattle.object_log.specs.Logs.{events_of, keys_of}
use Rattle.world_spec.specs.Answer.{AreKeysBelow, CutData, IsAnswer, answer_of, cut_below}
use Rattle.world_spec.specs.Closed.{IsLeastFault, cut_key, is_late}
use Rattle.world_spec.specs.Early.{IsClosed, RunsAhead, early_events}
use Rattle.world_spec.specs.Share.{IsHome}
use Rattle.world_spec.specs.World.{WorldIsClosed}
use Rattle.world_spec.proofs.AnswerLaw.{answer_law}
use Rattle.world_spec.proofs.WorldFacts.{share-events, share-log, world-runs, world-closed}
use Rattle.node_core.specs.Homes.{HomesView, home_of}
use Rattle.node_core.specs.Nodes.{NodeView, log_at, home, data_of}
use Rattle.cycle_core.specs.declared.cut.Cut.{Cut}
use Rattle.cycle_core.specs.Cuts.{AreKeysIn, IsLeastFaultIn, IsCutOf, CanEnd, HaveEnded, cut_data}
use Rattle.cycle_core.specs.Carries.{Carries, AllCarry}
use Rattle.cycle_core.specs.Ends.{AllEnd}
use Rattle.cycle_core.specs.Known.{IsKnown, AreKnown}
use Rattle.cycle_core.specs.Works.{AllWorkOn}
use Rattle.cycle_core.specs.Worlds.{WorldView, data_at, IsNodeOf, data_of_world, StandsAt}
use Rattle.cycle_core.proofs.CommitFacts.{middle, mid_is, mid_record, the-cycle, node-due, sent-few, all-can-receive, all-end, told-is, arrivals_of, arrive}
use Rattle.cycle_core.proofs.EndLemmas.{next-ahead, next-stands}
use Rattle.cycle_core.proofs.CarriedFacts.{ahead-is, carried, log-early, undone-few}
use Rattle.cycle_core.proofs.PlaceLemmas.{at-some}
use Rattle.cycle_core.proofs.RecordLemmas.{records-differ}
use Rattle.cycle_core.specs.Records.{RecordsDiffer}
use Rattle.cycle_core.proofs.WorldLemmas.{inside, node-stands, all-small, home-there, home-here}

filter-keys : (p : Key → Bool) (ds : List Done) → filter p (keys_of ds) ≡ map (λ (e : Event). e.key) (filter (λ (e : Event). p e.key) (events_of ds))
filter-keys p [] = refl
filter-keys p (d ∷ ds) = by_test (p d.event.key) (filter-keys p ds)
  where
    by_test : (b : Bool) → filter p (keys_of ds) ≡ map (λ (e : Event). e.key) (filter (λ (e : Event). p e.key) (events_of ds))
        → cond b (d.event.key ∷ filter p (keys_of ds)) (filter p (keys_of ds)) ≡ map (λ (e : Event). e.key) (cond b (d.event ∷ filter (λ (e : Event). p e.key) (events_of ds)) (filter (λ (e : Event). p e.key) (events_of ds)))
    by_test true more = ap (λ ks. d.event.key ∷ ks) more
    by_test false more = more

module _ {M : Type 0} (meaning_of : M → Meaning) (w : WorldView M) (laws : MeaningLaws (meaning_of w.model)) (s : State) (stands : StandsAt (meaning_of w.model) w s) (bound : ℕ)
    (closed : WorldIsClosed (meaning_of w.model) w.terms (home_of w.homes) w.homes.nodes (data_at w.nodes) bound) (known : AreKnown meaning_of w.nodes) where
  abbrev m : Meaning
  m = meaning_of w.model

  abbrev home_in : ℕ → ℕ
  home_in = home_of w.homes

  runs : RunsAhead m w.terms s stands.ahead
  runs = world-runs m w.terms home_in w.homes.nodes s stands.shares stands.ahead (data_of_world m w) stands.stands

  idle : IsClosed m w.terms s stands.ahead bound
  idle = world-closed m w.terms home_in w.homes.nodes s stands.shares stands.ahead (data_of_world m w) stands.stands bound closed

  -- the node of an object
  record Place (object : ℕ) : Type 0 where
    n : NodeView M
    at : slice_get w.nodes (home_in object) ≡ Some n
    below : home_in object < w.homes.nodes
    is : IsNodeOf w.model w.terms w.homes (home_in object) n
    here : IsHome m (home n) n.number object
    events : events_of (log_at n.logs object).done ≡ early_events s object (stands.ahead object)
    log : (data_of n).log object ≡ early_replay m s object (stands.ahead object)

  place : (object : ℕ) → object < m.objects → Place object
  place object low =
      let below = stands.stands.homes object low in
      let many = stands.has.nodes.many in
      let x = at-some w.nodes (home_in object) (omega arith) in
      let is = stands.has.nodes.each (home_in object) x.0 x.1 in
      let at_home : IsHome m home_in (home_in object) object = (low, refl) in
      let here = home-there m x.0 w.model w.terms w.homes (home_in object) is object at_home in
      let S = node-stands m w s stands (home_in object) x.0 x.1 in
      let K : M → Type 0 = λ v. IsKnown (meaning_of v) x.0 in
      let its = (subst K is.model_is (known (home_in object) x.0 x.1)).only (stands.shares (home_in object)) stands.ahead S in
      let own = stands.stands.shares_of (home_in object) below in
      let done = events_of (log_at x.0.logs object).done in
      let long : stands.ahead object ≡ length done = its.ahead_is object here ∙ sym (length-map (log_at x.0.logs object).done (λ (d : Done). d.event)) in
      record {
        n = x.0;
        at = x.1;
        below = below;
        is = is;
        here = here;
        events =
            sym (ap (λ es. take (stands.ahead object) es) (sym (share-events m home_in s (home_in object) (stands.shares (home_in object)) own object at_home) ∙ its.pending object here)
            ∙ ap (λ k. take k (done ++ events_at object x.0.waiting)) long ∙ take-append_seam done (events_at object x.0.waiting));
        log = S.stands.logs object here ∙ share-log m home_in s (home_in object) (stands.shares (home_in object)) own object (stands.ahead object) at_home;
      }

  keys-below : (keys : List Key) → AreKeysIn meaning_of bound w.nodes keys → AreKeysBelow m s stands.ahead bound keys
  keys-below keys are = record {
    ordered = are.ordered;
    inside = λ object past. are.others object (λ number n at home_at.
        let is = stands.has.nodes.each number n at in
        let P : M → Type 0 = λ v. object < (meaning_of v).objects in
        let low : object < m.objects = subst P is.model_is home_at.0 in
        let clash : ⊥ = absurd (omega arith) in clash);
    parts = λ object low.
        let p = place object low in
        let P : M → Type 0 = λ v. IsHome (meaning_of v) (home p.n) p.n.number object in
        are.parts (home_in object) p.n p.at object (subst P (sym p.is.model_is) p.here)
        ∙ filter-keys (λ (k : Key). nat_lt k.stamp bound) (log_at p.n.logs object).done
        ∙ ap (λ es. map (λ (e : Event). e.key) (filter (λ (e : Event). nat_lt e.key.stamp bound) es)) p.events;
  }

  least-fault : (fault : Option (Key × ℕ)) → IsLeastFaultIn meaning_of bound w.nodes fault → IsLeastFault m s stands.ahead bound fault
  least-fault None none = λ object low met is_met.
      let p = place object low in
      let P : M → Type 0 = λ v. IsHome (meaning_of v) (home p.n) p.n.number object in
      none (home_in object) p.n p.at object (subst P (sym p.is.model_is) p.here) met (ap (λ (r : Replay). r.fault) p.log ∙ is_met)
  least-fault (Some fault) some =
      let n = some.0.1 in
      let is = stands.has.nodes.each some.0.0 n some.0.2 in
      let P : M → Type 0 = λ v. IsHome (meaning_of v) (home n) n.number fault.0.dest in
      let at = subst P is.model_is some.0.3 in
      let there = home-here m n w.model w.terms w.homes some.0.0 is fault.0.dest at in
      let below = inside m w s stands some.0.0 n some.0.2 in
      let S = node-stands m w s stands some.0.0 n some.0.2 in
      let own = stands.stands.shares_of some.0.0 below in
      let log = S.stands.logs fault.0.dest at ∙ share-log m home_in s some.0.0 (stands.shares some.0.0) own fault.0.dest (stands.ahead fault.0.dest) there in (
        at.0,
        ap (λ (r : Replay). r.fault) (sym log) ∙ some.0.4,
        some.1,
        λ object low met is_met.
            let p = place object low in
            let Q : M → Type 0 = λ v. IsHome (meaning_of v) (home p.n) p.n.number object in
            some.2 (home_in object) p.n p.at object (subst Q (sym p.is.model_is) p.here) met (ap (λ (r : Replay). r.fault) p.log ∙ is_met),
      )

  -- the cut is that of the state
  pub cut-answers : (c : Cut) → IsCutOf meaning_of w bound c → IsAnswer m w.terms s bound (cut_data c)
  cut-answers c is_cut =
      let law = answer_law m w.terms s stands.ahead bound is_cut.keys is_cut.fault stands.stands.lawful runs idle (keys-below is_cut.keys is_cut.keys_are) (least-fault is_cut.fault is_cut.fault_is) in
      let P : CutData → Type 0 = IsAnswer m w.terms s bound in
      subst P (sym (is_cut.is ∙ ap (λ n. cut_below (w.terms.limit - n) is_cut.keys is_cut.fault) stands.stands.count)) law

  pub can-end : (below : Option Key) → below ≡ cut_key m w.terms s → CanEnd meaning_of bound below w.nodes
  can-end below same =
      let P : Option Key → Type 0 = λ k. CanEnd meaning_of bound k w.nodes in
      let small = all-small meaning_of w s stands known in
      let many = stands.has.nodes.many in
      subst P (sym same) (record {
        due = λ number n at. node-due meaning_of w laws s stands bound closed number n at;
        few = λ number n at. (let few = (small number n at).few in omega arith);
        wide = λ number n at. (let is = stands.has.nodes.each number n at in ap (λ (h : HomesView). h.nodes) is.homes_is ∙ sym many);
        sent = λ mids all upto to low. sent-few meaning_of w laws s stands bound closed mids all upto to (omega arith);
        told = λ mids all upto. subst RecordsDiffer (sym (told-is meaning_of w laws s stands bound closed mids all upto)) (records-differ m w.terms home_in w.homes.nodes s stands.stands.lawful stands.stands.homes);
        arrives = λ mids all parcel_list upto long sorted mids_known. all-can-receive meaning_of w laws s stands bound closed mids all upto parcel_list (long ∙ many) sorted mids_known;
      })

  module _ (c : Cut) (is_cut : IsCutOf meaning_of w bound c) (new : List (NodeView M)) (records : List (Key × Note)) (ended : HaveEnded meaning_of bound c.below w.nodes new records) where
    below_is : c.below ≡ cut_key m w.terms s
    below_is = (cut-answers c is_cut).below

    ended_here : HaveEnded meaning_of bound (cut_key m w.terms s) w.nodes new records
    ended_here = let P : Option Key → Type 0 = λ k. HaveEnded meaning_of bound k w.nodes new records in subst P below_is ended

    ends : AllEnd meaning_of bound (cut_key m w.terms s) (arrivals_of meaning_of w laws s stands bound closed ended_here.mids ended_here.all ended_here.commits ended_here.parcels (ended_here.long ∙ stands.has.nodes.many) ended_here.sorted) w.nodes new
    ends = all-end meaning_of w laws s stands bound closed ended_here.mids ended_here.all ended_here.commits ended_here.parcels (ended_here.long ∙ stands.has.nodes.many) ended_here.sorted new ended_here.receives

    -- the records are those of the bucket
    pub records-are : records ≡ records_of (committed_events m w.terms s)
    records-are =
        let P : List (Key × Note) → Type 0 = λ xs. IsPermutation xs records in
        (the-cycle meaning_of w laws s stands bound closed).records records (subst P (told-is meaning_of w laws s stands bound closed ended_here.mids ended_here.all ended_here.commits) ended_here.permutes) ended_here.ordered

    pub bucket-is : answer_of bound (cut_data c) records ≡ cut m w.terms s
    bucket-is = ap (answer_of bound (cut_data c)) records-are ∙ (cut-answers c is_cut).bucket

    pub fault-is : c.fault ≡ (cut m w.terms s).fault
    fault-is = ap (λ (b : Bucket). b.fault) bucket-is

    pub stands-after : StandsAt m (record w { nodes = new; count = w.count + length records; fault = c.fault }) (after m w.terms s)
    stands-after =
        let long : length records ≡ length (committed_events m w.terms s) = ap length records-are ∙ length-map (committed_events m w.terms s) (λ d. (d.0.key, d.1.note)) in
        let P : ℕ → Option (Key × ℕ) → Type 0 = λ n f. StandsAt m (record w { nodes = new; count = w.count + n; fault = f }) (after m w.terms s) in
        let one : P (length (committed_events m w.terms s)) (cut m w.terms s).fault = next-stands meaning_of w laws s stands bound closed _ new ends (arrive meaning_of w laws s stands bound closed ended_here.mids ended_here.all ended_here.commits ended_here.parcels (ended_here.long ∙ stands.has.nodes.many) ended_here.sorted) in
        subst (λ n. P n c.fault) (sym long) (subst (λ f. P (length (committed_events m w.terms s)) f) (sym fault-is) one)

    -- what was processed when the nodes were last asked is carried
    module _ (firsts : List (NodeView M)) (works : AllWorkOn meaning_of firsts w.nodes) (known_new : AreKnown meaning_of new) where
      carry : (number : ℕ) (x0 y : NodeView M) → slice_get firsts number ≡ Some x0 → slice_get new number ≡ Some y → Carries meaning_of s (committed_events m w.terms s) number x0 y
      carry number x0 y at_first at_new =
          let many = works.many in
          let lt = slice_get_within firsts number x0 at_first in
          let nodes_many = stands.has.nodes.many in
          let below : number < w.homes.nodes = omega arith in
          let p = middle meaning_of w laws s stands bound closed ended_here.mids ended_here.all ended_here.commits number below in
          let on = works.pairs number x0 p.x at_first p.at_old in
          let x0_is : IsNodeOf w.model w.terms w.homes number x0 = record {
            model_is = sym on.same.model ∙ p.is.model_is;
            terms_is = sym on.same.terms ∙ p.is.terms_is;
            homes_is = sym on.same.homes ∙ p.is.homes_is;
            number_is = sym on.same.number ∙ p.is.number_is;
          } in
          let K : M → NodeView M → Type 0 = λ v n. IsKnown (meaning_of v) n in
          let mid_node = mid_is meaning_of w laws s stands bound closed ended_here.mids ended_here.all ended_here.commits number below in
          let known_mid : IsKnown m p.mid = subst (λ v. K v p.mid) mid_node.model_is (ended_here.known number p.mid p.at_mid) in
          let known_x : IsKnown m p.x = subst (λ v. K v p.x) p.is.model_is (known number p.x p.at_old) in
          let next = next-stands meaning_of w laws s stands bound closed _ new ends (arrive meaning_of w laws s stands bound closed ended_here.mids ended_here.all ended_here.commits ended_here.parcels (ended_here.long ∙ stands.has.nodes.many) ended_here.sorted) in
          let y_is = next.has.nodes.each number y at_new in
          let known_y : IsKnown m y = subst (λ v. K v y) y_is.model_is (known_new number y at_new) in
          let later = λ (object : ℕ). next-ahead meaning_of w laws s stands bound closed _ new ends (arrive meaning_of w laws s stands bound closed ended_here.mids ended_here.all ended_here.commits ended_here.parcels (ended_here.long ∙ stands.has.nodes.many) ended_here.sorted) object in
          let parcel_long : length ended_here.parcels ≡ length w.nodes = ended_here.long in
          let parcel_at = at-some ended_here.parcels number (omega arith) in
          let mids_many = ended_here.commits.many in
          let r = ended_here.receives.each number p.mid y parcel_at.0 (omega arith) p.at_mid at_new parcel_at.1 in
          let mid_there = mid_record meaning_of w laws s stands bound closed ended_here.mids ended_here.all ended_here.commits number below in
          let its_mid = known_mid.only _ _ mid_there in
          record {
            stays = λ object home0 e was undone on_time.
                let H : M → Type 0 = λ v. IsHome (meaning_of v) (home x0) x0.number object in
                let at : IsHome m home_in number object = home-here m x0 w.model w.terms w.homes number x0_is object (subst H x0_is.model_is home0) in
                let more = on.begins object in
                let C : List Event → Type 0 = λ es. Contains es e in
                let in_x : C (events_of (log_at p.x.logs object).done) =
                subst C (sym (ap events_of more.1 ∙ map-append (λ (d : Done). d.event) (log_at x0.logs object).done more.0))
                (Contains-append_left (events_of (log_at x0.logs object).done) (events_of more.0) e was) in
                let early = subst C (log-early m w s stands number p.x p.at_old known_x object (home-there m p.x w.model w.terms w.homes number p.is object at)) in_x in
                let kept_on = (carried m w s stands laws bound closed).stays object at.0 e early undone on_time in
                let A : ℕ → Type 0 = λ n. Contains (early_events (after m w.terms s) object n) e in
                let later_here = subst A (sym (later object)) kept_on in
                subst C (sym (log-early m _ (after m w.terms s) next number y at_new known_y object (home-there m y w.model w.terms w.homes number y_is object at))) later_here;
            count = r.count;
            undone =
                ap (λ c. c.undone) r.receives.counts
                ∙ ap (λ n. (n + r.count) % 2 ^ 64) (ap (λ c. c.undone) r.room.counts ∙ ap (λ c. c.undone) p.commits.counts ∙ on.undone);
            few =
                (let Q : HomesView → Type 0 = λ h. r.count ≤ length (filter (λ (e : Event). is_late (committed_events m w.terms s) e && home_of h e.key.dest == number) (drop (length (committed_events m w.terms s)) s.pending)) in
                let sum : length y.processed + r.count ≡ length p.mid.processed = r.receives.count_is ∙ ap length r.room.processed in
                subst Q (sym x0_is.homes_is)
                (undone-few m w s stands laws bound closed number p.mid y below (λ object at. home-there m p.mid w.model w.terms w.homes number mid_node object at) (λ object at. home-here m p.mid w.model w.terms w.homes number mid_node object at)
                known_mid.keys known_y.keys
                (λ object at. sym (its_mid.ahead_is object (home-there m p.mid w.model w.terms w.homes number mid_node object at)))
                (λ object at. sym (ahead-is m _ (after m w.terms s) next number y at_new known_y object (home-there m y w.model w.terms w.homes number y_is object at)) ∙ later object)
                r.count sum));
          }

      pub all-carry : AllCarry meaning_of s (committed_events m w.terms s) firsts new
      all-carry = record { each = carry }
