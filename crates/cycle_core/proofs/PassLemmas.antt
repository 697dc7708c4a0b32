-- What a pass finds at a node without events, and where nothing arrives.
use Rattle.std.proofs.Common.{◌≡◌, ℕ, suc, ◌+◌, ◌<◌, ◌≤◌, ◌^◌, min, List, [], ◌∷◌, length, drop, refl, sym, ap, ◌∙◌, subst, inl, inr, arith, slice_set}
use Rattle.std.specs.Prelude.{slice_get, slice_index_or, filter, ◌==◌, Option, Some, None}
use Rattle.std.proofs.lemmas.List.{length-set, nil_from_length}
use Rattle.std.proofs.lemmas.Option.{slice_get_within}
use Rattle.event_key.specs.declared.key.Key.{Key}
use Rattle.event_key.specs.declared.stamp.TheConstants.{NO_STAMP}
use Rattle.model_core.specs.Meaning.{Meaning}
use Rattle.model_core.specs.declared.event.Event.{Event}
use Rattle.sim_spec.specs.Firing.{Firing}
use Rattle.sim_spec.specs.Replay.{EmitsFrom}
use Rattle.object_log.specs.Replays.{replay_of}
use Rattle.node_core.specs.declared.committed.Committed.{Committed}
use Rattle.node_core.specs.Blank.{AreEmpty, IsBlank}
use Rattle.node_core.specs.Calls.{CommitsNothing, ReceivesNothing, HasCommitted}
use Rattle.node_core.specs.Nodes.{NodeView, log_at}
use Rattle.node_core.specs.Shares.{AreProcessedKeys}
use Rattle.node_core.specs.Steps.{IsHeldLeast}
use Rattle.cycle_core.specs.Blank.{AreBlank}
use Rattle.cycle_core.specs.Busy.{AllBut, HasNoted, IsQuiet, NamesBusy, NamesTelling}
use Rattle.cycle_core.specs.Ends.{AreDueDone, CanReceive, CommitUpto, ReceiveUpto, Receives}
use Rattle.cycle_core.specs.Gathered.{HasNoneBefore, IsFaultBelow, MayFaultBelow, fault_key, processed_in}
use Rattle.cycle_core.specs.Known.{AreKnown}
use Rattle.cycle_core.specs.Leasts.{IsLeastUpto}
use Rattle.cycle_core.specs.Places.{AtEach}
use Rattle.cycle_core.specs.Records.{TellsNothing}
use Rattle.cycle_core.specs.Sendings.{HaveSent}
use Rattle.cycle_core.specs.Works.{AllWorkOn}
use Rattle.cycle_core.proofs.BusyLemmas.{but-more, but-named, but-set}
use Rattle.cycle_core.proofs.ClosingLemmas.{IsOpenedUpto, opened-more}
use Rattle.cycle_core.proofs.CutLemmas.{fault-none, least-more, lesser-none, none-kept, processed-more}
use Rattle.cycle_core.proofs.EndingLemmas.{commit-more, receive-more, receive-none}
use Rattle.cycle_core.proofs.PlaceLemmas.{at-other, at-same, at-set, at-some, each-more}
use Rattle.cycle_core.proofs.SentLemmas.{empty-here, empty-more, empty-within}
use Rattle.cycle_core.proofs.StandingLemmas.{key-none}
use Rattle.cycle_core.proofs.WorkLemmas.{as_before}

pub next-place : (P : ℕ → Type 0) (place : ℕ) → P (place + 1) → P (suc place)
next-place P place is = subst P (let same : place + 1 ≡ suc place = omega arith in same) is

module _ {A B : Type 0} (P : A → Type 0) (R : B → Type 0) (xs : List A) (ys : List B) (each : (place : ℕ) (y : B) → slice_get ys place ≡ Some y → (x : A) × (slice_get xs place ≡ Some x) × (P x → R y)) where
  -- what isn't named is as what stood there
  pub but-as : (places : List ℕ) (from to : ℕ) → AllBut P xs places from to → AllBut R ys places from to
  unfolding AllBut
  but-as [] from to but = (but.0, λ place y low below at. let x = each place y at in x.2 (but.1 place x.0 low below x.1))
  but-as (next ∷ places) from to but = (but.0, λ place y low below at. (let x = each place y at in x.2 (but.1 place x.0 low below x.1)), but-as places (suc next) to but.2)

-- a node without events has processed nothing
pub processed-over : {M : Type 0} (nodes : List (NodeView M)) (left first place : ℕ) (n : NodeView M) → slice_get nodes place ≡ Some n → IsQuiet n
    → processed_in nodes + left ≡ processed_in (drop place nodes) + first → processed_in nodes + left ≡ processed_in (drop (suc place) nodes) + first
processed-over nodes left first place n at quiet upto =
    let more = processed-more place nodes n at in
    let none = ap length quiet.0 in
    omega arith

module _ {M : Type 0} (meaning_of : M → Meaning) where
  -- nodes that have worked on are quiet where they were
  pub busy-on : (old new : List (NodeView M)) (places : List ℕ) → AllWorkOn meaning_of old new → NamesBusy old places → NamesBusy new places
  busy-on old new places works busy =
      let B : ℕ → Type 0 = AllBut IsQuiet new places 0 in
      subst B (sym works.many) (but-as IsQuiet IsQuiet old new (λ place y at. each place y at) places 0 (length old) busy)
    where
      each : (place : ℕ) (y : NodeView M) → slice_get new place ≡ Some y → (x : NodeView M) × (slice_get old place ≡ Some x) × (IsQuiet x → IsQuiet y)
      each place y at =
          let below = slice_get_within new place y at in
          let many = works.many in
          let x = at-some old place (omega arith) in
          let on = works.pairs place x.0 y x.1 at in (
            x.0,
            x.1,
            λ quiet.
                let one = on.processed in
                let two = on.waiting in
                let none = ap length quiet.0 in
                let still = ap length quiet.1 in
                (nil_from_length y.processed (omega arith), nil_from_length y.waiting (omega arith)),
          )

  -- the first so many nodes have no event below a bound
  abbrev pub NoneUpto : ℕ → List (NodeView M) → ℕ → Type 0
  NoneUpto bound nodes place = (number : ℕ) (n : NodeView M) → number < place → slice_get nodes number ≡ Some n → HasNoneBefore meaning_of bound n

  pub none-over : (bound : ℕ) (nodes : List (NodeView M)) → AreKnown meaning_of nodes → (place : ℕ) (n : NodeView M) → slice_get nodes place ≡ Some n → IsQuiet n → NoneUpto bound nodes place → NoneUpto bound nodes (suc place)
  none-over bound nodes known place n at quiet upto =
      next-place (NoneUpto bound nodes) place (each-more (λ number x. HasNoneBefore meaning_of bound x) nodes place n at upto (λ key may. absurd (key-none meaning_of n (known place n at).keys quiet key may)))

  -- it holds nothing
  held-none : (n : NodeView M) → AreProcessedKeys (meaning_of n.model) n → n.processed ≡ [] → IsHeldLeast (meaning_of n.model) n NO_STAMP
  unfolding replay_of
  held-none n keys none = record {
    from = λ object home.
        let done = none-kept (log_at n.logs object).done (sym (keys.parts object) ∙ ap (filter (λ (k : Key). k.dest == object)) none) in
        let E : List (Event × Firing) → Type 0 = EmitsFrom NO_STAMP in
        subst E (sym (ap (λ ds. (replay_of (log_at n.logs object).state ds).done) done)) tt;
    reached = inl refl;
  }

  pub opened-over : (end : ℕ) (nodes : List (NodeView M)) (bound : ℕ) → end < 2 ^ 63 → AreKnown meaning_of nodes → (place : ℕ) (n : NodeView M) → slice_get nodes place ≡ Some n → IsQuiet n
      → IsOpenedUpto meaning_of end place nodes bound → IsOpenedUpto meaning_of end (suc place) nodes bound
  opened-over end nodes bound far known place n at quiet opened =
      let low = opened.within in
      let O : ℕ → Type 0 = IsOpenedUpto meaning_of end (suc place) nodes in
      subst O (let same : min bound NO_STAMP ≡ bound = omega arith in same) (opened-more meaning_of end place nodes bound NO_STAMP n (omega arith) opened at (held-none n (known place n at).keys quiet.0))

  -- it met no fault
  pub fault-over : (bound : ℕ) (nodes : List (NodeView M)) (least : Option (Key × ℕ)) → AreKnown meaning_of nodes → (place : ℕ) (n : NodeView M) → slice_get nodes place ≡ Some n → IsQuiet n
      → IsLeastUpto fault_key (IsFaultBelow meaning_of bound) (MayFaultBelow meaning_of bound) place nodes least → IsLeastUpto fault_key (IsFaultBelow meaning_of bound) (MayFaultBelow meaning_of bound) (suc place) nodes least
  fault-over bound nodes least known place n at quiet upto =
      let F = IsFaultBelow meaning_of bound in
      let G = MayFaultBelow meaning_of bound in
      next-place (λ k. IsLeastUpto fault_key F G k nodes least) place
      (subst (λ l. IsLeastUpto fault_key F G (place + 1) nodes l) (lesser-none fault_key least) (least-more fault_key F G place nodes n least None at upto (fault-none meaning_of bound n (known place n at).keys quiet.0)))

  -- it commits nothing
  pub commit-over : (bound : ℕ) (cut : Option Key) (old now : List (NodeView M)) (all : List Committed) (place : ℕ) (n : NodeView M) (c : Committed) → slice_get old place ≡ Some n → slice_get all place ≡ Some c
      → HasCommitted (meaning_of n.model) bound cut n n c.done.items c.out.items → CommitUpto meaning_of bound cut place old now all → CommitUpto meaning_of bound cut (suc place) old now all
  commit-over bound cut old now all place n c at at_all commits upto =
      let here = upto.rest place (omega arith) ∙ at in
      let C : List (NodeView M) → Type 0 = λ ns. CommitUpto meaning_of bound cut (place + 1) old ns all in
      let D : List Committed → Type 0 = λ cs. CommitUpto meaning_of bound cut (place + 1) old (slice_set now place n) cs in
      next-place (λ k. CommitUpto meaning_of bound cut k old now all) place
      (subst C (at-same now place n here) (subst D (at-same all place c at_all) (commit-more meaning_of bound cut place old now all n n c upto here commits)))

  -- it receives nothing
  pub receives-nothing : (n : NodeView M) (es : List Event) → es ≡ [] → ReceivesNothing (meaning_of n.model) n → CanReceive meaning_of es n → Receives meaning_of es n n
  receives-nothing n es none nothing can =
      let K : List Event → Type 0 = λ xs. CanReceive meaning_of xs n in
      let R : List Event → Type 0 = λ xs. Receives meaning_of xs n n in
      let receives : Receives meaning_of [] n n = record { roomy = n; room = as_before n; count = 0; receives = nothing (subst K none can).keys } in
      subst R (sym none) receives

  pub receive-over : (parcels : List (List Event)) (old now : List (NodeView M)) (place : ℕ) (n : NodeView M) (es : List Event) → slice_get now place ≡ Some n → slice_get parcels place ≡ Some es → es ≡ []
      → ReceivesNothing (meaning_of n.model) n → CanReceive meaning_of es n → ReceiveUpto meaning_of place parcels old now → ReceiveUpto meaning_of (place + 1) parcels old now
  receive-over parcels old now place n es here parcel none nothing can upto =
      let C : List (NodeView M) → Type 0 = λ ns. ReceiveUpto meaning_of (place + 1) parcels old ns in
      subst C (at-same now place n here) (receive-more meaning_of place parcels old now es n n upto here parcel (receives-nothing n es none nothing can))

  -- as far as nodes have committed: the lists behind stand as they did before
  pub record IsCommitting (bound : ℕ) (cut : Option Key) (old now : List (NodeView M)) (before all : List Committed) (place : ℕ) : Type 0 where
    pub upto : CommitUpto meaning_of bound cut place old now all
    pub behind : (number : ℕ) → place ≤ number → slice_get all number ≡ slice_get before number

  pub committing-over : (bound : ℕ) (cut : Option Key) (old now : List (NodeView M)) (before all : List Committed) → AreBlank (length old) before → AtEach (λ number n. CommitsNothing (meaning_of n.model) n) old
      → AreDueDone meaning_of bound cut old → AtEach (λ number n. n.homes.nodes ≡ length old) old
      → (place : ℕ) (n : NodeView M) → slice_get old place ≡ Some n → IsQuiet n → IsCommitting bound cut old now before all place → IsCommitting bound cut old now before all (suc place)
  committing-over bound cut old now before all blank idle due wide place n at quiet so_far =
      let below = slice_get_within old place n at in
      let many = blank.many in
      let c = at-some before place (omega arith) in
      let at_all = so_far.behind place (omega arith) ∙ c.1 in
      let B : ℕ → Type 0 = λ nodes. IsBlank nodes c.0 in
      let commits = idle place n at quiet.0 bound cut (due place n at) c.0 (subst B (sym (wide place n at)) (blank.each place c.0 c.1)) in
      record {
        upto = commit-over bound cut old now all place n c.0 at at_all commits so_far.upto;
        behind = λ number from. so_far.behind number (omega arith);
      }

-- the same commits are named once chains are taken out
pub names-sent : (old new : List Committed) → HaveSent old new → (places : List ℕ) → NamesTelling old places → NamesTelling new places
names-sent old new moved places names =
    let T : ℕ → Type 0 = AllBut TellsNothing new places 0 in
    subst T (sym moved.many) (but-as TellsNothing TellsNothing old new (λ place c at. each place c at) places 0 (length old) names)
  where
    each : (place : ℕ) (c : Committed) → slice_get new place ≡ Some c → (x : Committed) × (slice_get old place ≡ Some x) × (TellsNothing x → TellsNothing c)
    each place c at =
        let below = slice_get_within new place c at in
        let many = moved.many in
        let x = at-some old place (omega arith) in
        (x.0, x.1, λ nothing. ap (λ v. v.items) (moved.pairs place x.0 c x.1 at).0 ∙ nothing)

module _ {M : Type 0} where
  -- a node was looked at, and its place is noted if it has events
  pub but-noted : (now : List (NodeView M)) (i : ℕ) (v : NodeView M) (found noted : List ℕ) → i < length now → HasNoted i v found noted → AllBut IsQuiet now found 0 i
      → AllBut IsQuiet (slice_set now i v) noted 0 (suc i)
  but-noted now i v found noted within is but = by_events is
    where
      so_far : AllBut IsQuiet (slice_set now i v) found 0 i
      so_far = but-set IsQuiet now i v found 0 i (omega arith) but

      by_events : HasNoted i v found noted → AllBut IsQuiet (slice_set now i v) noted 0 (suc i)
      by_events (inl none) = subst (λ places. AllBut IsQuiet (slice_set now i v) places 0 (suc i)) (sym none.1) (but-more IsQuiet (slice_set now i v) found 0 i v so_far (at-set now i v within) none.0)
      by_events (inr some) = subst (λ places. AllBut IsQuiet (slice_set now i v) places 0 (suc i)) (sym some) (but-named IsQuiet (slice_set now i v) found 0 i so_far)

  -- what a node without events commits tells of nothing
  pub names-telling : (meaning_of : M → Meaning) (bound : ℕ) (cut : Option Key) (old new : List (NodeView M)) (all : List Committed) (places : List ℕ) → CommitUpto meaning_of bound cut (length old) old new all
      → NamesBusy old places → NamesTelling all places
  names-telling meaning_of bound cut old new all places upto busy =
      let T : ℕ → Type 0 = AllBut TellsNothing all places 0 in
      subst T (sym upto.count) (but-as IsQuiet TellsNothing old all (λ place c at. each place c at) places 0 (length old) busy)
    where
      each : (place : ℕ) (c : Committed) → slice_get all place ≡ Some c → (x : NodeView M) × (slice_get old place ≡ Some x) × (IsQuiet x → TellsNothing c)
      each place c at =
          let below = slice_get_within all place c at in
          let many = upto.many in
          let count = upto.count in
          let x = at-some old place (omega arith) in
          let y = at-some new place (omega arith) in
          (x.0, x.1, λ quiet. let told = (upto.each place x.0 y.0 c (omega arith) x.1 y.1 at).count in let none = ap length quiet.0 in nil_from_length c.done.items (omega arith))

  -- and has no events then
  pub busy-committed : (meaning_of : M → Meaning) (bound : ℕ) (cut : Option Key) (old new : List (NodeView M)) (all : List Committed) (places : List ℕ) → CommitUpto meaning_of bound cut (length old) old new all
      → NamesBusy old places → NamesBusy new places
  busy-committed meaning_of bound cut old new all places upto busy =
      let B : ℕ → Type 0 = AllBut IsQuiet new places 0 in
      subst B (sym upto.many) (but-as IsQuiet IsQuiet old new (λ place y at. each place y at) places 0 (length old) busy)
    where
      each : (place : ℕ) (y : NodeView M) → slice_get new place ≡ Some y → (x : NodeView M) × (slice_get old place ≡ Some x) × (IsQuiet x → IsQuiet y)
      each place y at =
          let below = slice_get_within new place y at in
          let many = upto.many in
          let count = upto.count in
          let x = at-some old place (omega arith) in
          let c = at-some all place (omega arith) in
          let commits = upto.each place x.0 y c.0 (omega arith) x.1 at c.1 in
          (x.0, x.1, λ quiet. (let told = commits.count in let none = ap length quiet.0 in nil_from_length y.processed (omega arith), commits.waiting ∙ quiet.1))

module _ {M : Type 0} (meaning_of : M → Meaning) (first : List (List Event)) (old : List (NodeView M)) where
  -- as far as nodes have received what arrives there
  pub record IsReceiving (place : ℕ) (parcels : List (List Event)) (now : List (NodeView M)) : Type 0 where
    pub upto : ReceiveUpto meaning_of place first old now
    pub behind : (number : ℕ) → place ≤ number → slice_get parcels number ≡ slice_get first number
    pub many : length parcels ≡ length first
    pub emptied : (to : ℕ) → to < place → slice_index_or parcels to [] ≡ []

  pub receiving-none : IsReceiving 0 first old
  receiving-none = record { upto = receive-none meaning_of first old; behind = λ number from. refl; many = refl; emptied = λ to below. absurd (omega arith) }

  pub receiving-more : (place : ℕ) (parcels : List (List Event)) (now : List (NodeView M)) (x v : NodeView M) (es gone : List Event) → IsReceiving place parcels now
      → slice_get now place ≡ Some x → slice_get parcels place ≡ Some es → Receives meaning_of es x v → gone ≡ [] → IsReceiving (place + 1) (slice_set parcels place gone) (slice_set now place v)
  receiving-more place parcels now x v es gone so_far here parcel receives none = record {
    upto = receive-more meaning_of place first old now es x v so_far.upto here (sym (so_far.behind place (omega arith)) ∙ parcel) receives;
    behind = λ number from. at-other parcels place number gone (λ same. omega arith) ∙ so_far.behind number (omega arith);
    many = length-set parcels place gone ∙ so_far.many;
    emptied = empty-more parcels place gone (slice_get_within parcels place es parcel) none so_far.emptied;
  }

  -- nothing arrives at the next node
  pub receiving-over : (place : ℕ) (parcels : List (List Event)) (now : List (NodeView M)) (x : NodeView M) (es : List Event) → IsReceiving place parcels now
      → slice_get now place ≡ Some x → slice_get parcels place ≡ Some es → es ≡ [] → ReceivesNothing (meaning_of x.model) x → CanReceive meaning_of es x → IsReceiving (place + 1) parcels now
  receiving-over place parcels now x es so_far here parcel none nothing can = record {
    upto = receive-over meaning_of first old now place x es here (sym (so_far.behind place (omega arith)) ∙ parcel) none nothing can so_far.upto;
    behind = λ number from. so_far.behind number (omega arith);
    many = so_far.many;
    emptied = λ to below. empty-here parcels place es parcel none so_far.emptied to below;
  }

  pub receiving-emptied : (place : ℕ) (parcels : List (List Event)) (now : List (NodeView M)) → length first ≤ place → IsReceiving place parcels now → AreEmpty (length first) parcels
  receiving-emptied place parcels now far so_far = record { many = so_far.many; empty = empty-within parcels (length first) so_far.many (λ to below. so_far.emptied to (omega arith)) }

  pub receiving-all : (place : ℕ) (parcels : List (List Event)) (now : List (NodeView M)) → place ≡ length old → IsReceiving place parcels now → ReceiveUpto meaning_of (length old) first old now
  receiving-all place parcels now all so_far = subst (λ n. ReceiveUpto meaning_of n first old now) all so_far.upto
