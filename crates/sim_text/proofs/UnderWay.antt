-- A simulation under way: the buckets so far, and those that are still to come.
use Rattle.std.proofs.Common.{◌≡◌, ℕ, ◌+◌, ◌≤◌, ◌<◌, List, [], ◌∷◌, ◌++◌, length, Option, Some, None, Ok, refl, true, sym, ap, ◌∙◌, subst, append_assoc, length-append, rules, arith, ◌⊎◌, inl, inr}
use Rattle.std.proofs.lemmas.Bool.{false≢true}
use Rattle.std.proofs.lemmas.List.{append-nil}
use Rattle.std.proofs.lemmas.List.Elements.{All-cons}
use Rattle.std.specs.List.{AllPairs}
use Rattle.std.specs.Prelude.{IsSome, Result}
use Rattle.sim_io.specs.Taken.{Taken, Appends}
use Rattle.delta_exchange.specs.declared.memory.OutOfMemory.{OutOfMemory}
use Rattle.event_key.specs.declared.key.Key.{Key}
use Rattle.event_key.specs.Keys.{key_lt}
use Rattle.model_core.specs.declared.note.Note.{Note}
use Rattle.model_core.specs.Meaning.{Meaning}
use Rattle.sim_spec.specs.declared.bucket.Bucket.{Bucket}
use Rattle.sim_spec.specs.declared.stop.Stop.{Stop}
use Rattle.sim_spec.specs.declared.stop.Stop.TheVariants.{End, Limit, Fault}
use Rattle.sim_spec.specs.declared.terms.Terms.{Terms}
use Rattle.sim_spec.specs.State.{State, Lawful, initial_state}
use Rattle.sim_spec.specs.Run.{Run, run, stops, does, next, Leads}
use Rattle.sim_spec.specs.Cut.{cut, after}
use Rattle.sim_spec.specs.Cycles.{cycles, records_of_buckets}
use Rattle.sim_spec.specs.Laws.{NextLawful}
use Rattle.sim_spec.specs.HorizonLaws.{BucketLaw, EndsLaw, MovesLaw, CyclesLaw}
use Rattle.sim_spec.specs.Standing.{Standing, stands, ended, end_or_limit, IsCycle, CycleGives, DoesCycles, IsCountAt}
use Rattle.sim_spec.proofs.CyclesLaw.{after-count}
use Rattle.sim_spec.proofs.LawfulLemmas.{next-placed, IsPlaced}
use Rattle.sim_spec.proofs.RunLemmas.{run-stops}
use Rattle.run_laws.specs.RunLaws.{RecordsAscend, StatesAreTheRuns}
use Rattle.run_tally.specs.Tallies.{IsInTime, last_time, AreOfRun}
use Rattle.run_tally.proofs.InTime.{in_time-ascending, in_time-behind, in_time-front}
use Rattle.sim_io.specs.Texts.{IsAtObject}
use Rattle.sim_text.specs.declared.telling.Telling.{Telling}
use Rattle.sim_text.specs.Reports.{CanGoOn}
use Rattle.sim_text.specs.Rest.{AllAtObjects, BeginsAt}
use Rattle.sim_text.specs.SoFar.{HasToldSoFar, lines_so_far}
use Rattle.sim_text.proofs.Told.{EndsSo}
use Rattle.sim_text.proofs.SummaryLemmas.{records_of_buckets-append, records_of_buckets-first, records_of_buckets-more}
use Rattle.sim_text.proofs.Rest.{rest, IsNextFault, ended-next, ended-none, goes_on-end, goes_on-limit, rest-stops, rest-bucket}

-- the laws of a model's simulation
pub record SimulationLaws (m : Meaning) (t : Terms) (from : State) : Type 0 where
  pub next : NextLawful m t
  pub buckets : BucketLaw m t
  pub cycles : CyclesLaw m t
  pub moves : MovesLaw m t
  pub ends : EndsLaw m t
  pub begins : Lawful m t from
  pub ascend : AllPairs (λ (earlier later : Key × Note). key_lt earlier.0 later.0 ≡ true) (run m t (initial_state m)).records

-- where the engine stands, and that the buckets so far and those to come are all
pub record IsUnderWay (m : Meaning) (t : Terms) (from : State) (standing : Standing) (so_far : List Bucket) : Type 0 where
  pub state : State
  pub fault : Option (Key × ℕ)
  pub at_state : standing ≡ stands state fault
  pub lawful : Lawful m t state
  pub failed : IsNextFault m t state fault
  pub buckets : (cycles m t from).buckets ≡ so_far ++ rest m t state fault
  pub last : (run m t from).last ≡ (run m t state).last
  pub stop : (run m t from).stop ≡ (run m t state).stop
  pub counted : state.count ≡ from.count + length (records_of_buckets so_far)
  pub few : length so_far ≤ state.count + 1
  pub few_whole : fault ≡ None → length so_far ≤ state.count

-- a simulation under way has told of its buckets so far what was written of them
pub told_so_far : (m : Meaning) (t : Terms) (from : State) (telling : Telling) (old now : Taken) (standing : Standing) (so_far : List Bucket)
    → IsUnderWay m t from standing so_far
    → Appends old now (lines_so_far m telling so_far) → HasToldSoFar m t telling from old now standing
told_so_far m t from telling old now standing so_far way told = record {
  state = way.state;
  fault = way.fault;
  at_state = way.at_state;
  so_far = so_far;
  more = rest m t way.state way.fault;
  buckets = way.buckets;
  counted = way.counted;
  told = told;
}

-- an engine that began there is under way
pub record RunsOn (m : Meaning) (t : Terms) {E : Type 0} (StandsIn : E → Standing → Type 0) (engine : E) (so_far : List Bucket) (from : State) : Type 0 where
  pub laws : SimulationLaws m t from
  pub at : Standing
  pub stands : StandsIn engine at
  pub way : IsUnderWay m t from at so_far

-- what happens happens at objects of the model
pub leads-at_objects : (m : Meaning) (t : Terms) → NextLawful m t → (s : State) (records : List (Key × Note)) (last : State) → Lawful m t s
    → Leads m t s records last → AllAtObjects m records
unfolding Leads
leads-at_objects m t keeps s [] last lawful leads = search rules
leads-at_objects m t keeps s (told ∷ records) last lawful leads =
    All-cons (λ (r : Key × Note). r.0.dest < m.objects) told records
    (next-placed m t s (does told leads.0) lawful leads.1)
    (leads-at_objects m t keeps leads.0 records last (keeps s told leads.0 lawful leads.1) leads.2)

pub at_object : (m : Meaning) (stop : Stop) → IsPlaced m (stops stop) → IsAtObject m stop
at_object m End h = tt
at_object m Limit h = tt
at_object m (Fault key code) h = h

pub stands-injective : (s s' : State) (f f' : Option (Key × ℕ)) → stands s f ≡ stands s' f' → (s ≡ s') × (f ≡ f')
stands-injective s s' f f' same = (cc, cc)

module _ (m : Meaning) (t : Terms) (from : State) (laws : SimulationLaws m t from) (standing : Standing) (so_far : List Bucket) (way : IsUnderWay m t from standing so_far) where
  ended-here : (stop : Option Stop) → ended m t standing ≡ stop → ended m t (stands way.state way.fault) ≡ stop
  ended-here stop is_stop = ap (ended m t) (sym way.at_state) ∙ is_stop

  stops-next : (stop : Stop) → ended m t standing ≡ Some stop → next m t way.state ≡ stops stop
  stops-next stop is_stop = ended-next m t way.state way.fault stop way.failed (ended-here (Some stop) is_stop)

  -- where the engine has ended, it stopped at an object of the model
  pub stop-at_object : (stop : Stop) → ended m t standing ≡ Some stop → IsAtObject m stop
  stop-at_object stop is_stop = at_object m stop (next-placed m t way.state (stops stop) way.lawful (stops-next stop is_stop))

  -- that is the stop of the whole run
  pub stop-of_run : (stop : Stop) → ended m t standing ≡ Some stop → (run m t from).stop ≡ stop
  stop-of_run stop is_stop = way.stop ∙ ap (λ (r : Run). r.stop) (run-stops m t way.state stop (stops-next stop is_stop))

  -- and its last state
  pub last-of_run : (stop : Stop) → ended m t standing ≡ Some stop → (run m t from).last ≡ way.state
  last-of_run stop is_stop = way.last ∙ ap (λ (r : Run). r.last) (run-stops m t way.state stop (stops-next stop is_stop))

  -- and the buckets so far are all
  pub all-buckets : (stop : Stop) → ended m t standing ≡ Some stop → (cycles m t from).buckets ≡ so_far
  all-buckets stop is_stop =
      way.buckets
      ∙ ap (λ (bs : List Bucket). so_far ++ bs)
      (rest-stops m t laws.buckets laws.ends way.state way.fault stop way.lawful way.failed (ended-here (Some stop) is_stop))
      ∙ append-nil so_far

  -- so the run has these buckets, and ends so
  pub ends_so : (stop : Stop) (count : ℕ) → ended m t standing ≡ Some stop → count ≡ way.state.count → EndsSo m t from so_far count stop
  ends_so stop count is_stop counted = record {
    buckets = all-buckets stop is_stop;
    records = ap (λ (r : Run). r.records) (sym (laws.cycles from laws.begins)) ∙ ap records_of_buckets (all-buckets stop is_stop);
    counted = ap (λ (s : State). s.count) (last-of_run stop is_stop) ∙ sym counted;
    stops_at = stop-of_run stop is_stop;
  }

  -- from the start, these are all records of the run, which stops so
  pub all-of_run : (stop : Stop) → ended m t standing ≡ Some stop → from ≡ initial_state m → AreOfRun m t (records_of_buckets so_far) stop
  all-of_run stop is_stop is_start =
      let ends = ends_so stop way.state.count is_stop refl in
      record {
        are_all = sym ends.records ∙ ap (λ (s : State). (run m t s).records) is_start;
        stops_so = sym ends.stops_at ∙ ap (λ (s : State). (run m t s).stop) is_start;
      }

  -- a cycle begins where the engine stands, and leaves what the bucket of its state leaves
  record IsCycleHere (bucket : Bucket) (new : Standing) : Type 0 where
    no_fault : way.fault ≡ None
    goes : end_or_limit (next m t way.state) ≡ None
    bucket_is : bucket ≡ cut m t way.state
    ends : new ≡ stands (after m t way.state) bucket.fault
    some_record : bucket.fault ≡ None → 0 < length (cut m t way.state).done

  record_or_fault : (b : Bucket) → (0 < length b.done) ⊎ IsSome b.fault → b.fault ≡ None → 0 < length b.done
  record_or_fault b (inl some) none = some
  record_or_fault b (inr fault) none = let P : Option (Key × ℕ) → Type 0 = IsSome in absurd (false≢true (subst P none fault))

  cycle-here : (bucket : Bucket) (new : Standing) → ended m t standing ≡ None → IsCycle m t standing bucket new → IsCycleHere bucket new
  cycle-here bucket new not_ended cycle =
      let same = stands-injective cycle.state way.state None way.fault (sym cycle.begins ∙ way.at_state) in
      let none = ended-none m t way.state way.fault (ended-here None not_ended) in
      let is_cut : bucket ≡ cut m t way.state = cycle.bucket_is ∙ ap (cut m t) same.0 in
      record {
        no_fault = none.0;
        goes = none.1;
        bucket_is = is_cut;
        ends = cycle.ends ∙ ap (λ s. stands (after m t s) bucket.fault) same.0;
        some_record = λ whole. record_or_fault (cut m t way.state)
            (laws.moves way.state way.lawful (goes_on-end _ none.1) (goes_on-limit _ none.1))
            (ap (λ (b : Bucket). b.fault) (sym is_cut) ∙ whole);
      }

  -- the records of a bucket are of objects of the model
  pub bucket-at_objects : (bucket : Bucket) (new : Standing) → ended m t standing ≡ None → IsCycle m t standing bucket new
      → AllAtObjects m bucket.done
  bucket-at_objects bucket new not_ended cycle =
      let here = cycle-here bucket new not_ended cycle in
      let P : Bucket → Type 0 = λ b. AllAtObjects m b.done in
      subst P (sym here.bucket_is) (leads-at_objects m t laws.next way.state _ _ way.lawful (laws.buckets way.state way.lawful).leads)

  -- a bucket is to come, and then those after it
  rest-here : (bucket : Bucket) (new : Standing) → IsCycleHere bucket new
      → rest m t way.state way.fault ≡ bucket ∷ rest m t (after m t way.state) bucket.fault
  rest-here bucket new here =
      ap (rest m t way.state) here.no_fault
      ∙ rest-bucket m t laws.buckets laws.ends way.state way.lawful here.goes
      ∙ ap (λ (b : Bucket). b ∷ rest m t (after m t way.state) b.fault) (sym here.bucket_is)

  with-bucket : (bucket : Bucket) (new : Standing) → IsCycleHere bucket new
      → (cycles m t from).buckets ≡ (so_far ++ bucket ∷ []) ++ rest m t (after m t way.state) bucket.fault
  with-bucket bucket new here =
      way.buckets ∙ ap (λ (bs : List Bucket). so_far ++ bs) (rest-here bucket new here)
      ∙ sym (append_assoc so_far (bucket ∷ []) (rest m t (after m t way.state) bucket.fault))

  pub all-with_bucket : (bucket : Bucket) (new : Standing) → ended m t standing ≡ None → IsCycle m t standing bucket new
      → (more : List Bucket) × ((cycles m t from).buckets ≡ (so_far ++ bucket ∷ []) ++ more)
  all-with_bucket bucket new not_ended cycle =
      (rest m t (after m t way.state) bucket.fault, with-bucket bucket new (cycle-here bucket new not_ended cycle))

  count-after : (bucket : Bucket) (new : Standing) → IsCycleHere bucket new → (after m t way.state).count ≡ way.state.count + length bucket.done
  count-after bucket new here = after-count m t way.state ∙ ap (λ (b : Bucket). way.state.count + length b.done) (sym here.bucket_is)

  -- a cycle leaves the simulation under way, with its bucket
  pub goes_on : (bucket : Bucket) (new : Standing) → ended m t standing ≡ None → IsCycle m t standing bucket new
      → IsUnderWay m t from new (so_far ++ bucket ∷ [])
  goes_on bucket new not_ended cycle =
      let here = cycle-here bucket new not_ended cycle in
      let law = laws.buckets way.state way.lawful in
      let counted = count-after bucket new here in
      let few = way.few_whole here.no_fault in
      let many : length (so_far ++ bucket ∷ []) ≡ length so_far + 1 = length-append so_far (bucket ∷ []) in
      let some : bucket.fault ≡ None → 0 < length bucket.done =
      λ whole. let P : Bucket → Type 0 = λ b. 0 < length b.done in subst P (sym here.bucket_is) (here.some_record whole) in
      record {
        state = after m t way.state;
        fault = bucket.fault;
        at_state = here.ends;
        lawful = law.lawful;
        failed = λ f is_fault. law.fault f (ap (λ (b : Bucket). b.fault) (sym here.bucket_is) ∙ is_fault);
        buckets = with-bucket bucket new here;
        last = way.last ∙ ap (λ (r : Run). r.last) law.run;
        stop = way.stop ∙ ap (λ (r : Run). r.stop) law.run;
        counted = let long = ap length (records_of_buckets-more so_far bucket) ∙ length-append (records_of_buckets so_far) bucket.done in omega (arith, counted, way.counted, long);
        few = omega (arith, counted, few, many);
        few_whole = λ whole. omega (arith, counted, few, many, some whole);
      }

  -- from the start, the records of its bucket come in time after those so far
  pub bucket-in_time : (bucket : Bucket) (new : Standing) → ended m t standing ≡ None → IsCycle m t standing bucket new → from ≡ initial_state m
      → IsInTime (last_time 0 (records_of_buckets so_far)) bucket.done
  bucket-in_time bucket new not_ended cycle is_start =
      let here = cycle-here bucket new not_ended cycle in
      let more : List Bucket = rest m t (after m t way.state) bucket.fault in
      let all : (run m t from).records ≡ records_of_buckets so_far ++ (bucket.done ++ records_of_buckets more) =
      ap (λ (r : Run). r.records) (sym (laws.cycles from laws.begins))
      ∙ ap records_of_buckets (way.buckets ∙ ap (λ (bs : List Bucket). so_far ++ bs) (rest-here bucket new here))
      ∙ records_of_buckets-append so_far (bucket ∷ more)
      ∙ ap (λ (records : List (Key × Note)). records_of_buckets so_far ++ records) (records_of_buckets-first bucket more) in
      let P : State → Type 0 = λ s. AllPairs (λ (earlier later : Key × Note). key_lt earlier.0 later.0 ≡ true) (run m t s).records in
      let whole : IsInTime 0 (run m t from).records =
      in_time-ascending 0 (run m t from).records (λ told behind is. omega arith) (subst P (sym is_start) laws.ascend) in
      in_time-front (last_time 0 (records_of_buckets so_far)) bucket.done (records_of_buckets more)
      (in_time-behind 0 (records_of_buckets so_far) (bucket.done ++ records_of_buckets more) (subst (IsInTime 0) all whole))

  -- and there is room for them
  pub bucket-has_room : (bucket : Bucket) (new : Standing) → ended m t standing ≡ None → IsCycle m t standing bucket new
      → length (records_of_buckets so_far) + length bucket.done ≤ 1000000000
  bucket-has_room bucket new not_ended cycle =
      let here = cycle-here bucket new not_ended cycle in
      let counted = count-after bucket new here in
      let upto : (after m t way.state).count ≤ t.limit = (laws.buckets way.state way.lawful).lawful.count in
      omega (arith, counted, way.counted, upto, t.limit_in_range)

  -- each cycle but the last two has an event, so that the limit bounds their number
  pub few_cycles : length so_far < t.limit + 2
  few_cycles = let many = way.lawful.count in let few = way.few in omega (arith, many, few)

  -- so what is kept can go on with it
  pub can_go_on : (telling : Telling) (bucket : Bucket) (new : Standing) → ended m t standing ≡ None → IsCycle m t standing bucket new
      → (telling ≡ Telling.Totals → from ≡ initial_state m)
      → CanGoOn m telling so_far bucket
  can_go_on telling bucket new not_ended cycle can = record {
    objects = bucket-at_objects bucket new not_ended cycle;
    in_time = λ totals. bucket-in_time bucket new not_ended cycle (can totals);
    room = bucket-has_room bucket new not_ended cycle;
    few = omega (arith, few_cycles, t.limit_in_range);
  }

-- what an engine says by its own meaning and terms, where these are the model's
pub ended-same : (m m' : Meaning) (t t' : Terms) (standing : Standing) (r : Option Stop) → m' ≡ m → t' ≡ t → r ≡ ended m' t' standing
    → ended m t standing ≡ r
ended-same m m' t t' standing r same_meaning same_terms is_ended =
    sym (is_ended ∙ ap (λ x. ended x t' standing) same_meaning ∙ ap (λ x. ended m x standing) same_terms)

pub cycle-same : (m m' : Meaning) (t t' : Terms) (old new : Standing) (bucket : Bucket) → m' ≡ m → t' ≡ t → CycleGives m' t' old (Ok bucket) new
    → IsCycle m t old bucket new
unfolding CycleGives
cycle-same m m' t t' old new bucket same_meaning same_terms cycle =
    let P : Meaning → Type 0 = λ x. IsCycle x t' old bucket new in
    let Q : Terms → Type 0 = λ x. IsCycle m x old bucket new in
    subst Q same_terms (subst P same_meaning cycle)

-- an engine that had not ended has answered a bucket by a cycle of the model, and stands after it
pub record HasDone (m : Meaning) (t : Terms) {E : Type 0} (meaning : E → Meaning) (terms : E → Terms) (StandsIn : E → Standing → Type 0) (at : Standing) (bucket : Bucket) (new : E) : Type 0 where
  pub not_ended : ended m t at ≡ None
  pub left : Standing
  pub stands : StandsIn new left
  pub cycle : IsCycle m t at bucket left
  pub meaning_is : meaning new ≡ m
  pub terms_is : terms new ≡ t

pub has_done : (m : Meaning) (t : Terms) {E : Type 0} (meaning : E → Meaning) (terms : E → Terms) (StandsIn : E → Standing → Type 0) (old : E)
    (at : Standing) (stop : Option Stop) (answer : Result Bucket OutOfMemory)
    (bucket : Bucket) (new : E) → meaning old ≡ m → terms old ≡ t → StandsIn old at → stop ≡ ended (meaning old) (terms old) at → stop ≡ None
    → answer ≡ Ok bucket
    → DoesCycles meaning terms StandsIn old answer new → HasDone m t meaning terms StandsIn at bucket new
has_done m t meaning terms StandsIn old at stop answer bucket new same_meaning same_terms there is_stop none is_ok do_so =
    let own_none : ended (meaning old) (terms old) at ≡ None = sym is_stop ∙ none in
    let made = do_so at there own_none in
    let P : Result Bucket OutOfMemory → Type 0 = λ r. CycleGives (meaning old) (terms old) at r made.left in
    record {
      not_ended = ended-same m (meaning old) t (terms old) at None same_meaning same_terms (sym own_none);
      left = made.left;
      stands = made.stands;
      cycle = cycle-same m (meaning old) t (terms old) at made.left bucket same_meaning same_terms (subst P is_ok made.gives);
      meaning_is = made.same_meaning ∙ same_meaning;
      terms_is = made.same_terms ∙ same_terms;
    }

-- a simulation begins under way
pub begins : (m : Meaning) (t : Terms) (from : State) → Lawful m t from → IsUnderWay m t from (stands from None) []
unfolding rest records_of_buckets
begins m t from lawful = record {
  state = from;
  fault = None;
  at_state = refl;
  lawful = lawful;
  failed = λ f is_fault. cc;
  buckets = refl;
  last = refl;
  stop = refl;
  counted = omega arith;
  few = omega arith;
  few_whole = λ whole. omega arith;
}

pub counted-here : (m : Meaning) (t : Terms) (from : State) (standing : Standing) (so_far : List Bucket) (way : IsUnderWay m t from standing so_far)
    (count : ℕ) → IsCountAt standing count → count ≡ way.state.count
unfolding IsCountAt
counted-here m t from standing so_far way count counted = let P : Standing → Type 0 = λ s. IsCountAt s count in subst P way.at_state counted

-- an engine that has ended: the whole run has the buckets so far, and ends so
pub ends_here : (m : Meaning) (t : Terms) (from : State) {E : Type 0} (StandsIn : E → Standing → Type 0) (engine : E) (so_far : List Bucket)
    (r : RunsOn m t StandsIn engine so_far from) (m' : Meaning) (t' : Terms)
    (stop : Stop) (count : ℕ) → m' ≡ m → t' ≡ t → Some stop ≡ ended m' t' r.at → IsCountAt r.at count
    → (ended m t r.at ≡ Some stop) × EndsSo m t from so_far count stop
ends_here m t from StandsIn engine so_far r m' t' stop count same_meaning same_terms is_ended counts =
    let here : ended m t r.at ≡ Some stop = ended-same m m' t t' r.at (Some stop) same_meaning same_terms is_ended in
    (here, ends_so m t from r.laws r.at so_far r.way stop count here (counted-here m t from r.at so_far r.way count counts))

-- the laws of a model, and an engine that begins at a state of it
pub simulation_laws : (m : Meaning) (t : Terms) (from : State) → NextLawful m t → BucketLaw m t → CyclesLaw m t → MovesLaw m t → EndsLaw m t
    → StatesAreTheRuns m t → RecordsAscend m t → Lawful m t from
    → SimulationLaws m t from
simulation_laws m t from next buckets cycles moves ends states ascend lawful =
    let Ascends : List (Key × Note) → Type 0 = AllPairs (λ (earlier later : Key × Note). key_lt earlier.0 later.0 ≡ true) in
    record {
      next = next;
      buckets = buckets;
      cycles = cycles;
      moves = moves;
      ends = ends;
      begins = lawful;
      ascend = subst Ascends states.run.1.records (ascend states.run.0);
    }

pub runs_from : (m : Meaning) (t : Terms) (from : State) {E : Type 0} (StandsIn : E → Standing → Type 0) (engine : E) → SimulationLaws m t from
    → BeginsAt m t StandsIn engine from → RunsOn m t StandsIn engine [] from
runs_from m t from StandsIn engine laws starts =
    record { laws = laws; at = stands from None; stands = starts.stands; way = begins m t from starts.lawful }

-- what a buffer that was empty holds, once lines were put into it
pub held : (before after slice lines : List ℕ) → before ≡ [] → after ≡ before ++ lines → slice ≡ after → slice ≡ lines
held before after slice lines empty put is_slice = is_slice ∙ put ∙ ap (λ xs. xs ++ lines) empty

-- and once more
pub held_both : (before between after slice first second : List ℕ) → before ≡ [] → between ≡ before ++ first → after ≡ between ++ second
    → slice ≡ after → slice ≡ first ++ second
held_both before between after slice first second empty put put_more is_slice =
    is_slice ∙ put_more ∙ ap (λ xs. xs ++ second) (held before between between first empty put refl)

pub none_of : {A : Type 0} (o : Option A) → ((x : A) → o ≡ Some x → ⊥) → o ≡ None
none_of None h = refl
none_of (Some x) h = absurd (h x refl)
