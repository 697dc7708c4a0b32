-- The first cycles of a simulation: those so far, and those that may still come.
use Rattle.std.proofs.Common.{◌≡◌, ◌≤◌, ◌-◌, ℕ, zero, suc, ◌+◌, Bool, true, false, List, [], ◌∷◌, ◌++◌, length, length-append, Option, Some, None, refl, sym, ap, ◌∙◌, append-nil, append_assoc, subst, arith}
use Rattle.std.specs.Prelude.{is_some}
use Rattle.sim_io.specs.Taken.{Taken, Appends}
use Rattle.event_key.specs.declared.key.Key.{Key}
use Rattle.model_core.specs.declared.note.Note.{Note}
use Rattle.model_core.specs.Meaning.{Meaning}
use Rattle.sim_spec.specs.declared.bucket.Bucket.{Bucket}
use Rattle.sim_spec.specs.declared.stop.Stop.{Stop}
use Rattle.sim_spec.specs.declared.stop.Stop.TheVariants.{End, Limit, Fault}
use Rattle.sim_spec.specs.declared.terms.Terms.{Terms}
use Rattle.sim_spec.specs.State.{State, Lawful}
use Rattle.sim_spec.specs.Run.{stops, next}
use Rattle.sim_spec.specs.Cut.{cut, after}
use Rattle.sim_spec.specs.Cycles.{Cycles, no_cycles, after_bucket, cycles_behind, cycles_on, cycles_for, records_of_buckets}
use Rattle.sim_spec.specs.HorizonLaws.{BucketLaw}
use Rattle.sim_spec.specs.Laws.{NextLawful}
use Rattle.sim_spec.specs.Standing.{Standing, stands, ended, end_or_limit, IsCycle}
use Rattle.sim_io.specs.Texts.{record_lines}
use Rattle.sim_io.specs.Transfers.{AppendsPrefix}
use Rattle.sim_io.proofs.TextLemmas.{record_lines-append}
use Rattle.sim_text.specs.Rest.{AllAtObjects, StandsAtState}
use Rattle.sim_text.specs.SoFar.{HasToldFirst}
use Rattle.sim_text.specs.WholeTexts.{first_lines}
use Rattle.sim_text.proofs.Rest.{end_or_limit-stops, ended-none, goes_on-cycles}
use Rattle.sim_text.proofs.SummaryLemmas.{records_of_buckets-append, records_of_buckets-more}
use Rattle.sim_text.proofs.UnderWay.{leads-at_objects, stands-injective}

-- the cycles that may still come from where an engine stands, so many at most: none after a fault
unfoldable pub rest_for : ℕ → Meaning → Terms → State → Option (Key × ℕ) → Cycles
rest_for n m t s None = cycles_for n m t s
rest_for n m t s (Some fault) = no_cycles s (Fault fault.0 fault.1)

-- none of them comes where none may
none_yet : (m : Meaning) (t : Terms) (s : State) (fault : Option (Key × ℕ))
    → ((rest_for 0 m t s fault).buckets ≡ []) × ((rest_for 0 m t s fault).last ≡ s)
unfolding rest_for cycles_for
none_yet m t s None = (refl, refl)
none_yet m t s (Some fault) = (refl, refl)

-- cycles with some buckets before theirs
abbrev pub after_buckets : List Bucket → Cycles → Cycles
after_buckets bs c = record c { buckets = bs ++ c.buckets }

-- where the limit is met no cycle comes
limited-for : (n : ℕ) (m : Meaning) (t : Terms) (s : State) → next m t s ≡ stops Limit → cycles_for n m t s ≡ no_cycles s Limit
unfolding cycles_for cycles_on
limited-for zero m t s full = refl
limited-for (suc n) m t s full = ap (cycles_on s (cut m t s) (after m t s) (cycles_for n m t)) full

behind-for : (n : ℕ) (m : Meaning) (t : Terms) (later : State) (fault : Option (Key × ℕ)) (limited : Bool)
    → (limited ≡ true → next m t later ≡ stops Limit)
    → cycles_behind later (cycles_for n m t) fault limited ≡ rest_for n m t later fault
unfolding rest_for cycles_behind
behind-for n m t later (Some f) limited full = refl
behind-for n m t later None true full = sym (limited-for n m t later (full refl))
behind-for n m t later None false full = refl

-- a cycle and those after it
pub rest-cycle : (n : ℕ) (m : Meaning) (t : Terms) → BucketLaw m t → (s : State) → Lawful m t s → end_or_limit (next m t s) ≡ None
    → rest_for (suc n) m t s None ≡ after_bucket (cut m t s) (rest_for n m t (after m t s) (cut m t s).fault)
unfolding rest_for cycles_for
rest-cycle n m t buckets s lawful goes =
    goes_on-cycles s (after m t s) (cut m t s) (cycles_for n m t) (next m t s) goes
    ∙ ap (after_bucket (cut m t s)) (behind-for n m t (after m t s) (cut m t s).fault (cut m t s).limited (buckets s lawful).limited)

-- none where the simulation has ended
stopped-for : (n : ℕ) (m : Meaning) (t : Terms) (s : State) (stop : Stop) → end_or_limit (stops stop) ≡ Some stop → next m t s ≡ stops stop
    → ((cycles_for n m t s).buckets ≡ []) × ((cycles_for n m t s).last ≡ s)
unfolding cycles_for cycles_on end_or_limit
stopped-for zero m t s stop final is_stop = (refl, refl)
stopped-for (suc n) m t s End final is_stop =
    let none = ap (cycles_on s (cut m t s) (after m t s) (cycles_for n m t)) is_stop in
    (ap (λ (c : Cycles). c.buckets) none, ap (λ (c : Cycles). c.last) none)
stopped-for (suc n) m t s Limit final is_stop =
    let none = ap (cycles_on s (cut m t s) (after m t s) (cycles_for n m t)) is_stop in
    (ap (λ (c : Cycles). c.buckets) none, ap (λ (c : Cycles). c.last) none)
stopped-for (suc n) m t s (Fault key code) final is_stop = cc

pub rest-ended : (n : ℕ) (m : Meaning) (t : Terms) (s : State) (fault : Option (Key × ℕ)) (stop : Stop) → ended m t (stands s fault) ≡ Some stop
    → ((rest_for n m t s fault).buckets ≡ []) × ((rest_for n m t s fault).last ≡ s)
unfolding rest_for ended
rest-ended n m t s None stop is_stop =
    let is_next = end_or_limit-stops (next m t s) stop is_stop in
    stopped-for n m t s stop (ap end_or_limit (sym is_next) ∙ is_stop) is_next
rest-ended n m t s (Some f) stop is_stop = (refl, refl)

-- where the engine stands after these cycles, and that they are the first ones
pub record AreFirst (m : Meaning) (t : Terms) (from : State) (standing : Standing) (so_far : List Bucket) : Type 0 where
  pub state : State
  pub fault : Option (Key × ℕ)
  pub at_state : standing ≡ stands state fault
  pub lawful : Lawful m t state
  pub first : (n : ℕ) → cycles_for (length so_far + n) m t from ≡ after_buckets so_far (rest_for n m t state fault)

-- an engine that began there stands after these cycles
pub record StandsAfter (m : Meaning) (t : Terms) {E : Type 0} (StandsIn : E → Standing → Type 0) (engine : E) (so_far : List Bucket) (from : State) : Type 0 where
  pub at : Standing
  pub stands : StandsIn engine at
  pub first : AreFirst m t from at so_far

pub none_first : (m : Meaning) (t : Terms) (from : State) → Lawful m t from → AreFirst m t from (stands from None) []
unfolding rest_for
none_first m t from lawful =
    record { state = from; fault = None; at_state = refl; lawful = lawful; first = λ n. ap (λ k. cycles_for k m t from) (omega arith) }

module _ (m : Meaning) (t : Terms) (from : State) (standing : Standing) (so_far : List Bucket) (are : AreFirst m t from standing so_far) where
  -- what is told of the first cycles, by what was told so far
  first-lines : (n : ℕ)
      → first_lines m t (length so_far + n) from ≡ record_lines m (records_of_buckets so_far) ++ record_lines m (records_of_buckets (rest_for n m t are.state are.fault).buckets)
  unfolding first_lines
  first-lines n =
      ap (λ (c : Cycles). record_lines m (records_of_buckets c.buckets)) (are.first n)
      ∙ ap (record_lines m) (records_of_buckets-append so_far (rest_for n m t are.state are.fault).buckets)
      ∙ record_lines-append m (records_of_buckets so_far) (records_of_buckets (rest_for n m t are.state are.fault).buckets)

  -- they begin with it
  pub lines-begin : (most : ℕ) → length so_far ≤ most
      → (behind : List ℕ) × (first_lines m t most from ≡ record_lines m (records_of_buckets so_far) ++ behind)
  lines-begin most few = (
    record_lines m (records_of_buckets (rest_for (most - length so_far) m t are.state are.fault).buckets),
    ap (λ n. first_lines m t n from) (omega (arith, few)) ∙ first-lines (most - length so_far),
  )

  -- so it is a prefix of them
  pub lines-prefix : (old new : Taken) (most : ℕ) → length so_far ≤ most → Appends old new (record_lines m (records_of_buckets so_far))
      → AppendsPrefix old new (first_lines m t most from)
  lines-prefix old new most few told = let begins = lines-begin most few in (record_lines m (records_of_buckets so_far), begins.0, begins.1, told)

  -- where no cycle comes any more, they are all that is told, and the engine stands at the state after them
  pub record AreAll (most : ℕ) : Type 0 where
    pub lines : first_lines m t most from ≡ record_lines m (records_of_buckets so_far)
    pub last : (cycles_for most m t from).last ≡ are.state

  all-so_far : (n : ℕ) → ((rest_for n m t are.state are.fault).buckets ≡ []) × ((rest_for n m t are.state are.fault).last ≡ are.state)
      → AreAll (length so_far + n)
  unfolding record_lines records_of_buckets
  all-so_far n none = record {
    lines = first-lines n
        ∙ ap (λ (bs : List Bucket). record_lines m (records_of_buckets so_far) ++ record_lines m (records_of_buckets bs)) none.0
        ∙ append-nil (record_lines m (records_of_buckets so_far));
    last = ap (λ (c : Cycles). c.last) (are.first n) ∙ none.1;
  }

  -- the records of these cycles were written
  pub told_first : (old now : Taken) → Appends old now (record_lines m (records_of_buckets so_far)) → HasToldFirst m t from old now standing
  told_first old now told =
      let all = all-so_far 0 (none_yet m t are.state are.fault) in
      record {
        done = length so_far + 0;
        fault = are.fault;
        at_state = are.at_state ∙ ap (λ s. stands s are.fault) (sym all.last);
        told = subst (Appends old now) (sym all.lines) told;
      }

  -- so it is where the simulation has ended
  pub all-ended : (most : ℕ) (stop : Stop) → length so_far ≤ most → ended m t standing ≡ Some stop → AreAll most
  all-ended most stop few is_stop =
      let n = most - length so_far in
      let here : ended m t (stands are.state are.fault) ≡ Some stop = ap (ended m t) (sym are.at_state) ∙ is_stop in
      subst AreAll (omega (arith, few)) (all-so_far n (rest-ended n m t are.state are.fault stop here))

  -- and where so many cycles are done
  pub all-done : (most : ℕ) → length so_far ≡ most → AreAll most
  all-done most full = subst AreAll (omega (arith, full)) (all-so_far 0 (none_yet m t are.state are.fault))

  module _ (buckets : BucketLaw m t) (bucket : Bucket) (new : Standing) (not_ended : ended m t standing ≡ None) (cycle : IsCycle m t standing bucket new) where
    -- a cycle begins where the engine stands
    record IsNext : Type 0 where
      no_fault : are.fault ≡ None
      goes : end_or_limit (next m t are.state) ≡ None
      bucket_is : bucket ≡ cut m t are.state
      ends : new ≡ stands (after m t are.state) bucket.fault

    is_next : IsNext
    is_next =
        let same = stands-injective cycle.state are.state None are.fault (sym cycle.begins ∙ are.at_state) in
        let none = ended-none m t are.state are.fault (ap (ended m t) (sym are.at_state) ∙ not_ended) in
        record {
          no_fault = none.0;
          goes = none.1;
          bucket_is = cycle.bucket_is ∙ ap (cut m t) same.0;
          ends = cycle.ends ∙ ap (λ s. stands (after m t s) bucket.fault) same.0;
        }

    -- and leaves one cycle more
    pub one_more : AreFirst m t from new (so_far ++ bucket ∷ [])
    one_more =
        let later : State = after m t are.state in
        let one : (n : ℕ) → rest_for (suc n) m t are.state are.fault ≡ after_bucket bucket (rest_for n m t later bucket.fault) = λ n.
        ap (rest_for (suc n) m t are.state) is_next.no_fault
        ∙ rest-cycle n m t buckets are.state are.lawful is_next.goes
        ∙ ap (λ (b : Bucket). after_bucket b (rest_for n m t later b.fault)) (sym is_next.bucket_is) in
        record {
          state = later;
          fault = bucket.fault;
          at_state = is_next.ends;
          lawful = (buckets are.state are.lawful).lawful;
          first = λ n.
              let long = length-append so_far (bucket ∷ []) in
              ap (λ k. cycles_for k m t from) (omega (arith, long))
              ∙ are.first (suc n)
              ∙ ap (after_buckets so_far) (one n)
              ∙ ap (λ (bs : List Bucket). record (rest_for n m t later bucket.fault) { buckets = bs })
              (sym (append_assoc so_far (bucket ∷ []) (rest_for n m t later bucket.fault).buckets));
        }

    -- its records are of objects of the model
    pub at_objects : NextLawful m t → AllAtObjects m bucket.done
    at_objects keeps =
        let P : Bucket → Type 0 = λ b. AllAtObjects m b.done in
        subst P (sym is_next.bucket_is) (leads-at_objects m t keeps are.state _ _ are.lawful (buckets are.state are.lawful).leads)

    -- the lines with its records
    pub lines-more : record_lines m (records_of_buckets (so_far ++ bucket ∷ [])) ≡ record_lines m (records_of_buckets so_far) ++ record_lines m bucket.done
    lines-more = ap (record_lines m) (records_of_buckets-more so_far bucket) ∙ record_lines-append m (records_of_buckets so_far) bucket.done

module _ (m : Meaning) (t : Terms) (from : State) (standing : Standing) (so_far : List Bucket) (are : AreFirst m t from standing so_far)
    (buckets : BucketLaw m t) (bucket : Bucket) (new : Standing) (not_ended : ended m t standing ≡ None) (cycle : IsCycle m t standing bucket new) where
  -- what is told of the first cycles goes on with the records of a bucket
  pub lines-go_on : (most : ℕ) → length so_far + 1 ≤ most
      → (behind : List ℕ) × (first_lines m t most from ≡ record_lines m (records_of_buckets so_far) ++ (record_lines m bucket.done ++ behind))
  lines-go_on most few =
      let long = length-append so_far (bucket ∷ []) in
      let more = one_more m t from standing so_far are buckets bucket new not_ended cycle in
      let begins = lines-begin m t from new (so_far ++ bucket ∷ []) more most (omega (arith, few, long)) in (
        begins.0,
        begins.1
            ∙ ap (λ lines. lines ++ begins.0) (lines-more m t from standing so_far are buckets bucket new not_ended cycle)
            ∙ append_assoc (record_lines m (records_of_buckets so_far)) (record_lines m bucket.done) begins.0,
      )

pub is_none : {A : Type 0} (o : Option A) → is_some o ≡ false → o ≡ None
is_none None h = refl
is_none (Some x) h = cc

-- an engine that stands somewhere stands at that state
pub stands_so : {E : Type 0} (StandsIn : E → Standing → Type 0) (engine : E) (at : Standing) → StandsIn engine at
    → (last state : State) (fault : Option (Key × ℕ)) → at ≡ stands state fault
    → last ≡ state → StandsAtState StandsIn engine last
stands_so StandsIn engine at here last state fault is_at is_last =
    (fault, subst (StandsIn engine) (is_at ∙ ap (λ s. stands s fault) (sym is_last)) here)

-- what was put of these records, which a slice holds
pub put_told : (m : Meaning) (before after : List ℕ) (slice records : List (Key × Note)) → slice ≡ records → after ≡ before ++ record_lines m slice
    → after ≡ before ++ record_lines m records
put_told m before after slice records is put = put ∙ ap (λ records. before ++ record_lines m records) is
