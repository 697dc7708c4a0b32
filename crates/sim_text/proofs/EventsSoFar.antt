-- A run under way, by the events that led to where it stands.
use Rattle.std.proofs.Common.{◌≡◌, ℕ, ◌+◌, ◌≤◌, ◌<◌, List, [], ◌++◌, Option, Some, None, false, refl, sym, ap, ◌∙◌, subst, append_assoc, append-nil, arith}
use Rattle.event_key.specs.declared.key.Key.{Key}
use Rattle.model_core.specs.declared.note.Note.{Note}
use Rattle.model_core.specs.Meaning.{Meaning, MeaningLaws}
use Rattle.run_recorder.specs.Stretches.{IsStretch}
use Rattle.run_recorder.proofs.StretchLemmas.{leads-append, leads-count}
use Rattle.run_tally.specs.Tallies.{TotalsOf}
use Rattle.sim_spec.specs.declared.stop.Stop.{Stop}
use Rattle.sim_spec.specs.declared.terms.Terms.{Terms}
use Rattle.sim_spec.specs.Run.{Run, run, stops, next, Leads}
use Rattle.sim_spec.specs.Standing.{Standing, stands, ended, IsCountAt}
use Rattle.sim_spec.specs.State.{State, Lawful}
use Rattle.sim_spec.proofs.LawfulLemmas.{leads-lawful, next-placed}
use Rattle.sim_spec.proofs.RunLemmas.{run-leads, run-stops}
use Rattle.sim_io.specs.CycleTexts.{PlainText}
use Rattle.sim_io.specs.Taken.{Taken, Appends}
use Rattle.sim_io.specs.Texts.{record_lines, run_text, text_of_run, stop_line, IsAtObject}
use Rattle.sim_io.specs.Transfers.{AppendsPrefix}
use Rattle.sim_io.proofs.TakenLemmas.{Appends-trans}
use Rattle.sim_io.proofs.TextLemmas.{record_lines-append}
use Rattle.sim_text.specs.declared.telling.Telling.TheVariants.{Lines}
use Rattle.sim_text.specs.LineStretches.{HasToldEvents, DoesStretch, HasWrittenStretch}
use Rattle.sim_text.specs.Rest.{BeginsAt}
use Rattle.sim_text.specs.WholeTexts.{text_from}
use Rattle.sim_text.proofs.Rest.{IsNextFault, ended-next}
use Rattle.sim_text.proofs.UnderWay.{at_object, stands-injective, ended-same}
use Rattle.sim_text.proofs.WritingLemmas.{writes_last, writes_prefix}

-- a run has come by these events to where an engine stands, with the fault that comes next, if it met one; each stretch
-- but the last had an event
pub record HasCome (m : Meaning) (t : Terms) (from : State) (at : Standing) (done : List (Key × Note)) (number : ℕ) : Type 0 where
  pub state : State
  pub fault : Option (Key × ℕ)
  pub at_state : at ≡ stands state fault
  pub lawful : Lawful m t state
  pub leads : Leads m t from done state
  pub failed : IsNextFault m t state fault
  pub few : number ≤ state.count + 2
  pub few_more : ended m t at ≡ None → number ≤ state.count + 1

-- an engine that began there has come so far
pub record ComesOn (m : Meaning) (t : Terms) {E : Type 0} (StandsIn : E → Standing → Type 0) (engine : E) (done : List (Key × Note)) (number : ℕ) (from : State) : Type 0 where
  pub lawful : Lawful m t from
  pub at : Standing
  pub stands : StandsIn engine at
  pub way : HasCome m t from at done number

pub comes_from : (m : Meaning) (t : Terms) (from : State) {E : Type 0} (StandsIn : E → Standing → Type 0) (engine : E)
    → BeginsAt m t StandsIn engine from → ComesOn m t StandsIn engine [] 1 from
unfolding Leads
comes_from m t from StandsIn engine starts = record {
  lawful = starts.lawful;
  at = stands from None;
  stands = starts.stands;
  way = record {
    state = from;
    fault = None;
    at_state = refl;
    lawful = starts.lawful;
    leads = refl;
    failed = λ f is_fault. cc;
    few = omega arith;
    few_more = λ more. omega arith;
  };
}

-- the text of a run begins with the lines of the events that lead to a state, and goes on from there
text-leads : (m : Meaning) (t : Terms) (done : List (Key × Note)) (s last : State) → s.count ≤ t.limit → Leads m t s done last
    → text_of_run m t (run m t s) ≡ record_lines m done ++ text_of_run m t (run m t last)
unfolding text_of_run
text-leads m t done s last room leads =
    let rest : Run = run m t last in
    ap (text_of_run m t) (run-leads m t done s last room leads)
    ∙ ap (λ lines. lines ++ stop_line m t rest.last.count rest.stop) (record_lines-append m done rest.records)
    ∙ append_assoc (record_lines m done) (record_lines m rest.records) (stop_line m t rest.last.count rest.stop)

-- where it has stopped only its stop line is left
text-stops : (m : Meaning) (t : Terms) (s : State) (stop : Stop) (count : ℕ) → next m t s ≡ stops stop → count ≡ s.count
    → text_of_run m t (run m t s) ≡ stop_line m t count stop
unfolding text_of_run record_lines
text-stops m t s stop count is_next counted = ap (text_of_run m t) (run-stops m t s stop is_next) ∙ ap (λ n. stop_line m t n stop) (sym counted)

module _ (m : Meaning) (t : Terms) (from : State) (at : Standing) (done : List (Key × Note)) (number : ℕ) (way : HasCome m t from at done number) where
  -- what is next where the engine has ended
  next-here : (stop : Stop) → ended m t at ≡ Some stop → next m t way.state ≡ stops stop
  next-here stop is_stop = ended-next m t way.state way.fault stop way.failed (ap (ended m t) (sym way.at_state) ∙ is_stop)

  pub stop-at_object : (stop : Stop) → ended m t at ≡ Some stop → IsAtObject m stop
  stop-at_object stop is_stop = at_object m stop (next-placed m t way.state (stops stop) way.lawful (next-here stop is_stop))

  pub stop-of_run : (stop : Stop) → from.count ≤ t.limit → ended m t at ≡ Some stop → (run m t from).stop ≡ stop
  stop-of_run stop room is_stop =
      ap (λ (r : Run). r.stop) (run-leads m t done from way.state room way.leads)
      ∙ ap (λ (r : Run). r.stop) (run-stops m t way.state stop (next-here stop is_stop))

  -- the text is the lines of the events so far, and what is told from there on
  pub text-so_far : (totals : TotalsOf) → PlainText m t → Lawful m t from
      → text_from m t totals (Lines false) from ≡ record_lines m done ++ text_of_run m t (run m t way.state)
  unfolding text_from run_text
  text-so_far totals plain lawful = plain from lawful ∙ text-leads m t done from way.state lawful.count way.leads

  -- which is the stop line where it has ended
  pub text-whole : (totals : TotalsOf) → PlainText m t → Lawful m t from → (stop : Stop) (count : ℕ) → ended m t at ≡ Some stop → IsCountAt at count
      → text_from m t totals (Lines false) from ≡ record_lines m done ++ stop_line m t count stop
  unfolding IsCountAt
  text-whole totals plain lawful stop count is_stop counted =
      let P : Standing → Type 0 = λ s. IsCountAt s count in
      text-so_far totals plain lawful
      ∙ ap (λ lines. record_lines m done ++ lines) (text-stops m t way.state stop count (next-here stop is_stop) (subst P way.at_state counted))

  -- each stretch but the last two has an event, so that the limit bounds their number
  pub few_stretches : number < t.limit + 3
  few_stretches = let many = way.lawful.count in let few = way.few in omega (arith, many, few)

  pub told_events : (old now : Taken) → Appends old now (record_lines m done) → HasToldEvents m t from old now at
  told_events old now told = record { done = done; state = way.state; fault = way.fault; at_state = way.at_state; leads = way.leads; told = told }

  -- a stretch more
  pub comes_on : MeaningLaws m → (more : List (Key × Note)) (new : Standing) → ended m t at ≡ None → IsStretch m t at more new
      → HasCome m t from new (done ++ more) (number + 1)
  comes_on laws more new goes stretch =
      let same = stands-injective stretch.from way.state None way.fault (sym stretch.begins ∙ way.at_state) in
      let L : State → Type 0 = λ s. Leads m t s more stretch.last in
      let leads = subst L same.0 stretch.leads in
      let counted = leads-count m t more way.state stretch.last leads in
      let few = way.few_more goes in
      record {
        state = stretch.last;
        fault = stretch.fault;
        at_state = stretch.ends;
        lawful = leads-lawful m t more way.state stretch.last laws way.lawful leads;
        leads = leads-append m t done more from way.state stretch.last way.leads leads;
        failed = stretch.failed;
        few = omega (arith, counted, few);
        few_more = λ on. let some = stretch.some on in omega (arith, counted, few, some);
      }

-- an engine that had not ended has come on by the stretch whose lines it wrote
pub record HasComeOn (m : Meaning) (t : Terms) {E : Type 0} (meaning : E → Meaning) (terms : E → Terms) (StandsIn : E → Standing → Type 0) (new : E) (done : List (Key × Note)) (number : ℕ) (from : State) : Type 0 where
  pub meaning_is : meaning new ≡ m
  pub terms_is : terms new ≡ t
  pub comes : ComesOn m t StandsIn new done number from

pub has_come_on : (m : Meaning) (t : Terms) {E : Type 0} (meaning : E → Meaning) (terms : E → Terms) (StandsIn : E → Standing → Type 0) (old new : E)
    (done : List (Key × Note)) (number : ℕ) (from : State) (stop : Option Stop)
    (lines : List ℕ) → MeaningLaws m → meaning old ≡ m → terms old ≡ t → (r : ComesOn m t StandsIn old done number from)
    → stop ≡ ended (meaning old) (terms old) r.at → stop ≡ None
    → (written : HasWrittenStretch meaning terms StandsIn old new lines)
    → HasComeOn m t meaning terms StandsIn new (done ++ written.done) (number + 1) from
has_come_on m t meaning terms StandsIn old new done number from stop lines laws same_meaning same_terms r is_stop none written =
    let own_none : ended (meaning old) (terms old) r.at ≡ None = sym is_stop ∙ none in
    let made : DoesStretch meaning terms StandsIn old r.at written.done new = written.does r.at r.stands own_none in
    let P : Meaning → Type 0 = λ x. IsStretch x (terms old) r.at written.done made.left in
    let Q : Terms → Type 0 = λ x. IsStretch m x r.at written.done made.left in
    let stretch = subst Q same_terms (subst P same_meaning made.stretch) in
    let goes = ended-same m (meaning old) t (terms old) r.at None same_meaning same_terms (sym own_none) in
    record {
      meaning_is = made.same_meaning ∙ same_meaning;
      terms_is = made.same_terms ∙ same_terms;
      comes = record {
        lawful = r.lawful;
        at = made.left;
        stands = made.stands;
        way = comes_on m t from r.at done number r.way laws written.done made.left goes stretch;
      };
    }

module _ (m : Meaning) (start now : Taken) (done : List (Key × Note)) (text : List ℕ) (told : Appends start now (record_lines m done)) where
  -- what was told so far is a prefix of the text
  pub so_far-prefix : (behind : List ℕ) → text ≡ record_lines m done ++ behind → AppendsPrefix start now text
  so_far-prefix behind is = (record_lines m done, behind, is, told)

  -- so it is where the end is told in part
  pub end-prefix : (later : Taken) (line : List ℕ) → text ≡ record_lines m done ++ line → AppendsPrefix now later line
      → AppendsPrefix start later text
  end-prefix later line is part = writes_prefix start now later text line line [] (record_lines m done, told, is) (sym (append-nil line)) part

  pub end-told : (later : Taken) (line : List ℕ) → text ≡ record_lines m done ++ line → Appends now later line → Appends start later text
  end-told later line is written = writes_last start now later text line (record_lines m done, told, is) written

  -- or a stretch
  pub stretch-prefix : (more : List (Key × Note)) (behind : List ℕ) (later : Taken) → text ≡ record_lines m (done ++ more) ++ behind
      → AppendsPrefix now later (record_lines m more) → AppendsPrefix start later text
  stretch-prefix more behind later is part =
      let next : List ℕ = record_lines m more in
      let whole : text ≡ record_lines m done ++ (next ++ behind) =
      is ∙ ap (λ lines. lines ++ behind) (record_lines-append m done more) ∙ append_assoc (record_lines m done) next behind in
      writes_prefix start now later text (next ++ behind) next behind (record_lines m done, told, whole) refl part

  pub stretch-told : (more : List (Key × Note)) (later : Taken) → Appends now later (record_lines m more)
      → Appends start later (record_lines m (done ++ more))
  stretch-told more later written =
      subst (Appends start later) (sym (record_lines-append m done more))
      (Appends-trans start now later (record_lines m done) (record_lines m more) told written)
