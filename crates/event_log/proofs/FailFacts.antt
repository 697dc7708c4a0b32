-- Which carried events may have failed.
use Rattle.std.proofs.Common.{◌≡◌, ℕ, zero, suc, Bool, true, false, cond, List, [], ◌∷◌, length, take, Option, Some, None, refl, sym, ap, ◌∙◌}
use Rattle.std.specs.List.{remove}
use Rattle.event_key.specs.declared.key.Key.{Key}
use Rattle.event_key.specs.Keys.{key_lt}
use Rattle.key_order.specs.Ascending.{Ascends}
use Rattle.object_log.specs.Carrying.{Placed, placed_key}
use Rattle.object_log.specs.Dones.{Done}
use Rattle.object_log.specs.declared.done.Verdict.{Verdict}
use Rattle.object_log.specs.declared.done.Verdict.TheVariants.{Noted, Failed}
use Rattle.object_log.specs.Keeping.{EndsAtFault, OnlyLastFailed}
use Rattle.object_log.specs.Logs.{fault_of, fault_or}
use Rattle.object_log.specs.Whole.{dones_in}
use Rattle.event_log.specs.Faults.{lesser_fault}
use Rattle.event_log.specs.Processing.{merged}
use Rattle.event_log.proofs.FaultFacts.{merged-fault}

abbrev Fault : Type 0
Fault = Option (Key × ℕ)

-- the first of events went, and so did the others
record HasGone (k : Key) (v : Verdict) (more : Fault) : Type 0 where
  others : more ≡ None
  first : (f : Fault) → fault_or k v f ≡ f
  ends : (ds : List Done) → EndsAtFault v ds

went : (k : Key) (v : Verdict) (more : Fault) → fault_or k v more ≡ None → HasGone k v more
went k (Noted note) more none = record { others = none; first = λ f. refl; ends = λ ds. tt }
went k (Failed code) more none = absurd (cc)

fault-take : (n : ℕ) (ds : List Done) → fault_of ds ≡ None → fault_of (take n ds) ≡ None
unfolding fault_of
fault-take zero ds none = refl
fault-take (suc n) [] none = refl
fault-take (suc n) (d ∷ ds) none = (let w = went d.event.key d.verdict (fault_of ds) none in w.first (fault_of (take n ds)) ∙ fault-take n ds w.others)

fault-removed : (ps : List Placed) (i : ℕ) → fault_of (dones_in ps) ≡ None → fault_of (dones_in (remove ps i)) ≡ None
unfolding fault_of
fault-removed [] zero none = refl
fault-removed [] (suc i) none = refl
fault-removed (p ∷ ps) zero none = (went (placed_key p) p.done.verdict (fault_of (dones_in ps)) none).others
fault-removed (p ∷ ps) (suc i) none =
    let w = went (placed_key p) p.done.verdict (fault_of (dones_in ps)) none in
    w.first (fault_of (dones_in (remove ps i))) ∙ fault-removed ps i w.others

only-last : (ds : List Done) → fault_of ds ≡ None → OnlyLastFailed ds
unfolding fault_of OnlyLastFailed
only-last [] none = tt
only-last (d ∷ ds) none = (let w = went d.event.key d.verdict (fault_of ds) none in (w.ends ds, only-last ds w.others))

lesser-other : (one other : Fault) → lesser_fault one other ≡ None → other ≡ None
lesser-other None other none = none
lesser-other (Some one) None none = refl
lesser-other (Some one) (Some other) none = by_test (key_lt one.0 other.0) none
  where
    by_test : (b : Bool) → cond b (Some one) (Some other) ≡ None → ◌≡◌ {A = Fault} (Some other) None
    by_test true none = absurd (cc)
    by_test false none = none

-- news of which none failed are carried
pub carried-went : (news news' : List Done) (places places' : List ℕ) (from : ℕ) (items items' : List Placed) → merged news' places' items' ≡ merged news places items
    → length places ≡ length news → length places' ≡ length news' → Ascends placed_key (merged news places items) → Ascends placed_key (merged news' places' items')
    → news' ≡ take from news → fault_of news ≡ None → fault_of (dones_in items) ≡ None → fault_of (dones_in items') ≡ None
carried-went news news' places places' from items items' same long long' up up' left went none =
    let left_went : fault_of news' ≡ None = ap fault_of left ∙ fault-take from news went in
    lesser-other (fault_of news') (fault_of (dones_in items'))
    (sym (merged-fault news' places' items' long' (only-last news' left_went) up')
    ∙ ap (λ (ps : List Placed). fault_of (dones_in ps)) same
    ∙ merged-fault news places items long (only-last news went) up
    ∙ (λ i. lesser_fault (went i) (none i)))

-- one is taken out
pub left-went : (ps qs : List Placed) (i : ℕ) → qs ≡ remove ps i → fault_of (dones_in ps) ≡ None → fault_of (dones_in qs) ≡ None
left-went ps qs i is none = ap (λ (xs : List Placed). fault_of (dones_in xs)) is ∙ fault-removed ps i none
