-- The first fault of the news and of what is carried.
use Rattle.std.proofs.Common.{◌≡◌, ℕ, Bool, true, false, cond, List, [], ◌∷◌, length, get_or, drop, refl, sym, ap, ◌∙◌, subst, ◌+◌, ◌<◌, ◌≤◌}
use Rattle.std.proofs.lemmas.List.{drop_all, drop_more}
use Rattle.std.specs.List.{AllByRecursion as Each}
use Rattle.std.specs.Prelude.{Option, Some, None}
use Rattle.event_key.specs.declared.key.Key.{Key}
use Rattle.event_key.specs.Keys.{key_lt}
use Rattle.key_order.specs.Ascending.{Ascends}
use Rattle.key_order.proofs.AscendingLemmas.{After-head}
use Rattle.object_log.specs.Carrying.{Placed, placed_key}
use Rattle.object_log.specs.Dones.{Done}
use Rattle.object_log.specs.declared.done.Verdict.{Verdict}
use Rattle.object_log.specs.declared.done.Verdict.TheVariants.{Noted, Failed}
use Rattle.object_log.specs.Keeping.{EndsAtFault, OnlyLastFailed}
use Rattle.object_log.specs.Logs.{fault_of, fault_or}
use Rattle.object_log.specs.Weave.{insert, weave}
use Rattle.object_log.specs.Whole.{dones_in}
use Rattle.object_log.proofs.WeaveLemmas.{insert-without}
use Rattle.event_log.specs.Faults.{lesser_fault}
use Rattle.event_log.specs.Items.{Item, placed}
use Rattle.event_log.specs.Processing.{merged, placed_all}
use Rattle.event_log.proofs.ProcessedFacts.{placed-dones}

abbrev Fault : Type 0
Fault = Option (Key × ℕ)

-- the fault of one event
abbrev own : Placed → Fault
own p = fault_or (placed_key p) p.done.verdict None

lesser-none : (f : Fault) → lesser_fault f None ≡ f
lesser-none None = refl
lesser-none (Some f) = refl

abbrev pub at_code : Key → ℕ → Fault
at_code k code = Some (k, code)

-- a fault comes before those of events behind it
fault-after : (k : Key) (code : ℕ) (qs : List Placed) → Each (λ (q : Placed). key_lt k (placed_key q) ≡ true) qs → lesser_fault (at_code k code) (fault_of (dones_in qs)) ≡ at_code k code
unfolding fault_of
fault-after k code [] all = refl
fault-after k code (q ∷ qs) all = by_verdict q.done.verdict (fault-after k code qs all.1)
  where
    by_verdict : (v : Verdict) → lesser_fault (at_code k code) (fault_of (dones_in qs)) ≡ at_code k code → lesser_fault (at_code k code) (fault_or (placed_key q) v (fault_of (dones_in qs))) ≡ at_code k code
    by_verdict (Noted note) more = more
    by_verdict (Failed other) more = ap (λ b. cond b (at_code k code) (at_code (placed_key q) other)) all.0

first-fault : (p : Placed) (qs : List Placed) → Each (λ (q : Placed). key_lt (placed_key p) (placed_key q) ≡ true) qs → fault_of (dones_in (p ∷ qs)) ≡ lesser_fault (own p) (fault_of (dones_in qs))
unfolding fault_of
first-fault p qs all = by_verdict p.done.verdict
  where
    by_verdict : (v : Verdict) → fault_or (placed_key p) v (fault_of (dones_in qs)) ≡ lesser_fault (fault_or (placed_key p) v None) (fault_of (dones_in qs))
    by_verdict (Noted note) = refl
    by_verdict (Failed code) = sym (fault-after (placed_key p) code qs all)

behind : (k : Key) (v : Verdict) (j : Key) (w : Verdict) (g : Fault) → key_lt k j ≡ false → fault_or j w (lesser_fault (fault_or k v None) g) ≡ lesser_fault (fault_or k v None) (fault_or j w g)
behind k (Noted note) j w g late = refl
behind k (Failed code) j (Noted note) g late = refl
behind k (Failed code) j (Failed other) g late = sym (ap (λ b. cond b (at_code k code) (at_code j other)) late)

fault-insert : (p : Placed) (qs : List Placed) → Ascends placed_key qs → fault_of (dones_in (insert placed_key p qs)) ≡ lesser_fault (own p) (fault_of (dones_in qs))
unfolding fault_of insert Ascends
fault-insert p [] up = sym (lesser-none (own p))
fault-insert p (q ∷ qs) up = by_test (key_lt (placed_key p) (placed_key q)) refl (fault-insert p qs up.1)
  where
    by_test : (b : Bool) → key_lt (placed_key p) (placed_key q) ≡ b → fault_of (dones_in (insert placed_key p qs)) ≡ lesser_fault (own p) (fault_of (dones_in qs))
        → fault_of (dones_in (cond b (p ∷ q ∷ qs) (q ∷ insert placed_key p qs))) ≡ lesser_fault (own p) (fault_of (dones_in (q ∷ qs)))
    by_test true lt more = first-fault p (q ∷ qs) (After-head placed_key (placed_key p) q qs lt up)
    by_test false lt more = ap (fault_or (placed_key q) q.done.verdict) more ∙ behind (placed_key p) p.done.verdict (placed_key q) q.done.verdict (fault_of (dones_in qs)) lt

fault-weave : (ps qs : List Placed) → OnlyLastFailed (dones_in ps) → Ascends placed_key (weave placed_key ps qs) → fault_of (dones_in (weave placed_key ps qs)) ≡ lesser_fault (fault_of (dones_in ps)) (fault_of (dones_in qs))
unfolding fault_of weave OnlyLastFailed
fault-weave [] qs last up = refl
fault-weave (p ∷ ps) qs last up =
    let low = insert-without placed_key p (weave placed_key ps qs) up in
    fault-insert p (weave placed_key ps qs) low ∙ ap (lesser_fault (own p)) (fault-weave ps qs last.1 low) ∙ joined p.done.verdict last.0
  where
    joined : (v : Verdict) → EndsAtFault v (dones_in ps) → lesser_fault (fault_or (placed_key p) v None) (lesser_fault (fault_of (dones_in ps)) (fault_of (dones_in qs))) ≡ lesser_fault (fault_or (placed_key p) v (fault_of (dones_in ps))) (fault_of (dones_in qs))
    joined (Noted note) ends = refl
    joined (Failed code) ends = ap (λ (ds : List Done). lesser_fault (at_code (placed_key p) code) (lesser_fault (fault_of ds) (fault_of (dones_in qs)))) ends

-- only the last of the news may have failed
pub merged-fault : (ds : List Done) (places : List ℕ) (items : List Placed) → length places ≡ length ds → OnlyLastFailed ds → Ascends placed_key (merged ds places items) → fault_of (dones_in (merged ds places items)) ≡ lesser_fault (fault_of ds) (fault_of (dones_in items))
merged-fault ds places items long last up =
    let same = placed-dones ds places long in
    fault-weave (placed_all ds places) items (subst OnlyLastFailed (sym same) last) up ∙ ap (λ (xs : List Done). lesser_fault (fault_of xs) (fault_of (dones_in items))) same

-- the next item
fault-next : (es : List Item) (i : ℕ) (x : Item) → i < length es → x ≡ get_or es i x → fault_of (dones_in (placed (drop i es))) ≡ fault_or x.done.event.key x.done.verdict (fault_of (dones_in (placed (drop (i + 1) es))))
unfolding fault_of
fault-next es i x within at = ap (λ (is : List Item). fault_of (dones_in (placed is))) (drop_more es i x within ∙ ap (λ (y : Item). y ∷ drop (i + 1) es) (sym at))

pub fault-goes : (es : List Item) (i : ℕ) (x : Item) → i < length es → x ≡ get_or es i x → (v : Verdict) → v ≡ x.done.verdict → fault_of (dones_in (placed (drop i es))) ≡ fault_or x.done.event.key v (fault_of (dones_in (placed (drop (i + 1) es))))
fault-goes es i x within at v is = fault-next es i x within at ∙ ap (λ (w : Verdict). fault_or x.done.event.key w (fault_of (dones_in (placed (drop (i + 1) es))))) (sym is)

-- none is left
pub fault-end : (es : List Item) (n : ℕ) → length es ≤ n → None ≡ fault_of (dones_in (placed (drop n es)))
unfolding fault_of
fault-end es n past = sym (ap (λ (is : List Item). fault_of (dones_in (placed is))) (drop_all n es past))
