-- What is read off rows.
use Rattle.std.proofs.Common.{◌≡◌, ℕ, zero, suc, ◌+◌, ◌<◌, Some, List, [], ◌∷◌, ◌++◌, length, get_or, take, refl, sym, ap, ◌∙◌, arith}
use Rattle.std.specs.Prelude.{None, slice_get}
use Rattle.key_order.specs.Stamps.{least_stamp}
use Rattle.object_log.specs.Dones.{Done}
use Rattle.object_log.specs.declared.done.Verdict.{Verdict}
use Rattle.object_log.specs.declared.done.Verdict.TheVariants.{Noted, Failed}
use Rattle.object_log.specs.Keeping.{EndsAtFault, OnlyLastFailed}
use Rattle.object_log.specs.Logs.{fault_of, fault_or, keys_of}
use Rattle.event_log.specs.declared.row.Row.{Row}
use Rattle.event_log.specs.News.{code_of, code_or, least_after, rows_of}
use Rattle.event_log.proofs.NewsFacts.{no-code, no-none}

no-more : (d : Done) (ds : List Done) → d ∷ ds ≡ [] → ⊥
no-more d ds is = cc

-- a row has the key of its event
pub row-key : (least : ℕ) (ds : List Done) (n : ℕ) (r : Row) → n < length ds → r ≡ get_or (rows_of least ds) n r → slice_get (keys_of ds) n ≡ Some r.event.key
unfolding rows_of
row-key least [] n r within at = absurd (omega arith)
row-key least (d ∷ ds) zero r within at = ap (λ (x : Row). Some x.event.key) (sym at)
row-key least (d ∷ ds) (suc n) r within at = row-key (least_stamp least d.sends) ds n r (omega arith) at

-- the last row tells the least of all
pub least-last : (least : ℕ) (rs : List Row) (n : ℕ) (r : Row) → n + 1 ≡ length rs → slice_get rs n ≡ Some r → r.least ≡ least_after least rs
least-last least [] n r long at = absurd (omega arith)
least-last least (x ∷ []) zero r long at = (let same : r ≡ x = cc in ap (λ (y : Row). y.least) same)
least-last least (x ∷ []) (suc n) r long at = absurd (omega arith)
least-last least (x ∷ y ∷ ys) zero r long at = absurd (omega arith)
least-last least (x ∷ y ∷ ys) (suc n) r long at = least-last x.least (y ∷ ys) n r (omega arith) at

-- a code is an event's
pub code-some : (ds : List Done) (code : ℕ) → code_of ds ≡ Some code → 0 < length ds
unfolding code_of
code-some [] code is = absurd (no-none code is)
code-some (d ∷ ds) code is = omega arith

-- where there is no code none failed
pub fault-none : (ds : List Done) → code_of ds ≡ None → fault_of ds ≡ None
unfolding fault_of code_of
fault-none [] none = refl
fault-none (d ∷ ds) none = by_verdict d.verdict (fault-none ds) none
  where
    by_verdict : (v : Verdict) → (code_of ds ≡ None → fault_of ds ≡ None) → code_or v (code_of ds) ≡ None → fault_or d.event.key v (fault_of ds) ≡ None
    by_verdict (Noted note) more none = more none
    by_verdict (Failed code) more none = absurd (no-code code none)

-- else it is the last one
pub fault-last : (least code : ℕ) (ds : List Done) (n : ℕ) (r : Row) → OnlyLastFailed ds → code_of ds ≡ Some code → n + 1 ≡ length ds → r ≡ get_or (rows_of least ds) n r → fault_of ds ≡ Some (r.event.key, code)
unfolding fault_of code_of OnlyLastFailed rows_of
fault-last least code [] n r last is long at = absurd (omega arith)
fault-last least code (d ∷ []) zero r last is long at = by_verdict d.verdict is
  where
    by_verdict : (v : Verdict) → code_or v None ≡ Some code → fault_or d.event.key v None ≡ Some (r.event.key, code)
    by_verdict (Noted note) is = absurd (no-none code is)
    by_verdict (Failed found) is = (let same : found ≡ code = cc in λ i. Some ((sym at i).event.key, same i))
fault-last least code (d ∷ []) (suc n) r last is long at = absurd (omega arith)
fault-last least code (d ∷ e ∷ ds) zero r last is long at = absurd (omega arith)
fault-last least code (d ∷ e ∷ ds) (suc n) r last is long at =
    by_verdict d.verdict last.0 is (λ more. fault-last (least_stamp least d.sends) code (e ∷ ds) n r last.1 more (omega arith) at)
  where
    by_verdict : (v : Verdict) → EndsAtFault v (e ∷ ds) → code_or v (code_of (e ∷ ds)) ≡ Some code → (code_of (e ∷ ds) ≡ Some code → fault_of (e ∷ ds) ≡ Some (r.event.key, code)) → fault_or d.event.key v (fault_of (e ∷ ds)) ≡ Some (r.event.key, code)
    by_verdict (Noted note) ends is more = more is
    by_verdict (Failed found) ends is more = absurd (no-more e ds ends)

-- what stands at a place within a list
pub there : {X : Type 0} (xs : List X) (n : ℕ) → n < length xs → (x : X) × (slice_get xs n ≡ Some x)
there [] n within = absurd (omega arith)
there (x ∷ xs) zero within = (x, refl)
there (x ∷ xs) (suc n) within = there xs n (omega arith)

-- the first ones and the next one
pub take-next : {X : Type 0} (xs : List X) (n : ℕ) (x : X) → slice_get xs n ≡ Some x → take (n + 1) xs ≡ take n xs ++ x ∷ []
take-next [] n x at = absurd (cc)
take-next (y ∷ ys) zero x at = (let same : y ≡ x = cc in ap (λ z. z ∷ []) same)
take-next (y ∷ ys) (suc n) x at = (let next : suc n + 1 ≡ suc (n + 1) = omega arith in ap (λ k. take k (y ∷ ys)) next ∙ ap (λ zs. y ∷ zs) (take-next ys n x at))
