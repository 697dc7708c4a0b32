-- What a commit takes is the first events of a list in order.
use Rattle.std.proofs.Common.{◌≡◌, ℕ, zero, suc, Bool, true, false, not, Some, List, [], ◌∷◌, ◌++◌, length, take, drop, refl, sym, ap, ◌∙◌, subst, arith}
use Rattle.std.proofs.lemmas.List.{append-nil, drop_all, take-append-drop}
use Rattle.std.proofs.lemmas.List.Elements.{filter-append}
use Rattle.std.specs.Prelude.{Option, slice_get}
use Rattle.std.specs.List.{AllByRecursion as Each}
use Rattle.event_key.specs.declared.key.Key.{Key}
use Rattle.key_order.specs.Ascending.{Ascends}
use Rattle.key_order.specs.Due.{is_due}
use Rattle.key_order.proofs.DueLemmas.{none-due}
use Rattle.key_order.proofs.EachLemmas.{Each-map}
use Rattle.key_order.proofs.FilterLemmas.{filter-all, filter-none}
use Rattle.object_log.specs.Dones.{Done}
use Rattle.object_log.specs.EventLogs.{done_key}
use Rattle.object_log.specs.Logs.{keys_of}
use Rattle.object_log.specs.Parts.{due_of, left_of}

module _ (horizon : ℕ) (cut : Option Key) where
  abbrev pub Due : Done → Type 0
  Due d = is_due horizon cut d.event.key ≡ true

  abbrev pub NotDue : Done → Type 0
  NotDue d = is_due horizon cut d.event.key ≡ false

  at-none : (ds : List Done) (n : ℕ) (x : Done) → slice_get ds n ≡ Some x → Each NotDue ds → NotDue x
  at-none [] n x at all = absurd (cc)
  at-none (d ∷ ds) zero x at all = (let same : d ≡ x = cc in subst NotDue same all.0)
  at-none (d ∷ ds) (suc n) x at all = at-none ds n x at all.1

  -- from one that isn't due on none is
  pub none-from : (ds : List Done) (n : ℕ) (x : Done) → Ascends done_key ds → slice_get ds n ≡ Some x → NotDue x → Each NotDue (drop n ds)
  unfolding Ascends
  none-from [] n x up at idle = absurd (cc)
  none-from (d ∷ ds) zero x up at idle =
      let same : x ≡ d = cc in
      let first = subst NotDue same idle in
      (first, none-due done_key horizon cut d.event.key ds first up.0)
  none-from (d ∷ ds) (suc n) x up at idle = none-from ds n x up.1 at idle

  both : (d : Done) → Due d → NotDue d → ⊥
  both d takes not_taken = cc

  -- all up to one that is due are due
  pub all-due : (ds : List Done) (n : ℕ) (x : Done) → Ascends done_key ds → slice_get ds n ≡ Some x → Due x → Each Due (take (suc n) ds)
  unfolding Ascends
  all-due [] n x up at due = absurd (cc)
  all-due (d ∷ ds) zero x up at due = (let same : x ≡ d = cc in (subst Due same due, tt))
  all-due (d ∷ ds) (suc n) x up at due = by_test (is_due horizon cut d.event.key) refl (all-due ds n x up.1 at due)
    where
      by_test : (b : Bool) → is_due horizon cut d.event.key ≡ b → Each Due (take (suc n) ds) → Each Due (d ∷ take (suc n) ds)
      by_test true h more = (h, more)
      by_test false h more = absurd (both x due (at-none ds n x at (none-due done_key horizon cut d.event.key ds h up.0)))

  -- the first n are due, and the others aren't
  pub due-cut : (ds : List Done) (n : ℕ) → Each Due (take n ds) → Each NotDue (drop n ds) → (take n ds ≡ due_of horizon cut ds) × (drop n ds ≡ left_of horizon cut ds)
  due-cut ds n first rest =
      let split : ds ≡ take n ds ++ drop n ds = sym (take-append-drop n ds) in
      let takes = λ (x : Done). is_due horizon cut x.event.key in
      let leaves = λ (x : Done). not (is_due horizon cut x.event.key) in
      let none : left_of horizon cut (take n ds) ≡ [] = filter-none leaves (take n ds) (Each-map Due (λ (x : Done). leaves x ≡ false) (take n ds) (λ x due. ap not due) first) in
      let all : left_of horizon cut (drop n ds) ≡ drop n ds = filter-all leaves (drop n ds) (Each-map NotDue (λ (x : Done). leaves x ≡ true) (drop n ds) (λ x idle. ap not idle) rest) in (
        sym (ap (due_of horizon cut) split
            ∙ filter-append takes (take n ds) (drop n ds)
            ∙ (λ i. filter-all takes (take n ds) first i ++ filter-none takes (drop n ds) rest i)
            ∙ append-nil (take n ds)),
        sym (ap (left_of horizon cut) split
            ∙ filter-append leaves (take n ds) (drop n ds)
            ∙ (λ i. none i ++ all i)),
      )

  -- nothing is past the end
  pub none-past : (ds : List Done) (n : ℕ) → length ds ≡ n → Each NotDue (drop n ds)
  none-past ds n long = subst (Each NotDue) (sym (drop_all n ds (omega arith))) tt

  -- one event more that isn't due
  pub one-more : (ds : List Done) (n : ℕ) (x : Done) → slice_get ds n ≡ Some x → NotDue x → Each NotDue (drop (suc n) ds) → Each NotDue (drop n ds)
  one-more [] n x at idle rest = absurd (cc)
  one-more (d ∷ ds) zero x at idle rest = (let same : x ≡ d = cc in (subst NotDue same idle, rest))
  one-more (d ∷ ds) (suc n) x at idle rest = one-more ds n x at idle rest

-- the event with a key that is read off
pub with-key : (ds : List Done) (n : ℕ) (key : Key) → slice_get (keys_of ds) n ≡ Some key → (x : Done) × (slice_get ds n ≡ Some x) × (x.event.key ≡ key)
with-key [] n key at = absurd (cc)
with-key (d ∷ ds) zero key at = (d, refl, cc)
with-key (d ∷ ds) (suc n) key at = with-key ds n key at
