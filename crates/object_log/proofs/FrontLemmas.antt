-- What is undone of a list is the end of each object's log.
use Rattle.std.proofs.Common.{◌≡◌, ℕ, Bool, true, false, not, cond, List, [], ◌∷◌, ◌++◌, arith, ltb-true, lt-ltb, refl, sym, ap, ◌∙◌, subst}
use Rattle.std.proofs.lemmas.Bool.{false_from_ne_true}
use Rattle.std.specs.List.{AllByRecursion as Each}
use Rattle.std.specs.Prelude.{filter, nat_lt}
use Rattle.event_key.specs.declared.key.Key.{Key}
use Rattle.event_key.specs.Keys.{key_lt}
use Rattle.event_key.proofs.Order.{key_lt-trans, stamp-le}
use Rattle.model_core.specs.Meaning.{Meaning}
use Rattle.sim_spec.specs.Firing.{ObjectState}
use Rattle.key_order.specs.Ascending.{Ascends}
use Rattle.key_order.proofs.EachLemmas.{Each-map}
use Rattle.key_order.proofs.FilterLemmas.{filter-all, filter-none}
use Rattle.object_log.specs.Dones.{Done}
use Rattle.object_log.specs.Logs.{undone}
use Rattle.object_log.specs.Replays.{IsReplayed}
use Rattle.object_log.proofs.ReplayLemmas.{undone-append, replayed-front, replayed-back}
use Rattle.object_log.specs.EventLogs.{done_key}

-- a test that holds before each key at which it holds
abbrev pub IsDown : (Key → Bool) → Type 0
IsDown p = (j k : Key) → key_lt j k ≡ true → p k ≡ true → p j ≡ true

pub down-key : (key : Key) → IsDown (λ k. key_lt k key)
down-key key j k lt is = key_lt-trans j k key lt is

pub down-stamp : (horizon : ℕ) → IsDown (λ k. nat_lt k.stamp horizon)
down-stamp horizon j k lt is = let below = ltb-true k.stamp horizon is in let le = stamp-le j k lt in lt-ltb j.stamp horizon (omega arith)

-- what passes it is a front of a list in order
pub front-split : (p : Key → Bool) → IsDown p → (ds : List Done) → Ascends done_key ds → ds ≡ filter (λ d. p d.event.key) ds ++ filter (λ d. not (p d.event.key)) ds
unfolding Ascends
front-split p down [] up = refl
front-split p down (d ∷ ds) up = by_test (p d.event.key) refl (front-split p down ds up.1)
  where
    by_test : (b : Bool) → p d.event.key ≡ b → ds ≡ filter (λ x. p x.event.key) ds ++ filter (λ x. not (p x.event.key)) ds
        → d ∷ ds ≡ cond b (d ∷ filter (λ x. p x.event.key) ds) (filter (λ x. p x.event.key) ds) ++ cond (not b) (d ∷ filter (λ x. not (p x.event.key)) ds) (filter (λ x. not (p x.event.key)) ds)
    by_test true h more = ap (λ zs. d ∷ zs) more
    by_test false h more =
        let never : Each (λ (x : Done). p x.event.key ≡ false) ds =
        Each-map (λ (x : Done). key_lt d.event.key x.event.key ≡ true) (λ (x : Done). p x.event.key ≡ false) ds
        (λ x lt. false_from_ne_true (p x.event.key) (λ yes. let here = down d.event.key x.event.key lt yes in cc)) up.0 in
        let none = filter-none (λ (x : Done). p x.event.key) ds never in
        let all = filter-all (λ (x : Done). not (p x.event.key)) ds (Each-map (λ (x : Done). p x.event.key ≡ false) (λ (x : Done). not (p x.event.key) ≡ true) ds (λ x idle. ap not idle) never) in
        ap (λ zs. d ∷ zs) (sym all) ∙ ap (λ zs. zs ++ d ∷ filter (λ x. not (p x.event.key)) ds) (sym none)

-- the state before what is left is that before all, once what is gone is undone
pub base-kept : (s : ObjectState) (all left gone : List Done) → all ≡ left ++ gone → undone (undone s gone) left ≡ undone s all
base-kept s all left gone is = sym (undone-append s left gone) ∙ ap (undone s) (sym is)

-- and what is left is a log of each model
pub replay-kept : (m : Meaning) (object : ℕ) (s : ObjectState) (all left gone : List Done) → all ≡ left ++ gone → IsReplayed m object s all → IsReplayed m object (undone s gone) left
replay-kept m object s all left gone is replayed = let P : List Done → Type 0 = IsReplayed m object s in replayed-front m object s left gone (subst P is replayed)

-- so is what a commit leaves
pub replay-left : (m : Meaning) (object : ℕ) (s : ObjectState) (all gone left : List Done) → all ≡ gone ++ left → IsReplayed m object s all → IsReplayed m object s left
replay-left m object s all gone left is replayed = let P : List Done → Type 0 = IsReplayed m object s in replayed-back m object s gone left (subst P is replayed)
