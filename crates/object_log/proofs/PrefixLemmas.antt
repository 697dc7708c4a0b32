-- What is below a horizon and a cut is a front of a list in order, and so is what is left by a rollback to a horizon.
use Rattle.std.proofs.Common.{◌≡◌, ℕ, Bool, true, false, not, cond, List, [], ◌∷◌, ◌++◌, refl, sym, ap, ◌∙◌}
use Rattle.std.specs.Prelude.{Option}
use Rattle.event_key.specs.declared.key.Key.{Key}
use Rattle.key_order.specs.Ascending.{Ascends}
use Rattle.key_order.specs.Due.{is_due}
use Rattle.key_order.proofs.DueLemmas.{none-due}
use Rattle.key_order.proofs.EachLemmas.{Each-map}
use Rattle.key_order.proofs.FilterLemmas.{filter-all, filter-none}
use Rattle.object_log.specs.Dones.{Done}
use Rattle.object_log.specs.Parts.{due_of, left_of}
use Rattle.object_log.specs.EventLogs.{done_key}

-- a list in order is what is due and what isn't, one after the other
pub due-front : (horizon : ℕ) (cut : Option Key) (ds : List Done) → Ascends done_key ds → ds ≡ due_of horizon cut ds ++ left_of horizon cut ds
unfolding Ascends
due-front horizon cut [] up = refl
due-front horizon cut (d ∷ ds) up = by_test (is_due horizon cut d.event.key) refl (due-front horizon cut ds up.1)
  where
    by_test : (b : Bool) → is_due horizon cut d.event.key ≡ b → ds ≡ due_of horizon cut ds ++ left_of horizon cut ds
        → d ∷ ds ≡ cond b (d ∷ due_of horizon cut ds) (due_of horizon cut ds) ++ cond (not b) (d ∷ left_of horizon cut ds) (left_of horizon cut ds)
    by_test true h more = ap (λ zs. d ∷ zs) more
    by_test false h more =
        let never = none-due done_key horizon cut d.event.key ds h up.0 in
        let none : due_of horizon cut ds ≡ [] = filter-none (λ (x : Done). is_due horizon cut x.event.key) ds never in
        let all : left_of horizon cut ds ≡ ds = filter-all (λ (x : Done). not (is_due horizon cut x.event.key)) ds (Each-map (λ (x : Done). is_due horizon cut x.event.key ≡ false) (λ (x : Done). not (is_due horizon cut x.event.key) ≡ true) ds (λ x idle. ap not idle) never) in
        ap (λ zs. d ∷ zs) (sym all) ∙ ap (λ zs. zs ++ d ∷ left_of horizon cut ds) (sym none)
