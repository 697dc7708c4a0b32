-- The checks of a state as loops go over it.
use Rattle.std.proofs.Common.{◌≡◌, ℕ, ◌+◌, ◌*◌, ◌<◌, ◌≤◌, Bool, true, false, List, length, drop, get_or, Ok, refl, sym, ap, ◌∙◌, add-one, arith}
use Rattle.std.proofs.Math.Seq.{drop-cons}
use Rattle.std.proofs.Math.ListN.{drop_of_length-le}
use Rattle.std.specs.Prelude.{nat_le}
use Rattle.std.proofs.lemmas.Bool.{and_from, and_left, and_right, le-leb, leb-true}
use Rattle.model_core.specs.declared.event.Event.{Event}
use Rattle.model_core.specs.Meaning.{Meaning}
use Rattle.sim_spec.specs.Firing.{ObjectState}
use Rattle.sim_spec.specs.State.{object_at, no_object}
use Rattle.run_save.specs.declared.refusal.StateCause.TheVariants.{Unlawful}
use Rattle.run_save.specs.Checks.{Checked, refusal, wanted, ◌>>=◌}
use Rattle.run_save.specs.LawfulChecks.{is_lawful_object, objects_check, is_sound, events_check}

objects_step : (m : Meaning) (count i : ℕ) (os : List ObjectState) → i < length os
    → objects_check m count i (drop i os) ≡ (wanted (is_lawful_object m count i (object_at os i)) Unlawful (i + 4) >>= (λ _. objects_check m count (i + 1) (drop (i + 1) os)))
unfolding objects_check
objects_step m count i os within =
    ap (objects_check m count i) (drop-cons os i no_object within)
    ∙ ap (λ (rest : List ObjectState). wanted (is_lawful_object m count i (object_at os i)) Unlawful (i + 4) >>= (λ _. objects_check m count (i + 1) rest)) (ap (λ n. drop n os) (sym (add-one i)))

pub objects_go_on : (m : Meaning) (count i : ℕ) (os : List ObjectState) (total : Checked (Unit {0})) → i < length os → is_lawful_object m count i (object_at os i) ≡ true
    → objects_check m count i (drop i os) ≡ total → objects_check m count (i + 1) (drop (i + 1) os) ≡ total
objects_go_on m count i os total within lawful so_far =
    sym (objects_step m count i os within ∙ ap (λ b. wanted b Unlawful (i + 4) >>= (λ _. objects_check m count (i + 1) (drop (i + 1) os))) lawful) ∙ so_far

pub objects_end : (m : Meaning) (count i : ℕ) (os : List ObjectState) (total : Checked (Unit {0})) → i < length os → is_lawful_object m count i (object_at os i) ≡ false
    → objects_check m count i (drop i os) ≡ total → total ≡ refusal Unlawful (i + 4)
objects_end m count i os total within unlawful so_far =
    sym so_far ∙ objects_step m count i os within ∙ ap (λ b. wanted b Unlawful (i + 4) >>= (λ _. objects_check m count (i + 1) (drop (i + 1) os))) unlawful

pub objects_done : (m : Meaning) (count i : ℕ) (os : List ObjectState) (total : Checked (Unit {0})) → length os ≤ i → objects_check m count i (drop i os) ≡ total → total ≡ Ok tt
unfolding objects_check
objects_done m count i os total past so_far = sym so_far ∙ ap (objects_check m count i) (drop_of_length-le os past)

events_step : (m : Meaning) (objects : List ObjectState) (i : ℕ) (es : List Event) (d : Event) → i < length es
    → events_check m objects i (drop i es) ≡ (wanted (is_sound m objects (get_or es i d).key) Unlawful (length objects + i + 5) >>= (λ _. events_check m objects (i + 1) (drop (i + 1) es)))
unfolding events_check
events_step m objects i es d within =
    ap (events_check m objects i) (drop-cons es i d within)
    ∙ ap (λ (rest : List Event). wanted (is_sound m objects (get_or es i d).key) Unlawful (length objects + i + 5) >>= (λ _. events_check m objects (i + 1) rest)) (ap (λ n. drop n es) (sym (add-one i)))

pub events_go_on : (m : Meaning) (objects : List ObjectState) (i : ℕ) (es : List Event) (d : Event) (total : Checked (Unit {0})) → i < length es → is_sound m objects (get_or es i d).key ≡ true
    → events_check m objects i (drop i es) ≡ total → events_check m objects (i + 1) (drop (i + 1) es) ≡ total
events_go_on m objects i es d total within sound so_far =
    sym (events_step m objects i es d within ∙ ap (λ b. wanted b Unlawful (length objects + i + 5) >>= (λ _. events_check m objects (i + 1) (drop (i + 1) es))) sound) ∙ so_far

pub events_end : (m : Meaning) (objects : List ObjectState) (i : ℕ) (es : List Event) (d : Event) (total : Checked (Unit {0})) → i < length es → is_sound m objects (get_or es i d).key ≡ false
    → events_check m objects i (drop i es) ≡ total → total ≡ refusal Unlawful (length objects + i + 5)
events_end m objects i es d total within unsound so_far =
    sym so_far ∙ events_step m objects i es d within ∙ ap (λ b. wanted b Unlawful (length objects + i + 5) >>= (λ _. events_check m objects (i + 1) (drop (i + 1) es))) unsound

pub events_done : (m : Meaning) (objects : List ObjectState) (i : ℕ) (es : List Event) (total : Checked (Unit {0})) → length es ≤ i → events_check m objects i (drop i es) ≡ total → total ≡ Ok tt
unfolding events_check
events_done m objects i es total past so_far = sym so_far ∙ ap (events_check m objects i) (drop_of_length-le es past)

lt-leb : (a b : ℕ) → b < a → nat_le a b ≡ false
lt-leb a b less = by_test (nat_le a b) refl
  where
    by_test : (t : Bool) → nat_le a b ≡ t → t ≡ false
    by_test false is = refl
    by_test true is = (let within : a ≤ b = leb-true a b is in absurd (omega arith))

pub sent_too_much : (m : Meaning) (count i : ℕ) (o : ObjectState) → 8 * count < o.sent → is_lawful_object m count i o ≡ false
sent_too_much m count i o much = and_left (nat_le o.sent (8 * count)) _ (lt-leb o.sent (8 * count) much)

pub cells_unlawful : (m : Meaning) (count i : ℕ) (o : ObjectState) → m.lawful i o.cells ≡ false → is_lawful_object m count i o ≡ false
cells_unlawful m count i o unlawful = and_right (nat_le o.sent (8 * count)) _ unlawful

pub object_lawful : (m : Meaning) (count i : ℕ) (o : ObjectState) → o.sent ≤ 8 * count → m.lawful i o.cells ≡ true → is_lawful_object m count i o ≡ true
object_lawful m count i o few lawful = and_from (nat_le o.sent (8 * count)) _ (le-leb o.sent (8 * count) few) lawful
