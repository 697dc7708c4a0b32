-- Nodes that commit and receive one after another.
use Rattle.std.proofs.Common.{◌≡◌, ℕ, ◌+◌, ◌<◌, Bool, true, false, List, length, refl, sym, ap, ◌∙◌, subst, arith, eqb, eqb-true, slice_set}
use Rattle.std.proofs.lemmas.Bool.{eqb-false}
use Rattle.std.proofs.lemmas.List.{length-set}
use Rattle.std.proofs.lemmas.Option.{slice_get_within}
use Rattle.std.specs.Prelude.{slice_get, Option, Some}
use Rattle.event_key.specs.declared.key.Key.{Key}
use Rattle.model_core.specs.declared.event.Event.{Event}
use Rattle.model_core.specs.Meaning.{Meaning}
use Rattle.node_core.specs.declared.committed.Committed.{Committed}
use Rattle.node_core.specs.Nodes.{NodeView}
use Rattle.node_core.specs.Calls.{HasCommitted}
use Rattle.cycle_core.specs.Ends.{CommitUpto, Receives, ReceiveUpto}
use Rattle.cycle_core.proofs.PlaceLemmas.{at-set, at-other, same-some}

module _ {M : Type 0} (meaning_of : M → Meaning) where
  pub commit-none : (bound : ℕ) (cut : Option Key) (nodes : List (NodeView M)) (all : List Committed) → length all ≡ length nodes → CommitUpto meaning_of bound cut 0 nodes nodes all
  commit-none bound cut nodes all same = record { many = refl; count = same; each = λ number x y c below a b at. absurd (omega arith); rest = λ number from. refl }

  pub commit-more : (bound : ℕ) (cut : Option Key) (place : ℕ) (old now : List (NodeView M)) (all : List Committed) (x v : NodeView M) (c : Committed) → CommitUpto meaning_of bound cut place old now all
      → slice_get now place ≡ Some x → HasCommitted (meaning_of x.model) bound cut x v c.done.items c.out.items → CommitUpto meaning_of bound cut (place + 1) old (slice_set now place v) (slice_set all place c)
  commit-more bound cut place old now all x v c upto here commits = record {
    many = length-set now place v ∙ upto.many;
    count = length-set all place c ∙ upto.count;
    each = λ number a b d below at_old at_new at_all. by_place number a b d below at_old at_new at_all (eqb number place) refl;
    rest = λ number from. at-other now place number v (λ same. omega arith) ∙ upto.rest number (omega arith);
  }
    where
      by_place : (number : ℕ) (a b : NodeView M) (d : Committed) → number < place + 1 → slice_get old number ≡ Some a → slice_get (slice_set now place v) number ≡ Some b → slice_get (slice_set all place c) number ≡ Some d
          → (t : Bool) → eqb number place ≡ t → HasCommitted (meaning_of a.model) bound cut a b d.done.items d.out.items
      by_place number a b d below at_old at_new at_all true h =
          let same = eqb-true number place h in
          let within = slice_get_within now place x here in
          let many = upto.many in
          let count = upto.count in
          let here_old : x ≡ a = same-some x a (sym here ∙ upto.rest place (omega arith) ∙ ap (slice_get old) (sym same) ∙ at_old) in
          let here_new : v ≡ b = same-some v b (sym (at-set now place v within) ∙ ap (slice_get (slice_set now place v)) (sym same) ∙ at_new) in
          let here_all : c ≡ d = same-some c d (sym (at-set all place c (omega arith)) ∙ ap (slice_get (slice_set all place c)) (sym same) ∙ at_all) in
          let P : NodeView M → NodeView M → Committed → Type 0 = λ p q r. HasCommitted (meaning_of p.model) bound cut p q r.done.items r.out.items in
          let one : P a v c = subst (λ p. P p v c) here_old commits in
          let two : P a b c = subst (λ q. P a q c) here_new one in
          subst (λ r. P a b r) here_all two
      by_place number a b d below at_old at_new at_all false h =
          let apart = eqb-false number place h in
          upto.each number a b d (omega arith) at_old (sym (at-other now place number v apart) ∙ at_new) (sym (at-other all place number c apart) ∙ at_all)

  pub receive-none : (parcels : List (List Event)) (nodes : List (NodeView M)) → ReceiveUpto meaning_of 0 parcels nodes nodes
  receive-none parcels nodes = record { many = refl; each = λ number x y es below a b c. absurd (omega arith); rest = λ number from. refl }

  pub receive-more : (place : ℕ) (parcels : List (List Event)) (old now : List (NodeView M)) (es : List Event) (x v : NodeView M) → ReceiveUpto meaning_of place parcels old now → slice_get now place ≡ Some x
      → slice_get parcels place ≡ Some es → Receives meaning_of es x v → ReceiveUpto meaning_of (place + 1) parcels old (slice_set now place v)
  receive-more place parcels old now es x v upto here parcel receives = record {
    many = length-set now place v ∙ upto.many;
    each = λ number a b fs below at_old at_new at_parcel. by_place number a b fs below at_old at_new at_parcel (eqb number place) refl;
    rest = λ number from. at-other now place number v (λ same. omega arith) ∙ upto.rest number (omega arith);
  }
    where
      by_place : (number : ℕ) (a b : NodeView M) (fs : List Event) → number < place + 1 → slice_get old number ≡ Some a → slice_get (slice_set now place v) number ≡ Some b → slice_get parcels number ≡ Some fs → (t : Bool) → eqb number place ≡ t
          → Receives meaning_of fs a b
      by_place number a b fs below at_old at_new at_parcel true h =
          let same = eqb-true number place h in
          let here_old : x ≡ a = same-some x a (sym here ∙ upto.rest place (omega arith) ∙ ap (slice_get old) (sym same) ∙ at_old) in
          let here_new : v ≡ b = same-some v b (sym (at-set now place v (slice_get_within now place x here)) ∙ ap (slice_get (slice_set now place v)) (sym same) ∙ at_new) in
          let here_parcel : es ≡ fs = same-some es fs (sym parcel ∙ ap (slice_get parcels) (sym same) ∙ at_parcel) in
          let P : NodeView M → NodeView M → List Event → Type 0 = λ p q r. Receives meaning_of r p q in
          let one : P a v es = subst (λ p. P p v es) here_old receives in
          let two : P a b es = subst (λ q. P a q es) here_new one in
          subst (λ r. P a b r) here_parcel two
      by_place number a b fs below at_old at_new at_parcel false h =
          let apart = eqb-false number place h in
          upto.each number a b fs (omega arith) at_old (sym (at-other now place number v apart) ∙ at_new) at_parcel
