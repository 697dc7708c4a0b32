-- A commit and a receipt that change nothing.
use Rattle.std.proofs.Common.{◌≡◌, ℕ, ◌+◌, ◌<◌, ◌%◌, ◌^◌, false, List, [], length, Option, sym, ap, ◌∙◌, subst, arith}
use Rattle.std.specs.Prelude.{IfSome}
use Rattle.std.proofs.lemmas.List.{length-map, nil_from_length}
use Rattle.event_key.specs.declared.key.Key.{Key}
use Rattle.key_order.specs.Due.{is_due}
use Rattle.model_core.specs.Meaning.{Meaning}
use Rattle.sim_spec.specs.declared.terms.Terms.{Terms}
use Rattle.node_core.specs.Calls.{CommitsNothing, HasCommitted, HasReceived, ReceivesNothing}
use Rattle.node_core.specs.Homes.{HomesView}
use Rattle.node_core.specs.Marks.{MarkView, first_mark}
use Rattle.node_core.specs.Nodes.{Counts}
use Rattle.node_core.specs.Rows.{keys_of}
use Rattle.node_core.specs.Sound.{IsNode, IsStore}
use Rattle.node_core.specs.Stores.{StoreView}
use Rattle.node_core.proofs.CommitNode.{IsInside, committed-whole}
use Rattle.node_core.proofs.CommitStore.{handed-none}
use Rattle.node_core.proofs.NodeViews.{node_of}
use Rattle.node_core.proofs.ReceiptFacts.{can-receive, received-whole}
use Rattle.node_core.proofs.ReceiveLoop.{arrive-start}

-- a count that nothing is added to
count-stays : (n : ℕ) → n < 2 ^ 64 → (n + 0) % 2 ^ 64 ≡ n
count-stays n small = grind arith

-- no mark is due if there is none
none-due : (horizon : ℕ) (cut : Option Key) (marks : List MarkView) → keys_of marks ≡ [] → IfSome (first_mark marks) (λ key. is_due horizon cut key ≡ false)
unfolding first_mark
none-due horizon cut marks none =
    let P : List MarkView → Type 0 = λ ks. IfSome (first_mark ks) (λ key. is_due horizon cut key ≡ false) in
    subst P (sym (nil_from_length marks (sym (length-map marks (λ (k : MarkView). k.key)) ∙ ap length none))) tt

module _ {M : Type 0} (m : Meaning) (model : M) (t : Terms) (number : ℕ) (homes : HomesView) (s : StoreView) (work met : ℕ) (counts : Counts) where
  pub commits-nothing : IsInside m t number homes s counts → counts.committed < 2 ^ 64 → CommitsNothing m (node_of model t number homes s work met counts)
  commits-nothing is small none horizon cut done c blank =
      let handed = handed-none homes horizon cut s c.done.items c.out.items blank.told blank.long blank.empty (none-due horizon cut s.marks none) in
      let H : ℕ → Type 0 = λ k. HasCommitted m horizon cut (node_of model t number homes s work met counts) (node_of model t number homes s work met (record counts { committed = k })) c.done.items c.out.items in
      subst H (count-stays counts.committed small)
      (committed-whole m t number homes s s counts is horizon cut c.done.items c.out.items handed is.store done model work met 0 (sym (ap length blank.told)))

  pub receives-nothing : IsNode m t number homes s.logs s.marks counts → IsStore s.logs s.marks s.waiting → counts.undone < 2 ^ 64 → ReceivesNothing m (node_of model t number homes s work met counts)
  receives-nothing node store small keys =
      let long = length-map s.marks (λ (k : MarkView). k.key) in
      let few = store.few in
      let can = can-receive m t number homes s counts [] node store (omega arith) tt keys (omega arith) in
      let H : ℕ → Type 0 = λ k. HasReceived m [] (node_of model t number homes s work met counts) (node_of model t number homes s work met (record counts { undone = k })) 0 in
      subst H (count-stays counts.undone small) (received-whole m model t number homes s s work met counts [] 0 node store store can (arrive-start s))
