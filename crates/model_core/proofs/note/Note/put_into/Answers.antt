-- One part more stands in the list, which has room for it.
use Rattle.std.proofs.Common.{◌≡◌, ℕ, ◌≤◌, ◌∷◌, [], ◌++◌, sym, refl, ap, ◌∙◌, arith}
use Rattle.std.proofs.lemmas.List.{append-nil}
use Rattle.std.proofs.lemmas.Option.{get_or_from_slice_get, slice_get_within}
use Rattle.model_core.specs.declared.note.Part.{Part}
use Rattle.model_core.proofs.PutLemmas.{all-put, one-more, room-left}
use Rattle.model_core.proofs.note.Note.put_into.Goals as goal

no-more : (all end i : ℕ) → end ≡ all → end ≤ i → all ≤ i
no-more all end i same none = omega arith

pub loop-i-init : goal.loop-i-init
loop-i-init c = record { items = sym (append-nil c.args.parts.now.items); capacity = refl }

pub push_reserved-requires : goal.push_reserved-requires
push_reserved-requires c =
    let l = c.loop-i in
    room-left c.args.parts.now.items l.parts.items c.args.self.now l.i _ _ _ _ l.invariant.items l.parts.ok.0 c.args.parts.now.ok.0 l.invariant.capacity c.requires (slice_get_within c.args.self.now l.i c.at.result c.at.ensures)

pub loop-i-preserved : goal.loop-i-preserved
loop-i-preserved c =
    let l = c.loop-i in
    let told = c.args.self.now in
    let x = c.at.result in
    record {
      items = one-more c.args.parts.now.items l.parts.items c.push_reserved.new.self.items told l.i x (slice_get_within told l.i x c.at.ensures) l.invariant.items
          (c.push_reserved.ensures.items ∙ ap (λ (y : Part). l.parts.items ++ y ∷ []) (sym (get_or_from_slice_get told l.i x x c.at.ensures)));
      capacity = c.push_reserved.ensures.capacity ∙ l.invariant.capacity;
    }

pub returns-clause-items : goal.returns-clause-items
returns-clause-items c = all-put c.args.parts.now.items c.loop-i.parts.items c.args.self.now c.loop-i.i c.loop-i.invariant.items (no-more _ _ _ c.len-i-end.ensures.count c.loop-i-test.false)
