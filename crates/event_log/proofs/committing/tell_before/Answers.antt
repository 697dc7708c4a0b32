-- The next one comes before the key, or none from there on does.
use Rattle.std.proofs.Common.{◌≡◌, suc, ◌+◌, ◌++◌, true, false, List, [], ◌∷◌, take, drop, add-one, refl, sym, ap, ◌∙◌, subst, arith, append_assoc, length-take}
use Rattle.std.proofs.lemmas.List.{append-nil, drop_all, take-append-drop}
use Rattle.std.specs.List.{AllByRecursion as Each}
use Rattle.event_key.specs.declared.key.Key.{Key}
use Rattle.event_key.specs.Keys.{key_lt}
use Rattle.key_order.specs.Ascending.{Ascends}
use Rattle.key_order.proofs.AscendingLemmas.{Ascends-back}
use Rattle.key_order.proofs.EachLemmas.{Each-append}
use Rattle.model_core.specs.declared.note.Note.{Note}
use Rattle.event_log.specs.Committing.{told_key}
use Rattle.event_log.proofs.TellFacts.{next-of, none-before}
use Rattle.event_log.proofs.committing.tell_before.Goals as goal

pub loop-place-init : goal.loop-place-init
loop-place-init c = record { before = []; split = refl; told_is = sym (append-nil c.args.told.now.items); all_before = tt; room = refl }

pub loop-place-preserved : goal.loop-place-preserved
loop-place-preserved c =
    let l = c.loop-place.invariant in
    let i = c.loop-place.place in
    let records = take c.args.count c.args.news.now.items in
    let t : Key × Note = (c.at.result.0.now, c.at.result.1.now) in
    let next = next-of c.args.count i c.args.news.now.items t (omega arith) c.at.ensures.told in
    record {
      before = l.before ++ t ∷ [];
      split = l.split ∙ ap (λ ts. l.before ++ ts) (next ∙ ap (λ n. t ∷ drop n records) (sym (add-one i))) ∙ sym (append_assoc l.before (t ∷ []) (drop (i + 1) records));
      told_is = c.push_from.ensures.items t c.at.ensures.told ∙ ap (λ ts. ts ++ t ∷ []) l.told_is ∙ append_assoc c.args.told.now.items l.before (t ∷ []);
      all_before = Each-append (λ (x : Key × Note). key_lt (told_key x) c.args.key.now ≡ true) l.before (t ∷ []) l.all_before (sym c.is_before.ensures ∙ c.if-not-is_before.false, tt);
      room = omega (arith, l.room, c.push_from.ensures.room);
    }

pub returns-then-not-is_before-clause-told : goal.returns-then-not-is_before-clause-told
returns-then-not-is_before-clause-told c =
    let l = c.loop-place.invariant in
    let i = c.loop-place.place in
    let records = take c.args.count c.args.news.now.items in
    let t : Key × Note = (c.at.result.0.now, c.at.result.1.now) in
    let next = next-of c.args.count i c.args.news.now.items t (omega arith) c.at.ensures.told in
    let up = Ascends-back told_key (take i records) (drop i records) (subst (Ascends told_key) (sym (take-append-drop i records)) c.requires.ordered) in
    let N : List (Key × Note) → Type 0 = Each (λ (x : Key × Note). key_lt (told_key x) c.args.key.now ≡ false) in
    record {
      before = l.before;
      split = l.split;
      told_is = l.told_is;
      all_before = l.all_before;
      none_left = subst N (sym next) (none-before c.args.key.now t (drop (suc i) records) (subst (Ascends told_key) next up) (sym c.is_before.ensures ∙ c.if-not-is_before.true));
    }

pub returns-clause-told : goal.returns-clause-told
returns-clause-told c =
    let l = c.loop-place.invariant in
    let records = take c.args.count c.args.news.now.items in
    let end : c.loop-place.place ≡ c.args.count = omega arith in
    let long = length-take c.args.count c.args.news.now.items in
    let N : List (Key × Note) → Type 0 = Each (λ (x : Key × Note). key_lt (told_key x) c.args.key.now ≡ false) in
    record {
      before = l.before;
      split = l.split ∙ ap (λ n. l.before ++ drop n records) end;
      told_is = l.told_is;
      all_before = l.all_before;
      none_left = subst N (sym (drop_all c.args.count records (omega arith))) tt;
    }
