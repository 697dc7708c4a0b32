use Rattle.std.proofs.Common.{◌≡◌, ◌∙◌, [], length, refl, sym, ap, subst, get_or}
use Rattle.std.proofs.lemmas.Option.{slice_get-get_or}
use Rattle.std.specs.Prelude.{slice_index_or}
use Rattle.node_core.specs.Blank.{AreEmpty}
use Rattle.cycle_core.specs.Sendings.{SendsTo}
use Rattle.cycle_core.proofs.GivenLemmas.{sent-only}
use Rattle.cycle_core.proofs.SentLemmas.{sent_to-only}
use Rattle.cycle_core.proofs.parcels.hand_over.Goals as goal

pub returns-clause-many : goal.returns-clause-many
returns-clause-many c =
    let all = c.args.committed.now in
    let only = c.args.only in
    let one = get_or all only c.index-committed-only.result in
    let at = slice_get-get_or all only c.index-committed-only.result c.requires.only.within in
    ap (λ v. length v.items) c.swap.ensures.y_after ∙ (c.requires.sends only one at).long

pub returns-clause-parcels : goal.returns-clause-parcels
returns-clause-parcels c to =
    let all = c.args.committed.now in
    let only = c.args.only in
    let one = get_or all only c.index-committed-only.result in
    let at = slice_get-get_or all only c.index-committed-only.result c.requires.only.within in
    ap (λ v. slice_index_or v.items to []) c.swap.ensures.y_after ∙ sym (sent_to-only to all only one at (λ k d apart at_d. (c.requires.sends k d at_d).idle (c.requires.only.others k d apart at_d) to))

pub returns-clause-sent : goal.returns-clause-sent
returns-clause-sent c =
    let all = c.args.committed.now in
    let only = c.args.only in
    let one = get_or all only c.index-committed-only.result in
    let at = slice_get-get_or all only c.index-committed-only.result c.requires.only.within in
    let long = (c.requires.sends only one at).long in
    let gone : c.swap.new.x.items ≡ c.args.parcels.now.items = ap (λ v. v.items) c.swap.ensures.x_after in
    sent-only all only one (record one { out = c.swap.new.x }) at c.requires.only (λ k x at_x. subst (λ n. SendsTo n x) (sym long) (c.requires.sends k x at_x))
    (refl, subst (λ es. AreEmpty (length one.out.items) es) (sym gone) (subst (λ n. AreEmpty n c.args.parcels.now.items) (sym long) c.requires.empty))
