-- Labels stand for steps of the route or for its two ends.
use Rattle.std.proofs.Common.{◌≡◌, ℕ, ◌+◌, ◌<◌, Ok, arith, ap, subst}
use Rattle.std.specs.Prelude.{codes, Option, Some, None}
use Rattle.toml.specs.Data.{Data, get_member}
use Rattle.text_fields.specs.Fields.{table_of}
use Rattle.text_fields.specs.Names.{Finder, new_name, nothing, taken_in}
use Rattle.text_fields.proofs.Found.{bound, seen}
use Rattle.shop_text.specs.declared.named.NamedStep.{NamedStep}
use Rattle.shop_text.specs.Ranges.{LinksBelow}
use Rattle.shop_text.specs.StepTexts.{label, step, step_form, step_place, route_ends}
use Rattle.shop_text.proofs.LinkLemmas.{below_nothing, below_taken}

pub ends-below : (n : ℕ) → LinksBelow (n + 2) (route_ends n)
ends-below n =
    below_taken (n + 2) (taken_in nothing (codes "out") (step_place n)) (codes "drop") (step_place (n + 1))
    (below_taken (n + 2) nothing (codes "out") (step_place n) (below_nothing (n + 2)) (λ takes. omega arith)) (λ takes. omega arith)

label-below : (at number most : ℕ) (find more : Finder) (d : Option Data) → label at number find d ≡ Ok more → number < most → LinksBelow most find → LinksBelow most more
label-below at number most find more None gives within below =
    let same : find ≡ more = cc in
    subst (LinksBelow most) same below
label-below at number most find more (Some d) gives within below =
    let named = seen (new_name find at d) (λ name. taken_in find name (step_place number)) more gives in
    subst (LinksBelow most) named.2 (below_taken most find named.0 (step_place number) below (λ takes. within))

pub step-below : (at number most : ℕ) (find more : Finder) (d : Data) (s : NamedStep) → step at number find d ≡ Ok (s, more) → number < most → LinksBelow most find
    → LinksBelow most more
unfolding step
step-below at number most find more d s gives within below =
    let table = bound (table_of at d) _ (s, more) gives in
    let labelled = bound (label at number find (get_member (codes "label") table.0)) _ (s, more) table.2 in
    let form = seen (step_form at table.0) (λ (form : NamedStep). (form, labelled.0)) (s, more) labelled.2 in
    let same : labelled.0 ≡ more = ap (λ (p : NamedStep × Finder). p.1) form.2 in
    subst (LinksBelow most) same (label-below at number most find labelled.0 (get_member (codes "label") table.0) labelled.1 within below)
