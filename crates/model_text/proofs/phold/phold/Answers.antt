-- What the parts of the model are, and so what it means under each seed.
use Rattle.std.proofs.Common.{rules, ◌≡◌, ℕ, Ok, ap, sym, ◌∙◌}
use Rattle.std.specs.Prelude.{codes, pos}
use Rattle.toml.specs.Data.{Data, Members, integer, array, no_items}
use Rattle.toml.specs.View.{view, table_view, items_view}
use Rattle.model_core.specs.declared.limits.TheConstants.{MOST_ENTRIES, MOST_OBJECTS}
use Rattle.model_core.specs.Meaning.{Meaning}
use Rattle.phold_model.specs.Meaning.{phold_meaning}
use Rattle.phold_model.specs.Parts.{PholdParts, phold_under}
use Rattle.model_text.specs.Additions.{rank}
use Rattle.text_fields.specs.Checks.{Checked, ◌>>=◌}
use Rattle.text_fields.specs.Fields.{number, table_of, array_of, required, optional, only}
use Rattle.text_fields.specs.LawTexts.{law}
use Rattle.model_text.specs.Phold.{destination, phold, phold_keys}
use Rattle.model_text.specs.Starts.{start_entries}
use Rattle.model_text.proofs.phold.phold.Goals as goal

-- two checks in a row, each of which gives something
joined : {A B : Type 0} (check : Checked A) (next : A → Checked B) (a : A) (b : B) → check ≡ Ok a → next a ≡ Ok b → check >>= next ≡ Ok b
joined check next a b first second = ap (λ c. c >>= next) first ∙ second

pub returns-clause-read : goal.returns-clause-read
unfolding phold
returns-clause-read c =
    let family : PholdParts → Checked (ℕ → Meaning) = λ p. Ok (λ s. phold_meaning (phold_under s p)) in
    let d : Data = view c.args.value.now in
    let ms : Members = table_view c.in_ok-table.table.now in
    let objects_is : required 0 (codes "objects") ms >>= number 0 0 MOST_OBJECTS ≡ Ok c.in_ok-objects.field-0 = rw c.from.ensures at c.in_ok-objects.ensures.read in
    let uniform_is : required 0 (codes "to") ms >>= destination 0 ≡ Ok c.in_ok-uniform.uniform = joined _ _ _ _ c.in_ok-required.ensures c.in_ok-uniform.ensures in
    let only_is : only 0 (phold_keys c.args.format) ms ≡ Ok tt = search rules in
    joined (table_of 0 d) _ ms _ c.in_ok-table.ensures
    (joined (required 0 (codes "objects") ms >>= number 0 0 MOST_OBJECTS) _ _ _ objects_is
    (joined (required 0 (codes "delay") ms >>= law 0) _ _ _ c.in_ok-delay.ensures.read
    (joined (required 0 (codes "to") ms >>= destination 0) _ _ _ uniform_is
    (joined (number 0 0 4 (optional (integer (pos 0)) (codes "each") ms)) _ _ _ c.in_ok-each.ensures.checked
    (joined (array_of 0 MOST_ENTRIES (optional (array no_items) (codes "start") ms)) _ _ _ c.in_ok-entries.ensures.read
    (joined (rank c.args.format 0 ms) _ _ _ c.in_ok-rank.ensures.read
    (joined (only 0 (phold_keys c.args.format) ms) _ _ _ only_is
    (joined (start_entries c.args.format c.in_ok-objects.field-0 (items_view c.in_ok-entries.entries.now)) _ _ _ c.in_ok-start.ensures.read
    (ap family (sym c.in_ok-make.ensures.parts))))))))))
