use Rattle.std.proofs.Common.{◌≡◌, ap}
use Rattle.std.proofs.lemmas.Result.{IfOk-weaker}
use Rattle.text_fields.specs.Names.{Finder}
use Rattle.model_text.specs.declared.named.NamedGate.{NamedGate}
use Rattle.model_text.proofs.gates.gate.Goals as goal

pub returns-then-is_input-clause-taken_in : goal.returns-then-is_input-clause-taken_in
returns-then-is_input-clause-taken_in c =
    IfOk-weaker c.input.result (λ (gate : NamedGate). gate.name ≡ c.in_ok-name-2.name) _
    (λ gate named other. rw (named, c.in_ok-name-2.ensures, c.as_bytes.ensures.value) (ap (λ (find : Finder). find other) c.in_ok-name.ensures.taken_in))
    c.input.ensures.name

pub returns-else-is_input-clause-taken_in : goal.returns-else-is_input-clause-taken_in
returns-else-is_input-clause-taken_in c =
    IfOk-weaker c.fed_gate.result (λ (gate : NamedGate). gate.name ≡ c.in_ok-name-2.name) _
    (λ gate named other. rw (named, c.in_ok-name-2.ensures, c.as_bytes.ensures.value) (ap (λ (find : Finder). find other) c.in_ok-name.ensures.taken_in))
    c.fed_gate.ensures.name
