use Rattle.std.proofs.Common.{◌≡◌, ◌∙◌, ℕ, length, ap, sym, refl, arith, nat_eq, cond, eq-eqb, ne_eqb}
use Rattle.std.specs.Prelude.{Some, None, Option}
use Rattle.std.proofs.lemmas.Option.{slice_get-get_or}
use Rattle.event_key.specs.declared.key.Key.{Key}
use Rattle.world_spec.specs.Answer.{CutData, cut_of}
use Rattle.cycle_core.proofs.CutLemmas.{cut-short, cut-whole, cut-fault}
use Rattle.cycle_core.proofs.cutting.cut_keys.Goals as goal
use Rattle.cycle_core.proofs.cutting.cut_keys.Goals.{then-left-many-2, else-left-many-2}

pub returns-then-left-many : goal.returns-then-left-many
returns-then-left-many c = cut-short c.args.left c.args.keys.now _ c.args.fault (slice_get-get_or c.args.keys.now c.args.left _ (omega arith))

pub returns-in-None : goal.returns-in-None
returns-in-None c = cut-whole c.args.left c.args.keys.now (omega arith) ∙ ap (cut_of c.args.left c.args.keys.now) (sym c.in-None.is)

pub returns-after-left-many-2 : goal.returns-after-left-many-2
returns-after-left-many-2 c =
    let left = c.args.left in
    let keys = c.args.keys.now in
    let met : Key × ℕ = (c.in-Some.key, c.in-Some.field-0-1) in
    let is : c.if-left-many-2.result ≡ cond (nat_eq left (length keys)) None (Some met) =
    elim c.if-left-many-2.branch [
      | then-left-many-2 w ↦ w.result-is ∙ ap (λ b. cond b None (Some met)) (sym (eq-eqb left (length keys) w.if-left-many-2.true))
      | else-left-many-2 w ↦ w.result-is ∙ c.in-Some.is ∙ ap (λ b. cond b None (Some met)) (sym (ne_eqb left (length keys) w.if-left-many-2.false))
    ] in
    let F : Option (Key × ℕ) → CutData = λ f. record { below = Some c.in-Some.key; fault = f; limited = nat_eq left (length keys) } in
    ap F is ∙ cut-fault left keys met (nat_eq left (length keys)) (omega arith) refl ∙ ap (cut_of left keys) (sym c.in-Some.is)
