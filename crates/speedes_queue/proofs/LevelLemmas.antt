-- Levels of sorted runs.
use Rattle.std.proofs.Common.{◌≡◌, ℕ, zero, suc, ◌+◌, ◌-◌, ◌*◌, ◌/◌, ◌<◌, ◌≤◌, ◌^◌, List, [], length, inl, inr, refl, sym, ap, ◌∙◌, subst, arith, pow-suc, pow-add, pow_mono}
use Rattle.std.specs.Prelude.{slice_set, slice_index_or}
use Rattle.std.proofs.lemmas.Bool.{cases_eq}
use Rattle.std.proofs.lemmas.List.{get_or-set_same}
use Rattle.model_core.specs.declared.event.Event.{Event}
use Rattle.speedes_queue.specs.Levels.{IsOfLevel, IsFirstSlotFor, IsSlotFor}

-- powers of eight are powers of two
eights : (k : ℕ) → 8 ^ k ≡ 2 ^ (3 * k)
eights zero = refl
eights (suc k) = pow-suc 8 k ∙ ap (λ x. x * 8) (eights k) ∙ sym (pow-add 2 (3 * k) 3) ∙ ap (λ n. 2 ^ n) (omega arith)

-- the level of a length, by the greatest power of two that it reaches
pub level_of : (len log level : ℕ) → 2 ^ log ≤ len → len < 2 * 2 ^ log → level ≡ log / 3 - 1 → IsOfLevel len level
level_of len log level low high is = record {
  reaches = elim (cases_eq level 0) [
    | inl none ↦ inl none
    | inr some ↦ inr (
        let mono = pow_mono {i = 3 * (level + 1)} {j = log} (omega arith) in
        let as_two = eights (level + 1) in
        omega arith)
  ];
  below = (
      let mono = pow_mono {i = suc log} {j = 3 * (level + 2)} (omega arith) in
      let twice = pow-suc 2 log in
      let as_two = eights (level + 2) in
      omega arith);
}

-- a run that was put into a slot of its level
pub in_level : (run : List Event) (slots : List (List Event)) (slot first len : ℕ) → slot < length slots → len ≡ length run → IsFirstSlotFor len first → first ≤ slot → slot < first + 3
    → IsSlotFor (length (slice_index_or (slice_set slots slot run) slot [])) slot
in_level run slots slot first len lt is here from upto =
    let P : ℕ → Type 0 = λ n. IsFirstSlotFor n first in
    record {
      first = first;
      is_first = subst P (is ∙ ap length (sym (get_or-set_same slots slot run [] lt))) here;
      from = from;
      upto = upto;
    }
