-- Texts that are written one behind another.
use Rattle.std.proofs.Common.{◌≡◌, ℕ, ◌+◌, ◌≤◌, List, ◌++◌, length, take, sym, ap, ◌∙◌, arith, append_assoc, length-append, length-take-le, take-add, take-take, take_at, drop_at}
use Rattle.std.proofs.lemmas.Slice.{take-put_mid}
use borrow.Rule.Slice.PartMut.{put_mid}
use Rattle.model_core.specs.Writing.{WritesAt}

-- a text behind another one is both
pub WritesAt-next : (a b c : List ℕ) (at mid end : ℕ) (front back : List ℕ) → WritesAt a b at mid front → WritesAt b c mid end back → WritesAt a c at end (front ++ back)
WritesAt-next a b c at mid end front back first next = record {
  ends = omega (arith, first.ends, next.ends, length-append front back);
  written = next.written ∙ ap (λ l. l ++ back) first.written ∙ append_assoc (take at a) front back;
}

-- a part of the bytes was written, and the first ones of it count
pub WritesAt-put_mid : (a ys : List ℕ) (at k n : ℕ) → at + k ≤ length a → length ys ≡ k → n ≤ k → WritesAt a (put_mid at k a ys) at (at + n) (take n ys)
WritesAt-put_mid a ys at k n fits long few =
    let front = length-take-le at a (omega arith) in
    let whole = take-put_mid at k a ys (at + k) (omega arith) (omega arith) in
    record {
      ends = omega (arith, length-take-le n ys (omega arith));
      written = sym (take-take (at + n) (at + k) (put_mid at k a ys) (omega arith)) ∙ ap (take (at + n)) whole ∙ take-add at n (take at a ++ ys)
          ∙ (λ i. take_at (take at a) ys at front i ++ take n (drop_at (take at a) ys at front i));
    }
