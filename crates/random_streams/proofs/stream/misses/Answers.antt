use Rattle.std.proofs.Common.{◌≡◌, ◌/◌, ◌^◌, ◌∙◌, ltb, min, map, ap, arith, w32}
use Rattle.std.specs.Int.Count.{count_trailing_zeros}
use Rattle.std.specs.Simd.Lanes.{mask_l}
use Rattle.std.proofs.lemmas.Bool.{ltb-true, ltb-false}
use Rattle.std.proofs.lemmas.Simd.{bitmask_splat}
use Rattle.random_streams.proofs.MaskLemmas.{IsFirstPass, first_pass}
use Rattle.random_streams.proofs.stream.misses.Goals as goal
use Rattle.random_streams.proofs.stream.misses.Goals.{After-min}

-- the first word below the bound
found : (c : After-min) → IsFirstPass (λ word. ltb word c.args.bound) c.args.words.now c.args.from c.args.count c.min.result
found c =
    let words = c.args.words.now in
    let mask = bitmask_splat w32 ltb words 16 c.args.bound c.told-words (omega arith) in
    let result : c.min.result ≡ min (count_trailing_zeros 64 (mask_l (map (λ word. ltb word c.args.bound) words) / 2 ^ c.args.from)) c.args.count
    = c.min.ensures ∙ ap (λ bits. min (count_trailing_zeros 64 (bits / 2 ^ c.args.from)) c.args.count) mask in
    rw result (first_pass (λ word. ltb word c.args.bound) words c.args.from c.args.count (omega arith) (omega arith))

pub returns-clause-before : goal.returns-clause-before
returns-clause-before c k h = ltb-false _ _ ((found c).fails k h)

pub returns-clause-at : goal.returns-clause-at
returns-clause-at c h = ltb-true _ _ ((found c).stops h)
