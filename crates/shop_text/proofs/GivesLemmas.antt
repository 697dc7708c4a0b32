-- What a function returned is what a check gives, also where more is told of it.
use Rattle.std.proofs.Common.{Ok, Err, ap}
use Rattle.std.specs.Prelude.{Result}
use Rattle.model_reader.specs.declared.refusal.Refusal.{Refusal}
use Rattle.model_reader.specs.declared.refusal.Refusal.TheVariants.{At, OutOfMemory}
use Rattle.text_fields.specs.Checks.{Checked, Gives, ◌>>=◌}

pub gives_more : {X Y Z : Type 0} (view : X → Y) (more : Y → Z) (result : Result X Refusal) (check : Checked Y)
    → Gives view result check → Gives (λ x. more (view x)) result (check >>= (λ y. Ok (more y)))
gives_more {Y = Y} view more (Ok x) check gives = ap (λ (c : Checked Y). c >>= (λ y. Ok (more y))) gives
gives_more view more (Err OutOfMemory) check gives = tt
gives_more {Y = Y} view more (Err (At code item)) check gives = ap (λ (c : Checked Y). c >>= (λ y. Ok (more y))) gives
