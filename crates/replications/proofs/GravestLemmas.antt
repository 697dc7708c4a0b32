-- The gravest stop, with one run more.
use Rattle.std.proofs.Common.{◌≡◌, List, [], ◌∷◌, ◌++◌, refl, ap, ◌∙◌}
use Rattle.sim_spec.specs.declared.stop.Stop.{Stop}
use Rattle.sim_spec.specs.declared.stop.Stop.TheVariants.{End, Limit, Fault}
use Rattle.replications.specs.Studies.{graver, gravest}

graver-end : (stop : Stop) → graver stop End ≡ stop
graver-end End = refl
graver-end Limit = refl
graver-end (Fault key code) = refl

graver-assoc : (a b c : Stop) → graver a (graver b c) ≡ graver (graver a b) c
graver-assoc End b c = refl
graver-assoc Limit End c = refl
graver-assoc Limit Limit End = refl
graver-assoc Limit Limit Limit = refl
graver-assoc Limit Limit (Fault key code) = refl
graver-assoc Limit (Fault key code) c = refl
graver-assoc (Fault key code) b c = refl

pub gravest-more : (stops : List Stop) (stop : Stop) → gravest (stops ++ stop ∷ []) ≡ graver (gravest stops) stop
unfolding gravest
gravest-more [] stop = graver-end stop
gravest-more (first ∷ rest) stop = ap (graver first) (gravest-more rest stop) ∙ graver-assoc first (gravest rest) stop
