-- The parts that a model keeps.
use Rattle.phold_model.specs.declared.phold.Phold.{Phold}
use Rattle.phold_model.specs.Parts.{PholdParts, phold_parts}

abbrev pub parts_of : Phold → PholdParts
parts_of p = phold_parts p.seed p.objects p.delay p.uniform p.each p.start.items p.rank
