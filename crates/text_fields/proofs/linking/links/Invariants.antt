use Rattle.std.proofs.Common.{◌≡◌, drop}
use Rattle.text_fields.specs.Directories.{finder}
use Rattle.text_fields.specs.Fields.{each_of}
use Rattle.text_fields.specs.Links.{link, links}
use Rattle.text_fields.proofs.Each.{with_front}
use Rattle.text_fields.proofs.linking.links.Given as goal

abbrev pub invariant-loop-name : goal.invariant-loop-name
invariant-loop-name l =
    with_front l.numbers.items (each_of (λ k. link (finder l.directory) l.item) l.name-index (drop l.name-index l.names)) ≡ links (finder l.directory) l.item l.names
