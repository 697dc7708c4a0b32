-- What a directory finds: what has a name with these bytes.
use Rattle.std.specs.HashMap.{get_by}
use Rattle.std.specs.Str.{bytes_eq}
use Rattle.text_fields.specs.declared.directory.Directory.{Directory}
use Rattle.text_fields.specs.Names.{Finder}

abbrev pub finder : Directory → Finder
finder directory name = get_by (λ key. bytes_eq name key.now) directory.places
