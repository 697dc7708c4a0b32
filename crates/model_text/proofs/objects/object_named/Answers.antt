use Rattle.std.proofs.Common.{refl}
use Rattle.model_text.specs.Objects.{object_named}
use Rattle.model_text.proofs.objects.object_named.Goals as goal

pub returns-clause-read : goal.returns-clause-read
unfolding object_named
returns-clause-read c = rw (c.in_ok-word.ensures, c.in_ok-kind.ensures.read, c.in_ok-fields.ensures.read, c.in_ok-name.ensures, c.as_bytes.ensures.value) refl

pub returns-clause-in_range : goal.returns-clause-in_range
returns-clause-in_range c = record {
  named = rw (c.in_ok-name.ensures, c.as_bytes.ensures.value) c.requires;
  in_range = c.in_ok-kind.ensures.in_range;
  rank = c.in_ok-fields.ensures.rank;
  traced = c.in_ok-fields.ensures.traced;
}
