use Rattle.std.proofs.Common.{◌≡◌, Bool, true, false, List, ℕ, Some, if◌then◌else◌, refl, ap, sym, ◌∙◌}
use Rattle.std.specs.Str.{bytes_eq}
use Rattle.queue_models.specs.Kinds.{is_source}
use Rattle.text_fields.specs.declared.directory.Place.{Place}
use Rattle.text_fields.specs.Directories.{finder}
use Rattle.text_fields.specs.Names.{Finder, taken_in}
use Rattle.model_text.specs.Objects.{object}
use Rattle.model_text.proofs.objects.object.Goals as goal

pub returns-clause-read : goal.returns-clause-read
unfolding object
returns-clause-read c = rw (c.in_ok-table.ensures, c.in_ok-name.ensures.read, c.in_ok-object.ensures.read) refl

pub returns-then-not-is_source-clause-taken_in : goal.returns-then-not-is_source-clause-taken_in
returns-then-not-is_source-clause-taken_in c = λ other.
    let links : is_source c.in_ok-object.object.kind ≡ false = sym c.is_source.ensures ∙ c.if-not-is_source.true in
    rw (c.in_ok-object.ensures.name, links) (ap (λ (find : Finder). find other) c.in_ok-name.ensures.taken_in)

again : {A : Type 0} (test : Bool) (later first rest : A) → (if test then later else (if test then first else rest)) ≡ (if test then later else rest)
again true later first rest = refl
again false later first rest = refl

-- what is taken in under a name that is taken has that name from then on
taken_again : (find more most : Finder) (name bytes : List ℕ) (first later : Place)
    → more ≡ taken_in find name first → most ≡ taken_in more bytes later → bytes ≡ name → (other : List ℕ) → most other ≡ taken_in find name later other
taken_again find more most name bytes first later one two same other = rw (two, one, same) (again (bytes_eq name other) (Some later) (Some first) (find other))

pub returns-clause-taken_in : goal.returns-clause-taken_in
returns-clause-taken_in c = λ other.
    let source : is_source c.in_ok-object.object.kind ≡ true = sym c.is_source.ensures ∙ c.if-not-is_source.false in
    rw (c.in_ok-object.ensures.name, source)
    (taken_again (finder c.args.directory.now) _ _ c.in_ok-name.name.now _ _ _ c.in_ok-name.ensures.taken_in c.in_ok-add.ensures.taken_in c.as_bytes.ensures.value other)
