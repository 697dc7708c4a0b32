use Rattle.std.proofs.Common.{◌≡◌, ℕ, ◌+◌, List, length, Ok, refl, sym, subst}
use Rattle.std.proofs.lemmas.Result.{IfOk-weaker}
use Rattle.toml.specs.Data.{Data, Members}
use Rattle.toml.specs.View.{table_view, view}
use Rattle.shop_text.specs.declared.named.NamedClass.{NamedClass}
use Rattle.text_fields.specs.Checks.{◌>>=◌}
use Rattle.text_fields.specs.Directories.{finder}
use Rattle.text_fields.specs.Fields.{table_of}
use Rattle.text_fields.specs.Names.{Finder, required_name, taken_in}
use Rattle.shop_text.specs.ClassTexts.{ClassText, Known, class, class_named, class_place}
use Rattle.shop_text.specs.Ranges.{IsClassText, LinksBelow}
use Rattle.shop_text.specs.Views.{class_text}
use Rattle.shop_text.proofs.GivesLemmas.{gives_more}
use Rattle.shop_text.proofs.LinkLemmas.{below_taken}
use Rattle.shop_text.proofs.classes.class.Goals as goal

-- a class, and what is known after it
abbrev and_known : ℕ → Known → List ℕ → ClassText → ClassText × Known
and_known at known name text = (text, record { find = taken_in known.find name (class_place at); times = known.times + length text.class.times })

name-read : (at : ℕ) (known : Known) (d : Data) (ms : Members) (name : List ℕ)
    → table_of at d ≡ Ok ms → required_name known.find at ms ≡ Ok name
    → class at known d ≡ (class_named at known.times name ms >>= (λ text. Ok (and_known at known name text)))
unfolding class
name-read at known d ms name one two = rw (one, two) refl

pub returns-clause-read : goal.returns-clause-read
returns-clause-read c =
    let known : Known = record { find = finder c.args.directory.now; times = c.args.times } in
    let name = c.in_ok-name.name.now in
    let ms = table_view c.in_ok-table.table.now in
    rw (name-read c.args.item known (view c.args.value.now) ms name c.in_ok-table.ensures c.in_ok-name.ensures.read, c.in_ok-name.ensures.taken_in)
    (gives_more class_text (and_known c.args.item known name) c.class_named.result (class_named c.args.item c.args.times name ms) c.class_named.ensures.read)

pub returns-clause-links : goal.returns-clause-links
returns-clause-links c = λ most below.
    let after = subst (λ (more : Finder). LinksBelow most more) (sym c.in_ok-name.ensures.taken_in)
    (below_taken most (finder c.args.directory.now) _ (class_place c.args.item) below (λ takes. cc)) in
    IfOk-weaker c.class_named.result (λ (named : NamedClass). IsClassText (class_text named)) _ (λ named is. after) c.class_named.ensures.in_range
