-- The parts that the three passes give are those of a network.
use Rattle.std.proofs.Common.{◌≡◌, ◌≢◌, ℕ, suc, ◌+◌, ◌<◌, ◌≤◌, ◌^◌, Bool, true, false, cond, not, List, [], ◌∷◌, length, map, get_or, Option, Some, None, Ok, refl, sym, ap, subst, ◌∙◌, arith}
use Rattle.std.specs.Prelude.{IsTrue, ◌||◌, All, AllPairs}
use Rattle.std.specs.Str.{bytes_eq}
use Rattle.std.proofs.lemmas.Bool.Decides.{nat_tests}
use Rattle.std.proofs.lemmas.List.{length-map, get_or-map}
use Rattle.std.proofs.lemmas.List.Elements.{All-nil, All-cons, All-head, All-tail, All-weaker}
use Rattle.model_core.specs.declared.entry.Entry.{Entry}
use Rattle.queue_models.specs.declared.kind.KindOver.{KindOver}
use Rattle.queue_models.specs.declared.kind.KindOver.TheVariants.{Source, Station, Delay, Router, Sink}
use Rattle.queue_models.specs.Kinds.{is_source, is_station, IsKind}
use Rattle.queue_models.specs.Objects.{Item, network_of, no_object}
use Rattle.queue_models.specs.Parts.{IsName, IsLink, IsObject, IsJob, IsNetwork}
use Rattle.text_fields.specs.declared.directory.Place.{Place}
use Rattle.text_fields.specs.Fields.{each_of}
use Rattle.model_text.specs.Linked.{IsLinkedJob}
use Rattle.model_text.specs.Kinds.{linked_kind}
use Rattle.model_text.specs.Objects.{linked_item, linked_from}
use Rattle.text_fields.specs.Links.{link, links, IsFound}
use Rattle.text_fields.proofs.Found.{bound, seen, placed, link-found, links-found}
use Rattle.model_text.specs.NamedItems.{AnyName, IsNamedItem}
use Rattle.text_fields.specs.Names.{is_name, Finder, place_from}
use Rattle.model_text.specs.Names.{NamedItem, NamedKind, place_of, place_in}

-- whether each object is a source
sources : List Item → List Bool
sources objects = map (λ object. is_source object.kind) objects

named_sources : List NamedItem → List Bool
named_sources named = map (λ object. is_source object.kind) named

-- what pass two keeps of what an object does, where each link that it finds is such
record IsLinked (Takes : ℕ → Type 0) (named : NamedKind) (kind : KindOver ℕ) : Type 0 where
  source : is_source kind ≡ is_source named
  station : is_station kind ≡ is_station named
  in_range : IsKind AnyName named → IsKind Takes kind

kind-linked : (Takes : ℕ → Type 0) (find : Finder) (takes : (n : ℕ) → IsFound find n → Takes n) (at : ℕ) (named : NamedKind) (kind : KindOver ℕ)
    → linked_kind find at named ≡ Ok kind → IsLinked Takes named kind
kind-linked Takes find takes at (Source s) kind gives =
    let one = seen (link find at s.next) _ kind gives in
    subst (IsLinked Takes (Source s)) one.2
    (record { source = refl; station = refl; in_range = λ fine. (record { starts = fine.0.starts; law = fine.0.law; some = fine.0.some; few = fine.0.few }, takes one.0 (link-found find at s.next one.0 one.1)) })
kind-linked Takes find takes at (Station s) kind gives =
    let one = seen (link find at s.next) _ kind gives in
    subst (IsLinked Takes (Station s)) one.2
    (record { source = refl; station = refl; in_range = λ fine. (record { some = fine.0.some; few = fine.0.few; law = fine.0.law; short = fine.0.short }, takes one.0 (link-found find at s.next one.0 one.1)) })
kind-linked Takes find takes at (Delay d) kind gives =
    let one = seen (link find at d.next) _ kind gives in
    subst (IsLinked Takes (Delay d)) one.2
    (record { source = refl; station = refl; in_range = λ fine. (fine.0, takes one.0 (link-found find at d.next one.0 one.1)) })
kind-linked Takes find takes at (Router r) kind gives =
    let one = seen (links find at r.next) _ kind gives in
    let found = links-found find at 0 r.next one.0 one.1 in
    subst (IsLinked Takes (Router r)) one.2
    (record { source = refl; station = refl; in_range = λ fine. (fine.0 ∙ found.1, fine.1, All-weaker (IsFound find) Takes takes one.0 found.0) })
kind-linked Takes find takes at (Sink sink) kind gives =
    let one : Sink sink ≡ kind = cc in
    subst (IsLinked Takes (Sink sink)) one (record { source = refl; station = refl; in_range = λ fine. fine })

name-lawful : (name : List ℕ) → IsTrue (is_name name) → IsName name
name-lawful name test = record { some = grind (arith, nat_tests); short = grind (arith, nat_tests); bytes = grind (arith, nat_tests) }

-- pass two keeps the names, and which objects are sources
linked-names : (find : Finder) (k : ℕ) (named : List NamedItem) (objects : List Item) → each_of (linked_item find) k named ≡ Ok objects
    → map (λ object. object.name) objects ≡ map (λ object. object.name) named
linked-names find k [] objects gives = let none : [] ≡ objects = cc in sym (ap (λ (os : List Item). map (λ object. object.name) os) none)
linked-names find k (o ∷ named) objects gives =
    let first = bound (linked_item find k o) _ objects gives in
    let others = seen (each_of (linked_item find) (k + 1) named) (λ os. first.0 ∷ os) objects first.2 in
    let kind = seen (linked_kind find k o.kind) _ first.0 first.1 in
    sym (ap (λ (os : List Item). map (λ object. object.name) os) others.2)
    ∙ ap (λ (name : List ℕ). name ∷ map (λ (object : Item). object.name) others.0) (sym (ap (λ (object : Item). object.name) kind.2))
    ∙ ap (λ (names : List (List ℕ)). o.name ∷ names) (linked-names find (k + 1) named others.0 others.1)

linked-sources : (find : Finder) (k : ℕ) (named : List NamedItem) (objects : List Item) → each_of (linked_item find) k named ≡ Ok objects
    → sources objects ≡ named_sources named
unfolding sources named_sources
linked-sources find k [] objects gives = let none : [] ≡ objects = cc in sym (ap (λ (os : List Item). sources os) none)
linked-sources find k (o ∷ named) objects gives =
    let first = bound (linked_item find k o) _ objects gives in
    let others = seen (each_of (linked_item find) (k + 1) named) (λ os. first.0 ∷ os) objects first.2 in
    let kind = seen (linked_kind find k o.kind) _ first.0 first.1 in
    let same : is_source first.0.kind ≡ is_source o.kind = sym (ap (λ (object : Item). is_source object.kind) kind.2) ∙ (kind-linked (IsFound find) find (λ n found. found) k o.kind kind.0 kind.1).source in
    sym (ap (λ (os : List Item). sources os) others.2)
    ∙ ap (λ (b : Bool). b ∷ sources others.0) same
    ∙ ap (λ (bs : List Bool). is_source o.kind ∷ bs) (linked-sources find (k + 1) named others.0 others.1)

linked-lawful : (all : List Item) (find : Finder) (links_are : (n : ℕ) → IsFound find n → IsLink all n) (k : ℕ) (named : List NamedItem) (objects : List Item)
    → All IsNamedItem named → each_of (linked_item find) k named ≡ Ok objects → All (IsObject all) objects
linked-lawful all find links_are k [] objects fine gives = let none : [] ≡ objects = cc in subst (All (IsObject all)) none (All-nil (IsObject all))
linked-lawful all find links_are k (o ∷ named) objects fine gives =
    let first = bound (linked_item find k o) _ objects gives in
    let others = seen (each_of (linked_item find) (k + 1) named) (λ os. first.0 ∷ os) objects first.2 in
    let kind = seen (linked_kind find k o.kind) _ first.0 first.1 in
    let here = All-head IsNamedItem o named fine in
    let linked = kind-linked (IsLink all) find links_are k o.kind kind.0 kind.1 in
    let lawful : IsObject all first.0 =
    subst (IsObject all) kind.2 (record {
      name = name-lawful o.name here.named;
      kind = linked.in_range here.in_range;
      rank = here.rank;
      traced = subst (λ station. IsTrue (not o.trace || station)) (sym linked.station) here.traced;
    }) in
    subst (All (IsObject all)) others.2
    (All-cons (IsObject all) first.0 others.0 lawful (linked-lawful all find links_are (k + 1) named others.0 (All-tail IsNamedItem o named fine) others.1))

-- where a name stands for an object to which jobs go, that object is no source
abbrev IsNoSourceAt : List NamedItem → ℕ → ℕ → Type 0
IsNoSourceAt named k n = (i : ℕ) × (n ≡ k + i) × (i < length named) × (get_or (named_sources named) i false ≡ false)

stands_first : (o : NamedItem) (named : List NamedItem) (k n : ℕ) (others : Option Place) (same : Bool) → cond same (Some (place_of k o)) others ≡ Some (placed n true)
    → (others ≡ Some (placed n true) → IsNoSourceAt named (k + 1) n) → IsNoSourceAt (o ∷ named) k n
unfolding named_sources
stands_first o named k n others true found later =
    let same : place_of k o ≡ placed n true = cc in
    let number : k ≡ n = ap (λ (place : Place). place.number) same in
    let takes : not (is_source o.kind) ≡ true = ap (λ (place : Place). place.takes_links) same in
    (0, omega arith, omega arith, grind (arith, takes))
stands_first o named k n others false found later =
    let rest = later found in
    let number : n ≡ k + 1 + rest.0 = rest.1 in
    let within : rest.0 < length named = rest.2 in
    (suc rest.0, omega arith, omega arith, rest.3)

stands_at : (named : List NamedItem) (k n : ℕ) (name : List ℕ) → place_from (λ object. object.name) place_of k named name ≡ Some (placed n true) → IsNoSourceAt named k n
stands_at [] k n name found = cc
stands_at (o ∷ named) k n name found =
    stands_first o named k n (place_from (λ (object : NamedItem). object.name) place_of (k + 1) named name) (bytes_eq name o.name) found (stands_at named (k + 1) n name)

same-length : (named : List NamedItem) (objects : List Item) → sources objects ≡ named_sources named → length objects ≡ length named
unfolding sources named_sources
same-length named objects same = sym (length-map objects (λ (object : Item). is_source object.kind)) ∙ ap length same ∙ length-map named (λ (object : NamedItem). is_source object.kind)

found-link : (named : List NamedItem) (objects : List Item) → sources objects ≡ named_sources named → (n : ℕ) → IsFound (place_in named) n → IsLink objects n
unfolding sources
found-link named objects same n found =
    let stands = stands_at named 0 n found.0 found.1 in
    let at : n ≡ stands.0 = omega (arith, stands.1) in
    let within : n < length objects = omega (arith, stands.2, same-length named objects same) in
    record {
      exists = within;
      takes = sym (get_or-map (λ (object : Item). is_source object.kind) objects n no_object false within)
          ∙ ap (λ (bs : List Bool). get_or bs n false) same ∙ ap (λ m. get_or (named_sources named) m false) at ∙ stands.3;
    }

name_at : (named : List NamedItem) (objects : List Item) → map (λ (object : Item). object.name) objects ≡ map (λ (object : NamedItem). object.name) named
    → (i : ℕ) (d : Item) (e : NamedItem) → i < length objects → i < length named → (get_or objects i d).name ≡ (get_or named i e).name
name_at named objects same i d e within named_within =
    sym (get_or-map (λ (object : Item). object.name) objects i d [] within)
    ∙ ap (λ (names : List (List ℕ)). get_or names i []) same
    ∙ get_or-map (λ (object : NamedItem). object.name) named i e [] named_within

names-differ : (named : List NamedItem) (objects : List Item) → map (λ (object : Item). object.name) objects ≡ map (λ (object : NamedItem). object.name) named
    → length objects ≡ length named → AllPairs (λ (a b : NamedItem). a.name ≢ b.name) named → AllPairs (λ (a b : Item). a.name ≢ b.name) objects
names-differ named objects same long apart i j d before within = λ equal.
    let e : NamedItem = record { name = []; kind = Sink (record { due = None }); rank = 0; quiet = false; trace = false } in
    let first = name_at named objects same i d e (omega arith) (omega arith) in
    let second = name_at named objects same j d e within (omega arith) in
    apart i j e before (omega arith) (sym first ∙ equal ∙ second)

-- the parts are lawful where the three passes accept them
pub network-lawful : (seed : ℕ) (named : List NamedItem) (find : Finder) (objects : List Item) (jobs : List Entry)
    → seed < 2 ^ 63 → length named ≤ 65536 → length jobs ≤ 65536 → find ≡ place_in named
    → All IsNamedItem named → AllPairs (λ (a b : NamedItem). a.name ≢ b.name) named
    → linked_from find 1 named ≡ Ok objects → All (IsLinkedJob find) jobs → IsNetwork (network_of seed objects jobs)
network-lawful seed named find objects jobs low few_objects few_jobs finds fine apart gives linked =
    let same = linked-sources find 1 named objects gives in
    let long = same-length named objects same in
    let links_are : (n : ℕ) → IsFound find n → IsLink objects n = λ n found. found-link named objects same n (subst (λ (f : Finder). IsFound f n) finds found) in
    record {
      seed = low;
      few_objects = omega (arith, long);
      few_jobs = few_jobs;
      names = names-differ named objects (linked-names find 1 named objects gives) long apart;
      objects = linked-lawful objects find links_are 1 named objects fine gives;
      jobs = All-weaker (IsLinkedJob find) (IsJob objects) (λ job known. record { time = known.time; at = links_are job.at known.at; rank = known.rank }) jobs linked;
    }
