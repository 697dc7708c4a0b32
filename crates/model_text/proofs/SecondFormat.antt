-- What the walk accepts in the first format it accepts in the second, with the same result.
use Rattle.std.proofs.Common.{◌≡◌, ℕ, Ordering, Less, Equal, Greater, nat_cmp, is_eq, ◌+◌, ◌-◌, Bool, true, false, not, List, [], ◌∷◌, ◌++◌, length, Option, Some, None, Ok, refl, sym, ap, subst, ◌∙◌}
use Rattle.std.specs.Prelude.{pos, ◌&&◌, codes, if◌then◌else◌}
use Rattle.std.specs.List.{list_any}
use Rattle.std.specs.Str.{bytes_eq}
use Rattle.std.specs.Ordering.{match_ordering}
use Rattle.std.specs.Cmp.Lexicographic.{slice_cmp, bytes_decides}
use Rattle.std.proofs.lemmas.Bool.{and_parts, cond-false, cond-true, or_left}
use Rattle.std.proofs.lemmas.List.Folds.{list_any-append}
use Rattle.std.proofs.lemmas.Map.Text.{is_eq-slice_cmp}
use Rattle.toml.specs.Data.{Data, integer, boolean, array, Items, no_items, item, Members, no_members, member, get_member}
use Rattle.event_key.specs.declared.key.TheConstants.{MOST_RANK}
use Rattle.event_key.specs.declared.stamp.TheConstants.{LAST_TICK}
use Rattle.model_core.specs.declared.entry.Entry.{Entry}
use Rattle.model_core.specs.declared.limits.TheConstants.{MOST_ENTRIES, MOST_EVENTS, MOST_OBJECTS}
use Rattle.model_core.specs.Meaning.{Meaning}
use Rattle.queue_models.specs.declared.kind.KindOver.TheVariants.{Station}
use Rattle.model_text.specs.declared.formats.Format.TheVariants.{One, Two}
use Rattle.text_fields.specs.declared.refusal.Cause.{Cause}
use Rattle.text_fields.specs.declared.refusal.Cause.TheVariants.{Unknown, BadValue}
use Rattle.model_text.specs.declared.objects.CommonFields.{CommonFields}
use Rattle.model_text.specs.declared.top.ModelKind.{ModelKind}
use Rattle.model_text.specs.declared.top.ModelKind.TheVariants.{Phold, Network, Circuit}
use Rattle.model_text.specs.Additions.{rank, flag, trace, entry_keys}
use Rattle.text_fields.specs.Checks.{Checked, refusal, refusal_where, ◌>>=◌}
use Rattle.model_text.specs.Circuits.{circuit, gates, linked_circuit}
use Rattle.text_fields.specs.Fields.{number, text, truth, table_of, array_of, present, required, or_default, optional, has_only, only, each_from}
use Rattle.model_text.specs.FormatLaws.{with_format, FirstIsSecond}
use Rattle.model_text.specs.Formats.{format_of}
use Rattle.model_text.specs.Jobs.{job, jobs_from}
use Rattle.text_fields.specs.LawTexts.{law}
use Rattle.model_text.specs.ModelTexts.{kind_of, top_keys, body, top}
use Rattle.text_fields.specs.Names.{Finder, new_name}
use Rattle.model_text.specs.Names.{NamedItem, NamedKind, place_in}
use Rattle.model_text.specs.Networks.{linked_network, network}
use Rattle.model_text.specs.Kinds.{named_kind}
use Rattle.model_text.specs.Objects.{known_keys, common_fields, object, object_named, objects_after, objects, linked_from}
use Rattle.model_text.specs.Phold.{destination, phold_keys, phold}
use Rattle.model_text.specs.Starts.{start_entry, start_entries}
use Rattle.text_fields.proofs.Found.{bound}

-- two checks in a row, each of which gives something
joined : {A B : Type 0} (check : Checked A) (next : A → Checked B) (a : A) (b : B) → check ≡ Ok a → next a ≡ Ok b → check >>= next ≡ Ok b
joined check next a b first second = ap (λ c. c >>= next) first ∙ second

passes : (test : Bool) (cause : Cause) (at : ℕ) (u : Unit {0}) → refusal_where (not test) cause at ≡ Ok u → test ≡ true
passes true cause at u gives = refl
passes false cause at u gives = cc

passed : (test : Bool) (cause : Cause) (at : ℕ) (u : Unit {0}) → test ≡ true → refusal_where (not test) cause at ≡ Ok u
passed true cause at u is = refl
passed false cause at u is = cc

-- a key that a table may not have isn't there
no_key : (known : List (List ℕ)) (key : List ℕ) (ms : Members) → list_any (λ name. bytes_eq name key) known ≡ false → has_only known ms ≡ true → get_member key ms ≡ None
no_key known key no_members unknown all = refl
no_key known key (member l d ms) unknown all =
    let fits = and_parts (list_any (λ name. bytes_eq name l) known) (has_only known ms) all in
    by fits.0 (no_key known key ms unknown fits.1) (slice_cmp nat_cmp key l) refl
  where
    by : list_any (λ name. bytes_eq name l) known ≡ true → get_member key ms ≡ None
        → (o : Ordering) → slice_cmp nat_cmp key l ≡ o → match_ordering o (get_member key ms) (Some d) (get_member key ms) ≡ None
    by fits rest Less is = rest
    by fits rest Equal is =
        let same : key ≡ l = (bytes_decides key l).0 (sym (is_eq-slice_cmp key l) ∙ ap is_eq is) in
        let known_here : list_any (λ name. bytes_eq name key) known ≡ true = subst (λ k. list_any (λ name. bytes_eq name k) known ≡ true) (sym same) fits in
        absurd (cc)
    by fits rest Greater is = rest

-- a table that has only some keys has only these and others
more_keys : (known more : List (List ℕ)) (ms : Members) → has_only known ms ≡ true → has_only (known ++ more) ms ≡ true
more_keys known more no_members all = refl
more_keys known more (member l d ms) all =
    let fits = and_parts (list_any (λ name. bytes_eq name l) known) (has_only known ms) all in
    let here : list_any (λ name. bytes_eq name l) (known ++ more) ≡ true = list_any-append (λ name. bytes_eq name l) known more ∙ or_left _ _ fits.0 in
    rw (here, more_keys known more ms fits.1)

rank_absent : (at : ℕ) (ms : Members) → get_member (codes "rank") ms ≡ None → rank Two at ms ≡ Ok 0
rank_absent at ms none = ap (λ (o : Option Data). number at 0 MOST_RANK (or_default (integer (pos 0)) o)) none

flag_absent : (at : ℕ) (key : List ℕ) (ms : Members) → get_member key ms ≡ None → flag Two at key ms ≡ Ok false
flag_absent at key ms none = ap (λ (o : Option Data). truth at (or_default (boolean false) o)) none

-- each entry of an array
each_grows : {A : Type 0} (first second : ℕ → Data → Checked A) → ((k : ℕ) (d : Data) (x : A) → first k d ≡ Ok x → second k d ≡ Ok x)
    → (k : ℕ) (ds : Items) (xs : List A) → each_from first k ds ≡ Ok xs → each_from second k ds ≡ Ok xs
each_grows first second grows k no_items xs gives = gives
each_grows first second grows k (item d ds) xs gives =
    let one = bound (first k d) _ xs gives in
    let others = bound (each_from first (k + 1) ds) _ xs one.2 in
    joined (second k d) _ one.0 xs (grows k d one.0 one.1)
    (joined (each_from second (k + 1) ds) _ others.0 xs (each_grows first second grows (k + 1) ds others.0 others.1) others.2)

start_grows : (objects at : ℕ) (d : Data) (x : Entry) → start_entry One objects at d ≡ Ok x → start_entry Two objects at d ≡ Ok x
unfolding start_entry
start_grows objects at d x gives =
    let ms = bound (table_of at d) _ x gives in
    let time = bound (required at (codes "time") ms.0 >>= number at 0 LAST_TICK) _ x ms.2 in
    let place = bound (required at (codes "at") ms.0 >>= number at 0 (MOST_OBJECTS - 1)) _ x time.2 in
    let known = bound (only at (entry_keys One) ms.0) _ x place.2 in
    let fits : has_only (entry_keys One) ms.0 ≡ true = passes _ _ at known.0 known.1 in
    joined (table_of at d) _ ms.0 x ms.1
    (joined (required at (codes "time") ms.0 >>= number at 0 LAST_TICK) _ time.0 x time.1
    (joined (required at (codes "at") ms.0 >>= number at 0 (MOST_OBJECTS - 1)) _ place.0 x place.1
    (joined (rank Two at ms.0) _ 0 x (rank_absent at ms.0 (no_key (entry_keys One) (codes "rank") ms.0 refl fits))
    (joined (only at (entry_keys Two) ms.0) _ known.0 x (passed _ _ at known.0 (more_keys (entry_keys One) (codes "rank" ∷ []) ms.0 fits)) known.2))))

job_grows : (find : Finder) (at : ℕ) (d : Data) (x : Entry) → job One find at d ≡ Ok x → job Two find at d ≡ Ok x
unfolding job
job_grows find at d x gives =
    let ms = bound (table_of at d) _ x gives in
    let time = bound (required at (codes "time") ms.0 >>= number at 0 LAST_TICK) _ x ms.2 in
    let place = bound (required at (codes "at") ms.0 >>= text at) _ x time.2 in
    let known = bound (only at (entry_keys One) ms.0) _ x place.2 in
    let fits : has_only (entry_keys One) ms.0 ≡ true = passes _ _ at known.0 known.1 in
    joined (table_of at d) _ ms.0 x ms.1
    (joined (required at (codes "time") ms.0 >>= number at 0 LAST_TICK) _ time.0 x time.1
    (joined (required at (codes "at") ms.0 >>= text at) _ place.0 x place.1
    (joined (rank Two at ms.0) _ 0 x (rank_absent at ms.0 (no_key (entry_keys One) (codes "rank") ms.0 refl fits))
    (joined (only at (entry_keys Two) ms.0) _ known.0 x (passed _ _ at known.0 (more_keys (entry_keys One) (codes "rank" ∷ []) ms.0 fits)) known.2))))

-- the keys of an object of each kind
keys_grow : (kind : NamedKind) (ms : Members) → has_only (known_keys One kind) ms ≡ true → has_only (known_keys Two kind) ms ≡ true
keys_grow (Station station) ms fits = more_keys (known_keys One (Station station)) (codes "rank" ∷ codes "quiet" ∷ codes "trace" ∷ []) ms fits
keys_grow other ms fits = more_keys (known_keys One other) (codes "rank" ∷ codes "quiet" ∷ []) ms fits

record AreNew (kind : NamedKind) (ms : Members) : Type 0 where
  rank : get_member (codes "rank") ms ≡ None
  quiet : get_member (codes "quiet") ms ≡ None
  trace : get_member (codes "trace") ms ≡ None

are_new : (kind : NamedKind) (ms : Members) → has_only (known_keys One kind) ms ≡ true → AreNew kind ms
are_new (Station station) ms fits =
    let known = known_keys One (Station station) in
    record { rank = no_key known (codes "rank") ms refl fits; quiet = no_key known (codes "quiet") ms refl fits; trace = no_key known (codes "trace") ms refl fits }
are_new other ms fits =
    let known = known_keys One other in
    record { rank = no_key known (codes "rank") ms refl fits; quiet = no_key known (codes "quiet") ms refl fits; trace = no_key known (codes "trace") ms refl fits }

trace_one : (kind : NamedKind) (at : ℕ) (ms : Members) → trace One kind at ms ≡ Ok false
trace_one (Station station) at ms = refl
trace_one other at ms = refl

trace_absent : (kind : NamedKind) (at : ℕ) (ms : Members) → get_member (codes "trace") ms ≡ None → trace Two kind at ms ≡ Ok false
trace_absent (Station station) at ms none = flag_absent at (codes "trace") ms none
trace_absent other at ms none = refl

fields_grow : (kind : NamedKind) (at : ℕ) (ms : Members) (x : CommonFields) → common_fields One kind at ms ≡ Ok x → common_fields Two kind at ms ≡ Ok x
unfolding common_fields
fields_grow kind at ms x gives =
    let traced = bound (trace One kind at ms) _ x gives in
    let untraced : traced.0 ≡ false = (let two = sym traced.1 ∙ trace_one kind at ms in cc) in
    let known = bound (only at (known_keys One kind) ms) _ x traced.2 in
    let fits : has_only (known_keys One kind) ms ≡ true = passes _ _ at known.0 known.1 in
    let new = are_new kind ms fits in
    joined (rank Two at ms) _ 0 x (rank_absent at ms new.rank)
    (joined (flag Two at (codes "quiet") ms) _ false x (flag_absent at (codes "quiet") ms new.quiet)
    (joined (trace Two kind at ms) _ traced.0 x (trace_absent kind at ms new.trace ∙ ap (λ b. Ok b) (sym untraced))
    (joined (only at (known_keys Two kind) ms) _ known.0 x (passed _ _ at known.0 (keys_grow kind ms fits)) known.2)))

object_grows : (find : Finder) (at : ℕ) (d : Data) (x : NamedItem) → object One find at d ≡ Ok x → object Two find at d ≡ Ok x
unfolding object object_named
object_grows find at d x gives =
    let ms = bound (table_of at d) _ x gives in
    let name = bound (required at (codes "name") ms.0 >>= new_name find at) _ x ms.2 in
    let word = bound (required at (codes "kind") ms.0 >>= text at) _ x name.2 in
    let kind = bound (named_kind at ms.0 word.0) _ x word.2 in
    let fields = bound (common_fields One kind.0 at ms.0) _ x kind.2 in
    joined (table_of at d) _ ms.0 x ms.1
    (joined (required at (codes "name") ms.0 >>= new_name find at) _ name.0 x name.1
    (joined (required at (codes "kind") ms.0 >>= text at) _ word.0 x word.1
    (joined (named_kind at ms.0 word.0) _ kind.0 x kind.1
    (joined (common_fields Two kind.0 at ms.0) _ fields.0 x (fields_grow kind.0 at ms.0 fields.0 fields.1) fields.2))))

objects_grow : (before : List NamedItem) (ds : Items) (xs : List NamedItem) → objects_after One before ds ≡ Ok xs → objects_after Two before ds ≡ Ok xs
objects_grow before no_items xs gives = gives
objects_grow before (item d ds) xs gives =
    let one = bound (object One (place_in before) (length before + 1) d) _ xs gives in
    joined (object Two (place_in before) (length before + 1) d) _ one.0 xs (object_grows (place_in before) (length before + 1) d one.0 one.1)
    (objects_grow (before ++ one.0 ∷ []) ds xs one.2)

linked_grows : (named : List NamedItem) (entries : Items) (x : ℕ → Meaning) → linked_network One named entries ≡ Ok x → linked_network Two named entries ≡ Ok x
unfolding linked_network
linked_grows named entries x gives =
    let linked = bound (linked_from (place_in named) 1 named) _ x gives in
    let jobs = bound (jobs_from One (place_in named) (length named + 1) entries) _ x linked.2 in
    joined (linked_from (place_in named) 1 named) _ linked.0 x linked.1
    (joined (jobs_from Two (place_in named) (length named + 1) entries) _ jobs.0 x
    (each_grows (job One (place_in named)) (job Two (place_in named)) (job_grows (place_in named)) (length named + 1) entries jobs.0 jobs.1) jobs.2)

phold_grows : (d : Data) (x : ℕ → Meaning) → phold One d ≡ Ok x → phold Two d ≡ Ok x
unfolding phold
phold_grows d x gives =
    let ms = bound (table_of 0 d) _ x gives in
    let objects = bound (required 0 (codes "objects") ms.0 >>= number 0 0 MOST_OBJECTS) _ x ms.2 in
    let delay = bound (required 0 (codes "delay") ms.0 >>= law 0) _ x objects.2 in
    let uniform = bound (required 0 (codes "to") ms.0 >>= destination 0) _ x delay.2 in
    let each = bound (number 0 0 4 (optional (integer (pos 0)) (codes "each") ms.0)) _ x uniform.2 in
    let entries = bound (array_of 0 MOST_ENTRIES (optional (array no_items) (codes "start") ms.0)) _ x each.2 in
    let known = bound (only 0 (phold_keys One) ms.0) _ x entries.2 in
    let fits : has_only (phold_keys One) ms.0 ≡ true = passes _ _ 0 known.0 known.1 in
    let start = bound (start_entries One objects.0 entries.0) _ x known.2 in
    joined (table_of 0 d) _ ms.0 x ms.1
    (joined (required 0 (codes "objects") ms.0 >>= number 0 0 MOST_OBJECTS) _ objects.0 x objects.1
    (joined (required 0 (codes "delay") ms.0 >>= law 0) _ delay.0 x delay.1
    (joined (required 0 (codes "to") ms.0 >>= destination 0) _ uniform.0 x uniform.1
    (joined (number 0 0 4 (optional (integer (pos 0)) (codes "each") ms.0)) _ each.0 x each.1
    (joined (array_of 0 MOST_ENTRIES (optional (array no_items) (codes "start") ms.0)) _ entries.0 x entries.1
    (joined (rank Two 0 ms.0) _ 0 x (rank_absent 0 ms.0 (no_key (phold_keys One) (codes "rank") ms.0 refl fits))
    (joined (only 0 (phold_keys Two) ms.0) _ known.0 x (passed _ _ 0 known.0 (more_keys (phold_keys One) (codes "rank" ∷ []) ms.0 fits))
    (joined (start_entries Two objects.0 entries.0) _ start.0 x
    (each_grows (start_entry One objects.0) (start_entry Two objects.0) (start_grows objects.0) 1 entries.0 start.0 start.1) start.2))))))))

-- a document with another format is the same beside it
other_key : (n : ℕ) (key : List ℕ) (ms : Members) → bytes_eq key (codes "format") ≡ false → get_member key (with_format n ms) ≡ get_member key ms
other_key n key no_members other = refl
other_key n key (member l d ms) other = by (other_key n key ms other) (slice_cmp nat_cmp key l) refl
  where
    now : Data
    now = if bytes_eq l (codes "format") then integer (pos n) else d

    by : get_member key (with_format n ms) ≡ get_member key ms → (o : Ordering) → slice_cmp nat_cmp key l ≡ o
        → match_ordering o (get_member key (with_format n ms)) (Some now) (get_member key (with_format n ms)) ≡ match_ordering o (get_member key ms) (Some d) (get_member key ms)
    by rest Less is = rest
    by rest Equal is =
        let same : key ≡ l = (bytes_decides key l).0 (sym (is_eq-slice_cmp key l) ∙ ap is_eq is) in
        ap (λ (d : Data). Some d) (cond-false (bytes_eq l (codes "format")) (integer (pos n)) d (ap (λ k. bytes_eq k (codes "format")) (sym same) ∙ other))
    by rest Greater is = rest

new_format : (n : ℕ) (ms : Members) (old : Data) → get_member (codes "format") ms ≡ Some old → get_member (codes "format") (with_format n ms) ≡ Some (integer (pos n))
new_format n no_members old has = cc
new_format n (member l d ms) old has = by (new_format n ms old) (slice_cmp nat_cmp (codes "format") l) refl has
  where
    now : Data
    now = if bytes_eq l (codes "format") then integer (pos n) else d

    by : (get_member (codes "format") ms ≡ Some old → get_member (codes "format") (with_format n ms) ≡ Some (integer (pos n)))
        → (o : Ordering) → slice_cmp nat_cmp (codes "format") l ≡ o
        → match_ordering o (get_member (codes "format") ms) (Some d) (get_member (codes "format") ms) ≡ Some old
        → match_ordering o (get_member (codes "format") (with_format n ms)) (Some now) (get_member (codes "format") (with_format n ms)) ≡ Some (integer (pos n))
    by rest Less is has = rest has
    by rest Equal is has =
        let same : codes "format" ≡ l = (bytes_decides (codes "format") l).0 (sym (is_eq-slice_cmp (codes "format") l) ∙ ap is_eq is) in
        ap (λ (d : Data). Some d) (cond-true (bytes_eq l (codes "format")) (integer (pos n)) d ((bytes_decides l (codes "format")).1 (sym same)))
    by rest Greater is has = rest has

same_keys : (n : ℕ) (known : List (List ℕ)) (ms : Members) → has_only known (with_format n ms) ≡ has_only known ms
same_keys n known no_members = refl
same_keys n known (member l d ms) = ap (λ b. list_any (λ name. bytes_eq name l) known && b) (same_keys n known ms)

network_grows : (ms : Members) (x : ℕ → Meaning) → network One ms ≡ Ok x → network Two (with_format 2 ms) ≡ Ok x
unfolding network
network_grows ms x gives =
    let tables = bound (array_of 0 MOST_OBJECTS (optional (array no_items) (codes "object") ms)) _ x gives in
    let entries = bound (array_of 0 MOST_ENTRIES (optional (array no_items) (codes "job") ms)) _ x tables.2 in
    let named = bound (objects One tables.0) _ x entries.2 in
    joined (array_of 0 MOST_OBJECTS (optional (array no_items) (codes "object") (with_format 2 ms))) _ tables.0 x
    (ap (λ (o : Option Data). array_of 0 MOST_OBJECTS (or_default (array no_items) o)) (other_key 2 (codes "object") ms refl) ∙ tables.1)
    (joined (array_of 0 MOST_ENTRIES (optional (array no_items) (codes "job") (with_format 2 ms))) _ entries.0 x
    (ap (λ (o : Option Data). array_of 0 MOST_ENTRIES (or_default (array no_items) o)) (other_key 2 (codes "job") ms refl) ∙ entries.1)
    (joined (objects Two tables.0) _ named.0 x (objects_grow [] tables.0 named.0 named.1) (linked_grows named.0 entries.0 x named.2)))

circuit_same : (ms : Members) → circuit (with_format 2 ms) ≡ circuit ms
unfolding circuit
circuit_same ms =
    ap (λ (o : Option Data). array_of 0 MOST_OBJECTS (or_default (array no_items) o) >>= (λ tables. gates tables >>= (λ named. linked_circuit named))) (other_key 2 (codes "gate") ms refl)

body_grows : (kind : ModelKind) (ms : Members) (x : ℕ → Meaning) → body One kind ms ≡ Ok x → body Two kind (with_format 2 ms) ≡ Ok x
body_grows Phold ms x gives =
    let table = bound (required 0 (codes "phold") ms) _ x gives in
    joined (required 0 (codes "phold") (with_format 2 ms)) _ table.0 x (ap (present 0) (other_key 2 (codes "phold") ms refl) ∙ table.1) (phold_grows table.0 x table.2)
body_grows Network ms x gives = network_grows ms x gives
body_grows Circuit ms x gives = ap (λ (read : Checked Meaning). read >>= (λ meaning. Ok (λ _. meaning))) (circuit_same ms) ∙ gives

kind_grows : (name : List ℕ) (kind : ModelKind) → kind_of One name ≡ Ok kind → kind_of Two name ≡ Ok kind
kind_grows name kind gives = by (bytes_eq name (codes "phold")) (bytes_eq name (codes "network")) (bytes_eq name (codes "circuit")) gives
  where
    by : (phold network circuit : Bool)
        → (if phold then Ok Phold else if network then Ok Network else if false && circuit then Ok Circuit else refusal BadValue 0) ≡ Ok kind
        → (if phold then Ok Phold else if network then Ok Network else if true && circuit then Ok Circuit else refusal BadValue 0) ≡ Ok kind
    by true network circuit gives = gives
    by false true circuit gives = gives
    by false false circuit gives = cc

pub first_is_second : FirstIsSecond
unfolding top
first_is_second ms x has gives =
    let format = bound (required 0 (codes "format") ms >>= format_of) _ x gives in
    let one : format.0 ≡ One = (let two = sym format.1 ∙ ap (λ (o : Option Data). present 0 o >>= format_of) has in cc) in
    let name = bound (required 0 (codes "model") ms >>= text 0) _ x format.2 in
    let kind = bound (kind_of format.0 name.0) _ x name.2 in
    let end = bound (required 0 (codes "end") ms >>= number 0 0 LAST_TICK) _ x kind.2 in
    let seed = bound (number 0 0 9223372036854775807 (optional (integer (pos 0)) (codes "seed") ms)) _ x end.2 in
    let limit = bound (number 0 1 MOST_EVENTS (optional (integer (pos 10000000)) (codes "limit") ms)) _ x seed.2 in
    let known = bound (only 0 (top_keys kind.0) ms) _ x limit.2 in
    let under = bound (body format.0 kind.0 ms) _ x known.2 in
    let kind_is : kind_of Two name.0 ≡ Ok kind.0 = kind_grows name.0 kind.0 (ap (λ f. kind_of f name.0) (sym one) ∙ kind.1) in
    let body_is : body Two kind.0 (with_format 2 ms) ≡ Ok under.0 = body_grows kind.0 ms under.0 (ap (λ f. body f kind.0 ms) (sym one) ∙ under.1) in
    joined (required 0 (codes "format") (with_format 2 ms) >>= format_of) _ Two x (ap (λ (o : Option Data). present 0 o >>= format_of) (new_format 2 ms _ has))
    (joined (required 0 (codes "model") (with_format 2 ms) >>= text 0) _ name.0 x
    (ap (λ (o : Option Data). present 0 o >>= text 0) (other_key 2 (codes "model") ms refl) ∙ name.1)
    (joined (kind_of Two name.0) _ kind.0 x kind_is
    (joined (required 0 (codes "end") (with_format 2 ms) >>= number 0 0 LAST_TICK) _ end.0 x
    (ap (λ (o : Option Data). present 0 o >>= number 0 0 LAST_TICK) (other_key 2 (codes "end") ms refl) ∙ end.1)
    (joined (number 0 0 9223372036854775807 (optional (integer (pos 0)) (codes "seed") (with_format 2 ms))) _ seed.0 x
    (ap (λ (o : Option Data). number 0 0 9223372036854775807 (or_default (integer (pos 0)) o)) (other_key 2 (codes "seed") ms refl) ∙ seed.1)
    (joined (number 0 1 MOST_EVENTS (optional (integer (pos 10000000)) (codes "limit") (with_format 2 ms))) _ limit.0 x
    (ap (λ (o : Option Data). number 0 1 MOST_EVENTS (or_default (integer (pos 10000000)) o)) (other_key 2 (codes "limit") ms refl) ∙ limit.1)
    (joined (only 0 (top_keys kind.0) (with_format 2 ms)) _ known.0 x
    (ap (λ b. refusal_where (not b) Unknown 0) (same_keys 2 (top_keys kind.0) ms) ∙ known.1)
    (joined (body Two kind.0 (with_format 2 ms)) _ under.0 x body_is under.2)))))))
