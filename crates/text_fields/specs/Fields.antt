-- The checks of one field of a table.
use Rattle.std.specs.Prelude.{ℕ, ◌+◌, pos, Bool, true, not, ◌&&◌, List, [], ◌∷◌, ◌++◌, Option, Some, None, Ok, nat_lt, if◌then◌else◌}
use Rattle.std.specs.List.{list_any}
use Rattle.std.specs.Str.{bytes_eq}
use Rattle.toml.specs.Data.{Data, string, integer, boolean, array, table, Items, no_items, item, Members, no_members, member, get_member}
use Rattle.text_fields.specs.declared.refusal.Cause.TheVariants.{Missing, Unknown, BadValue, Limit}
use Rattle.text_fields.specs.Checks.{Checked, refusal, refusal_where, ◌>>=◌}

-- a number from its least to its greatest value
abbrev pub number : ℕ → ℕ → ℕ → Data → Checked ℕ
number at least most (integer (pos n)) =
    if nat_lt n least then refusal BadValue at else if nat_lt most n then refusal Limit at else Ok n
number at least most _ = refusal BadValue at

abbrev pub text : ℕ → Data → Checked (List ℕ)
text at (string s) = Ok s
text at _ = refusal BadValue at

abbrev pub truth : ℕ → Data → Checked Bool
truth at (boolean b) = Ok b
truth at _ = refusal BadValue at

abbrev pub table_of : ℕ → Data → Checked Members
table_of at (table ms) = Ok ms
table_of at _ = refusal BadValue at

abbrev pub item_count : Items → ℕ
item_count no_items = 0
item_count (item d ds) = 1 + item_count ds

-- an array of any length
abbrev pub entries_of : ℕ → Data → Checked Items
entries_of at (array ds) = Ok ds
entries_of at _ = refusal BadValue at

-- an array with a greatest number of entries
abbrev pub array_of : ℕ → ℕ → Data → Checked Items
array_of at most (array ds) = if nat_lt most (item_count ds) then refusal Limit at else Ok ds
array_of at most _ = refusal BadValue at

-- what a table has at a key that has to be there
abbrev pub present : ℕ → Option Data → Checked Data
present at None = refusal Missing at
present at (Some d) = Ok d

abbrev pub required : ℕ → List ℕ → Members → Checked Data
required at key ms = present at (get_member key ms)

-- a number at a key that has to be there
abbrev pub required_number : ℕ → ℕ → ℕ → List ℕ → Members → Checked ℕ
required_number at least most key ms = required at key ms >>= number at least most

-- a text at a key that has to be there
abbrev pub required_text : ℕ → List ℕ → Members → Checked (List ℕ)
required_text at key ms = required at key ms >>= text at

abbrev pub or_default : Data → Option Data → Data
or_default default None = default
or_default default (Some d) = d

-- what a table has at a key, or what stands for it where the key is absent
abbrev pub optional : Data → List ℕ → Members → Data
optional default key ms = or_default default (get_member key ms)

-- a number, or none where the key is absent
abbrev pub optional_number : ℕ → ℕ → ℕ → Option Data → Checked (Option ℕ)
optional_number at least most None = Ok None
optional_number at least most (Some d) = number at least most d >>= (λ n. Ok (Some n))

-- a number, or what stands for it where the key is absent
abbrev pub number_or : ℕ → ℕ → ℕ → ℕ → Option Data → Checked ℕ
number_or at default least most None = Ok default
number_or at default least most (Some d) = number at least most d

-- a text, or what stands for it where the key is absent
abbrev pub text_or : ℕ → List ℕ → Option Data → Checked (List ℕ)
text_or at default None = Ok default
text_or at default (Some d) = text at d

-- whether each key is a known one
abbrev pub has_only : List (List ℕ) → Members → Bool
has_only known no_members = true
has_only known (member k d ms) = list_any (λ name. bytes_eq name k) known && has_only known ms

-- no key but the known ones
abbrev pub only : ℕ → List (List ℕ) → Members → Checked (Unit {0})
only at known ms = refusal_where (not (has_only known ms)) Unknown at

-- each entry of an array by the check of its item, with items from k on
abbrev pub each_from : {A : Type 0} → (ℕ → Data → Checked A) → ℕ → Items → Checked (List A)
each_from check k no_items = Ok []
each_from check k (item d ds) = check k d >>= (λ first. each_from check (k + 1) ds >>= (λ others. Ok (first ∷ others)))

-- each entry of an array by one check
abbrev pub each : {A : Type 0} → (Data → Checked A) → Items → Checked (List A)
each check ds = each_from (λ k. check) 0 ds

-- each entry of an array, with items from k on, by a check that goes by what is known before it and tells what is known after it
abbrev pub each_with : {S A : Type 0} → (ℕ → S → Data → Checked (A × S)) → ℕ → S → Items → Checked (List A × S)
each_with check k known no_items = Ok ([], known)
each_with check k known (item d ds) =
    check k known d >>= (λ first. each_with check (k + 1) first.1 ds >>= (λ others. Ok (first.0 ∷ others.0, others.1)))

-- each entry of an array by a check that knows those before it
abbrev pub each_after : {A : Type 0} → (List A → Data → Checked A) → List A → Items → Checked (List A)
each_after check before no_items = Ok before
each_after check before (item d ds) = check before d >>= (λ next. each_after check (before ++ next ∷ []) ds)

-- each element of a list by the check of its item, with items from k on
abbrev pub each_of : {X A : Type 0} → (ℕ → X → Checked A) → ℕ → List X → Checked (List A)
each_of check k [] = Ok []
each_of check k (x ∷ xs) = check k x >>= (λ first. each_of check (k + 1) xs >>= (λ others. Ok (first ∷ others)))

-- each element of a list passes the check of its item, with items from k on
abbrev pub all_of : {X : Type 0} → (ℕ → X → Checked (Unit {0})) → ℕ → List X → Checked (Unit {0})
all_of check k [] = Ok tt
all_of check k (x ∷ xs) = check k x >>= (λ passed. all_of check (k + 1) xs)
