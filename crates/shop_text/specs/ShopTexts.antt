-- The shop of a text: the checks in the order in which the first refusal counts.
use Rattle.std.specs.Prelude.{ℕ, ◌+◌, ◌==◌, nat_lt, pos, not, List, [], ◌∷◌, length, map, Ok, Err, codes, if◌then◌else◌}
use Rattle.std.specs.Str.{bytes_eq}
use Rattle.toml.specs.Data.{Data, integer, array, no_items, Members, get_member}
use Rattle.event_key.specs.declared.stamp.TheConstants.{LAST_TICK}
use Rattle.model_core.specs.declared.limits.TheConstants.{MOST_EVENTS, MOST_OBJECTS, MOST_TEXT_BYTES}
use Rattle.model_reader.specs.Readings.{ModelOf, if_short}
use Rattle.model_reader.specs.Checks.{Refused}
use Rattle.shop_model.specs.declared.class.Class.{Class}
use Rattle.shop_model.specs.declared.station.Station.{Station}
use Rattle.shop_model.specs.Meaning.{shop_meaning}
use Rattle.shop_model.specs.ShopParts.{ShopParts, shop_of, levels_of}
use Rattle.shop_totals.specs.ShopLines.{shop_lines}
use Rattle.sim_spec.specs.declared.terms.Terms.{Terms}
use Rattle.text_fields.specs.declared.refusal.Cause.TheVariants.{TooLong, BadValue, Limit}
use Rattle.text_fields.specs.Causes.{cause_code}
use Rattle.text_fields.specs.Checks.{Checked, refusal, refusal_where, ◌>>=◌}
use Rattle.text_fields.specs.Fields.{number, number_or, text, item_count, array_of, required, optional, only}
use Rattle.text_fields.specs.TermsOf.{terms_of}
use Rattle.text_fields.specs.Documents.{tree}
use Rattle.text_fields.specs.Names.{Finder}
use Rattle.shop_text.specs.ClassTexts.{ClassText, classes}
use Rattle.shop_text.specs.LinkedRoutes.{linked_classes}
use Rattle.shop_text.specs.StationTexts.{stations}

-- a station whose line has a level for each priority, if the urgent are called first
abbrev pub with_levels : List Class → Station → Station
with_levels classes station = record station { levels = levels_of station.order classes }

-- pass two, after the entries: the links, whose items follow those of the stations, and then the levels
unfoldable pub linked_shop : ℕ → Finder → List Station → List ClassText → Checked ShopParts
linked_shop seed find stations texts = do
  classes ← linked_classes find (length stations + 1) texts
  Ok (shop_of seed (map (with_levels classes) stations) classes)

-- the arrays `station` and `class`: first how long they are, then each entry, and last all links
unfoldable pub body : ℕ → Members → Checked ShopParts
body seed ms = do
  tables ← array_of 0 MOST_OBJECTS (optional (array no_items) (codes "station") ms)
  others ← array_of 0 MOST_OBJECTS (optional (array no_items) (codes "class") ms)
  few ← refusal_where (nat_lt MOST_OBJECTS (item_count tables + item_count others)) Limit 0
  stations ← stations tables
  texts ← classes (item_count tables + 1) stations.1 others
  linked_shop seed texts.1.find stations.0 texts.0

-- there is one format
abbrev pub is_first : Data → Checked (Unit {0})
is_first (integer (pos n)) = refusal_where (not (n == 1)) BadValue 0
is_first _ = refusal BadValue 0

abbrev pub top_keys : List (List ℕ)
top_keys =
    codes "format" ∷ codes "model" ∷ codes "end" ∷ codes "seed" ∷ codes "limit" ∷ codes "from" ∷ codes "station" ∷ codes "class" ∷ []

-- what a text describes: the parts of a shop, how far its simulation goes, and from which tick on its totals count
pub record ShopOf : Type 0 where
  pub parts : ShopParts
  pub terms : Terms
  pub from : ℕ

abbrev pub shop_read : ShopParts → Terms → ℕ → ShopOf
shop_read parts terms from = record { parts = parts; terms = terms; from = from }

-- the model that it is
abbrev pub model_of_shop : ShopOf → ModelOf
model_of_shop shop = record { meaning = shop_meaning shop.parts; terms = shop.terms; totals = shop_lines shop.parts shop.from shop.terms }

-- the top table, and then the body
unfoldable pub top : Members → Checked ShopOf
top ms = do
  format ← required 0 (codes "format") ms >>= is_first
  name ← required 0 (codes "model") ms >>= text 0
  shop ← refusal_where (not (bytes_eq name (codes "shop"))) BadValue 0
  end ← required 0 (codes "end") ms >>= number 0 0 LAST_TICK
  seed ← number_or 0 0 0 9223372036854775807 (get_member (codes "seed") ms)
  limit ← number_or 0 10000000 1 MOST_EVENTS (get_member (codes "limit") ms)
  from ← number_or 0 0 0 LAST_TICK (get_member (codes "from") ms)
  known ← only 0 top_keys ms
  parts ← body seed ms
  Ok (shop_read parts (terms_of end limit) from)

abbrev pub too_long : Refused
too_long = record { code = cause_code TooLong; item = 0 }

-- what a text of any length says
abbrev pub said : List ℕ → Checked ShopOf
said bytes = tree bytes >>= top

-- what a text describes, or the code and the item of the first check that fails
unfoldable pub shop_of_text : List ℕ → Checked ShopOf
shop_of_text bytes = if nat_lt MOST_TEXT_BYTES (length bytes) then Err too_long else said bytes

abbrev pub said_model : List ℕ → Checked ModelOf
said_model bytes = said bytes >>= (λ shop. Ok (model_of_shop shop))

-- the model of a text, or the code and the item of the first check that fails
unfoldable pub shop_text : List ℕ → Checked ModelOf
shop_text bytes = if_short too_long said_model bytes
