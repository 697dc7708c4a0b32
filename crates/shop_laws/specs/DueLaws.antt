-- Jobs are as old as is told, and late exactly above their due.
use Rattle.std.specs.Prelude.{◌≡◌, ◌⊎◌, ℕ, ◌-◌, ◌<◌, ◌≤◌, List, [], ◌∷◌, Contains, Option, None, Some}
use Rattle.event_key.specs.declared.key.Key.{Key}
use Rattle.event_key.specs.Stamps.{time_part}
use Rattle.model_core.specs.declared.note.Note.{Note}
use Rattle.model_core.specs.declared.note.Part.{Part}
use Rattle.model_core.specs.declared.words.TheConstants.{LEFT_WORD, DROPPED_WORD, OVERDUE_WORD}
use Rattle.run_laws.specs.Reached.{after_events}
use Rattle.shop_model.specs.Meaning.{class_of_object, shop_meaning}
use Rattle.shop_model.specs.ShopParts.{ShopParts, IsShop}
use Rattle.sim_spec.specs.declared.terms.Terms.{Terms}
use Rattle.sim_spec.specs.Run.{does, next}
use Rattle.sim_spec.specs.State.{State}
use Rattle.shop_laws.specs.Places.{made_jobs}
use Rattle.shop_laws.specs.Told.{word_told, first_told, second_told, rest_told}

-- a job of this id was made within the first n events, and this is its age at a time
pub record IsOfAge (p : ShopParts) (t : Terms) (n id time age : ℕ) : Type 0 where
  pub birth : ℕ
  pub made : Contains (made_jobs p t n) (id, birth)
  pub before : birth ≤ time
  pub old : age ≡ time - birth

-- what `leave` and `drop` tell is the age of a job that was made
abbrev pub AgesAreTold : Type 0
AgesAreTold =
    (p : ShopParts) (t : Terms) (n : ℕ) (told : Key × Note) (after : State) → IsShop p
    → next (shop_meaning p) t (after_events n (shop_meaning p) t) ≡ does told after → (word_told told.1 ≡ LEFT_WORD) ⊎ (word_told told.1 ≡ DROPPED_WORD)
    → IsOfAge p t n (first_told told.1) (time_part told.0.stamp) (second_told told.1)

-- by which age a job leaves on time, and what is told of one that doesn't
pub record IsLate (due : Option ℕ) (id age : ℕ) (rest : List Part) : Type 0 where
  pub never : due ≡ None → rest ≡ []
  pub on_time : (most : ℕ) → due ≡ Some most → age ≤ most → rest ≡ []
  pub late : (most : ℕ) → due ≡ Some most → most < age → rest ≡ record { word = OVERDUE_WORD; a = id; b = age - most } ∷ []

-- after `leave` comes `late` exactly if the age is above the due of the class
abbrev pub LateIsTold : Type 0
LateIsTold =
    (p : ShopParts) (t : Terms) (n : ℕ) (told : Key × Note) (after : State) → IsShop p
    → next (shop_meaning p) t (after_events n (shop_meaning p) t) ≡ does told after → word_told told.1 ≡ LEFT_WORD
    → IsLate (class_of_object p told.0.dest).due (first_told told.1) (second_told told.1) (rest_told told.1)
