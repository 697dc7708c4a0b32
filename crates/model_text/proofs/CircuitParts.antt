-- The gates that the passes give are those of a circuit.
use Rattle.std.proofs.Common.{◌≡◌, ℕ, suc, ◌+◌, ◌<◌, ◌≤◌, false, List, [], ◌∷◌, length, Ok, Err, refl, sym, ap, subst, ◌∙◌, arith}
use Rattle.std.specs.Prelude.{All, sum_by}
use Rattle.std.proofs.lemmas.Bool.{le-ltb, lt-ltb}
use Rattle.std.proofs.lemmas.List.Elements.{All-nil, All-cons, All-head, All-tail, All-weaker}
use Rattle.std.proofs.lemmas.List.Sums.{sum_by-cons}
use Rattle.circuit_model.specs.Gates.{HasPins}
use Rattle.circuit_model.specs.Meaning.{circuit_meaning}
use Rattle.circuit_model.specs.Parts.{IsGate, AreLinked, FeedsFew, IsCircuit, IsFirstOverload}
use Rattle.circuit_model.specs.Wiring.{fed_by}
use Rattle.circuit_model.specs.StartLists.{length-all_flips}
use Rattle.circuit_model.specs.declared.gate.LogicGate.{LogicGate}
use Rattle.circuit_model.specs.declared.gate.LogicKind.TheVariants.{Input}
use Rattle.circuit_model.specs.declared.limits.TheConstants.{MOST_FED}
use Rattle.text_fields.specs.declared.directory.Place.{Place}
use Rattle.model_text.specs.declared.named.NamedGate.{NamedGate}
use Rattle.text_fields.specs.declared.refusal.Cause.TheVariants.{Limit}
use Rattle.model_reader.specs.declared.refusal.Refusal.{Refusal}
use Rattle.model_reader.specs.declared.refusal.Refusal.TheVariants.{At, OutOfMemory}
use Rattle.text_fields.specs.Checks.{Checked, Fails, refusal_where, ◌>>=◌}
use Rattle.model_text.specs.Circuits.{linked_gate, linked_gates, is_overloaded, fan_out, linked_circuit}
use Rattle.text_fields.specs.Fields.{each_of}
use Rattle.text_fields.specs.Links.{IsFound, links}
use Rattle.model_text.specs.NamedGates.{IsNamedGate, flip_count, gate_place, gate_place_in}
use Rattle.text_fields.specs.Names.{Finder}
use Rattle.text_fields.proofs.Each.{all_pass, all_stop}
use Rattle.text_fields.proofs.Found.{bound, seen, links-found}
use Rattle.text_fields.proofs.Places.{found_at}

linked-gate : (all : ℕ) (find : Finder) → ((n : ℕ) → IsFound find n → n < all) → (at : ℕ) (named : NamedGate) (gates : List LogicGate) (gate : LogicGate)
    → length gates ≡ all → IsNamedGate named → linked_gate find at named ≡ Ok gate → IsGate gates gate × (length gate.flips ≡ length named.flips)
unfolding linked_gate
linked-gate all find links_are at named gates gate long fine gives =
    let one = seen (links find at named.from) _ gate gives in
    let found = links-found find at 0 named.from one.0 one.1 in
    let lawful : IsGate gates (record { name = named.name; kind = named.kind; delay = named.delay; from = one.0; flips = named.flips; probe = named.probe }) =
    record {
      delay = fine.delay;
      pins = subst (HasPins named.kind) found.1 fine.pins;
      from = All-weaker (IsFound find) (λ n. n < length gates) (λ n is. omega (arith, links_are n is, long)) one.0 found.0;
      flips = fine.flips;
    } in
    (subst (IsGate gates) one.2 lawful, ap (λ (g : LogicGate). length g.flips) (sym one.2))

length-each_of : {X A : Type 0} (check : ℕ → X → Checked A) (k : ℕ) (xs : List X) (ys : List A) → each_of check k xs ≡ Ok ys → length ys ≡ length xs
length-each_of check k [] ys gives = let none : [] ≡ ys = cc in ap length (sym none)
length-each_of check k (x ∷ xs) ys gives =
    let first = bound (check k x) _ ys gives in
    let others = seen (each_of check (k + 1) xs) (λ ys. first.0 ∷ ys) ys first.2 in
    ap length (sym others.2) ∙ ap suc (length-each_of check (k + 1) xs others.0 others.1)

-- pass two gives gates within their bounds, and keeps how often they turn
record AreKept (named : List NamedGate) (all gates : List LogicGate) : Type 0 where
  each : All (IsGate all) gates
  flips : sum_by (λ gate. length gate.flips) gates ≡ flip_count named

linked-kept : (all : List LogicGate) (find : Finder) → ((n : ℕ) → IsFound find n → n < length all) → (k : ℕ) (named : List NamedGate) (gates : List LogicGate)
    → All IsNamedGate named → each_of (linked_gate find) k named ≡ Ok gates → AreKept named all gates
linked-kept all find links_are k [] gates fine gives = let none : [] ≡ gates = cc in
    subst (λ gates. AreKept [] all gates) none (record { each = All-nil (IsGate all); flips = refl })
linked-kept all find links_are k (g ∷ named) gates fine gives =
    let first = bound (linked_gate find k g) _ gates gives in
    let others = seen (each_of (linked_gate find) (k + 1) named) (λ gates. first.0 ∷ gates) gates first.2 in
    let one = linked-gate (length all) find links_are k g all first.0 refl (All-head IsNamedGate g named fine) first.1 in
    let rest = linked-kept all find links_are (k + 1) named others.0 (All-tail IsNamedGate g named fine) others.1 in
    subst (λ gates. AreKept (g ∷ named) all gates) others.2 (record {
      each = All-cons (IsGate all) first.0 others.0 one.0 rest.each;
      flips = omega (arith, sum_by-cons (λ (gate : LogicGate). length gate.flips) first.0 others.0, sum_by-cons (λ (gate : NamedGate). length gate.flips) g named, one.1, rest.flips);
    })

-- what a name stands for is the number of a gate
gate-found : (named : List NamedGate) (n : ℕ) → IsFound (gate_place_in named) n → n < length named
gate-found named n found =
    let d : NamedGate = record { name = []; kind = Input; delay = 0; from = []; flips = []; probe = false } in
    let at = found_at (λ (gate : NamedGate). gate.name) gate_place named 0 found.0 _ d found.1 in
    let number : 0 + at.0 ≡ n = ap (λ (place : Place). place.number) at.2 in
    omega (arith, at.1)

-- after both passes the gates are linked, and turn seldom
pub gates-linked : (named : List NamedGate) (find : Finder) (gates : List LogicGate) → length named ≤ 65536 → find ≡ gate_place_in named → All IsNamedGate named
    → linked_gates find named ≡ Ok gates → AreLinked gates
gates-linked named find gates few finds fine gives =
    let long = length-each_of (linked_gate find) 1 named gates gives in
    let links_are : (n : ℕ) → IsFound find n → n < length gates = λ n found. omega (arith, gate-found named n (subst (λ (f : Finder). IsFound f n) finds found), long) in
    record { few_gates = omega (arith, long); each = (linked-kept gates find links_are 1 named gates fine gives).each }

pub gates-make_circuit : (named : List NamedGate) (find : Finder) (gates : List LogicGate) → length named ≤ 65536 → flip_count named ≤ 300000 → find ≡ gate_place_in named → All IsNamedGate named
    → linked_gates find named ≡ Ok gates → ((number : ℕ) → number < length gates → FeedsFew gates number) → IsCircuit gates
gates-make_circuit named find gates few few_flips finds fine gives feed =
    let long = length-each_of (linked_gate find) 1 named gates gives in
    let links_are : (n : ℕ) → IsFound find n → n < length gates = λ n found. omega (arith, gate-found named n (subst (λ (f : Finder). IsFound f n) finds found), long) in
    record {
      linked = gates-linked named find gates few finds fine gives;
      few_flips = omega (arith, length-all_flips gates, (linked-kept gates find links_are 1 named gates fine gives).flips);
      fan_out = feed;
    }

-- a gate that feeds few pins passes, and one that feeds many is refused
few-pass : (gates : List LogicGate) (number : ℕ) → FeedsFew gates number → refusal_where (is_overloaded gates number) Limit (number + 1) ≡ Ok tt
few-pass gates number few = rw (le-ltb MOST_FED _ few) refl

many-stop : (gates : List LogicGate) (number : ℕ) → 8 < length (fed_by gates number) → refusal_where (is_overloaded gates number) Limit (number + 1) ≡ Err (record { code = 7; item = number + 1 })
many-stop gates number many = rw (lt-ltb MOST_FED _ many) refl

pub fan_out-passes : (gates : List LogicGate) → ((number : ℕ) → number < length gates → FeedsFew gates number) → fan_out gates ≡ Ok tt
fan_out-passes gates few = all_pass _ 0 gates (λ i gate within. few-pass gates (0 + i) (few (0 + i) (omega arith)))

pub fan_out-stops : (gates : List LogicGate) (number : ℕ) → IsFirstOverload gates number → fan_out gates ≡ Err (record { code = 7; item = number + 1 })
fan_out-stops gates number first =
    all_stop _ 0 gates number _ first.exists
    (λ j gate lt. few-pass gates (0 + j) (first.before (0 + j) (omega arith)))
    (λ gate. ap (λ n. refusal_where (is_overloaded gates n) Limit (n + 1)) (omega arith) ∙ many-stop gates number first.many)

-- pass two, where its first part gives these gates
after_links : (named : List NamedGate) (find : Finder) (gates : List LogicGate) → find ≡ gate_place_in named → linked_gates find named ≡ Ok gates
    → linked_circuit named ≡ (fan_out gates >>= (λ few. Ok (circuit_meaning gates)))
unfolding linked_circuit
after_links named find gates finds linked =
    ap (λ (f : Finder). linked_gates f named >>= (λ gates. fan_out gates >>= (λ few. Ok (circuit_meaning gates)))) (sym finds)
    ∙ ap (λ (check : Checked (List LogicGate)). check >>= (λ gates. fan_out gates >>= (λ few. Ok (circuit_meaning gates)))) linked

-- the first name that stands for no gate is the answer
pub links_stop : (named : List NamedGate) (find : Finder) (e : Refusal) → find ≡ gate_place_in named → Fails e (linked_gates find named) → Fails e (linked_circuit named)
unfolding linked_circuit
links_stop named find OutOfMemory finds fails = tt
links_stop named find (At code item) finds fails =
    ap (λ (f : Finder). linked_gates f named >>= (λ gates. fan_out gates >>= (λ few. Ok (circuit_meaning gates)))) (sym finds)
    ∙ ap (λ (check : Checked (List LogicGate)). check >>= (λ gates. fan_out gates >>= (λ few. Ok (circuit_meaning gates)))) fails

-- and after them the first gate that feeds too many pins
pub feeds_stop : (named : List NamedGate) (find : Finder) (gates : List LogicGate) (e : Refusal) → find ≡ gate_place_in named → linked_gates find named ≡ Ok gates
    → Fails e (fan_out gates) → Fails e (linked_circuit named)
feeds_stop named find gates OutOfMemory finds linked fails = tt
feeds_stop named find gates (At code item) finds linked fails =
    after_links named find gates finds linked ∙ ap (λ (check : Checked (Unit {0})). check >>= (λ few. Ok (circuit_meaning gates))) fails

pub circuit_made : (named : List NamedGate) (find : Finder) (gates : List LogicGate) → find ≡ gate_place_in named → linked_gates find named ≡ Ok gates
    → fan_out gates ≡ Ok tt → linked_circuit named ≡ Ok (circuit_meaning gates)
circuit_made named find gates finds linked few =
    after_links named find gates finds linked ∙ ap (λ (check : Checked (Unit {0})). check >>= (λ few. Ok (circuit_meaning gates))) few
