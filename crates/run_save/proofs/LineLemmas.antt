-- The lines of a state text: what is read was written so, and what is written is read.
use Rattle.std.proofs.Common.{◌≡◌, ℕ, ◌+◌, ◌-◌, ◌^◌, ◌<◌, ◌≤◌, List, ◌++◌, length, None, Ok, refl, sym, ap, subst, ◌∙◌, append_assoc, arith}
use Rattle.std.specs.Prelude.{codes, decimal}
use Rattle.std.specs.List.{flat_map}
use Rattle.event_key.specs.declared.key.Key.{Key}
use Rattle.event_key.specs.Stamps.{stamp_at, time_part, step_part}
use Rattle.model_core.specs.declared.event.Event.{Event}
use Rattle.sim_spec.specs.Firing.{ObjectState}
use Rattle.sim_io.specs.Texts.{stamp_text}
use Rattle.run_save.specs.Lines.{named, object, stamp, key, event_line}
use Rattle.run_save.specs.Rests.{Rest, after, next_line, number, field, each, any_field, counted}
use Rattle.run_save.specs.SavedLaws.{IsLine, FitsObject, FitsKey, FitsEvent}
use Rattle.run_save.specs.StateTexts.{field_text, counted_text, named_text, object_text, key_text, event_text}
use Rattle.run_save.proofs.CheckLemmas.{bound, joined, same_given}
use Rattle.run_save.proofs.InTurnLemmas.{each_from_turn, turn_from_each, IsTaken, IsRead, in_turn-takes, in_turn-reads, flat_map-IsPlain}
use Rattle.run_save.proofs.RestLemmas.{at, IsPlain, after-takes, after-reads, next_line-takes, next_line-reads, number-takes, number-reads, field-takes, field-reads, field_text-IsPlain}

-- ---- texts in a row
regrouped : (a b c d e f g : List ℕ) → a ++ (b ++ (c ++ (d ++ (e ++ (f ++ g))))) ≡ (a ++ (b ++ (c ++ (d ++ (e ++ f))))) ++ g
regrouped a b c d e f g = simp append_assoc

five : (a b c d e f : List ℕ) → a ++ (b ++ (c ++ (d ++ (e ++ f)))) ≡ (a ++ (b ++ (c ++ (d ++ e)))) ++ f
five a b c d e f = simp append_assoc

-- ---- lists of numbers

any-taken : IsTaken (λ _. any_field) field_text (λ _ n. n < 2 ^ 64)
any-taken before rest x reads = let own = field-takes (2 ^ 64 - 1) rest x (omega arith) reads in (own.0, omega (arith, own.1))

any-read : IsRead (λ _. any_field) field_text (λ _ n. n < 2 ^ 64)
any-read before n more line fits plain = (line, field-reads (2 ^ 64 - 1) n more line (omega arith) fits plain)

pub counted-takes : (rest : Rest) (x : List ℕ × Rest) → counted rest ≡ Ok x → (rest.bytes ≡ counted_text x.0 ++ x.1.bytes) × IsLine x.0
unfolding counted counted_text
counted-takes rest x reads =
    let many = bound (any_field rest) _ x reads in
    let size = field-takes (2 ^ 64 - 1) rest many.0 (omega arith) many.1 in
    let numbers = in_turn-takes (λ _. any_field) field_text (λ _ n. n < 2 ^ 64) any-taken many.0.0 None many.0.1 x many.2 in
    let parts : rest.bytes ≡ (field_text (length x.0) ++ flat_map field_text x.0) ++ x.1.bytes =
    size.0 ∙ ap (λ (t : List ℕ). field_text many.0.0 ++ t) numbers.0
    ∙ sym (append_assoc (field_text many.0.0) (flat_map field_text x.0) x.1.bytes)
    ∙ ap (λ k. (field_text k ++ flat_map field_text x.0) ++ x.1.bytes) (sym numbers.1) in
    (parts, record { many = omega (arith, numbers.1, size.1); each = each_from_turn (λ n. n < 2 ^ 64) None x.0 numbers.2 })

pub counted-reads : (ns more : List ℕ) (line : ℕ) → IsLine ns → IsPlain more → (to : ℕ) × (counted (at (counted_text ns ++ more) line) ≡ Ok (ns, at more to))
unfolding counted counted_text
counted-reads ns more line fits plain =
    let numbers = in_turn-reads (λ _. any_field) field_text (λ _ n. n < 2 ^ 64) any-read field_text-IsPlain ns None more line (turn_from_each (λ n. n < 2 ^ 64) None ns fits.each) plain in
    let behind : List ℕ = flat_map field_text ns ++ more in
    let many = fits.many in
    let step : counted (at (field_text (length ns) ++ behind) line) ≡ Ok (ns, at more numbers.0) =
    joined (any_field (at (field_text (length ns) ++ behind) line)) _ (length ns, at behind line) _
    (field-reads (2 ^ 64 - 1) (length ns) behind line (omega arith) many (flat_map-IsPlain (λ _. any_field) field_text (λ _ n. n < 2 ^ 64) field_text-IsPlain ns more plain))
    numbers.1 in
    (numbers.0, ap (λ (bytes : List ℕ). counted (at bytes line)) (append_assoc (field_text (length ns)) (flat_map field_text ns) more) ∙ step)

pub counted_text-IsPlain : (ns more : List ℕ) → IsPlain (counted_text ns ++ more)
unfolding counted_text field_text
counted_text-IsPlain ns more = refl

counted-taken : IsTaken (λ _. counted) counted_text (λ _. IsLine)
counted-taken before rest x reads = counted-takes rest x reads

counted-read : IsRead (λ _. counted) counted_text (λ _. IsLine)
counted-read before ns more line fits plain = counted-reads ns more line fits plain

-- ---- a word and a number

pub named-takes : (word : List ℕ) (most : ℕ) (rest : Rest) (x : ℕ × Rest) → most < 2 ^ 64 → named word most rest ≡ Ok x → (rest.bytes ≡ named_text word x.0 ++ x.1.bytes) × (x.0 ≤ most)
unfolding named named_text
named-takes word most rest x small reads =
    let behind = bound (after word rest) _ x reads in
    let value = bound (field most behind.0) _ x behind.2 in
    let next = bound (next_line value.0.1) _ x value.2 in
    let own = field-takes most behind.0 value.0 small value.1 in
    let parts : rest.bytes ≡ (word ++ (field_text value.0.0 ++ codes "\n")) ++ next.0.bytes =
    after-takes word rest behind.0 behind.1 ∙ ap (λ (t : List ℕ). word ++ t) (own.0 ∙ ap (λ (t : List ℕ). field_text value.0.0 ++ t) (next_line-takes value.0.1 next.0 next.1))
    ∙ simp append_assoc in
    subst (λ (y : ℕ × Rest). (rest.bytes ≡ (word ++ (field_text y.0 ++ codes "\n")) ++ y.1.bytes) × (y.0 ≤ most)) (same_given (value.0.0, next.0) x next.2) (parts, own.1)

pub named-reads : (word : List ℕ) (most n : ℕ) (more : List ℕ) (line : ℕ) → n ≤ most → n < 2 ^ 64 → named word most (at (named_text word n ++ more) line) ≡ Ok (n, at more (line + 1))
unfolding named named_text
named-reads word most n more line within fits =
    let end : List ℕ = codes "\n" ++ more in
    let grouped : (word ++ (field_text n ++ codes "\n")) ++ more ≡ word ++ (field_text n ++ end) = simp append_assoc in
    ap (λ (bytes : List ℕ). named word most (at bytes line)) grouped
    ∙ joined (after word (at (word ++ (field_text n ++ end)) line)) _ (at (field_text n ++ end) line) _ (after-reads word (field_text n ++ end) line)
    (joined (field most (at (field_text n ++ end) line)) _ (n, at end line) _ (field-reads most n end line within fits refl)
    (joined (next_line (at end line)) _ (at more (line + 1)) _ (next_line-reads more line) refl))

-- ---- objects

pub object-takes : (rest : Rest) (x : ObjectState × Rest) → object rest ≡ Ok x → (rest.bytes ≡ object_text x.0 ++ x.1.bytes) × FitsObject x.0
unfolding object object_text
object-takes rest x reads =
    let behind = bound (after (codes "object") rest) _ x reads in
    let sent = bound (any_field behind.0) _ x behind.2 in
    let words = bound (counted sent.0.1) _ x sent.2 in
    let many = bound (any_field words.0.1) _ x words.2 in
    let lines = bound (each counted many.0.0 many.0.1) _ x many.2 in
    let next = bound (next_line lines.0.1) _ x lines.2 in
    let own_sent = field-takes (2 ^ 64 - 1) behind.0 sent.0 (omega arith) sent.1 in
    let own_words = counted-takes sent.0.1 words.0 words.1 in
    let own_many = field-takes (2 ^ 64 - 1) words.0.1 many.0 (omega arith) many.1 in
    let own_lines = in_turn-takes (λ _. counted) counted_text (λ _. IsLine) counted-taken many.0.0 None many.0.1 lines.0 lines.1 in
    let line : List ℕ = field_text sent.0.0 ++ (counted_text words.0.0 ++ (field_text (length lines.0.0) ++ (flat_map counted_text lines.0.0 ++ codes "\n"))) in
    let parts : rest.bytes ≡ (codes "object" ++ line) ++ next.0.bytes =
    after-takes (codes "object") rest behind.0 behind.1 ∙ ap (λ (t : List ℕ). codes "object" ++ t) (own_sent.0
    ∙ ap (λ (t : List ℕ). field_text sent.0.0 ++ t) (own_words.0
    ∙ ap (λ (t : List ℕ). counted_text words.0.0 ++ t) (own_many.0
    ∙ ap (λ (t : List ℕ). field_text many.0.0 ++ t) (own_lines.0
    ∙ ap (λ (t : List ℕ). flat_map counted_text lines.0.0 ++ t) (next_line-takes lines.0.1 next.0 next.1))
    ∙ ap (λ k. field_text k ++ (flat_map counted_text lines.0.0 ++ (codes "\n" ++ next.0.bytes))) (sym own_lines.1))))
    ∙ regrouped (codes "object") (field_text sent.0.0) (counted_text words.0.0) (field_text (length lines.0.0)) (flat_map counted_text lines.0.0) (codes "\n") next.0.bytes in
    let fits : FitsObject (record { cells = record { words = words.0.0; lines = lines.0.0 }; sent = sent.0.0 }) = record {
      cells = record { words = own_words.1; many = omega (arith, own_many.1, own_lines.1); lines = each_from_turn IsLine None lines.0.0 own_lines.2 };
      sent = omega (arith, own_sent.1);
    } in
    subst (λ (y : ObjectState × Rest). (rest.bytes ≡ object_text y.0 ++ y.1.bytes) × FitsObject y.0)
    (same_given (record { cells = record { words = words.0.0; lines = lines.0.0 }; sent = sent.0.0 }, next.0) x next.2) (parts, fits)

pub object-reads : (o : ObjectState) (more : List ℕ) (line : ℕ) → FitsObject o → (to : ℕ) × (object (at (object_text o ++ more) line) ≡ Ok (o, at more to))
unfolding object object_text
object-reads o more line fits =
    let end : List ℕ = codes "\n" ++ more in
    let lines : List ℕ = flat_map counted_text o.cells.lines ++ end in
    let many : List ℕ = field_text (length o.cells.lines) ++ lines in
    let words : List ℕ = counted_text o.cells.words ++ many in
    let sent : List ℕ = field_text o.sent ++ words in
    let fits_sent = fits.sent in
    let fits_many = fits.cells.many in
    let plain_lines = flat_map-IsPlain (λ _. counted) counted_text (λ _. IsLine) counted_text-IsPlain o.cells.lines end refl in
    let read_words = counted-reads o.cells.words many line fits.cells.words (field_text-IsPlain (length o.cells.lines) lines) in
    let read_lines = in_turn-reads (λ _. counted) counted_text (λ _. IsLine) counted-read counted_text-IsPlain o.cells.lines None end read_words.0 (turn_from_each IsLine None o.cells.lines fits.cells.lines) refl in
    let grouped : object_text o ++ more ≡ codes "object" ++ sent =
    sym (regrouped (codes "object") (field_text o.sent) (counted_text o.cells.words) (field_text (length o.cells.lines)) (flat_map counted_text o.cells.lines) (codes "\n") more) in (
      read_lines.0 + 1,
      ap (λ (bytes : List ℕ). object (at bytes line)) grouped
          ∙ joined (after (codes "object") (at (codes "object" ++ sent) line)) _ (at sent line) _ (after-reads (codes "object") sent line)
          (joined (any_field (at sent line)) _ (o.sent, at words line) _ (field-reads (2 ^ 64 - 1) o.sent words line (omega arith) fits_sent (counted_text-IsPlain o.cells.words many))
          (joined (counted (at words line)) _ (o.cells.words, at many read_words.0) _ read_words.1
          (joined (any_field (at many read_words.0)) _ (length o.cells.lines, at lines read_words.0) _ (field-reads (2 ^ 64 - 1) (length o.cells.lines) lines read_words.0 (omega arith) fits_many plain_lines)
          (joined (each counted (length o.cells.lines) (at lines read_words.0)) _ (o.cells.lines, at end read_lines.0) _ read_lines.1
          (joined (next_line (at end read_lines.0)) _ (at more (read_lines.0 + 1)) _ (next_line-reads more read_lines.0) refl))))),
    )

pub object_text-IsPlain : (o : ObjectState) (more : List ℕ) → IsPlain (object_text o ++ more)
unfolding object_text
object_text-IsPlain o more = refl

-- ---- events

time_back : (time step : ℕ) → step ≤ 65535 → time_part (stamp_at time step) ≡ time
time_back time step small = omega arith

step_back : (time step : ℕ) → step ≤ 65535 → step_part (stamp_at time step) ≡ step
step_back time step small = omega arith

stamp_back : (s : ℕ) → stamp_at (time_part s) (step_part s) ≡ s
stamp_back s = omega arith

step_small : (s : ℕ) → step_part s ≤ 65535
step_small s = omega arith

pub stamp-takes : (rest : Rest) (x : ℕ × Rest) → stamp rest ≡ Ok x → (rest.bytes ≡ stamp_text x.0 ++ x.1.bytes) × (time_part x.0 < 2 ^ 47)
unfolding stamp stamp_text
stamp-takes rest x reads =
    let time = bound (number (2 ^ 47 - 1) rest) _ x reads in
    let dot = bound (after (codes ".") time.0.1) _ x time.2 in
    let step = bound (number 65535 dot.0) _ x dot.2 in
    let own_time = number-takes (2 ^ 47 - 1) rest time.0 (omega arith) time.1 in
    let own_step = number-takes 65535 dot.0 step.0 (omega arith) step.1 in
    let is_time = time_back time.0.0 step.0.0 own_step.1 in
    let is_step = step_back time.0.0 step.0.0 own_step.1 in
    let parts : rest.bytes ≡ (decimal (time_part (stamp_at time.0.0 step.0.0)) ++ (codes "." ++ decimal (step_part (stamp_at time.0.0 step.0.0)))) ++ step.0.1.bytes =
    own_time.0 ∙ ap (λ (t : List ℕ). decimal time.0.0 ++ t) (after-takes (codes ".") time.0.1 dot.0 dot.1 ∙ ap (λ (t : List ℕ). codes "." ++ t) own_step.0)
    ∙ sym (append_assoc (decimal time.0.0) (codes "." ++ decimal step.0.0) step.0.1.bytes)
    ∙ ap (λ k. (decimal k ++ (codes "." ++ decimal step.0.0)) ++ step.0.1.bytes) (sym is_time)
    ∙ ap (λ k. (decimal (time_part (stamp_at time.0.0 step.0.0)) ++ (codes "." ++ decimal k)) ++ step.0.1.bytes) (sym is_step) in
    subst (λ (y : ℕ × Rest). (rest.bytes ≡ stamp_text y.0 ++ y.1.bytes) × (time_part y.0 < 2 ^ 47))
    (same_given (stamp_at time.0.0 step.0.0, step.0.1) x step.2) (parts, omega (arith, is_time, own_time.1))

pub stamp-reads : (s : ℕ) (more : List ℕ) (line : ℕ) → time_part s < 2 ^ 47 → IsPlain more → stamp (at (stamp_text s ++ more) line) ≡ Ok (s, at more line)
unfolding stamp stamp_text
stamp-reads s more line early plain =
    let dot : List ℕ = codes "." ++ (decimal (step_part s) ++ more) in
    let small = step_small s in
    ap (λ (bytes : List ℕ). stamp (at bytes line)) (append_assoc (decimal (time_part s)) (codes "." ++ decimal (step_part s)) more)
    ∙ joined (number (2 ^ 47 - 1) (at (decimal (time_part s) ++ dot) line)) _ (time_part s, at dot line) _ (number-reads (2 ^ 47 - 1) (time_part s) dot line (omega arith) (omega arith) refl)
    (joined (after (codes ".") (at dot line)) _ (at (decimal (step_part s) ++ more) line) _ (after-reads (codes ".") (decimal (step_part s) ++ more) line)
    (joined (number 65535 (at (decimal (step_part s) ++ more) line)) _ (step_part s, at more line) _ (number-reads 65535 (step_part s) more line small (omega arith) plain)
    (ap (λ k. Ok (k, at more line)) (stamp_back s))))

-- a key whose numbers the types hold, at a time that is told
pub record IsTellableKey (k : Key) : Type 0 where
  pub time : time_part k.stamp < 2 ^ 47
  pub fits : FitsKey k

pub key-takes : (rest : Rest) (x : Key × Rest) → key rest ≡ Ok x → (rest.bytes ≡ key_text x.0 ++ x.1.bytes) × IsTellableKey x.0
unfolding key key_text
key-takes rest x reads =
    let when = bound (stamp rest) _ x reads in
    let rank = bound (field (2 ^ 32 - 1) when.0.1) _ x when.2 in
    let dest = bound (field (2 ^ 32 - 1) rank.0.1) _ x rank.2 in
    let src = bound (field (2 ^ 32 - 1) dest.0.1) _ x dest.2 in
    let serial = bound (any_field src.0.1) _ x src.2 in
    let own_stamp = stamp-takes rest when.0 when.1 in
    let own_rank = field-takes (2 ^ 32 - 1) when.0.1 rank.0 (omega arith) rank.1 in
    let own_dest = field-takes (2 ^ 32 - 1) rank.0.1 dest.0 (omega arith) dest.1 in
    let own_src = field-takes (2 ^ 32 - 1) dest.0.1 src.0 (omega arith) src.1 in
    let own_serial = field-takes (2 ^ 64 - 1) src.0.1 serial.0 (omega arith) serial.1 in
    let made : Key = record { stamp = when.0.0; rank = rank.0.0; dest = dest.0.0; src = src.0.0; serial = serial.0.0 } in
    let parts : rest.bytes ≡ (stamp_text when.0.0 ++ (field_text rank.0.0 ++ (field_text dest.0.0 ++ (field_text src.0.0 ++ field_text serial.0.0)))) ++ serial.0.1.bytes =
    own_stamp.0 ∙ ap (λ (t : List ℕ). stamp_text when.0.0 ++ t) (own_rank.0
    ∙ ap (λ (t : List ℕ). field_text rank.0.0 ++ t) (own_dest.0
    ∙ ap (λ (t : List ℕ). field_text dest.0.0 ++ t) (own_src.0
    ∙ ap (λ (t : List ℕ). field_text src.0.0 ++ t) own_serial.0)))
    ∙ five (stamp_text when.0.0) (field_text rank.0.0) (field_text dest.0.0) (field_text src.0.0) (field_text serial.0.0) serial.0.1.bytes in
    let fits : IsTellableKey made = record {
      time = own_stamp.1;
      fits = record { rank = omega (arith, own_rank.1); dest = omega (arith, own_dest.1); src = omega (arith, own_src.1); serial = omega (arith, own_serial.1) };
    } in
    subst (λ (y : Key × Rest). (rest.bytes ≡ key_text y.0 ++ y.1.bytes) × IsTellableKey y.0) (same_given (made, serial.0.1) x serial.2) (parts, fits)

pub key-reads : (k : Key) (more : List ℕ) (line : ℕ) → IsTellableKey k → IsPlain more → key (at (key_text k ++ more) line) ≡ Ok (k, at more line)
unfolding key key_text
key-reads k more line fits plain =
    let serial : List ℕ = field_text k.serial ++ more in
    let src : List ℕ = field_text k.src ++ serial in
    let dest : List ℕ = field_text k.dest ++ src in
    let rank : List ℕ = field_text k.rank ++ dest in
    let rank_fits = fits.fits.rank in
    let dest_fits = fits.fits.dest in
    let src_fits = fits.fits.src in
    let serial_fits = fits.fits.serial in
    let grouped : key_text k ++ more ≡ stamp_text k.stamp ++ rank =
    sym (five (stamp_text k.stamp) (field_text k.rank) (field_text k.dest) (field_text k.src) (field_text k.serial) more) in
    ap (λ (bytes : List ℕ). key (at bytes line)) grouped
    ∙ joined (stamp (at (stamp_text k.stamp ++ rank) line)) _ (k.stamp, at rank line) _ (stamp-reads k.stamp rank line fits.time (field_text-IsPlain k.rank dest))
    (joined (field (2 ^ 32 - 1) (at rank line)) _ (k.rank, at dest line) _ (field-reads (2 ^ 32 - 1) k.rank dest line (omega arith) (omega arith) (field_text-IsPlain k.dest src))
    (joined (field (2 ^ 32 - 1) (at dest line)) _ (k.dest, at src line) _ (field-reads (2 ^ 32 - 1) k.dest src line (omega arith) (omega arith) (field_text-IsPlain k.src serial))
    (joined (field (2 ^ 32 - 1) (at src line)) _ (k.src, at serial line) _ (field-reads (2 ^ 32 - 1) k.src serial line (omega arith) (omega arith) (field_text-IsPlain k.serial more))
    (joined (any_field (at serial line)) _ (k.serial, at more line) _ (field-reads (2 ^ 64 - 1) k.serial more line (omega arith) serial_fits plain) refl))))

-- an event whose numbers the types hold, at a time that is told
pub record IsTellable (e : Event) : Type 0 where
  pub time : time_part e.key.stamp < 2 ^ 47
  pub fits : FitsEvent e

pub event_line-takes : (rest : Rest) (x : Event × Rest) → event_line rest ≡ Ok x → (rest.bytes ≡ event_text x.0 ++ x.1.bytes) × IsTellable x.0
unfolding event_line event_text
event_line-takes rest x reads =
    let behind = bound (after (codes "event ") rest) _ x reads in
    let whose = bound (key behind.0) _ x behind.2 in
    let kind = bound (field (2 ^ 32 - 1) whose.0.1) _ x whose.2 in
    let a = bound (any_field kind.0.1) _ x kind.2 in
    let b = bound (any_field a.0.1) _ x a.2 in
    let next = bound (next_line b.0.1) _ x b.2 in
    let own_key = key-takes behind.0 whose.0 whose.1 in
    let own_kind = field-takes (2 ^ 32 - 1) whose.0.1 kind.0 (omega arith) kind.1 in
    let own_a = field-takes (2 ^ 64 - 1) kind.0.1 a.0 (omega arith) a.1 in
    let own_b = field-takes (2 ^ 64 - 1) a.0.1 b.0 (omega arith) b.1 in
    let made : Event = record { key = whose.0.0; kind = kind.0.0; a = a.0.0; b = b.0.0 } in
    let line : List ℕ = key_text whose.0.0 ++ (field_text kind.0.0 ++ (field_text a.0.0 ++ (field_text b.0.0 ++ codes "\n"))) in
    let parts : rest.bytes ≡ (codes "event " ++ line) ++ next.0.bytes =
    after-takes (codes "event ") rest behind.0 behind.1 ∙ ap (λ (t : List ℕ). codes "event " ++ t) (own_key.0
    ∙ ap (λ (t : List ℕ). key_text whose.0.0 ++ t) (own_kind.0
    ∙ ap (λ (t : List ℕ). field_text kind.0.0 ++ t) (own_a.0
    ∙ ap (λ (t : List ℕ). field_text a.0.0 ++ t) (own_b.0
    ∙ ap (λ (t : List ℕ). field_text b.0.0 ++ t) (next_line-takes b.0.1 next.0 next.1)))))
    ∙ regrouped (codes "event ") (key_text whose.0.0) (field_text kind.0.0) (field_text a.0.0) (field_text b.0.0) (codes "\n") next.0.bytes in
    let fits : IsTellable made = record {
      time = own_key.1.time;
      fits = record { key = own_key.1.fits; kind = omega (arith, own_kind.1); a = omega (arith, own_a.1); b = omega (arith, own_b.1) };
    } in
    subst (λ (y : Event × Rest). (rest.bytes ≡ event_text y.0 ++ y.1.bytes) × IsTellable y.0) (same_given (made, next.0) x next.2) (parts, fits)

pub event_line-reads : (e : Event) (more : List ℕ) (line : ℕ) → IsTellable e → event_line (at (event_text e ++ more) line) ≡ Ok (e, at more (line + 1))
unfolding event_line event_text
event_line-reads e more line fits =
    let end : List ℕ = codes "\n" ++ more in
    let b : List ℕ = field_text e.b ++ end in
    let a : List ℕ = field_text e.a ++ b in
    let kind : List ℕ = field_text e.kind ++ a in
    let own = fits.fits in
    let kind_fits = own.kind in
    let a_fits = own.a in
    let b_fits = own.b in
    let grouped : event_text e ++ more ≡ codes "event " ++ (key_text e.key ++ kind) =
    sym (regrouped (codes "event ") (key_text e.key) (field_text e.kind) (field_text e.a) (field_text e.b) (codes "\n") more) in
    ap (λ (bytes : List ℕ). event_line (at bytes line)) grouped
    ∙ joined (after (codes "event ") (at (codes "event " ++ (key_text e.key ++ kind)) line)) _ (at (key_text e.key ++ kind) line) _ (after-reads (codes "event ") (key_text e.key ++ kind) line)
    (joined (key (at (key_text e.key ++ kind) line)) _ (e.key, at kind line) _ (key-reads e.key kind line (record { time = fits.time; fits = own.key }) (field_text-IsPlain e.kind a))
    (joined (field (2 ^ 32 - 1) (at kind line)) _ (e.kind, at a line) _ (field-reads (2 ^ 32 - 1) e.kind a line (omega arith) (omega arith) (field_text-IsPlain e.a b))
    (joined (any_field (at a line)) _ (e.a, at b line) _ (field-reads (2 ^ 64 - 1) e.a b line (omega arith) a_fits (field_text-IsPlain e.b end))
    (joined (any_field (at b line)) _ (e.b, at end line) _ (field-reads (2 ^ 64 - 1) e.b end line (omega arith) b_fits refl)
    (joined (next_line (at end line)) _ (at more (line + 1)) _ (next_line-reads more line) refl)))))

pub event_text-IsPlain : (e : Event) (more : List ℕ) → IsPlain (event_text e ++ more)
unfolding event_text
event_text-IsPlain e more = refl
