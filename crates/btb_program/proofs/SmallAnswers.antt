-- Answers to small models, computed from the definitions.
use Rattle.std.proofs.Common.{◌≡◌, ℕ, true, false, List, [], ◌∷◌, refl}
use Rattle.std.specs.Prelude.{codes, pos}
use Rattle.std.specs.Str.{is_utf8, chars}
use Rattle.std.specs.Fmt.{digits}
use Rattle.toml.specs.Data.{Data, string, integer, array, table, no_items, item, Members, no_members, member}
use Rattle.toml.specs.Parse.{parse_document, lines, skip_bom}
use Rattle.toml_parser.specs.Lexical.{skip_from, skip_ws}
use Rattle.event_key.specs.Keys.{key_lt, key_cmp}
use Rattle.event_key.specs.Stamps.{next_stamp, has_no_step}
use Rattle.delta_exchange.specs.Changes.{cells_after_all, inverses_of}
use Rattle.random_streams.specs.Laws.{draw, drawn_value, words_read}
use Rattle.model_core.specs.Places.{place_changes}
use Rattle.phold_model.specs.Meaning.{starts_of, hop_delay, hop_dest, hop_next, hop_effect, phold_meaning}
use Rattle.model_text.specs.ModelTexts.{top, family_of, own_models, model_of}
use Rattle.model_text.specs.Phold.{phold, destination}
use Rattle.text_fields.specs.LawTexts.{fixed_law, law}
use Rattle.model_text.specs.Starts.{start_entry}
use Rattle.text_fields.specs.TermsOf.{terms_of}
use Rattle.key_order.specs.Pending.{enqueue, enqueue_all}
use Rattle.sim_spec.specs.Firing.{has_endless_chain, emissions, fired_by, fire}
use Rattle.sim_spec.specs.State.{initial_state}
use Rattle.sim_spec.specs.Run.{next, next_of, next_fired, run, run_for, run_on}
use Rattle.key_order.specs.Stamps.{least_stamp}
use Rattle.sim_spec.specs.Horizon.{bucket_fired, bucket_below, horizon_bucket}
use Rattle.sim_spec.specs.Cut.{emissions_of, objects_after, state_with_done, is_limited, committed_events, after, cut}
use Rattle.sim_spec.specs.Cycles.{cycles_behind, cycles_on, cycles_for, cycles}
use Rattle.sim_io.specs.declared.words.Settings.TheVariants.{One}
use Rattle.sim_io.specs.Texts.{stamp_text, word_text, part_text, place_text, part_line, event_lines, record_lines, stop_line}
use Rattle.sim_io.specs.CycleTexts.{cycle_line, told_cycle, bucket_lines, lines_of_buckets, text}
use Rattle.sim_io.specs.Words.{settings}
use Rattle.sim_text.specs.WholeTexts.{text_from}
use Rattle.program_answers.specs.Answer.{refusal_line}
use Rattle.model_text.specs.Readers.{model_texts}
use Rattle.model_program.specs.Answer.{answered, answer_to_model}
use Rattle.btb_program.specs.Answer.{answer}

number_at : List ℕ → ℕ → Members → Members
number_at key n rest = member key (integer (pos n)) rest

start_at : ℕ → ℕ → Data
start_at time object = table (number_at (codes "at") object (number_at (codes "time") time no_members))

-- two initial events, the second of which ties with what the first one sends, as TOML holds them: keys in their order
tie : Members
tie =
    number_at (codes "end") 9 (number_at (codes "format") 1 (member (codes "model") (string (codes "phold"))
    (member (codes "phold") (table
    (member (codes "delay") (table (member (codes "law") (string (codes "fixed")) (number_at (codes "value") 5 no_members)))
    (number_at (codes "objects") 3
    (member (codes "start") (array (item (start_at 0 1) (item (start_at 5 0) no_items)))
    (member (codes "to") (string (codes "next")) no_members))))) no_members)))

tie_is_settled_by_destination : answer_to_model model_texts (One false) [] (own_models (top tie)) ≡ record {
  output = codes "0.0 p1 hop 5 2\n5.0 p0 hop 5 1\n5.0 p2 hop 5 0\nend 9 events 3\n";
  notes = [];
  status = 0;
}
unfolding digits number_at start_at tie key_lt key_cmp next_stamp has_no_step cells_after_all inverses_of draw drawn_value words_read starts_of hop_delay hop_dest hop_next place_changes hop_effect phold_meaning top phold destination law fixed_law start_entry terms_of enqueue enqueue_all has_endless_chain emissions fired_by fire initial_state next next_of next_fired run run_for run_on least_stamp bucket_fired bucket_below horizon_bucket emissions_of objects_after state_with_done is_limited committed_events after cut cycles_behind cycles_on cycles_for cycles stamp_text word_text part_text place_text part_line event_lines record_lines stop_line cycle_line told_cycle bucket_lines lines_of_buckets text text_from answer_to_model
tie_is_settled_by_destination = refl

an_event_at_the_horizon_waits : answer_to_model model_texts (One true) [] (own_models (top tie)) ≡ record {
  output = codes "0.0 p1 hop 5 2\ncycle 1 horizon 5.0 events 1\n5.0 p0 hop 5 1\n5.0 p2 hop 5 0\ncycle 2 horizon 10.0 events 2\nend 9 events 3\n";
  notes = [];
  status = 0;
}
unfolding digits number_at start_at tie key_lt key_cmp next_stamp has_no_step cells_after_all inverses_of draw drawn_value words_read starts_of hop_delay hop_dest hop_next place_changes hop_effect phold_meaning top phold destination law fixed_law start_entry terms_of enqueue enqueue_all has_endless_chain emissions fired_by fire initial_state next next_of next_fired run run_for run_on least_stamp bucket_fired bucket_below horizon_bucket emissions_of objects_after state_with_done is_limited committed_events after cut cycles_behind cycles_on cycles_for cycles stamp_text word_text part_text place_text part_line event_lines record_lines stop_line cycle_line told_cycle bucket_lines lines_of_buckets text text_from answer_to_model
an_event_at_the_horizon_waits = refl

no_bytes_are_no_model : answer (codes "run" ∷ []) [] ≡ record { output = []; notes = codes "model: 3 Missing item 0\n"; status = 3 }
unfolding digits refusal_line settings answered answer_to_model model_of family_of top is_utf8 chars parse_document lines skip_bom skip_from skip_ws
no_bytes_are_no_model = refl

no_word_is_no_command : answer [] [] ≡ record { output = []; notes = codes "words: no command\n"; status = 2 }
unfolding settings answered
no_word_is_no_command = refl

a_word_too_many : answer (codes "run" ∷ codes "x" ∷ []) [] ≡ record { output = []; notes = codes "words: extra word\n"; status = 2 }
unfolding settings answered
a_word_too_many = refl
