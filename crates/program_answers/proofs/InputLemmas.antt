-- What a command answers to its input, and to the words that ask for it.
use Rattle.std.proofs.Common.{◌≡◌, ℕ, Bool, true, false, List, [], drop, Option, Some, None, inl, inr, refl, sym, ap, ◌∙◌, subst}
use Rattle.std.specs.Prelude.{IfSome}
use Rattle.sim_io.proofs.TakenLemmas.{Appends-nil}
use Rattle.sim_io.specs.declared.streams.sink.Sink.{Ghosts as Sink}
use Rattle.sim_io.specs.declared.streams.source.Source.{Ghosts as Source}
use Rattle.sim_io.specs.declared.words.WordFault.{WordFault}
use Rattle.sim_io.specs.Causes.{Rose}
use Rattle.sim_io.specs.declared.streams.reading.ReadEnd.{ReadEnd}
use Rattle.sim_io.specs.Transfers.{TakesUpTo}
use Rattle.sim_text.proofs.WrittenLemmas.{no_prefix}
use Rattle.program_answers.specs.declared.ending.Ending.{Ending}
use Rattle.program_answers.specs.declared.ending.Ending.TheVariants.{RefusedWords, ReadFault, OutOfMemory}
use Rattle.program_answers.specs.Answer.{Answer, Asked, answer_to_fault}
use Rattle.program_answers.specs.Answered.{EndsWith, EndsModel, EndsInput, EndsAsked, HasGiven}
use Rattle.program_answers.specs.Endings.{ending_of_read}
use Rattle.program_answers.proofs.EndingLemmas.{no_memory_left}

-- what holds of each value, or follows from what does
pub some_all : {A : Type 0} {P : A → Type 0} (o : Option A) → ((x : A) → P x) → IfSome o P
some_all None all = tt
some_all (Some x) all = all x

pub some_map : {A : Type 0} {P Q : A → Type 0} (o : Option A) → ((x : A) → P x → Q x) → IfSome o P → IfSome o Q
some_map None f p = tt
some_map (Some x) f p = f x p

-- what holds of a value that is there holds of that one
at_some : {A : Type 0} (P : A → Type 0) (o : Option A) (x : A) → o ≡ Some x → IfSome o P → P x
at_some {A} P o x is holds = let Q : Option A → Type 0 = λ o. IfSome o P in subst Q is holds

-- what is and isn't
both_ways : (b : Bool) → b ≡ true → b ≡ false → ⊥
both_ways b is isnt = let clash : ◌≡◌ {A = Bool} true false = sym is ∙ isnt in cc

module _ {S K : Type 0} (source : Source S) (sink : Sink K) (from to : S) where
  module _ (most : ℕ) (answer_to : List ℕ → Answer) where
    -- the answer to what was read is the one to the whole input
    pub model_input : (old new : K) (ending : Ending) (a : Answer) → EndsModel sink old new ending a
        → IfSome (source.left from) (λ bytes. a ≡ answer_to bytes)
        → source.faults to ≡ source.faults from → IfSome (source.left from) (λ bytes. source.left to ≡ Some (drop most bytes)) → (bytes : List ℕ)
        → HasGiven source from to most bytes
        → a ≡ answer_to bytes → EndsInput source sink from to old new ending most answer_to
    model_input old new ending a ends same quiet taken bytes gives is = record {
      given = inl (record { bytes = bytes; given = gives; answer = subst (EndsWith sink old new ending) is ends.answer });
      answer = some_map (source.left from) (λ bytes is. subst (EndsWith sink old new ending) is ends.answer) same;
      read = λ _. taken;
      reading = record { read_fault = λ is. absurd (ends.no_read_fault is); read_quiet = λ _. quiet };
      writing = ends.writing;
      unwritten = λ either. elim either [ inl is ↦ absurd (ends.no_words is) | inr is ↦ absurd (ends.no_read_fault is) ];
      no_words = ends.no_words;
    }

    -- there was no memory left for it
    pub no_memory_input : (out : K) → source.faults to ≡ source.faults from → EndsInput source sink from to out out OutOfMemory most answer_to
    no_memory_input out quiet =
        let ends : EndsModel sink out out OutOfMemory (answer_to []) = no_memory_left sink out (answer_to []) in
        record {
          answer = some_all (source.left from) (λ bytes. (no_memory_left sink out (answer_to bytes)).answer);
          given = inr (inr (inr refl), refl);
          read = λ done. absurd (done.2 refl);
          reading = record { read_fault = λ is. absurd (ends.no_read_fault is); read_quiet = λ _. quiet };
          writing = ends.writing;
          unwritten = λ _. refl;
          no_words = ends.no_words;
        }

    -- a read failed
    read_fault_input : (out : K) → Rose (source.faults from) (source.faults to) → EndsInput source sink from to out out ReadFault most answer_to
    read_fault_input out rose = record {
      answer = some_all (source.left from) (λ bytes. record {
        given = record { output = λ done. absurd (done.0 refl); same_status = λ done. absurd (done.0 refl); prefix = no_prefix _ _ };
        line = λ done. absurd (done.0 refl);
      });
      given = inr (inl refl, refl);
      read = λ done. absurd (done.0 refl);
      reading = record { read_fault = λ _. rose; read_quiet = λ other. absurd (other refl) };
      writing = record { write_fault = λ is. absurd (let clash : ⊥ = cc in clash); write_quiet = λ _. refl; handed = λ _ kept. kept };
      unwritten = λ _. refl;
      no_words = λ is. cc;
    }

    -- reading ended early
    pub unread_input : (out : K) (end : ReadEnd) (ending : Ending) → ending ≡ ending_of_read end
        → (end ≡ ReadEnd.Failed → Rose (source.faults from) (source.faults to))
        → (end ≡ ReadEnd.OutOfMemory → source.faults to ≡ source.faults from) → EndsInput source sink from to out out ending most answer_to
    unread_input out end ending is rose quiet =
        subst (λ ending. EndsInput source sink from to out out ending most answer_to) (sym is) (by end rose quiet)
      where
        by : (end : ReadEnd) → (end ≡ ReadEnd.Failed → Rose (source.faults from) (source.faults to))
            → (end ≡ ReadEnd.OutOfMemory → source.faults to ≡ source.faults from)
            → EndsInput source sink from to out out (ending_of_read end) most answer_to
        by ReadEnd.Failed rose quiet = read_fault_input out (rose refl)
        by ReadEnd.OutOfMemory rose quiet = no_memory_input out (quiet refl)

-- what is left is what comes behind
pub leaves_rest : (most : ℕ) (old new : Option (List ℕ)) (taken : List ℕ) → TakesUpTo most old new taken
    → IfSome old (λ bytes. new ≡ Some (drop most bytes))
leaves_rest most None new taken took = tt
leaves_rest most (Some bytes) None taken took = absurd took
leaves_rest most (Some bytes) (Some rest) taken took = ap Some took.1

module _ {S K : Type 0} (source : Source S) (sink : Sink K) (asked : Asked) where
  -- the words are refused
  pub refused_ends : (from : S) (out : K) (fault : WordFault) → asked.refused ≡ true → asked.takes ≡ false
      → ((bytes : List ℕ) → answer_to_fault fault ≡ asked.answer bytes)
      → EndsAsked source sink from from out out (RefusedWords fault) asked
  refused_ends from out fault refused untaken same = record {
    answer = λ bytes _. subst (EndsWith sink out out (RefusedWords fault)) (same bytes) (record {
      given = record { output = λ _. Appends-nil _; same_status = λ _. refl; prefix = no_prefix _ _ };
      line = λ _. refl;
    });
    given = λ takes. absurd (both_ways asked.takes takes untaken);
    input = record {
      refused_words = ((λ _. refused), (λ _. refl));
      unread = λ _. refl;
      read = λ _ takes. absurd (both_ways asked.takes takes untaken);
      reads = λ is. absurd (let clash : ⊥ = cc in clash);
    };
    reading = record { read_fault = λ is. absurd (let clash : ⊥ = cc in clash); read_quiet = λ _. refl };
    writing = record { write_fault = λ is. absurd (let clash : ⊥ = cc in clash); write_quiet = λ _. refl; handed = λ _ kept. kept };
    unwritten = λ _. refl;
  }

  module _ (accepted : asked.refused ≡ false) where
    -- they ask for a command that reads nothing
    pub model_ends : (from : S) (old new : K) (ending : Ending) (a : Answer) → EndsModel sink old new ending a → asked.takes ≡ false
        → ((bytes : List ℕ) → a ≡ asked.answer bytes)
        → EndsAsked source sink from from old new ending asked
    model_ends from old new ending a ends untaken same = record {
      answer = λ bytes _. subst (EndsWith sink old new ending) (same bytes) ends.answer;
      given = λ takes. absurd (both_ways asked.takes takes untaken);
      input = record {
        refused_words = ((λ is. absurd (ends.no_words is)), (λ refused. absurd (both_ways asked.refused refused accepted)));
        unread = λ _. refl;
        read = λ _ takes. absurd (both_ways asked.takes takes untaken);
        reads = λ failed. absurd (ends.no_read_fault failed);
      };
      reading = record { read_fault = λ failed. absurd (ends.no_read_fault failed); read_quiet = λ _. refl };
      writing = ends.writing;
      unwritten = λ either. elim either [ inl is ↦ absurd (ends.no_words is) | inr failed ↦ absurd (ends.no_read_fault failed) ];
    }

    -- they ask for one that reads its input
    pub input_ends : (from to : S) (old new : K) (ending : Ending) (most : ℕ) (answer_to : List ℕ → Answer)
        → EndsInput source sink from to old new ending most answer_to → asked.takes ≡ true
        → asked.most ≡ most → ((bytes : List ℕ) → answer_to bytes ≡ asked.answer bytes) → EndsAsked source sink from to old new ending asked
    input_ends from to old new ending most answer_to ends takes taken same = record {
      answer = λ bytes given. elim given [
        | inl left ↦ subst (EndsWith sink old new ending) (same bytes) (at_some (λ (bytes : List ℕ). EndsWith sink old new ending (answer_to bytes)) (source.left from) bytes left ends.answer)
        | inr untaken ↦ absurd (both_ways asked.takes takes untaken)
      ];
      given = λ _. elim ends.given [
        | inl so ↦ inl (record { bytes = so.bytes; given = subst (λ n. HasGiven source from to n so.bytes) (sym taken) so.given; answer = subst (EndsWith sink old new ending) (same so.bytes) so.answer })
        | inr spent ↦ inr spent
      ];
      input = record {
        refused_words = ((λ is. absurd (ends.no_words is)), (λ refused. absurd (both_ways asked.refused refused accepted)));
        unread = λ untaken. absurd (both_ways asked.takes takes untaken);
        read = λ done _. some_map (source.left from) (λ bytes left. left ∙ ap (λ n. Some (drop n bytes)) (sym taken)) (ends.read done);
        reads = λ _. takes;
      };
      reading = ends.reading;
      writing = ends.writing;
      unwritten = ends.unwritten;
    }
