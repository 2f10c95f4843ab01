-- What holds of a reader's parts, part after part of its input.
use Rattle.std.proofs.Common.{◌≡◌, ◌≢◌, ◌≤◌, ◌+◌, ◌==◌, ℕ, zero, suc, Bool, true, not, cond, List, [], ◌∷◌, ◌++◌, length, take, drop, refl, ap, ◌∙◌, sym, subst, inl, inr, arith, append_assoc, append-nil, length-append, Option, Some, None}
use Rattle.std.proofs.lemmas.Bool.{cases_Bool}
use Rattle.std.proofs.lemmas.List.{take-append-drop}
use Rattle.std.proofs.lemmas.Bool.Decides.{nat_tests}
use Rattle.uac_descriptor.specs.BlockParsing.{AreBytes}
use Rattle.uac_descriptor.specs.declared.block.Block.{Block}
use Rattle.uac_grammar_rules.specs.Fault.{IsShown, at_place, faults_from}
use Rattle.uac_grammar_rules.specs.Grammar.{grammar, start, state_after, first_fault, rule_at_end}
use Rattle.uac_grammar_rules.specs.Sentence.{spellings, IsSentence}
use Rattle.uac_grammar_rules.specs.declared.faults.GrammarFault.{GrammarFault}
use Rattle.uac_grammar_rules.specs.declared.states.State.{State}
use Rattle.uac_grammar_rules.proofs.FaultLemmas.{shown_stays}
use Rattle.uac_grammar_rules.proofs.ProgressLemmas.{nothing_read, block_read, read_faults, read_sentence, fault_at_end}
use Rattle.uac_grammar_rules.proofs.ProgressReachLemmas.{read_reach}
use Rattle.uac_grammar_rules.proofs.SentenceLemmas.{at_place_none, bytes_left, bytes_right}
use Rattle.uac_grammar.specs.declared.fault.ReadStop.{ReadStop}
use Rattle.uac_grammar.specs.declared.fault.ReadStop.TheVariants.{Fault, NoMemory}
use Rattle.uac_grammar.specs.ReaderKept.{IsUnstopped, most_taken, IsPartial, IsGoing, IsReaderOf}
use Rattle.uac_grammar.specs.Stop.{is_shown, shown_within, shown_fault, stop_at, first_stop, shown_stop}
use Rattle.uac_grammar.specs.Verdict.{Shows, IsGoodBlock, AddsBlock, IsUnchanged, Refuses}
use Rattle.uac_grammar.proofs.VerdictLemmas.{partial_one, pending_faults}

-- ---- faults that are shown

-- a fault that n bytes show
pub shown_is : (n : ℕ) (fault : GrammarFault) → IsShown fault n → is_shown n fault ≡ true
shown_is n fault shown = let not_one = shown.0 in let before = shown.1 in grind (arith, nat_tests)

pub is_shown_is : (n : ℕ) (fault : GrammarFault) → is_shown n fault ≡ true → IsShown fault n
is_shown_is n fault e = ((grind (arith, nat_tests)), (grind (arith, nat_tests)))

-- the first fault of bytes that show it
pub shows_fault : (bytes : List ℕ) (fault : GrammarFault) → first_fault bytes ≡ Some fault → IsShown fault (length bytes) → shown_fault bytes ≡ Some fault
shows_fault bytes fault first shown =
    ap (shown_within (length bytes)) first ∙ ap (λ (b : Bool). cond b (Some fault) None) (shown_is (length bytes) fault shown)

shown_first : (n : ℕ) (first : Option GrammarFault) (fault : GrammarFault) → shown_within n first ≡ Some fault → (first ≡ Some fault) × (is_shown n fault ≡ true)
shown_first n None fault e = absurd (cc)
shown_first n (Some other) fault e =
    elim (cases_Bool (is_shown n other)) [
      | inl shown ↦ (let same : Some other ≡ Some fault = sym (ap (λ (b : Bool). cond b (Some other) None) shown) ∙ e in
          let it : other ≡ fault = cc in (same, subst (λ (f : GrammarFault). is_shown n f ≡ true) it shown))
      | inr hidden ↦ absurd (let no : None ≡ Some fault = sym (ap (λ (b : Bool). cond b (Some other) None) hidden) ∙ e in cc)
    ]

-- bytes show a fault exactly where it is the first and more bytes can't change it
pub fault_shown : (bytes : List ℕ) (fault : GrammarFault) → shown_fault bytes ≡ Some fault → (first_fault bytes ≡ Some fault) × IsShown fault (length bytes)
fault_shown bytes fault e =
    let known = shown_first (length bytes) (first_fault bytes) fault e in
    (known.0, is_shown_is (length bytes) fault known.1)

stop_shown : (shown : Option GrammarFault) (s : ReadStop) → stop_at shown ≡ Some s → (fault : GrammarFault) × (s ≡ Fault fault) × (shown ≡ Some fault)
stop_shown None s e = absurd (cc)
stop_shown (Some fault) s e = (fault, (let it : Fault fault ≡ s = cc in sym it), refl)

-- a shown stop is the first
pub shown_stop_first : (bytes : List ℕ) (s : ReadStop) → shown_stop bytes ≡ Some s → first_stop bytes ≡ Some s
shown_stop_first bytes s e =
    let (fault, is, shown) = stop_shown (shown_fault bytes) s e in
    ap stop_at (fault_shown bytes fault shown).0 ∙ ap Some (sym is)

pub no_stop_no_fault : (first : Option GrammarFault) → stop_at first ≡ None → first ≡ None
no_stop_no_fault None e = refl
no_stop_no_fault (Some fault) e = absurd (cc)

-- a fault that bytes show is shown by more
shown_fault_stays : (bytes more : List ℕ) (fault : GrammarFault) → shown_fault bytes ≡ Some fault → shown_fault (bytes ++ more) ≡ Some fault
unfolding first_fault
shown_fault_stays bytes more fault e =
    let (first, shown) = fault_shown bytes fault e in
    let before = shown.1 in
    shows_fault (bytes ++ more) fault (shown_stays grammar start 0 bytes more fault first (shown.0, omega (arith, before)))
    (shown.0, omega (arith, before, length-append bytes more))

pub shown_stop_stays : (bytes more : List ℕ) (s : ReadStop) → shown_stop bytes ≡ Some s → shown_stop (bytes ++ more) ≡ Some s
shown_stop_stays bytes more s e =
    let (fault, is, shown) = stop_shown (shown_fault bytes) s e in
    ap stop_at (shown_fault_stays bytes more fault shown) ∙ ap Some (sym is)

-- ---- a reader that goes on

bytes_both : (xs ys : List ℕ) → AreBytes xs → AreBytes ys → AreBytes (xs ++ ys)
bytes_both [] ys left right i = right i
bytes_both (x ∷ xs) ys left right zero = left 0
bytes_both (x ∷ xs) ys left right (suc i) = bytes_both xs ys (λ j. left (suc j)) right i

no_bytes : AreBytes []
no_bytes i = omega arith

pub going_start : IsGoing [] start 0 []
going_start = record { read = nothing_read; bytes = no_bytes; fits = omega arith; partial = partial_one [] (omega arith) }

-- a fault, whatever follows
pub going_shows : (blocks : List Block) (s : State) (place : ℕ) (pending bytes : List ℕ) (fault : GrammarFault) → IsGoing blocks s place pending
    → Shows s place bytes fault → (rest : List ℕ) → shown_stop (spellings blocks ++ (bytes ++ rest)) ≡ Some (Fault fault)
going_shows blocks s place pending bytes fault going shows rest =
    let all : List ℕ = spellings blocks ++ (bytes ++ rest) in
    let first : first_fault all ≡ Some fault = read_faults blocks s place going.read (bytes ++ rest) ∙ shows.first rest in
    let before = shows.shown.1 in
    let at = going.read.place_is in
    let shown : IsShown fault (length all) = (
      shows.shown.0,
      omega (arith, before, at, length-append (spellings blocks) (bytes ++ rest), length-append bytes rest),
    ) in
    ap stop_at (shows_fault all fault first shown)

-- a block more
pub going_keeps : (blocks : List Block) (s : State) (place : ℕ) (pending bytes : List ℕ) (b : Block) → IsGoing blocks s place pending
    → AreBytes bytes → IsGoodBlock s place bytes b → IsGoing (blocks ++ b ∷ []) (state_after s place b) (place + length bytes) []
going_keeps blocks s place pending bytes b going are kept =
    let (read, spelt) = block_read blocks s place bytes b going.read are kept.read kept.unbroken in
    let all : AreBytes (spellings (blocks ++ b ∷ [])) =
    subst AreBytes (sym spelt) (bytes_both (spellings blocks) bytes (bytes_left (spellings blocks) pending going.bytes) are) in
    record {
      read = read;
      bytes = subst AreBytes (sym (append-nil (spellings (blocks ++ b ∷ [])))) all;
      fits = read_reach (blocks ++ b ∷ []) (state_after s place b) (place + length bytes) read all;
      partial = partial_one [] (omega arith);
    }

-- more bytes of a block
pub going_partial : (blocks : List Block) (s : State) (place : ℕ) (pending bytes : List ℕ) → IsGoing blocks s place pending
    → AreBytes bytes → IsPartial bytes → IsGoing blocks s place bytes
going_partial blocks s place pending bytes going are partial = record {
  read = going.read;
  bytes = bytes_both (spellings blocks) bytes (bytes_left (spellings blocks) pending going.bytes) are;
  fits = going.fits;
  partial = partial;
}

-- the same, of blocks and a state that are still so
pub going_stays : (old new : List Block) (s t : State) (place : ℕ) (pending bytes : List ℕ) → IsGoing old s place pending → AreBytes bytes
    → IsPartial bytes → IsUnchanged old new s t → IsGoing new t place bytes
going_stays old new s t place pending bytes going are partial same =
    subst (λ (bs : List Block). IsGoing bs t place bytes) (sym same.blocks)
    (subst (λ (u : State). IsGoing old u place bytes) (sym same.state) (going_partial old s place pending bytes going are partial))

-- after a block that is kept
pub going_more : (old new : List Block) (s t : State) (place : ℕ) (pending bytes : List ℕ) → IsGoing old s place pending → AreBytes bytes
    → AddsBlock old new s t place bytes → IsGoing new t (place + length bytes) []
going_more old new s t place pending bytes going are keeps =
    subst (λ (bs : List Block). IsGoing bs t (place + length bytes) []) (sym keeps.more)
    (subst (λ (u : State). IsGoing (old ++ keeps.block ∷ []) u (place + length bytes) []) (sym keeps.following)
    (going_keeps old s place pending bytes keeps.block going are keeps.kept))

-- the first of some bytes
front_bytes : (n : ℕ) (bytes : List ℕ) → AreBytes bytes → AreBytes (take n bytes)
front_bytes zero bytes are i = omega arith
front_bytes (suc n) [] are i = omega arith
front_bytes (suc n) (x ∷ xs) are zero = are 0
front_bytes (suc n) (x ∷ xs) are (suc i) = front_bytes n xs (λ j. are (suc j)) i

-- the bytes of a block and the first of some more
pub more_bytes : (front pending : List ℕ) (n : ℕ) (bytes : List ℕ) → AreBytes (front ++ pending) → AreBytes bytes → AreBytes (pending ++ take n bytes)
more_bytes front pending n bytes are more = bytes_both pending (take n bytes) (bytes_right front pending are) (front_bytes n bytes more)

-- the bytes that were taken, with those that end a block
pub going_taken : (blocks : List Block) (s : State) (place : ℕ) (pending more : List ℕ) (b : Block) → IsGoing blocks s place pending
    → AreBytes (pending ++ more) → IsGoodBlock s place (pending ++ more) b → spellings (blocks ++ b ∷ []) ++ [] ≡ (spellings blocks ++ pending) ++ more
going_taken blocks s place pending more b going are kept =
    append-nil (spellings (blocks ++ b ∷ []))
    ∙ ((block_read blocks s place (pending ++ more) b going.read are kept.read kept.unbroken).1 ∙ sym (append_assoc (spellings blocks) pending more))

pub taken_kept : (old new : List Block) (s t : State) (place : ℕ) (pending more : List ℕ) → IsGoing old s place pending → AreBytes (pending ++ more)
    → AddsBlock old new s t place (pending ++ more) → spellings new ++ [] ≡ (spellings old ++ pending) ++ more
taken_kept old new s t place pending more going are keeps =
    ap (λ (bs : List Block). spellings bs ++ []) keeps.more ∙ going_taken old s place pending more keeps.block going are keeps.kept

-- and with those that show a fault, whatever follows
pub taken_more : (blocks : List Block) (pending bytes : List ℕ) (n : ℕ)
    → (spellings blocks ++ pending) ++ bytes ≡ spellings blocks ++ ((pending ++ take n bytes) ++ drop n bytes)
taken_more blocks pending bytes n =
    append_assoc (spellings blocks) pending bytes
    ∙ ap (λ (xs : List ℕ). spellings blocks ++ xs)
    (ap (λ (xs : List ℕ). pending ++ xs) (sym (take-append-drop n bytes)) ∙ sym (append_assoc pending (take n bytes) (drop n bytes)))

-- ---- the end

-- the first fault at the end
pub going_end : (blocks : List Block) (s : State) (place : ℕ) (pending : List ℕ) → IsGoing blocks s place pending
    → first_fault (spellings blocks ++ pending) ≡ faults_from grammar s place pending
going_end blocks s place pending going = read_faults blocks s place going.read pending

end_hidden : (n place : ℕ) (rule : Option ℕ) → n ≡ place → shown_within n (at_place place rule) ≡ None
end_hidden n place None e = refl
end_hidden n place (Some rule) e =
    elim (cases_Bool (not (rule == 1))) [
      | inl other ↦ grind (arith, nat_tests)
      | inr one ↦ grind (arith, nat_tests)
    ]

-- nothing is shown while a reader goes on
pub going_hidden : (blocks : List Block) (s : State) (place : ℕ) (pending : List ℕ) → IsGoing blocks s place pending → shown_stop (spellings blocks ++ pending) ≡ None
going_hidden blocks s place [] going =
    let n : ℕ = length (spellings blocks ++ []) in
    let at = going.read.place_is in
    ap (λ (o : Option GrammarFault). stop_at (shown_within n o)) (going_end blocks s place [] going ∙ fault_at_end s place)
    ∙ ap stop_at (end_hidden n place (rule_at_end s place) (omega (arith, at, ap length (append-nil (spellings blocks)))))
going_hidden blocks s place (x ∷ xs) going =
    let n : ℕ = length (spellings blocks ++ x ∷ xs) in
    ap (λ (o : Option GrammarFault). stop_at (shown_within n o))
    (going_end blocks s place (x ∷ xs) going ∙ pending_faults s place (x ∷ xs) going.partial (omega arith))

-- and few bytes were taken
pub going_bounded : (blocks : List Block) (s : State) (place : ℕ) (pending : List ℕ) → IsGoing blocks s place pending → length (spellings blocks ++ pending) ≤ most_taken
going_bounded blocks s place pending going =
    let few = going.partial.short in
    let low = going.fits in
    let at = going.read.place_is in
    omega (arith, few, low, at, length-append (spellings blocks) pending)

-- without a fault at the end the blocks are a sentence
pub going_sentence : (blocks : List Block) (s : State) (place : ℕ) (pending : List ℕ) → IsGoing blocks s place pending
    → faults_from grammar s place pending ≡ None → IsSentence (spellings blocks ++ pending) blocks
going_sentence blocks s place [] going e =
    let fine : rule_at_end s place ≡ None = at_place_none place (rule_at_end s place) (sym (fault_at_end s place) ∙ e) in
    subst (λ (bytes : List ℕ). IsSentence bytes blocks) (sym (append-nil (spellings blocks)))
    (read_sentence blocks s place going.read (bytes_left (spellings blocks) [] going.bytes) fine)
going_sentence blocks s place (x ∷ xs) going e =
    absurd (let cut = pending_faults s place (x ∷ xs) going.partial (omega arith) in
    let no : None ≡ Some (record { rule = 1; at = place }) = sym e ∙ cut in cc)

-- ---- the reader's value

pub reading_stopped : (blocks : List Block) (s : State) (place : ℕ) (pending bytes : List ℕ) (fault : GrammarFault) → IsGoing blocks s place pending
    → Shows s place bytes fault → IsReaderOf blocks s place bytes (Some (Fault fault))
reading_stopped blocks s place pending bytes fault going shows = record {
  going = λ (none : Some (Fault fault) ≡ None). absurd (cc);
  stopped = λ (stop : ReadStop) (same : Some (Fault fault) ≡ Some stop) (_ : stop ≢ NoMemory) (rest : List ℕ).
      going_shows blocks s place pending bytes fault going shows rest ∙ same;
}

-- bytes that are refused
pub reading_refused : (old new : List Block) (s t : State) (place : ℕ) (pending bytes : List ℕ) (stop : ReadStop) → IsGoing old s place pending
    → Refuses old new s t place bytes stop → IsReaderOf new t place bytes (Some stop)
reading_refused old new s t place pending bytes (Fault fault) going (shows, same) =
    subst (λ (bs : List Block). IsReaderOf bs t place bytes (Some (Fault fault))) (sym same.blocks)
    (subst (λ (u : State). IsReaderOf old u place bytes (Some (Fault fault))) (sym same.state)
    (reading_stopped old s place pending bytes fault going shows))
reading_refused old new s t place pending bytes NoMemory going _ = record {
  going = λ (none : Some NoMemory ≡ None). absurd (cc);
  stopped = λ (stop : ReadStop) (same : Some NoMemory ≡ Some stop) (other : stop ≢ NoMemory) (rest : List ℕ).
      absurd (other (let it : NoMemory ≡ stop = cc in sym it));
}

pub refused_shows : (old new : List Block) (s t : State) (place : ℕ) (pending bytes : List ℕ) (stop : ReadStop) → IsGoing old s place pending
    → Refuses old new s t place bytes stop → stop ≢ NoMemory → (rest : List ℕ) → shown_stop (spellings old ++ (bytes ++ rest)) ≡ Some stop
refused_shows old new s t place pending bytes (Fault fault) going (shows, same) other rest = going_shows old s place pending bytes fault going shows rest
refused_shows old new s t place pending bytes NoMemory going _ other rest = absurd (other refl)

pub reading_going : (blocks : List Block) (s : State) (place : ℕ) (pending : List ℕ) (stop : Option ReadStop) → stop ≡ None
    → IsGoing blocks s place pending → IsReaderOf blocks s place pending stop
reading_going blocks s place pending stop e going = record {
  going = λ (_ : stop ≡ None). going;
  stopped = λ (other : ReadStop) (some : stop ≡ Some other) (_ : other ≢ NoMemory) (rest : List ℕ). absurd (cc);
}

pub unstopped : (blocks : List Block) (s : State) (place : ℕ) (pending : List ℕ) (stop : Option ReadStop) → IsReaderOf blocks s place pending stop → stop ≡ None
    → IsUnstopped (record { taken = spellings blocks ++ pending; stop = stop })
unstopped blocks s place pending stop reading e = record {
  no_stop = e;
  nothing_shown = going_hidden blocks s place pending (reading.going e);
  bounded = going_bounded blocks s place pending (reading.going e);
}
