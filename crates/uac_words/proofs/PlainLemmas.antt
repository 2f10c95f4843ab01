-- What the simple command makes of the words is what is said of them one after the other.
use Rattle.std.proofs.Common.{◌≡◌, ◌∙◌, ◌≤◌, ◌&&◌, ap, sym, subst, refl, inl, inr, true, false, Bool, cond, ℕ, List, [], ◌∷◌, ◌++◌, length, map, codes, Option, None, Some, Result, String, string_bytes, arith, true≢false, append-nil}
use Rattle.std.specs.Prelude.{◌+◌, ◌==◌, if◌then◌else◌, option_and_then}
use Rattle.std.specs.Option.{is_some, option_map, option_map_or}
use Rattle.std.specs.List.{AllByRecursion}
use Rattle.std.specs.Str.{IsUtf8}
use Rattle.clap.specs.Words.{Kinds, Row, Rule, Text}
use Rattle.clap.specs.Kinds.{or_else}
use Rattle.clap.specs.Faults.{positional_fault, settle_fault, stray_fault, use_fault}
use Rattle.clap.specs.Walk.{Held, Walk, Waiting, has_row, idle, is_pending, option, positional, pushed, settled, settled_rows, used}
use Rattle.clap.proofs.OnLiterals.{clap_on_literals}
use Rattle.std.proofs.lemmas.Str.{IsUtf8-string_bytes}
use Rattle.uac_words.specs.declared.commands.Invocation.{Invocation}
use Rattle.uac_words.specs.declared.commands.WordsFault.{WordsFault}
use Rattle.uac_words.specs.Asked.{both}
use Rattle.uac_words.specs.ByClap.{IsAnswer, invocation_of, none_refused}
use Rattle.uac_words.specs.Plain.{PartedWords, invocation_at, command_in, parted_words_of, plainly, rack_in, with_bare, with_rack}
use Rattle.uac_words.proofs.PlainRowLemmas.{Reads, found, full_reads, has_found, nothing_read, reads_command, reads_number, reads_rack, used_command, used_number, used_rack}
use Rattle.uac_words.proofs.ByClapRunLemmas.{args, asked_runs, command_arg, full, number_arg, rack_arg, run, top, unless}
use Rattle.uac_words.proofs.PlainWordLemmas.{IsBare, IsStrange, usual, class_of, dashes, option as option_class, strange, valued}

abbrev pub Pending : Type 0
Pending = Option (Text × List Text)

abbrev pub held_at : List Row → Pending → Held
held_at rows pending = record { rows = rows; pending = pending; skip = 0 }

-- the walk between two words
abbrev pub at : List Row → Pending → Waiting → ℕ → Bool → Walk
at rows pending waiting position trailing = record {
  held = held_at rows pending;
  waiting = waiting;
  position = position;
  is_trailing = trailing;
  stopped = None;
}

abbrev pub fault_at : List Row → Pending → Kinds
fault_at rows pending = settle_fault args false (held_at rows pending)

abbrev pub rows_at : List Row → Pending → List Row
rows_at rows pending = settled_rows args pending rows

-- ---- refusals

or_nothing : (k : Kinds) → or_else k [] ≡ k
or_nothing [] = refl
or_nothing (kind ∷ more) = refl

or_refused : (k m : Kinds) → none_refused k ≡ false → none_refused (or_else k m) ≡ false
or_refused [] m e = absurd (true≢false e)
or_refused (kind ∷ more) m e = refl

unless_refused : {X : Type 0} (k : Kinds) (x : Option X) → none_refused k ≡ false → unless k x ≡ None
unless_refused [] x e = absurd (true≢false e)
unless_refused (kind ∷ more) x e = refl

unless_none : {X : Type 0} (k : Kinds) (x : Option X) → k ≡ [] → unless k x ≡ x
unless_none k x e = rw e refl

and_no : (t : Bool) → (t && false) ≡ false
and_no true = refl
and_no false = refl

-- ---- one word

step_dashes : (rows : List Row) (p : Pending) (n : ℕ) (rest : List Text)
    → run (at rows p idle n false) (codes "--" ∷ rest) ≡ run (at rows p idle n true) rest
unfolding clap_on_literals
step_dashes rows p n rest = refl

step_option : (rows : List Row) (p : Pending) (n : ℕ) (rest : List Text) → run (at rows p idle n false) (codes "--rack" ∷ rest)
    ≡ unless (fault_at rows p) (run (at (rows_at rows p) (Some (codes "rack", [])) (option (codes "rack")) n false) rest)
unfolding clap_on_literals
step_option rows p n rest =
    ap (λ k. unless k (run (at (rows_at rows p) (Some (codes "rack", [])) (option (codes "rack")) n false) rest)) (or_nothing (fault_at rows p))

step_valued : (rows : List Row) (p : Pending) (n : ℕ) (v : Text) (rest : List Text) → run (at rows p idle n false) ((codes "--rack=" ++ v) ∷ rest)
    ≡ unless (or_else (fault_at rows p) (use_fault false rack_arg (v ∷ []) (rows_at rows p)))
    (run (at (used rack_arg (v ∷ []) (rows_at rows p)) None idle n false) rest)
unfolding clap_on_literals
step_valued rows p n v rest =
    ap (λ k. unless k (run (at (used rack_arg (v ∷ []) (rows_at rows p)) None idle n false) rest))
    (or_nothing (or_else (fault_at rows p) (use_fault false rack_arg (v ∷ []) (rows_at rows p))))

-- a word that goes to COMMAND, to NUMBER or nowhere
step_command_following : (rows : List Row) (p : Pending) (wt : Waiting) (word : Text) (rest : List Text) → run (at rows p wt 1 true) (word ∷ rest)
    ≡ unless (fault_at rows p) (run (at (rows_at rows p) (Some (codes "command", word ∷ [])) idle 2 true) rest)
unfolding clap_on_literals
step_command_following rows p wt word rest = ap (λ t. unless (if t then [] else fault_at rows p)
    (run (record {
      held = pushed (codes "command") word (if t then held_at rows p else settled args (held_at rows p));
      waiting = idle;
      position = 2;
      is_trailing = true;
      stopped = None;
    }) rest)) (and_no (is_pending command_arg p))

step_number_following : (rows : List Row) (p : Pending) (wt : Waiting) (word : Text) (rest : List Text) → run (at rows p wt 2 true) (word ∷ rest)
    ≡ unless (fault_at rows p) (run (at (rows_at rows p) (Some (codes "number", word ∷ [])) idle 3 true) rest)
unfolding clap_on_literals
step_number_following rows p wt word rest = ap (λ t. unless (if t then [] else fault_at rows p)
    (run (record {
      held = pushed (codes "number") word (if t then held_at rows p else settled args (held_at rows p));
      waiting = idle;
      position = 3;
      is_trailing = true;
      stopped = None;
    }) rest)) (and_no (is_pending number_arg p))

step_third_following : (rows : List Row) (p : Pending) (wt : Waiting) (word : Text) (rest : List Text) → run (at rows p wt 3 true) (word ∷ rest) ≡ None
unfolding clap_on_literals
step_third_following rows p wt word rest = refl

step_command : (rows : List Row) (p : Pending) (word : Text) (rest : List Text) → IsBare word → run (at rows p idle 1 false) (word ∷ rest)
    ≡ unless (fault_at rows p) (run (at (rows_at rows p) (Some (codes "command", word ∷ [])) idle 2 false) rest)
unfolding clap_on_literals
step_command rows p word rest is = rw (is.ends, is.long, is.short) (ap (λ t. unless (if t then [] else fault_at rows p)
    (run (record {
      held = pushed (codes "command") word (if t then held_at rows p else settled args (held_at rows p));
      waiting = idle;
      position = 2;
      is_trailing = false;
      stopped = None;
    }) rest)) (and_no (is_pending command_arg p)))

step_number : (rows : List Row) (p : Pending) (word : Text) (rest : List Text) → IsBare word → run (at rows p idle 2 false) (word ∷ rest)
    ≡ unless (fault_at rows p) (run (at (rows_at rows p) (Some (codes "number", word ∷ [])) idle 3 false) rest)
unfolding clap_on_literals
step_number rows p word rest is = rw (is.ends, is.long, is.short) (ap (λ t. unless (if t then [] else fault_at rows p)
    (run (record {
      held = pushed (codes "number") word (if t then held_at rows p else settled args (held_at rows p));
      waiting = idle;
      position = 3;
      is_trailing = false;
      stopped = None;
    }) rest)) (and_no (is_pending number_arg p)))

step_third : (rows : List Row) (p : Pending) (word : Text) (rest : List Text) → IsBare word → run (at rows p idle 3 false) (word ∷ rest) ≡ None
unfolding clap_on_literals
step_third rows p word rest is = rw (is.ends, is.long, is.short) refl

-- a word that nothing takes as an option
step_strange : (rows : List Row) (p : Pending) (wt : Waiting) (n : ℕ) (word : Text) (rest : List Text) → IsStrange word
    → run (at rows p wt n false) (word ∷ rest) ≡ None
unfolding clap_on_literals
step_strange rows p idle n word rest is = elim is.unknown [
  | inl long ↦ rw (is.ends, long.1, long.2) refl
  | inr short ↦ rw (is.ends, short.3, short.4, short.5) refl
]
step_strange rows p (option id) n word rest is = elim is.unknown [
  | inl long ↦ rw (is.ends, long.1, long.2) refl
  | inr short ↦ rw (is.ends, short.3, short.4, short.5) refl
]
step_strange rows p positional n word rest is = elim is.unknown [
  | inl long ↦ rw (is.ends, long.1, long.2) refl
  | inr short ↦ rw (is.ends, short.3, short.4, short.5) refl
]

-- the word after `--rack`
step_value : (rows : List Row) (n : ℕ) (word : Text) (rest : List Text) → IsBare word
    → run (at rows (Some (codes "rack", [])) (option (codes "rack")) n false) (word ∷ rest) ≡ run (at rows (Some (codes "rack", word ∷ [])) idle n false) rest
unfolding clap_on_literals
step_value rows n word rest is = rw (is.ends, is.long, is.short) refl

step_value_dashes : (rows : List Row) (n : ℕ) (rest : List Text)
    → run (at rows (Some (codes "rack", [])) (option (codes "rack")) n false) (codes "--" ∷ rest)
    ≡ run (at rows (Some (codes "rack", [])) (option (codes "rack")) n true) rest
unfolding clap_on_literals
step_value_dashes rows n rest = refl

step_value_option : (rows : List Row) (n : ℕ) (rest : List Text)
    → run (at rows (Some (codes "rack", [])) (option (codes "rack")) n false) (codes "--rack" ∷ rest) ≡ None
unfolding clap_on_literals
step_value_option rows n rest = refl

step_value_valued : (rows : List Row) (n : ℕ) (v : Text) (rest : List Text)
    → run (at rows (Some (codes "rack", [])) (option (codes "rack")) n false) ((codes "--rack=" ++ v) ∷ rest) ≡ None
unfolding clap_on_literals
step_value_valued rows n v rest = refl

-- ---- what is held is refused where it is settled

abbrev slot_fault : Bool → Bool → Held → Kinds
slot_fault x y h =
    option_map_or (λ (a : Rule). positional_fault args false a h) (cond x (Some command_arg) (cond y (Some number_arg) None)) (stray_fault top)

slot_refused : (x y : Bool) (rows : List Row) (p : Pending) → none_refused (fault_at rows p) ≡ false → none_refused (slot_fault x y (held_at rows p)) ≡ false
slot_refused true y rows p e = ap (λ t. none_refused (if t then [] else fault_at rows p)) (and_no (is_pending command_arg p)) ∙ e
slot_refused false true rows p e = ap (λ t. none_refused (if t then [] else fault_at rows p)) (and_no (is_pending number_arg p)) ∙ e
slot_refused false false rows p e = refl

refused_following : (words : List Text) (rows : List Row) (p : Pending) (wt : Waiting) (n : ℕ) → none_refused (fault_at rows p) ≡ false
    → run (at rows p wt n true) words ≡ None
unfolding clap_on_literals
refused_following [] rows p wt n e = unless_refused (fault_at rows p) _ e
refused_following (word ∷ rest) rows p wt n e = unless_refused (slot_fault (1 == n) (2 == n) (held_at rows p)) _ (slot_refused (1 == n) (2 == n) rows p e)

refused_bare : (rows : List Row) (p : Pending) (n : ℕ) (word : Text) (rest : List Text) → IsBare word → none_refused (fault_at rows p) ≡ false
    → run (at rows p idle n false) (word ∷ rest) ≡ None
unfolding clap_on_literals
refused_bare rows p n word rest is e =
    rw (is.ends, is.long, is.short) (unless_refused (slot_fault (1 == n) (2 == n) (held_at rows p)) _ (slot_refused (1 == n) (2 == n) rows p e))

refused : (words : List Text) (rows : List Row) (p : Pending) (n : ℕ) → AllByRecursion IsUtf8 words → none_refused (fault_at rows p) ≡ false
    → run (at rows p idle n false) words ≡ None
refused [] rows p n valid e = unless_refused (fault_at rows p) _ e
refused (word ∷ rest) rows p n valid e = elim (class_of word valid.0) [
  | dashes is ↦ subst (λ w. run (at rows p idle n false) (w ∷ rest) ≡ None) (sym is) (step_dashes rows p n rest ∙ refused_following rest rows p idle n e)
  | option_class is ↦ subst (λ w. run (at rows p idle n false) (w ∷ rest) ≡ None) (sym is) (step_option rows p n rest ∙ unless_refused (fault_at rows p) _ e)
  | valued v is ↦ subst (λ w. run (at rows p idle n false) (w ∷ rest) ≡ None) (sym is)
      (step_valued rows p n v rest ∙ unless_refused (or_else (fault_at rows p) (use_fault false rack_arg (v ∷ []) (rows_at rows p))) _
      (or_refused (fault_at rows p) (use_fault false rack_arg (v ∷ []) (rows_at rows p)) e))
  | strange is ↦ step_strange rows p idle n word rest is
  | usual is ↦ refused_bare rows p n word rest is e
]

-- ---- one use of an argument

unused : (id : Text) (rows : List Row) → found id rows ≡ None → has_row id rows ≡ false
unused id rows e = has_found id rows ∙ ap is_some e

fresh_command : (value : Text) (rows : List Row) → has_row (codes "command") rows ≡ false → fault_at rows (Some (codes "command", value ∷ [])) ≡ []
fresh_command value rows e = rw e refl

fresh_number : (value : Text) (rows : List Row) → has_row (codes "number") rows ≡ false → fault_at rows (Some (codes "number", value ∷ [])) ≡ []
fresh_number value rows e = rw e refl

fresh_rack : (value : Text) (rows : List Row) → has_row (codes "rack") rows ≡ false → use_fault false rack_arg (value ∷ []) rows ≡ []
fresh_rack value rows e = rw e refl

used_again : (value : Text) (rows : List Row) → has_row (codes "rack") rows ≡ true → none_refused (use_fault false rack_arg (value ∷ []) rows) ≡ false
used_again value rows e = rw e refl

-- ---- the words one after the other

-- what the words ask for, after others that were put in these places
abbrev pub ended : List Text → List Text → Option PartedWords → Option Invocation
ended bare racks None = None
ended bare racks (Some places) = both (command_in (bare ++ places.bare)) (rack_in (racks ++ places.racks))

no_rack : (o : _) → both o None ≡ None
no_rack None = refl
no_rack (Some command) = refl

second_rack : (bare : List Text) (racks value : Text) (o : Option PartedWords) → ended bare (racks ∷ []) (option_map (with_rack value) o) ≡ None
second_rack bare racks value None = refl
second_rack bare racks value (Some places) = no_rack (command_in (bare ++ places.bare))

first_rack : (bare : List Text) (value : Text) (o : Option PartedWords) → ended bare [] (option_map (with_rack value) o) ≡ ended bare (value ∷ []) o
first_rack bare value None = refl
first_rack bare value (Some places) = refl

third_bare : (a b word : Text) (racks : List Text) (o : Option PartedWords) → ended (a ∷ b ∷ []) racks (option_map (with_bare word) o) ≡ None
third_bare a b word racks None = refl
third_bare a b word racks (Some places) = refl

second_bare : (a word : Text) (racks : List Text) (o : Option PartedWords) → ended (a ∷ []) racks (option_map (with_bare word) o) ≡ ended (a ∷ word ∷ []) racks o
second_bare a word racks None = refl
second_bare a word racks (Some places) = refl

first_bare : (word : Text) (racks : List Text) (o : Option PartedWords) → ended [] racks (option_map (with_bare word) o) ≡ ended (word ∷ []) racks o
first_bare word racks None = refl
first_bare word racks (Some places) = refl

-- the walk stands after words for these places
pub record Stands (rows : List Row) (p : Pending) (bare racks : List Text) : Type 0 where
  pub clean : fault_at rows p ≡ []
  pub reads : Reads (rows_at rows p) bare racks
  pub few : length bare ≤ 2
  pub once : length racks ≤ 1

at_end : (rows : List Row) (p : Pending) (bare racks : List Text) → Stands rows p bare racks
    → option_and_then full (unless (fault_at rows p) (Some (rows_at rows p))) ≡ ended bare racks (Some (record { bare = []; racks = [] }))
at_end rows p bare racks s =
    ap (option_and_then full) (unless_none (fault_at rows p) (Some (rows_at rows p)) s.clean) ∙ full_reads (rows_at rows p) bare racks s.reads s.few s.once
    ∙ ap (λ xs. both (command_in xs) (rack_in racks)) (sym (append-nil bare))
    ∙ ap (λ xs. both (command_in (bare ++ [])) (rack_in xs)) (sym (append-nil racks))

stands_command : (word : Text) (rows : List Row) (racks : List Text) → Reads rows [] racks → length racks ≤ 1
    → Stands rows (Some (codes "command", word ∷ [])) (word ∷ []) racks
stands_command word rows racks reads once =
    let new = unused (codes "command") rows reads.command in
    record {
      clean = fresh_command word rows new;
      reads = subst (λ xs. Reads xs (word ∷ []) racks) (sym (used_command word rows new)) (reads_command word rows racks reads);
      few = omega arith;
      once = once;
    }

stands_number : (a word : Text) (rows : List Row) (racks : List Text) → Reads rows (a ∷ []) racks → length racks ≤ 1
    → Stands rows (Some (codes "number", word ∷ [])) (a ∷ word ∷ []) racks
stands_number a word rows racks reads once =
    let new = unused (codes "number") rows reads.number in
    record {
      clean = fresh_number word rows new;
      reads = subst (λ xs. Reads xs (a ∷ word ∷ []) racks) (sym (used_number word rows new)) (reads_number a word rows racks reads);
      few = omega arith;
      once = once;
    }

pub following : (words : List Text) (rows : List Row) (p : Pending) (wt : Waiting) (ps racks : List Text) → Stands rows p ps racks
    → option_and_then full (run (at rows p wt (length ps + 1) true) words) ≡ ended ps racks (Some (record { bare = words; racks = [] }))
following [] rows p wt ps racks s = at_end rows p ps racks s
following (word ∷ rest) rows p wt [] racks s =
    ap (option_and_then full) (step_command_following rows p wt word rest ∙ unless_none (fault_at rows p) _ s.clean)
    ∙ following rest (rows_at rows p) (Some (codes "command", word ∷ [])) idle (word ∷ []) racks (stands_command word (rows_at rows p) racks s.reads s.once)
following (word ∷ rest) rows p wt (a ∷ []) racks s =
    ap (option_and_then full) (step_number_following rows p wt word rest ∙ unless_none (fault_at rows p) _ s.clean)
    ∙ following rest (rows_at rows p) (Some (codes "number", word ∷ [])) idle (a ∷ word ∷ []) racks (stands_number a word (rows_at rows p) racks s.reads s.once)
following (word ∷ rest) rows p wt (a ∷ b ∷ []) racks s = ap (option_and_then full) (step_third_following rows p wt word rest)
following (word ∷ rest) rows p wt (a ∷ b ∷ third ∷ more) racks s = let few = s.few in absurd (omega arith)

Ready : List Text → Type 0
Ready words =
    (rows : List Row) (p : Pending) (ps racks : List Text) → AllByRecursion IsUtf8 words → Stands rows p ps racks
    → option_and_then full (run (at rows p idle (length ps + 1) false) words) ≡ ended ps racks (parted_words_of false words)

-- the walk has met `--rack`, and its value comes next
Waits : List Text → Type 0
Waits words =
    (rows : List Row) (ps racks : List Text) → AllByRecursion IsUtf8 words → Reads rows ps racks → length ps ≤ 2 → length racks ≤ 1
    → option_and_then full (run (at rows (Some (codes "rack", [])) (option (codes "rack")) (length ps + 1) false) words) ≡ ended ps racks (parted_words_of true words)

ready_dashes : (rest : List Text) (rows : List Row) (p : Pending) (ps racks : List Text) → Stands rows p ps racks
    → option_and_then full (run (at rows p idle (length ps + 1) false) (codes "--" ∷ rest)) ≡ ended ps racks (parted_words_of false (codes "--" ∷ rest))
ready_dashes rest rows p ps racks s =
    ap (option_and_then full) (step_dashes rows p (length ps + 1) rest) ∙ following rest rows p idle ps racks s

ready_option : (rest : List Text) → Waits rest → AllByRecursion IsUtf8 rest → (rows : List Row) (p : Pending) (ps racks : List Text) → Stands rows p ps racks
    → option_and_then full (run (at rows p idle (length ps + 1) false) (codes "--rack" ∷ rest)) ≡ ended ps racks (parted_words_of false (codes "--rack" ∷ rest))
unfolding Waits
ready_option rest waits valid rows p ps racks s =
    ap (option_and_then full) (step_option rows p (length ps + 1) rest ∙ unless_none (fault_at rows p) _ s.clean)
    ∙ waits (rows_at rows p) ps racks valid s.reads s.few s.once

-- the value of a rack joins the rows
stands_rack : (value : Text) (rows : List Row) (ps : List Text) → Reads rows ps [] → length ps ≤ 2
    → Stands (used rack_arg (value ∷ []) rows) None ps (value ∷ [])
stands_rack value rows ps reads few =
    let new = unused (codes "rack") rows reads.rack in
    record {
      clean = refl;
      reads = subst (λ xs. Reads xs ps (value ∷ [])) (sym (used_rack value rows new)) (reads_rack value rows ps reads);
      few = few;
      once = omega arith;
    }

stands_rack_following : (value : Text) (rows : List Row) (ps : List Text) → Reads rows ps [] → length ps ≤ 2
    → Stands rows (Some (codes "rack", value ∷ [])) ps (value ∷ [])
stands_rack_following value rows ps reads few =
    let new = unused (codes "rack") rows reads.rack in
    record {
      clean = fresh_rack value rows new;
      reads = subst (λ xs. Reads xs ps (value ∷ [])) (sym (used_rack value rows new)) (reads_rack value rows ps reads);
      few = few;
      once = omega arith;
    }

ready_valued : (v : Text) (rest : List Text) → Ready rest → AllByRecursion IsUtf8 rest → (rows : List Row) (p : Pending) (ps racks : List Text)
    → Stands rows p ps racks
    → option_and_then full (run (at rows p idle (length ps + 1) false) ((codes "--rack=" ++ v) ∷ rest)) ≡ ended ps racks (parted_words_of false ((codes "--rack=" ++ v) ∷ rest))
unfolding Ready
ready_valued v rest ready valid rows p ps [] s =
    let fresh = fresh_rack v (rows_at rows p) (unused (codes "rack") (rows_at rows p) s.reads.rack) in
    ap (option_and_then full) (step_valued rows p (length ps + 1) v rest
    ∙ ap (λ k. unless (or_else k (use_fault false rack_arg (v ∷ []) (rows_at rows p))) (run (at (used rack_arg (v ∷ []) (rows_at rows p)) None idle (length ps + 1) false) rest)) s.clean
    ∙ unless_none (use_fault false rack_arg (v ∷ []) (rows_at rows p)) _ fresh)
    ∙ ready (used rack_arg (v ∷ []) (rows_at rows p)) None ps (v ∷ []) valid (stands_rack v (rows_at rows p) ps s.reads s.few)
    ∙ sym (first_rack ps v (parted_words_of false rest))
ready_valued v rest ready valid rows p ps (value ∷ []) s =
    let again = used_again v (rows_at rows p) (has_found (codes "rack") (rows_at rows p) ∙ ap is_some s.reads.rack) in
    ap (option_and_then full) (step_valued rows p (length ps + 1) v rest
    ∙ ap (λ k. unless (or_else k (use_fault false rack_arg (v ∷ []) (rows_at rows p))) (run (at (used rack_arg (v ∷ []) (rows_at rows p)) None idle (length ps + 1) false) rest)) s.clean
    ∙ unless_refused (use_fault false rack_arg (v ∷ []) (rows_at rows p)) _ again)
    ∙ sym (second_rack ps value v (parted_words_of false rest))
ready_valued v rest ready valid rows p ps (value ∷ other ∷ more) s = let once = s.once in absurd (omega arith)

ready_strange : (word : Text) (rest : List Text) (rows : List Row) (p : Pending) (ps racks : List Text) → IsStrange word
    → option_and_then full (run (at rows p idle (length ps + 1) false) (word ∷ rest)) ≡ ended ps racks (parted_words_of false (word ∷ rest))
ready_strange word rest rows p ps racks is =
    ap (option_and_then full) (step_strange rows p idle (length ps + 1) word rest is) ∙ rw (is.ends, is.option, is.valued, is.dashed) refl

pub placed_usual : (word : Text) (rest : List Text) → IsBare word → parted_words_of false (word ∷ rest) ≡ option_map (with_bare word) (parted_words_of false rest)
placed_usual word rest is = rw (is.ends, is.option, is.valued, is.dashed) refl

placed_value : (word : Text) (rest : List Text) → IsBare word → parted_words_of true (word ∷ rest) ≡ option_map (with_rack word) (parted_words_of false rest)
placed_value word rest is = rw (is.dashed) refl

ready_usual : (word : Text) (rest : List Text) → Ready rest → AllByRecursion IsUtf8 rest → (rows : List Row) (p : Pending) (ps racks : List Text) → IsBare word
    → Stands rows p ps racks
    → option_and_then full (run (at rows p idle (length ps + 1) false) (word ∷ rest)) ≡ ended ps racks (option_map (with_bare word) (parted_words_of false rest))
unfolding Ready
ready_usual word rest ready valid rows p [] racks is s =
    ap (option_and_then full) (step_command rows p word rest is ∙ unless_none (fault_at rows p) _ s.clean)
    ∙ ready (rows_at rows p) (Some (codes "command", word ∷ [])) (word ∷ []) racks valid (stands_command word (rows_at rows p) racks s.reads s.once)
    ∙ sym (first_bare word racks (parted_words_of false rest))
ready_usual word rest ready valid rows p (a ∷ []) racks is s =
    ap (option_and_then full) (step_number rows p word rest is ∙ unless_none (fault_at rows p) _ s.clean)
    ∙ ready (rows_at rows p) (Some (codes "number", word ∷ [])) (a ∷ word ∷ []) racks valid (stands_number a word (rows_at rows p) racks s.reads s.once)
    ∙ sym (second_bare a word racks (parted_words_of false rest))
ready_usual word rest ready valid rows p (a ∷ b ∷ []) racks is s =
    ap (option_and_then full) (step_third rows p word rest is) ∙ sym (third_bare a b word racks (parted_words_of false rest))
ready_usual word rest ready valid rows p (a ∷ b ∷ third ∷ more) racks is s = let few = s.few in absurd (omega arith)

waits_usual : (word : Text) (rest : List Text) → Ready rest → AllByRecursion IsUtf8 rest → (rows : List Row) (ps racks : List Text) → IsBare word
    → Reads rows ps racks → length ps ≤ 2 → length racks ≤ 1
    → option_and_then full (run (at rows (Some (codes "rack", [])) (option (codes "rack")) (length ps + 1) false) (word ∷ rest))
    ≡ ended ps racks (option_map (with_rack word) (parted_words_of false rest))
unfolding Ready
waits_usual word rest ready valid rows ps [] is reads few once =
    ap (option_and_then full) (step_value rows (length ps + 1) word rest is)
    ∙ ready rows (Some (codes "rack", word ∷ [])) ps (word ∷ []) valid (stands_rack_following word rows ps reads few)
    ∙ sym (first_rack ps word (parted_words_of false rest))
waits_usual word rest ready valid rows ps (value ∷ []) is reads few once =
    let again = used_again word rows (has_found (codes "rack") rows ∙ ap is_some reads.rack) in
    ap (option_and_then full) (step_value rows (length ps + 1) word rest is
    ∙ refused rest rows (Some (codes "rack", word ∷ [])) (length ps + 1) valid again)
    ∙ sym (second_rack ps value word (parted_words_of false rest))
waits_usual word rest ready valid rows ps (value ∷ other ∷ more) is reads few once = absurd (omega arith)

ready_step : (word : Text) (rest : List Text) → Ready rest → Waits rest → Ready (word ∷ rest)
unfolding Ready
ready_step word rest ready waits rows p ps racks valid s = elim (class_of word valid.0) [
  | dashes is ↦ subst (λ w. option_and_then full (run (at rows p idle (length ps + 1) false) (w ∷ rest)) ≡ ended ps racks (parted_words_of false (w ∷ rest))) (sym is)
      (ready_dashes rest rows p ps racks s)
  | option_class is ↦ subst (λ w. option_and_then full (run (at rows p idle (length ps + 1) false) (w ∷ rest)) ≡ ended ps racks (parted_words_of false (w ∷ rest))) (sym is)
      (ready_option rest waits valid.1 rows p ps racks s)
  | valued v is ↦ subst (λ w. option_and_then full (run (at rows p idle (length ps + 1) false) (w ∷ rest)) ≡ ended ps racks (parted_words_of false (w ∷ rest))) (sym is)
      (ready_valued v rest ready valid.1 rows p ps racks s)
  | strange is ↦ ready_strange word rest rows p ps racks is
  | usual is ↦ ready_usual word rest ready valid.1 rows p ps racks is s ∙ sym (ap (ended ps racks) (placed_usual word rest is))
]

waits_step : (word : Text) (rest : List Text) → Ready rest → Waits (word ∷ rest)
unfolding Waits
waits_step word rest ready rows ps racks valid reads few once = elim (class_of word valid.0) [
  | dashes is ↦ subst (λ w. option_and_then full (run (at rows (Some (codes "rack", [])) (option (codes "rack")) (length ps + 1) false) (w ∷ rest)) ≡ ended ps racks (parted_words_of true (w ∷ rest))) (sym is)
      (ap (option_and_then full) (step_value_dashes rows (length ps + 1) rest ∙ refused_following rest rows (Some (codes "rack", [])) (option (codes "rack")) (length ps + 1) refl))
  | option_class is ↦ subst (λ w. option_and_then full (run (at rows (Some (codes "rack", [])) (option (codes "rack")) (length ps + 1) false) (w ∷ rest)) ≡ ended ps racks (parted_words_of true (w ∷ rest))) (sym is)
      (ap (option_and_then full) (step_value_option rows (length ps + 1) rest))
  | valued v is ↦ subst (λ w. option_and_then full (run (at rows (Some (codes "rack", [])) (option (codes "rack")) (length ps + 1) false) (w ∷ rest)) ≡ ended ps racks (parted_words_of true (w ∷ rest))) (sym is)
      (ap (option_and_then full) (step_value_valued rows (length ps + 1) v rest))
  | strange is ↦ ap (option_and_then full) (step_strange rows (Some (codes "rack", [])) (option (codes "rack")) (length ps + 1) word rest is) ∙ rw (is.dashed) refl
  | usual is ↦ waits_usual word rest ready valid.1 rows ps racks is reads few once ∙ sym (ap (ended ps racks) (placed_value word rest is))
]

ready_and_waits : (words : List Text) → Ready words × Waits words
unfolding Ready Waits
ready_and_waits [] = (λ rows p ps racks valid s. at_end rows p ps racks s, λ rows ps racks valid reads few once. refl)
ready_and_waits (word ∷ rest) =
    let both_rest = ready_and_waits rest in
    (ready_step word rest both_rest.0 both_rest.1, waits_step word rest both_rest.0)

-- the words ask for what is said of them one after the other
pub asked_plainly : (words : List Text) → AllByRecursion IsUtf8 words → invocation_of words ≡ plainly words
unfolding plainly Ready
asked_plainly words valid =
    asked_runs words ∙ (ready_and_waits words).0 [] None [] [] valid (record { clean = refl; reads = nothing_read; few = omega arith; once = omega arith })
    ∙ at_none (parted_words_of false words)
  where
    at_none : (o : Option PartedWords) → ended [] [] o ≡ invocation_at o
    at_none None = refl
    at_none (Some places) = refl

texts_valid : {Z : Type 0} (words : List (String Z)) → AllByRecursion IsUtf8 (map (λ w. string_bytes w) words)
texts_valid [] = tt
texts_valid (word ∷ rest) = (IsUtf8-string_bytes word, texts_valid rest)

-- an answer by the simple command's rules is one by what is said of the words
pub answers_plainly : {Z : Type 0} (words : List (String Z)) (r : Result Invocation WordsFault) → IsAnswer (invocation_of (map (λ w. string_bytes w) words)) r
    → IsAnswer (plainly (map (λ w. string_bytes w) words)) r
answers_plainly words r h = subst (λ o. IsAnswer o r) (asked_plainly (map (λ w. string_bytes w) words) (texts_valid words)) h
