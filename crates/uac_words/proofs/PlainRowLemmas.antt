-- What the rows of a walk hold of COMMAND, NUMBER and the rack, and what they ask for.
use Rattle.std.proofs.Common.{◌≡◌, ◌∙◌, ◌≤◌, ◌||◌, ap, refl, true, false, Bool, cond, List, [], ◌∷◌, ◌++◌, length, codes, Option, None, Some, arith, true≢false, append-nil}
use Rattle.std.specs.Prelude.{if◌then◌else◌, not, find, fold, slice_get, option_and_then}
use Rattle.std.specs.Option.{is_some, option_map, option_map_or, option_or}
use Rattle.std.specs.Str.{bytes_eq}
use Rattle.std.proofs.lemmas.List.Folds.{find-append}
use Rattle.clap.specs.Facts.{explicit_source}
use Rattle.clap.specs.Words.{Kinds, Row, Text}
use Rattle.clap.specs.Kinds.{check_kinds, or_else}
use Rattle.clap.specs.Faults.{check_fault, defaults_fault, given_default_fault}
use Rattle.clap.specs.Walk.{at_row, has_row, more_values, reading_by, used, with_default, with_values, without}
use Rattle.clap.specs.declared.parser.matches.ValueSource.TheVariants.{CommandLine, DefaultValue}
use Rattle.uac_words.specs.declared.commands.Invocation.{Invocation}
use Rattle.uac_words.specs.Asked.{both}
use Rattle.uac_words.specs.ByClap.{invocation_by, invocation_by_rows, none_refused}
use Rattle.uac_words.specs.Plain.{command_in, rack_in}
use Rattle.uac_words.proofs.ByClapRunLemmas.{args, command_arg, full, number_arg, rack_arg, top}

abbrev pub row : Text → Text → Row
row id value = record { id = id; values = value ∷ []; count = None; source = Some CommandLine; reading = reading_by rack_arg }

abbrev plain_row : Row
plain_row = record { id = codes "rack"; values = codes "plain" ∷ []; count = None; source = Some DefaultValue; reading = reading_by rack_arg }

abbrev pub found : Text → List Row → Option Row
found id rows = find (λ r. bytes_eq r.id id) rows

abbrev pub first : List Text → Option Text
first [] = None
first (word ∷ more) = Some word

abbrev pub second : List Text → Option Text
second [] = None
second (word ∷ more) = first more

-- the rows of a walk that has read these words for COMMAND and NUMBER, and this value of the rack
pub record Reads (rows : List Row) (bare racks : List Text) : Type 0 where
  pub command : found (codes "command") rows ≡ option_map (row (codes "command")) (first bare)
  pub number : found (codes "number") rows ≡ option_map (row (codes "number")) (second bare)
  pub rack : found (codes "rack") rows ≡ option_map (row (codes "rack")) (first racks)

pub nothing_read : Reads [] [] []
nothing_read = record { command = refl; number = refl; rack = refl }

pub has_found : (id : Text) (rows : List Row) → has_row id rows ≡ is_some (found id rows)
has_found id [] = refl
has_found id (r ∷ rs) = at (bytes_eq r.id id) (has_found id rs)
  where
    at : (t : Bool) → has_row id rs ≡ is_some (found id rs) → (t || has_row id rs) ≡ is_some (cond t (Some r) (found id rs))
    at true e = refl
    at false e = e

at_missing : (id : Text) (change : Row → List Row) (missing : List Row) (rows : List Row) → has_row id rows ≡ false
    → at_row id change missing rows ≡ rows ++ missing
at_missing id change missing [] e = refl
at_missing id change missing (r ∷ rs) e = at (bytes_eq r.id id) e (at_missing id change missing rs)
  where
    at : (t : Bool) → (t || has_row id rs) ≡ false → (has_row id rs ≡ false → at_row id change missing rs ≡ rs ++ missing)
        → (if t then change r ++ rs else r ∷ at_row id change missing rs) ≡ r ∷ rs ++ missing
    at true h more = absurd (true≢false h)
    at false h more = ap (λ xs. r ∷ xs) (more h)

added : (id value : Text) (rows : List Row) → has_row id rows ≡ false
    → with_values id (reading_by rack_arg) CommandLine (value ∷ []) (without id rows) ≡ rows ++ row id value ∷ []
added id value rows e =
    ap (λ xs. with_values id (reading_by rack_arg) CommandLine (value ∷ []) xs) (at_missing id (λ _. []) [] rows e ∙ append-nil rows)
    ∙ at_missing id (more_values CommandLine (value ∷ [])) (row id value ∷ []) rows e

pub used_command : (value : Text) (rows : List Row) → has_row (codes "command") rows ≡ false
    → used command_arg (value ∷ []) rows ≡ rows ++ row (codes "command") value ∷ []
used_command value rows e = added (codes "command") value rows e

pub used_number : (value : Text) (rows : List Row) → has_row (codes "number") rows ≡ false
    → used number_arg (value ∷ []) rows ≡ rows ++ row (codes "number") value ∷ []
used_number value rows e = added (codes "number") value rows e

pub used_rack : (value : Text) (rows : List Row) → has_row (codes "rack") rows ≡ false
    → used rack_arg (value ∷ []) rows ≡ rows ++ row (codes "rack") value ∷ []
used_rack value rows e = added (codes "rack") value rows e

or_none : (o : Option Row) → option_or o None ≡ o
or_none None = refl
or_none (Some r) = refl

kept : (id other value : Text) (rows : List Row) → found id (row other value ∷ []) ≡ None → found id (rows ++ row other value ∷ []) ≡ found id rows
kept id other value rows e =
    find-append (λ r. bytes_eq r.id id) rows (row other value ∷ []) ∙ ap (λ o. option_or (found id rows) o) e ∙ or_none (found id rows)

new : (id value : Text) (rows : List Row) → found id (row id value ∷ []) ≡ Some (row id value) → found id rows ≡ None
    → found id (rows ++ row id value ∷ []) ≡ Some (row id value)
new id value rows e none =
    find-append (λ r. bytes_eq r.id id) rows (row id value ∷ []) ∙ ap (λ o. option_or (found id rows) o) e ∙ ap (λ o. option_or o (Some (row id value))) none

pub reads_command : (value : Text) (rows : List Row) (racks : List Text) → Reads rows [] racks
    → Reads (rows ++ row (codes "command") value ∷ []) (value ∷ []) racks
reads_command value rows racks h = record {
  command = new (codes "command") value rows refl h.command;
  number = kept (codes "number") (codes "command") value rows refl ∙ h.number;
  rack = kept (codes "rack") (codes "command") value rows refl ∙ h.rack;
}

pub reads_number : (command value : Text) (rows : List Row) (racks : List Text) → Reads rows (command ∷ []) racks
    → Reads (rows ++ row (codes "number") value ∷ []) (command ∷ value ∷ []) racks
reads_number command value rows racks h = record {
  command = kept (codes "command") (codes "number") value rows refl ∙ h.command;
  number = new (codes "number") value rows refl h.number;
  rack = kept (codes "rack") (codes "number") value rows refl ∙ h.rack;
}

pub reads_rack : (value : Text) (rows : List Row) (bare : List Text) → Reads rows bare []
    → Reads (rows ++ row (codes "rack") value ∷ []) bare (value ∷ [])
reads_rack value rows bare h = record {
  command = kept (codes "command") (codes "rack") value rows refl ∙ h.command;
  number = kept (codes "number") (codes "rack") value rows refl ∙ h.number;
  rack = new (codes "rack") value rows refl h.rack;
}

-- ---- the rows at the end

cond_same : {X : Type 0} (t : Bool) (x : X) → cond t x x ≡ x
cond_same true x = refl
cond_same false x = refl

final_is : (rows : List Row) (t : Bool) → has_row (codes "rack") rows ≡ t
    → fold with_default rows args ≡ (if t then rows else rows ++ plain_row ∷ [])
final_is rows t e =
    ap (λ rs. with_default (with_default rs number_arg) rack_arg) (cond_same (has_row (codes "command") rows) rows)
    ∙ ap (λ rs. with_default rs rack_arg) (cond_same (has_row (codes "number") rows) rows) ∙ at t e
  where
    at : (t : Bool) → has_row (codes "rack") rows ≡ t → with_default rows rack_arg ≡ (if t then rows else rows ++ plain_row ∷ [])
    at true h = rw h refl
    at false h = rw h (at_missing (codes "rack") (more_values DefaultValue (codes "plain" ∷ [])) (plain_row ∷ []) rows h)

abbrev rack_at : List Text → Row
rack_at [] = plain_row
rack_at (value ∷ more) = row (codes "rack") value

record IsFinal (rows : List Row) (bare racks : List Text) : Type 0 where
  pub command : found (codes "command") rows ≡ option_map (row (codes "command")) (first bare)
  pub number : found (codes "number") rows ≡ option_map (row (codes "number")) (second bare)
  pub rack : found (codes "rack") rows ≡ Some (rack_at racks)

kept_final : (id : Text) (rows : List Row) → found id (plain_row ∷ []) ≡ None → found id (rows ++ plain_row ∷ []) ≡ found id rows
kept_final id rows e = find-append (λ r. bytes_eq r.id id) rows (plain_row ∷ []) ∙ ap (λ o. option_or (found id rows) o) e ∙ or_none (found id rows)

final : (rows : List Row) (bare racks : List Text) → Reads rows bare racks → IsFinal (fold with_default rows args) bare racks
final rows bare [] h =
    let is = final_is rows false (has_found (codes "rack") rows ∙ ap is_some h.rack) in
    record {
      command = ap (found (codes "command")) is ∙ kept_final (codes "command") rows refl ∙ h.command;
      number = ap (found (codes "number")) is ∙ kept_final (codes "number") rows refl ∙ h.number;
      rack = ap (found (codes "rack")) is ∙ find-append (λ r. bytes_eq r.id (codes "rack")) rows (plain_row ∷ []) ∙ ap (λ o. option_or o (Some plain_row)) h.rack;
    }
final rows bare (value ∷ more) h =
    let is = final_is rows true (has_found (codes "rack") rows ∙ ap is_some h.rack) in
    record {
      command = ap (found (codes "command")) is ∙ h.command;
      number = ap (found (codes "number")) is ∙ h.number;
      rack = ap (found (codes "rack")) is ∙ h.rack;
    }

-- ---- what they ask for

or_true : (t : Bool) (k : Kinds) → (if t || true then [] else k) ≡ []
or_true true k = refl
or_true false k = refl

plain_passes : (t : Bool) → (if t || false then [] else given_default_fault rack_arg (codes "plain" ∷ [])) ≡ []
plain_passes true = refl
plain_passes false = refl

all_none : (a b d : Kinds) → a ≡ [] → b ≡ [] → d ≡ [] → or_else a (or_else b (or_else d [])) ≡ []
all_none a b d ea eb ed = rw (ea, eb, ed) refl

no_default_fault : (rows : List Row) → defaults_fault rows args ≡ []
unfolding defaults_fault
no_default_fault rows = all_none _ _ _ (or_true (has_row (codes "command") rows) _) (or_true (has_row (codes "number") (with_default rows command_arg)) _)
    (plain_passes (has_row (codes "rack") (with_default (with_default rows command_arg) number_arg)))

abbrev value_in : Option Row → Option Text
value_in o = option_and_then (λ (r : Row). slice_get r.values 0) o

abbrev done : Option Row → Option Row → Option Row → Option Invocation
done command number rack =
    if none_refused (check_kinds false false (not (option_map_or (λ (r : Row). explicit_source r.source) command false) || false))
    then invocation_by (value_in command) (value_in number) (value_in rack) else None

done_is : (rows : List Row) → (if none_refused (check_fault top rows false) then invocation_by_rows rows else None)
    ≡ done (found (codes "command") rows) (found (codes "number") rows) (found (codes "rack") rows)
done_is rows = refl

asks : (bare racks : List Text) → length bare ≤ 2 → length racks ≤ 1
    → done (option_map (row (codes "command")) (first bare)) (option_map (row (codes "number")) (second bare)) (Some (rack_at racks))
    ≡ both (command_in bare) (rack_in racks)
asks [] racks b r = refl
asks (word ∷ []) [] b r = refl
asks (word ∷ []) (value ∷ []) b r = refl
asks (word ∷ number ∷ []) [] b r = refl
asks (word ∷ number ∷ []) (value ∷ []) b r = refl
asks (word ∷ number ∷ third ∷ more) racks b r = absurd (omega arith)
asks (word ∷ []) (value ∷ second_value ∷ more) b r = absurd (omega arith)
asks (word ∷ number ∷ []) (value ∷ second_value ∷ more) b r = absurd (omega arith)

-- what the rows at the end of a walk ask for
pub full_reads : (rows : List Row) (bare racks : List Text) → Reads rows bare racks → length bare ≤ 2 → length racks ≤ 1
    → full rows ≡ both (command_in bare) (rack_in racks)
full_reads rows bare racks h b r =
    let last = final rows bare racks h in
    let rows_now = fold with_default rows args in
    ap (λ k. if none_refused (or_else k (check_fault top rows_now false)) then invocation_by_rows rows_now else None) (no_default_fault rows)
    ∙ done_is rows_now
    ∙ ap (λ o. done o (found (codes "number") rows_now) (found (codes "rack") rows_now)) last.command
    ∙ ap (λ o. done (option_map (row (codes "command")) (first bare)) o (found (codes "rack") rows_now)) last.number
    ∙ ap (λ o. done (option_map (row (codes "command")) (first bare)) (option_map (row (codes "number")) (second bare)) o) last.rack
    ∙ asks bare racks b r
