-- The simple command's walk over the words, step by step.
use Rattle.std.proofs.Common.{◌≡◌, ◌∙◌, refl, true, false, List, [], ◌∷◌, codes, Option, None, Some}
use Rattle.std.specs.Prelude.{if◌then◌else◌, fold, option_and_then}
use Rattle.std.specs.Option.{is_some}
use Rattle.clap.specs.Words.{Kinds, Row, Rule, Text, built, matches_of}
use Rattle.clap.specs.Kinds.{or_else}
use Rattle.clap.specs.Faults.{check_fault, defaults_fault, entered_fault, level_fault, settle_fault, turn_fault, walk_fault}
use Rattle.clap.specs.Simple.{Shape, entered, new_shape}
use Rattle.clap.specs.Walk.{Held, Walk, finished, nothing_held, settled, stop_after, walk_from, walked, with_default}
use Rattle.clap.specs.declared.builder.range.ValueRange.{ValueRange}
use Rattle.clap.specs.declared.builder.value_parser.ValueParser.TheVariants as vp
use Rattle.uac_words.specs.declared.commands.Invocation.{Invocation}
use Rattle.uac_words.specs.ByClap.{invocation_of, invocation_by_rows, command_rule, none_refused, number_rule, rack_rule, simple_command}

-- ---- the simple command, built

abbrev pub one : ValueRange
one = record { start_inclusive = 1; end_inclusive = 1 }

abbrev pub command_arg : Rule
command_arg = record command_rule { index = Some 1; range = Some one; parser = Some vp.String }

abbrev pub number_arg : Rule
number_arg = record number_rule { index = Some 2; range = Some one; parser = Some vp.String }

abbrev pub rack_arg : Rule
rack_arg = record rack_rule { range = Some one; parser = Some vp.String }

abbrev pub args : List Rule
args = command_arg ∷ number_arg ∷ rack_arg ∷ []

abbrev pub top : Shape
top = record (new_shape (codes "uac_cli")) {
  rules = args;
  no_binary_name = true;
  disable_help_flag = true;
  disable_version_flag = true;
  disable_help_subcommand = true;
  is_built = true;
}

built_is : built simple_command ≡ record { top = top; subs = [] }
built_is = refl

-- ---- the walk, as one run

-- what comes of a step that may refuse
abbrev pub unless : {X : Type 0} → Kinds → Option X → Option X
unless [] x = x
unless (kind ∷ more) x = None

-- the rows at the end of the words, where nothing is refused
abbrev pub run : Walk → List Text → Option (List Row)
run w [] = unless (settle_fault args false w.held) (Some (settled args w.held).rows)
run w (word ∷ rest) = unless (turn_fault top [] w word) (run (walked args [] w word) rest)

abbrev last_fault : List Row → Kinds
last_fault rows = or_else (defaults_fault rows args) (check_fault top (fold with_default rows args) false)

-- what the rows ask for, once the defaults are in and what is required is there
abbrev pub full : List Row → Option Invocation
full rows = if none_refused (last_fault rows) then invocation_by_rows (fold with_default rows args) else None

abbrev end_of : Walk → List Text → Held
end_of w words = (fold (walked args []) w words).held

abbrev total : Walk → List Text → Option Invocation
total w words =
    if none_refused (or_else (walk_fault top [] w words) (or_else (settle_fault args false (end_of w words)) (last_fault (settled args (end_of w words)).rows)))
    then invocation_by_rows (finished args (end_of w words)) else None

end_step : (k : Kinds) (rows : List Row)
    → (if none_refused (or_else k (last_fault rows)) then invocation_by_rows (fold with_default rows args) else None) ≡ option_and_then full (unless k (Some rows))
end_step [] rows = refl
end_step (kind ∷ more) rows = refl

turn_step : (k m z : Kinds) (y : Option Invocation) (o : Option (List Row)) → (if none_refused (or_else m z) then y else None) ≡ option_and_then full o
    → (if none_refused (or_else (or_else k m) z) then y else None) ≡ option_and_then full (unless k o)
turn_step [] m z y o h = h
turn_step (kind ∷ more) m z y o h = refl

total_runs : (words : List Text) (w : Walk) → total w words ≡ option_and_then full (run w words)
unfolding walk_fault
total_runs [] w = end_step (settle_fault args false w.held) (settled args w.held).rows
total_runs (word ∷ rest) w = turn_step (turn_fault top [] w word) _ _ _ _ (total_runs rest (walked args [] w word))

-- there are no subcommands to enter
no_subcommand : (words : List Text) (stop : Option (Text × List Text))
    → (if none_refused (level_fault top [] nothing_held words (is_some (entered (built simple_command) stop)) (entered_fault (built simple_command) stop))
    then invocation_by_rows (matches_of simple_command words) else None) ≡ total (walk_from nothing_held) words
no_subcommand words None = refl
no_subcommand words (Some p) = refl

pub asked_runs : (words : List Text) → invocation_of words ≡ option_and_then full (run (walk_from nothing_held) words)
unfolding invocation_of
asked_runs words = no_subcommand words (stop_after args [] words) ∙ total_runs words (walk_from nothing_held)
