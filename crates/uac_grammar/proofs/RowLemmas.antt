-- The row of a block, from its context, its type and its subtype.
use Rattle.std.proofs.Common.{◌≡◌, ◌≤◌, ◌<◌, ℕ, true, false, List, [], ◌∷◌, length, drop, not, refl, ap, ◌∙◌, arith, None, IsTrue}
use Rattle.std.specs.Prelude.{slice_index}
use Rattle.std.proofs.lemmas.Bool.Decides.{nat_tests}
use Rattle.uac_descriptor.specs.Layout.{IsWhole, is_parting}
use Rattle.uac_descriptor.specs.BlockParsing.{block_of, has_length}
use Rattle.uac_descriptor.proofs.SpellingLemmas.{is_whole-IsWhole}
use Rattle.uac_descriptor.specs.LayoutRows as rows
use Rattle.uac_grammar.specs.Row.{read_row, has_row}
use Rattle.uac_descriptor.specs.LayoutRows.{Row, row_beside, rows_of, row_in, row_of, control_row, streaming_row, class_endpoint_row}
use Rattle.uac_descriptor.specs.declared.context.Context.{Context}
use Rattle.uac_descriptor.specs.declared.context.Context.TheVariants.{DeviceFront, ControlInterface, StreamingInterface, ForeignInterface}

-- a whole block is read by its row
pub block_row : (context : Context) (bytes : List ℕ) → IsWhole bytes → block_of context bytes ≡ read_row (row_in context bytes) bytes
unfolding block_of
block_row context bytes whole = rw (is_whole-IsWhole bytes whole) refl

-- the row of a whole block
pub row_of_whole : (context : Context) (bytes : List ℕ) → IsWhole bytes → row_in context bytes ≡ row_beside (slice_index bytes 1) (rows_of context (drop 2 bytes)) rows.foreign
unfolding row_in row_of
row_of_whole context [] (two, e) = absurd (omega arith)
row_of_whole context (size ∷ []) (two, e) = absurd (omega arith)
row_of_whole context (size ∷ kind ∷ rest) (two, e) = refl

-- what follows the type of a class block
pub subtype_and_rest : (bytes : List ℕ) → 3 ≤ length bytes → drop 2 bytes ≡ slice_index bytes 2 ∷ drop 3 bytes
subtype_and_rest [] long = absurd (omega arith)
subtype_and_rest (size ∷ []) long = absurd (omega arith)
subtype_and_rest (size ∷ kind ∷ []) long = absurd (omega arith)
subtype_and_rest (size ∷ kind ∷ subtype ∷ rest) long = refl

pub no_subtype : (bytes : List ℕ) → length bytes < 3 → drop 2 bytes ≡ []
no_subtype [] short = refl
no_subtype (size ∷ []) short = refl
no_subtype (size ∷ kind ∷ []) short = refl
no_subtype (size ∷ kind ∷ subtype ∷ rest) short = absurd (omega arith)

-- a class block that is too short for a subtype has no row
none_too_short : (bytes : List ℕ) → read_row rows.too_short bytes ≡ None
unfolding has_length
none_too_short bytes = refl

pub control_too_short : (bytes : List ℕ) → length bytes < 3 → read_row (control_row (drop 2 bytes)) bytes ≡ None
control_too_short bytes short = ap (λ (rest : List ℕ). read_row (control_row rest) bytes) (no_subtype bytes short) ∙ none_too_short bytes

pub streaming_too_short : (bytes : List ℕ) → length bytes < 3 → read_row (streaming_row (drop 2 bytes)) bytes ≡ None
streaming_too_short bytes short = ap (λ (rest : List ℕ). read_row (streaming_row rest) bytes) (no_subtype bytes short) ∙ none_too_short bytes

pub endpoint_too_short : (bytes : List ℕ) → length bytes < 3 → read_row (class_endpoint_row rows.too_short (drop 2 bytes)) bytes ≡ None
endpoint_too_short bytes short = ap (λ (rest : List ℕ). read_row (class_endpoint_row rows.too_short rest) bytes) (no_subtype bytes short) ∙ none_too_short bytes

-- no context has a row for a type other than these
other_row : (context : Context) (kind : ℕ) (rest : List ℕ) → has_row kind ≡ false → row_beside kind (rows_of context rest) rows.foreign ≡ rows.foreign
other_row DeviceFront kind rest e = grind (arith, nat_tests)
other_row ControlInterface kind rest e = grind (arith, nat_tests)
other_row StreamingInterface kind rest e = grind (arith, nat_tests)
other_row ForeignInterface kind rest e = grind (arith, nat_tests)

-- such a block is kept whole in every context
pub other_block : (context : Context) (bytes : List ℕ) → IsWhole bytes → has_row (slice_index bytes 1) ≡ false
    → block_of context bytes ≡ read_row rows.foreign bytes
other_block context bytes whole e =
    block_row context bytes whole
    ∙ ap (λ (row : Row). read_row row bytes) (row_of_whole context bytes whole ∙ other_row context (slice_index bytes 1) (drop 2 bytes) e)

-- and doesn't part the descriptor
pub no_row_parts : (kind : ℕ) → has_row kind ≡ false → IsTrue (not (is_parting kind))
no_row_parts kind e = grind (arith, nat_tests)
