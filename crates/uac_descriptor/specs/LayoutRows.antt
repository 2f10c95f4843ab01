-- Which row of the layouts reads a block: by the interface in which it stands, its type and its subtype, never by
-- its length (Audio Class 2.0, 4.7.2 and 4.9; profile: foreign interfaces, and what no row reads, are kept whole).
use Rattle.std.specs.Prelude.{◌≡◌, ℕ, ◌≤◌, ◌==◌, if◌then◌else◌, List, [], ◌∷◌, length}
use Rattle.uac_descriptor.specs.Layout.{IsWhole, is_type_one}
use Rattle.uac_descriptor.specs.Spelling.{spelling}
use Rattle.uac_descriptor.specs.Standard.{
  CONFIGURATION,
  INTERFACE,
  ENDPOINT,
  INTERFACE_ASSOCIATION,
  CS_INTERFACE,
  CS_ENDPOINT,
  HEADER,
  INPUT_TERMINAL,
  OUTPUT_TERMINAL,
  MIXER_UNIT,
  SELECTOR_UNIT,
  FEATURE_UNIT,
  EFFECT_UNIT,
  CLOCK_SOURCE,
  CLOCK_SELECTOR,
  CLOCK_MULTIPLIER,
  AS_GENERAL,
  FORMAT_TYPE,
  EP_GENERAL,
}
pub use Rattle.uac_descriptor.specs.declared.context.Context.{Context}
use Rattle.uac_descriptor.specs.declared.context.Context.TheVariants.{DeviceFront, ControlInterface, StreamingInterface, ForeignInterface}
use Rattle.uac_descriptor.specs.declared.block.Block as block
use Rattle.uac_descriptor.specs.declared.block.Block.TheVariants as variant

-- the rows, one for each variant of `Block`, and one for a class block that is too short for a subtype
pub data Row : Type 0 where
  configuration : Row
  association : Row
  interface : Row
  endpoint : Row
  header : Row
  input_terminal : Row
  output_terminal : Row
  mixer : Row
  selector : Row
  feature : Row
  effect : Row
  clock_source : Row
  clock_selector : Row
  clock_multiplier : Row
  general : Row
  type_one : Row
  extra : Row
  class_endpoint : Row
  foreign : Row
  too_short : Row

-- the row beside this number in a table, or the other one where it isn't there
abbrev pub row_beside : ℕ → List (ℕ × Row) → Row → Row
row_beside n [] other = other
row_beside n ((number, row) ∷ rows) other = if n == number then row else row_beside n rows other

-- the types whose blocks part the descriptor in every context
abbrev pub parting_rows : List (ℕ × Row)
parting_rows = (CONFIGURATION, configuration) ∷ (INTERFACE_ASSOCIATION, association) ∷ (INTERFACE, interface) ∷ []

-- the subtypes of the control interface
abbrev pub control_rows : List (ℕ × Row)
control_rows =
    (HEADER, header) ∷ (INPUT_TERMINAL, input_terminal) ∷ (OUTPUT_TERMINAL, output_terminal) ∷ (MIXER_UNIT, mixer)
    ∷ (SELECTOR_UNIT, selector) ∷ (FEATURE_UNIT, feature) ∷ (EFFECT_UNIT, effect) ∷ (CLOCK_SOURCE, clock_source)
    ∷ (CLOCK_SELECTOR, clock_selector) ∷ (CLOCK_MULTIPLIER, clock_multiplier) ∷ []

-- the row of a class block of the control interface, by what follows its type
abbrev pub control_row : List ℕ → Row
control_row [] = too_short
control_row (subtype ∷ rest) = row_beside subtype control_rows foreign

-- the row of a class block of a streaming interface
abbrev pub streaming_row : List ℕ → Row
streaming_row [] = too_short
streaming_row (subtype ∷ rest) =
    row_beside subtype ((AS_GENERAL, general) ∷ (FORMAT_TYPE, (if is_type_one rest then type_one else extra)) ∷ []) extra

-- the row of a class block after an endpoint; the first argument is that of a block with no subtype
abbrev pub class_endpoint_row : Row → List ℕ → Row
class_endpoint_row none [] = none
class_endpoint_row none (subtype ∷ rest) = row_beside subtype ((EP_GENERAL, class_endpoint) ∷ []) foreign

-- the types that have a row in this context, by what follows the type
abbrev pub rows_of : Context → List ℕ → List (ℕ × Row)
rows_of DeviceFront rest =
    (ENDPOINT, endpoint) ∷ (CS_ENDPOINT, class_endpoint_row foreign rest) ∷ parting_rows
rows_of ControlInterface rest =
    (CS_INTERFACE, control_row rest) ∷ (ENDPOINT, endpoint) ∷ (CS_ENDPOINT, class_endpoint_row too_short rest) ∷ parting_rows
rows_of StreamingInterface rest =
    (CS_INTERFACE, streaming_row rest) ∷ (ENDPOINT, endpoint) ∷ (CS_ENDPOINT, class_endpoint_row too_short rest) ∷ parting_rows
rows_of ForeignInterface rest = parting_rows

-- the row of a block of this type in this context, by what follows the type
unfoldable pub row_of : Context → ℕ → List ℕ → Row
row_of context kind rest = row_beside kind (rows_of context rest) foreign

-- the row of a whole block in this context
unfoldable pub row_in : Context → List ℕ → Row
row_in context [] = too_short
row_in context (size ∷ []) = too_short
row_in context (size ∷ kind ∷ rest) = row_of context kind rest

-- the row of a block
abbrev pub row : block.Block → Row
row (variant.Configuration _) = configuration
row (variant.Association _) = association
row (variant.Interface _) = interface
row (variant.Endpoint _) = endpoint
row (variant.Header _) = header
row (variant.InputTerminal _) = input_terminal
row (variant.OutputTerminal _) = output_terminal
row (variant.Mixer _) = mixer
row (variant.Selector _) = selector
row (variant.Feature _) = feature
row (variant.Effect _) = effect
row (variant.ClockSource _) = clock_source
row (variant.ClockSelector _) = clock_selector
row (variant.ClockMultiplier _) = clock_multiplier
row (variant.General _) = general
row (variant.TypeOne _) = type_one
row (variant.Extra _) = extra
row (variant.ClassEndpoint _) = class_endpoint
row (variant.Foreign _) = foreign

-- a block has the parts that its row asks for: the master's control word, and of a block that is kept whole all its bytes
abbrev pub HasAllParts : block.Block → Type 0
HasAllParts (variant.Feature f) = 1 ≤ length f.words
HasAllParts (variant.Effect e) = 1 ≤ length e.words
HasAllParts (variant.Foreign bytes) = IsWhole bytes
HasAllParts (variant.Configuration _) = Unit {0}
HasAllParts (variant.Association _) = Unit {0}
HasAllParts (variant.Interface _) = Unit {0}
HasAllParts (variant.Endpoint _) = Unit {0}
HasAllParts (variant.Header _) = Unit {0}
HasAllParts (variant.InputTerminal _) = Unit {0}
HasAllParts (variant.OutputTerminal _) = Unit {0}
HasAllParts (variant.Mixer _) = Unit {0}
HasAllParts (variant.Selector _) = Unit {0}
HasAllParts (variant.ClockSource _) = Unit {0}
HasAllParts (variant.ClockSelector _) = Unit {0}
HasAllParts (variant.ClockMultiplier _) = Unit {0}
HasAllParts (variant.General _) = Unit {0}
HasAllParts (variant.TypeOne _) = Unit {0}
HasAllParts (variant.Extra _) = Unit {0}
HasAllParts (variant.ClassEndpoint _) = Unit {0}

-- these bytes spell this block in this context: they are its bytes, and there its row reads them
pub record Spells (context : Context) (b : block.Block) (bytes : List ℕ) : Type 0 where
  pub spelt : bytes ≡ spelling b
  pub stands : row_in context bytes ≡ row b
  pub complete : HasAllParts b
