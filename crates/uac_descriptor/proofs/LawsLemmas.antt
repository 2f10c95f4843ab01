-- Laws: one spelling, and what the type keeps gives a spelling.
use Rattle.std.proofs.Common.{◌≡◌, ℕ, ◌≤◌, Bool, true, false, ◌&&◌, List, [], ◌∷◌, ◌++◌, length, refl, sym, ◌∙◌, arith, length-append, lit≤}
use Rattle.std.specs.Prelude.{flat_map, ◌==◌, ◌||◌, not, if◌then◌else◌}
use Rattle.std.proofs.lemmas.Option.{same_Some}
use Rattle.std.proofs.lemmas.Bool.{false≢true}
use Rattle.uac_descriptor.specs.Layout.{IsForeign, is_extra, is_parting, is_type_one}
use Rattle.uac_descriptor.specs.Little.{four}
use Rattle.uac_descriptor.specs.Spelling.{spelling}
use Rattle.uac_descriptor.specs.declared.context.Context.TheVariants as context
use Rattle.uac_descriptor.specs.LayoutRows as rows
use Rattle.uac_descriptor.specs.LayoutRows.{Spells, row_in, row_of}
use Rattle.uac_descriptor.specs.Laws.{IsKeptBlock, HasSpelling, OneSpelling, SpeltIsRead, ReadIsSpelt}
use Rattle.uac_descriptor.specs.Standard.{CONFIGURATION, INTERFACE, INTERFACE_ASSOCIATION, AS_GENERAL, FORMAT_TYPE}
use Rattle.uac_descriptor.specs.declared.block.Block.{Block}
use Rattle.uac_descriptor.specs.declared.block.Block.TheVariants as variant
use Rattle.uac_descriptor.proofs.SpellingLemmas.{block_of-Spells, length-words}
use Rattle.uac_descriptor.proofs.BlockParsingLemmas.{Spells-block_of}

-- in one context no bytes are spelt by two blocks
pub one_spelling_lem : OneSpelling
one_spelling_lem context a b bytes first second =
    same_Some a b (sym (block_of-Spells context a bytes first) ∙ block_of-Spells context b bytes second)

no_parting : (a b c : Bool) → not (a || (b || c)) ≡ true →
    (if a then rows.configuration else if b then rows.association else if c then rows.interface else rows.foreign) ≡ rows.foreign
no_parting true b c other = absurd (false≢true other)
no_parting false true c other = absurd (false≢true other)
no_parting false false true other = absurd (false≢true other)
no_parting false false false other = refl

no_format : (a b c : Bool) → not (a || (b && c)) ≡ true →
    (if a then rows.general else if b then (if c then rows.type_one else rows.extra) else rows.extra) ≡ rows.extra
no_format true b c other = absurd (false≢true other)
no_format false true true other = absurd (false≢true other)
no_format false true false other = refl
no_format false false c other = refl

-- a type that parts nothing has no row in a foreign interface
foreign_row : (kind : ℕ) (rest : List ℕ) → not (is_parting kind) ≡ true → row_of context.ForeignInterface kind rest ≡ rows.foreign
unfolding row_of
foreign_row kind rest other = no_parting (kind == CONFIGURATION) (kind == INTERFACE_ASSOCIATION) (kind == INTERFACE) other

extra_row : (subtype : ℕ) (rest : List ℕ) → is_extra subtype rest ≡ true → rows.streaming_row (subtype ∷ rest) ≡ rows.extra
extra_row subtype rest other = no_format (subtype == AS_GENERAL) (subtype == FORMAT_TYPE) (is_type_one rest) other

foreign_spells : (bytes : List ℕ) → IsForeign bytes → Spells context.ForeignInterface (variant.Foreign bytes) (spelling (variant.Foreign bytes))
unfolding spelling row_in
foreign_spells [] kept = absurd (omega (arith, kept.0.0))
foreign_spells (size ∷ []) kept = absurd (omega (arith, kept.0.0))
foreign_spells (size ∷ kind ∷ rest) kept =
    record { spelt = refl; stands = foreign_row kind rest kept.1; complete = kept.0 }

-- what the type keeps gives a spelling
pub kept_is_spelt : (b : Block) → IsKeptBlock b → HasSpelling b
unfolding spelling row_in row_of
kept_is_spelt (variant.Configuration _) _ =
    record { context = context.DeviceFront; spells = record { spelt = refl; stands = refl; complete = tt }; short = lit≤ tt }
kept_is_spelt (variant.Association _) _ =
    record { context = context.DeviceFront; spells = record { spelt = refl; stands = refl; complete = tt }; short = lit≤ tt }
kept_is_spelt (variant.Interface _) _ =
    record { context = context.DeviceFront; spells = record { spelt = refl; stands = refl; complete = tt }; short = lit≤ tt }
kept_is_spelt (variant.Endpoint _) _ =
    record { context = context.DeviceFront; spells = record { spelt = refl; stands = refl; complete = tt }; short = lit≤ tt }
kept_is_spelt (variant.Header _) _ =
    record { context = context.ControlInterface; spells = record { spelt = refl; stands = refl; complete = tt }; short = lit≤ tt }
kept_is_spelt (variant.InputTerminal _) _ =
    record { context = context.ControlInterface; spells = record { spelt = refl; stands = refl; complete = tt }; short = lit≤ tt }
kept_is_spelt (variant.OutputTerminal _) _ =
    record { context = context.ControlInterface; spells = record { spelt = refl; stands = refl; complete = tt }; short = lit≤ tt }
kept_is_spelt (variant.ClockSource _) _ =
    record { context = context.ControlInterface; spells = record { spelt = refl; stands = refl; complete = tt }; short = lit≤ tt }
kept_is_spelt (variant.ClockMultiplier _) _ =
    record { context = context.ControlInterface; spells = record { spelt = refl; stands = refl; complete = tt }; short = lit≤ tt }
kept_is_spelt (variant.General _) _ =
    record { context = context.StreamingInterface; spells = record { spelt = refl; stands = refl; complete = tt }; short = lit≤ tt }
kept_is_spelt (variant.TypeOne _) _ =
    record { context = context.StreamingInterface; spells = record { spelt = refl; stands = refl; complete = tt }; short = lit≤ tt }
kept_is_spelt (variant.ClassEndpoint _) _ =
    record { context = context.StreamingInterface; spells = record { spelt = refl; stands = refl; complete = tt }; short = lit≤ tt }
kept_is_spelt (variant.Selector s) kept =
    let short : length (spelling (variant.Selector s)) ≤ 255 =
    omega (arith, kept, length-append s.sources (s.controls ∷ s.name ∷ []))
    in
    record { context = context.ControlInterface; spells = record { spelt = refl; stands = refl; complete = tt }; short = short }
kept_is_spelt (variant.ClockSelector c) kept =
    let short : length (spelling (variant.ClockSelector c)) ≤ 255 =
    omega (arith, kept, length-append c.sources (c.controls ∷ c.name ∷ []))
    in
    record { context = context.ControlInterface; spells = record { spelt = refl; stands = refl; complete = tt }; short = short }
kept_is_spelt (variant.Mixer m) kept =
    let tail : List ℕ = m.channels ∷ four m.locations ++ m.names ∷ (m.mix_bits ++ m.controls ∷ m.name ∷ []) in
    let short : length (spelling (variant.Mixer m)) ≤ 255 =
    omega (arith, kept, length-append m.sources tail, length-append m.mix_bits (m.controls ∷ m.name ∷ []))
    in
    record { context = context.ControlInterface; spells = record { spelt = refl; stands = refl; complete = tt }; short = short }
kept_is_spelt (variant.Feature f) kept =
    let short : length (spelling (variant.Feature f)) ≤ 255 =
    omega (arith, kept.1, length-append (flat_map four f.words) (f.name ∷ []), length-words f.words)
    in
    record { context = context.ControlInterface; spells = record { spelt = refl; stands = refl; complete = kept.0 }; short = short }
kept_is_spelt (variant.Effect e) kept =
    let short : length (spelling (variant.Effect e)) ≤ 255 =
    omega (arith, kept.1, length-append (flat_map four e.words) (e.name ∷ []), length-words e.words)
    in
    record { context = context.ControlInterface; spells = record { spelt = refl; stands = refl; complete = kept.0 }; short = short }
kept_is_spelt (variant.Extra e) kept =
    record {
      context = context.StreamingInterface;
      spells = record { spelt = refl; stands = extra_row e.subtype e.rest kept.0; complete = tt };
      short = omega (arith, kept.1);
    }
kept_is_spelt (variant.Foreign bytes) kept =
    record { context = context.ForeignInterface; spells = foreign_spells bytes kept; short = kept.2 }

pub spelt_is_read : SpeltIsRead
spelt_is_read = block_of-Spells

pub read_is_spelt : ReadIsSpelt
read_is_spelt context b bytes are read = Spells-block_of context bytes b are read
