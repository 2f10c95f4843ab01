-- A block's spelling is read back as the block.
use Rattle.std.proofs.Common.{◌≡◌, ℕ, ◌+◌, ◌-◌, ◌*◌, ◌/◌, ◌%◌, true, List, [], ◌∷◌, ◌++◌, length, take, drop, refl, sym, arith, length-append, subst, ap}
use Rattle.std.specs.Prelude.{Some, flat_map, slice_index, ◌==◌, nat_le}
use Rattle.std.proofs.lemmas.Bool.{le-leb, eq-eqb, and_from}
use Rattle.std.proofs.Math.Seq.{take-append_seam, drop-append_seam, get_or-append_seam}
use Rattle.uac_descriptor.specs.Layout.{IsWhole}
use Rattle.uac_descriptor.specs.Little.{four}
use Rattle.uac_descriptor.specs.Spelling.{spelling}
use Rattle.uac_descriptor.specs.LayoutRows.{row, Spells, HasAllParts, Context, row_in}
use Rattle.uac_descriptor.specs.BlockParsing.{has_length, fields, is_whole, block_of, words_in, selector_fields, mixer_fields, last_of}
use Rattle.uac_descriptor.specs.Standard.{CS_INTERFACE, MIXER_UNIT, SELECTOR_UNIT, CLOCK_SELECTOR}
use Rattle.uac_descriptor.specs.declared.block.Block.{Block}
use Rattle.uac_descriptor.specs.declared.block.Block.TheVariants as variant

-- a block with its length in front is whole
pub is_whole-cons : (size kind : ℕ) (rest : List ℕ) → size ≡ length rest + 2 → is_whole (size ∷ kind ∷ rest) ≡ true
unfolding is_whole
is_whole-cons size kind rest fits =
    and_from (nat_le 2 (length (size ∷ kind ∷ rest))) (size == length (size ∷ kind ∷ rest))
    (le-leb 2 (length (size ∷ kind ∷ rest)) (omega arith))
    (eq-eqb size (length (size ∷ kind ∷ rest)) (omega arith))

pub is_whole-IsWhole : (bytes : List ℕ) → IsWhole bytes → is_whole bytes ≡ true
unfolding is_whole
is_whole-IsWhole bytes whole =
    and_from (nat_le 2 (length bytes)) (slice_index bytes 0 == length bytes)
    (le-leb 2 (length bytes) whole.0) (eq-eqb (slice_index bytes 0) (length bytes) whole.1)

-- what follows the type
abbrev following : Block → List ℕ
following b = drop 2 (spelling b)

-- the spelling of a block is a whole block
pub is_whole-spelling : (b : Block) → HasAllParts b → is_whole (spelling b) ≡ true
unfolding spelling is_whole
is_whole-spelling (variant.Foreign bytes) whole = is_whole-IsWhole bytes whole
is_whole-spelling (variant.Configuration c) _ = refl
is_whole-spelling (variant.Association c) _ = refl
is_whole-spelling (variant.Interface c) _ = refl
is_whole-spelling (variant.Endpoint c) _ = refl
is_whole-spelling (variant.Header c) _ = refl
is_whole-spelling (variant.InputTerminal c) _ = refl
is_whole-spelling (variant.OutputTerminal c) _ = refl
is_whole-spelling (variant.Mixer c) _ = is_whole-cons _ CS_INTERFACE (following (variant.Mixer c)) refl
is_whole-spelling (variant.Selector c) _ = is_whole-cons _ CS_INTERFACE (following (variant.Selector c)) refl
is_whole-spelling (variant.Feature c) _ = is_whole-cons _ CS_INTERFACE (following (variant.Feature c)) refl
is_whole-spelling (variant.Effect c) _ = is_whole-cons _ CS_INTERFACE (following (variant.Effect c)) refl
is_whole-spelling (variant.ClockSource c) _ = refl
is_whole-spelling (variant.ClockSelector c) _ = is_whole-cons _ CS_INTERFACE (following (variant.ClockSelector c)) refl
is_whole-spelling (variant.ClockMultiplier c) _ = refl
is_whole-spelling (variant.General c) _ = refl
is_whole-spelling (variant.TypeOne c) _ = refl
is_whole-spelling (variant.Extra c) _ = is_whole-cons _ CS_INTERFACE (following (variant.Extra c)) refl
is_whole-spelling (variant.ClassEndpoint c) _ = refl

-- a field of two or four bytes is read back
pub two_back : (n : ℕ) → n % 256 + 256 * (n / 256) ≡ n
two_back n = omega arith

pub four_back : (n : ℕ) →
    n % 256 + 256 * (n / 256 % 256) + 65536 * (n / 65536 % 256) + 16777216 * (n / 16777216) ≡ n
four_back n = omega arith

-- the pins of a row are read back
pub selector_back : (size kind subtype id controls name : ℕ) (pins : List ℕ) →
    selector_fields (size ∷ kind ∷ subtype ∷ id ∷ length pins ∷ (pins ++ controls ∷ name ∷ []))
    ≡ record { id = id; sources = pins; controls = controls; name = name }
selector_back size kind subtype id controls name pins =
    rw (take-append_seam pins (controls ∷ name ∷ []), drop-append_seam pins (controls ∷ name ∷ [])) refl

-- the control words are read back
pub words_back : (words tail : List ℕ) → words_in (length words) (flat_map four words ++ tail) ≡ words
words_back [] tail = refl
words_back (w ∷ words) tail = rw (words_back words tail) (ap (λ n. n ∷ words) (four_back w))

pub length-words : (words : List ℕ) → length (flat_map four words) ≡ 4 * length words
length-words [] = refl
length-words (w ∷ words) = omega (arith, length-words words)

pub mixer_back : (size kind subtype id channels locations names controls name : ℕ) (pins bits : List ℕ) →
    mixer_fields (size ∷ kind ∷ subtype ∷ id ∷ length pins ∷ (pins ++ (channels ∷ four locations ++ names ∷ (bits ++ controls ∷ name ∷ []))))
    ≡ record { id = id; sources = pins; channels = channels; locations = locations; names = names; mix_bits = bits; controls = controls; name = name }
mixer_back size kind subtype id channels locations names controls name pins bits =
    let tail : List ℕ = channels ∷ four locations ++ names ∷ (bits ++ controls ∷ name ∷ []) in
    let counted : length (size ∷ kind ∷ subtype ∷ id ∷ length pins ∷ (pins ++ tail)) - 13 - length pins ≡ length bits =
    omega (arith, length-append pins tail, length-append bits (controls ∷ name ∷ []))
    in
    rw (
      take-append_seam pins tail,
      drop-append_seam pins tail,
      counted,
      take-append_seam bits (controls ∷ name ∷ []),
      drop-append_seam bits (controls ∷ name ∷ []),
      four_back locations,
    ) refl

-- the last byte is read back
pub last_back : (bytes : List ℕ) (name : ℕ) → last_of (bytes ++ name ∷ []) ≡ name
last_back bytes name =
    let at : length (bytes ++ name ∷ []) - 1 ≡ length bytes = omega (arith, length-append bytes (name ∷ [])) in
    rw at (get_or-append_seam bytes name [] 0)

-- the spelling of a block has a length of its row
pub has_length-spelling : (b : Block) → HasAllParts b → has_length (row b) (spelling b) ≡ true
unfolding has_length spelling
has_length-spelling (variant.Configuration c) _ = refl
has_length-spelling (variant.Association c) _ = refl
has_length-spelling (variant.Interface c) _ = refl
has_length-spelling (variant.Endpoint c) _ = refl
has_length-spelling (variant.Header c) _ = refl
has_length-spelling (variant.InputTerminal c) _ = refl
has_length-spelling (variant.OutputTerminal c) _ = refl
has_length-spelling (variant.ClockSource c) _ = refl
has_length-spelling (variant.ClockMultiplier c) _ = refl
has_length-spelling (variant.General c) _ = refl
has_length-spelling (variant.TypeOne c) _ = refl
has_length-spelling (variant.ClassEndpoint c) _ = refl
has_length-spelling (variant.Mixer m) _ =
    let tail : List ℕ = m.channels ∷ four m.locations ++ m.names ∷ (m.mix_bits ++ m.controls ∷ m.name ∷ []) in
    le-leb (13 + length m.sources) (length (spelling (variant.Mixer m)))
    (omega (arith, length-append m.sources tail, length-append m.mix_bits (m.controls ∷ m.name ∷ [])))
has_length-spelling (variant.Selector s) _ =
    eq-eqb (length (spelling (variant.Selector s))) (7 + length s.sources)
    (omega (arith, length-append s.sources (s.controls ∷ s.name ∷ [])))
has_length-spelling (variant.Feature f) some =
    let counted : length (spelling (variant.Feature f)) ≡ 6 + 4 * length f.words =
    omega (arith, length-append (flat_map four f.words) (f.name ∷ []), length-words f.words)
    in
    and_from (nat_le 10 (length (spelling (variant.Feature f)))) (length (spelling (variant.Feature f)) % 4 == 2)
    (le-leb 10 (length (spelling (variant.Feature f))) (omega (arith, counted, some)))
    (eq-eqb (length (spelling (variant.Feature f)) % 4) 2 (omega (arith, counted)))
has_length-spelling (variant.Effect e) some =
    let counted : length (spelling (variant.Effect e)) ≡ 8 + 4 * length e.words =
    omega (arith, length-append (flat_map four e.words) (e.name ∷ []), length-words e.words)
    in
    and_from (nat_le 12 (length (spelling (variant.Effect e)))) (length (spelling (variant.Effect e)) % 4 == 0)
    (le-leb 12 (length (spelling (variant.Effect e))) (omega (arith, counted, some)))
    (eq-eqb (length (spelling (variant.Effect e)) % 4) 0 (omega (arith, counted)))
has_length-spelling (variant.ClockSelector c) _ =
    eq-eqb (length (spelling (variant.ClockSelector c))) (7 + length c.sources)
    (omega (arith, length-append c.sources (c.controls ∷ c.name ∷ [])))
has_length-spelling (variant.Extra e) _ = le-leb 3 (length (spelling (variant.Extra e))) (omega arith)
has_length-spelling (variant.Foreign bytes) _ = refl

-- the fields of a block are read back from its spelling
pub fields-spelling : (b : Block) → fields (row b) (spelling b) ≡ b
unfolding fields spelling
fields-spelling (variant.Configuration c) = rw (two_back c.total) refl
fields-spelling (variant.Association c) = refl
fields-spelling (variant.Interface c) = refl
fields-spelling (variant.Endpoint c) = rw (two_back c.max_packet) refl
fields-spelling (variant.Header c) = rw (two_back c.version, two_back c.total) refl
fields-spelling (variant.InputTerminal c) = rw (two_back c.terminal_type, four_back c.locations, two_back c.controls) refl
fields-spelling (variant.OutputTerminal c) = rw (two_back c.terminal_type, two_back c.controls) refl
fields-spelling (variant.ClockSource c) = refl
fields-spelling (variant.ClockMultiplier c) = refl
fields-spelling (variant.General c) = rw (four_back c.formats, four_back c.locations) refl
fields-spelling (variant.TypeOne c) = refl
fields-spelling (variant.ClassEndpoint c) = rw (two_back c.lock_delay) refl
fields-spelling (variant.Mixer m) = ap variant.Mixer (mixer_back (length (following (variant.Mixer m)) + 2) CS_INTERFACE MIXER_UNIT m.id m.channels m.locations m.names m.controls m.name m.sources m.mix_bits)
fields-spelling (variant.Selector s) = ap variant.Selector (selector_back (length (following (variant.Selector s)) + 2) CS_INTERFACE SELECTOR_UNIT s.id s.controls s.name s.sources)
fields-spelling (variant.Feature f) =
    let counted : (length (spelling (variant.Feature f)) - 6) / 4 ≡ length f.words =
    omega (arith, length-append (flat_map four f.words) (f.name ∷ []), length-words f.words)
    in
    let named : last_of (spelling (variant.Feature f)) ≡ f.name =
    last_back (take 5 (spelling (variant.Feature f)) ++ flat_map four f.words) f.name
    in
    rw (counted, words_back f.words (f.name ∷ []), named) refl
fields-spelling (variant.Effect e) =
    let counted : (length (spelling (variant.Effect e)) - 8) / 4 ≡ length e.words =
    omega (arith, length-append (flat_map four e.words) (e.name ∷ []), length-words e.words)
    in
    let named : last_of (spelling (variant.Effect e)) ≡ e.name =
    last_back (take 7 (spelling (variant.Effect e)) ++ flat_map four e.words) e.name
    in
    rw (counted, words_back e.words (e.name ∷ []), named, two_back e.effect_type) refl
fields-spelling (variant.ClockSelector c) = ap variant.ClockSelector (selector_back (length (following (variant.ClockSelector c)) + 2) CS_INTERFACE CLOCK_SELECTOR c.id c.controls c.name c.sources)
fields-spelling (variant.Extra e) = refl
fields-spelling (variant.Foreign bytes) = refl

-- what spells a block is read as that block
pub block_of-Spells : (context : Context) (b : Block) (bytes : List ℕ) → Spells context b bytes → block_of context bytes ≡ Some b
unfolding block_of
block_of-Spells context b bytes spells =
    let P : List ℕ → Type 0 = λ xs. row_in context xs ≡ row b → block_of context xs ≡ Some b in
    subst P (sym spells.spelt)
    (λ stands. rw (stands, is_whole-spelling b spells.complete, has_length-spelling b spells.complete, fields-spelling b) refl)
    spells.stands
