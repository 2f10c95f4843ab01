-- A command line asks for its command over its rack.
use Rattle.std.proofs.Common.{◌≡◌, ◌≢◌, ◌⊎◌, ◌∙◌, ◌<◌, ◌^◌, ap, sym, subst, refl, inl, inr, true, false, Bool, ℕ, ◌==◌, ◌||◌, true≢false, zero, suc, List, [], ◌∷◌, ◌++◌, length, codes, decimal, get_or, Option, None, Some, if◌then◌else◌, arith, append-nil}
use Rattle.std.specs.Char.{is_ascii_digit}
use Rattle.std.specs.List.{AllByRecursion, list_all}
use Rattle.uac_clock.specs.Nominal.{twelve_rates}
use Rattle.uac_words.specs.Table.{full_speed_rates}
use Rattle.std.specs.Option.{option_and_then, option_map}
use Rattle.std.specs.Str.Parse.{AllDigits, digits_value}
use Rattle.std.proofs.lemmas.Bool.{cond-true, eqb-true, le-leb, lt-ltb, ne_eqb}
use Rattle.std.proofs.lemmas.Fmt.{decimal_digit, decimal_is_IsNumeral, first_decimal}
use Rattle.std.proofs.lemmas.Str.Parse.{digit_from_value}
use Rattle.uac_words.specs.declared.commands.Command.{Command}
use Rattle.uac_words.specs.declared.commands.Command.TheVariants.{Check, Show, Elements, Run, Gen, Full, Settle, Pair, Panel}
use Rattle.uac_words.specs.declared.commands.RackChoice.{RackChoice}
use Rattle.uac_words.specs.declared.commands.RackChoice.TheVariants.{Plain, Lanes}
use Rattle.uac_words.specs.declared.commands.Invocation.{Invocation}
use Rattle.uac_words.specs.Asked.{both, is_among, is_decimal, decimal_value_of, rate_of}
use Rattle.uac_words.specs.CommandLines.{Chooses, IsCommandInRange, IsCommandLine, rack_name, command_words}
use Rattle.uac_words.specs.Plain.{CommandWord, invocation_at, command_in, parted_words_of, plainly, rack_in, with_bare, with_rack}
use Rattle.uac_words.proofs.AskedDigitLemmas.{both_true}
use Rattle.uac_words.proofs.PlainLemmas.{placed_usual}
use Rattle.uac_words.proofs.PlainWordLemmas.{IsBare, alone, undashed}

-- ---- numbers

digits_test : (ds : List ℕ) → AllDigits 10 ds → list_all is_ascii_digit ds ≡ true
digits_test [] h = refl
digits_test (c ∷ cs) h =
    let d = digit_from_value c h.0 in
    both_true _ _ (both_true _ _ (le-leb 48 c (omega arith)) (le-leb c 57 (omega arith))) (digits_test cs h.1)

front : (ds : List ℕ) → get_or ds 0 0 ≢ 48 → 0 < length ds → AllDigits 10 ds → is_decimal ds ≡ true
unfolding is_decimal
front [] first some digits = absurd (omega arith)
front (c ∷ cs) first some digits = rw (ne_eqb c 48 first) (both_true _ _ (both_true _ _ (lt-ltb 0 (length (c ∷ cs)) (omega arith)) refl) (digits_test (c ∷ cs) digits))

decimal_is : (n : ℕ) → n < 2 ^ 32 → is_decimal (decimal n) ≡ true
unfolding is_decimal
decimal_is zero small = ap is_decimal (decimal_digit 0 (omega arith)) ∙ refl
decimal_is (suc n) small =
    let numeral = decimal_is_IsNumeral (suc n) (omega arith) in
    let first = first_decimal (suc n) (omega arith) (omega arith) in
    front (decimal (suc n)) (λ e. omega (arith, e)) numeral.0.0 numeral.0.1

pub number_spelled : (n : ℕ) → n < 2 ^ 32 → decimal_value_of (decimal n) ≡ Some n
unfolding decimal_value_of
number_spelled n small =
    let value = (decimal_is_IsNumeral n (omega arith)).1 in
    cond-true _ _ _ (both_true _ _ (decimal_is n small) (le-leb (digits_value 10 (decimal n)) 4294967295 (omega arith))) ∙ ap Some value

-- ---- rates

one_of : (n rate : ℕ) (rest : Bool) → (b : Bool) → (rate == n) ≡ b → rate < 2 ^ 32 → (rest ≡ true → n < 2 ^ 32) → (b || rest) ≡ true → n < 2 ^ 32
one_of n rate rest true e small next h = let same = eqb-true rate n e in omega arith
one_of n rate rest false e small next h = next h

among_small : (n : ℕ) (rates : List ℕ) → AllByRecursion (λ rate. rate < 2 ^ 32) rates → is_among n rates ≡ true → n < 2 ^ 32
among_small n [] all h = absurd (true≢false (sym h))
among_small n (rate ∷ rates) all h = one_of n rate (is_among n rates) (rate == n) refl all.0 (among_small n rates all.1) h

twelve_small : AllByRecursion (λ rate. rate < 2 ^ 32) twelve_rates
twelve_small =
    (omega arith, (omega arith, (omega arith, (omega arith, (omega arith, (omega arith, (omega arith, (omega arith, (omega arith, (omega arith, (omega arith, (omega arith, tt))))))))))))

ten_small : AllByRecursion (λ rate. rate < 2 ^ 32) full_speed_rates
ten_small = (omega arith, (omega arith, (omega arith, (omega arith, (omega arith, (omega arith, (omega arith, (omega arith, (omega arith, (omega arith, tt))))))))))

rate_spelled : (n : ℕ) (rates : List ℕ) → AllByRecursion (λ rate. rate < 2 ^ 32) rates → is_among n rates ≡ true → rate_of rates (decimal n) ≡ Some n
rate_spelled n rates all among =
    ap (option_and_then (λ rate. if is_among rate rates then Some rate else None)) (number_spelled n (among_small n rates all among)) ∙ cond-true _ _ _ among

-- ---- the words of a command

bare_digits : (ds : CommandWord) → 0 < length ds → AllDigits 10 ds → IsBare ds
bare_digits [] some digits = absurd (omega arith)
bare_digits (c ∷ []) some digits = let d = digit_from_value c digits.0 in alone c false (ne_eqb c 45 (λ e. omega arith))
bare_digits (c ∷ y ∷ ys) some digits = let d = digit_from_value c digits.0 in undashed c y ys (ne_eqb c 45 (λ e. omega arith))

bare_spelled : (command : Command) → IsCommandInRange command → AllByRecursion IsBare (command_words command)
bare_spelled Check range = (record { dashed = refl; ends = refl; option = refl; valued = refl; long = refl; short = refl }, tt)
bare_spelled Show range = (record { dashed = refl; ends = refl; option = refl; valued = refl; long = refl; short = refl }, tt)
bare_spelled Elements range = (record { dashed = refl; ends = refl; option = refl; valued = refl; long = refl; short = refl }, tt)
bare_spelled Run range = (record { dashed = refl; ends = refl; option = refl; valued = refl; long = refl; short = refl }, tt)
bare_spelled Settle range = (record { dashed = refl; ends = refl; option = refl; valued = refl; long = refl; short = refl }, tt)
bare_spelled Panel range = (record { dashed = refl; ends = refl; option = refl; valued = refl; long = refl; short = refl }, tt)
bare_spelled (Gen number) range =
    let numeral = (decimal_is_IsNumeral number (omega arith)).0 in
    (record { dashed = refl; ends = refl; option = refl; valued = refl; long = refl; short = refl }, (bare_digits (decimal number) numeral.0 numeral.1, tt))
bare_spelled (Full rate) range =
    let small = among_small rate full_speed_rates ten_small range in
    let numeral = (decimal_is_IsNumeral rate (omega arith)).0 in
    (record { dashed = refl; ends = refl; option = refl; valued = refl; long = refl; short = refl }, (bare_digits (decimal rate) numeral.0 numeral.1, tt))
bare_spelled (Pair rate) range =
    let small = among_small rate twelve_rates twelve_small range in
    let numeral = (decimal_is_IsNumeral rate (omega arith)).0 in
    (record { dashed = refl; ends = refl; option = refl; valued = refl; long = refl; short = refl }, (bare_digits (decimal rate) numeral.0 numeral.1, tt))

command_spelled : (command : Command) → IsCommandInRange command → command_in (command_words command) ≡ Some command
command_spelled Check range = refl
command_spelled Show range = refl
command_spelled Elements range = refl
command_spelled Run range = refl
command_spelled Settle range = refl
command_spelled Panel range = refl
command_spelled (Gen number) range = ap (option_map Gen) (number_spelled number range)
command_spelled (Full rate) range = ap (option_map Full) (rate_spelled rate full_speed_rates ten_small range)
command_spelled (Pair rate) range = ap (option_map Pair) (rate_spelled rate twelve_rates twelve_small range)

all_front : {X : Type 0} (P : X → Type 0) (xs ys : List X) → AllByRecursion P (xs ++ ys) → AllByRecursion P xs
all_front P [] ys h = tt
all_front P (x ∷ xs) ys h = (h.0, all_front P xs ys h.1)

all_back : {X : Type 0} (P : X → Type 0) (xs ys : List X) → AllByRecursion P (xs ++ ys) → AllByRecursion P ys
all_back P [] ys h = h
all_back P (x ∷ xs) ys h = all_back P xs ys h.1

-- ---- the pieces of a line

placed_front : (xs rest bare racks : List CommandWord) → AllByRecursion IsBare xs → parted_words_of false rest ≡ Some (record { bare = bare; racks = racks })
    → parted_words_of false (xs ++ rest) ≡ Some (record { bare = xs ++ bare; racks = racks })
placed_front [] rest bare racks all e = e
placed_front (x ∷ xs) rest bare racks all e = placed_usual x (xs ++ rest) all.0 ∙ ap (option_map (with_bare x)) (placed_front xs rest bare racks all.1 e)

placed_end : (dashes following : List CommandWord) → AllByRecursion IsBare following → (dashes ≡ []) ⊎ (dashes ≡ codes "--" ∷ [])
    → parted_words_of false (dashes ++ following) ≡ Some (record { bare = following; racks = [] })
placed_end dashes following all end = elim end [
  | inl none ↦ subst (λ ds. parted_words_of false (ds ++ following) ≡ Some (record { bare = following; racks = [] })) (sym none)
      (subst (λ xs. parted_words_of false xs ≡ Some (record { bare = xs; racks = [] })) (append-nil following)
      (placed_front following [] [] [] all refl))
  | inr some ↦ subst (λ ds. parted_words_of false (ds ++ following) ≡ Some (record { bare = following; racks = [] })) (sym some) refl
]

placed_chosen : (option : List CommandWord) (rack : RackChoice) (rest bare : List CommandWord) → Chooses option rack
    → parted_words_of false rest ≡ Some (record { bare = bare; racks = [] })
    → (racks : List CommandWord) × (parted_words_of false (option ++ rest) ≡ Some (record { bare = bare; racks = racks })) × (rack_in racks ≡ Some rack)
placed_chosen option rack rest bare chooses e = elim chooses [
  | inl none ↦ ([], subst (λ xs. parted_words_of false (xs ++ rest) ≡ Some (record { bare = bare; racks = [] })) (sym none.0) e, ap Some (sym none.1))
  | inr some ↦ elim some [
    | inl apart ↦ (
      rack_name rack ∷ [],
      subst (λ xs. parted_words_of false (xs ++ rest) ≡ Some (record { bare = bare; racks = rack_name rack ∷ [] })) (sym apart)
          (apart_named rack ∙ ap (option_map (with_rack (rack_name rack))) e),
      rack_is rack,
    )
    | inr joined ↦ (
      rack_name rack ∷ [],
      subst (λ xs. parted_words_of false (xs ++ rest) ≡ Some (record { bare = bare; racks = rack_name rack ∷ [] })) (sym joined)
          (ap (option_map (with_rack (rack_name rack))) e),
      rack_is rack,
    )
  ]
]
  where
    apart_named : (rack : RackChoice) → parted_words_of false (codes "--rack" ∷ rack_name rack ∷ rest) ≡ option_map (with_rack (rack_name rack)) (parted_words_of false rest)
    apart_named Plain = refl
    apart_named Lanes = refl

    rack_is : (rack : RackChoice) → rack_in (rack_name rack ∷ []) ≡ Some rack
    rack_is Plain = refl
    rack_is Lanes = refl

-- each command line asks for its command over its rack
pub line_asks : (words : List CommandWord) (line : Invocation) → IsCommandLine words line → plainly words ≡ Some line
unfolding plainly
line_asks words line h =
    let all = bare_spelled line.command h.range in
    let bare_words = subst (AllByRecursion IsBare) (sym h.command) all in
    let rest = all_back IsBare h.before (h.between ++ h.following) bare_words in
    let end = placed_end h.dashes h.following (all_back IsBare h.between h.following rest) h.end in
    let middle = placed_front h.between (h.dashes ++ h.following) h.following [] (all_front IsBare h.between h.following rest) end in
    let chosen = placed_chosen h.option line.rack (h.between ++ (h.dashes ++ h.following)) (h.between ++ h.following) h.rack middle in
    let whole = placed_front h.before (h.option ++ (h.between ++ (h.dashes ++ h.following))) (h.between ++ h.following) chosen.0
    (all_front IsBare h.before (h.between ++ h.following) bare_words) chosen.1 in
    ap (λ ws. invocation_at (parted_words_of false ws)) h.whole ∙ ap invocation_at whole
    ∙ ap (λ c. both c (rack_in chosen.0)) (ap command_in h.command ∙ command_spelled line.command h.range)
    ∙ ap (both (Some line.command)) chosen.2
