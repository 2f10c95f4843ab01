-- Words that ask for something are a command line.
use Rattle.std.proofs.Common.{◌≡◌, ◌⊎◌, ◌∙◌, ◌<◌, ◌≤◌, ◌^◌, ap, sym, subst, refl, inl, inr, true, false, Bool, ℕ, List, [], ◌∷◌, ◌++◌, length, take, drop, codes, decimal, Option, None, Some, unwrap_or, Result, Ok, Err, arith, true≢false}
use Rattle.std.specs.Prelude.{◌==◌, ◌&&◌, ◌||◌, if◌then◌else◌, not, nat_le}
use Rattle.std.specs.List.{slice_index}
use Rattle.std.specs.Option.{is_some, option_and_then, option_map}
use Rattle.std.specs.Str.{bytes_eq}
use Rattle.std.specs.Str.Parse.{digits_value}
use Rattle.std.proofs.lemmas.Bool.{and_parts, eqb-true, leb-true, ltb-true}
use Rattle.std.proofs.lemmas.Fmt.{decimal-digits_value}
use Rattle.std.proofs.lemmas.List.{take-append-drop}
use Rattle.std.proofs.lemmas.Str.Parse.{numerals_by_value, tells_digits}
use Rattle.uac_words.specs.declared.commands.Command.{Command}
use Rattle.uac_words.specs.declared.commands.Command.TheVariants.{Check, Show, Elements, Run, Gen, Full, Settle, Pair, Panel}
use Rattle.uac_words.specs.declared.commands.RackChoice.{RackChoice}
use Rattle.uac_words.specs.declared.commands.RackChoice.TheVariants.{Plain, Lanes}
use Rattle.uac_words.specs.declared.commands.Invocation.{Invocation}
use Rattle.uac_words.specs.declared.commands.WordsFault.{WordsFault}
use Rattle.uac_words.specs.declared.commands.WordsFault.TheVariants.{NoMemory, Usage}
use Rattle.uac_words.specs.ByClap.{IsAnswer}
use Rattle.uac_clock.specs.Nominal.{twelve_rates}
use Rattle.uac_words.specs.Table.{full_speed_rates}
use Rattle.uac_words.specs.Asked.{both, is_among, is_decimal, decimal_value_of, rate_of}
use Rattle.uac_words.specs.CommandLines.{AnswersLine, IsCommandInRange, IsCommandLine, rack_name, command_words}
use Rattle.uac_words.specs.Plain.{PartedWords, CommandWord, invocation_at, command_in, ends_options, has_rack_value, is_dashed, is_option, parted_words_of, plainly, rack_in, with_bare, with_rack}
use Rattle.uac_words.proofs.CommandLinesLemmas.{line_asks}
use Rattle.uac_words.proofs.AskedDigitLemmas.{digits_all}
use Rattle.uac_words.proofs.PlainWordLemmas.{bytes_same}

-- ---- options

nothing : {X R : Type 0} (x : X) → None ≡ Some x → R
nothing x e = absurd (true≢false (sym (ap is_some e)))

inside : {X : Type 0} (x y : X) → Some x ≡ Some y → x ≡ y
inside x y e = ap (λ o. unwrap_or o x) e

mapped : {X Y : Type 0} (f : X → Y) (o : Option X) (y : Y) → option_map f o ≡ Some y → (x : X) × (o ≡ Some x) × (f x ≡ y)
mapped f None y e = nothing y e
mapped f (Some x) y e = (x, refl, inside (f x) y e)

-- ---- a number

lead_one : (first len : ℕ) → (not (first == 48) || (len == 1)) ≡ true → first ≡ 48 → len ≡ 1
lead_one first len h e = eqb-true len 1 (subst (λ x. (not (x == 48) || (len == 1)) ≡ true) e h)

written : (text : CommandWord) → is_decimal text ≡ true → digits_value 10 text ≤ 4294967295 → decimal (digits_value 10 text) ≡ text
unfolding is_decimal
written text h small =
    let parts = and_parts _ _ h in
    let more = and_parts _ _ parts.0 in
    let some = ltb-true 0 (length text) more.0 in
    decimal-digits_value (numerals_by_value _ tells_digits) text (digits_all text parts.1) (omega arith)
    (lead_one (slice_index text 0) (length text) more.1) (omega arith)

number_written : (text : CommandWord) (n : ℕ) → decimal_value_of text ≡ Some n → (text ≡ decimal n) × (n < 2 ^ 32)
unfolding decimal_value_of
number_written text n h = go (is_decimal text && nat_le (digits_value 10 text) 4294967295) refl h
  where
    go : (t : Bool) → (is_decimal text && nat_le (digits_value 10 text) 4294967295) ≡ t → (if t then Some (digits_value 10 text) else None) ≡ Some n
        → (text ≡ decimal n) × (n < 2 ^ 32)
    go false e h = nothing n h
    go true e h =
        let parts = and_parts _ _ e in
        let small = leb-true (digits_value 10 text) 4294967295 parts.1 in
        let value = inside (digits_value 10 text) n h in
        (sym (written text parts.0 small) ∙ ap decimal value, omega (arith, value))

-- ---- a rate

one_kept : (rates : List ℕ) (m n : ℕ) (b : Bool) → is_among m rates ≡ b → (if b then Some m else None) ≡ Some n → (m ≡ n) × (is_among n rates ≡ true)
one_kept rates m n false e h = nothing n h
one_kept rates m n true e h = let same = inside m n h in (same, subst (λ (x : ℕ). is_among x rates ≡ true) same e)

rate_written : (text : CommandWord) (rates : List ℕ) (n : ℕ) → rate_of rates text ≡ Some n → (text ≡ decimal n) × (is_among n rates ≡ true)
rate_written text rates n h = by (decimal_value_of text) refl h
  where
    by : (o : Option ℕ) → decimal_value_of text ≡ o → option_and_then (λ rate. if is_among rate rates then Some rate else None) o ≡ Some n
        → (text ≡ decimal n) × (is_among n rates ≡ true)
    by None e h = nothing n h
    by (Some m) e h =
        let kept = one_kept rates m n (is_among m rates) refl h in
        ((number_written text m e).0 ∙ ap decimal kept.0, kept.1)

-- ---- a command and a rack

abbrev IsSpelled : List CommandWord → Command → Type 0
IsSpelled bare command = (bare ≡ command_words command) × IsCommandInRange command

named : (word name : CommandWord) (this command : Command) (others : Option Command) → IsSpelled (name ∷ []) this → (t : Bool) → bytes_eq word name ≡ t
    → (if t then Some this else others) ≡ Some command → (others ≡ Some command → IsSpelled (word ∷ []) command) → IsSpelled (word ∷ []) command
named word name this command others is false e h next = next h
named word name this command others is true e h next =
    let same = inside this command h in
    subst (λ (c : Command). IsSpelled (word ∷ []) c) same (ap (λ w. w ∷ []) (bytes_same word name e) ∙ is.0, is.1)

numbered : (word number name : CommandWord) (make : ℕ → Command) (value : Option ℕ) (command : Command) (others : Option Command)
    → ((n : ℕ) → value ≡ Some n → IsSpelled (name ∷ number ∷ []) (make n)) → (t : Bool) → bytes_eq word name ≡ t
    → (if t then option_map make value else others) ≡ Some command
    → (others ≡ Some command → IsSpelled (word ∷ number ∷ []) command) → IsSpelled (word ∷ number ∷ []) command
numbered word number name make value command others is false e h next = next h
numbered word number name make value command others is true e h next =
    let found = mapped make value command h in
    subst (λ (w : CommandWord). IsSpelled (w ∷ number ∷ []) command) (sym (bytes_same word name e))
    (subst (λ (c : Command). IsSpelled (name ∷ number ∷ []) c) found.2 (is found.0 found.1))

command_written : (bare : List CommandWord) (command : Command) → command_in bare ≡ Some command → IsSpelled bare command
command_written [] command h = nothing command h
command_written (word ∷ []) command h =
    named word (codes "check") Check command _ (refl, tt) _ refl h (λ h.
    named word (codes "show") Show command _ (refl, tt) _ refl h (λ h.
    named word (codes "elements") Elements command _ (refl, tt) _ refl h (λ h.
    named word (codes "run") Run command _ (refl, tt) _ refl h (λ h.
    named word (codes "settle") Settle command _ (refl, tt) _ refl h (λ h.
    named word (codes "panel") Panel command _ (refl, tt) _ refl h (λ h. nothing command h))))))
command_written (word ∷ number ∷ []) command h =
    numbered word number (codes "gen") Gen (decimal_value_of number) command _
    (λ n e. let is = number_written number n e in (ap (λ d. codes "gen" ∷ d ∷ []) is.0, is.1)) _ refl h (λ h.
    numbered word number (codes "full") Full (rate_of full_speed_rates number) command _
    (λ n e. let is = rate_written number full_speed_rates n e in (ap (λ d. codes "full" ∷ d ∷ []) is.0, is.1)) _ refl h (λ h.
    numbered word number (codes "pair") Pair (rate_of twelve_rates number) command _
    (λ n e. let is = rate_written number twelve_rates n e in (ap (λ d. codes "pair" ∷ d ∷ []) is.0, is.1)) _ refl h (λ h. nothing command h)))
command_written (word ∷ number ∷ third ∷ more) command h = nothing command h

rack_written : (racks : List CommandWord) (rack : RackChoice) → rack_in racks ≡ Some rack → (racks ≡ []) × (rack ≡ Plain) ⊎ (racks ≡ rack_name rack ∷ [])
rack_written [] rack h = inl (refl, sym (inside Plain rack h))
rack_written (word ∷ []) rack h = first (bytes_eq word (codes "plain")) refl h
  where
    second : (t : Bool) → bytes_eq word (codes "lanes") ≡ t → (if t then Some Lanes else None) ≡ Some rack
        → (word ∷ [] ≡ []) × (rack ≡ Plain) ⊎ (word ∷ [] ≡ rack_name rack ∷ [])
    second false e h = nothing rack h
    second true e h = inr (ap (λ w. w ∷ []) (bytes_same word (codes "lanes") e) ∙ ap (λ r. rack_name r ∷ []) (inside Lanes rack h))

    first : (t : Bool) → bytes_eq word (codes "plain") ≡ t → (if t then Some Plain else (if bytes_eq word (codes "lanes") then Some Lanes else None)) ≡ Some rack
        → (word ∷ [] ≡ []) × (rack ≡ Plain) ⊎ (word ∷ [] ≡ rack_name rack ∷ [])
    first true e h = inr (ap (λ w. w ∷ []) (bytes_same word (codes "plain") e) ∙ ap (λ r. rack_name r ∷ []) (inside Plain rack h))
    first false e h = second (bytes_eq word (codes "lanes")) refl h
rack_written (word ∷ other ∷ more) rack h = nothing rack h

both_there : (c : Option Command) (r : Option RackChoice) (line : Invocation) → both c r ≡ Some line → (c ≡ Some line.command) × (r ≡ Some line.rack)
both_there None r line h = nothing line h
both_there (Some c) None line h = nothing line h
both_there (Some c) (Some r) line h =
    let same = inside (record { command = c; rack = r }) line h in
    (ap (λ w. Some w.command) same, ap (λ w. Some w.rack) same)

-- ---- the words one after the other

data First (word : CommandWord) (rest : List CommandWord) : Type 0 where
  ends : word ≡ codes "--" → parted_words_of false (word ∷ rest) ≡ Some (record { bare = rest; racks = [] }) → First word rest
  apart : word ≡ codes "--rack" → parted_words_of false (word ∷ rest) ≡ parted_words_of true rest → First word rest
  joined : (v : CommandWord) → word ≡ codes "--rack=" ++ v → parted_words_of false (word ∷ rest) ≡ option_map (with_rack v) (parted_words_of false rest) → First word rest
  unknown : parted_words_of false (word ∷ rest) ≡ None → First word rest
  usual : parted_words_of false (word ∷ rest) ≡ option_map (with_bare word) (parted_words_of false rest) → First word rest

first_of : (word : CommandWord) (rest : List CommandWord) → First word rest
first_of word rest = at (ends_options word) refl (is_option word) refl (has_rack_value word) refl (is_dashed word) refl
  where
    at : (a : Bool) → ends_options word ≡ a → (b : Bool) → is_option word ≡ b → (v : Bool) → has_rack_value word ≡ v → (d : Bool) → is_dashed word ≡ d
        → First word rest
    at true ea b eb v ev d ed = ends (bytes_same word (codes "--") ea) (rw ea refl)
    at false ea true eb v ev d ed = apart (bytes_same word (codes "--rack") eb) (rw (ea, eb) refl)
    at false ea false eb true ev d ed =
        joined (drop 7 word) (sym (take-append-drop 7 word) ∙ ap (λ xs. xs ++ drop 7 word) (bytes_same (take 7 word) (codes "--rack=") ev)) (rw (ea, eb, ev) refl)
    at false ea false eb false ev true ed = unknown (rw (ea, eb, ev, ed) refl)
    at false ea false eb false ev false ed = usual (rw (ea, eb, ev, ed) refl)

-- the value after `--rack`
valued : (words : List CommandWord) (p : PartedWords) → parted_words_of true words ≡ Some p
    → (value : CommandWord) × (rest : List CommandWord) × (q : PartedWords) × (words ≡ value ∷ rest) × (parted_words_of false rest ≡ Some q) × (with_rack value q ≡ p)
valued [] p h = nothing p h
valued (word ∷ rest) p h = at (is_dashed word) refl h
  where
    at : (t : Bool) → is_dashed word ≡ t → (if t then None else option_map (with_rack word) (parted_words_of false rest)) ≡ Some p
        → (value : CommandWord) × (rest_ : List CommandWord) × (q : PartedWords) × (word ∷ rest ≡ value ∷ rest_) × (parted_words_of false rest_ ≡ Some q) × (with_rack value q ≡ p)
    at true e h = nothing p h
    at false e h = let found = mapped (with_rack word) (parted_words_of false rest) p h in (word, rest, found.0, refl, found.1, found.2)

-- words that choose no rack
record IsRest (words bare : List CommandWord) : Type 0 where
  between : List CommandWord
  dashes : List CommandWord
  following : List CommandWord
  whole : words ≡ between ++ (dashes ++ following)
  parts : between ++ following ≡ bare
  end : (dashes ≡ []) ⊎ (dashes ≡ codes "--" ∷ [])

one_more : (value : CommandWord) (more : List CommandWord) → value ∷ more ≡ [] → ⊥
one_more value more e = let lengths = ap length e in omega arith

no_choice : (words : List CommandWord) (p : PartedWords) → parted_words_of false words ≡ Some p → p.racks ≡ [] → IsRest words p.bare
no_choice [] p h none = record { between = []; dashes = []; following = []; whole = refl; parts = ap (λ q. q.bare) (inside _ p h); end = inl refl }
no_choice (word ∷ rest) p h none = elim (first_of word rest) [
  | ends is e ↦ record {
    between = [];
    dashes = codes "--" ∷ [];
    following = rest;
    whole = ap (λ w. w ∷ rest) is;
    parts = ap (λ q. q.bare) (inside _ p (sym e ∙ h));
    end = inr refl;
  }
  | apart is e ↦ let found = valued rest p (sym e ∙ h) in absurd (one_more found.0 found.2.racks (ap (λ q. q.racks) found.5 ∙ none))
  | joined v is e ↦ let found = mapped (with_rack v) (parted_words_of false rest) p (sym e ∙ h) in absurd (one_more v found.0.racks (ap (λ q. q.racks) found.2 ∙ none))
  | unknown e ↦ nothing p (sym e ∙ h)
  | usual e ↦
      let found = mapped (with_bare word) (parted_words_of false rest) p (sym e ∙ h) in
      let more = no_choice rest found.0 found.1 (ap (λ q. q.racks) found.2 ∙ none) in
      record {
        between = word ∷ more.between;
        dashes = more.dashes;
        following = more.following;
        whole = ap (λ ws. word ∷ ws) more.whole;
        parts = ap (λ ws. word ∷ ws) more.parts ∙ ap (λ q. q.bare) found.2;
        end = more.end;
      }
]

-- words that choose this rack
record IsChoice (words bare : List CommandWord) (value : CommandWord) : Type 0 where
  before : List CommandWord
  option : List CommandWord
  between : List CommandWord
  dashes : List CommandWord
  following : List CommandWord
  whole : words ≡ before ++ (option ++ (between ++ (dashes ++ following)))
  parts : before ++ (between ++ following) ≡ bare
  chosen : (option ≡ codes "--rack" ∷ value ∷ []) ⊎ (option ≡ (codes "--rack=" ++ value) ∷ [])
  end : (dashes ≡ []) ⊎ (dashes ≡ codes "--" ∷ [])

head_of : List CommandWord → CommandWord
head_of [] = []
head_of (word ∷ more) = word

tail_of : List CommandWord → List CommandWord
tail_of [] = []
tail_of (word ∷ more) = more

one_choice : (words : List CommandWord) (p : PartedWords) (value : CommandWord) → parted_words_of false words ≡ Some p → p.racks ≡ value ∷ [] → IsChoice words p.bare value
unfolding head_of tail_of
one_choice [] p value h one = absurd (one_more value [] (sym (ap (λ q. q.racks) (inside _ p h) ∙ one)))
one_choice (word ∷ rest) p value h one = elim (first_of word rest) [
  | ends is e ↦ absurd (one_more value [] (sym (ap (λ q. q.racks) (inside _ p (sym e ∙ h)) ∙ one)))
  | apart is e ↦
      let found = valued rest p (sym e ∙ h) in
      let racks = ap (λ q. q.racks) found.5 ∙ one in
      let more = no_choice found.1 found.2 found.4 (ap tail_of racks) in
      record {
        before = [];
        option = codes "--rack" ∷ value ∷ [];
        between = more.between;
        dashes = more.dashes;
        following = more.following;
        whole = ap (λ w. w ∷ rest) is ∙ ap (λ ws. codes "--rack" ∷ ws) (found.3 ∙ ap (λ w. w ∷ found.1) (ap head_of racks) ∙ ap (λ ws. value ∷ ws) more.whole);
        parts = more.parts ∙ ap (λ q. q.bare) found.5;
        chosen = inl refl;
        end = more.end;
      }
  | joined v is e ↦
      let found = mapped (with_rack v) (parted_words_of false rest) p (sym e ∙ h) in
      let racks = ap (λ q. q.racks) found.2 ∙ one in
      let more = no_choice rest found.0 found.1 (ap tail_of racks) in
      record {
        before = [];
        option = (codes "--rack=" ++ value) ∷ [];
        between = more.between;
        dashes = more.dashes;
        following = more.following;
        whole = ap (λ w. w ∷ rest) (is ∙ ap (λ w. codes "--rack=" ++ w) (ap head_of racks)) ∙ ap (λ ws. (codes "--rack=" ++ value) ∷ ws) more.whole;
        parts = more.parts ∙ ap (λ q. q.bare) found.2;
        chosen = inr refl;
        end = more.end;
      }
  | unknown e ↦ nothing p (sym e ∙ h)
  | usual e ↦
      let found = mapped (with_bare word) (parted_words_of false rest) p (sym e ∙ h) in
      let more = one_choice rest found.0 value found.1 (ap (λ q. q.racks) found.2 ∙ one) in
      record {
        before = word ∷ more.before;
        option = more.option;
        between = more.between;
        dashes = more.dashes;
        following = more.following;
        whole = ap (λ ws. word ∷ ws) more.whole;
        parts = ap (λ ws. word ∷ ws) more.parts ∙ ap (λ q. q.bare) found.2;
        chosen = more.chosen;
        end = more.end;
      }
]

-- what asks for something is a command line
pub nothing_else_asks : (words : List CommandWord) (line : Invocation) → plainly words ≡ Some line → IsCommandLine words line
unfolding plainly
nothing_else_asks words line h = go (parted_words_of false words) refl h
  where
    go : (o : Option PartedWords) → parted_words_of false words ≡ o → invocation_at o ≡ Some line → IsCommandLine words line
    go None e h = nothing line h
    go (Some p) e h =
        let there = both_there (command_in p.bare) (rack_in p.racks) line h in
        let command = command_written p.bare line.command there.0 in
        elim (rack_written p.racks line.rack there.1) [
          | inl none ↦
              let rest = no_choice words p e none.0 in
              record {
                before = [];
                option = [];
                between = rest.between;
                dashes = rest.dashes;
                following = rest.following;
                whole = rest.whole;
                command = rest.parts ∙ command.0;
                range = command.1;
                rack = inl (refl, none.1);
                end = rest.end;
              }
          | inr one ↦
              let choice = one_choice words p (rack_name line.rack) e one in
              record {
                before = choice.before;
                option = choice.option;
                between = choice.between;
                dashes = choice.dashes;
                following = choice.following;
                whole = choice.whole;
                command = choice.parts ∙ command.0;
                range = command.1;
                rack = inr choice.chosen;
                end = choice.end;
              }
        ]

-- the answer to what is said of the words is right for command lines
pub answers_line : (words : List CommandWord) (r : Result Invocation WordsFault) → IsAnswer (plainly words) r → AnswersLine words r
answers_line words (Ok line) h = nothing_else_asks words line h
answers_line words (Err Usage) h = λ line is. nothing line (sym h ∙ line_asks words line is)
answers_line words (Err NoMemory) h = tt
