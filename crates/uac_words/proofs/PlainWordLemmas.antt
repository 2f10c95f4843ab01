-- The five kinds of words, each as the simple command sees it.
use Rattle.std.proofs.Common.{◌≡◌, ◌⊎◌, ◌∙◌, ◌==◌, ap, sym, subst, refl, inl, inr, true, false, Bool, ℕ, suc, List, [], ◌∷◌, ◌++◌, take, drop, length, codes, Option, None, Some, arith, true≢false}
use Rattle.std.specs.Prelude.{◌+◌, slice_get}
use Rattle.std.specs.List.{before_first}
use Rattle.std.specs.Char.{encode_utf8}
use Rattle.std.specs.Str.{IsUtf8, bytes_eq, chars}
use Rattle.std.proofs.lemmas.Bool.{eqb-true}
use Rattle.std.proofs.lemmas.List.{take-append-drop}
use Rattle.std.proofs.lemmas.Str.{encodes-chars}
use Rattle.std.proofs.lemmas.Slice.Eq.{bytes_eq-Decides}
use Rattle.clap.specs.Lexer.{long_of, name_and_value, short_of}
use Rattle.std.specs.Prelude.{encode_utf8_all}
use Rattle.uac_words.specs.Plain.{CommandWord, ends_options, has_rack_value, is_dashed, is_option}

abbrev pub rack_name : CommandWord → CommandWord
rack_name rest = before_first (λ x. x == 61) rest

pub bytes_same : (xs ys : CommandWord) → bytes_eq xs ys ≡ true → xs ≡ ys
bytes_same xs ys e = (bytes_eq-Decides xs ys).0 e

-- a word for COMMAND, NUMBER or a value
pub record IsBare (word : CommandWord) : Type 0 where
  pub dashed : is_dashed word ≡ false
  pub ends : ends_options word ≡ false
  pub option : is_option word ≡ false
  pub valued : has_rack_value word ≡ false
  pub long : long_of word ≡ None
  pub short : short_of word ≡ None

-- a word that the simple command refuses wherever it may be an option
pub record IsStrange (word : CommandWord) : Type 0 where
  pub dashed : is_dashed word ≡ true
  pub ends : ends_options word ≡ false
  pub option : is_option word ≡ false
  pub valued : has_rack_value word ≡ false
  pub unknown : ((p : CommandWord × Option CommandWord) × (long_of word ≡ Some p) × (bytes_eq (codes "rack") p.0 ≡ false))
      ⊎ ((y : ℕ) × (ys : CommandWord) × (x : ℕ) × (long_of word ≡ None) × (short_of word ≡ Some (y ∷ ys)) × (slice_get (chars (y ∷ ys)) 0 ≡ Some x))

pub data Class (word : CommandWord) : Type 0 where
  dashes : word ≡ codes "--" → Class word
  option : word ≡ codes "--rack" → Class word
  valued : (v : CommandWord) → word ≡ codes "--rack=" ++ v → Class word
  strange : IsStrange word → Class word
  usual : IsBare word → Class word

pub alone : (b : ℕ) (t : Bool) → (b == 45) ≡ t → IsBare (b ∷ [])
alone b true e = record { dashed = refl; ends = rw e refl; option = rw e refl; valued = rw e refl; long = rw e refl; short = rw e refl }
alone b false e = record { dashed = refl; ends = rw e refl; option = rw e refl; valued = rw e refl; long = rw e refl; short = rw e refl }

pub undashed : (b y : ℕ) (ys : CommandWord) → (b == 45) ≡ false → IsBare (b ∷ y ∷ ys)
undashed b y ys e = record { dashed = e; ends = rw e refl; option = rw e refl; valued = rw e refl; long = rw e refl; short = rw e refl }

-- a text after a hyphen begins with a character
first_char : (y : ℕ) (ys : CommandWord) → (cs : List ℕ) → chars (y ∷ ys) ≡ cs → IsUtf8 (45 ∷ y ∷ ys) → (x : ℕ) × (slice_get (chars (y ∷ ys)) 0 ≡ Some x)
unfolding chars encode_utf8
first_char y ys (x ∷ xs) e valid = (x, rw e refl)
first_char y ys [] e valid =
    let whole = encodes-chars (45 ∷ y ∷ ys) valid in
    let short = ap length (sym whole ∙ ap (λ (cs : List ℕ). encode_utf8_all (45 ∷ cs)) e) in
    absurd (omega arith)

short_word : (y : ℕ) (ys : CommandWord) → (y == 45) ≡ false → IsUtf8 (45 ∷ y ∷ ys) → IsStrange (45 ∷ y ∷ ys)
short_word y ys e valid =
    let first = first_char y ys _ refl valid in
    record { dashed = refl; ends = rw e refl; option = rw e refl; valued = rw e refl; unknown = inr (y, ys, first.0, rw e refl, rw e refl, first.1) }

take_more : (x : ℕ) (xs : CommandWord) (k : ℕ) → take (1 + k) (x ∷ xs) ≡ x ∷ take k xs
take_more x xs k = let one_more : 1 + k ≡ suc k = omega arith in rw one_more refl

-- a text is its name, or its name with `=` (61) and a value after it
name_cut : (xs : CommandWord) → (xs ≡ rack_name xs) ⊎ ((v : CommandWord) × (xs ≡ rack_name xs ++ 61 ∷ v))
name_cut [] = inl refl
name_cut (x ∷ xs) = at (x == 61) refl (name_cut xs)
  where
    at : (t : Bool) → (x == 61) ≡ t → (xs ≡ rack_name xs) ⊎ ((v : CommandWord) × (xs ≡ rack_name xs ++ 61 ∷ v))
        → (x ∷ xs ≡ rack_name (x ∷ xs)) ⊎ ((v : CommandWord) × (x ∷ xs ≡ rack_name (x ∷ xs) ++ 61 ∷ v))
    at true e cut = inr (xs, rw e (ap (λ y. y ∷ xs) (eqb-true x 61 e)))
    at false e cut = elim cut [
      | inl whole ↦ inl (rw e (ap (λ ys. x ∷ ys) whole ∙ sym (take_more x xs _)))
      | inr more ↦ inr (more.0, rw e (ap (λ ys. x ∷ ys) more.1 ∙ sym (ap (λ ys. ys ++ 61 ∷ more.0) (take_more x xs _))))
    ]

-- the tests of a word that has another name than the option's
not_whole : (rest : CommandWord) → bytes_eq (codes "rack") (rack_name rest) ≡ false → (t : Bool) → bytes_eq rest (codes "rack") ≡ t → t ≡ false
not_whole rest other false e = refl
not_whole rest other true e =
    let same : rest ≡ codes "rack" = bytes_same rest (codes "rack") e in
    absurd (true≢false (ap (λ ys. bytes_eq (codes "rack") (rack_name ys)) (sym same) ∙ other))

not_valued : (rest : CommandWord) → bytes_eq (codes "rack") (rack_name rest) ≡ false → (t : Bool) → bytes_eq (take 5 rest) (codes "rack=") ≡ t → t ≡ false
not_valued rest other false e = refl
not_valued rest other true e =
    let front : take 5 rest ≡ codes "rack=" = bytes_same (take 5 rest) (codes "rack=") e in
    let same : rest ≡ codes "rack=" ++ drop 5 rest = sym (take-append-drop 5 rest) ∙ ap (λ ys. ys ++ drop 5 rest) front in
    absurd (true≢false (ap (λ ys. bytes_eq (codes "rack") (rack_name ys)) (sym same) ∙ other))

strange_long : (x : ℕ) (xs : CommandWord) → bytes_eq (codes "rack") (rack_name (x ∷ xs)) ≡ false → IsStrange (45 ∷ 45 ∷ x ∷ xs)
strange_long x xs other = record {
  dashed = refl;
  ends = refl;
  option = not_whole (x ∷ xs) other _ refl;
  valued = not_valued (x ∷ xs) other _ refl;
  unknown = inl (name_and_value (x ∷ xs), refl, other);
}

long_word : (x : ℕ) (xs : CommandWord) → (t : Bool) → bytes_eq (codes "rack") (rack_name (x ∷ xs)) ≡ t → Class (45 ∷ 45 ∷ x ∷ xs)
long_word x xs false e = strange (strange_long x xs e)
long_word x xs true e =
    let name : codes "rack" ≡ rack_name (x ∷ xs) = bytes_same _ _ e in
    elim (name_cut (x ∷ xs)) [
      | inl whole ↦ option (ap (λ ys. 45 ∷ 45 ∷ ys) (whole ∙ sym name))
      | inr more ↦ valued more.0 (ap (λ ys. 45 ∷ 45 ∷ ys) (more.1 ∙ ap (λ ys. ys ++ 61 ∷ more.0) (sym name)))
    ]

dashed_word : (y : ℕ) (ys : CommandWord) → (t : Bool) → (y == 45) ≡ t → IsUtf8 (45 ∷ y ∷ ys) → Class (45 ∷ y ∷ ys)
dashed_word y ys false e valid = strange (short_word y ys e valid)
dashed_word y [] true e valid = dashes (ap (λ b. 45 ∷ b ∷ []) (eqb-true y 45 e))
dashed_word y (x ∷ xs) true e valid = subst (λ b. Class (45 ∷ b ∷ x ∷ xs)) (sym (eqb-true y 45 e)) (long_word x xs _ refl)

first_byte : (b y : ℕ) (ys : CommandWord) → (t : Bool) → (b == 45) ≡ t → IsUtf8 (b ∷ y ∷ ys) → Class (b ∷ y ∷ ys)
first_byte b y ys false e valid = usual (undashed b y ys e)
first_byte b y ys true e valid =
    let hyphen = eqb-true b 45 e in
    subst (λ x. Class (x ∷ y ∷ ys)) (sym hyphen) (dashed_word y ys _ refl (subst (λ x. IsUtf8 (x ∷ y ∷ ys)) hyphen valid))

-- each word is of one of the kinds
pub class_of : (word : CommandWord) → IsUtf8 word → Class word
class_of [] valid = usual (record { dashed = refl; ends = refl; option = refl; valued = refl; long = refl; short = refl })
class_of (b ∷ []) valid = usual (alone b _ refl)
class_of (b ∷ y ∷ ys) valid = first_byte b y ys _ refl valid
