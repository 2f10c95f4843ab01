-- Lines that are printed one after the other.
use Rattle.std.proofs.Common.{◌≡◌, ◌∙◌, refl, sym, ap, subst, ℕ, ◌+◌, ◌<◌, List, [], ◌∷◌, ◌++◌, length, map, take, drop, get_or, flat_map, Option, Result, IsErrAnd, Ok, Err, OnOk}
use Rattle.std.specs.Io.KnownBytes.{Appends}
use Rattle.std.proofs.lemmas.Grind.{flat_map-append}
use Rattle.std.proofs.lemmas.List.{append-nil, map-append, take-append-drop, take_more}
use Rattle.uac_edges.specs.Writing.{AppendsFront, Writes}
use Rattle.uac_edges.proofs.WritingLemmas.{Appends-twice, AppendsFront-after, AppendsFront-longer, Writes-after, Writes-handed_on}
use Rattle.uac_transcript.specs.Transcript.{Said, spelling_of}
use Rattle.uac_transcript.specs.Printing.{Prints, text_of}

-- ---- lines of any kind, by their spelling

module _ {A : Type 0} (spell : A → List ℕ) where
  pub spelt-append : (first second : List A) → flat_map spell (first ++ second) ≡ flat_map spell first ++ flat_map spell second
  spelt-append first second = flat_map-append spell first second

  -- one line
  pub spelt-one : (old new : Option (List ℕ)) (line : A) → Appends old new (spell line) → Appends old new (flat_map spell (line ∷ []))
  spelt-one old new line a = subst (Appends old new) (sym (append-nil (spell line))) a

  pub spelt-front_of_one : (old new : Option (List ℕ)) (line : A) → AppendsFront old new (spell line) → AppendsFront old new (flat_map spell (line ∷ []))
  spelt-front_of_one old new line f = subst (AppendsFront old new) (sym (append-nil (spell line))) f

  pub spelt-line : {T E : Type 0} (old new : Option (List ℕ)) (r : Result T E) (line : A) → Writes old new r (spell line) → Writes old new r (flat_map spell (line ∷ []))
  spelt-line old new r line w = subst (Writes old new r) (sym (append-nil (spell line))) w

  -- lines, and then others
  pub spelt-lines : (old mid new : Option (List ℕ)) (first second : List A) → Appends old mid (flat_map spell first) → Appends mid new (flat_map spell second)
      → Appends old new (flat_map spell (first ++ second))
  spelt-lines old mid new first second a b =
      subst (Appends old new) (sym (spelt-append first second)) (Appends-twice old mid new (flat_map spell first) (flat_map spell second) a b)

  pub spelt-after : {T E : Type 0} (old mid new : Option (List ℕ)) (r : Result T E) (first second : List A) → Appends old mid (flat_map spell first) → Writes mid new r (flat_map spell second)
      → Writes old new r (flat_map spell (first ++ second))
  spelt-after old mid new r first second a p =
      subst (Writes old new r) (sym (spelt-append first second)) (Writes-after old mid new r (flat_map spell first) (flat_map spell second) a p)

  -- a front of some lines is one of those and others
  pub spelt-front_of_more : (old new : Option (List ℕ)) (first second : List A) → AppendsFront old new (flat_map spell first) → AppendsFront old new (flat_map spell (first ++ second))
  spelt-front_of_more old new first second f =
      subst (AppendsFront old new) (sym (spelt-append first second)) (AppendsFront-longer old new (flat_map spell first) (flat_map spell second) f)

  -- lines, and then a front of others
  pub spelt-front_after : (old mid new : Option (List ℕ)) (first second : List A) → Appends old mid (flat_map spell first) → AppendsFront mid new (flat_map spell second)
      → AppendsFront old new (flat_map spell (first ++ second))
  spelt-front_after old mid new first second a f =
      subst (AppendsFront old new) (sym (spelt-append first second)) (AppendsFront-after old mid new (flat_map spell first) (flat_map spell second) a f)

  -- where `?` hands a failure on a front of the lines was printed; what is to hold at Ok is not asked then
  pub spelt-handed_on : {T E : Type 0} (Q : E → Type 0) (P : Type 0) (old new : Option (List ℕ)) (r : Result T E) (lines : List A) → IsErrAnd r Q → AppendsFront old new (flat_map spell lines)
      → Writes old new r (flat_map spell lines) × OnOk r P
  spelt-handed_on Q P old new (Ok x) lines fails f = absurd fails
  spelt-handed_on Q P old new (Err e) lines fails f = (f, tt)

  -- a front of the first lines is then one of those and others
  pub spelt-stopped : {T E : Type 0} (Q : E → Type 0) (old new : Option (List ℕ)) (r : Result T E) (first second : List A) → IsErrAnd r Q → AppendsFront old new (flat_map spell first)
      → Writes old new r (flat_map spell (first ++ second))
  spelt-stopped Q old new r first second fails f = Writes-handed_on Q old new r (flat_map spell (first ++ second)) fails (spelt-front_of_more old new first second f)

  -- the first lines, and then a front of the next
  pub spelt-stopped_next : {T E : Type 0} (Q : E → Type 0) (old mid new : Option (List ℕ)) (r : Result T E) (first second : List A) → IsErrAnd r Q → Appends old mid (flat_map spell first)
      → AppendsFront mid new (flat_map spell second) → Writes old new r (flat_map spell (first ++ second))
  spelt-stopped_next Q old mid new r first second fails a f =
      Writes-handed_on Q old new r (flat_map spell (first ++ second)) fails (spelt-front_after old mid new first second a f)

-- lines of one kind, as lines of another
pub spelt-mapped : {A B : Type 0} (spell : A → List ℕ) (f : B → A) (lines : List B) → flat_map spell (map f lines) ≡ flat_map (λ line. spell (f line)) lines
spelt-mapped spell f [] = refl
spelt-mapped spell f (line ∷ lines) = ap (λ (text : List ℕ). spell (f line) ++ text) (spelt-mapped spell f lines)

-- what is printed of lines of any kind, one after the other
pub ruleset spelt = (spelt-line, spelt-after, spelt-stopped, spelt-stopped_next, spelt-front_of_more)

-- ---- the lines of a run

pub text_of-append : (first second : List Said) → text_of (first ++ second) ≡ text_of first ++ text_of second
text_of-append = spelt-append spelling_of

-- one line
pub Appends-line : (old new : Option (List ℕ)) (said : Said) → Appends old new (spelling_of said) → Appends old new (text_of (said ∷ []))
Appends-line = spelt-one spelling_of

pub front_of_line : (old new : Option (List ℕ)) (said : Said) → AppendsFront old new (spelling_of said) → AppendsFront old new (text_of (said ∷ []))
front_of_line = spelt-front_of_one spelling_of

pub Prints-line : {T E : Type 0} (old new : Option (List ℕ)) (r : Result T E) (said : Said) → Writes old new r (spelling_of said) → Prints old new r (said ∷ [])
Prints-line old new r said w = spelt-line spelling_of old new r said w

-- lines, and then others
pub Appends-lines : (old mid new : Option (List ℕ)) (first second : List Said) → Appends old mid (text_of first) → Appends mid new (text_of second)
    → Appends old new (text_of (first ++ second))
Appends-lines = spelt-lines spelling_of

pub Prints-after : {T E : Type 0} (old mid new : Option (List ℕ)) (r : Result T E) (first second : List Said) → Appends old mid (text_of first) → Prints mid new r second
    → Prints old new r (first ++ second)
Prints-after old mid new r first second a p = spelt-after spelling_of old mid new r first second a p

-- a front of some lines is one of those and others
pub front_of_more : (old new : Option (List ℕ)) (first second : List Said) → AppendsFront old new (text_of first) → AppendsFront old new (text_of (first ++ second))
front_of_more = spelt-front_of_more spelling_of

-- lines, and then a front of others
pub front_after : (old mid new : Option (List ℕ)) (first second : List Said) → Appends old mid (text_of first) → AppendsFront mid new (text_of second)
    → AppendsFront old new (text_of (first ++ second))
front_after = spelt-front_after spelling_of

-- lines, a front of others, and what was to come
front_within : (old mid new : Option (List ℕ)) (before lines after : List Said) → Appends old mid (text_of before) → AppendsFront mid new (text_of lines)
    → AppendsFront old new (text_of ((before ++ lines) ++ after))
front_within old mid new before lines after a f = front_of_more old new (before ++ lines) after (front_after old mid new before lines a f)

-- ---- a failure that `?` hands on

-- a front of the lines was printed; what is to hold at Ok is not asked then
pub Tells-handed_on : {T E : Type 0} (Q : E → Type 0) (P : Type 0) (old new : Option (List ℕ)) (r : Result T E) (lines : List Said) → IsErrAnd r Q → AppendsFront old new (text_of lines)
    → Prints old new r lines × OnOk r P
Tells-handed_on Q P old new r lines fails f = spelt-handed_on spelling_of Q P old new r lines fails f

-- a front of the first lines is one of those and others
pub Prints-stopped : {T E : Type 0} (Q : E → Type 0) (old new : Option (List ℕ)) (r : Result T E) (first second : List Said) → IsErrAnd r Q → AppendsFront old new (text_of first)
    → Prints old new r (first ++ second)
Prints-stopped Q old new r first second fails f = spelt-stopped spelling_of Q old new r first second fails f

-- the first lines, and then a front of the next
pub Prints-stopped_next : {T E : Type 0} (Q : E → Type 0) (old mid new : Option (List ℕ)) (r : Result T E) (first second : List Said) → IsErrAnd r Q → Appends old mid (text_of first)
    → AppendsFront mid new (text_of second) → Prints old new r (first ++ second)
Prints-stopped_next Q old mid new r first second fails a f = spelt-stopped_next spelling_of Q old mid new r first second fails a f

-- what `?` leaves of lines that are printed one after the other
pub ruleset stops = (Prints-stopped, Prints-stopped_next, front_of_more)

-- ---- a line for each item

module _ {X : Type 0} (old mid new : Option (List ℕ)) (f : X → Said) (xs : List X) (i : ℕ) (d : X) (said : Said) (below : i < length xs) (is : said ≡ f (get_or xs i d)) where
  map_more : map f (take i xs) ++ (said ∷ []) ≡ map f (take (i + 1) xs)
  map_more =
      ap (λ (s : Said). map f (take i xs) ++ (s ∷ [])) is ∙ sym (ap (map f) (take_more xs i d below) ∙ map-append f (take i xs) (get_or xs i d ∷ []))

  -- that of one item more
  pub one_line_more : Appends old mid (text_of (map f (take i xs))) → Appends mid new (spelling_of said) → Appends old new (text_of (map f (take (i + 1) xs)))
  one_line_more before next =
      subst (λ (lines : List Said). Appends old new (text_of lines)) map_more
      (Appends-lines old mid new (map f (take i xs)) (said ∷ []) before (Appends-line mid new said next))

  -- the lines up to an item, and a front of its line, are a front of all
  pub front_of_lines : Appends old mid (text_of (map f (take i xs))) → AppendsFront mid new (spelling_of said) → AppendsFront old new (text_of (map f xs))
  front_of_lines before front =
      let all : (map f (take i xs) ++ (said ∷ [])) ++ map f (drop (i + 1) xs) ≡ map f xs =
      ap (λ (lines : List Said). lines ++ map f (drop (i + 1) xs)) map_more
      ∙ (sym (map-append f (take (i + 1) xs) (drop (i + 1) xs)) ∙ ap (map f) (take-append-drop (i + 1) xs)) in
      subst (λ (lines : List Said). AppendsFront old new (text_of lines)) all
      (front_within old mid new (map f (take i xs)) (said ∷ []) (map f (drop (i + 1) xs)) before (front_of_line mid new said front))

-- ---- lines for each item

module _ {X : Type 0} (old mid new : Option (List ℕ)) (f : X → List Said) (xs : List X) (i : ℕ) (d : X) (lines : List Said) (below : i < length xs) (is : lines ≡ f (get_or xs i d)) where
  each_more : flat_map f (take i xs) ++ lines ≡ flat_map f (take (i + 1) xs)
  each_more =
      ap (λ (ls : List Said). flat_map f (take i xs) ++ ls) (is ∙ sym (append-nil (f (get_or xs i d))))
      ∙ sym (ap (flat_map f) (take_more xs i d below) ∙ flat_map-append f (take i xs) (get_or xs i d ∷ []))

  -- those of one item more
  pub some_lines_more : Appends old mid (text_of (flat_map f (take i xs))) → Appends mid new (text_of lines) → Appends old new (text_of (flat_map f (take (i + 1) xs)))
  some_lines_more before next =
      subst (λ (ls : List Said). Appends old new (text_of ls)) each_more (Appends-lines old mid new (flat_map f (take i xs)) lines before next)

  -- the lines up to an item, and a front of its own, are a front of all
  pub front_of_some : Appends old mid (text_of (flat_map f (take i xs))) → AppendsFront mid new (text_of lines) → AppendsFront old new (text_of (flat_map f xs))
  front_of_some before front =
      let all : (flat_map f (take i xs) ++ lines) ++ flat_map f (drop (i + 1) xs) ≡ flat_map f xs =
      ap (λ (ls : List Said). ls ++ flat_map f (drop (i + 1) xs)) each_more
      ∙ (sym (flat_map-append f (take (i + 1) xs) (drop (i + 1) xs)) ∙ ap (flat_map f) (take-append-drop (i + 1) xs)) in
      subst (λ (ls : List Said). AppendsFront old new (text_of ls)) all
      (front_within old mid new (flat_map f (take i xs)) lines (flat_map f (drop (i + 1) xs)) before front)
