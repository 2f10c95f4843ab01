-- Lines that are gathered in a text, which is given where it has no room for more.
use Rattle.std.proofs.Common.{◌≡◌, ◌∙◌, refl, sym, ap, subst, ℕ, ◌+◌, ◌<◌, List, [], ◌∷◌, ◌++◌, length, take, drop, get_or, flat_map, Option, Result, Ok, Err, IsErrAnd, append_assoc}
use Rattle.std.proofs.lemmas.Grind.{flat_map-append}
use Rattle.std.proofs.lemmas.List.{append-nil, take-append-drop, take_more}
use Rattle.std.specs.Io.KnownBytes.{Appends}
use Rattle.uac_edges.specs.Writing.{AppendsFront, Writes}
use Rattle.uac_edges.proofs.WritingLemmas.{Appends-twice, AppendsFront-after, Writes-after}
use Rattle.uac_transcript.specs.Printing.{Prints, text_of}
use Rattle.uac_transcript.specs.Transcript.{Said, spelling_of}
use Rattle.uac_transcript.proofs.PrintingLemmas.{front_of_more, text_of-append}
use Rattle.uac_running.specs.ReportLines.{Gathers, GathersMore}
use Rattle.uac_running.proofs.TellingLemmas.{Appends-nothing}

-- none at the start
pub none_gathered : (start : Option (List ℕ)) → Gathers start start [] []
none_gathered start = record { front = []; written = Appends-nothing start; parts = refl }

-- a line more in the text
pub line_gathered : (start now : Option (List ℕ)) (old new : List ℕ) (lines : List Said) (said : Said) → new ≡ old ++ spelling_of said
    → Gathers start now old lines → Gathers start now new (lines ++ said ∷ [])
line_gathered start now old new lines said is g = record {
  front = g.front;
  written = g.written;
  parts =
      text_of-append lines (said ∷ []) ∙ ap (λ (text : List ℕ). text_of lines ++ text) (append-nil (spelling_of said))
      ∙ ap (λ (text : List ℕ). text ++ spelling_of said) g.parts ∙ append_assoc g.front old (spelling_of said)
      ∙ ap (λ (text : List ℕ). g.front ++ text) (sym is);
}

-- the text was given, and holds no line anew
pub gathered_given : (start old new : Option (List ℕ)) (text : List ℕ) (lines : List Said) → Appends old new text → Gathers start old text lines → Gathers start new [] lines
gathered_given start old new text lines given g = record {
  front = g.front ++ text;
  written = Appends-twice start old new g.front text g.written given;
  parts = g.parts ∙ sym (append-nil (g.front ++ text));
}

-- a front of the text was given: it is one of these lines and others
pub front_of_gathered : (start old new : Option (List ℕ)) (text : List ℕ) (lines more : List Said) → AppendsFront old new text → Gathers start old text lines
    → AppendsFront start new (text_of (lines ++ more))
front_of_gathered start old new text lines more given g =
    front_of_more start new lines more (subst (AppendsFront start new) (sym g.parts) (AppendsFront-after start old new g.front text g.written given))

-- the text is given at the end
pub gathered_printed : {T E : Type 0} (start old new : Option (List ℕ)) (r : Result T E) (text : List ℕ) (lines : List Said) → Writes old new r text → Gathers start old text lines
    → Prints start new r lines
gathered_printed start old new r text lines given g = subst (Writes start new r) (sym g.parts) (Writes-after start old new r g.front text g.written given)

-- the same by other names
pub gathered_there : (start old new : Option (List ℕ)) (text more : List ℕ) (lines : List Said) → new ≡ old → more ≡ text → Gathers start old text lines
    → Gathers start new more lines
gathered_there start old new text more lines sink same g =
    subst (λ (t : List ℕ). Gathers start new t lines) (sym same) (subst (λ (o : Option (List ℕ)). Gathers start o text lines) (sym sink) g)

-- where `?` hands a failure on a front of the lines was written
pub gathers_handed_on : {T E : Type 0} (Q : E → Type 0) (start now : Option (List ℕ)) (text : List ℕ) (r : Result T E) (lines : List Said) → IsErrAnd r Q
    → AppendsFront start now (text_of lines) → GathersMore start now text r lines
gathers_handed_on Q start now text (Ok x) lines fails front = absurd fails
gathers_handed_on Q start now text (Err e) lines fails front = front

-- ---- lines for each item

module _ {X : Type 0} (start now : Option (List ℕ)) (before : List Said) (f : X → List Said) (xs : List X) (i : ℕ) (d : X) (lines : List Said) (below : i < length xs) (is : lines ≡ f (get_or xs i d)) where
  -- those of the items up to this one and its own
  item_more : (before ++ flat_map f (take i xs)) ++ lines ≡ before ++ flat_map f (take (i + 1) xs)
  item_more =
      append_assoc before (flat_map f (take i xs)) lines
      ∙ ap (λ (ls : List Said). before ++ ls)
      (ap (λ (ls : List Said). flat_map f (take i xs) ++ ls) (is ∙ sym (append-nil (f (get_or xs i d))))
      ∙ sym (ap (flat_map f) (take_more xs i d below) ∙ flat_map-append f (take i xs) (get_or xs i d ∷ [])))

  pub item_gathered : (text : List ℕ) → Gathers start now text ((before ++ flat_map f (take i xs)) ++ lines)
      → Gathers start now text (before ++ flat_map f (take (i + 1) xs))
  item_gathered text g = subst (Gathers start now text) item_more g

  -- a front of them is one of all
  pub front_of_items : AppendsFront start now (text_of ((before ++ flat_map f (take i xs)) ++ lines)) → AppendsFront start now (text_of (before ++ flat_map f xs))
  front_of_items front =
      let rest : List Said = flat_map f (drop (i + 1) xs) in
      let all : ((before ++ flat_map f (take i xs)) ++ lines) ++ rest ≡ before ++ flat_map f xs =
      ap (λ (ls : List Said). ls ++ rest) item_more ∙ append_assoc before (flat_map f (take (i + 1) xs)) rest
      ∙ ap (λ (ls : List Said). before ++ ls)
      (sym (flat_map-append f (take (i + 1) xs) (drop (i + 1) xs)) ∙ ap (flat_map f) (take-append-drop (i + 1) xs)) in
      subst (λ (ls : List Said). AppendsFront start now (text_of ls)) all
      (front_of_more start now ((before ++ flat_map f (take i xs)) ++ lines) rest front)

-- an item of which nothing is said
pub item_passed : {X : Type 0} (start now : Option (List ℕ)) (text : List ℕ) (before : List Said) (f : X → List Said) (xs : List X) (i : ℕ) (d : X) → i < length xs
    → [] ≡ f (get_or xs i d) → Gathers start now text (before ++ flat_map f (take i xs)) → Gathers start now text (before ++ flat_map f (take (i + 1) xs))
item_passed start now text before f xs i d below is g =
    item_gathered start now before f xs i d [] below is text (subst (Gathers start now text) (sym (append-nil (before ++ flat_map f (take i xs)))) g)
