-- Each text says one thing, and a list of texts says one list.
use Rattle.std.proofs.Common.{◌≡◌, ℕ, List, [], ◌∷◌, map, Result, refl, sym, ap, ◌∙◌, subst}
use Rattle.std.specs.List.{AllZip}
use Rattle.uac_script.specs.Phrase.{Phrase}
use Rattle.uac_script.specs.Line.{Says}
use Rattle.uac_script.specs.LineParsing.{answer}
use Rattle.uac_script.specs.Saying.{SaysOnce, EachSaysOnce}
use Rattle.uac_script.proofs.LineParsingLemmas.{answer_says, says_only}

pub says_once : SaysOnce
says_once text = record { said = answer text; says = answer_says text; no_other = says_only text }

all_only : (texts : List (List ℕ)) (saids : List (Result Phrase ℕ)) → AllZip Says texts saids → saids ≡ map answer texts
all_only [] [] h = refl
all_only [] (said ∷ saids) h = absurd h
all_only (text ∷ texts) [] h = absurd h
all_only (text ∷ texts) (said ∷ saids) h =
    ap (λ s. s ∷ saids) (says_only text said h.0) ∙ ap (λ ss. answer text ∷ ss) (all_only texts saids h.1)

all_say : (texts : List (List ℕ)) → AllZip Says texts (map answer texts)
all_say [] = tt
all_say (text ∷ texts) = (answer_says text, all_say texts)

pub each_says_once : EachSaysOnce
each_says_once texts saids = (all_only texts saids, λ h. subst (AllZip Says texts) (sym h) (all_say texts))
