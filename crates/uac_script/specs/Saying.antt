-- Profile: each text says one thing, by the table of lines alone, and a list of texts says one list.
use Rattle.std.specs.Prelude.{◌≡◌, ℕ, ◌↔◌, List, map, Result}
use Rattle.std.specs.List.{AllZip}
use Rattle.uac_script.specs.Phrase.{Phrase}
use Rattle.uac_script.specs.Line.{Says}
use Rattle.uac_script.specs.LineParsing.{answer}

-- the text says this, and nothing else
pub record SaysThis (text : List ℕ) : Type 0 where
  pub said : Result Phrase ℕ
  pub says : Says text said
  pub no_other : (other : Result Phrase ℕ) → Says text other → other ≡ said

-- each text says something, and one thing only
abbrev pub SaysOnce : Type 0
SaysOnce = (text : List ℕ) → SaysThis text

-- what each of the texts says is what each of them is answered
abbrev pub EachSaysOnce : Type 0
EachSaysOnce = (texts : List (List ℕ)) (saids : List (Result Phrase ℕ)) → AllZip Says texts saids ↔ (saids ≡ map answer texts)
