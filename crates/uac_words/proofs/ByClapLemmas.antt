-- The simple command is one whose refusals and values `clap` defines.
use Rattle.std.proofs.Common.{Some, ◌≡◌, ◌≢◌, ◌⊎◌, ◌∙◌, ap, sym, refl, inl, inr, true, List, [], ◌∷◌, length, arith, subst, codes, Option, None, Result, Err}
use Rattle.clap.specs.Words.{App, HasKind, HasMatchesOf, IsAmong, Kinds, Text, fault_of, first_value, found_of, is_simple, is_simple_and_free, kind_of, matches_of, rows_of}
use Rattle.clap.specs.declared.error.Error.{Error}
use Rattle.clap.specs.declared.error.kind.ErrorKind.TheVariants as kind
use Rattle.clap.specs.declared.parser.matches.ArgMatches.{ArgMatches}
use Rattle.clap.specs.declared.parser.matches.Found.{Found}
use Rattle.clap.proofs.WalkLemmas.{first_value-rows}
use Rattle.clap.proofs.OnLiterals.{clap_on_literals}
use Rattle.uac_words.specs.declared.commands.Invocation.{Invocation}
use Rattle.uac_words.specs.declared.commands.WordsFault.{WordsFault}
use Rattle.uac_words.specs.declared.commands.WordsFault.TheVariants.{NoMemory, Usage}
use Rattle.uac_words.specs.ByClap.{HasMatched, IsAnswer, IsRefused, answer_to_words, invocation_of, invocation_by, invocation_by_rows, simple_command}

pub is_free : is_simple_and_free simple_command ≡ true
unfolding clap_on_literals
is_free = refl

pub simple : is_simple simple_command ≡ true
unfolding clap_on_literals
simple = refl

pub has_matched : (a : App) (words : List Text) (m : ArgMatches) → a ≡ simple_command → HasMatchesOf a words m
    → (is_simple_and_free a ≡ true → fault_of a words ≡ []) → HasMatched words m
has_matched a words m e matches none = (
  subst (λ (x : App). fault_of x words ≡ []) e (none (ap is_simple_and_free e ∙ is_free)),
  subst (λ (x : App). rows_of (found_of m) ≡ matches_of x words) e (matches (ap is_simple e ∙ simple)).0,
)

among_some : (k : _) (kinds : Kinds) → IsAmong k kinds → kinds ≢ []
among_some k [] h e = h
among_some k (x ∷ xs) h e = let lengths = ap length e in absurd (omega arith)

pub is_refused : (a : App) (words : List Text) (e : Error) (f : WordsFault) → a ≡ simple_command
    → (is_simple_and_free a ≡ true → HasKind (fault_of a words) e)
    → (kind_of e ≡ kind.OutOfMemory) × (f ≡ NoMemory) ⊎ (kind_of e ≢ kind.OutOfMemory) × (f ≡ Usage) → IsRefused words f
is_refused a words e f same has told = elim told [
  | inl wanting ↦ inl wanting.1
  | inr other ↦ elim (has (ap is_simple_and_free same ∙ is_free)) [
    | inl memory ↦ absurd (other.0 memory)
    | inr among ↦ inr (other.1, subst (λ (x : App). fault_of x words ≢ []) same (among_some _ _ among))
  ]
]

pub rows_ask : (f : Found) (command number rack : Option Text) → command ≡ first_value f (codes "command") → number ≡ first_value f (codes "number")
    → rack ≡ first_value f (codes "rack") → invocation_by command number rack ≡ invocation_by_rows (rows_of f)
rows_ask f command number rack c n r =
    rw (c ∙ first_value-rows f (codes "command"), n ∙ first_value-rows f (codes "number"), r ∙ first_value-rows f (codes "rack")) refl

asked_as_matched : (words : List Text) (m : ArgMatches) → HasMatched words m → invocation_of words ≡ invocation_by_rows (rows_of (found_of m))
unfolding invocation_of
asked_as_matched words m h = rw (h.0, h.1) refl

not_asked : (words : List Text) → (kinds : Kinds) → fault_of simple_command words ≡ kinds → kinds ≢ [] → invocation_of words ≡ None
unfolding invocation_of
not_asked words [] e some = absurd (some refl)
not_asked words (x ∷ xs) e some = rw (e) refl

pub refused_as_asked : (words : List Text) (e : WordsFault) (r : Result Invocation WordsFault) → IsRefused words e → r ≡ Err e → IsAnswer (invocation_of words) r
refused_as_asked words e r h is = subst (IsAnswer (invocation_of words)) (sym is) (elim h [
  | inl memory ↦ subst (λ (f : WordsFault). IsAnswer (invocation_of words) (Err f)) (sym memory) tt
  | inr refused ↦ subst (λ (f : WordsFault). IsAnswer (invocation_of words) (Err f)) (sym refused.0) (not_asked words _ refl refused.1)
])

is_answer : (o : Option Invocation) → IsAnswer o (answer_to_words o)
is_answer None = refl
is_answer (Some words) = refl

pub answered_as_asked : (words : List Text) (m : ArgMatches) (r : Result Invocation WordsFault) → HasMatched words m
    → r ≡ answer_to_words (invocation_by_rows (rows_of (found_of m))) → IsAnswer (invocation_of words) r
answered_as_asked words m r h is =
    subst (IsAnswer (invocation_of words)) (sym (is ∙ ap answer_to_words (sym (asked_as_matched words m h)))) (is_answer (invocation_of words))
