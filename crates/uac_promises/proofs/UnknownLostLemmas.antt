-- The value of an element is unknown exactly where a set of it broke and nothing was told of it after.
use Rattle.std.proofs.Common.{◌≡◌, ◌∙◌, ◌↔◌, refl, sym, ap, ℕ, Bool, true, false, List, [], ◌∷◌, ◌++◌, map, Option, None, Some, is_some, unwrap_or, Result}
use Rattle.std.specs.List.{cons_option}
use Rattle.std.proofs.lemmas.List.Elements.{All-weaker}
use Rattle.uac_mixer.specs.declared.element.Element.{Element}
use Rattle.uac_script.specs.Phrase.{Phrase}
use Rattle.uac_script.specs.LineParsing.{answer}
use Rattle.uac_rows.specs.BusWorld.{Step, BusWorld, done, refused, start}
use Rattle.uac_rows.specs.After.{after, and_then, said_step}
use Rattle.uac_promises.specs.Unknown.{IsLost, UnknownValuesAreLost, elements_in, if_done, last_or, reveals_in, knowledge_after}
use Rattle.uac_promises.proofs.UnknownLemmas.{last_cons, values_are_known_as_told}

abbrev Said : Type 0
Said = Result Phrase ℕ

-- ---- what was told last is that a set broke

last_of_more : (o : Option Bool) (known told : Bool) (rest : List Bool)
    → last_or known (cons_option o (told ∷ rest)) ≡ last_or known (told ∷ rest)
unfolding last_or
last_of_more None known told rest = refl
last_of_more (Some first) known told rest = refl

found : (saids : List Said) (w : BusWorld) (x : Element) → last_or true (knowledge_after saids w x) ≡ false → IsLost saids w x
unfolding knowledge_after last_or after
found [] w x last = absurd (cc)
found (said ∷ saids) w x last = by (said_step said w) refl last (found saids)
  where
    by : (s : Step) → said_step said w ≡ s
        → last_or true (if_done s (λ next. cons_option (reveals_in w said x) (knowledge_after saids next x))) ≡ false
        → ((next : BusWorld) (y : Element) → last_or true (knowledge_after saids next y) ≡ false → IsLost saids next y)
        → IsLost (said ∷ saids) w x
    by (refused fault) is last rest = absurd (cc)
    by (done next lines) is last rest = here (knowledge_after saids next x) refl (reveals_in w said x) refl last
      where
        later : IsLost saids next x → IsLost (said ∷ saids) w x
        later l = record {
          before = said ∷ l.before;
          said = l.said;
          following = l.following;
          cut = ap (λ (ss : List Said). said ∷ ss) l.cut;
          whole = ap (λ (s : Step). (and_then s w (after (l.before ++ l.said ∷ []))).refusal) is ∙ l.whole;
          broke = ap (λ (s : Step). reveals_in (and_then s w (after l.before)).world l.said x) is ∙ l.broke;
          since = ap (λ (s : Step). knowledge_after l.following (and_then s w (after (l.before ++ l.said ∷ []))).world x) is ∙ l.since;
        }

        here : (ts : List Bool) → knowledge_after saids next x ≡ ts → (o : Option Bool) → reveals_in w said x ≡ o
            → last_or true (cons_option o ts) ≡ false → IsLost (said ∷ saids) w x
        here [] none None reveals last = absurd (cc)
        here [] none (Some true) reveals last = absurd (cc)
        here [] none (Some false) reveals last = record {
          before = [];
          said = said;
          following = saids;
          cut = refl;
          whole = ap (λ (s : Step). (and_then s w (after [])).refusal) is;
          broke = reveals;
          since = ap (λ (s : Step). knowledge_after saids (and_then s w (after [])).world x) is ∙ none;
        }
        here (t ∷ ts) some o reveals last =
            later (rest next x (ap (last_or true) some ∙ sym (last_of_more o true t ts) ∙ last))

-- ---- and the other way round

lost_at : (before : List Said) (said : Said) (following : List Said) (w : BusWorld) (x : Element) (known : Bool)
    → (after (before ++ said ∷ []) w).refusal ≡ None → reveals_in (after before w).world said x ≡ Some false
    → knowledge_after following (after (before ++ said ∷ []) w).world x ≡ [] → last_or known (knowledge_after (before ++ said ∷ following) w x) ≡ false
unfolding knowledge_after last_or after
lost_at [] said following w x known whole broke since = by (said_step said w) whole since
  where
    by : (s : Step) → (and_then s w (after [])).refusal ≡ None → knowledge_after following (and_then s w (after [])).world x ≡ []
        → last_or known (if_done s (λ next. cons_option (reveals_in w said x) (knowledge_after following next x))) ≡ false
    by (refused fault) whole since = absurd (cc)
    by (done next lines) whole since =
        ap (λ (ts : List Bool). last_or known (cons_option (reveals_in w said x) ts)) since
        ∙ ap (λ (o : Option Bool). last_or known (cons_option o [])) broke
lost_at (first ∷ before) said following w x known whole broke since =
    by (said_step first w) whole broke since (lost_at before said following)
  where
    by : (s : Step) → (and_then s w (after (before ++ said ∷ []))).refusal ≡ None
        → reveals_in (and_then s w (after before)).world said x ≡ Some false
        → knowledge_after following (and_then s w (after (before ++ said ∷ []))).world x ≡ []
        → ((next : BusWorld) (y : Element) (b : Bool) → (after (before ++ said ∷ []) next).refusal ≡ None
        → reveals_in (after before next).world said y ≡ Some false → knowledge_after following (after (before ++ said ∷ []) next).world y ≡ []
        → last_or b (knowledge_after (before ++ said ∷ following) next y) ≡ false)
        → last_or known (if_done s (λ next. cons_option (reveals_in w first x) (knowledge_after (before ++ said ∷ following) next x))) ≡ false
    by (refused fault) whole broke since rest = absurd (cc)
    by (done next lines) whole broke since rest =
        last_cons (reveals_in w first x) known (knowledge_after (before ++ said ∷ following) next x)
        ∙ rest next x (unwrap_or (reveals_in w first x) known) whole broke since

lost : (saids : List Said) (w : BusWorld) (x : Element) → IsLost saids w x → last_or true (knowledge_after saids w x) ≡ false
lost saids w x l =
    ap (λ (ss : List Said). last_or true (knowledge_after ss w x)) l.cut ∙ lost_at l.before l.said l.following w x true l.whole l.broke l.since

-- ---- the law

none_is : {X : Type 0} (o : Option X) → is_some o ≡ false → o ≡ None
none_is None is = refl
none_is (Some v) is = absurd (cc)

one : (saids : List Said) (w : BusWorld) (x : Element)
    → is_some x.value ≡ last_or true (knowledge_after saids w x) → (x.value ≡ None) ↔ IsLost saids w x
one saids w x known = (
  λ none. found saids w x (sym known ∙ ap is_some none),
  λ l. none_is x.value (known ∙ lost saids w x l),
)

pub unknown_values_are_lost : UnknownValuesAreLost
unknown_values_are_lost texts shown =
    All-weaker (λ (x : Element). is_some x.value ≡ last_or true (knowledge_after (map answer texts) (start shown) x))
    (λ (x : Element). (x.value ≡ None) ↔ IsLost (map answer texts) (start shown) x)
    (one (map answer texts) (start shown))
    (elements_in (after (map answer texts) (start shown)).world) (values_are_known_as_told texts shown)
