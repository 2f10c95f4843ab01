-- The table of steps follows the productions.
use Rattle.std.proofs.Common.{◌≡◌, Option, Some, None, List, [], ◌∷◌, IsTrue, refl, sym, ap, ◌∙◌, subst}
use Rattle.uac_grammar_rules.specs.Production.{Production, nothing, one, then', either, many, option, Allows}
use Rattle.uac_grammar_rules.specs.BlockOrder.{a, stays_in_part, others, foreign, control, formats, endpoint, stream, input}
use Rattle.uac_grammar_rules.specs.OrderStages.{next_stage, may_end}
use Rattle.uac_grammar_rules.specs.declared.roles.BlockRole.{BlockRole}
use Rattle.uac_grammar_rules.specs.declared.roles.BlockRole.TheVariants.{Device, Configuration, AudioAssociation, Endpoint, Header, Entity, General, TypeOne, Extra, ClassEndpoint}
use Rattle.uac_grammar_rules.specs.declared.stages.OrderStage.{OrderStage}
use Rattle.uac_grammar_rules.specs.declared.stages.OrderStage.TheVariants.{Start, Due, Opening, Before, Announced, Headless, Listing, Quiet, Setting, Formats, Formatted, FirstEndpoint, FirstDone, SecondEndpoint, Closing, ForeignAfter}
use Rattle.uac_grammar_rules.proofs.ProductionLemmas.{following, nullable, after_allows, allows_following, allows_empty, nullable_from}

-- the other parts, after the control interface's
abbrev parts : Production BlockRole
parts = many (either foreign stream)

abbrev extras : Production BlockRole
extras = many (a Extra)

-- from the audio association on
abbrev audio : Production BlockRole
audio = then' (a AudioAssociation) (then' control parts)

-- what may still come at each stage
abbrev pub left : OrderStage → Production BlockRole
left Start = input
left Due = then' (a Configuration) (then' others (then' (many foreign) audio))
left Opening = then' others (then' (many foreign) audio)
left Before = then' (many (one stays_in_part)) (then' (many foreign) audio)
left Announced = then' control parts
left Headless = then' (a Header) (then' (many (a Entity)) (then' others (then' (option (then' (a Endpoint) others)) parts)))
left Listing = then' (many (a Entity)) (then' others (then' (option (then' (a Endpoint) others)) parts))
left Quiet = then' others (then' (option (then' (a Endpoint) others)) parts)
left Setting = then' others (then' (option (then' (a General) (then' formats (then' (option (then' endpoint (option endpoint))) others)))) parts)
left Formats = then' extras (then' (option (then' (a TypeOne) extras)) (then' (option (then' endpoint (option endpoint))) (then' others parts)))
left Formatted = then' extras (then' (option (then' endpoint (option endpoint))) (then' others parts))
left FirstEndpoint = then' (option (a ClassEndpoint)) (then' (option endpoint) (then' others parts))
left FirstDone = then' (option endpoint) (then' others parts)
left SecondEndpoint = then' (option (a ClassEndpoint)) (then' others parts)
left Closing = then' others parts
left ForeignAfter = then' (many (one stays_in_part)) parts

abbrev pub left_at : Option OrderStage → Production BlockRole
left_at None = nothing
left_at (Some s) = left s

-- the table says what the productions leave after each role
pub left_following : (s : OrderStage) (k : BlockRole) → following k (left s) ≡ left_at (next_stage s k)
left_following Start Device = refl
left_following Start k = refl
left_following Due Device = refl
left_following Due k = refl
left_following Opening Device = refl
left_following Opening k = refl
left_following Before Device = refl
left_following Before k = refl
left_following Announced Device = refl
left_following Announced k = refl
left_following Headless Device = refl
left_following Headless k = refl
left_following Listing Device = refl
left_following Listing k = refl
left_following Quiet Device = refl
left_following Quiet k = refl
left_following Setting Device = refl
left_following Setting k = refl
left_following Formats Device = refl
left_following Formats k = refl
left_following Formatted Device = refl
left_following Formatted k = refl
left_following FirstEndpoint Device = refl
left_following FirstEndpoint k = refl
left_following FirstDone Device = refl
left_following FirstDone k = refl
left_following SecondEndpoint Device = refl
left_following SecondEndpoint k = refl
left_following Closing Device = refl
left_following Closing k = refl
left_following ForeignAfter Device = refl
left_following ForeignAfter k = refl

-- the input may end where the productions may
pub may_end_lem : (s : OrderStage) → nullable (left s) ≡ may_end s
may_end_lem Start = refl
may_end_lem s = refl

-- items lead from a stage to one in which the input may end
abbrev pub Goes : {A : Type 0} → (A → BlockRole) → OrderStage → List A → Type 0
Goes f s [] = IsTrue (may_end s)
Goes f s (x ∷ xs) = (t : OrderStage) × (next_stage s (f x) ≡ Some t) × Goes f t xs

pub goes_allows : {A : Type 0} (f : A → BlockRole) (s : OrderStage) (xs : List A) → Goes f s xs → Allows f (left s) xs
goes_allows f s [] h = allows_empty f (left s) (may_end_lem s ∙ h)
goes_allows f s (x ∷ xs) (t, e, h) =
    allows_following f (left s) x xs (subst (λ r. Allows f r xs) (sym (left_following s (f x) ∙ ap left_at e)) (goes_allows f t xs h))

-- where the productions leave something, the table leads on
leads_on : {A : Type 0} (f : A → BlockRole) (o : Option OrderStage) (xs : List A) → Allows f (left_at o) xs → (t : OrderStage) × (o ≡ Some t) × Allows f (left t) xs
leads_on f None xs h = absurd h
leads_on f (Some t) xs h = (t, refl, h)

pub allows_goes : {A : Type 0} (f : A → BlockRole) (s : OrderStage) (xs : List A) → Allows f (left s) xs → Goes f s xs
allows_goes f s [] h = sym (may_end_lem s) ∙ nullable_from f (left s) h
allows_goes f s (x ∷ xs) h =
    let (t, e, p) = leads_on f (next_stage s (f x)) xs (subst (λ r. Allows f r xs) (left_following s (f x)) (after_allows f (left s) x xs h)) in
    (t, e, allows_goes f t xs p)
