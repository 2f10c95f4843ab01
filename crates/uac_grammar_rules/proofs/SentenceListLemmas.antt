-- In an allowed order the list of entities has nothing but entities: a class block of an unknown subtype never stands in it.
use Rattle.std.proofs.Common.{◌≡◌, ◌≢◌, ◌⊎◌, ◌↔◌, ◌+◌, Bool, true, false, cond, ◌&&◌, ◌||◌, not, List, [], ◌∷◌, take, take_while, Option, Some, None, refl, sym, ap, ◌∙◌, subst, inl, inr, one-add}
use Rattle.std.specs.List.{prefix_len}
use Rattle.std.proofs.lemmas.Bool.{true≢false, false≢true, cond-true, cond-false, and_parts, or_cases, not-true}
use Rattle.uac_descriptor.specs.declared.context.Context.{Context}
use Rattle.uac_descriptor.specs.declared.context.Context.TheVariants as contexts
use Rattle.uac_descriptor.specs.declared.block.Block as block
use Rattle.uac_descriptor.specs.declared.block.Block.TheVariants as variant
use Rattle.uac_descriptor.specs.declared.control.Header as header
use Rattle.uac_descriptor.specs.LayoutRows.{row_in, row_of, row}
use Rattle.uac_descriptor.specs.Spelling.{spelling}
use Rattle.uac_grammar_rules.specs.declared.roles.BlockRole.{BlockRole}
use Rattle.uac_grammar_rules.specs.declared.roles.BlockRole.TheVariants as role
use Rattle.uac_grammar_rules.specs.declared.stages.OrderStage.{OrderStage}
use Rattle.uac_grammar_rules.specs.declared.stages.OrderStage.TheVariants.{Start, Due, Opening, Before, Announced, Headless, Listing, Quiet, Setting, Formats, Formatted, FirstEndpoint, FirstDone, SecondEndpoint, Closing, ForeignAfter}
use Rattle.uac_descriptor.specs.Classes.{is_audio_association, is_control_interface, is_streaming_interface}
use Rattle.uac_grammar_rules.specs.BlockRole.{role_of, whole_role, interface_role, interface_context, context_after, is_device, has_unknown_subtype, is_ordered_type, type_of, is_listed}
use Rattle.uac_grammar_rules.specs.OrderStages.{next_stage}
use Rattle.uac_grammar_rules.specs.Sentence.{EachIn, SpellsItself, size, is_entity, HasListTotal}
use Rattle.uac_grammar_rules.proofs.OrderStagesLemmas.{Goes}

-- the total of the header, where other blocks may be listed too
abbrev pub ListedTotal : List block.Block → Type 0
ListedTotal [] = Unit {0}
ListedTotal (variant.Header h ∷ blocks) = size (variant.Header h ∷ take_while (λ b. is_listed (role_of b)) blocks) ≡ h.total
ListedTotal (_ ∷ blocks) = ListedTotal blocks

-- ---- foreign parts

abbrev in_part : OrderStage → Bool
in_part Before = true
in_part ForeignAfter = true
in_part _ = false

abbrev leads_in_part : Option OrderStage → Bool
leads_in_part None = false
leads_in_part (Some s) = in_part s

-- what a role makes the context
abbrev role_context : Context → BlockRole → Context
role_context context role.ForeignAssociation = contexts.ForeignInterface
role_context context role.ForeignInterface = contexts.ForeignInterface
role_context context role.ControlInterface = contexts.ControlInterface
role_context context role.StreamingInterface = contexts.StreamingInterface
role_context context _ = context

abbrev begins_part : BlockRole → Bool
begins_part role.ForeignAssociation = true
begins_part role.ForeignInterface = true
begins_part _ = false

abbrev keeps_context : BlockRole → Bool
keeps_context role.ControlInterface = false
keeps_context role.StreamingInterface = false
keeps_context _ = true

-- a foreign part is begun, or goes on
part_table : (s : OrderStage) (k : BlockRole) → (not (leads_in_part (next_stage s k)) || (begins_part k || in_part s && keeps_context k)) ≡ true
part_table Start role.Device = refl
part_table Start k = refl
part_table Due role.Device = refl
part_table Due k = refl
part_table Opening role.Device = refl
part_table Opening k = refl
part_table Before role.Device = refl
part_table Before k = refl
part_table Announced role.Device = refl
part_table Announced k = refl
part_table Headless role.Device = refl
part_table Headless k = refl
part_table Listing role.Device = refl
part_table Listing k = refl
part_table Quiet role.Device = refl
part_table Quiet k = refl
part_table Setting role.Device = refl
part_table Setting k = refl
part_table Formats role.Device = refl
part_table Formats k = refl
part_table Formatted role.Device = refl
part_table Formatted k = refl
part_table FirstEndpoint role.Device = refl
part_table FirstEndpoint k = refl
part_table FirstDone role.Device = refl
part_table FirstDone k = refl
part_table SecondEndpoint role.Device = refl
part_table SecondEndpoint k = refl
part_table Closing role.Device = refl
part_table Closing k = refl
part_table ForeignAfter role.Device = refl
part_table ForeignAfter k = refl

begins_context : (context : Context) (k : BlockRole) → begins_part k ≡ true → role_context context k ≡ contexts.ForeignInterface
begins_context context role.ForeignAssociation e = refl
begins_context context role.ForeignInterface e = refl
begins_context context k e = absurd (false≢true e)

kept_context : (k : BlockRole) → keeps_context k ≡ true → role_context contexts.ForeignInterface k ≡ contexts.ForeignInterface
kept_context role.ControlInterface e = absurd (false≢true e)
kept_context role.StreamingInterface e = absurd (false≢true e)
kept_context k e = refl

-- the role of a block that is kept whole leaves the context
whole_context : (context : Context) (d u p : Bool)
    → role_context context (cond d role.Device (cond u role.UnknownSubtype (cond p role.Stray role.Other))) ≡ context
whole_context context true u p = refl
whole_context context false true p = refl
whole_context context false false true = refl
whole_context context false false false = refl

interface_contexts : (context : Context) (c s : Bool)
    → cond c contexts.ControlInterface (cond s contexts.StreamingInterface contexts.ForeignInterface)
    ≡ role_context context (cond c role.ControlInterface (cond s role.StreamingInterface role.ForeignInterface))
interface_contexts context true s = refl
interface_contexts context false true = refl
interface_contexts context false false = refl

association_context : (context : Context) (a : Bool)
    → cond a context contexts.ForeignInterface ≡ role_context context (cond a role.AudioAssociation role.ForeignAssociation)
association_context context true = refl
association_context context false = refl

context_of_role : (context : Context) (b : block.Block) → context_after context b ≡ role_context context (role_of b)
unfolding whole_role interface_role interface_context
context_of_role context (variant.Interface i) = interface_contexts context (is_control_interface i) (is_streaming_interface i)
context_of_role context (variant.Association a) = association_context context (is_audio_association a)
context_of_role context (variant.Foreign bytes) =
    sym (whole_context context (is_device bytes) (has_unknown_subtype bytes) (is_ordered_type (type_of bytes)))
context_of_role context b = refl

-- in a foreign part the context is that of a foreign interface
IsFitting : OrderStage → Context → Type 0
IsFitting s context = in_part s ≡ true → context ≡ contexts.ForeignInterface

fits_on : (s t : OrderStage) (context : Context) (b : block.Block) → next_stage s (role_of b) ≡ Some t → IsFitting s context → IsFitting t (context_after context b)
unfolding IsFitting
fits_on s t context b e fits inside =
    context_of_role context b
    ∙ elim (or_cases (not (leads_in_part (next_stage s k))) (begins_part k || in_part s && keeps_context k) (part_table s k)) [
      | inl out ↦ absurd (true≢false (sym (ap leads_in_part e ∙ inside) ∙ not-true (leads_in_part (next_stage s k)) out))
      | inr goes ↦ elim (or_cases (begins_part k) (in_part s && keeps_context k) goes) [
        | inl begins ↦ begins_context context k begins
        | inr stays ↦ (let (part, kept) = and_parts (in_part s) (keeps_context k) stays in
            ap (λ c. role_context c k) (fits part) ∙ kept_context k kept)
      ]
    ]
  where
    k : BlockRole
    k = role_of b

-- ---- the list

-- one step of a front
front_on : (p : block.Block → Bool) (b : block.Block) (blocks : List block.Block) → p b ≡ true → take_while p (b ∷ blocks) ≡ b ∷ take_while p blocks
front_on p b blocks h = ap (λ n. take n (b ∷ blocks)) (cond-true (p b) (1 + prefix_len p blocks) 0 h ∙ one-add (prefix_len p blocks))

front_off : (p : block.Block → Bool) (b : block.Block) (blocks : List block.Block) → p b ≡ false → take_while p (b ∷ blocks) ≡ []
front_off p b blocks h = ap (λ n. take n (b ∷ blocks)) (cond-false (p b) (1 + prefix_len p blocks) 0 h)

-- in the list an entity stays there, and nothing else is listed
list_step : (k : BlockRole) (t : OrderStage) → next_stage Listing k ≡ Some t → ((is_entity k ≡ true) × (is_listed k ≡ true) × (t ≡ Listing)) ⊎ ((is_entity k ≡ false) × (is_listed k ≡ false))
list_step role.Entity t e = inl (refl, refl, (let h : t ≡ Listing = cc in h))
list_step role.UnknownSubtype t e = cc
list_step k t e = inr (refl, refl)

list_front : (blocks : List block.Block) → Goes role_of Listing blocks
    → take_while (λ b. is_listed (role_of b)) blocks ≡ take_while (λ b. is_entity (role_of b)) blocks
list_front [] goes = refl
list_front (b ∷ blocks) (t, e, goes) =
    elim (list_step (role_of b) t e) [
      | inl (entity, listed, at) ↦
          front_on (λ x. is_listed (role_of x)) b blocks listed
          ∙ ap (λ xs. b ∷ xs) (list_front blocks (subst (λ s. Goes role_of s blocks) at goes))
          ∙ sym (front_on (λ x. is_entity (role_of x)) b blocks entity)
      | inr (entity, listed) ↦
          front_off (λ x. is_listed (role_of x)) b blocks listed ∙ sym (front_off (λ x. is_entity (role_of x)) b blocks entity)
    ]

-- where a header may come
header_step : (s t : OrderStage) → next_stage s role.Header ≡ Some t → (t ≡ Listing) ⊎ (in_part s ≡ true)
header_step Headless t e = inl (let h : t ≡ Listing = cc in h)
header_step Before t e = inr refl
header_step ForeignAfter t e = inr refl
header_step s t e = cc

-- the two totals are one, in an allowed order
same_front : (s : OrderStage) (context : Context) (b : block.Block) (blocks : List block.Block) → role_of b ≡ role.Header
    → row_in contexts.ForeignInterface (spelling b) ≢ row b → SpellsItself context b → IsFitting s context → Goes role_of s (b ∷ blocks)
    → take_while (λ x. is_listed (role_of x)) blocks ≡ take_while (λ x. is_entity (role_of x)) blocks
unfolding IsFitting
same_front s context b blocks is other stands fits (t, e, goes) =
    elim (header_step s t (sym (ap (next_stage s) is) ∙ e)) [
      | inl at ↦ list_front blocks (subst (λ r. Goes role_of r blocks) at goes)
      | inr part ↦ absurd (other (subst (λ c. row_in c (spelling b) ≡ row b) (fits part) stands.stands))
    ]

foreign_header : (h : header.Header) → row_in contexts.ForeignInterface (spelling (variant.Header h)) ≢ row (variant.Header h)
unfolding row_in row_of spelling
foreign_header h = λ e. cc

entities_only : (s : OrderStage) (context : Context) (blocks : List block.Block) → EachIn SpellsItself context blocks → IsFitting s context → Goes role_of s blocks
    → ListedTotal blocks ↔ HasListTotal blocks
entities_only s context [] stand fits goes = (λ h. h, λ h. h)
entities_only s context (variant.Header h ∷ blocks) (stands, stand) fits goes =
    let b : block.Block = variant.Header h in
    let e = same_front s context b blocks refl (foreign_header h) stands fits goes in
    (subst (λ xs. size (b ∷ xs) ≡ h.total) e, subst (λ xs. size (b ∷ xs) ≡ h.total) (sym e))
entities_only s context (b ∷ blocks) (stands, stand) fits (t, e, goes) =
    entities_only t (context_after context b) blocks stand (fits_on s t context b e fits) goes

-- from the start
pub listed_entities : (blocks : List block.Block) → EachIn SpellsItself contexts.DeviceFront blocks → Goes role_of Start blocks
    → ListedTotal blocks ↔ HasListTotal blocks
unfolding IsFitting
listed_entities blocks stand goes = entities_only Start contexts.DeviceFront blocks stand (λ e. absurd (false≢true e)) goes
