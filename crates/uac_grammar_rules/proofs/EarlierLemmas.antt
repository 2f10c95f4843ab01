-- What the stage says of the roles before it, by which the rules name a block.
use Rattle.std.proofs.Common.{◌≡◌, ℕ, ◌+◌, Bool, true, false, ◌&&◌, ◌||◌, not, List, [], ◌∷◌, ◌++◌, get_or, map, Option, Some, None, refl, sym, ap, ◌∙◌, subst}
use Rattle.std.specs.List.{list_all}
use Rattle.std.proofs.Math.Bool.{or_comm, or_assoc, and-or_distrib_right, and_assoc}
use Rattle.std.proofs.lemmas.Bool.{and_left}
use Rattle.uac_descriptor.specs.declared.block.Block as block
use Rattle.uac_grammar_rules.specs.declared.roles.BlockRole.{BlockRole}
use Rattle.uac_grammar_rules.specs.declared.roles.BlockRole.TheVariants as role
use Rattle.uac_grammar_rules.specs.declared.stages.OrderStage.{OrderStage}
use Rattle.uac_grammar_rules.specs.declared.stages.OrderStage.TheVariants.{Start, Due, Opening, Before, Announced, Headless, Listing, Quiet, Setting, Formats, Formatted, FirstEndpoint, FirstDone, SecondEndpoint, Closing, ForeignAfter}
use Rattle.uac_grammar_rules.specs.declared.states.State.{State}
use Rattle.uac_grammar_rules.specs.BlockRole.{role_of, is_listed}
use Rattle.uac_grammar_rules.specs.OrderStages.{next_stage, may_end, is_before_association}
use Rattle.uac_grammar_rules.specs.Grammar.{start, state_after, stage_after, is_due, is_announced, is_headless, is_listing, is_past_control, lacks_association, lists_unknown, comes_again, is_audio_interface, is_control, is_unknown, is_association}
use Rattle.uac_grammar_rules.specs.Progress.{state_following, BreakNone, HasRead}
use Rattle.uac_grammar_rules.specs.Earlier.{is_same, has, latest_is, is_header_list, is_in_list, is_unknown_in_list, stands_without_association, is_second}
use Rattle.uac_grammar_rules.proofs.GrammarLemmas.{bytes_in, broken_passes, step_there}

-- the stage to which roles lead, one after the other
abbrev pub lead : Option OrderStage → List BlockRole → Option OrderStage
lead s [] = s
lead None (k ∷ ks) = None
lead (Some s) (k ∷ ks) = lead (next_stage s k) ks

-- the stage after the first blocks of a descriptor
abbrev pub stage_following : List BlockRole → Option OrderStage
stage_following ks = lead (Some Start) ks

pub lead_none : (ks : List BlockRole) → lead None ks ≡ None
lead_none [] = refl
lead_none (k ∷ ks) = refl

-- one role more
pub lead-push : (o : Option OrderStage) (ks : List BlockRole) (s : OrderStage) (k : BlockRole) → lead o ks ≡ Some s → lead o (ks ++ k ∷ []) ≡ next_stage s k
lead-push None [] s k e = cc
lead-push (Some t) [] s k e = (let same : t ≡ s = cc in ap (λ u. next_stage u k) same)
lead-push None (j ∷ ks) s k e = cc
lead-push (Some t) (j ∷ ks) s k e = lead-push (next_stage t j) ks s k e

-- ---- the stage

-- what a stage says of the roles before it, and what it says after one more
abbrev told : Option OrderStage → List Bool
told None = []
told (Some t) =
    not (is_before_association t) ∷ is_past_control t ∷ not (is_due t) ∷ is_announced t ∷ is_headless t ∷ is_listing t ∷ []

abbrev tells : Option OrderStage → OrderStage → BlockRole → List Bool
tells None s k = []
tells (Some t) s k =
    (is_same role.AudioAssociation k || not (is_before_association s))
    ∷ (is_same role.ControlInterface k || is_past_control s)
    ∷ (is_same role.Configuration k || not (is_due s))
    ∷ is_same role.AudioAssociation k
    ∷ is_same role.ControlInterface k
    ∷ (is_headless s && is_same role.Header k || is_listing s && is_listed k) ∷ []

told_following : (s : OrderStage) (k : BlockRole) → told (next_stage s k) ≡ tells (next_stage s k) s k
told_following Start role.Device = refl
told_following Start k = refl
told_following Due role.Device = refl
told_following Due k = refl
told_following Opening role.Device = refl
told_following Opening k = refl
told_following Before role.Device = refl
told_following Before k = refl
told_following Announced role.Device = refl
told_following Announced k = refl
told_following Headless role.Device = refl
told_following Headless k = refl
told_following Listing role.Device = refl
told_following Listing k = refl
told_following Quiet role.Device = refl
told_following Quiet k = refl
told_following Setting role.Device = refl
told_following Setting k = refl
told_following Formats role.Device = refl
told_following Formats k = refl
told_following Formatted role.Device = refl
told_following Formatted k = refl
told_following FirstEndpoint role.Device = refl
told_following FirstEndpoint k = refl
told_following FirstDone role.Device = refl
told_following FirstDone k = refl
told_following SecondEndpoint role.Device = refl
told_following SecondEndpoint k = refl
told_following Closing role.Device = refl
told_following Closing k = refl
told_following ForeignAfter role.Device = refl
told_following ForeignAfter k = refl

told_at : (n : ℕ) (s t : OrderStage) (k : BlockRole) → next_stage s k ≡ Some t → get_or (told (Some t)) n false ≡ get_or (tells (Some t) s k) n false
told_at n s t k e = ap (λ bits. get_or bits n false) (subst (λ o. told o ≡ tells o s k) e (told_following s k))

-- the first step of a lead
pub first_step : (o : Option OrderStage) (ks : List BlockRole) (t : OrderStage) → lead o ks ≡ Some t → (u : OrderStage) × (o ≡ Some u)
first_step None ks t e = (let none : None ≡ Some t = sym (lead_none ks) ∙ e in cc)
first_step (Some u) ks t e = (u, refl)

-- a role among those that lead to a stage
module _ (p : OrderStage → Bool) (j : BlockRole) (keeps : (s t : OrderStage) (k : BlockRole) → next_stage s k ≡ Some t → p t ≡ (is_same j k || p s)) where
  has_along : (s t : OrderStage) (ks : List BlockRole) → lead (Some s) ks ≡ Some t → p t ≡ (has j ks || p s)
  has_along s t [] e = (let same : s ≡ t = cc in ap p (sym same))
  has_along s t (k ∷ ks) e =
      let (u, is) = first_step (next_stage s k) ks t e in
      has_along u t ks (subst (λ o. lead o ks ≡ Some t) is e)
      ∙ ap (λ b. has j ks || b) (keeps s u k is)
      ∙ sym (or_assoc (has j ks) (is_same j k) (p s))
      ∙ ap (λ b. b || p s) (or_comm (has j ks) (is_same j k))

-- the latest role
module _ (p : OrderStage → Bool) (j : BlockRole) (is_latest : (s t : OrderStage) (k : BlockRole) → next_stage s k ≡ Some t → p t ≡ is_same j k) where
  latest_along : (s t : OrderStage) (k : BlockRole) (ks : List BlockRole) → lead (Some s) (k ∷ ks) ≡ Some t → p t ≡ latest_is j (k ∷ ks)
  latest_along s t k [] e = is_latest s t k e
  latest_along s t k (next ∷ ks) e =
      let (u, is) = first_step (next_stage s k) (next ∷ ks) t e in
      latest_along u t next ks (subst (λ o. lead o (next ∷ ks) ≡ Some t) is e)

  latest_following : p Start ≡ false → (t : OrderStage) (ks : List BlockRole) → stage_following ks ≡ Some t → p t ≡ latest_is j ks
  latest_following none t [] e = (let same : Start ≡ t = cc in ap p (sym same) ∙ none)
  latest_following none t (k ∷ ks) e = latest_along Start t k ks e

-- the list of entities
arrange : (x c l hk e a : Bool) → (x || c && l || (hk || e) && a) ≡ (c && l || x || hk && a || e && a)
arrange x c l hk e a =
    ap (λ b. b || (hk || e) && a) (or_comm x (c && l))
    ∙ ap (λ b. c && l || x || b) (and-or_distrib_right hk e a)
    ∙ sym (or_assoc (c && l || x) (hk && a) (e && a))

listed_along : (s t : OrderStage) (ks : List BlockRole) → lead (Some s) ks ≡ Some t
    → is_listing t ≡ (is_in_list ks || is_headless s && is_header_list ks || is_listing s && list_all is_listed ks)
listed_along s t [] e = (let same : s ≡ t = cc in ap is_listing (sym same) ∙ at_end (is_headless s) (is_listing s))
  where
    at_end : (h l : Bool) → l ≡ (false || h && false || l && true)
    at_end true true = refl
    at_end true false = refl
    at_end false true = refl
    at_end false false = refl
listed_along s t (k ∷ ks) e =
    let (u, is) = first_step (next_stage s k) ks t e in
    let all : Bool = list_all is_listed ks in
    let header : Bool = is_same role.Header k in
    let entity : Bool = is_listed k in
    listed_along u t ks (subst (λ o. lead o ks ≡ Some t) is e)
    ∙ ap (λ h. is_in_list ks || h && is_header_list ks || is_listing u && all) (told_at 4 s u k is)
    ∙ ap (λ l. is_in_list ks || is_same role.ControlInterface k && is_header_list ks || l && all) (told_at 5 s u k is)
    ∙ arrange (is_in_list ks) (is_same role.ControlInterface k) (is_header_list ks) (is_headless s && header) (is_listing s && entity) all
    ∙ ap (λ b. is_same role.ControlInterface k && is_header_list ks || is_in_list ks || b || is_listing s && entity && all) (and_assoc (is_headless s) header all)
    ∙ ap (λ b. is_same role.ControlInterface k && is_header_list ks || is_in_list ks || is_headless s && (header && all) || b) (and_assoc (is_listing s) entity all)

-- the tests of a role
is_control_same : (k : BlockRole) → is_control k ≡ is_same role.ControlInterface k
is_control_same role.Device = refl
is_control_same k = refl

is_association_same : (k : BlockRole) → is_association k ≡ is_same role.AudioAssociation k
is_association_same role.Device = refl
is_association_same k = refl

is_unknown_same : (k : BlockRole) → is_unknown k ≡ is_same role.UnknownSubtype k
is_unknown_same role.Device = refl
is_unknown_same k = refl

is_audio_same : (k : BlockRole) → is_audio_interface k ≡ (is_same role.ControlInterface k || is_same role.StreamingInterface k)
is_audio_same role.Device = refl
is_audio_same k = refl

or_none : (b : Bool) → (b || false) ≡ b
or_none true = refl
or_none false = refl

not_not : (b : Bool) → not (not b) ≡ b
not_not true = refl
not_not false = refl

ends_after_control : (s : OrderStage) → may_end s ≡ (is_past_control s && not (is_headless s))
ends_after_control Start = refl
ends_after_control s = refl

module _ (ks : List BlockRole) (s : OrderStage) (e : stage_following ks ≡ Some s) where
  association_came : not (is_before_association s) ≡ has role.AudioAssociation ks
  association_came = has_along (λ t. not (is_before_association t)) role.AudioAssociation (told_at 0) Start s ks e ∙ or_none (has role.AudioAssociation ks)

  control_came : is_past_control s ≡ has role.ControlInterface ks
  control_came = has_along is_past_control role.ControlInterface (told_at 1) Start s ks e ∙ or_none (has role.ControlInterface ks)

  configuration_came : not (is_due s) ≡ has role.Configuration ks
  configuration_came = has_along (λ t. not (is_due t)) role.Configuration (told_at 2) Start s ks e ∙ or_none (has role.Configuration ks)

  association_is_latest : is_announced s ≡ latest_is role.AudioAssociation ks
  association_is_latest = latest_following is_announced role.AudioAssociation (told_at 3) refl s ks e

  control_is_latest : is_headless s ≡ latest_is role.ControlInterface ks
  control_is_latest = latest_following is_headless role.ControlInterface (told_at 4) refl s ks e

  list_is_open : is_listing s ≡ is_in_list ks
  list_is_open = listed_along Start s ks e ∙ or_none (is_in_list ks || false) ∙ or_none (is_in_list ks)

  pub lacks_is : (k : BlockRole) → lacks_association s k ≡ stands_without_association ks k
  unfolding lacks_association
  lacks_is k =
      ap (λ b. b && is_audio_interface k || is_announced s && not (is_control k)) (sym (not_not (is_before_association s)) ∙ ap not association_came)
      ∙ ap (λ b. not (has role.AudioAssociation ks) && is_audio_interface k || b && not (is_control k)) association_is_latest
      ∙ ap (λ b. not (has role.AudioAssociation ks) && b || latest_is role.AudioAssociation ks && not (is_control k)) (is_audio_same k)
      ∙ ap (λ b. not (has role.AudioAssociation ks) && (is_same role.ControlInterface k || is_same role.StreamingInterface k) || latest_is role.AudioAssociation ks && not b) (is_control_same k)

  pub lists_is : (k : BlockRole) → lists_unknown s k ≡ is_unknown_in_list ks k
  unfolding lists_unknown
  lists_is k = ap (λ b. b && is_unknown k) list_is_open ∙ ap (λ b. is_in_list ks && b) (is_unknown_same k)

  pub again_is : (k : BlockRole) → comes_again s k ≡ is_second ks k
  unfolding comes_again
  again_is k =
      ap (λ b. b && is_association k || is_past_control s && is_control k) association_came
      ∙ ap (λ b. has role.AudioAssociation ks && is_association k || b && is_control k) control_came
      ∙ ap (λ b. has role.AudioAssociation ks && b || has role.ControlInterface ks && is_control k) (is_association_same k)
      ∙ ap (λ b. has role.AudioAssociation ks && is_same role.AudioAssociation k || has role.ControlInterface ks && b) (is_control_same k)

  pub end_is : (is_due s ≡ not (has role.Configuration ks)) × (is_headless s ≡ latest_is role.ControlInterface ks)
      × (may_end s ≡ (has role.ControlInterface ks && not (latest_is role.ControlInterface ks)))
  end_is = (
    sym (not_not (is_due s)) ∙ ap not configuration_came,
    control_is_latest,
    ends_after_control s ∙ ap (λ b. b && not (is_headless s)) control_came ∙ ap (λ b. has role.ControlInterface ks && not b) control_is_latest,
  )

  -- with no audio association before it the input may not end
  pub no_association_no_end : has role.AudioAssociation ks ≡ false → may_end s ≡ false
  no_association_no_end none =
      ends_after_control s
      ∙ and_left (is_past_control s) (not (is_headless s)) (and_left (not (is_before_association s)) (not (is_announced s)) (association_came ∙ none))

-- ---- the state

stage_along : (s : State) (place : ℕ) (blocks : List block.Block) → BreakNone s place blocks
    → lead (Some s.stage) (map role_of blocks) ≡ Some (state_following s place blocks).stage
unfolding state_after
stage_along s place [] unbroken = refl
stage_along s place (b ∷ blocks) (here, unbroken) =
    let (t, e) = step_there (next_stage s.stage (role_of b)) (broken_passes s place b here).allowed in
    ap (λ o. lead o (map role_of blocks)) (e ∙ sym (ap (λ o. Some (stage_after o s.stage)) e))
    ∙ stage_along (state_after s place b) (place + bytes_in b) blocks unbroken

pub read_stage : (blocks : List block.Block) (s : State) (place : ℕ) → HasRead blocks s place → stage_following (map role_of blocks) ≡ Some s.stage
unfolding start
read_stage blocks s place read = stage_along start 0 blocks read.unbroken ∙ ap (λ u. Some u.stage) (sym read.state_is)
