-- No place is further than a device descriptor and the longest configuration.
use Rattle.std.proofs.Common.{◌≡◌, ℕ, ◌+◌, ◌/◌, ◌%◌, ◌≤◌, ◌<◌, Bool, true, false, cond, ◌⊎◌, eqb, List, [], ◌∷◌, length, Option, Some, None, is_none, refl, sym, ap, ◌∙◌, subst, inl, inr, ⊎_elim, arith, ltb-false, eqb-true, add-zero, add_assoc}
use Rattle.std.proofs.lemmas.Bool.{true≢false, cases_Bool, cases_cond, cond-false, and_parts}
use Rattle.uac_descriptor.specs.declared.block.Block as block
use Rattle.uac_descriptor.specs.declared.block.Block.TheVariants as variant
use Rattle.uac_descriptor.specs.Spelling.{spelling}
use Rattle.uac_descriptor.specs.BlockParsing.{AreBytes}
use Rattle.uac_grammar_rules.specs.declared.roles.BlockRole.{BlockRole}
use Rattle.uac_grammar_rules.specs.declared.roles.BlockRole.TheVariants as role
use Rattle.uac_grammar_rules.specs.declared.stages.OrderStage.{OrderStage}
use Rattle.uac_grammar_rules.specs.declared.stages.OrderStage.TheVariants.{Start, Due}
use Rattle.uac_grammar_rules.specs.declared.states.State.{State}
use Rattle.uac_grammar_rules.specs.declared.states.TheConstants.{FURTHEST}
use Rattle.uac_descriptor.specs.Classes.{is_audio_association, is_control_interface, is_streaming_interface}
use Rattle.uac_grammar_rules.specs.BlockRole.{role_of, whole_role, interface_role, is_device, has_unknown_subtype, is_ordered_type, type_of}
use Rattle.uac_grammar_rules.specs.OrderStages.{next_stage}
use Rattle.uac_grammar_rules.specs.Grammar.{start, state_after, stage_after, end_after, ends_before}
use Rattle.uac_grammar_rules.specs.Sentence.{spellings, size}
use Rattle.uac_grammar_rules.specs.Progress.{state_following, BreakNone, HasRead}
use Rattle.uac_grammar_rules.proofs.GrammarLemmas.{bytes_in, broken_passes}
use Rattle.uac_grammar_rules.proofs.SentenceTotalLemmas.{size-cons}
use Rattle.uac_grammar_rules.proofs.SentenceLemmas.{bytes_left, bytes_right}

-- before the configuration at most the device descriptor was read; after it the blocks stay within its total
abbrev Reaches : Option ℕ → OrderStage → ℕ → Type 0
Reaches None s place = ((s ≡ Start) × (place ≡ 0)) ⊎ ((s ≡ Due) × (place ≡ 18))
Reaches (Some end) s place = (place ≤ end) × (end ≤ FURTHEST)

-- no other block has the role of a configuration
not_configuration : (b : block.Block) → end_after None 0 b ≡ None → role_of b ≡ role.Configuration → ⊥
unfolding whole_role interface_role
not_configuration (variant.Configuration c) none e = cc
not_configuration (variant.Association a) none e =
    elim (cases_cond (is_audio_association a) role.AudioAssociation role.ForeignAssociation role.Configuration (sym e)) [
      | inl h ↦ cc
      | inr h ↦ cc
    ]
not_configuration (variant.Interface i) none e =
    elim (cases_cond (is_control_interface i) role.ControlInterface (cond (is_streaming_interface i) role.StreamingInterface role.ForeignInterface) role.Configuration (sym e)) [
      | inl h ↦ cc
      | inr h ↦ elim (cases_cond (is_streaming_interface i) role.StreamingInterface role.ForeignInterface role.Configuration h) [
        | inl h' ↦ cc
        | inr h' ↦ cc
      ]
    ]
not_configuration (variant.Foreign bytes) none e =
    elim (cases_cond (is_device bytes) role.Device (cond (has_unknown_subtype bytes) role.UnknownSubtype (cond (is_ordered_type (type_of bytes)) role.Stray role.Other)) role.Configuration (sym e)) [
      | inl h ↦ cc
      | inr h ↦ elim (cases_cond (has_unknown_subtype bytes) role.UnknownSubtype (cond (is_ordered_type (type_of bytes)) role.Stray role.Other) role.Configuration h) [
        | inl h' ↦ cc
        | inr h' ↦ elim (cases_cond (is_ordered_type (type_of bytes)) role.Stray role.Other role.Configuration h') [
          | inl h'' ↦ cc
          | inr h'' ↦ cc
        ]
      ]
    ]
not_configuration b none e = cc

-- a device descriptor has 18 bytes
device_size : (b : block.Block) → role_of b ≡ role.Device → bytes_in b ≡ 18
unfolding whole_role interface_role is_device spelling
device_size (variant.Foreign bytes) e =
    elim (cases_Bool (is_device bytes)) [
      | inl h ↦ (let (kind, many) = and_parts (eqb (type_of bytes) 1) (eqb (length bytes) 18) h in eqb-true (length bytes) 18 many)
      | inr h ↦ absurd (no_device (has_unknown_subtype bytes) (is_ordered_type (type_of bytes))
          (sym (cond-false (is_device bytes) role.Device (cond (has_unknown_subtype bytes) role.UnknownSubtype (cond (is_ordered_type (type_of bytes)) role.Stray role.Other)) h) ∙ e))
    ]
  where
    no_device : (u p : Bool) → cond u role.UnknownSubtype (cond p role.Stray role.Other) ≡ role.Device → ⊥
    no_device true p e = cc
    no_device false true e = cc
    no_device false false e = cc
device_size (variant.Association a) e =
    absurd (elim (cases_cond (is_audio_association a) role.AudioAssociation role.ForeignAssociation role.Device (sym e)) [
      | inl h ↦ cc
      | inr h ↦ cc
    ])
device_size (variant.Interface i) e =
    absurd (elim (cases_cond (is_control_interface i) role.ControlInterface (cond (is_streaming_interface i) role.StreamingInterface role.ForeignInterface) role.Device (sym e)) [
      | inl h ↦ cc
      | inr h ↦ elim (cases_cond (is_streaming_interface i) role.StreamingInterface role.ForeignInterface role.Device h) [
        | inl h' ↦ cc
        | inr h' ↦ cc
      ]
    ])
device_size b e = cc

pub start_step : (k : BlockRole) → is_none (next_stage Start k) ≡ false → (k ≡ role.Configuration → ⊥) → (k ≡ role.Device) × (next_stage Start k ≡ Some Due)
start_step role.Device allowed other = (refl, refl)
start_step role.Configuration allowed other = absurd (other refl)
start_step k allowed other = absurd (true≢false allowed)

pub due_step : (k : BlockRole) → is_none (next_stage Due k) ≡ false → k ≡ role.Configuration
due_step role.Configuration allowed = refl
due_step k allowed = absurd (true≢false allowed)

-- before the configuration only the device descriptor is allowed
other_reaches : (s : OrderStage) (place : ℕ) (b : block.Block) → end_after None 0 b ≡ None → is_none (next_stage s (role_of b)) ≡ false
    → Reaches None s place → Reaches None (stage_after (next_stage s (role_of b)) s) (place + bytes_in b)
other_reaches s place b none allowed (inl (first, zero_place)) =
    let (device, next) = start_step (role_of b) (subst (λ t. is_none (next_stage t (role_of b)) ≡ false) first allowed) (not_configuration b none) in
    inr (ap (λ t. stage_after (next_stage t (role_of b)) s) first ∙ ap (λ o. stage_after o s) next, omega (arith, device_size b device))
other_reaches s place b none allowed (inr (due, at)) =
    absurd (not_configuration b none (due_step (role_of b) (subst (λ t. is_none (next_stage t (role_of b)) ≡ false) due allowed)))

-- wTotalLength has two bytes
small_total : (b : block.Block) (place : ℕ) → AreBytes (spelling b) → (e : ℕ) → end_after None place b ≡ Some e → e ≤ place + 65535
unfolding spelling
small_total (variant.Configuration c) place are e is =
    let low : c.total % 256 < 256 = are 2 in
    let high : c.total / 256 < 256 = are 3 in
    let same : place + c.total ≡ e = cc in
    omega arith
small_total b place are e is = cc

reach_more : (end : Option ℕ) (s : OrderStage) (place : ℕ) (b : block.Block) → ends_before (end_after end place b) (place + bytes_in b) ≡ false
    → is_none (next_stage s (role_of b)) ≡ false → AreBytes (spelling b) → Reaches end s place
    → Reaches (end_after end place b) (stage_after (next_stage s (role_of b)) s) (place + bytes_in b)
reach_more (Some end) s place b fits allowed are (low, high) = (ltb-false end (place + bytes_in b) fits, high)
reach_more None s place (variant.Configuration c) fits allowed are h =
    let b : block.Block = variant.Configuration c in
    let at : place ≤ 18 = ⊎_elim (λ p. (let e : place ≡ 0 = p.1 in omega arith)) (λ p. (let e : place ≡ 18 = p.1 in omega arith)) h in
    let far : place + c.total ≤ place + 65535 = small_total b place are (place + c.total) refl in
    (ltb-false (place + c.total) (place + bytes_in b) fits, omega arith)
reach_more None s place b fits allowed are h = other_reaches s place b refl allowed h

reach_following : (s : State) (place : ℕ) (blocks : List block.Block) → AreBytes (spellings blocks) → BreakNone s place blocks → Reaches s.end s.stage place
    → Reaches (state_following s place blocks).end (state_following s place blocks).stage (place + size blocks)
unfolding state_after
reach_following s place [] are unbroken h = subst (Reaches s.end s.stage) (sym (add-zero place)) h
reach_following s place (b ∷ blocks) are (here, unbroken) h =
    let p = broken_passes s place b here in
    subst (Reaches (state_following (state_after s place b) (place + bytes_in b) blocks).end (state_following (state_after s place b) (place + bytes_in b) blocks).stage)
    (add_assoc place (bytes_in b) (size blocks) ∙ ap (λ n. place + n) (sym (size-cons b blocks)))
    (reach_following (state_after s place b) (place + bytes_in b) blocks (bytes_right (spelling b) (spellings blocks) are) unbroken
    (reach_more s.end s.stage place b p.end p.allowed (bytes_left (spelling b) (spellings blocks) are) h))

reach_bound : (end : Option ℕ) (s : OrderStage) (place : ℕ) → Reaches end s place → place ≤ FURTHEST
reach_bound None s place (inl (first, at)) = omega arith
reach_bound None s place (inr (due, at)) = omega arith
reach_bound (Some end) s place (low, high) = omega arith

-- a reader that has found no fault is not further than that
pub read_reach : (blocks : List block.Block) (s : State) (place : ℕ) → HasRead blocks s place → AreBytes (spellings blocks) → place ≤ FURTHEST
unfolding start
read_reach blocks s place h are =
    let far = reach_bound (state_following start 0 blocks).end (state_following start 0 blocks).stage (0 + size blocks) (reach_following start 0 blocks are h.unbroken (inl (refl, refl))) in
    omega (arith, h.place_is, far)
