-- The first fault of the machine is the first of all faults: at one place, and then along blocks.
use Rattle.std.proofs.Common.{◌≡◌, ℕ, ◌+◌, ◌<◌, ◌≤◌, Bool, true, false, ◌&&◌, ◌||◌, not, ◌⊎◌, leb, ltb, List, [], ◌∷◌, ◌++◌, length, get_or, map, flat_map, Option, Some, None, is_none, refl, sym, ap, ◌∙◌, subst, inl, inr, ⊎_elim, arith, append_assoc, append-nil, ltb-true, ltb-false, le-leb}
use Rattle.std.specs.Option.{option_or}
use Rattle.std.specs.List.{AllByRecursion}
use Rattle.std.proofs.lemmas.Bool.{cases_Bool, cases_lt, true≢false, false≢true, and_parts, and_from, and_cases, and_left, or_parts, or_cases, or_left, or_right, not-true, not-false, not_from_false, cond-true, cond-false}
use Rattle.uac_descriptor.specs.declared.block.Block as block
use Rattle.uac_descriptor.specs.Spelling.{spelling}
use Rattle.uac_descriptor.specs.LayoutRows.{Spells}
use Rattle.uac_descriptor.specs.BlockParsing.{AreBytes, block_of}
use Rattle.uac_descriptor.proofs.SpellingLemmas.{block_of-Spells}
use Rattle.uac_descriptor.proofs.BlockParsingLemmas.{Spells-block_of}
use Rattle.uac_grammar_rules.specs.declared.roles.BlockRole.{BlockRole}
use Rattle.uac_grammar_rules.specs.declared.roles.BlockRole.TheVariants as role
use Rattle.uac_grammar_rules.specs.declared.stages.OrderStage.{OrderStage}
use Rattle.uac_grammar_rules.specs.declared.stages.OrderStage.TheVariants.{Start, Due}
use Rattle.uac_grammar_rules.specs.declared.states.State.{State}
use Rattle.uac_grammar_rules.specs.Cutting.{IsPiece, begins_whole, chop}
use Rattle.uac_grammar_rules.specs.Fault.{GrammarFault, at_place, rest_rule, faults_over, faults_from}
use Rattle.uac_grammar_rules.specs.BlockRole.{role_of, is_listed}
use Rattle.uac_grammar_rules.specs.OrderStages.{next_stage, may_end}
use Rattle.uac_grammar_rules.specs.Values.{HasValues, has_wrong_value}
use Rattle.uac_grammar_rules.specs.Grammar.{grammar, start, state_after, state_read, rule_read, rule_broken, rule_at_end, first_fault, end_after, ends_before, ends_after, listing_after, list_end, passes_total, passes_list, ends_list_early, is_out_of_order, is_refused, lacks_association, lists_unknown, comes_again, least, is_due, is_headless}
use Rattle.uac_grammar_rules.specs.Sentence.{EachIn, SpellsItself, spellings, size}
use Rattle.uac_grammar_rules.specs.Progress.{state_following, HasRead}
use Rattle.uac_grammar_rules.specs.Earlier.{is_same, has, latest_is, is_named, is_second, is_unknown_in_list, stands_without_association}
use Rattle.uac_grammar_rules.specs.FirstFault.{context_following, context_of, NextBlock, IsAtConfiguration, HasNoLength, MissesTotal, IsMisplaced, LacksPart, Breaks, g1, g2, g3, g4, g5, g6, g7, g8, g9, IsFault, IsFirstFault}
use Rattle.uac_grammar_rules.proofs.CuttingLemmas.{chop_is_cut}
use Rattle.uac_grammar_rules.proofs.FaultLemmas.{at_place_is, option_or_some, faults_from_piece}
use Rattle.uac_grammar_rules.proofs.GrammarLemmas.{bytes_in}
use Rattle.uac_grammar_rules.proofs.ValuesLemmas.{right_values, no_wrong_value}
use Rattle.uac_grammar_rules.proofs.SentenceTotalLemmas.{size-cons}
use Rattle.uac_grammar_rules.proofs.SentenceLemmas.{bytes_left, bytes_right, piece_of, at_place_none}
use Rattle.uac_grammar_rules.proofs.ProgressLemmas.{nothing_read, block_read, spellings-push, fault_unread, fault_broken, fault_short, fault_lone, fault_partial, fault_at_end}
use Rattle.uac_grammar_rules.proofs.ProgressReachLemmas.{start_step, due_step}
use Rattle.uac_grammar_rules.proofs.EarlierLemmas.{lead, stage_following, first_step, read_stage, lacks_is, lists_is, again_is, end_is, no_association_no_end}
use Rattle.uac_grammar_rules.proofs.FirstFaultOrderLemmas.{taken_may_begin, may_begin_taken}
use Rattle.uac_grammar_rules.proofs.FirstFaultTotalLemmas.{past_total, total_past, past_list, list_past, short_total, total_short, short_list, list_short}

-- ---- the least rule of a table

-- the rule is broken, and none before it
abbrev Finds : ℕ → List (ℕ × Bool) → Type 0
Finds r [] = ⊥
Finds r ((rule, broken) ∷ rules) = ((r ≡ rule) × (broken ≡ true)) ⊎ ((broken ≡ false) × Finds r rules)

least_finds : (rules : List (ℕ × Bool)) (r : ℕ) → least rules ≡ Some r → Finds r rules
least_finds [] r e = cc
least_finds ((rule, true) ∷ rules) r e = inl ((let h : r ≡ rule = cc in h), refl)
least_finds ((rule, false) ∷ rules) r e = inr (refl, least_finds rules r e)

-- the rule is broken
abbrev Holds : ℕ → List (ℕ × Bool) → Type 0
Holds r [] = ⊥
Holds r ((rule, broken) ∷ rules) = ((r ≡ rule) × (broken ≡ true)) ⊎ Holds r rules

-- the rules stand in order
abbrev Ascends : ℕ → List (ℕ × Bool) → Type 0
Ascends low [] = Unit {0}
Ascends low ((rule, broken) ∷ rules) = (low ≤ rule) × Ascends rule rules

record IsLow (o : Option ℕ) (r : ℕ) : Type 0 where
  found : ℕ
  is : o ≡ Some found
  low : found ≤ r

low_holds : (low r : ℕ) (rules : List (ℕ × Bool)) → Ascends low rules → Holds r rules → low ≤ r
low_holds low r [] up h = absurd h
low_holds low r ((rule, broken) ∷ rules) (h, up) (inl (e, is)) = omega (arith, e, h)
low_holds low r ((rule, broken) ∷ rules) (h, up) (inr there) = (let g = low_holds rule r rules up there in omega (arith, g, h))

least_holds : (low r : ℕ) (rules : List (ℕ × Bool)) → Ascends low rules → Holds r rules → IsLow (least rules) r
least_holds low r [] up h = absurd h
least_holds low r ((rule, true) ∷ rules) (h, up) (inl (e, is)) = record { found = rule; is = refl; low = omega (arith, e) }
least_holds low r ((rule, true) ∷ rules) (h, up) (inr there) = record { found = rule; is = refl; low = low_holds rule r rules up there }
least_holds low r ((rule, false) ∷ rules) (h, up) (inl (e, is)) = absurd (false≢true is)
least_holds low r ((rule, false) ∷ rules) (h, up) (inr there) = least_holds rule r rules up there

-- the tables of a block, and of the end
abbrev block_table : State → ℕ → block.Block → List (ℕ × Bool)
block_table s place b =
    (4, has_wrong_value s.context b)
    ∷ (5, passes_total s.end place (bytes_in b) b || passes_list s.listing place (bytes_in b) b || ends_list_early s.listing place (role_of b))
    ∷ (6, is_out_of_order s b)
    ∷ (7, lacks_association s.stage (role_of b))
    ∷ (8, lists_unknown s.stage (role_of b))
    ∷ (9, comes_again s.stage (role_of b)) ∷ []

block_table_is : (s : State) (place : ℕ) (b : block.Block) → rule_broken s place (bytes_in b) b ≡ least (block_table s place b)
unfolding rule_broken
block_table_is s place b = refl

block_ascends : (s : State) (place : ℕ) (b : block.Block) → Ascends 0 (block_table s place b)
block_ascends s place b = (omega arith, (omega arith, (omega arith, (omega arith, (omega arith, (omega arith, tt))))))

abbrev end_table : State → ℕ → List (ℕ × Bool)
end_table s place =
    (1, is_due s.stage)
    ∷ (5, ends_after s.end place || ends_after (list_end s.listing) place)
    ∷ (6, is_headless s.stage)
    ∷ (7, not (may_end s.stage)) ∷ []

end_table_is : (s : State) (place : ℕ) → rule_at_end s place ≡ least (end_table s place)
unfolding rule_at_end
end_table_is s place = refl

end_ascends : (s : State) (place : ℕ) → Ascends 0 (end_table s place)
end_ascends s place = (omega arith, (omega arith, (omega arith, (omega arith, tt))))

-- ---- the configuration's own place

due_roles : (ks : List BlockRole) (s : OrderStage) → stage_following ks ≡ Some s → has role.Configuration ks ≡ false
    → (ks ≡ []) ⊎ (ks ≡ role.Device ∷ [])
due_roles [] s e none = inl refl
due_roles (k ∷ ks) s e none =
    let (here, there) = or_parts (is_same role.Configuration k) (has role.Configuration ks) none in
    let (u, is) = first_step (next_stage Start k) ks s e in
    let (device, next) = start_step k (ap is_none is) (λ same. false≢true (sym here ∙ ap (is_same role.Configuration) same)) in
    inr (ap (λ j. j ∷ ks) device ∙ ap (λ js. role.Device ∷ js) (nothing_following ks (sym (ap (λ o. lead o ks) next) ∙ e) there))
  where
    nothing_following : (ks : List BlockRole) → lead (Some Due) ks ≡ Some s → has role.Configuration ks ≡ false → ks ≡ []
    nothing_following [] e none = refl
    nothing_following (j ∷ js) e none =
        let (here, there) = or_parts (is_same role.Configuration j) (has role.Configuration js) none in
        let (u, is) = first_step (next_stage Due j) js s e in
        absurd (false≢true (sym here ∙ ap (is_same role.Configuration) (due_step j (ap is_none is))))

no_roles : (blocks : List block.Block) → map role_of blocks ≡ [] → blocks ≡ []
no_roles [] e = refl
no_roles (b ∷ blocks) e = cc

-- ---- one place

-- the machine finds a rule at this place, no greater than r
record FindsLow (s : State) (place : ℕ) (bytes : List ℕ) (r : ℕ) : Type 0 where
  rule : ℕ
  found : faults_from grammar s place bytes ≡ Some (record { rule = rule; at = place })
  low : rule ≤ r

context_along : (s : State) (place : ℕ) (blocks : List block.Block) → (state_following s place blocks).context ≡ context_following s.context blocks
unfolding state_after
context_along s place [] = refl
context_along s place (b ∷ blocks) = context_along (state_after s place b) (place + bytes_in b) blocks

module _ (blocks : List block.Block) (s : State) (place : ℕ) (read : HasRead blocks s place) where
  context_now : s.context ≡ context_of blocks
  unfolding start
  context_now = ap (λ (u : State). u.context) read.state_is ∙ context_along start 0 blocks

  stage_now : stage_following (map role_of blocks) ≡ Some s.stage
  stage_now = read_stage blocks s place read

  named_is : (k : BlockRole) → (lacks_association s.stage k || lists_unknown s.stage k || comes_again s.stage k) ≡ is_named (map role_of blocks) k
  named_is k =
      ap (λ x. x || lists_unknown s.stage k || comes_again s.stage k) (lacks_is (map role_of blocks) s.stage stage_now k)
      ∙ ap (λ x. stands_without_association (map role_of blocks) k || x || comes_again s.stage k) (lists_is (map role_of blocks) s.stage stage_now k)
      ∙ ap (λ x. stands_without_association (map role_of blocks) k || is_unknown_in_list (map role_of blocks) k || x) (again_is (map role_of blocks) s.stage stage_now k)

  -- ---- a block

  misses : (b : block.Block)
      → (passes_total s.end place (bytes_in b) b || passes_list s.listing place (bytes_in b) b || ends_list_early s.listing place (role_of b)) ≡ true
      → MissesTotal blocks b
  unfolding passes_total passes_list ends_list_early
  misses b h =
      let whole : Bool = ends_before (end_after s.end place b) (place + bytes_in b) in
      let list : Bool = ends_before (list_end (listing_after s.listing place b)) (place + bytes_in b) in
      let early : Bool = not (is_listed (role_of b)) && ends_after (list_end s.listing) place in
      elim (or_cases (whole || list) early h) [
        | inl past ↦ elim (or_cases whole list past) [
          | inl t ↦ inl (past_total blocks s place read b t)
          | inr l ↦ inr (inl (past_list blocks s place read b l))
        ]
        | inr short ↦ (let (other, e) = and_parts (not (is_listed (role_of b))) (ends_after (list_end s.listing) place) short in
            inr (inr (not-true (is_listed (role_of b)) other, short_list blocks s place read e)))
      ]

  missed : (b : block.Block) → MissesTotal blocks b
      → (passes_total s.end place (bytes_in b) b || passes_list s.listing place (bytes_in b) b || ends_list_early s.listing place (role_of b)) ≡ true
  unfolding passes_total passes_list ends_list_early
  missed b (inl t) =
      or_left
      (ends_before (end_after s.end place b) (place + bytes_in b) || ends_before (list_end (listing_after s.listing place b)) (place + bytes_in b))
      (not (is_listed (role_of b)) && ends_after (list_end s.listing) place)
      (or_left (ends_before (end_after s.end place b) (place + bytes_in b)) (ends_before (list_end (listing_after s.listing place b)) (place + bytes_in b))
      (total_past blocks s place read b t))
  missed b (inr (inl l)) =
      or_left
      (ends_before (end_after s.end place b) (place + bytes_in b) || ends_before (list_end (listing_after s.listing place b)) (place + bytes_in b))
      (not (is_listed (role_of b)) && ends_after (list_end s.listing) place)
      (or_right (ends_before (end_after s.end place b) (place + bytes_in b)) (ends_before (list_end (listing_after s.listing place b)) (place + bytes_in b))
      (list_past blocks s place read b l))
  missed b (inr (inr (other, short))) =
      or_right
      (ends_before (end_after s.end place b) (place + bytes_in b) || ends_before (list_end (listing_after s.listing place b)) (place + bytes_in b))
      (not (is_listed (role_of b)) && ends_after (list_end s.listing) place)
      (and_from (not (is_listed (role_of b))) (ends_after (list_end s.listing) place)
      (not_from_false (is_listed (role_of b)) other) (list_short blocks s place read short))

  misplaced : (b : block.Block) → AreBytes (spellings (blocks ++ b ∷ [])) → is_out_of_order s b ≡ true → IsMisplaced blocks b
  unfolding is_out_of_order
  misplaced b are h =
      let named : Bool = lacks_association s.stage (role_of b) || lists_unknown s.stage (role_of b) || comes_again s.stage (role_of b) in
      let (refused, unnamed) = and_parts (is_refused s b) (not named) h in
      record {
        refused = λ begins. true≢false (sym refused ∙ may_begin_taken blocks s place b read are begins);
        unnamed = sym (named_is (role_of b)) ∙ not-true named unnamed;
      }

  out_of_order : (b : block.Block) → AreBytes (spellings (blocks ++ b ∷ [])) → IsMisplaced blocks b → is_out_of_order s b ≡ true
  unfolding is_out_of_order
  out_of_order b are h =
      let named : Bool = lacks_association s.stage (role_of b) || lists_unknown s.stage (role_of b) || comes_again s.stage (role_of b) in
      and_from (is_refused s b) (not named)
      (elim (cases_Bool (is_refused s b)) [
        | inl refused ↦ refused
        | inr taken ↦ absurd (h.refused (taken_may_begin blocks s place b read are taken))
      ])
      (not_from_false named (named_is (role_of b) ∙ h.unnamed))

  -- a rule of the table that a block breaks is one that the blocks tell
  module _ (b : block.Block) (rest bytes : List ℕ) (e : bytes ≡ spelling b ++ rest) (stands : SpellsItself (context_of blocks) b) (are : AreBytes (spellings (blocks ++ b ∷ []))) where
    next : (IsSo : block.Block → Type 0) → IsSo b → NextBlock blocks bytes IsSo
    next IsSo so = record { next = b; rest = rest; spelt = e; stands = stands; is_so = so }

    block_breaks : (r : ℕ) → Finds r (block_table s place b) → Breaks r blocks bytes
    block_breaks r (inl (is, h)) =
        g4 is (next (λ x. HasValues (context_of blocks) x → ⊥)
        (λ right. true≢false (sym h ∙ no_wrong_value s.context b (subst (λ c. HasValues c b) (sym context_now) right))))
    block_breaks r (inr (no4, inl (is, h))) = g5 is (inl (next (MissesTotal blocks) (misses b h)))
    block_breaks r (inr (no4, inr (no5, inl (is, h)))) = g6 is (inl (next (IsMisplaced blocks) (misplaced b are h)))
    block_breaks r (inr (no4, inr (no5, inr (no6, inl (is, h))))) =
        g7 is (inl (next (λ x. stands_without_association (map role_of blocks) (role_of x) ≡ true)
        (sym (lacks_is (map role_of blocks) s.stage stage_now (role_of b)) ∙ h)))
    block_breaks r (inr (no4, inr (no5, inr (no6, inr (no7, inl (is, h)))))) =
        g8 is (next (λ x. is_unknown_in_list (map role_of blocks) (role_of x) ≡ true)
        (sym (lists_is (map role_of blocks) s.stage stage_now (role_of b)) ∙ h))
    block_breaks r (inr (no4, inr (no5, inr (no6, inr (no7, inr (no8, inl (is, h))))))) =
        g9 is (next (λ x. is_second (map role_of blocks) (role_of x) ≡ true)
        (sym (again_is (map role_of blocks) s.stage stage_now (role_of b)) ∙ h))
    block_breaks r (inr (no4, inr (no5, inr (no6, inr (no7, inr (no8, inr (no9, none))))))) = absurd none

  -- a rule that the blocks tell of a block is found, or a lesser one
  block_low : (IsSo : block.Block → Type 0) (bytes : List ℕ) (r : ℕ) → (n : NextBlock blocks bytes IsSo) → Holds r (block_table s place n.next)
      → FindsLow s place bytes r
  block_low IsSo bytes r n holds =
      let h = least_holds 0 r (block_table s place n.next) (block_ascends s place n.next) holds in
      let stands : SpellsItself s.context n.next = subst (λ c. SpellsItself c n.next) (sym context_now) n.stands in
      record {
        rule = h.found;
        found =
            ap (faults_from grammar s place) n.spelt
            ∙ fault_broken s place (spelling n.next) n.rest n.next h.found (piece_of s.context n.next stands)
            (block_of-Spells s.context n.next (spelling n.next) stands) (block_table_is s place n.next ∙ h.is);
        low = h.low;
      }

  block_bytes : (IsSo : block.Block → Type 0) (bytes : List ℕ) (n : NextBlock blocks bytes IsSo) → AreBytes (spellings blocks ++ bytes)
      → AreBytes (spellings (blocks ++ n.next ∷ []))
  block_bytes IsSo bytes n are =
      bytes_left (spellings (blocks ++ n.next ∷ [])) n.rest
      (subst AreBytes
      (ap (λ y. spellings blocks ++ y) n.spelt ∙ sym (append_assoc (spellings blocks) (spelling n.next) n.rest)
      ∙ ap (λ y. y ++ n.rest) (sym (spellings-push blocks n.next))) are)

  -- ---- the end

  at_configuration : is_due s.stage ≡ true → IsAtConfiguration blocks
  at_configuration due =
      elim (due_roles (map role_of blocks) s.stage stage_now
      (not-true (has role.Configuration (map role_of blocks)) (sym (end_is (map role_of blocks) s.stage stage_now).0 ∙ due))) [
        | inl none ↦ inl (no_roles blocks none)
        | inr device ↦ inr device
      ]

  due_at : IsAtConfiguration blocks → is_due s.stage ≡ true
  due_at (inl none) =
      (end_is (map role_of blocks) s.stage stage_now).0 ∙ ap (λ bs. not (has role.Configuration (map role_of bs))) none
  due_at (inr device) =
      (end_is (map role_of blocks) s.stage stage_now).0 ∙ ap (λ ks. not (has role.Configuration ks)) device

  lacks_part : is_headless s.stage ≡ false → may_end s.stage ≡ false → LacksPart blocks
  lacks_part headed stays =
      let ks : List BlockRole = map role_of blocks in
      let (due, headless, may) = end_is ks s.stage stage_now in
      elim (and_cases (has role.ControlInterface ks) (not (latest_is role.ControlInterface ks)) (sym may ∙ stays)) [
        | inl none ↦ inr none
        | inr latest ↦ absurd (true≢false (sym (not-false (latest_is role.ControlInterface ks) latest) ∙ sym headless ∙ headed))
      ]

  part_lacks : LacksPart blocks → may_end s.stage ≡ false
  part_lacks (inl none) = no_association_no_end (map role_of blocks) s.stage stage_now none
  part_lacks (inr none) =
      let ks : List BlockRole = map role_of blocks in
      (end_is ks s.stage stage_now).2 ∙ and_left (has role.ControlInterface ks) (not (latest_is role.ControlInterface ks)) none

  end_breaks : (r : ℕ) → Finds r (end_table s place) → Breaks r blocks []
  end_breaks r (inl (is, h)) = g1 is (inr (refl, at_configuration h))
  end_breaks r (inr (no1, inl (is, h))) =
      g5 is (inr (
        refl,
        ⊎_elim (λ t. inl (short_total blocks s place read t)) (λ l. inr (short_list blocks s place read l))
            (or_cases (ends_after s.end place) (ends_after (list_end s.listing) place) h),
      ))
  end_breaks r (inr (no1, inr (no5, inl (is, h)))) = g6 is (inr (refl, sym (end_is (map role_of blocks) s.stage stage_now).1 ∙ h))
  end_breaks r (inr (no1, inr (no5, inr (no6, inl (is, h))))) = g7 is (inr (refl, lacks_part no6 (not-true (may_end s.stage) h)))
  end_breaks r (inr (no1, inr (no5, inr (no6, inr (no7, none))))) = absurd none

  end_low : (bytes : List ℕ) (r : ℕ) → bytes ≡ [] → Holds r (end_table s place) → FindsLow s place bytes r
  end_low bytes r none holds =
      let h = least_holds 0 r (end_table s place) (end_ascends s place) holds in
      record {
        rule = h.found;
        found = ap (faults_from grammar s place) none ∙ fault_at_end s place ∙ ap (at_place place) (end_table_is s place ∙ h.is);
        low = h.low;
      }

  -- ---- bytes that are no block

  lone_found : (bytes : List ℕ) → length bytes ≡ 1 → faults_from grammar s place bytes ≡ Some (record { rule = 1; at = place })
  lone_found [] one = absurd (omega (arith, one))
  lone_found (x ∷ []) one = fault_lone s place x
  lone_found (x ∷ y ∷ bytes) one = absurd (omega (arith, one))

  partial_found : (bytes : List ℕ) → 2 ≤ get_or bytes 0 0 → length bytes < get_or bytes 0 0
      → faults_from grammar s place bytes ≡ Some (record { rule = 1; at = place })
  partial_found [] two past = absurd (omega (arith, two))
  partial_found (x ∷ []) two past = fault_lone s place x
  partial_found (x ∷ y ∷ bytes) two past = fault_partial s place x y bytes two past

  short_found : (bytes : List ℕ) → HasNoLength bytes → faults_from grammar s place bytes ≡ Some (record { rule = 2; at = place })
  short_found [] (two, below) = absurd (omega (arith, two))
  short_found (x ∷ []) (two, below) = absurd (omega (arith, two))
  short_found (x ∷ y ∷ bytes) (two, below) = fault_short s place x y bytes below

  unread_found : (piece rest : List ℕ) → IsPiece piece → AreBytes piece → ((b : block.Block) → Spells (context_of blocks) b piece → ⊥)
      → faults_from grammar s place (piece ++ rest) ≡ Some (record { rule = 3; at = place })
  unread_found piece rest is are none = fault_unread s place piece rest is (no_block (block_of s.context piece) refl)
    where
      no_block : (o : Option block.Block) → block_of s.context piece ≡ o → block_of s.context piece ≡ None
      no_block None e = e
      no_block (Some b) e = absurd (none b (subst (λ c. Spells c b piece) context_now (Spells-block_of s.context piece b are e)))

  exactly : (bytes : List ℕ) (r rule : ℕ) → r ≡ rule → faults_from grammar s place bytes ≡ Some (record { rule = rule; at = place }) → FindsLow s place bytes r
  exactly bytes r rule is found = record { rule = rule; found = found; low = omega (arith, is) }

  -- what the blocks tell at this place is found, or a lesser rule
  breaks_low : (bytes : List ℕ) (r : ℕ) → AreBytes (spellings blocks ++ bytes) → Breaks r blocks bytes → FindsLow s place bytes r
  breaks_low bytes r are (g1 is (inl (inl one))) = exactly bytes r 1 is (lone_found bytes one)
  breaks_low bytes r are (g1 is (inl (inr (two, past)))) = exactly bytes r 1 is (partial_found bytes two past)
  breaks_low bytes r are (g1 is (inr (none, at))) = end_low bytes r none (inl (is, due_at at))
  breaks_low bytes r are (g2 is h) = exactly bytes r 2 is (short_found bytes h)
  breaks_low bytes r are (g3 is h) =
      exactly bytes r 3 is
      (ap (faults_from grammar s place) h.cut
      ∙ unread_found h.piece h.rest h.is_piece
      (bytes_left h.piece h.rest (subst AreBytes h.cut (bytes_right (spellings blocks) bytes are))) h.spells_none)
  breaks_low bytes r are (g4 is n) =
      block_low (λ x. HasValues (context_of blocks) x → ⊥) bytes r n (inl (is, wrong n.next n.is_so))
    where
      wrong : (b : block.Block) → (HasValues (context_of blocks) b → ⊥) → has_wrong_value s.context b ≡ true
      wrong b not_right =
          elim (cases_Bool (has_wrong_value s.context b)) [
            | inl h ↦ h
            | inr h ↦ absurd (not_right (subst (λ c. HasValues c b) context_now (right_values s.context b h)))
          ]
  breaks_low bytes r are (g5 is (inl n)) = block_low (MissesTotal blocks) bytes r n (inr (inl (is, missed n.next n.is_so)))
  breaks_low bytes r are (g5 is (inr (none, inl t))) =
      end_low bytes r none (inr (inl (is, or_left (ends_after s.end place) (ends_after (list_end s.listing) place) (total_short blocks s place read t))))
  breaks_low bytes r are (g5 is (inr (none, inr l))) =
      end_low bytes r none (inr (inl (is, or_right (ends_after s.end place) (ends_after (list_end s.listing) place) (list_short blocks s place read l))))
  breaks_low bytes r are (g6 is (inl n)) =
      block_low (IsMisplaced blocks) bytes r n (inr (inr (inl (is, out_of_order n.next (block_bytes (IsMisplaced blocks) bytes n are) n.is_so))))
  breaks_low bytes r are (g6 is (inr (none, h))) =
      end_low bytes r none (inr (inr (inl (is, (end_is (map role_of blocks) s.stage stage_now).1 ∙ h))))
  breaks_low bytes r are (g7 is (inl n)) =
      block_low (λ x. stands_without_association (map role_of blocks) (role_of x) ≡ true) bytes r n
      (inr (inr (inr (inl (is, lacks_is (map role_of blocks) s.stage stage_now (role_of n.next) ∙ n.is_so)))))
  breaks_low bytes r are (g7 is (inr (none, h))) =
      end_low bytes r none (inr (inr (inr (inl (is, not_from_false (may_end s.stage) (part_lacks h))))))
  breaks_low bytes r are (g8 is n) =
      block_low (λ x. is_unknown_in_list (map role_of blocks) (role_of x) ≡ true) bytes r n
      (inr (inr (inr (inr (inl (is, lists_is (map role_of blocks) s.stage stage_now (role_of n.next) ∙ n.is_so))))))
  breaks_low bytes r are (g9 is n) =
      block_low (λ x. is_second (map role_of blocks) (role_of x) ≡ true) bytes r n
      (inr (inr (inr (inr (inr (inl (is, again_is (map role_of blocks) s.stage stage_now (role_of n.next) ∙ n.is_so)))))))

  -- what is wrong with a rest that is no block is what the blocks tell
  rest_breaks : (rest : List ℕ) (r : ℕ) → begins_whole rest ≡ false → rest_rule (rule_at_end s place) rest ≡ Some r → Breaks r blocks rest
  rest_breaks [] r cut e = end_breaks r (least_finds (end_table s place) r (sym (end_table_is s place) ∙ e))
  rest_breaks (x ∷ []) r cut e = g1 (let h : r ≡ 1 = cc in h) (inl (inl refl))
  rest_breaks (x ∷ y ∷ rest) r cut e =
      elim (cases_Bool (ltb x 2)) [
        | inl below ↦ g2 (let h : Some 2 ≡ Some r = sym (cond-true (ltb x 2) (Some 2) (Some 1) below) ∙ e in (let h' : r ≡ 2 = cc in h')) (omega arith, ltb-true x 2 below)
        | inr above ↦ g1 (let h : Some 1 ≡ Some r = sym (cond-false (ltb x 2) (Some 2) (Some 1) above) ∙ e in (let h' : r ≡ 1 = cc in h'))
            (inl (inr (ltb-false x 2 above, runs_past (ltb-false x 2 above))))
      ]
    where
      runs_past : 2 ≤ x → length (x ∷ y ∷ rest) < x
      runs_past two =
          elim (and_cases (leb 2 x) (leb x (length (x ∷ y ∷ rest))) cut) [
            | inl small ↦ absurd (true≢false (sym (le-leb 2 x two) ∙ small))
            | inr past_end ↦ elim (cases_lt (length (x ∷ y ∷ rest)) x) [
              | inl past ↦ past
              | inr fits ↦ absurd (true≢false (sym (le-leb x (length (x ∷ y ∷ rest)) fits) ∙ past_end))
            ]
          ]

  -- a fault at this place
  fault_here : (bytes : List ℕ) (fault : GrammarFault) → fault.at ≡ place → Breaks fault.rule blocks bytes → IsFault (spellings blocks ++ bytes) fault.rule fault.at
  fault_here bytes fault at breaks =
      record { before = blocks; following = bytes; cut = refl; stand = read.stand; at = at ∙ read.place_is; breaks = breaks }

-- ---- along the blocks

-- what the machine finds is a fault
fault_over : (blocks : List block.Block) (s : State) (place : ℕ) → HasRead blocks s place → (pieces : List (List ℕ)) (rest : List ℕ)
    → AreBytes (spellings blocks ++ (flat_map (λ piece. piece) pieces ++ rest)) → AllByRecursion IsPiece pieces → begins_whole rest ≡ false
    → (fault : GrammarFault) → faults_over grammar s place pieces rest ≡ Some fault
    → IsFault (spellings blocks ++ (flat_map (λ piece. piece) pieces ++ rest)) fault.rule fault.at
unfolding grammar
fault_over blocks s place read [] rest are ok cut fault e =
    let (is, at) = at_place_is fault place (rest_rule (rule_at_end s place) rest) e in
    fault_here blocks s place read rest fault at (rest_breaks blocks s place read rest fault.rule cut is)
fault_over blocks s place read (piece ∷ pieces) rest are (whole, ok) cut fault e =
    subst (λ y. IsFault (spellings blocks ++ y) fault.rule fault.at) (sym regroup)
    (block_first (block_of s.context piece) refl
    (λ more s' read' are'. fault_over more s' (place + length piece) read' pieces rest are' ok cut fault) e)
  where
    tail : List ℕ
    tail = flat_map (λ y. y) pieces ++ rest

    regroup : flat_map (λ y. y) (piece ∷ pieces) ++ rest ≡ piece ++ (flat_map (λ y. y) pieces ++ rest)
    regroup = append_assoc piece (flat_map (λ y. y) pieces) rest

    are_here : AreBytes (spellings blocks ++ (piece ++ (flat_map (λ y. y) pieces ++ rest)))
    are_here = subst (λ y. AreBytes (spellings blocks ++ y)) regroup are

    are_piece : AreBytes piece
    are_piece =
        bytes_left piece (flat_map (λ y. y) pieces ++ rest)
        (bytes_right (spellings blocks) (piece ++ (flat_map (λ y. y) pieces ++ rest)) are_here)

    block_first : (o : Option block.Block) → block_of s.context piece ≡ o
        → ((more : List block.Block) (s' : State) → HasRead more s' (place + length piece) → AreBytes (spellings more ++ (flat_map (λ y. y) pieces ++ rest))
        → faults_over grammar s' (place + length piece) pieces rest ≡ Some fault → IsFault (spellings more ++ (flat_map (λ y. y) pieces ++ rest)) fault.rule fault.at)
        → option_or (at_place place (rule_read s place (length piece) o)) (faults_over grammar (state_read s place o) (place + length piece) pieces rest) ≡ Some fault
        → IsFault (spellings blocks ++ (piece ++ (flat_map (λ y. y) pieces ++ rest))) fault.rule fault.at
    block_first None is go found =
        let (rule, at) = at_place_is fault place (Some 3) found in
        fault_here blocks s place read (piece ++ (flat_map (λ y. y) pieces ++ rest)) fault at
        (g3 (let h : fault.rule ≡ 3 = cc in h) (record {
          piece = piece;
          rest = flat_map (λ y. y) pieces ++ rest;
          cut = refl;
          is_piece = whole;
          spells_none = λ b spells. some_none b (sym (block_of-Spells s.context b piece (subst (λ c. Spells c b piece) (sym (context_now blocks s place read)) spells)) ∙ is);
        }))
      where
        some_none : (b : block.Block) → Some b ≡ None → ⊥
        some_none b wrong = cc
    block_first (Some b) is go found =
        let spells : Spells s.context b piece = Spells-block_of s.context piece b are_piece is in
        elim (option_or_some (at_place place (rule_broken s place (length piece) b)) (faults_over grammar (state_after s place b) (place + length piece) pieces rest) fault found) [
          | inl here ↦ (
              let (rule, at) = at_place_is fault place (rule_broken s place (length piece) b) here in
              let same : rule_broken s place (bytes_in b) b ≡ Some fault.rule = subst (λ y. rule_broken s place (length y) b ≡ Some fault.rule) spells.spelt rule in
              fault_here blocks s place read (piece ++ (flat_map (λ y. y) pieces ++ rest)) fault at
              (block_breaks blocks s place read b (flat_map (λ y. y) pieces ++ rest) (piece ++ (flat_map (λ y. y) pieces ++ rest))
              (ap (λ y. y ++ (flat_map (λ x. x) pieces ++ rest)) spells.spelt)
              (subst (λ c. SpellsItself c b) (context_now blocks s place read) (subst (Spells s.context b) spells.spelt spells))
              (subst AreBytes (ap (λ y. spellings blocks ++ y) spells.spelt ∙ sym (spellings-push blocks b))
              (bytes_left (spellings blocks ++ piece) (flat_map (λ y. y) pieces ++ rest)
              (subst AreBytes (sym (append_assoc (spellings blocks) piece (flat_map (λ y. y) pieces ++ rest))) are_here)))
              fault.rule
              (least_finds (block_table s place b) fault.rule (sym (block_table_is s place b) ∙ same))))
          | inr (none, there) ↦ (
              let (read', e') = block_read blocks s place piece b read are_piece is (at_place_none place (rule_broken s place (length piece) b) none) in
              let same : spellings (blocks ++ b ∷ []) ++ (flat_map (λ y. y) pieces ++ rest) ≡ spellings blocks ++ (piece ++ (flat_map (λ y. y) pieces ++ rest)) =
              ap (λ y. y ++ (flat_map (λ x. x) pieces ++ rest)) e' ∙ append_assoc (spellings blocks) piece (flat_map (λ y. y) pieces ++ rest) in
              subst (λ y. IsFault y fault.rule fault.at) same
              (go (blocks ++ b ∷ []) (state_after s place b) read' (subst AreBytes (sym same) are_here) there))
        ]

-- the machine finds a fault that is no later than this place and rule
record FindsEarly (s : State) (place : ℕ) (bytes : List ℕ) (far r : ℕ) : Type 0 where
  fault : GrammarFault
  found : faults_from grammar s place bytes ≡ Some fault
  early : (fault.at < far) ⊎ ((fault.at ≡ far) × (fault.rule ≤ r))

found_along : (before : List block.Block) (following : List ℕ) (blocks : List block.Block) (s : State) (place : ℕ) → HasRead blocks s place
    → EachIn SpellsItself s.context before → AreBytes (spellings blocks ++ (spellings before ++ following)) → (r : ℕ) → Breaks r (blocks ++ before) following
    → FindsEarly s place (spellings before ++ following) (place + size before) r
unfolding grammar state_after
found_along [] following blocks s place read stand are r breaks =
    let h = breaks_low blocks s place read following r are (subst (λ xs. Breaks r xs following) (append-nil blocks) breaks) in
    record { fault = record { rule = h.rule; at = place }; found = h.found; early = inr ((let e : place ≡ place + 0 = omega arith in e), h.low) }
found_along (b ∷ before) following blocks s place read (stands, stand) are r breaks =
    next (rule_broken s place (bytes_in b) b) refl
    (λ read' are'. found_along before following (blocks ++ b ∷ []) (state_after s place b) (place + bytes_in b) read' stand are' r
    (subst (λ xs. Breaks r xs following) (sym (append_assoc blocks (b ∷ []) before)) breaks))
  where
    regroup : spellings (b ∷ before) ++ following ≡ spelling b ++ (spellings before ++ following)
    regroup = append_assoc (spelling b) (spellings before) following

    are_here : AreBytes (spellings blocks ++ (spelling b ++ (spellings before ++ following)))
    are_here = subst (λ y. AreBytes (spellings blocks ++ y)) regroup are

    is_read : block_of s.context (spelling b) ≡ Some b
    is_read = block_of-Spells s.context b (spelling b) stands

    next : (o : Option ℕ) → rule_broken s place (bytes_in b) b ≡ o
        → (HasRead (blocks ++ b ∷ []) (state_after s place b) (place + bytes_in b) → AreBytes (spellings (blocks ++ b ∷ []) ++ (spellings before ++ following))
        → FindsEarly (state_after s place b) (place + bytes_in b) (spellings before ++ following) (place + bytes_in b + size before) r)
        → FindsEarly s place (spellings (b ∷ before) ++ following) (place + size (b ∷ before)) r
    next (Some rule) is go =
        record {
          fault = record { rule = rule; at = place };
          found = ap (faults_from grammar s place) regroup
              ∙ fault_broken s place (spelling b) (spellings before ++ following) b rule (piece_of s.context b stands) is_read is;
          early = inl (let (two, fits) = piece_of s.context b stands in omega (arith, two, fits, size-cons b before));
        }
    next None is go =
        let (read', e') =
        block_read blocks s place (spelling b) b read
        (bytes_left (spelling b) (spellings before ++ following) (bytes_right (spellings blocks) (spelling b ++ (spellings before ++ following)) are_here)) is_read is in
        let same : spellings (blocks ++ b ∷ []) ++ (spellings before ++ following) ≡ spellings blocks ++ (spelling b ++ (spellings before ++ following)) =
        ap (λ y. y ++ (spellings before ++ following)) e' ∙ append_assoc (spellings blocks) (spelling b) (spellings before ++ following) in
        let h = go read' (subst AreBytes (sym same) are_here) in
        record {
          fault = h.fault;
          found =
              ap (faults_from grammar s place) regroup
              ∙ faults_from_piece grammar s place (spelling b) (spellings before ++ following) (piece_of s.context b stands)
              ∙ ap (λ o. option_or (at_place place (rule_read s place (length (spelling b)) o)) (faults_from grammar (state_read s place o) (place + length (spelling b)) (spellings before ++ following))) is_read
              ∙ ap (λ o. option_or (at_place place o) (faults_from grammar (state_after s place b) (place + bytes_in b) (spellings before ++ following))) is
              ∙ h.found;
          early =
              subst (λ n. (h.fault.at < n) ⊎ ((h.fault.at ≡ n) × (h.fault.rule ≤ r)))
              (let far : place + bytes_in b + size before ≡ place + size (b ∷ before) = omega (arith, size-cons b before) in far) h.early;
        }

-- ---- the first fault

module _ (bytes : List ℕ) (are : AreBytes bytes) where
  found_is_fault : (fault : GrammarFault) → first_fault bytes ≡ Some fault → IsFault bytes fault.rule fault.at
  unfolding first_fault faults_from
  found_is_fault fault e =
      let cut = chop_is_cut bytes in
      subst (λ y. IsFault y fault.rule fault.at) (sym cut.joined)
      (fault_over [] start 0 nothing_read (chop bytes).pieces (chop bytes).rest (subst AreBytes cut.joined are) cut.pieces_are cut.rest_is fault e)

  fault_is_found : (r place : ℕ) → IsFault bytes r place → FindsEarly start 0 bytes place r
  unfolding start
  fault_is_found r place h =
      subst (λ y. FindsEarly start 0 y place r) (sym h.cut)
      (subst (λ n. FindsEarly start 0 (spellings h.before ++ h.following) n r) (let e : 0 + size h.before ≡ place = omega (arith, h.at) in e)
      (found_along h.before h.following [] start 0 nothing_read h.stand (subst AreBytes h.cut are) r h.breaks))

  one_fault : (a b : GrammarFault) → Some a ≡ Some b → a ≡ b
  one_fault a b e = cc

  pub found_first : (fault : GrammarFault) → first_fault bytes ≡ Some fault → IsFirstFault bytes fault
  unfolding first_fault
  found_first fault e =
      record {
        is_fault = found_is_fault fault e;
        first = λ r place h.
            let early = fault_is_found r place h in
            subst (λ (f : GrammarFault). (f.at < place) ⊎ ((f.at ≡ place) × (f.rule ≤ r))) (one_fault early.fault fault (sym early.found ∙ e)) early.early;
      }

  pub first_found : (fault : GrammarFault) → IsFirstFault bytes fault → first_fault bytes ≡ Some fault
  unfolding first_fault
  first_found fault h =
      let early = fault_is_found fault.rule fault.at h.is_fault in
      let other = h.first early.fault.rule early.fault.at (found_is_fault early.fault early.found) in
      early.found ∙ ap Some (same early.fault fault early.early other)
    where
      same : (a b : GrammarFault) → (a.at < b.at) ⊎ ((a.at ≡ b.at) × (a.rule ≤ b.rule)) → (b.at < a.at) ⊎ ((b.at ≡ a.at) × (b.rule ≤ a.rule)) → a ≡ b
      same a b (inl p) (inl q) = absurd (omega (arith, p, q))
      same a b (inl p) (inr (q, low)) = absurd (omega (arith, p, q))
      same a b (inr (p, low)) (inl q) = absurd (omega (arith, p, q))
      same a b (inr (p, low)) (inr (q, low')) =
          let rule : a.rule ≡ b.rule = omega (arith, low, low') in
          ap (λ n. record { rule = n; at = a.at }) rule ∙ ap (λ n. record { rule = b.rule; at = n }) p

  pub none_nowhere : first_fault bytes ≡ None → (r place : ℕ) → IsFault bytes r place → ⊥
  unfolding first_fault
  none_nowhere e r place h = (let early = fault_is_found r place h in some_none early.fault (sym early.found ∙ e))
    where
      some_none : (f : GrammarFault) → Some f ≡ None → ⊥
      some_none f wrong = cc

  pub nowhere_none : ((r place : ℕ) → IsFault bytes r place → ⊥) → first_fault bytes ≡ None
  nowhere_none none = of (first_fault bytes) refl
    where
      of : (o : Option GrammarFault) → first_fault bytes ≡ o → first_fault bytes ≡ None
      of None e = e
      of (Some fault) e = absurd (none fault.rule fault.at (found_is_fault fault e))
