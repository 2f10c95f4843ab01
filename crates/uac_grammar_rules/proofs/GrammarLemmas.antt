-- No rule is broken along blocks exactly where each fact of the sentence holds, each by its own part of the state.
use Rattle.std.proofs.Common.{◌≡◌, ℕ, ◌+◌, Bool, true, false, ◌&&◌, ◌||◌, not, List, [], ◌∷◌, length, Option, Some, None, is_some, is_none, inl, inr, refl, sym, ap, ◌∙◌, subst}
use Rattle.std.proofs.lemmas.Bool.{and_cases, and_left, or_parts, or_from, not-false, not_from_true, true≢false, false≢true}
use Rattle.uac_descriptor.specs.declared.context.Context.{Context}
use Rattle.uac_descriptor.specs.declared.block.Block as block
use Rattle.uac_descriptor.specs.Spelling.{spelling}
use Rattle.uac_grammar_rules.specs.declared.roles.BlockRole.{BlockRole}
use Rattle.uac_grammar_rules.specs.declared.roles.BlockRole.TheVariants.{Device}
use Rattle.uac_grammar_rules.specs.declared.stages.OrderStage.{OrderStage}
use Rattle.uac_grammar_rules.specs.declared.stages.OrderStage.TheVariants.{Start, Due, Opening, Before, Announced, Headless, Listing, Quiet, Setting, Formats, Formatted, FirstEndpoint, FirstDone, SecondEndpoint, Closing, ForeignAfter}
use Rattle.uac_grammar_rules.specs.declared.states.Latest.{Latest}
use Rattle.uac_grammar_rules.specs.declared.states.Listing as listing
use Rattle.uac_grammar_rules.specs.declared.states.State.{State}
use Rattle.uac_grammar_rules.specs.BlockRole.{role_of, is_listed}
use Rattle.uac_grammar_rules.specs.OrderStages.{next_stage, may_end}
use Rattle.uac_grammar_rules.specs.Values.{has_wrong_value}
use Rattle.uac_grammar_rules.specs.Grammar.{end_after, ends_before, ends_after, listing_after, list_end, used_after, latest_after, is_in_turn, stage_after, state_after, passes_total, passes_list, ends_list_early, lacks_association, lists_unknown, comes_again, is_refused, is_out_of_order, least, rule_broken, is_due, is_headless, rule_at_end}
use Rattle.uac_grammar_rules.specs.Sentence.{EachIn}
use Rattle.uac_grammar_rules.proofs.OrderStagesLemmas.{Goes}

-- the number of a block's bytes
abbrev pub bytes_in : block.Block → ℕ
bytes_in b = length (spelling b)

-- no rule is broken along the blocks, nor where they end
abbrev pub Clear : State → ℕ → List block.Block → Type 0
Clear s place [] = rule_at_end s place ≡ None
Clear s place (b ∷ blocks) =
    (rule_broken s place (bytes_in b) b ≡ None) × Clear (state_after s place b) (place + bytes_in b) blocks

-- G4 alone
abbrev pub HasNoWrongValue : Context → block.Block → Type 0
HasNoWrongValue place b = has_wrong_value place b ≡ false

-- the configuration's total alone
abbrev pub EndRun : Option ℕ → ℕ → List block.Block → Type 0
EndRun end place [] = ends_after end place ≡ false
EndRun end place (b ∷ blocks) =
    (ends_before (end_after end place b) (place + bytes_in b) ≡ false) × EndRun (end_after end place b) (place + bytes_in b) blocks

-- the header's total alone
abbrev pub ListRun : listing.Listing → ℕ → List block.Block → Type 0
ListRun l place [] = ends_after (list_end l) place ≡ false
ListRun l place (b ∷ blocks) =
    (ends_before (list_end (listing_after l place b)) (place + bytes_in b) ≡ false)
    × ((not (is_listed (role_of b)) && ends_after (list_end l) place) ≡ false)
    × ListRun (listing_after l place b) (place + bytes_in b) blocks

-- the numbers of interfaces and their settings alone
abbrev pub TurnRun : List Bool → Option Latest → List block.Block → Type 0
TurnRun used latest [] = Unit {0}
TurnRun used latest (b ∷ blocks) = (is_in_turn used latest b ≡ true) × TurnRun (used_after used b) (latest_after latest b) blocks

pub record Parts (s : State) (place : ℕ) (blocks : List block.Block) : Type 0 where
  pub values : EachIn HasNoWrongValue s.context blocks
  pub end : EndRun s.end place blocks
  pub list : ListRun s.listing place blocks
  pub goes : Goes role_of s.stage blocks
  pub turn : TurnRun s.used s.latest blocks

-- a table with no broken rule
least_none : (rule : ℕ) (broken : Bool) (rules : List (ℕ × Bool)) → least ((rule, broken) ∷ rules) ≡ None → (broken ≡ false) × (least rules ≡ None)
least_none rule true rules e = cc
least_none rule false rules e = (refl, e)

none_least : (rule : ℕ) (broken : Bool) (rules : List (ℕ × Bool)) → broken ≡ false → least rules ≡ None → least ((rule, broken) ∷ rules) ≡ None
none_least rule true rules e h = absurd (true≢false e)
none_least rule false rules e h = h

-- what G7, G8 and G9 name
abbrev named : OrderStage → BlockRole → Bool
named s l = lacks_association s l || lists_unknown s l || comes_again s l

-- they name nothing that the order allows
named_is_refused : (s : OrderStage) (l : BlockRole) → (named s l && is_some (next_stage s l)) ≡ false
unfolding lacks_association lists_unknown comes_again
named_is_refused Start Device = refl
named_is_refused Start l = refl
named_is_refused Due Device = refl
named_is_refused Due l = refl
named_is_refused Opening Device = refl
named_is_refused Opening l = refl
named_is_refused Before Device = refl
named_is_refused Before l = refl
named_is_refused Announced Device = refl
named_is_refused Announced l = refl
named_is_refused Headless Device = refl
named_is_refused Headless l = refl
named_is_refused Listing Device = refl
named_is_refused Listing l = refl
named_is_refused Quiet Device = refl
named_is_refused Quiet l = refl
named_is_refused Setting Device = refl
named_is_refused Setting l = refl
named_is_refused Formats Device = refl
named_is_refused Formats l = refl
named_is_refused Formatted Device = refl
named_is_refused Formatted l = refl
named_is_refused FirstEndpoint Device = refl
named_is_refused FirstEndpoint l = refl
named_is_refused FirstDone Device = refl
named_is_refused FirstDone l = refl
named_is_refused SecondEndpoint Device = refl
named_is_refused SecondEndpoint l = refl
named_is_refused Closing Device = refl
named_is_refused Closing l = refl
named_is_refused ForeignAfter Device = refl
named_is_refused ForeignAfter l = refl

-- the stages in which the input may not end
due_may_not_end : (s : OrderStage) → may_end s ≡ true → (is_due s ≡ false) × (is_headless s ≡ false)
due_may_not_end Start e = absurd (false≢true e)
due_may_not_end Due e = absurd (false≢true e)
due_may_not_end Headless e = absurd (false≢true e)
due_may_not_end s e = (refl, refl)

-- one block
pub record Passes (s : State) (place : ℕ) (b : block.Block) : Type 0 where
  pub value : has_wrong_value s.context b ≡ false
  pub end : ends_before (end_after s.end place b) (place + bytes_in b) ≡ false
  pub list : ends_before (list_end (listing_after s.listing place b)) (place + bytes_in b) ≡ false
  pub early : (not (is_listed (role_of b)) && ends_after (list_end s.listing) place) ≡ false
  pub allowed : is_none (next_stage s.stage (role_of b)) ≡ false
  pub turn : is_in_turn s.used s.latest b ≡ true

refused_parts : (r l u a : Bool) → (r && not (l || u || a)) ≡ false → l ≡ false → u ≡ false → a ≡ false → r ≡ false
refused_parts false l u a e el eu ea = refl
refused_parts true l u a e el eu ea = absurd (true≢false (sym (ap not (or_from (l || u) a (or_from l u el eu) ea)) ∙ e))

-- the table of a block, over plain tests
no_rule : (v t l e r la lu ag : Bool)
    → least ((4, v) ∷ (5, t || l || e) ∷ (6, r && not (la || lu || ag)) ∷ (7, la) ∷ (8, lu) ∷ (9, ag) ∷ []) ≡ None
    → (v ≡ false) × (t ≡ false) × (l ≡ false) × (e ≡ false) × (r ≡ false)
no_rule v t l e r la lu ag h =
    let (e4, t4) = least_none 4 v ((5, t || l || e) ∷ (6, r && not (la || lu || ag)) ∷ (7, la) ∷ (8, lu) ∷ (9, ag) ∷ []) h in
    let (e5, t5) = least_none 5 (t || l || e) ((6, r && not (la || lu || ag)) ∷ (7, la) ∷ (8, lu) ∷ (9, ag) ∷ []) t4 in
    let (e6, t6) = least_none 6 (r && not (la || lu || ag)) ((7, la) ∷ (8, lu) ∷ (9, ag) ∷ []) t5 in
    let (e7, t7) = least_none 7 la ((8, lu) ∷ (9, ag) ∷ []) t6 in
    let (e8, t8) = least_none 8 lu ((9, ag) ∷ []) t7 in
    let (e9, t9) = least_none 9 ag [] t8 in
    let (tl, early) = or_parts (t || l) e e5 in
    let (total, list) = or_parts t l tl in
    (e4, total, list, early, refused_parts r la lu ag e6 e7 e8 e9)

rule_none : (v t l e r la lu ag : Bool) → v ≡ false → t ≡ false → l ≡ false → e ≡ false → r ≡ false → la ≡ false → lu ≡ false → ag ≡ false
    → least ((4, v) ∷ (5, t || l || e) ∷ (6, r && not (la || lu || ag)) ∷ (7, la) ∷ (8, lu) ∷ (9, ag) ∷ []) ≡ None
rule_none v t l e r la lu ag ev et el ee er ela elu eag =
    none_least 4 v ((5, t || l || e) ∷ (6, r && not (la || lu || ag)) ∷ (7, la) ∷ (8, lu) ∷ (9, ag) ∷ []) ev
    (none_least 5 (t || l || e) ((6, r && not (la || lu || ag)) ∷ (7, la) ∷ (8, lu) ∷ (9, ag) ∷ []) (or_from (t || l) e (or_from t l et el) ee)
    (none_least 6 (r && not (la || lu || ag)) ((7, la) ∷ (8, lu) ∷ (9, ag) ∷ []) (and_left r (not (la || lu || ag)) er)
    (none_least 7 la ((8, lu) ∷ (9, ag) ∷ []) ela (none_least 8 lu ((9, ag) ∷ []) elu (none_least 9 ag [] eag refl)))))

pub broken_passes : (s : State) (place : ℕ) (b : block.Block) → rule_broken s place (bytes_in b) b ≡ None → Passes s place b
unfolding rule_broken passes_total passes_list ends_list_early is_out_of_order is_refused
broken_passes s place b e =
    let (e4, total, list, early, refused) =
    no_rule (has_wrong_value s.context b) (ends_before (end_after s.end place b) (place + bytes_in b))
    (ends_before (list_end (listing_after s.listing place b)) (place + bytes_in b))
    (not (is_listed (role_of b)) && ends_after (list_end s.listing) place)
    (is_refused s b) (lacks_association s.stage (role_of b)) (lists_unknown s.stage (role_of b)) (comes_again s.stage (role_of b)) e in
    let (allowed, turn) = or_parts (is_none (next_stage s.stage (role_of b))) (not (is_in_turn s.used s.latest b)) refused in
    record { value = e4; end = total; list = list; early = early; allowed = allowed; turn = not-false (is_in_turn s.used s.latest b) turn }

none_some : {T : Type 0} (o : Option T) → is_none o ≡ false → is_some o ≡ true
none_some None e = absurd (true≢false e)
none_some (Some x) e = refl

-- where the order allows the block, no other rule of the order names it
unnamed : (s : OrderStage) (l : BlockRole) → is_none (next_stage s l) ≡ false → named s l ≡ false
unnamed s l e =
    elim (and_cases (named s l) (is_some (next_stage s l)) (named_is_refused s l)) [
      | inl h ↦ h
      | inr h ↦ absurd (true≢false (sym (none_some (next_stage s l) e) ∙ h))
    ]

passes_broken : (s : State) (place : ℕ) (b : block.Block) → Passes s place b → rule_broken s place (bytes_in b) b ≡ None
unfolding rule_broken passes_total passes_list ends_list_early is_out_of_order is_refused
passes_broken s place b p =
    let (lacks_lists, again) =
    or_parts (lacks_association s.stage (role_of b) || lists_unknown s.stage (role_of b)) (comes_again s.stage (role_of b))
    (unnamed s.stage (role_of b) p.allowed) in
    let (lacks, lists) = or_parts (lacks_association s.stage (role_of b)) (lists_unknown s.stage (role_of b)) lacks_lists in
    rule_none (has_wrong_value s.context b) (ends_before (end_after s.end place b) (place + bytes_in b))
    (ends_before (list_end (listing_after s.listing place b)) (place + bytes_in b))
    (not (is_listed (role_of b)) && ends_after (list_end s.listing) place)
    (is_refused s b) (lacks_association s.stage (role_of b)) (lists_unknown s.stage (role_of b)) (comes_again s.stage (role_of b))
    p.value p.end p.list p.early
    (or_from (is_none (next_stage s.stage (role_of b))) (not (is_in_turn s.used s.latest b)) p.allowed (not_from_true (is_in_turn s.used s.latest b) p.turn))
    lacks lists again

-- the end of the input
pub record Ends (s : State) (place : ℕ) : Type 0 where
  pub end : ends_after s.end place ≡ false
  pub list : ends_after (list_end s.listing) place ≡ false
  pub may : may_end s.stage ≡ true

end_ends : (s : State) (place : ℕ) → rule_at_end s place ≡ None → Ends s place
unfolding rule_at_end
end_ends s place e =
    let end : Bool = ends_after s.end place || ends_after (list_end s.listing) place in
    let (e1, t1) = least_none 1 (is_due s.stage) ((5, end) ∷ (6, is_headless s.stage) ∷ (7, not (may_end s.stage)) ∷ []) e in
    let (e5, t5) = least_none 5 end ((6, is_headless s.stage) ∷ (7, not (may_end s.stage)) ∷ []) t1 in
    let (e6, t6) = least_none 6 (is_headless s.stage) ((7, not (may_end s.stage)) ∷ []) t5 in
    let (e7, t7) = least_none 7 (not (may_end s.stage)) [] t6 in
    let (whole, list) = or_parts (ends_after s.end place) (ends_after (list_end s.listing) place) e5 in
    record { end = whole; list = list; may = not-false (may_end s.stage) e7 }

ends_end : (s : State) (place : ℕ) → Ends s place → rule_at_end s place ≡ None
unfolding rule_at_end
ends_end s place p =
    let (due, headless) = due_may_not_end s.stage p.may in
    let end : Bool = ends_after s.end place || ends_after (list_end s.listing) place in
    none_least 1 (is_due s.stage) ((5, end) ∷ (6, is_headless s.stage) ∷ (7, not (may_end s.stage)) ∷ []) due
    (none_least 5 end ((6, is_headless s.stage) ∷ (7, not (may_end s.stage)) ∷ [])
    (or_from (ends_after s.end place) (ends_after (list_end s.listing) place) p.end p.list)
    (none_least 6 (is_headless s.stage) ((7, not (may_end s.stage)) ∷ []) headless
    (none_least 7 (not (may_end s.stage)) [] (not_from_true (may_end s.stage) p.may) refl)))

-- the step that the order allows
pub step_there : {T : Type 0} (o : Option T) → is_none o ≡ false → (t : T) × (o ≡ Some t)
step_there None e = absurd (true≢false e)
step_there (Some t) e = (t, refl)

-- the state after a block has each part's own next value
parts_following : (s : State) (place : ℕ) (b : block.Block) (blocks : List block.Block)
    → Passes s place b → Parts (state_after s place b) (place + bytes_in b) blocks → Parts s place (b ∷ blocks)
unfolding state_after
parts_following s place b blocks p parts =
    let (t, e) = step_there (next_stage s.stage (role_of b)) p.allowed in
    record {
      values = (p.value, parts.values);
      end = (p.end, parts.end);
      list = (p.list, p.early, parts.list);
      goes = (t, e, subst (λ o. Goes role_of (stage_after o s.stage) blocks) e parts.goes);
      turn = (p.turn, parts.turn);
    }

pub clear_parts : (s : State) (place : ℕ) (blocks : List block.Block) → Clear s place blocks → Parts s place blocks
clear_parts s place [] e =
    let h = end_ends s place e in record { values = tt; end = h.end; list = h.list; goes = h.may; turn = tt }
clear_parts s place (b ∷ blocks) (e, clear) =
    parts_following s place b blocks (broken_passes s place b e) (clear_parts (state_after s place b) (place + bytes_in b) blocks clear)

parts_ahead : (s : State) (place : ℕ) (b : block.Block) (blocks : List block.Block)
    → Parts s place (b ∷ blocks) → Passes s place b × Parts (state_after s place b) (place + bytes_in b) blocks
unfolding state_after
parts_ahead s place b blocks parts =
    let (t, e, goes) = parts.goes in (
      record {
        value = parts.values.0;
        end = parts.end.0;
        list = parts.list.0;
        early = parts.list.1;
        allowed = ap is_none e;
        turn = parts.turn.0;
      },
      record {
        values = parts.values.1;
        end = parts.end.1;
        list = parts.list.2;
        goes = subst (λ o. Goes role_of (stage_after o s.stage) blocks) (sym e) goes;
        turn = parts.turn.1;
      },
    )

pub parts_clear : (s : State) (place : ℕ) (blocks : List block.Block) → Parts s place blocks → Clear s place blocks
parts_clear s place [] p = ends_end s place (record { end = p.end; list = p.list; may = p.goes })
parts_clear s place (b ∷ blocks) p =
    let (passes, rest) = parts_ahead s place b blocks p in
    (passes_broken s place b passes, parts_clear (state_after s place b) (place + bytes_in b) blocks rest)
