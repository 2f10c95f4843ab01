-- The machine takes a block after others exactly where some blocks after it make what the order and the turn allow.
use Rattle.std.proofs.Common.{◌≡◌, ℕ, ◌+◌, Bool, true, false, ◌⊎◌, not, List, [], ◌∷◌, ◌++◌, IsTrue, map, filter_map, Option, Some, None, is_none, refl, sym, ap, ◌∙◌, subst, append_assoc}
use Rattle.std.proofs.lemmas.List.{map-append}
use Rattle.std.proofs.lemmas.Bool.{false≢true, or_parts, or_from, not-false, not_from_true}
use Rattle.uac_descriptor.specs.declared.standard.Interface as interface
use Rattle.uac_descriptor.specs.declared.block.Block as block
use Rattle.uac_descriptor.specs.declared.block.Block.TheVariants as variant
use Rattle.uac_descriptor.specs.Classes.{is_audio_association, is_control_interface, is_streaming_interface}
use Rattle.uac_descriptor.specs.BlockParsing.{AreBytes}
use Rattle.uac_grammar_rules.specs.declared.roles.BlockRole.{BlockRole}
use Rattle.uac_grammar_rules.specs.declared.stages.OrderStage.{OrderStage}
use Rattle.uac_grammar_rules.specs.declared.stages.OrderStage.TheVariants.{Start, Due, Opening, Before, Announced, Headless, Listing}
use Rattle.uac_grammar_rules.specs.declared.states.State.{State}
use Rattle.uac_grammar_rules.specs.BlockRole.{role_of, interface_role}
use Rattle.uac_grammar_rules.specs.OrderStages.{next_stage}
use Rattle.uac_grammar_rules.specs.Grammar.{start, state_after, is_in_turn, is_refused}
use Rattle.uac_grammar_rules.specs.Sentence.{spellings, interface_of, Begins, Continues, InTurn}
use Rattle.uac_grammar_rules.specs.Progress.{state_following, BreakNone, HasRead}
use Rattle.uac_grammar_rules.specs.FirstFault.{MayBegin}
use Rattle.uac_grammar_rules.proofs.OrderStagesLemmas.{Goes, goes_allows, allows_goes}
use Rattle.uac_grammar_rules.proofs.GrammarLemmas.{bytes_in, broken_passes, step_there, TurnRun}
use Rattle.uac_grammar_rules.proofs.SentenceTurnLemmas.{HasSmallNumbers, IsUsed, latest_of, flags_after, turn_of, of_turn, at_start, in_turn}
use Rattle.uac_grammar_rules.proofs.SentenceLemmas.{small_numbers}
use Rattle.uac_grammar_rules.proofs.EarlierLemmas.{lead, lead-push, lead_none, read_stage}

-- ---- the order

-- what goes on after items goes on from the stage to which they lead, and the other way round
module _ {A : Type 0} (f : A → BlockRole) where
  pub goes_on : (s t : OrderStage) (xs ys : List A) → lead (Some s) (map f xs) ≡ Some t → Goes f t ys → Goes f s (xs ++ ys)
  goes_on s t [] ys e h = (let same : s ≡ t = cc in subst (λ u. Goes f u ys) (sym same) h)
  goes_on s t (x ∷ xs) ys e h = next (next_stage s (f x)) refl e (λ u led. goes_on u t xs ys led h)
    where
      next : (o : Option OrderStage) → next_stage s (f x) ≡ o → lead o (map f xs) ≡ Some t
          → ((u : OrderStage) → lead (Some u) (map f xs) ≡ Some t → Goes f u (xs ++ ys)) → (u : OrderStage) × (next_stage s (f x) ≡ Some u) × Goes f u (xs ++ ys)
      next None is e go = (let none : None ≡ Some t = sym (lead_none (map f xs)) ∙ e in cc)
      next (Some u) is e go = (u, is, go u e)

  pub goes_from : (s : OrderStage) (xs ys : List A) → Goes f s (xs ++ ys) → (t : OrderStage) × (lead (Some s) (map f xs) ≡ Some t)
  goes_from s [] ys h = (s, refl)
  goes_from s (x ∷ xs) ys (u, is, h) = (let (t, e) = goes_from u xs ys h in (t, ap (λ o. lead o (map f xs)) is ∙ e))

-- ---- blocks that end what is open

abbrev configuration : block.Block
configuration = variant.Configuration (record { total = 0; interfaces = 0; value = 0; name = 0; attributes = 0; power = 0 })

abbrev association : block.Block
association = variant.Association (record { first = 0; count = 0; «class» = 1; subclass = 0; protocol = 32; name = 0 })

abbrev the_control : interface.Interface
the_control = record { number = 0; setting = 0; endpoints = 0; «class» = 1; subclass = 1; protocol = 32; name = 0 }

abbrev header : block.Block
header = variant.Header (record { version = 0; category = 0; total = 0; controls = 0 })

abbrev pub ending : OrderStage → List block.Block
ending Start = configuration ∷ association ∷ variant.Interface the_control ∷ header ∷ []
ending Due = configuration ∷ association ∷ variant.Interface the_control ∷ header ∷ []
ending Opening = association ∷ variant.Interface the_control ∷ header ∷ []
ending Before = association ∷ variant.Interface the_control ∷ header ∷ []
ending Announced = variant.Interface the_control ∷ header ∷ []
ending Headless = header ∷ []
ending _ = []

-- no stage is a dead end
pub ending_goes : (s : OrderStage) → Goes role_of s (ending s)
unfolding interface_role is_audio_association is_control_interface
ending_goes Start = (Opening, refl, (Announced, refl, (Headless, refl, (Listing, refl, refl))))
ending_goes Due = (Opening, refl, (Announced, refl, (Headless, refl, (Listing, refl, refl))))
ending_goes Opening = (Announced, refl, (Headless, refl, (Listing, refl, refl)))
ending_goes Before = (Announced, refl, (Headless, refl, (Listing, refl, refl)))
ending_goes Announced = (Headless, refl, (Listing, refl, refl))
ending_goes Headless = (Listing, refl, refl)
ending_goes s = refl

no_stream : {X : Type 0} → is_streaming_interface the_control ≡ true → X
unfolding is_streaming_interface
no_stream h = absurd (false≢true h)

-- nor does it begin a stream
pub ending_in_turn : (earlier : List interface.Interface) (s : OrderStage) → InTurn earlier (filter_map interface_of (ending s))
ending_in_turn earlier Start = (no_stream, tt)
ending_in_turn earlier Due = (no_stream, tt)
ending_in_turn earlier Opening = (no_stream, tt)
ending_in_turn earlier Before = (no_stream, tt)
ending_in_turn earlier Announced = (no_stream, tt)
ending_in_turn earlier Headless = tt
ending_in_turn earlier s = tt

-- ---- the turn

-- the flags and the latest setting are those of the interfaces before
record IsFollowing (s : State) (earlier : List interface.Interface) : Type 0 where
  used : IsUsed s.used earlier
  latest : s.latest ≡ latest_of earlier

-- the interfaces after blocks, the latest first
abbrev earlier_following : List interface.Interface → List block.Block → List interface.Interface
earlier_following earlier [] = earlier
earlier_following earlier (variant.Interface i ∷ blocks) = earlier_following (i ∷ earlier) blocks
earlier_following earlier (_ ∷ blocks) = earlier_following earlier blocks

after_along : (s : State) (place : ℕ) (blocks : List block.Block) (earlier : List interface.Interface) → HasSmallNumbers blocks
    → IsFollowing s earlier → IsFollowing (state_following s place blocks) (earlier_following earlier blocks)
unfolding state_after latest_of
after_along s place [] earlier small is = is
after_along s place (variant.Interface i ∷ blocks) earlier (small, rest) is =
    after_along (state_after s place (variant.Interface i)) (place + bytes_in (variant.Interface i)) blocks (i ∷ earlier) rest
    (record { used = flags_after s.used i earlier small is.used; latest = refl })
after_along s place (b ∷ blocks) earlier small is =
    after_along (state_after s place b) (place + bytes_in b) blocks earlier small (record { used = is.used; latest = is.latest })

-- what is in turn, in two parts
in_turn_following : (earlier : List interface.Interface) (xs ys : List block.Block) → InTurn earlier (filter_map interface_of (xs ++ ys))
    → InTurn (earlier_following earlier xs) (filter_map interface_of ys)
in_turn_following earlier [] ys h = h
in_turn_following earlier (variant.Interface i ∷ xs) ys (turn, h) = in_turn_following (i ∷ earlier) xs ys h
in_turn_following earlier (x ∷ xs) ys h = in_turn_following earlier xs ys h

in_turn_both : (earlier : List interface.Interface) (xs ys : List block.Block) → InTurn earlier (filter_map interface_of xs)
    → InTurn (earlier_following earlier xs) (filter_map interface_of ys) → InTurn earlier (filter_map interface_of (xs ++ ys))
in_turn_both earlier [] ys h g = g
in_turn_both earlier (variant.Interface i ∷ xs) ys (turn, h) g = (turn, in_turn_both (i ∷ earlier) xs ys h g)
in_turn_both earlier (x ∷ xs) ys h g = in_turn_both earlier xs ys h g

-- a streaming interface begins or continues, after these interfaces
abbrev IsInTurn : List interface.Interface → block.Block → Type 0
IsInTurn earlier (variant.Interface i) = IsTrue (is_streaming_interface i) → Begins earlier i ⊎ Continues earlier i
IsInTurn earlier _ = Unit {0}

turn_first : (earlier : List interface.Interface) (b : block.Block) (blocks : List block.Block)
    → InTurn earlier (filter_map interface_of (b ∷ blocks)) → IsInTurn earlier b
turn_first earlier (variant.Interface i) blocks (turn, h) = turn
turn_first earlier b blocks h = tt

first_turn : (earlier : List interface.Interface) (b : block.Block) (blocks : List block.Block) → IsInTurn earlier b
    → InTurn (earlier_following earlier (b ∷ [])) (filter_map interface_of blocks) → InTurn earlier (filter_map interface_of (b ∷ blocks))
first_turn earlier (variant.Interface i) blocks turn h = (turn, h)
first_turn earlier b blocks turn h = h

small_front : (blocks : List block.Block) (b : block.Block) → HasSmallNumbers (blocks ++ b ∷ []) → HasSmallNumbers blocks × HasSmallNumbers (b ∷ [])
small_front [] b small = (tt, small)
small_front (variant.Interface i ∷ blocks) b (small, rest) = (let (front, last) = small_front blocks b rest in ((small, front), last))
small_front (a ∷ blocks) b small = small_front blocks b small

turn_is : (used : List Bool) (earlier : List interface.Interface) (b : block.Block) → HasSmallNumbers (b ∷ []) → IsUsed used earlier
    → is_in_turn used (latest_of earlier) b ≡ true → IsInTurn earlier b
turn_is used earlier (variant.Interface i) (small, rest) is h = turn_of used earlier i small is h
turn_is used earlier b small is h = tt

is_turn : (used : List Bool) (earlier : List interface.Interface) (b : block.Block) → HasSmallNumbers (b ∷ []) → IsUsed used earlier
    → IsInTurn earlier b → is_in_turn used (latest_of earlier) b ≡ true
unfolding is_in_turn
is_turn used earlier (variant.Interface i) (small, rest) is h = of_turn used earlier i small is h
is_turn used earlier b small is h = refl

-- along blocks that break no rule each is in turn
turns_along : (s : State) (place : ℕ) (blocks : List block.Block) → BreakNone s place blocks → TurnRun s.used s.latest blocks
unfolding state_after
turns_along s place [] unbroken = tt
turns_along s place (b ∷ blocks) (here, unbroken) =
    ((broken_passes s place b here).turn, turns_along (state_after s place b) (place + bytes_in b) blocks unbroken)

-- ---- what the sentence allows after blocks that were read

module _ (blocks : List block.Block) (s : State) (place : ℕ) (b : block.Block) (read : HasRead blocks s place) (are : AreBytes (spellings (blocks ++ b ∷ []))) where
  numbers : HasSmallNumbers blocks × HasSmallNumbers (b ∷ [])
  numbers = small_front blocks b (small_numbers (blocks ++ b ∷ []) are)

  is_following : IsFollowing s (earlier_following [] blocks)
  unfolding start latest_of
  is_following =
      subst (λ u. IsFollowing u (earlier_following [] blocks)) (sym read.state_is)
      (after_along start 0 blocks [] numbers.0 (record { used = at_start; latest = refl }))

  lead_more : lead (Some Start) (map role_of (blocks ++ b ∷ [])) ≡ next_stage s.stage (role_of b)
  lead_more =
      ap (lead (Some Start)) (map-append role_of blocks (b ∷ []))
      ∙ lead-push (Some Start) (map role_of blocks) s.stage (role_of b) (read_stage blocks s place read)

  pub taken_may_begin : is_refused s b ≡ false → MayBegin (blocks ++ b ∷ [])
  unfolding is_refused start
  taken_may_begin h =
      let (order, turn) = or_parts (is_none (next_stage s.stage (role_of b))) (not (is_in_turn s.used s.latest b)) h in
      let (t, e) = step_there (next_stage s.stage (role_of b)) order in
      let this : IsInTurn (earlier_following [] blocks) b =
      turn_is s.used (earlier_following [] blocks) b numbers.1 is_following.used
      (subst (λ l. is_in_turn s.used l b ≡ true) is_following.latest (not-false (is_in_turn s.used s.latest b) turn)) in
      record {
        more = ending t;
        order = goes_allows role_of Start ((blocks ++ b ∷ []) ++ ending t) (goes_on role_of Start t (blocks ++ b ∷ []) (ending t) (lead_more ∙ e) (ending_goes t));
        in_turn =
            subst (λ xs. InTurn [] (filter_map interface_of xs)) (sym (append_assoc blocks (b ∷ []) (ending t)))
            (in_turn_both [] blocks (b ∷ ending t) (in_turn blocks numbers.0 (turns_along start 0 blocks read.unbroken))
            (first_turn (earlier_following [] blocks) b (ending t) this (ending_in_turn (earlier_following (earlier_following [] blocks) (b ∷ [])) t)));
      }

  pub may_begin_taken : MayBegin (blocks ++ b ∷ []) → is_refused s b ≡ false
  unfolding is_refused
  may_begin_taken begins =
      let (t, led) = goes_from role_of Start (blocks ++ b ∷ []) begins.more (allows_goes role_of Start ((blocks ++ b ∷ []) ++ begins.more) begins.order) in
      let turn : IsInTurn (earlier_following [] blocks) b =
      turn_first (earlier_following [] blocks) b begins.more
      (in_turn_following [] blocks (b ∷ begins.more)
      (subst (λ xs. InTurn [] (filter_map interface_of xs)) (append_assoc blocks (b ∷ []) begins.more) begins.in_turn)) in
      or_from (is_none (next_stage s.stage (role_of b))) (not (is_in_turn s.used s.latest b))
      (ap is_none (sym lead_more ∙ led))
      (not_from_true (is_in_turn s.used s.latest b)
      (subst (λ l. is_in_turn s.used l b ≡ true) (sym is_following.latest) (is_turn s.used (earlier_following [] blocks) b numbers.1 is_following.used turn)))
