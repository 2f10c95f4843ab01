-- The two totals, as the blocks say them, are what the ends in the state say.
use Rattle.std.proofs.Common.{◌≡◌, ℕ, ◌+◌, ◌<◌, Bool, true, false, List, [], ◌∷◌, ◌++◌, length, Option, Some, None, IsTrue, refl, sym, ap, ◌∙◌, subst, inl, inr, arith, ltb-true, lt-ltb, append-nil}
use Rattle.std.specs.List.{AllByRecursion}
use Rattle.std.proofs.lemmas.Bool.{cases_Bool, cond-true, cond-false, true≢false}
use Rattle.uac_descriptor.specs.declared.block.Block as block
use Rattle.uac_descriptor.specs.declared.block.Block.TheVariants as variant
use Rattle.uac_descriptor.specs.Spelling.{spelling}
use Rattle.uac_grammar_rules.specs.declared.states.Listing.{Listing}
use Rattle.uac_grammar_rules.specs.declared.states.Listing.TheVariants as listing
use Rattle.uac_grammar_rules.specs.declared.states.State.{State}
use Rattle.uac_grammar_rules.specs.BlockRole.{role_of, is_listed}
use Rattle.uac_grammar_rules.specs.Grammar.{start, state_after, end_after, ends_before, ends_after, listing_after, list_end}
use Rattle.uac_grammar_rules.specs.Sentence.{size}
use Rattle.uac_grammar_rules.specs.Progress.{state_following, HasRead}
use Rattle.uac_grammar_rules.specs.FirstFault.{ConfigurationTotal, HeaderTotal, IsPast, IsShort}
use Rattle.uac_grammar_rules.proofs.GrammarLemmas.{bytes_in}
use Rattle.uac_grammar_rules.proofs.SentenceTotalLemmas.{size-cons}

-- ---- each end, by a fold of its own

abbrev pub end_along : Option ℕ → ℕ → List block.Block → Option ℕ
end_along end place [] = end
end_along end place (b ∷ blocks) = end_along (end_after end place b) (place + bytes_in b) blocks

abbrev pub listing_along : Listing → ℕ → List block.Block → Listing
listing_along list place [] = list
listing_along list place (b ∷ blocks) = listing_along (listing_after list place b) (place + bytes_in b) blocks

end_of_state : (s : State) (place : ℕ) (blocks : List block.Block) → (state_following s place blocks).end ≡ end_along s.end place blocks
unfolding state_after
end_of_state s place [] = refl
end_of_state s place (b ∷ blocks) = end_of_state (state_after s place b) (place + bytes_in b) blocks

listing_of_state : (s : State) (place : ℕ) (blocks : List block.Block) → (state_following s place blocks).listing ≡ listing_along s.listing place blocks
unfolding state_after
listing_of_state s place [] = refl
listing_of_state s place (b ∷ blocks) = listing_of_state (state_after s place b) (place + bytes_in b) blocks

further : (place : ℕ) (b : block.Block) (blocks : List block.Block) → place + size (b ∷ blocks) ≡ place + bytes_in b + size blocks
further place b blocks = omega (arith, size-cons b blocks)

end_more : (end : Option ℕ) (place : ℕ) (blocks : List block.Block) (b : block.Block)
    → end_along end place (blocks ++ b ∷ []) ≡ end_after (end_along end place blocks) (place + size blocks) b
end_more end place [] b = ap (λ n. end_after end n b) (let e : place ≡ place + 0 = omega arith in e)
end_more end place (a ∷ blocks) b =
    end_more (end_after end place a) (place + bytes_in a) blocks b
    ∙ ap (λ n. end_after (end_along (end_after end place a) (place + bytes_in a) blocks) n b) (sym (further place a blocks))

listing_more : (list : Listing) (place : ℕ) (blocks : List block.Block) (b : block.Block)
    → listing_along list place (blocks ++ b ∷ []) ≡ listing_after (listing_along list place blocks) (place + size blocks) b
listing_more list place [] b = ap (λ n. listing_after list n b) (let e : place ≡ place + 0 = omega arith in e)
listing_more list place (a ∷ blocks) b =
    listing_more (listing_after list place a) (place + bytes_in a) blocks b
    ∙ ap (λ n. listing_after (listing_along (listing_after list place a) (place + bytes_in a) blocks) n b) (sym (further place a blocks))

end_stays : (end place : ℕ) (blocks : List block.Block) → end_along (Some end) place blocks ≡ Some end
end_stays end place [] = refl
end_stays end place (b ∷ blocks) = end_stays end (place + bytes_in b) blocks

stays_closed : (place : ℕ) (blocks : List block.Block) → listing_along listing.Closed place blocks ≡ listing.Closed
stays_closed place [] = refl
stays_closed place (b ∷ blocks) = stays_closed (place + bytes_in b) blocks

-- ---- a test of an end, and what it says of a number of bytes and a total

module _ (test : Option ℕ → ℕ → Bool) (IsSo : ℕ → ℕ → Type 0)
    (none : (n : ℕ) → test None n ≡ false)
    (to : (place n total : ℕ) → test (Some (place + total)) (place + n) ≡ true → IsSo n total)
    (from : (place n total : ℕ) → IsSo n total → test (Some (place + total)) (place + n) ≡ true) where
  total_to : (place : ℕ) (blocks : List block.Block) → test (end_along None place blocks) (place + size blocks) ≡ true → ConfigurationTotal IsSo blocks
  total_to place [] h = absurd (true≢false (sym h ∙ none (place + 0)))
  total_to place (variant.Configuration c ∷ blocks) h =
      let b : block.Block = variant.Configuration c in
      to place (size (b ∷ blocks)) c.total
      (sym (ap (λ o. test o (place + size (b ∷ blocks))) (end_stays (place + c.total) (place + bytes_in b) blocks)) ∙ h)
  total_to place (b ∷ blocks) h =
      total_to (place + bytes_in b) blocks (subst (λ n. test (end_along None (place + bytes_in b) blocks) n ≡ true) (further place b blocks) h)

  total_from : (place : ℕ) (blocks : List block.Block) → ConfigurationTotal IsSo blocks → test (end_along None place blocks) (place + size blocks) ≡ true
  total_from place [] h = absurd h
  total_from place (variant.Configuration c ∷ blocks) h =
      let b : block.Block = variant.Configuration c in
      ap (λ o. test o (place + size (b ∷ blocks))) (end_stays (place + c.total) (place + bytes_in b) blocks)
      ∙ from place (size (b ∷ blocks)) c.total h
  total_from place (b ∷ blocks) h =
      subst (λ n. test (end_along None (place + bytes_in b) blocks) n ≡ true) (sym (further place b blocks)) (total_from (place + bytes_in b) blocks h)

  open_to : (end place n : ℕ) (blocks : List block.Block) → test (list_end (listing_along (listing.Open end) place blocks)) n ≡ true
      → AllByRecursion (λ b. IsTrue (is_listed (role_of b))) blocks × (test (Some end) n ≡ true)
  open_to end place n [] h = (tt, h)
  open_to end place n (b ∷ blocks) h =
      elim (cases_Bool (is_listed (role_of b))) [
        | inl listed ↦ (let (all, e) =
            open_to end (place + bytes_in b) n blocks
            (subst (λ l. test (list_end (listing_along l (place + bytes_in b) blocks)) n ≡ true)
            (cond-true (is_listed (role_of b)) (listing.Open end) listing.Closed listed) h) in ((listed, all), e))
        | inr other ↦ absurd (true≢false
            (sym (subst (λ l. test (list_end (listing_along l (place + bytes_in b) blocks)) n ≡ true)
            (cond-false (is_listed (role_of b)) (listing.Open end) listing.Closed other) h)
            ∙ ap (λ l. test (list_end l) n) (stays_closed (place + bytes_in b) blocks) ∙ none n))
      ]

  open_from : (end place n : ℕ) (blocks : List block.Block) → AllByRecursion (λ b. IsTrue (is_listed (role_of b))) blocks
      → test (Some end) n ≡ true → test (list_end (listing_along (listing.Open end) place blocks)) n ≡ true
  open_from end place n [] all h = h
  open_from end place n (b ∷ blocks) (listed, all) h =
      ap (λ l. test (list_end (listing_along l (place + bytes_in b) blocks)) n) (cond-true (is_listed (role_of b)) (listing.Open end) listing.Closed listed)
      ∙ open_from end (place + bytes_in b) n blocks all h

  list_to : (place : ℕ) (blocks : List block.Block) → test (list_end (listing_along listing.Awaited place blocks)) (place + size blocks) ≡ true
      → HeaderTotal IsSo blocks
  list_to place [] h = absurd (true≢false (sym h ∙ none (place + 0)))
  list_to place (variant.Header x ∷ blocks) h =
      let b : block.Block = variant.Header x in
      let (all, e) = open_to (place + x.total) (place + bytes_in b) (place + size (b ∷ blocks)) blocks h in
      (all, to place (size (b ∷ blocks)) x.total e)
  list_to place (b ∷ blocks) h =
      list_to (place + bytes_in b) blocks
      (subst (λ n. test (list_end (listing_along listing.Awaited (place + bytes_in b) blocks)) n ≡ true) (further place b blocks) h)

  list_from : (place : ℕ) (blocks : List block.Block) → HeaderTotal IsSo blocks
      → test (list_end (listing_along listing.Awaited place blocks)) (place + size blocks) ≡ true
  list_from place [] h = absurd h
  list_from place (variant.Header x ∷ blocks) (all, h) =
      let b : block.Block = variant.Header x in
      open_from (place + x.total) (place + bytes_in b) (place + size (b ∷ blocks)) blocks all (from place (size (b ∷ blocks)) x.total h)
  list_from place (b ∷ blocks) h =
      subst (λ n. test (list_end (listing_along listing.Awaited (place + bytes_in b) blocks)) n ≡ true) (sym (further place b blocks))
      (list_from (place + bytes_in b) blocks h)

  -- the same of an end and a place that are those of the blocks
  pub total_so : (blocks : List block.Block) (end : Option ℕ) (n : ℕ) → end ≡ end_along None 0 blocks → n ≡ size blocks
      → test end n ≡ true → ConfigurationTotal IsSo blocks
  total_so blocks end n e same h =
      total_to 0 blocks (ap (λ o. test o (0 + size blocks)) (sym e) ∙ ap (test end) (let at : 0 + size blocks ≡ n = omega (arith, same) in at) ∙ h)

  pub so_total : (blocks : List block.Block) (end : Option ℕ) (n : ℕ) → end ≡ end_along None 0 blocks → n ≡ size blocks
      → ConfigurationTotal IsSo blocks → test end n ≡ true
  so_total blocks end n e same h =
      ap (test end) (let at : n ≡ 0 + size blocks = omega (arith, same) in at) ∙ ap (λ o. test o (0 + size blocks)) e ∙ total_from 0 blocks h

  pub list_so : (blocks : List block.Block) (list : Listing) (n : ℕ) → list ≡ listing_along listing.Awaited 0 blocks → n ≡ size blocks
      → test (list_end list) n ≡ true → HeaderTotal IsSo blocks
  list_so blocks list n e same h =
      list_to 0 blocks (ap (λ l. test (list_end l) (0 + size blocks)) (sym e) ∙ ap (test (list_end list)) (let at : 0 + size blocks ≡ n = omega (arith, same) in at) ∙ h)

  pub so_list : (blocks : List block.Block) (list : Listing) (n : ℕ) → list ≡ listing_along listing.Awaited 0 blocks → n ≡ size blocks
      → HeaderTotal IsSo blocks → test (list_end list) n ≡ true
  so_list blocks list n e same h =
      ap (test (list_end list)) (let at : n ≡ 0 + size blocks = omega (arith, same) in at) ∙ ap (λ l. test (list_end l) (0 + size blocks)) e ∙ list_from 0 blocks h

-- ---- the two tests

none_before : (n : ℕ) → ends_before None n ≡ false
none_before n = refl

none_ends_after : (n : ℕ) → ends_after None n ≡ false
none_ends_after n = refl

past_to : (place n total : ℕ) → ends_before (Some (place + total)) (place + n) ≡ true → IsPast n total
past_to place n total h = (let e : place + total < place + n = ltb-true (place + total) (place + n) h in omega (arith, e))

past_from : (place n total : ℕ) → IsPast n total → ends_before (Some (place + total)) (place + n) ≡ true
past_from place n total h = lt-ltb (place + total) (place + n) (omega (arith, h))

short_to : (place n total : ℕ) → ends_after (Some (place + total)) (place + n) ≡ true → IsShort n total
short_to place n total h = (let e : place + n < place + total = ltb-true (place + n) (place + total) h in omega (arith, e))

short_from : (place n total : ℕ) → IsShort n total → ends_after (Some (place + total)) (place + n) ≡ true
short_from place n total h = lt-ltb (place + n) (place + total) (omega (arith, h))

-- ---- after blocks that were read

module _ (blocks : List block.Block) (s : State) (place : ℕ) (read : HasRead blocks s place) where
  end_now : s.end ≡ end_along None 0 blocks
  unfolding start
  end_now = ap (λ (u : State). u.end) read.state_is ∙ end_of_state start 0 blocks

  list_now : s.listing ≡ listing_along listing.Awaited 0 blocks
  unfolding start
  list_now = ap (λ (u : State). u.listing) read.state_is ∙ listing_of_state start 0 blocks

  pub short_total : ends_after s.end place ≡ true → ConfigurationTotal IsShort blocks
  short_total h = total_so ends_after IsShort none_ends_after short_to short_from blocks s.end place end_now read.place_is h

  pub total_short : ConfigurationTotal IsShort blocks → ends_after s.end place ≡ true
  total_short h = so_total ends_after IsShort none_ends_after short_to short_from blocks s.end place end_now read.place_is h

  pub short_list : ends_after (list_end s.listing) place ≡ true → HeaderTotal IsShort blocks
  short_list h = list_so ends_after IsShort none_ends_after short_to short_from blocks s.listing place list_now read.place_is h

  pub list_short : HeaderTotal IsShort blocks → ends_after (list_end s.listing) place ≡ true
  list_short h = so_list ends_after IsShort none_ends_after short_to short_from blocks s.listing place list_now read.place_is h

  module _ (b : block.Block) where
    size_next : place + bytes_in b ≡ size (blocks ++ b ∷ [])
    size_next = omega (arith, read.place_is, size_push blocks b)
      where
        size_push : (blocks : List block.Block) (b : block.Block) → size (blocks ++ b ∷ []) ≡ size blocks + bytes_in b
        size_push [] b = ap length (append-nil (spelling b)) ∙ (let e : bytes_in b ≡ 0 + bytes_in b = omega arith in e)
        size_push (a ∷ blocks) b = (let e = size_push blocks b in omega (arith, e, size-cons a (blocks ++ b ∷ []), size-cons a blocks))

    end_next : end_after s.end place b ≡ end_along None 0 (blocks ++ b ∷ [])
    end_next =
        ap (λ o. end_after o place b) end_now
        ∙ ap (λ n. end_after (end_along None 0 blocks) n b) (let at : place ≡ 0 + size blocks = omega (arith, read.place_is) in at)
        ∙ sym (end_more None 0 blocks b)

    list_next : listing_after s.listing place b ≡ listing_along listing.Awaited 0 (blocks ++ b ∷ [])
    list_next =
        ap (λ l. listing_after l place b) list_now
        ∙ ap (λ n. listing_after (listing_along listing.Awaited 0 blocks) n b) (let at : place ≡ 0 + size blocks = omega (arith, read.place_is) in at)
        ∙ sym (listing_more listing.Awaited 0 blocks b)

    pub past_total : ends_before (end_after s.end place b) (place + bytes_in b) ≡ true → ConfigurationTotal IsPast (blocks ++ b ∷ [])
    past_total h =
        total_so ends_before IsPast none_before past_to past_from (blocks ++ b ∷ []) (end_after s.end place b) (place + bytes_in b) end_next size_next h

    pub total_past : ConfigurationTotal IsPast (blocks ++ b ∷ []) → ends_before (end_after s.end place b) (place + bytes_in b) ≡ true
    total_past h =
        so_total ends_before IsPast none_before past_to past_from (blocks ++ b ∷ []) (end_after s.end place b) (place + bytes_in b) end_next size_next h

    pub past_list : ends_before (list_end (listing_after s.listing place b)) (place + bytes_in b) ≡ true → HeaderTotal IsPast (blocks ++ b ∷ [])
    past_list h =
        list_so ends_before IsPast none_before past_to past_from (blocks ++ b ∷ []) (listing_after s.listing place b) (place + bytes_in b) list_next size_next h

    pub list_past : HeaderTotal IsPast (blocks ++ b ∷ []) → ends_before (list_end (listing_after s.listing place b)) (place + bytes_in b) ≡ true
    list_past h =
        so_list ends_before IsPast none_before past_to past_from (blocks ++ b ∷ []) (listing_after s.listing place b) (place + bytes_in b) list_next size_next h
