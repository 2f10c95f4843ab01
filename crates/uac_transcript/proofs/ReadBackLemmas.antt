-- What a text of printed lines tells, cut at its newlines.
use Rattle.std.proofs.Common.{◌≡◌, sym, subst, ℕ, List, ◌++◌, codes, decimal, Option}
use Rattle.std.specs.List.{All, Contains}
use Rattle.uac_transcript.specs.Printing.{text_of}
use Rattle.uac_transcript.specs.Spellings.{HasPlainName, IsCutAtNewlines, IsReadBack}
use Rattle.uac_transcript.specs.Transcript.{Said, number_or_dash, says_level, says_over, says_under}
use Rattle.uac_transcript.proofs.CutTextsLemmas.{AreSpelt-from_cut, cut_from_AreSpelt, line_printed, printed_line}
use Rattle.uac_transcript.proofs.KindsLemmas.{level_read, level_spelt, over_read, over_spelt, under_read, under_spelt}

module _ (saids : List Said) (lines : List (List ℕ)) (rest : List ℕ) (plain : All HasPlainName saids) (cut : IsCutAtNewlines (text_of saids) lines) where
  under_to : Contains lines (codes "under " ++ rest) → (interface : ℕ) × (rest ≡ decimal interface) × Contains saids (says_under interface)
  under_to has =
      let found = line_printed saids lines (codes "under " ++ rest) plain cut has in
      let is = under_read found.0 rest found.1 in
      (is.0, is.1, subst (Contains saids) is.2 found.2)

  under_from : (interface : ℕ) × (rest ≡ decimal interface) × Contains saids (says_under interface) → Contains lines (codes "under " ++ rest)
  under_from (interface, is, has) =
      subst (λ (xs : List ℕ). Contains lines (codes "under " ++ xs)) (sym is)
      (printed_line saids lines (says_under interface) (codes "under " ++ decimal interface) plain cut (under_spelt interface) has)

  over_to : Contains lines (codes "over " ++ rest) → (interface : ℕ) × (rest ≡ decimal interface) × Contains saids (says_over interface)
  over_to has =
      let found = line_printed saids lines (codes "over " ++ rest) plain cut has in
      let is = over_read found.0 rest found.1 in
      (is.0, is.1, subst (Contains saids) is.2 found.2)

  over_from : (interface : ℕ) × (rest ≡ decimal interface) × Contains saids (says_over interface) → Contains lines (codes "over " ++ rest)
  over_from (interface, is, has) =
      subst (λ (xs : List ℕ). Contains lines (codes "over " ++ xs)) (sym is)
      (printed_line saids lines (says_over interface) (codes "over " ++ decimal interface) plain cut (over_spelt interface) has)

  level_to : Contains lines (codes "l " ++ rest) → (interface : ℕ) × (level : ℕ) × (target : Option ℕ)
      × (rest ≡ decimal interface ++ codes " " ++ decimal level ++ codes " " ++ number_or_dash target) × Contains saids (says_level interface level target)
  level_to has =
      let found = line_printed saids lines (codes "l " ++ rest) plain cut has in
      let is = level_read found.0 rest found.1 in
      (is.0, is.1, is.2, is.3, subst (Contains saids) is.4 found.2)

  level_from : (interface : ℕ) × (level : ℕ) × (target : Option ℕ)
      × (rest ≡ decimal interface ++ codes " " ++ decimal level ++ codes " " ++ number_or_dash target) × Contains saids (says_level interface level target)
      → Contains lines (codes "l " ++ rest)
  level_from (interface, level, target, is, has) =
      subst (λ (xs : List ℕ). Contains lines (codes "l " ++ xs)) (sym is)
      (printed_line saids lines (says_level interface level target) (codes "l " ++ (decimal interface ++ codes " " ++ decimal level ++ codes " " ++ number_or_dash target)) plain cut
      (level_spelt interface level target) has)

pub read_back : (saids : List Said) → All HasPlainName saids → IsReadBack saids
read_back saids plain = record {
  cut = λ lines. (λ cut. AreSpelt-from_cut saids lines plain cut.whole cut.within, cut_from_AreSpelt saids lines plain);
  under = λ lines rest cut. (under_to saids lines rest plain cut, under_from saids lines rest plain cut);
  over = λ lines rest cut. (over_to saids lines rest plain cut, over_from saids lines rest plain cut);
  level = λ lines rest cut. (level_to saids lines rest plain cut, level_from saids lines rest plain cut);
}
