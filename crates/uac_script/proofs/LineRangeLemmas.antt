-- The ranges of a line that was read, as facts on its numbers.
use Rattle.std.proofs.Common.{◌≡◌, ℕ, ◌≤◌, true, map, length, ℤ, pos, negsuc, ◌≤ℤ◌, arith}
use Rattle.std.specs.Prelude.{int_le}
use Rattle.std.proofs.lemmas.Bool.{and_parts, leb-true}
use Rattle.std.proofs.lemmas.Int.{ints}
use Rattle.std.proofs.lemmas.List.{length-map}
use Rattle.arrayvec.specs.ArrayVec.{ArrayVec}
use Rattle.uac_script.specs.declared.line.Mark.{Mark}
use Rattle.uac_script.specs.declared.line.Line.TheVariants.{Deviate, Run, Detail}
use Rattle.uac_lines.specs.Ranges.{is_within, is_id}
use Rattle.uac_script.specs.Line.{IsLineInRange, phrase_mark}

at_most : (least z : ℤ) → int_le least z ≡ true → least ≤ℤ z
at_most least z h = grind (arith, ints)

pub within_means : (least most z : ℤ) → is_within least most z ≡ true → (least ≤ℤ z) × (z ≤ℤ most)
within_means least most z h =
    let parts = and_parts (int_le least z) (int_le z most) h in
    (at_most least z parts.0, at_most z most parts.1)

pub kept_deviation : (domain : ℕ) (ppm : ℤ) → IsLineInRange (Deviate domain ppm) → (negsuc 99999 ≤ℤ ppm) × (ppm ≤ℤ pos 100000)
kept_deviation domain ppm h = within_means (negsuc 99999) (pos 100000) ppm (and_parts (is_id (pos domain)) _ h.0).1

pub kept_run : (count : ℕ) (marks : ArrayVec Mark) → IsLineInRange (Run count marks) → (1 ≤ count) × (count ≤ 8000) × (length marks.items ≤ 24)
kept_run count marks h =
    let parts = and_parts (is_within (pos 1) (pos 8000) (pos count)) _ h.0 in
    let bounds = and_parts _ _ parts.0 in
    let few = leb-true (length (map phrase_mark marks.items)) 24 (and_parts _ _ parts.1).1 in
    (leb-true 1 count bounds.0, leb-true count 8000 bounds.1, simp length-map at few)

pub kept_detail : (level : ℕ) → IsLineInRange (Detail level) → level ≤ 2
kept_detail level h = leb-true level 2 (and_parts _ _ h.0).1
