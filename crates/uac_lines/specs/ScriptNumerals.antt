-- Profile: reading the numbers of a script line, which are written as `numeral` says.
use Rattle.std.specs.Prelude.{ℕ, zero, suc, ◌+◌, ◌^◌, min, ◌==◌, ◌&&◌, ◌||◌, not, nat_lt, Bool, if◌then◌else◌, ℤ, length, drop, slice_index}
use Rattle.std.specs.Prelude.{pos, negsuc, neg_ℤ, Option, Some, None, is_some, unwrap_or}
use Rattle.std.specs.List.{list_all}
use Rattle.std.specs.Char.{is_ascii_digit}
use Rattle.std.specs.Option.{option_map}
use Rattle.std.specs.Str.Parse.{digits_value}
use Rattle.uac_lines.specs.Words.{Word}

-- `number_of word ≡ Some z` exactly where the word is the numeral of z

-- one digit or more, and nothing else; a 0 stands in front only where it stands alone
unfoldable pub is_natural : Word → Bool
is_natural word = nat_lt 0 (length word) && (not (slice_index word 0 == 48) || length word == 1) && list_all is_ascii_digit word

unfoldable pub natural_of : Word → Option ℕ
natural_of word = if is_natural word then Some (digits_value 10 word) else None

-- a number below zero, from its size; there is no `-0`
abbrev pub negative_of : Option ℕ → Option ℤ
negative_of None = None
negative_of (Some zero) = None
negative_of (Some (suc n)) = Some (negsuc n)

unfoldable pub number_of : Word → Option ℤ
number_of word = if slice_index word 0 == 45 then negative_of (natural_of (drop 1 word)) else option_map pos (natural_of word)

unfoldable pub is_number : Word → Bool
is_number word = is_some (number_of word)

-- the number that a numeral spells; 0 of any other word
unfoldable pub value_of : Word → ℤ
value_of word = unwrap_or (number_of word) (pos 0)

-- ---- what a reader holds of a number of any length: a size that no range reaches stands for all above it

abbrev pub far : ℕ
far = 10 ^ 12

abbrev pub within_far : ℤ → ℤ
within_far (pos n) = pos (min n far)
within_far (negsuc n) = neg_ℤ (pos (min (n + 1) far))
