-- Sets of ordinals from 0 to 255. A set is known by the ordinals that it holds (ISO 7185, clauses 6.4.3.4 and 6.7.2.4).
use Rattle.std.specs.Prelude.{if◌then◌else◌, ◌%◌, ◌&&◌, ◌*◌, ◌+◌, ◌/◌, ◌==◌, ◌^◌, ◌||◌, ◌∷◌, ◌≡◌, [], ℕ, ℤ, Bool, None}
use Rattle.std.specs.Prelude.{Option, Some, false, int_le, nat_le, negsuc, not, pos, slice_get, suc, true, zero}
use Rattle.std.specs.Int.{bit_at}
use Rattle.cell_value.specs.declared.values.SetBits.{SetBits}

-- whether a bit of a word is set; there is no word after the last
abbrev pub is_set : Option ℕ → ℕ → Bool
is_set (Some word) place = bit_at word place == 1
is_set None place = false

-- whether a set holds an ordinal: each word has the bits of 64 ordinals
abbrev pub has : SetBits → ℕ → Bool
has set ordinal = is_set (slice_get set.words (ordinal / 64)) (ordinal % 64)

-- the same of any whole number: no set holds one below 0
abbrev pub has_number : SetBits → ℤ → Bool
has_number set (pos ordinal) = has set ordinal
has_number set (negsuc below) = false

-- the number of this many bits, each of which is set where the test holds of its place
unfoldable pub bits_where : (ℕ → Bool) → (bits : ℕ) → ℕ
bits_where test zero = 0
bits_where test (suc place) = (if test place then 1 else 0) * 2 ^ place + bits_where test place

-- the set of the ordinals below 256 of which the test holds
unfoldable pub set_of : (ℕ → Bool) → SetBits
set_of test = record {
  words = bits_where test 64 ∷ bits_where (λ place. test (64 + place)) 64
      ∷ bits_where (λ place. test (128 + place)) 64 ∷ bits_where (λ place. test (192 + place)) 64 ∷ [];
}

-- the union, the difference and the intersection
abbrev pub union_of : SetBits → SetBits → SetBits
union_of a b = set_of (λ ordinal. has a ordinal || has b ordinal)

abbrev pub difference_of : SetBits → SetBits → SetBits
difference_of a b = set_of (λ ordinal. has a ordinal && not (has b ordinal))

abbrev pub intersection_of : SetBits → SetBits → SetBits
intersection_of a b = set_of (λ ordinal. has a ordinal && has b ordinal)

-- the ordinals from one to another, both of which belong to the range
abbrev pub is_between : (least greatest : ℕ) → ℕ → Bool
is_between least greatest ordinal = nat_le least ordinal && nat_le ordinal greatest

-- a set with those of a range
abbrev pub with_range_of : SetBits → (least greatest : ℕ) → SetBits
with_range_of a least greatest = set_of (λ ordinal. has a ordinal || is_between least greatest ordinal)

-- whether the test holds of each number below the bound
unfoldable pub holds_below : (ℕ → Bool) → (bound : ℕ) → Bool
holds_below test zero = true
holds_below test (suc n) = test n && holds_below test n

-- whether each ordinal of the first set is one of the second (6.7.2.5)
abbrev pub is_included : (inner outer : SetBits) → Bool
is_included inner outer = holds_below (λ ordinal. not (has inner ordinal) || has outer ordinal) 256

abbrev pub IsIncluded : (inner outer : SetBits) → Type 0
IsIncluded inner outer = (ordinal : ℕ) → has inner ordinal ≡ true → has outer ordinal ≡ true

-- whether a member, if the ordinal is one, lies between two bounds, which belong to the range
abbrev pub is_outside_or_between : SetBits → (least greatest : ℤ) → (ordinal : ℕ) → Bool
is_outside_or_between set least greatest ordinal =
    not (has set ordinal) || (int_le least (pos ordinal) && int_le (pos ordinal) greatest)

-- whether each member lies between two bounds, which belong to the range
abbrev pub lies_between : SetBits → (least greatest : ℤ) → Bool
lies_between set least greatest = holds_below (is_outside_or_between set least greatest) 256
