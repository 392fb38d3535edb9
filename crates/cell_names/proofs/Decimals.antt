-- Numbers in decimal, and texts that are compared with them from the last digit on.
use Rattle.std.proofs.Common.{◌%◌, ◌*◌, ◌++◌, ◌+◌, ◌-◌, ◌/◌, ◌<◌, ◌∙◌, ◌∷◌, ◌≡◌, ◌≤◌, [], ℕ, Bool, List, Some, ap, arith, bytes_eq, decimal, false, get_or}
use Rattle.std.proofs.Common.{length, mod-lt, nat_eq, refl, suc, sym, take, true, zero}
use Rattle.std.proofs.{Math.Seq.take-length, Math.Seq.take-suc, lemmas.Fmt.decimal_digit, lemmas.Fmt.decimal_step}
use Rattle.std.proofs.lemmas.{Bool.Decides.nat_tests, List.append_cancel_right, Nat.div-add-mod', Slice.Eq.bytes_eq-Decides}
use Rattle.cell_value.specs.Effects.{last_of}
use Rattle.cell_names.proofs.{NameParts.alike, PartsSplit.last_pushed}

length_next : {X : Type 0} (xs : List X) (x : X) → length (xs ++ x ∷ []) ≡ suc (length xs)
length_next [] x = refl
length_next (y ∷ ys) x = ap suc (length_next ys x)

tenth_above : (n low : ℕ) → low * 10 ≤ n → low ≤ n / 10
tenth_above n low h =
    let e = div-add-mod' n 10 in let m : n % 10 < 10 = mod-lt n (omega arith) in omega (arith, h, e, m)

tenth_below : (n high : ℕ) → n < high * 10 → n / 10 < high
tenth_below n high h = let e = div-add-mod' n 10 in omega (arith, h, e)

-- one digit more than its tenth has
count_on : (n k low high : ℕ) → ((m : ℕ) → low ≤ m → m < high → length (decimal m) ≡ k) → 1 ≤ low → n < 4294967296
    → low * 10 ≤ n → n < high * 10 → length (decimal n) ≡ suc k
count_on n k low high tenth some small least most =
    ap length (decimal_step n (omega (arith, some, least)) (omega (arith, small))) ∙ length_next (decimal (n / 10)) (48 + n % 10)
    ∙ ap suc (tenth (n / 10) (tenth_above n low least) (tenth_below n high most))

pub one_digit : (n : ℕ) → n < 10 → length (decimal n) ≡ 1
one_digit n below = ap length (decimal_digit n below)

pub two_digits : (n : ℕ) → 10 ≤ n → n < 100 → length (decimal n) ≡ 2
two_digits n above below =
    count_on n 1 1 10 (λ m h b. one_digit m b) (omega arith) (omega (arith, below)) (omega (arith, above)) (omega (arith, below))

pub three_digits : (n : ℕ) → 100 ≤ n → n < 1000 → length (decimal n) ≡ 3
three_digits n above below =
    count_on n 2 10 100 two_digits (omega arith) (omega (arith, below)) (omega (arith, above)) (omega (arith, below))

pub four_digits : (n : ℕ) → 1000 ≤ n → n < 10000 → length (decimal n) ≡ 4
four_digits n above below =
    count_on n 3 100 1000 three_digits (omega arith) (omega (arith, below)) (omega (arith, above)) (omega (arith, below))

pub five_digits : (n : ℕ) → 10000 ≤ n → n < 100000 → length (decimal n) ≡ 5
five_digits n above below =
    count_on n 4 1000 10000 four_digits (omega arith) (omega (arith, below)) (omega (arith, above)) (omega (arith, below))

pub six_digits : (n : ℕ) → 100000 ≤ n → n < 1000000 → length (decimal n) ≡ 6
six_digits n above below =
    count_on n 5 10000 100000 five_digits (omega arith) (omega (arith, below)) (omega (arith, above)) (omega (arith, below))

pub seven_digits : (n : ℕ) → 1000000 ≤ n → n < 10000000 → length (decimal n) ≡ 7
seven_digits n above below =
    count_on n 6 100000 1000000 six_digits (omega arith) (omega (arith, below)) (omega (arith, above)) (omega (arith, below))

pub eight_digits : (n : ℕ) → 10000000 ≤ n → n < 100000000 → length (decimal n) ≡ 8
eight_digits n above below =
    count_on n 7 1000000 10000000 seven_digits (omega arith) (omega (arith, below)) (omega (arith, above)) (omega (arith, below))

pub nine_digits : (n : ℕ) → 100000000 ≤ n → n < 1000000000 → length (decimal n) ≡ 9
nine_digits n above below =
    count_on n 8 10000000 100000000 eight_digits (omega arith) (omega (arith, below)) (omega (arith, above)) (omega (arith, below))

pub ten_digits : (n : ℕ) → 1000000000 ≤ n → n < 4294967296 → length (decimal n) ≡ 10
ten_digits n above below =
    count_on n 9 100000000 1000000000 nine_digits (omega arith) below (omega (arith, above)) (omega (arith, below))

-- texts that are not the same
differ_by : (a b : List ℕ) (t : Bool) → bytes_eq a b ≡ t → (a ≡ b → ⊥) → bytes_eq a b ≡ false
differ_by a b true e other = absurd (other ((bytes_eq-Decides a b).0 e))
differ_by a b false e other = e

differ : (a b : List ℕ) → (a ≡ b → ⊥) → bytes_eq a b ≡ false
differ a b other = differ_by a b (bytes_eq a b) refl other

last_same : (a b : List ℕ) (x y : ℕ) → a ++ x ∷ [] ≡ b ++ y ∷ [] → x ≡ y
last_same a b x y e = let s : Some x ≡ Some y = sym (last_pushed a x) ∙ ap last_of e ∙ last_pushed b y in cc

-- one more at the end of both
next_same : (a b : List ℕ) (x y : ℕ) → y ≡ x → bytes_eq a b ≡ bytes_eq (a ++ x ∷ []) (b ++ y ∷ [])
next_same a b x y same =
    alike (bytes_eq a b) (bytes_eq (a ++ x ∷ []) (b ++ y ∷ []))
    (λ e. (bytes_eq-Decides (a ++ x ∷ []) (b ++ y ∷ [])).1
    (ap (λ l. l ++ x ∷ []) ((bytes_eq-Decides a b).0 e) ∙ ap (λ z. b ++ z ∷ []) (sym same)))
    (λ e. (bytes_eq-Decides a b).1 (append_cancel_right a b (x ∷ [])
    ((bytes_eq-Decides (a ++ x ∷ []) (b ++ y ∷ [])).0 e ∙ ap (λ z. b ++ z ∷ []) same)))

take_last : (text : List ℕ) (end d : ℕ) → 0 < end → end ≤ length text → take end text ≡ take (end - 1) text ++ get_or text (end - 1) d ∷ []
take_last text end d some inside =
    ap (λ n. take n text) (let e : end ≡ suc (end - 1) = omega (arith, some) in e) ∙ take-suc text (end - 1) d (omega (arith, some, inside))

-- the last digit of a number is the last byte of a text
pub digit_same : (text : List ℕ) (left end d : ℕ) → 10 ≤ left → left < 4294967296 → 0 < end → end ≤ length text
    → get_or text (end - 1) d ≡ 48 + left % 10 → bytes_eq (decimal (left / 10)) (take (end - 1) text) ≡ bytes_eq (decimal left) (take end text)
digit_same text left end d more small some inside same =
    next_same (decimal (left / 10)) (take (end - 1) text) (48 + left % 10) (get_or text (end - 1) d) same
    ∙ ap (λ l. bytes_eq (decimal (left / 10) ++ (48 + left % 10) ∷ []) l) (sym (take_last text end d some inside))
    ∙ ap (λ l. bytes_eq l (take end text)) (sym (decimal_step left more (omega (arith, small))))

pub digit_other : (text : List ℕ) (left end d : ℕ) → 10 ≤ left → left < 4294967296 → 0 < end → end ≤ length text
    → (get_or text (end - 1) d ≡ 48 + left % 10 → ⊥) → bytes_eq (decimal left) (take end text) ≡ false
digit_other text left end d more small some inside other =
    differ (decimal left) (take end text)
    (λ e. other (sym (last_same (decimal (left / 10)) (take (end - 1) text) (48 + left % 10) (get_or text (end - 1) d)
    (sym (decimal_step left more (omega (arith, small))) ∙ e ∙ take_last text end d some inside))))

-- no byte is left for a digit
pub digit_missing : (text : List ℕ) (left end : ℕ) → 10 ≤ left → left < 4294967296 → end ≡ 0 → bytes_eq (decimal left) (take end text) ≡ false
digit_missing text left end more small none =
    ap (λ n. bytes_eq (decimal left) (take n text)) none
    ∙ differ (decimal left) []
    (λ e. let s : suc (length (decimal (left / 10))) ≡ 0 =
    sym (length_next (decimal (left / 10)) (48 + left % 10)) ∙ ap length (sym (decimal_step left more (omega (arith, small))) ∙ e) in
    omega (arith, s))

-- the first digit
first_digit : (text : List ℕ) (left d : ℕ) → left < 10 → 0 < length text → nat_eq (get_or text 0 d) (48 + left) ≡ bytes_eq (decimal left) (take 1 text)
first_digit [] left d below some = absurd (omega (arith, some))
first_digit (y ∷ ys) left d below some =
    alike (nat_eq y (48 + left)) (bytes_eq ((48 + left) ∷ []) (y ∷ []))
    (λ e. (bytes_eq-Decides ((48 + left) ∷ []) (y ∷ [])).1 (let s : y ≡ 48 + left = grind (arith, nat_tests, e) in ap (λ n. n ∷ []) (sym s)))
    (λ e. let s : 48 + left ≡ y = last_same [] [] (48 + left) y ((bytes_eq-Decides ((48 + left) ∷ []) (y ∷ [])).0 e) in grind (arith, nat_tests, s))
    ∙ ap (λ l. bytes_eq l (y ∷ [])) (sym (decimal_digit left below))

pub first_same : (text : List ℕ) (left end d : ℕ) → left < 10 → end ≡ 1 → end ≤ length text
    → nat_eq (get_or text 0 d) (48 + left) ≡ bytes_eq (decimal left) (take end text)
first_same text left end d below one inside =
    first_digit text left d below (omega (arith, one, inside)) ∙ ap (λ n. bytes_eq (decimal left) (take n text)) (sym one)

take_length : (text : List ℕ) (end : ℕ) → end ≤ length text → length (take end text) ≡ end
take_length text zero inside = refl
take_length [] (suc end) inside = absurd (omega (arith, inside))
take_length (y ∷ ys) (suc end) inside = ap suc (take_length ys end (omega (arith, inside)))

pub not_one : (text : List ℕ) (left end : ℕ) → left < 10 → end ≤ length text → (end ≡ 1 → ⊥) → bytes_eq (decimal left) (take end text) ≡ false
not_one text left end below inside other =
    differ (decimal left) (take end text)
    (λ e. other (sym (take_length text end inside) ∙ ap length (sym e) ∙ one_digit left below))

pub all_text : (text : List ℕ) (number : ℕ) → bytes_eq (decimal number) (take (length text) text) ≡ bytes_eq (decimal number) text
all_text text number = ap (bytes_eq (decimal number)) (take-length text)

taken_within : (n : ℕ) (name : List ℕ) → length (take n name) ≤ length name
taken_within zero name = omega arith
taken_within (suc n) [] = omega arith
taken_within (suc n) (y ∷ ys) = let h = taken_within n ys in omega (arith, h)

-- a part that is longer than the name
pub too_short : (part name : List ℕ) → length name < length part → bytes_eq part (take (length part) name) ≡ false
too_short part name long =
    differ part (take (length part) name) (λ e. let s : length part ≡ length (take (length part) name) = ap length e in
    let t = taken_within (length part) name in omega (arith, s, t, long))
