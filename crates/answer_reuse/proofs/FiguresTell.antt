-- A figure tells what it is the figure of: it leads back there.
use Rattle.std.proofs.Common.{if◌then◌else◌, ◌+◌, ◌-◌, ◌<◌, ◌==◌, ◌∙◌, ◌∷◌, ◌≡◌, [], ℕ, ℤ, Bool, List, None, Option, Some, ap, arith, false, int_lt, map}
use Rattle.std.proofs.Common.{negsuc, pos, refl, slice_index, suc, sym, true, unsigned_abs, zero}
use Rattle.std.proofs.lemmas.Bool.Decides.{nat_tests}
use Rattle.cell_value.specs.declared.{entries.Touch.Touch, values.Value.Value}
use Rattle.answer_reuse.proofs.AlikeTouches.{shown}
use Rattle.answer_reuse.specs.Figures.{item_figure, sign_of, value_figure, value_numbers}

-- a function with one that leads back tells lists apart
pub told_apart : {A B : Type 0} (f : A → B) (back : B → A) → ((x : A) → back (f x) ≡ x) → (xs ys : List A) → map f xs ≡ map f ys → xs ≡ ys
told_apart {A} {B} f back is xs ys e = sym (whole xs) ∙ ap (map back) e ∙ whole ys
  where
    whole : (xs : List A) → map back (map f xs) ≡ xs
    whole [] = refl
    whole (x ∷ xs) = λ i. is x i ∷ whole xs i

abbrev integer_of : (sign size : ℕ) → ℤ
integer_of sign size = if sign == 1 then negsuc (size - 1) else pos size

integer_back : (n : ℤ) → integer_of (sign_of n) (unsigned_abs n) ≡ n
integer_back (pos n) = ap (λ b. integer_of (if b then 1 else 0) n) (let z : int_lt (pos n) (pos 0) ≡ false = grind (arith, nat_tests) in z)
integer_back (negsuc n) = ap negsuc (let z : suc n - 1 ≡ n = omega arith in z)

abbrev value_by : (kind : ℕ) → List ℕ → Value
value_by kind ws =
    if kind == 1 then Value.Number (integer_of (slice_index ws 0) (slice_index ws 1))
    else if kind == 2 then Value.Bits (record { words = ws })
    else if kind == 3 then Value.Nil
    else if kind == 4 then Value.Heap (slice_index ws 0)
    else if kind == 5 then Value.Place (slice_index ws 0)
    else if kind == 6 then Value.Frame (slice_index ws 0)
    else if kind == 7 then Value.Routine (slice_index ws 0) (slice_index ws 1)
    else Value.Undefined

abbrev value_of : List ℕ → Value
value_of [] = Value.Undefined
value_of (kind ∷ ws) = value_by kind ws

value_back : (v : Value) → value_of (value_numbers v) ≡ v
value_back Value.Undefined = refl
value_back (Value.Number n) = ap Value.Number (integer_back n)
value_back (Value.Bits set) = refl
value_back Value.Nil = refl
value_back (Value.Heap to) = refl
value_back (Value.Place to) = refl
value_back (Value.Frame to) = refl
value_back (Value.Routine routine frame) = refl

abbrev arg_of : List ℕ → Value
arg_of (act ∷ addr ∷ ws) = value_of ws
arg_of ws = Value.Undefined

pub same_args : (vs ws : List Value) → map (value_figure 0 0) vs ≡ map (value_figure 0 0) ws → vs ≡ ws
same_args vs ws e = told_apart (value_figure 0 0) arg_of value_back vs ws e

abbrev touch_by : (act addr : ℕ) → List ℕ → Touch
touch_by act addr ws =
    if act == 1 then Touch.Read addr (value_of ws)
    else if act == 2 then Touch.Has addr (slice_index ws 0 == 1)
    else if act == 3 then Touch.Write addr (value_of ws)
    else if act == 4 then Touch.Make addr (slice_index ws 0) (slice_index ws 1)
    else if act == 5 then Touch.Drop addr (slice_index ws 0)
    else if act == 6 then Touch.Look addr
    else if act == 7 then Touch.Take addr
    else Touch.Give addr

abbrev touch_of : Option (List ℕ) → Touch
touch_of (Some (act ∷ addr ∷ ws)) = touch_by act addr ws
touch_of other = Touch.Give 0

touch_back : (t : Touch) → touch_of (Some (shown t)) ≡ t
touch_back (Touch.Read addr v) = ap (Touch.Read addr) (value_back v)
touch_back (Touch.Has addr true) = refl
touch_back (Touch.Has addr false) = refl
touch_back (Touch.Write addr v) = ap (Touch.Write addr) (value_back v)
touch_back (Touch.Make first cells kind) = refl
touch_back (Touch.Drop first cells) = refl
touch_back (Touch.Look at) = refl
touch_back (Touch.Take items) = refl
touch_back (Touch.Give byte) = refl

pub same_touches : (w x : List Touch) → map (λ t. Some (shown t)) w ≡ map (λ t. Some (shown t)) x → w ≡ x
same_touches w x e = told_apart (λ t. Some (shown t)) touch_of touch_back w x e

abbrev item_of : List ℕ → Option ℕ
item_of (kind ∷ item ∷ ws) = if kind == 9 then Some item else None
item_of ws = None

item_back : (o : Option ℕ) → item_of (item_figure o) ≡ o
item_back (Some item) = refl
item_back None = refl

pub same_item : (o q : Option ℕ) → item_figure o ≡ item_figure q → o ≡ q
same_item o q e = sym (item_back o) ∙ ap item_of e ∙ item_back q
