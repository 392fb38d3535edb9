-- Variables are found by their names.
use Rattle.std.proofs.Common.{if◌then◌else◌, ◌&&◌, ◌+◌, ◌<◌, ◌∙◌, ◌∷◌, ◌≡◌, [], ℕ, Bool, List, None, Option, Some, ap, arith, cond, drop, find, length, nat_eq}
use Rattle.std.proofs.{Common.refl, Common.sym, Common.zero, lemmas.Bool.Decides.nat_tests}
use Rattle.std.specs.{BTreeMap.BTreeMap, BTreeMap.IsEmpty, BTreeMap.is_at, Cmp.Lexicographic.slice_cmp, Global.Vec, Map.lookup, Ordering.nat_cmp, Str.bytes_eq}
use Rattle.core_program.specs.ProgramRows.{ProgramRows}
use Rattle.reference_oracle.specs.NamesKept.{AreNamed, is_named, named_at, small_name}
use Rattle.reference_oracle.specs.declared.matches.BlockVariable.{BlockVariable}

-- ---- names are the same in both directions

numbers_turned : (x y : ℕ) → nat_eq x y ≡ nat_eq y x
numbers_turned x y = grind (arith, nat_tests)

pub bytes_turned : (xs ys : List ℕ) → bytes_eq xs ys ≡ bytes_eq ys xs
bytes_turned [] [] = refl
bytes_turned [] (y ∷ ys) = refl
bytes_turned (x ∷ xs) [] = refl
bytes_turned (x ∷ xs) (y ∷ ys) = λ i. numbers_turned x y i && bytes_turned xs ys i

-- ---- variable by variable

nothing_left : (vs : List BlockVariable) → drop (length vs) vs ≡ []
nothing_left [] = refl
nothing_left (v ∷ vs) = nothing_left vs

pub nothing_named : (named : BTreeMap (Vec ℕ) BlockVariable) → IsEmpty named → (name : Vec ℕ) → named_at named name ≡ None
nothing_named named e name = ap (lookup (is_at (λ k. slice_cmp nat_cmp name.items k.items))) e

pub none_named : (p : ProgramRows) (vs : List BlockVariable) (named : BTreeMap (Vec ℕ) BlockVariable)
    → ((name : Vec ℕ) → named_at named name ≡ None) → AreNamed p (drop (length vs) vs) named
none_named p vs named none name = none name ∙ ap (find (is_named p name.items)) (sym (nothing_left vs))

pub one_named : (p : ProgramRows) (rest all : List BlockVariable) (v : BlockVariable) (old new : BTreeMap (Vec ℕ) BlockVariable) (small : List ℕ)
    → small ≡ small_name p v.token → AreNamed p rest old
    → ((name : Vec ℕ) → named_at new name ≡ (if bytes_eq name.items small then Some v else named_at old name))
    → all ≡ v ∷ rest → AreNamed p all new
one_named p rest all v old new small is before put first name =
    put name
    ∙ (λ i. if bytes_eq name.items (is i) then Some v else before name i)
    ∙ ap (find (is_named p name.items)) (sym first)
