-- Names as a set of vectors keeps them.
use Rattle.std.proofs.Common.{if◌then◌else◌, ◌++◌, ◌+◌, ◌||◌, ◌∙◌, ◌∷◌, ◌≡◌, [], ℕ, Bool, List, None, Option, Some, ap, false, fold, get_or, map, nat_eq}
use Rattle.std.proofs.Common.{nat_lt, not, position, refl, slice_get, sym, take, true}
use Rattle.std.proofs.lemmas.{List.length-map, List.map_push, List.take_more, List.Sums.fold-append, Option.get_or_from_slice_get, Option.slice_get_within}
use Rattle.std.specs.{Cmp.Lexicographic.pointwise, Global.Vec, List.list_any, List.position_or_len}
use Rattle.check_steps.specs.Words.{number_of_name, same_name, texts_in, with_name}

-- whether a name is among those that vectors hold
abbrev pub is_kept : List ℕ → List (Vec ℕ) → Bool
is_kept s vs = list_any (λ v. pointwise nat_eq s v.items) vs

among : (vs : List (Vec ℕ)) (s : List ℕ) → list_any (same_name s) (texts_in vs) ≡ is_kept s vs
among [] s = refl
among (v ∷ vs) s = ap (λ b. pointwise nat_eq s v.items || b) (among vs s)

pub with_kept : (vs : List (Vec ℕ)) (s : List ℕ) → is_kept s vs ≡ true → texts_in vs ≡ with_name (texts_in vs) s
with_kept vs s e = let kept : list_any (same_name s) (texts_in vs) ≡ true = among vs s ∙ e in rw kept refl

pub with_new : (vs ws : List (Vec ℕ)) (s : List ℕ) (v : Vec ℕ) → is_kept s vs ≡ false → v.items ≡ s
    → ws ≡ (if is_kept v.items vs then vs else vs ++ v ∷ []) → texts_in ws ≡ with_name (texts_in vs) s
with_new vs ws s v e same made =
    let absent : list_any (same_name s) (texts_in vs) ≡ false = among vs s ∙ e in
    let other : is_kept v.items vs ≡ false = ap (λ t. is_kept t vs) same ∙ e in
    let last : ws ≡ vs ++ v ∷ [] = made ∙ ap (λ b. if b then vs else vs ++ v ∷ []) other in
    ap texts_in last ∙ map_push (λ (w : Vec ℕ). w.items) vs v ∙ ap (λ t. texts_in vs ++ t ∷ []) same
    ∙ sym (ap (λ b. if b then texts_in vs else texts_in vs ++ s ∷ []) absent)

-- one more token
pub fold_more : {A X : Type 0} (f : A → X → A) (a : A) (xs : List X) (n : ℕ) (x : X) → slice_get xs n ≡ Some x
    → fold f a (take (n + 1) xs) ≡ f (fold f a (take n xs)) x
fold_more f a xs n x e =
    ap (fold f a) (take_more xs n x (slice_get_within xs n x e)) ∙ fold-append f a (take n xs) (get_or xs n x ∷ [])
    ∙ ap (f (fold f a (take n xs))) (get_or_from_slice_get xs n x x e)

pub map_more : {X Y : Type 0} (f : X → Y) (xs : List X) (n : ℕ) (x : X) → slice_get xs n ≡ Some x
    → map f (take (n + 1) xs) ≡ map f (take n xs) ++ f x ∷ []
map_more f xs n x e =
    ap (map f) (take_more xs n x (slice_get_within xs n x e)) ∙ map_push f (take n xs) (get_or xs n x)
    ∙ ap (λ y. map f (take n xs) ++ f y ∷ []) (get_or_from_slice_get xs n x x e)

first_kept : (vs : List (Vec ℕ)) (s : List ℕ) → position_or_len (same_name s) (texts_in vs) ≡ position_or_len (λ v. pointwise nat_eq s v.items) vs
first_kept [] s = refl
first_kept (v ∷ vs) s = ap (λ n. if not (pointwise nat_eq s v.items) then 1 + n else 0) (first_kept vs s)

position_kept : (vs : List (Vec ℕ)) (s : List ℕ) → position (same_name s) (texts_in vs) ≡ position (λ v. pointwise nat_eq s v.items) vs
position_kept vs s = λ i. if nat_lt (first_kept vs s i) (length-map vs (λ (v : Vec ℕ). v.items) i) then Some (first_kept vs s i) else None

-- a name's place among those that vectors hold
pub place_kept : (vs : List (Vec ℕ)) (s : List ℕ) (found : Option ℕ) → found ≡ position (λ v. pointwise nat_eq s v.items) vs
    → found ≡ number_of_name (texts_in vs) s
place_kept vs s found e = e ∙ sym (position_kept vs s)
