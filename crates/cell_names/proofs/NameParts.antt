-- What is left of a name after one part and then the next.
use Rattle.std.proofs.Common.{if◌then◌else◌, ◌&&◌, ◌++◌, ◌==◌, ◌∙◌, ◌∷◌, ◌≡◌, [], ℕ, Bool, List, None, Option, Some, ap, append-nil, arith, bytes_eq, codes}
use Rattle.std.proofs.Common.{decimal, drop, false, length, nat_eq, refl, subst, sym, take, true}
use Rattle.std.proofs.lemmas.{Bool.Decides.nat_tests, List.append_cancel_right, List.drop_all, List.take-append-drop, List.take_all, Slice.Eq.bytes_eq-Decides}
use Rattle.std.specs.List.{starts_with}
use Rattle.core_program.specs.ProgramRows.{ProgramRows, name_of, text_at}
use Rattle.cell_names.specs.{Names.origin_text, Names.whose_text, declared.names.Origin.Origin}
use Rattle.cell_names.specs.NamedBy.{after_part, block_text, call_text, is_all, is_over, then_part}

if_both : {X : Type 0} (a b : Bool) (x : Option X) → (if a && b then x else None) ≡ (if a then (if b then x else None) else None)
if_both true b x = refl
if_both false b x = refl

-- a part and a name with their first bytes
cons_part : (x y : ℕ) (xs ys : List ℕ) → after_part (x ∷ xs) (y ∷ ys) ≡ (if nat_eq x y then after_part xs ys else None)
cons_part x y xs ys = if_both (nat_eq x y) (starts_with nat_eq ys xs) (Some (drop (length xs) ys))

then_if : (b : List ℕ) (c : Bool) (o : Option (List ℕ)) → (if c then then_part b o else None) ≡ then_part b (if c then o else None)
then_if b true o = refl
then_if b false o = refl

after_both : (a b name : List ℕ) → after_part (a ++ b) name ≡ then_part b (after_part a name)
after_both [] b name = refl
after_both (x ∷ xs) b [] = refl
after_both (x ∷ xs) b (y ∷ ys) =
    cons_part x y (xs ++ b) ys ∙ ap (λ (o : Option (List ℕ)). if nat_eq x y then o else None) (after_both xs b ys)
    ∙ then_if b (nat_eq x y) (after_part xs ys) ∙ ap (then_part b) (sym (cons_part x y xs ys))

-- one part and then the next
pub then_both : (a b : List ℕ) (o : Option (List ℕ)) → then_part (a ++ b) o ≡ then_part b (then_part a o)
then_both a b None = refl
then_both a b (Some name) = after_both a b name

-- three parts, one after another
pub in_three : (o : Option (List ℕ)) (a b c : List ℕ) {x y z : Option (List ℕ)} → x ≡ then_part a o → y ≡ then_part b x → z ≡ then_part c y
    → z ≡ then_part (a ++ b ++ c) o
in_three o a b c {x} {y} {z} e f g =
    g ∙ ap (then_part c) (f ∙ ap (then_part b) e ∙ sym (then_both a b o)) ∙ sym (then_both (a ++ b) c o)

pub then_nothing : (o : Option (List ℕ)) → then_part [] o ≡ o
then_nothing None = refl
then_nothing (Some name) = refl

whose_by : (p : ProgramRows) (call routine : ℕ) (b : Bool) (o : Option (List ℕ))
    → then_part (if b then [] else name_of p routine ++ codes "#" ++ decimal call ++ codes ".") o
    ≡ (if b then o else then_part (codes ".") (then_part (call_text p call routine) o))
whose_by p call routine true o = then_nothing o
whose_by p call routine false o =
    then_both (call_text p call routine) (codes ".") o

-- whose a variable is
pub whose_in_parts : (p : ProgramRows) (call routine : ℕ) (o : Option (List ℕ)) → then_part (whose_text p call routine) o
    ≡ (if call == 0 then o else then_part (codes ".") (then_part (call_text p call routine) o))
whose_in_parts p call routine o = whose_by p call routine (call == 0) o

pub heap_in_parts : (base : ℕ) (o : Option (List ℕ))
    → then_part (block_text base ++ codes "^") o ≡ then_part (codes "^") (then_part (block_text base) o)
heap_in_parts base o = then_both (block_text base) (codes "^") o

pub local_in_parts : (p : ProgramRows) (call routine token : ℕ) (o : Option (List ℕ))
    → then_part (origin_text p (Origin.Local call routine token)) o ≡ then_part (text_at p token) (then_part (whose_text p call routine) o)
local_in_parts p call routine token o = then_both (whose_text p call routine) (text_at p token) o

-- what the way down to a cell begins at
pub ruleset origins_in_parts = (heap_in_parts, local_in_parts)

after_itself : (name : List ℕ) (b : Bool) → starts_with nat_eq name name ≡ b
    → is_all (if b then Some (drop (length name) name) else None) ≡ true
after_itself name true e = ap is_over (drop_all (length name) name (omega arith))
after_itself name false e =
    absurd (let t : starts_with nat_eq name name ≡ true =
    (bytes_eq-Decides name (take (length name) name)).1 (sym (take_all (length name) name (omega arith))) in
    let z : true ≡ false = sym t ∙ e in cc)

none_left : (rest : List ℕ) → is_over rest ≡ true → rest ≡ []
none_left [] e = refl
none_left (x ∷ xs) e = absurd (let z : ⊥ = grind (arith, nat_tests, e) in z)

is_it_by : (part name : List ℕ) (b : Bool) → starts_with nat_eq name part ≡ b
    → is_all (if b then Some (drop (length part) name) else None) ≡ true → name ≡ part
is_it_by part name true e all =
    sym (take-append-drop (length part) name) ∙ ap (λ l. take (length part) name ++ l) (none_left (drop (length part) name) all)
    ∙ append-nil (take (length part) name) ∙ sym ((bytes_eq-Decides part (take (length part) name)).0 e)
is_it_by part name false e all = absurd (let z : false ≡ true = all in cc)

pub alike : (a b : Bool) → (a ≡ true → b ≡ true) → (b ≡ true → a ≡ true) → a ≡ b
alike true true f g = refl
alike true false f g = sym (f refl)
alike false true f g = g refl
alike false false f g = refl

-- a name that ends where a part ends is that part
pub all_of : (part name end : List ℕ) → bytes_eq (name ++ end) (part ++ end) ≡ is_all (after_part part name)
all_of part name end =
    let both = bytes_eq-Decides (name ++ end) (part ++ end) in
    alike (bytes_eq (name ++ end) (part ++ end)) (is_all (after_part part name))
    (λ e. let same : name ≡ part = append_cancel_right name part end (both.0 e) in
    subst (λ l. is_all (after_part part l) ≡ true) (sym same) (after_itself part _ refl))
    (λ e. both.1 (ap (λ l. l ++ end) (is_it_by part name _ refl e)))

pub block_is_all : (base : ℕ) (name : List ℕ)
    → bytes_eq (name ++ codes "^") (block_text base ++ codes "^") ≡ is_all (then_part (block_text base) (Some name))
block_is_all base name = all_of (block_text base) name (codes "^")

call_by : (p : ProgramRows) (call routine : ℕ) (name : List ℕ) (b : Bool)
    → bytes_eq (name ++ codes ".") (if b then [] else name_of p routine ++ codes "#" ++ decimal call ++ codes ".")
    ≡ (if b then false else is_all (after_part (call_text p call routine) name))
call_by p call routine [] true = refl
call_by p call routine (x ∷ xs) true = refl
call_by p call routine name false =
    all_of (call_text p call routine) name (codes ".")

pub call_is_all : (p : ProgramRows) (call routine : ℕ) (name : List ℕ) → bytes_eq (name ++ codes ".") (whose_text p call routine)
    ≡ (if call == 0 then false else is_all (then_part (call_text p call routine) (Some name)))
call_is_all p call routine name = call_by p call routine name (call == 0)

-- a name is that of all cells of a frame, or of a variable of the heap before its last `^`
pub ruleset all_in_parts = (block_is_all, call_is_all)
