-- The least of the broken rules is the first of them.
use Rattle.std.proofs.Common.{if◌then◌else◌, ◌&&◌, ◌||◌, ◌∷◌, ◌≡◌, ◌⊎◌, [], ℕ, All, Contains, List, None, Some, arith, false, inl, inr, nat_eq, nat_lt, refl}
use Rattle.std.proofs.Common.{slice_index_or, subst, suc, sym, true}
use Rattle.std.proofs.lemmas.{Bool.Decides.nat_tests, List.Elements.All-cons}
use Rattle.check_steps.proofs.Order.{chain, irreflexive, transitive}
use Rattle.check_steps.specs.Breaks.{IsFirst, IsOfFirst, fault_of, first_broken, group, is_before, is_early, number}
use Rattle.check_steps.specs.declared.breaks.Break.{Break}

not_before_self : (a b : Break) → b ≡ a → is_before a b ≡ false
not_before_self a b e = let P : Break → Type 0 = λ c. is_before a c ≡ false in subst P (sym e) (irreflexive (group a.broken) a.token (number a.broken))

before_chain : (a b c : Break) → is_before a b ≡ false → is_before b c ≡ false → is_before a c ≡ false
before_chain a b c = chain (group a.broken) a.token (number a.broken) (group b.broken) b.token (number b.broken) (group c.broken) c.token (number c.broken)

before_then : (a b c : Break) → is_before a b ≡ true → is_before a c ≡ false → is_before b c ≡ false
before_then a b c h free =
    elim (is_before b c) as (λ v. is_before b c ≡ v → is_before b c ≡ false) [
      | true ↦ λ e. let t = transitive (group a.broken) a.token (number a.broken) (group b.broken) b.token (number b.broken) (group c.broken) c.token
          (number c.broken) h e in cc
      | false ↦ λ e. e
    ] refl

here : (x : Break) (xs : List Break) (b : Break) → b ≡ x → Contains (x ∷ xs) b
here x xs b e = (0, omega arith, sym e)

there : (x : Break) (xs : List Break) (b : Break) → Contains xs b → Contains (x ∷ xs) b
there x xs b c = (suc c.0, omega (arith, c.1), c.2)

abbrev Among : List Break → Break → Break → Type 0
Among bs k b = ((b ≡ k) ⊎ Contains bs b) × (is_before k b ≡ false) × All (λ a. is_before a b ≡ false) bs

first_from : (bs : List Break) (k b : Break) → first_broken bs (Some k) ≡ Some b → Among bs k b
first_from [] k b e = let same : b ≡ k = cc in (inl same, not_before_self k b same, λ i d h. absurd (omega arith))
first_from (x ∷ xs) k b e =
    elim (is_before x k) as (λ v. is_before x k ≡ v → first_broken xs (if v then Some x else Some k) ≡ Some b → Among (x ∷ xs) k b) [
      | true ↦ λ h f.
          let i = first_from xs x b f in
          let at : Contains (x ∷ xs) b = elim i.0 [ inl s ↦ here x xs b s | inr c ↦ there x xs b c ] in
          (inr at, before_then x k b h i.1, All-cons (λ a. is_before a b ≡ false) x xs i.1 i.2)
      | false ↦ λ h f.
          let i = first_from xs k b f in
          let at : (b ≡ k) ⊎ Contains (x ∷ xs) b = elim i.0 [ inl s ↦ inl s | inr c ↦ inr (there x xs b c) ] in
          (at, i.1, All-cons (λ a. is_before a b ≡ false) x xs (before_chain x k b h i.1) i.2)
    ] refl e

pub first_of-is : (bs : List Break) (b : Break) → first_broken bs None ≡ Some b → IsFirst bs b
first_of-is [] b e = cc
first_of-is (x ∷ xs) b e =
    let i = first_from xs x b e in
    let at : Contains (x ∷ xs) b = elim i.0 [ inl s ↦ here x xs b s | inr c ↦ there x xs b c ] in
    (at, All-cons (λ a. is_before a b ≡ false) x xs i.1 i.2)

stays : (bs : List Break) (k : Break) → first_broken bs (Some k) ≡ None → ⊥
stays [] k e = cc
stays (x ∷ xs) k e =
    elim (is_before x k) as (λ v. first_broken xs (if v then Some x else Some k) ≡ None → ⊥) [ true ↦ λ f. stays xs x f | false ↦ λ f. stays xs k f ] e

pub first_of-none : (bs : List Break) → first_broken bs None ≡ None → bs ≡ []
first_of-none [] e = refl
first_of-none (x ∷ xs) e = absurd (stays xs x e)

late_stays : (g t r h u s : ℕ) → nat_eq h 0 ≡ false
    → (nat_lt g h || (nat_eq g h && (nat_lt t u || (nat_eq t u && nat_lt r s)))) ≡ false → nat_eq g 0 ≡ false
late_stays g t r h u s late after = grind (arith, nat_tests)

not_first : (a b : Break) → is_early b ≡ false → is_before a b ≡ false → is_early a ≡ false
not_first a b = late_stays (group a.broken) a.token (number a.broken) (group b.broken) b.token (number b.broken)

-- where the first is not early, none is
pub late_all : (bs : List Break) (b : Break) → IsFirst bs b → is_early b ≡ false → All (λ a. is_early a ≡ false) bs
late_all bs b first late = λ i d h. not_first (slice_index_or bs i d) b late (first.1 i d h)

pub none_first : (bs : List Break) → bs ≡ [] → All (λ a. is_early a ≡ false) bs
none_first bs e = let P : List Break → Type 0 = λ l. All (λ a. is_early a ≡ false) l in subst P (sym e) (λ i d h. absurd (omega arith))

-- what is answered of the least is what is answered of the first
pub fault-first : (bs : List Break) (b : Break) → first_broken bs None ≡ Some b → IsOfFirst bs (fault_of b)
fault-first bs b e = (b, first_of-is bs b e, refl)
