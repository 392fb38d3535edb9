-- What one change of the tables leaves: rows at other numbers, and other definitions.
use Rattle.std.proofs.Common.{◌++◌, ◌<◌, ◌∙◌, ◌∷◌, ◌≡◌, ◌⊎◌, [], ℕ, Bool, List, None, Option, Some, ap, arith, cond, false, inl, inr, length, nat_eq, refl, set}
use Rattle.std.{proofs.Common.suc, proofs.Common.sym, proofs.Common.true, proofs.Common.zero, specs.Map.lookup}
use Rattle.std.proofs.lemmas.{List.get_or-set_other, List.get_or-set_same, Option.none-some, Option.same_Some, Option.unwrap_or-slice_get}
use Rattle.core_program.specs.declared.rows.Row.{Row}
use Rattle.check_steps.specs.{Known.Known, Known.and_definition, Known.row_at, Known.with_row, declared.regions.Definition.Definition}
use Rattle.check_steps.specs.Regions.{RegionRows, defined_in, or_else, region_at}

-- ---- rows

pub row_beside : (k : Known) (m n : ℕ) (r : Row) → (n ≡ m → ⊥) → row_at (with_row k m r) n ≡ row_at k n
row_beside k m n r apart = unwrap_or-slice_get (set k.program.rows m r) n Row.Nothing ∙ get_or-set_other k.program.rows m n r Row.Nothing apart
    ∙ sym (unwrap_or-slice_get k.program.rows n Row.Nothing)

pub row_put : (k : Known) (n : ℕ) (r : Row) → n < length k.program.rows → row_at (with_row k n r) n ≡ r
row_put k n r below = unwrap_or-slice_get (set k.program.rows n r) n Row.Nothing ∙ get_or-set_same k.program.rows n r Row.Nothing below

-- ---- definitions

-- one more entry at the end is found where none was before it
pub lookup-last : {X : Type 0} (n m : ℕ) (es : List (ℕ × X)) (x : X)
    → lookup (nat_eq n) (es ++ (m, x) ∷ []) ≡ or_else (lookup (nat_eq n) es) (cond (nat_eq n m) (Some x) None)
lookup-last n m [] x = refl
lookup-last {X = X} n m (e ∷ es) x = by (nat_eq n e.0) (lookup-last n m es x)
  where
    by : (b : Bool) → lookup (nat_eq n) (es ++ (m, x) ∷ []) ≡ or_else (lookup (nat_eq n) es) (cond (nat_eq n m) (Some x) None)
        → cond b (Some e.1) (lookup (nat_eq n) (es ++ (m, x) ∷ []))
        ≡ or_else (cond b (Some e.1) (lookup (nat_eq n) es)) (cond (nat_eq n m) (Some x) None)
    by true rest = refl
    by false rest = rest

pub region-set : (regions : List RegionRows) (i : ℕ) (x : RegionRows) → i < length regions → region_at (set regions i x) i ≡ x
region-set [] i x below = absurd (omega arith)
region-set (y ∷ ys) zero x below = refl
region-set (y ∷ ys) (suc i) x below = region-set ys i x (omega arith)

-- what a region says of a name after one more definition
pub defined-more : (k : Known) (region name n : ℕ) (d : Definition) → region < length k.regions
    → defined_in (and_definition k region name d).regions region n
    ≡ or_else (defined_in k.regions region n) (cond (nat_eq n name) (Some d) None)
defined-more k region name n d below =
    let rows = region_at k.regions region in
    ap (λ (r : RegionRows). lookup (nat_eq n) r.names)
    (region-set k.regions region (record rows { names = rows.names ++ (name, d) ∷ [] }) below)
    ∙ lookup-last n name rows.names d

-- a definition that is found after one more is the new one or was there
pub one_or_other : {A : Type 0} (o : Option A) (b : Bool) (x y : A) → or_else o (cond b (Some x) None) ≡ Some y
    → (o ≡ Some y) ⊎ ((b ≡ true) × (x ≡ y))
one_or_other (Some z) b x y e = inl e
one_or_other None true x y e = inr (refl, same_Some x y e)
one_or_other None false x y e = absurd (none-some y e)
