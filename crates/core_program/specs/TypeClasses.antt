-- Classes of types: the same number for two types exactly if they are one, or of equivalent schemas (6.6.3.6).
use Rattle.std.specs.Prelude.{if◌then◌else◌, ◌≡◌, ◌≤◌, ℕ, Bool, List, None, Option, Some, length, nat_eq, slice_get}
use Rattle.std.specs.Prelude.{unwrap_or}
use Rattle.core_program.specs.{Headings.types_match, WholeTables.is_conformant}
use Rattle.core_program.specs.ProgramRows.{ProgramRows, type_at}
use Rattle.core_program.specs.contracts.type_classes.TypeFormPartialEq.TheImpl as equality
use Rattle.core_program.specs.declared.{rows.TypeRow.TypeRow, type_classes.TypeForm.TypeForm}

-- the class of the type at a number; a type of no schema is a class of its own
abbrev pub type_class : ProgramRows → List ℕ → ℕ → ℕ
type_class p types t = if is_conformant p t then unwrap_or (slice_get types t) t else t

-- Two types are of one class exactly if they match.
abbrev pub AreTypeClasses : ProgramRows → List ℕ → Type 0
AreTypeClasses p types =
    (a b : ℕ) → types_match (length p.rows) p a b ≡ nat_eq (type_class p types a) (type_class p types b)

abbrev pub same_type_form : TypeForm → TypeForm → Bool
same_type_form = (equality.ghosts).eq

-- a schema by its first spec, and by the class of the component type
abbrev pub type_form : ProgramRows → List ℕ → Option TypeRow → Option TypeForm
type_form p types (Some (TypeRow.Conformant packed index component place)) =
    Some (record { packed = packed; index = index; component = type_class p types component })
type_form p types t = None

-- The schemas from a number on have the classes of their forms.
pub record TypesClassed (p : ProgramRows) (known : TypeForm → Option ℕ) (at : ℕ) (types : List ℕ) : Type 0 where
  pub size : length types ≡ length p.rows
  pub schemas : (a : ℕ) (f : TypeForm) → at ≤ a → type_form p types (type_at p a) ≡ Some f
      → known f ≡ Some (type_class p types a)
  -- no two forms have one class
  pub apart : (f g : TypeForm) (class : ℕ) → known f ≡ Some class → known g ≡ Some class → f ≡ g
  -- a class is the number of a type of its form
  pub taken : (f : TypeForm) (class : ℕ) → known f ≡ Some class
      → (at ≤ class) × (type_form p types (type_at p class) ≡ Some f)
