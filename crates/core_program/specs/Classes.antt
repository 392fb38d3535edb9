-- Classes of lists of sections: the same number for two lists exactly if they are congruous (6.6.3.6).
use Rattle.std.specs.Prelude.{◌<◌, ◌≡◌, ◌≤◌, ℕ, Bool, List, None, Option, Some, length, nat_eq, slice_get, unwrap_or}
use Rattle.std.specs.Map.{update}
use Rattle.core_program.specs.{ProgramRows.ProgramRows, TypeClasses.type_class, declared.classes.Form.Form}
use Rattle.core_program.specs.Headings.{lists_match, section_at, signature_at}
use Rattle.core_program.specs.contracts.classes.FormPartialEq.TheImpl as equality
use Rattle.core_program.specs.declared.headings.{FormalSection.FormalSection, Signature.Signature}

-- the class of the list at a number
abbrev pub class_at : List ℕ → ℕ → ℕ
class_at classes list = unwrap_or (slice_get classes list) 0

-- Two lists are of one class exactly if they match.
abbrev pub AreClasses : ProgramRows → List ℕ → Type 0
AreClasses p classes =
    (a b : ℕ) → lists_match (length p.rows) p a b ≡ nat_eq (class_at classes a) (class_at classes b)

-- ---- the form of a list

abbrev pub same_form : Form → Form → Bool
same_form = (equality.ghosts).eq

abbrev pub form_inside : List ℕ → Option Signature → (rest : ℕ) → Option Form
form_inside classes None rest = None
form_inside classes (Some g) rest = Some (Form.Routine g.result (class_at classes g.sections) rest)

abbrev pub form_of : ProgramRows → (types classes : List ℕ) → Option (FormalSection × ℕ) → Option Form
form_of p types classes None = None
form_of p types classes (Some (FormalSection.Names m of' count, next)) =
    Some (Form.Names m count (type_class p types of') (class_at classes next))
form_of p types classes (Some (FormalSection.Heading heading, next)) =
    form_inside classes (signature_at p heading) (class_at classes next)

-- the first section of the list at a number, and the classes of its type and of the lists inside of it and after it
abbrev pub form_at : ProgramRows → (types classes : List ℕ) → ℕ → Option Form
form_at p types classes list = form_of p types classes (section_at p list)

-- ---- classes by the forms that are known

-- the class of a form; empty lists are of class 0
abbrev pub class_in : (Form → Option ℕ) → Option Form → Option ℕ
class_in known None = Some 0
class_in known (Some f) = known f

-- A form has the class that it had, or else the new one; the others have what they had.
abbrev pub Interned : (fresh : ℕ) (old new : Form → Option ℕ) → Option Form → (class : ℕ) → Type 0
Interned fresh old new None class = (class ≡ 0) × ((f : Form) → new f ≡ old f)
Interned fresh old new (Some g) class =
    (class ≡ unwrap_or (old g) fresh) × ((f : Form) → new f ≡ update same_form old g (Some class) f)
    × (new g ≡ Some class)

-- The lists from a number on have the classes of their forms.
pub record Classed (p : ProgramRows) (types : List ℕ) (known : Form → Option ℕ) (at : ℕ) (classes : List ℕ) : Type 0
  where
    pub size : length classes ≡ length p.rows
    -- lists end at 0
    pub end : class_at classes 0 ≡ 0
    pub lists : (a : ℕ) → at ≤ a → class_in known (form_at p types classes a) ≡ Some (class_at classes a)
    -- no two forms have one class
    pub apart : (f g : Form) (class : ℕ) → known f ≡ Some class → known g ≡ Some class → f ≡ g
    pub taken : (f : Form) (class : ℕ) → known f ≡ Some class → (0 < class) × (at ≤ class)
