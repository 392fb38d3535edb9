-- The required procedures of pointers and of packed arrays: new, dispose, pack and unpack (6.6.5.3, 6.6.5.4).
use Rattle.std.specs.Prelude.{if◌then◌else◌, ◌&&◌, ◌||◌, ◌∷◌, [], ℕ, Bool, List, None, Option, Some, false, is_some}
use Rattle.std.specs.Prelude.{length, nat_eq, nat_le, not, true}
use Rattle.pas_tree.specs.ExpressionPlaces.{first_of_expression}
use Rattle.pas_tree.specs.StatementTrees.{ActualTree, ActualsTree, NextActualTree}
use Rattle.core_program.specs.ProgramRows.{size_of}
use Rattle.core_program.specs.declared.rows.{StatementRow.StatementRow, TypeRow.TypeRow}
use Rattle.check_steps.specs.Known.{Known}
use Rattle.check_steps.specs.Steps.{◌>>=◌, Step, give, late, look, too_big}
use Rattle.kind_checker.specs.{Operators.is_unknown_shape, declared.shapes.ExpressionType.ExpressionType}
use Rattle.kind_checker.specs.Shapes.{is_assignable, is_same_type, shape_of}
use Rattle.expression_checker.specs.{Selectors.type_row, declared.typed.Typed.Typed}
use Rattle.statement_checker.specs.{Sequences.stated, Transfers.is_access}
use Rattle.statement_checker.specs.Actuals.{plain_actual, without_actuals, wrong_number}
use Rattle.statement_checker.specs.declared.{actuals.RequiredCall.RequiredCall, moves.CheckedActual.CheckedActual}

-- ---- pointers

-- the type of the variables to which the values of a pointer type point
abbrev pub domain_in : Option TypeRow → Option ℕ
domain_in (Some (TypeRow.Pointer domain)) = Some domain
domain_in r = None

abbrev pub domain_or : Option ℕ → ℕ → ℕ
domain_or (Some domain) otherwise = domain
domain_or None otherwise = otherwise

-- Where it is unknown a number is given at which no type stands.
abbrev pub domain_of : Known → Typed → ℕ
domain_of k v = domain_or (domain_in (type_row k v.of)) v.row

-- Nil has no pointer type of its own. What is of unknown type breaks no further rule.
abbrev pub is_pointer : Known → Typed → Bool
is_pointer k v = is_unknown_shape (shape_of k v.of) || is_some (domain_in (type_row k v.of))

-- New takes an access.
abbrev pub is_made : Known → Typed → Bool
is_made k v = is_unknown_shape (shape_of k v.of) || (is_access v.location && is_some (domain_in (type_row k v.of)))

-- rule 32: what new takes is no access of a pointer type, at its first token; or the new variable would have more than
-- 65,536 cells
unfoldable pub new_variable : ℕ → Typed → Step ℕ
new_variable first v = do
  fine ← look (λ k. is_made k v)
  _ ← late 32 first fine
  domain ← look (λ k. domain_of k v)
  cells ← look (λ k. size_of k.program domain)
  _ ← too_big first (nat_le cells 65536)
  give domain

unfoldable pub new_one : ℕ → RequiredCall → ActualTree → Step ℕ
new_one frame c a = do
  v ← plain_actual frame a
  domain ← new_variable (first_of_expression a.expression) v
  stated c.name (StatementRow.New c.line v.row domain)

-- rule 32: what dispose takes is of no pointer type, at its first token
unfoldable pub dispose_one : ℕ → RequiredCall → ActualTree → Step ℕ
dispose_one frame c a = do
  v ← plain_actual frame a
  fine ← look (λ k. is_pointer k v)
  _ ← late 32 (first_of_expression a.expression) fine
  domain ← look (λ k. domain_of k v)
  stated c.name (StatementRow.Dispose c.line v.row domain)

abbrev pub pointer_one : Bool → ℕ → RequiredCall → ActualTree → Step ℕ
pointer_one true frame c a = new_one frame c a
pointer_one false frame c a = dispose_one frame c a

-- rule 26: new and dispose take one actual
abbrev pub pointer_some : Bool → ℕ → RequiredCall → ActualsTree → Bool → Step ℕ
pointer_some making frame c a true = pointer_one making frame c a.first
pointer_some making frame c a false = wrong_number frame c.name a

-- a call of new if it makes a variable, and else of dispose
abbrev pub pointer_call : Bool → ℕ → RequiredCall → Option ActualsTree → Step ℕ
pointer_call making frame c None = without_actuals c.name
pointer_call making frame c (Some a) = pointer_some making frame c a (nat_eq (length a.others) 0)

-- ---- packed arrays

-- the component type of an array type that is packed or not
abbrev pub component_type_in : Bool → Option TypeRow → Option ℕ
component_type_in wanted (Some (TypeRow.Array packed index component cells)) =
    if (if packed then wanted else not wanted) then Some component else None
component_type_in wanted r = None

abbrev pub index_in : Option TypeRow → Option ℕ
index_in (Some (TypeRow.Array packed index component cells)) = Some index
index_in r = None

-- an access of an array type that is packed or not; what is of unknown type breaks no further rule
abbrev pub is_array : Known → Bool → Typed → Bool
is_array k wanted v = is_unknown_shape (shape_of k v.of)
    || (is_access v.location && is_some (component_type_in wanted (type_row k v.of)))

abbrev pub same_or : Known → Option ℕ → Option ℕ → Bool
same_or k (Some s) (Some t) = is_same_type k s t
same_or k s t = true

-- the packed array has the component type of the unpacked one, as far as both are known
abbrev pub is_like : Known → Typed → Typed → Bool
is_like k unpacked packed =
    same_or k (component_type_in false (type_row k unpacked.of)) (component_type_in true (type_row k packed.of))

abbrev pub assignable_or : Known → Option ℕ → ExpressionType → Bool
assignable_or k (Some index) value = is_assignable k index value
assignable_or k None value = true

abbrev pub is_index_of : Known → Typed → Typed → Bool
is_index_of k unpacked i = assignable_or k (index_in (type_row k unpacked.of)) i.of

-- Rule 32, each at its first token: the unpacked array is none; the index is not assignment-compatible with its index
-- type; the packed array is none, or has another component type.
unfoldable pub move_checked : CheckedActual → CheckedActual → CheckedActual → Step (Unit {0})
move_checked u i p = do
  array ← look (λ k. is_array k false u.value)
  _ ← late 32 u.first array
  index ← look (λ k. is_index_of k u.value i.value)
  _ ← late 32 i.first index
  like ← look (λ k. is_array k true p.value && is_like k u.value p.value)
  late 32 p.first like

-- an actual with its first token
unfoldable pub operand_actual : ℕ → ActualTree → Step CheckedActual
operand_actual frame a = do
  v ← plain_actual frame a
  give (record { first = first_of_expression a.expression; value = v })

abbrev pub pack_row : Bool → ℕ → CheckedActual → CheckedActual → CheckedActual → StatementRow
pack_row packing line u i p = StatementRow.Pack packing line u.value.row i.value.row p.value.row

unfoldable pub pack_three : ℕ → RequiredCall → ActualTree → ActualTree → ActualTree → Step ℕ
pack_three frame c a b d = do
  u ← operand_actual frame a
  i ← operand_actual frame b
  p ← operand_actual frame d
  _ ← move_checked u i p
  stated c.name (pack_row true c.line u i p)

unfoldable pub unpack_three : ℕ → RequiredCall → ActualTree → ActualTree → ActualTree → Step ℕ
unpack_three frame c a b d = do
  p ← operand_actual frame a
  u ← operand_actual frame b
  i ← operand_actual frame d
  _ ← move_checked u i p
  stated c.name (pack_row false c.line u i p)

abbrev pub three : Bool → ℕ → RequiredCall → ActualTree → ActualTree → ActualTree → Step ℕ
three true frame c a b d = pack_three frame c a b d
three false frame c a b d = unpack_three frame c a b d

-- rule 26: pack and unpack take three actuals
abbrev pub pack_some : Bool → ℕ → RequiredCall → ActualsTree → List NextActualTree → Step ℕ
pack_some packing frame c a (b ∷ d ∷ []) = three packing frame c a.first b.actual d.actual
pack_some packing frame c a others = wrong_number frame c.name a

-- a call of pack, and else of unpack
abbrev pub pack_call : Bool → ℕ → RequiredCall → Option ActualsTree → Step ℕ
pack_call packing frame c None = without_actuals c.name
pack_call packing frame c (Some a) = pack_some packing frame c a a.others
