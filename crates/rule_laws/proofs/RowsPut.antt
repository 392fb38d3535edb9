-- The rows that statements put say nothing of types and constants.
use Rattle.std.proofs.Common.{◌≡◌, ℕ, None, Option, Some, refl}
use Rattle.core_program.specs.declared.rows.{Required.Required, Row.Row, TypeRow.TypeRow}
use Rattle.check_steps.specs.Known.{Known}
use Rattle.kind_checker.specs.{Operators.operation_row, declared.constants.ConstantValue.ConstantValue, declared.operators.Operation.Operation}
use Rattle.expression_checker.specs.{Selectors.dereference_row, Selectors.field_row, Selectors.index_row, Typed.constant_row}
use Rattle.expression_checker.specs.Callees.{designator_row, ordinal_function, required_function_row, required_row}
use Rattle.expression_checker.specs.declared.{callees.Callee.Callee, selectors.SelectedField.SelectedField, typed.Typed.Typed}
use Rattle.statement_checker.specs.Calls.{call_in}
use Rattle.rule_laws.proofs.Faces.{said}

pub index_none : (r : Option TypeRow) (p i : Typed) → said (index_row r p i) ≡ Row.Nothing
index_none (Some (TypeRow.Array packed index component cells)) p i = refl
index_none (Some (TypeRow.Conformant packed index component place)) p i = refl
index_none r p i = refl

pub field_none : (p : Typed) (f : Option SelectedField) → said (field_row p f) ≡ Row.Nothing
field_none p (Some f) = refl
field_none p None = refl

pub dereference_none : (r : Option TypeRow) (p : Typed) → said (dereference_row r p) ≡ Row.Nothing
dereference_none (Some (TypeRow.Pointer domain)) p = refl
dereference_none r p = refl

pub operation_none : (o : Option Operation) (l r : ℕ) → said (operation_row o l r) ≡ Row.Nothing
operation_none None l r = refl
operation_none (Some (Operation.Arithmetic o)) l r = refl
operation_none (Some (Operation.Logic o)) l r = refl
operation_none (Some (Operation.Sets o host packing)) l r = refl
operation_none (Some (Operation.Compare o)) l r = refl
operation_none (Some (Operation.CompareTexts o)) l r = refl
operation_none (Some (Operation.CompareSets o)) l r = refl
operation_none (Some (Operation.ComparePointers equal)) l r = refl
operation_none (Some Operation.In) l r = refl

pub constant_none : (v : Option ConstantValue) → said (constant_row v) ≡ Row.Nothing
constant_none None = refl
constant_none (Some (ConstantValue.Ordinal of' v)) = refl
constant_none (Some (ConstantValue.Text token)) = refl

function_none : (k : Known) (f : Option _) (v : Typed) → said (required_function_row k f v) ≡ Row.Nothing
function_none k (Some f) v = refl
function_none k None v = refl

required_none : (k : Known) (r : Required) (v : Typed) → said (required_row k r v) ≡ Row.Nothing
required_none k Required.Eof v = refl
required_none k Required.Eoln v = refl
required_none k r v = function_none k (ordinal_function r) v

pub designator_none : (k : Known) (c : Callee) (v : Typed) (actuals : ℕ) → said (designator_row k c v actuals) ≡ Row.Nothing
designator_none k (Callee.Required r) v actuals = required_none k r v
designator_none k c v actuals = refl

pub call_none : (c : Callee) (line actuals : ℕ) → said (call_in c line actuals) ≡ Row.Nothing
call_none (Callee.Routine number levels heading) line actuals = refl
call_none (Callee.Formal formal levels heading) line actuals = refl
call_none c line actuals = refl
