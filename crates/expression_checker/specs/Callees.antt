-- What is called in an expression, and the function designator once its actuals are checked (6.6.6, 6.7.3).
use Rattle.std.specs.Prelude.{if◌then◌else◌, ◌&&◌, ◌-◌, ℕ, ℤ, Bool, None, Option, Some, false, is_some, length, nat_eq}
use Rattle.std.specs.Prelude.{nat_le, pos, suc, true, zero}
use Rattle.core_program.specs.ProgramRows.{routine_at}
use Rattle.core_program.specs.declared.{program.Routine.Routine, rows.OrdinalFunction.OrdinalFunction}
use Rattle.core_program.specs.declared.rows.{NameRow.NameRow, Required.Required, Row.Row, TypeRow.TypeRow}
use Rattle.core_program.specs.declared.rows.ExpressionRow.TheVariants as written
use Rattle.check_steps.specs.{Known.Known, Known.row_at, Known.type_at, Names.use_again}
use Rattle.check_steps.specs.Steps.{◌>>=◌, Step, give, late, look, put}
use Rattle.check_steps.specs.declared.{headings.FormalSection.FormalSection, regions.Found.Found}
use Rattle.kind_checker.specs.{Headings.section_at, Headings.signature_at, Shapes.shape_of}
use Rattle.kind_checker.specs.declared.shapes.{ExpressionType.ExpressionType, Shape.Shape}
use Rattle.expression_checker.specs.{Names.levels_to, Typed.typed_value, declared.typed.Typed.Typed}
use Rattle.expression_checker.specs.declared.callees.{Called.Called, Callee.Callee, ExpectedFormals.ExpectedFormals}

-- ---- what a name stands for as a routine

-- a routine of the program, which the block around its own declares
abbrev pub declared_routine : Known → ℕ → ℕ → Option Routine → Callee
declared_routine k frame number None = Callee.Unknown
declared_routine k frame number (Some r) = Callee.Routine number (levels_to k frame (r.level - 1)) r.heading

abbrev pub callee_in : Known → (frame token : ℕ) → Row → Callee
callee_in k frame token (Row.Name (NameRow.Routine assigned number region)) =
    declared_routine k frame number (routine_at k.program number)
callee_in k frame token (Row.Name (NameRow.RoutineFormal place level heading)) =
    Callee.Formal token (levels_to k frame level) heading
callee_in k frame token (Row.Name (NameRow.Required routine)) = Callee.Required routine
callee_in k frame token r = Callee.Wrong

-- what a name stands for as a routine, seen from a frame
abbrev pub callee_of : Known → ℕ → Option Found → Callee
callee_of k frame None = Callee.Unknown
callee_of k frame (Some f) = callee_in k frame f.definition.token (row_at k f.definition.token)

abbrev pub ordinal_function : Required → Option OrdinalFunction
ordinal_function Required.Abs = Some OrdinalFunction.Abs
ordinal_function Required.Sqr = Some OrdinalFunction.Sqr
ordinal_function Required.Odd = Some OrdinalFunction.Odd
ordinal_function Required.Ord = Some OrdinalFunction.Ord
ordinal_function Required.Chr = Some OrdinalFunction.Chr
ordinal_function Required.Succ = Some OrdinalFunction.Succ
ordinal_function Required.Pred = Some OrdinalFunction.Pred
ordinal_function r = None

abbrev pub is_required_function : Required → Bool
is_required_function Required.Eof = true
is_required_function Required.Eoln = true
is_required_function r = is_some (ordinal_function r)

-- A name of unknown meaning breaks no further rule.
abbrev pub is_function : Known → Callee → Bool
is_function k Callee.Unknown = true
is_function k Callee.Wrong = false
is_function k (Callee.Routine number levels heading) = is_some (signature_at k heading).result
is_function k (Callee.Formal formal levels heading) = is_some (signature_at k heading).result
is_function k (Callee.Required r) = is_required_function r

-- ---- how many actuals there are

abbrev pub names_in : FormalSection → ℕ
names_in (FormalSection.Names m of' count) = count
names_in (FormalSection.Heading heading) = 1

abbrev pub taken_or : Option (FormalSection × ℕ) → ℕ → (ℕ → ℕ → Bool) → Bool
taken_or None n rest = nat_eq n 0
taken_or (Some s) n rest = nat_le (names_in s.0) n && rest s.1 (n - names_in s.0)

abbrev pub takes_from : ℕ → Known → ℕ → ℕ → Bool
takes_from zero k at n = false
takes_from (suc m) k at n = taken_or (section_at k at) n (takes_from m k)

-- Whether a list of sections has this many parameters. No list has more sections than there are tokens.
abbrev pub has_formals : Known → ℕ → ℕ → Bool
has_formals k sections n = takes_from (length k.words) k sections n

-- eof and eoln take a file or nothing, the other required functions one ordinal
abbrev pub required_takes : Required → ℕ → Bool
required_takes Required.Eof n = nat_le n 1
required_takes Required.Eoln n = nat_le n 1
required_takes r n = nat_eq n 1

abbrev pub takes_count : Known → Callee → ℕ → Bool
takes_count k (Callee.Routine number levels heading) n = has_formals k (signature_at k heading).sections n
takes_count k (Callee.Formal formal levels heading) n = has_formals k (signature_at k heading).sections n
takes_count k (Callee.Required r) n = required_takes r n
takes_count k c n = true

abbrev pub operand_of : Option OrdinalFunction → ExpectedFormals
operand_of (Some f) = ExpectedFormals.Operand f
operand_of None = ExpectedFormals.Unknown

abbrev pub required_formals : Required → ExpectedFormals
required_formals Required.Eof = ExpectedFormals.File
required_formals Required.Eoln = ExpectedFormals.File
required_formals r = operand_of (ordinal_function r)

-- the formal parameters of a section on, of which none is passed
abbrev pub formals_from : ℕ → ExpectedFormals
formals_from section = ExpectedFormals.Declared section 0 ExpressionType.Unknown

abbrev pub formals_of : Known → Callee → ExpectedFormals
formals_of k (Callee.Routine number levels heading) = formals_from (signature_at k heading).sections
formals_of k (Callee.Formal formal levels heading) = formals_from (signature_at k heading).sections
formals_of k (Callee.Required r) = required_formals r
formals_of k c = ExpectedFormals.Unknown

-- ---- calls

-- rule 3: the name stands for another kind of thing than a function
unfoldable pub function_named : ℕ → ℕ → Step Callee
function_named frame name = do
  found ← use_again frame name
  c ← look (λ k. callee_of k frame found)
  fine ← look (λ k. is_function k c)
  _ ← late 3 name fine
  give (if fine then c else Callee.Wrong)

-- rule 26: the number of actuals is wrong, at the routine's name. Then each actual's own parts alone are checked.
unfoldable pub count_checked : ℕ → Callee → ℕ → Step Called
count_checked name c n = do
  fine ← look (λ k. takes_count k c n)
  _ ← late 26 name fine
  known ← look (λ k. formals_of k c)
  give (record { callee = c; formals = if fine then known else ExpectedFormals.Unknown })

unfoldable pub called_function : ℕ → ℕ → ℕ → Step Called
called_function frame name n = do
  c ← function_named frame name
  count_checked name c n

-- ---- function designators

abbrev pub declared_type : Option ℕ → ExpressionType
declared_type (Some t) = ExpressionType.Of t
declared_type None = ExpressionType.Unknown

-- succ and pred take their type from the actual, which counts as of its host type
abbrev pub host_type : Shape → ExpressionType
host_type (Shape.Ordinal host) = ExpressionType.Of host
host_type s = ExpressionType.Unknown

abbrev pub required_type : Required → Shape → ExpressionType
required_type Required.Abs s = ExpressionType.Of 0
required_type Required.Sqr s = ExpressionType.Of 0
required_type Required.Odd s = ExpressionType.Of 1
required_type Required.Ord s = ExpressionType.Of 0
required_type Required.Chr s = ExpressionType.Of 2
required_type Required.Succ s = host_type s
required_type Required.Pred s = host_type s
required_type Required.Eof s = ExpressionType.Of 1
required_type Required.Eoln s = ExpressionType.Of 1
required_type r s = ExpressionType.Unknown

-- A function's type is the declared one, whatever its actuals break.
abbrev pub designator_type : Known → Callee → Typed → ExpressionType
designator_type k (Callee.Routine number levels heading) v = declared_type (signature_at k heading).result
designator_type k (Callee.Formal formal levels heading) v = declared_type (signature_at k heading).result
designator_type k (Callee.Required r) v = required_type r (shape_of k v.of)
designator_type k c v = ExpressionType.Unknown

abbrev pub bounds_in : Option TypeRow → ℤ × ℤ
bounds_in (Some (TypeRow.Ordinal least greatest)) = (least, greatest)
bounds_in r = (pos 0, pos 0)

abbrev pub host_bounds : Known → Shape → ℤ × ℤ
host_bounds k (Shape.Ordinal host) = bounds_in (type_at k host)
host_bounds k s = (pos 0, pos 0)

abbrev pub required_function_row : Known → Option OrdinalFunction → Typed → Row
required_function_row k (Some f) v = Row.Expression (written.Function f v.row
    (host_bounds k (shape_of k v.of)).0 (host_bounds k (shape_of k v.of)).1)
required_function_row k None v = Row.Nothing

abbrev pub required_row : Known → Required → Typed → Row
required_row k Required.Eof v = Row.Expression written.Eof
required_row k Required.Eoln v = Row.Expression written.Eoln
required_row k r v = required_function_row k (ordinal_function r) v

-- the row of a designator whose last actual this is and whose list of actuals has a number
abbrev pub designator_row : Known → Callee → Typed → ℕ → Row
designator_row k (Callee.Routine number levels heading) v actuals = Row.Expression (written.Apply number levels actuals)
designator_row k (Callee.Formal formal levels heading) v actuals =
    Row.Expression (written.ApplyFormal formal levels actuals)
designator_row k (Callee.Required r) v actuals = required_row k r v
designator_row k c v actuals = Row.Nothing

unfoldable pub applied : ℕ → Callee → Typed → ℕ → Step Typed
applied name c v actuals = do
  of' ← look (λ k. designator_type k c v)
  r ← look (λ k. designator_row k c v actuals)
  _ ← put name r
  give (typed_value name of')
