-- Actual parameters against formal ones (6.6.3, 6.7.3).
use Rattle.std.specs.Prelude.{if◌then◌else◌, ◌&&◌, ◌+◌, ◌||◌, ℕ, Bool, None, Option, Some, false, nat_eq, nat_lt, true}
use Rattle.core_program.specs.declared.rows.{ItemRow.ItemRow, Mode.Mode, NameRow.NameRow, Row.Row}
use Rattle.core_program.specs.declared.rows.OrdinalFunction.{OrdinalFunction}
use Rattle.core_program.specs.declared.rows.TextFile.{TextFile, TheVariants.Input, TheVariants.Output}
use Rattle.check_steps.specs.{Items.add_item, Names.usable, Names.use_again}
use Rattle.check_steps.specs.Known.{Known, find, name_at, row_at, type_at}
use Rattle.check_steps.specs.Steps.{◌>>=◌, Step, give, late, look}
use Rattle.check_steps.specs.declared.{headings.FormalSection.FormalSection, regions.Found.Found}
use Rattle.kind_checker.specs.{Headings.congruous, Headings.section_at, Operators.is_operand, Operators.is_ordinal}
use Rattle.kind_checker.specs.{Operators.is_unknown_shape, Shapes.is_assignable, Shapes.is_same_type, Shapes.shape_of}
use Rattle.kind_checker.specs.Conformable.{is_conformable, is_conformant, is_measured, measure_after}
use Rattle.kind_checker.specs.declared.shapes.{ExpressionType.ExpressionType, Shape.Shape}
use Rattle.expression_checker.specs.{Callees.callee_of, Callees.formals_from, Threats.threat_alone, Typed.unknown_at}
use Rattle.expression_checker.specs.declared.actuals.{Argument.Argument, Lone.Lone, Passing.Passing}
use Rattle.expression_checker.specs.declared.actuals.ExpectedFormal.{ExpectedFormal}
use Rattle.expression_checker.specs.declared.actuals.ExpectedFormal.TheVariants as formal
use Rattle.expression_checker.specs.declared.callees.{Callee.Callee, ExpectedFormals.ExpectedFormals}
use Rattle.expression_checker.specs.declared.typed.{Location.Location, Typed.Typed}

-- ---- the formal parameter of the next actual

abbrev pub is_copied : Mode → Bool
is_copied Mode.Copy = true
is_copied m = false

-- a variable or a value parameter of a type, or a conformant one
abbrev pub formal_of : (conformant : Bool) → Mode → (of' passed : ℕ) → (measure : ExpressionType) → ExpectedFormal
formal_of true m of' passed measure = formal.Array (is_copied m) (nat_eq passed 0) of' measure
formal_of false Mode.Place of' passed measure = formal.Variable of'
formal_of false m of' passed measure = formal.Value of'

-- the parameter of a section, of which this many are passed
abbrev pub formal_in : Known → (passed : ℕ) → (measure : ExpressionType) → Option (FormalSection × ℕ) → ExpectedFormal
formal_in k passed measure None = formal.Unknown
formal_in k passed measure (Some (FormalSection.Names m of' count, next)) =
    formal_of (is_conformant (type_at k of')) m of' passed measure
formal_in k passed measure (Some (FormalSection.Heading heading, next)) = formal.Routine heading

abbrev pub formal_at : Known → ExpectedFormals → ExpectedFormal
formal_at k ExpectedFormals.Unknown = formal.Unknown
formal_at k (ExpectedFormals.Declared section passed measure) = formal_in k passed measure (section_at k section)
formal_at k ExpectedFormals.File = formal.File
formal_at k (ExpectedFormals.Operand f) = formal.Operand f

abbrev pub after_section : Option (FormalSection × ℕ) → (at passed : ℕ) → (measure : ExpressionType) → ExpectedFormals
after_section None at passed measure = ExpectedFormals.Unknown
after_section (Some (FormalSection.Names m of' count, next)) at passed measure =
    if nat_lt (passed + 1) count then ExpectedFormals.Declared at (passed + 1) measure else formals_from next
after_section (Some (FormalSection.Heading heading, next)) at passed measure = formals_from next

-- the formal parameters after one that is passed an actual of a type
abbrev pub formals_after : Known → ExpectedFormals → ExpressionType → ExpectedFormals
formals_after k (ExpectedFormals.Declared section passed measure) of' =
    after_section (section_at k section) section passed (measure_after k measure of')
formals_after k f of' = ExpectedFormals.Unknown

-- ---- a value or a variable as an actual

abbrev pub is_of_type : Known → ℕ → ExpressionType → Bool
is_of_type k t (ExpressionType.Of u) = is_same_type k t u
is_of_type k t of' = false

abbrev pub is_free : Location → Bool
is_free Location.Variable = true
is_free l = false

-- An access of the same type, no component of a packed variable and no tag field. An actual of unknown type breaks no
-- further rule.
abbrev pub is_variable_actual : Known → ℕ → Typed → Bool
is_variable_actual k t v = is_unknown_shape (shape_of k v.of) || (is_free v.location && is_of_type k t v.of)

-- What a conformant parameter takes: a value that conforms to its schema; by reference an access of one that is no
-- component of a packed variable and no tag field. An actual of unknown type breaks no further rule.
abbrev pub is_array_actual : Known → (copied : Bool) → (of' : ℕ) → Typed → Bool
is_array_actual k true of' v = is_conformable k of' v.of
is_array_actual k false of' v =
    is_unknown_shape (shape_of k v.of) || (is_free v.location && is_conformable k of' v.of)

-- abs, sqr, odd and chr take an integer; ord, succ and pred an ordinal
abbrev pub is_argument : OrdinalFunction → Shape → Bool
is_argument OrdinalFunction.Ord s = is_ordinal s
is_argument OrdinalFunction.Succ s = is_ordinal s
is_argument OrdinalFunction.Pred s = is_ordinal s
is_argument f s = is_operand 0 s

-- What an actual is to be. A name alone of a routine, and of a text file, is looked at elsewhere.
abbrev pub is_actual : Known → ExpectedFormal → Typed → Bool
is_actual k formal.Unknown v = true
is_actual k (formal.Value of') v = is_assignable k of' v.of
is_actual k (formal.Variable of') v = is_variable_actual k of' v
is_actual k (formal.Array copied first of' measure) v = is_array_actual k copied of' v
is_actual k (formal.Routine heading) v = is_unknown_shape (shape_of k v.of)
is_actual k formal.File v = is_unknown_shape (shape_of k v.of)
is_actual k (formal.Operand f) v = is_argument f (shape_of k v.of)

-- rule 27: a value actual is not assignment-compatible, or not conformable with its schema
-- rule 28: a variable actual is not an access of the same type or conformable with its schema, or is a component of a
--          packed variable, or a tag field
-- rule 29: a routine actual is not the name of a routine
-- rule 32: an actual of a required routine is not as it is to be
abbrev pub rule_of : ExpectedFormal → ℕ
rule_of formal.Unknown = 27
rule_of (formal.Value of') = 27
rule_of (formal.Variable of') = 28
rule_of (formal.Array true first of' measure) = 27
rule_of (formal.Array false first of' measure) = 28
rule_of (formal.Routine heading) = 29
rule_of formal.File = 32
rule_of (formal.Operand f) = 32

abbrev pub item_of : ExpectedFormal → Typed → Option ItemRow
item_of (formal.Value of') v = Some (ItemRow.Value v.row of' 0)
item_of (formal.Variable of') v = Some (ItemRow.Place v.row 0)
item_of (formal.Array true first of' measure) v = Some (ItemRow.ArrayValue first v.row of' 0)
item_of (formal.Array false first of' measure) v = Some (ItemRow.ArrayPlace first v.row of' 0)
item_of f v = None

-- A required function that takes its type from its actual takes it from this.
abbrev pub operand_in : ExpectedFormal → Typed → Typed
operand_in (formal.Operand f) v = v
operand_in f v = unknown_at v.row

abbrev pub is_of_section : Known → ExpectedFormal → ExpressionType → Bool
is_of_section k (formal.Array copied first of' measure) t = is_measured k measure t
is_of_section k f t = true

-- An actual, once its parts are checked, which begins at a first token. Rule 35: an actual of a conformant section is
-- not of the type of that section's first actual.
unfoldable pub argued : ExpectedFormal → ℕ → Typed → Step Argument
argued f first v = do
  fine ← look (λ k. is_actual k f v)
  _ ← late (rule_of f) first fine
  one ← look (λ k. is_of_section k f v.of)
  _ ← late 35 first one
  give (record { item = item_of f v; of = v.of; value = operand_in f v })

-- ---- names alone as actuals

abbrev pub file_in : Row → Option TextFile
file_in (Row.Name (NameRow.TextFile file)) = Some file
file_in r = None

abbrev pub file_of : Known → Option Found → Option TextFile
file_of k None = None
file_of k (Some f) = file_in (row_at k f.definition.token)

abbrev pub lone_file : ℕ → Option TextFile → Lone
lone_file name (Some file) = Lone.File name file
lone_file name None = Lone.None

-- What is passed by a name alone: to a routine parameter the name of a routine, whatever it stands for; and a text
-- file, where one may stand.
abbrev pub lone_of : Known → ℕ → ExpectedFormal → Option ℕ → Lone
lone_of k frame (formal.Routine heading) (Some name) = Lone.Routine name heading
lone_of k frame formal.File (Some name) = lone_file name (file_of k (usable name (find k frame (name_at k name))))
lone_of k frame f name = Lone.None

abbrev pub is_congruous : Known → ℕ → Callee → Bool
is_congruous k heading Callee.Unknown = true
is_congruous k heading (Callee.Routine number levels other) = congruous k heading other
is_congruous k heading (Callee.Formal name levels other) = congruous k heading other
is_congruous k heading c = false

abbrev pub routine_item : Callee → Option ItemRow
routine_item (Callee.Routine number levels heading) = Some (ItemRow.Routine number levels 0)
routine_item (Callee.Formal name levels heading) = Some (ItemRow.RoutineFormal name levels 0)
routine_item c = None

-- rule 29: a routine actual is not the name of a routine that is not required, of that kind, with congruous formals and
-- the same result type
unfoldable pub routine_argued : ℕ → ℕ → ℕ → Step Argument
routine_argued frame name heading = do
  found ← use_again frame name
  c ← look (λ k. callee_of k frame found)
  fine ← look (λ k. is_congruous k heading c)
  _ ← late 29 name fine
  give (record { item = routine_item c; of = ExpressionType.Unknown; value = unknown_at name })

abbrev pub is_input : TextFile → Bool
is_input Input = true
is_input Output = false

-- rule 32: eof and eoln ask of the input
unfoldable pub file_argued : ℕ → TextFile → Step Argument
file_argued name file = do
  _ ← late 32 name (is_input file)
  give (record { item = None; of = ExpressionType.Unknown; value = unknown_at name })

-- an actual by what is passed by a name alone, and else by walking it
abbrev pub argued_as : ℕ → ExpectedFormal → Lone → ℕ → Step Typed → Step Argument
argued_as frame f Lone.None first walk = walk >>= λ v. argued f first v
argued_as frame f (Lone.Routine name heading) first walk = routine_argued frame name heading
argued_as frame f (Lone.File name file) first walk = file_argued name file

-- A variable as a whole that is passed to a variable parameter is threatened.
abbrev pub threat_by : ℕ → ExpectedFormal → Option ℕ → Step (Unit {0})
threat_by frame (formal.Variable of') name = threat_alone frame name
threat_by frame (formal.Array false first of' measure) name = threat_alone frame name
threat_by frame f name = give tt

-- ---- lists of actuals

-- an actual's item, if it has one, at the end of its list; where the last one stands is given
abbrev pub item_if_any : ℕ → ℕ → Option ItemRow → Step ℕ
item_if_any last slot None = give last
item_if_any last slot (Some i) = add_item last slot i

unfoldable pub passed : Passing → ℕ → Argument → Step Passing
passed p slot a = do
  last ← item_if_any p.last slot a.item
  next ← look (λ k. formals_after k p.formals a.of)
  give (record { last = last; formals = next; value = a.value })

-- One more actual, at a slot: it is a name alone or none, begins at a first token, and is walked by a step.
unfoldable pub actual_by : ℕ → Passing → ℕ → Option ℕ → ℕ → Step Typed → Step Passing
actual_by frame p slot name first walk = do
  f ← look (λ k. formal_at k p.formals)
  _ ← threat_by frame f name
  l ← look (λ k. lone_of k frame f name)
  a ← argued_as frame f l first walk
  passed p slot a
