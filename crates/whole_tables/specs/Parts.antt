-- The parts of a construct, at most three, and which constructs they are parts of.
use Rattle.std.specs.Prelude.{if◌then◌else◌, ◌&&◌, ◌∷◌, [], ℕ, List, None, Option, Some, slice_get, slice_set, suc}
use Rattle.core_program.specs.{ProgramRows.ProgramRows, ProgramRows.row_at, declared.rows.StatementRow.StatementRow}
use Rattle.core_program.specs.WholeTables.{is_choice_row, is_common_row}
use Rattle.whole_tables.specs.declared.{once.Naming.Naming, parts.Parts.Parts}

abbrev pub listed : Parts → List ℕ
listed Parts.Nothing = []
listed (Parts.One a) = a ∷ []
listed (Parts.Two a b) = a ∷ b ∷ []
listed (Parts.Three a b c) = a ∷ b ∷ c ∷ []

-- the parts of a conditional, a repetitive or a with statement
abbrev pub structured_parts_of : StatementRow → List ℕ
structured_parts_of (StatementRow.If line condition then') = condition ∷ then' ∷ []
structured_parts_of (StatementRow.IfElse line condition then' otherwise) = condition ∷ then' ∷ otherwise ∷ []
structured_parts_of (StatementRow.Case line selector choices) = selector ∷ choices ∷ []
structured_parts_of (StatementRow.Repeat line statements condition) = statements ∷ condition ∷ []
structured_parts_of (StatementRow.While line condition body) = condition ∷ body ∷ []
structured_parts_of (StatementRow.For line initial turns) = initial ∷ turns ∷ []
structured_parts_of (StatementRow.Turns direction last place of' body) = last ∷ body ∷ []
structured_parts_of (StatementRow.With line records body) = records ∷ body ∷ []
structured_parts_of s = []

-- ---- which construct names each number

-- a construct names a number that another one names already
abbrev pub named_again : ProgramRows → List (Option Naming) → ℕ → Naming → Option (List (Option Naming))
named_again p column a other =
    if is_choice_row (row_at p a) && is_choice_row (row_at p other.construct) then Some column else None

abbrev pub named_by : ProgramRows → List (Option Naming) → (a i n : ℕ) → Option (Option Naming)
    → Option (List (Option Naming))
named_by p column a i n None = None
named_by p column a i n (Some None) = Some (slice_set column n (Some (record { construct = a; place = i })))
named_by p column a i n (Some (Some other)) = named_again p column a other

-- the column once a construct has named its part at a place; none where the number has another name that it may not
-- share
abbrev pub named : ProgramRows → List (Option Naming) → (a i n : ℕ) → Option (List (Option Naming))
named p column a i n =
    if is_common_row (row_at p n) then Some column else named_by p column a i n (slice_get column n)

abbrev pub named_on : Option (List (Option Naming)) → (List (Option Naming) → Option (List (Option Naming)))
    → Option (List (Option Naming))
named_on None go = None
named_on (Some column) go = go column

-- the same of each part from a place on
abbrev pub all_named : ProgramRows → List (Option Naming) → (a i : ℕ) → List ℕ → Option (List (Option Naming))
all_named p column a i [] = Some column
all_named p column a i (n ∷ ns) = named_on (named p column a i n) (λ next. all_named p next a (suc i) ns)
