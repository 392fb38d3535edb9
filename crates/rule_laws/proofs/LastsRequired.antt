-- What the steps of `Rattle.check_steps.specs.Required` leave as it was.
use Rattle.std.proofs.Common.{None, negsuc, pos, refl}
use Rattle.pas_tree.specs.BlockTrees.{RoutineTree}
use Rattle.core_program.specs.declared.rows.{NameRow.NameRow, Required.Required, Row.Row, TypeRow.TheVariants.Ordinal}
use Rattle.core_program.specs.declared.rows.TextFile.TheVariants.{Input, Output}
use Rattle.check_steps.specs.{Known.Known, Required.reading_names, Required.routine_names, Required.type_names, Required.writing_names}
use Rattle.check_steps.specs.Required.{all_names, arithmetic_names, constant_names, file_names, moving_names, open_outermost, ordinal_names, ordinal_types}
use Rattle.rule_laws.proofs.Keeping.{Keeps, bind-keeps, give-keeps}
use Rattle.rule_laws.proofs.Lasting.{Lasting, open_region-lasts, put-lasts, require-lasts}

pub ordinal_types-lasts : {G : RoutineTree → Type 0} {I : Known → Type 0} (kept : Lasting G I) → Keeps I (ordinal_types)
unfolding ordinal_types
ordinal_types-lasts kept = bind-keeps (put-lasts kept 0 (Row.Type (Ordinal (negsuc 2147483646) (pos 2147483647))) refl) (λ _.
    bind-keeps (put-lasts kept 1 (Row.Type (Ordinal (pos 0) (pos 1))) refl) (λ _. put-lasts kept 2 (Row.Type (Ordinal (pos 0) (pos 255))) refl))

pub type_names-lasts : {G : RoutineTree → Type 0} {I : Known → Type 0} (kept : Lasting G I) → Keeps I (type_names)
unfolding type_names
type_names-lasts kept = bind-keeps (require-lasts kept 0 (NameRow.TypeName 0) refl) (λ _. bind-keeps (require-lasts kept 1 (NameRow.TypeName 1) refl) (λ _.
    require-lasts kept 2 (NameRow.TypeName 2) refl))

pub constant_names-lasts : {G : RoutineTree → Type 0} {I : Known → Type 0} (kept : Lasting G I) → Keeps I (constant_names)
unfolding constant_names
constant_names-lasts kept = bind-keeps (require-lasts kept 3 (NameRow.Constant 1 (pos 0)) refl) (λ _.
    bind-keeps (require-lasts kept 4 (NameRow.Constant 1 (pos 1)) refl) (λ _. require-lasts kept 5 (NameRow.Constant 0 (pos 2147483647)) refl))

pub arithmetic_names-lasts : {G : RoutineTree → Type 0} {I : Known → Type 0} (kept : Lasting G I) → Keeps I (arithmetic_names)
unfolding arithmetic_names
arithmetic_names-lasts kept = bind-keeps (require-lasts kept 6 (NameRow.Required Required.Abs) refl) (λ _.
    bind-keeps (require-lasts kept 7 (NameRow.Required Required.Sqr) refl) (λ _. require-lasts kept 8 (NameRow.Required Required.Odd) refl))

pub ordinal_names-lasts : {G : RoutineTree → Type 0} {I : Known → Type 0} (kept : Lasting G I) → Keeps I (ordinal_names)
unfolding ordinal_names
ordinal_names-lasts kept = bind-keeps (require-lasts kept 9 (NameRow.Required Required.Ord) refl) (λ _.
    bind-keeps (require-lasts kept 10 (NameRow.Required Required.Chr) refl) (λ _. bind-keeps (require-lasts kept 11 (NameRow.Required Required.Succ) refl) (λ _.
    require-lasts kept 12 (NameRow.Required Required.Pred) refl)))

pub reading_names-lasts : {G : RoutineTree → Type 0} {I : Known → Type 0} (kept : Lasting G I) → Keeps I (reading_names)
unfolding reading_names
reading_names-lasts kept = bind-keeps (require-lasts kept 13 (NameRow.Required Required.Eof) refl) (λ _.
    bind-keeps (require-lasts kept 14 (NameRow.Required Required.Eoln) refl)
    (λ _. bind-keeps (require-lasts kept 15 (NameRow.Required Required.Read) refl) (λ _.
    require-lasts kept 16 (NameRow.Required Required.Readln) refl)))

pub writing_names-lasts : {G : RoutineTree → Type 0} {I : Known → Type 0} (kept : Lasting G I) → Keeps I (writing_names)
unfolding writing_names
writing_names-lasts kept = bind-keeps (require-lasts kept 17 (NameRow.Required Required.Write) refl) (λ _.
    bind-keeps (require-lasts kept 18 (NameRow.Required Required.Writeln) refl) (λ _. require-lasts kept 19 (NameRow.Required Required.Page) refl))

pub moving_names-lasts : {G : RoutineTree → Type 0} {I : Known → Type 0} (kept : Lasting G I) → Keeps I (moving_names)
unfolding moving_names
moving_names-lasts kept = bind-keeps (require-lasts kept 20 (NameRow.Required Required.New) refl) (λ _.
    bind-keeps (require-lasts kept 21 (NameRow.Required Required.Dispose) refl)
    (λ _. bind-keeps (require-lasts kept 22 (NameRow.Required Required.Pack) refl) (λ _.
    require-lasts kept 23 (NameRow.Required Required.Unpack) refl)))

pub file_names-lasts : {G : RoutineTree → Type 0} {I : Known → Type 0} (kept : Lasting G I) → Keeps I (file_names)
unfolding file_names
file_names-lasts kept = bind-keeps (require-lasts kept 24 (NameRow.TextFile Input) refl) (λ _. require-lasts kept 25 (NameRow.TextFile Output) refl)

pub routine_names-lasts : {G : RoutineTree → Type 0} {I : Known → Type 0} (kept : Lasting G I) → Keeps I (routine_names)
unfolding routine_names
routine_names-lasts kept = bind-keeps (arithmetic_names-lasts kept) (λ _. bind-keeps (ordinal_names-lasts kept) (λ _.
    bind-keeps (reading_names-lasts kept) (λ _. bind-keeps (writing_names-lasts kept) (λ _. moving_names-lasts kept))))

pub all_names-lasts : {G : RoutineTree → Type 0} {I : Known → Type 0} (kept : Lasting G I) → Keeps I (all_names)
unfolding all_names
all_names-lasts kept = bind-keeps (type_names-lasts kept) (λ _. bind-keeps (constant_names-lasts kept) (λ _. bind-keeps (routine_names-lasts kept) (λ _.
    file_names-lasts kept)))

pub open_outermost-lasts : {G : RoutineTree → Type 0} {I : Known → Type 0} (kept : Lasting G I) → Keeps I (open_outermost)
unfolding open_outermost
open_outermost-lasts kept = bind-keeps (open_region-lasts kept 0 None 0) (λ frame. bind-keeps (ordinal_types-lasts kept) (λ _.
    bind-keeps (all_names-lasts kept) (λ _. give-keeps frame)))
