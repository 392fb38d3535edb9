-- What the steps of `Rattle.check_steps.specs.Required` break.
use Rattle.std.proofs.Common.{None, negsuc, pos}
use Rattle.core_program.specs.declared.rows.{NameRow.NameRow, Required.Required, Row.Row, TypeRow.TheVariants.Ordinal}
use Rattle.core_program.specs.declared.rows.TextFile.TheVariants.{Input, Output}
use Rattle.check_steps.specs.Required.{all_names, arithmetic_names, constant_names, file_names, moving_names, open_outermost, ordinal_names, ordinal_types}
use Rattle.check_steps.specs.Required.{reading_names, routine_names, type_names, writing_names}
use Rattle.rule_laws.proofs.Plain.{Aim, Plain, Solely, bind-solely, give-solely, open_region-plain, put-plain, require-plain}

pub ordinal_types-plain : {aim : Aim} (kept : Plain aim) → Solely aim (ordinal_types)
unfolding ordinal_types
ordinal_types-plain kept = bind-solely (put-plain kept 0 (Row.Type (Ordinal (negsuc 2147483646) (pos 2147483647)))) (λ _.
    bind-solely (put-plain kept 1 (Row.Type (Ordinal (pos 0) (pos 1)))) (λ _. put-plain kept 2 (Row.Type (Ordinal (pos 0) (pos 255)))))

pub type_names-plain : {aim : Aim} (kept : Plain aim) → Solely aim (type_names)
unfolding type_names
type_names-plain kept = bind-solely (require-plain kept 0 (NameRow.TypeName 0)) (λ _. bind-solely (require-plain kept 1 (NameRow.TypeName 1)) (λ _.
    require-plain kept 2 (NameRow.TypeName 2)))

pub constant_names-plain : {aim : Aim} (kept : Plain aim) → Solely aim (constant_names)
unfolding constant_names
constant_names-plain kept = bind-solely (require-plain kept 3 (NameRow.Constant 1 (pos 0))) (λ _.
    bind-solely (require-plain kept 4 (NameRow.Constant 1 (pos 1))) (λ _. require-plain kept 5 (NameRow.Constant 0 (pos 2147483647))))

pub arithmetic_names-plain : {aim : Aim} (kept : Plain aim) → Solely aim (arithmetic_names)
unfolding arithmetic_names
arithmetic_names-plain kept = bind-solely (require-plain kept 6 (NameRow.Required Required.Abs)) (λ _.
    bind-solely (require-plain kept 7 (NameRow.Required Required.Sqr)) (λ _. require-plain kept 8 (NameRow.Required Required.Odd)))

pub ordinal_names-plain : {aim : Aim} (kept : Plain aim) → Solely aim (ordinal_names)
unfolding ordinal_names
ordinal_names-plain kept = bind-solely (require-plain kept 9 (NameRow.Required Required.Ord)) (λ _.
    bind-solely (require-plain kept 10 (NameRow.Required Required.Chr)) (λ _. bind-solely (require-plain kept 11 (NameRow.Required Required.Succ)) (λ _.
    require-plain kept 12 (NameRow.Required Required.Pred))))

pub reading_names-plain : {aim : Aim} (kept : Plain aim) → Solely aim (reading_names)
unfolding reading_names
reading_names-plain kept = bind-solely (require-plain kept 13 (NameRow.Required Required.Eof)) (λ _.
    bind-solely (require-plain kept 14 (NameRow.Required Required.Eoln))
    (λ _. bind-solely (require-plain kept 15 (NameRow.Required Required.Read)) (λ _.
    require-plain kept 16 (NameRow.Required Required.Readln))))

pub writing_names-plain : {aim : Aim} (kept : Plain aim) → Solely aim (writing_names)
unfolding writing_names
writing_names-plain kept = bind-solely (require-plain kept 17 (NameRow.Required Required.Write)) (λ _.
    bind-solely (require-plain kept 18 (NameRow.Required Required.Writeln)) (λ _. require-plain kept 19 (NameRow.Required Required.Page)))

pub moving_names-plain : {aim : Aim} (kept : Plain aim) → Solely aim (moving_names)
unfolding moving_names
moving_names-plain kept = bind-solely (require-plain kept 20 (NameRow.Required Required.New)) (λ _.
    bind-solely (require-plain kept 21 (NameRow.Required Required.Dispose))
    (λ _. bind-solely (require-plain kept 22 (NameRow.Required Required.Pack)) (λ _.
    require-plain kept 23 (NameRow.Required Required.Unpack))))

pub file_names-plain : {aim : Aim} (kept : Plain aim) → Solely aim (file_names)
unfolding file_names
file_names-plain kept = bind-solely (require-plain kept 24 (NameRow.TextFile Input)) (λ _. require-plain kept 25 (NameRow.TextFile Output))

pub routine_names-plain : {aim : Aim} (kept : Plain aim) → Solely aim (routine_names)
unfolding routine_names
routine_names-plain kept = bind-solely (arithmetic_names-plain kept) (λ _. bind-solely (ordinal_names-plain kept) (λ _.
    bind-solely (reading_names-plain kept) (λ _. bind-solely (writing_names-plain kept) (λ _. moving_names-plain kept))))

pub all_names-plain : {aim : Aim} (kept : Plain aim) → Solely aim (all_names)
unfolding all_names
all_names-plain kept = bind-solely (type_names-plain kept) (λ _. bind-solely (constant_names-plain kept) (λ _. bind-solely (routine_names-plain kept) (λ _.
    file_names-plain kept)))

pub open_outermost-plain : {aim : Aim} (kept : Plain aim) → Solely aim (open_outermost)
unfolding open_outermost
open_outermost-plain kept = bind-solely (open_region-plain kept 0 None 0) (λ frame. bind-solely (ordinal_types-plain kept) (λ _.
    bind-solely (all_names-plain kept) (λ _. give-solely frame)))
