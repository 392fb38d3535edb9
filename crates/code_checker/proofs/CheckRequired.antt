-- What the steps of `Rattle.check_steps.specs.Required` keep.
use Rattle.std.proofs.Common.{◌+◌, ℕ, Bool, None, is_none, length, negsuc, pos}
use Rattle.core_program.specs.declared.rows.{NameRow.NameRow, Required.Required, Row.Row, TypeRow.TheVariants.Ordinal}
use Rattle.core_program.specs.declared.rows.TextFile.TheVariants.{Input, Output}
use Rattle.check_steps.specs.Regions.{defined_in}
use Rattle.check_steps.specs.Required.{all_names, arithmetic_names, constant_names, file_names, moving_names, open_outermost, ordinal_names, ordinal_types}
use Rattle.check_steps.specs.Required.{reading_names, require, required_def, routine_names, type_names, writing_names}
use Rattle.code_checker.proofs.Steps.{Holds, add_definition-holds, bind-holds, give-holds, look-holds, open_region-holds, put-holds, when-holds}

pub require-holds : {size : ℕ} {later : Bool} (name : ℕ) (r : NameRow) → Holds size later (require name r)
unfolding require
require-holds name r = bind-holds (look-holds (λ k. length k.words)) (λ first. bind-holds (look-holds (λ k. defined_in k.regions 0 name)) (λ held.
    bind-holds (put-holds (first + name) (Row.Name r)) (λ _.
    when-holds (is_none held) (add_definition-holds 0 name (record { def = required_def r (first + name); token = first + name; end = 0 })))))

pub ordinal_types-holds : {size : ℕ} {later : Bool} → Holds size later (ordinal_types)
unfolding ordinal_types
ordinal_types-holds = bind-holds (put-holds 0 (Row.Type (Ordinal (negsuc 2147483646) (pos 2147483647)))) (λ _.
    bind-holds (put-holds 1 (Row.Type (Ordinal (pos 0) (pos 1)))) (λ _. put-holds 2 (Row.Type (Ordinal (pos 0) (pos 255)))))

pub type_names-holds : {size : ℕ} {later : Bool} → Holds size later (type_names)
unfolding type_names
type_names-holds = bind-holds (require-holds 0 (NameRow.TypeName 0)) (λ _. bind-holds (require-holds 1 (NameRow.TypeName 1)) (λ _.
    require-holds 2 (NameRow.TypeName 2)))

pub constant_names-holds : {size : ℕ} {later : Bool} → Holds size later (constant_names)
unfolding constant_names
constant_names-holds = bind-holds (require-holds 3 (NameRow.Constant 1 (pos 0))) (λ _. bind-holds (require-holds 4 (NameRow.Constant 1 (pos 1))) (λ _.
    require-holds 5 (NameRow.Constant 0 (pos 2147483647))))

pub arithmetic_names-holds : {size : ℕ} {later : Bool} → Holds size later (arithmetic_names)
unfolding arithmetic_names
arithmetic_names-holds = bind-holds (require-holds 6 (NameRow.Required Required.Abs)) (λ _. bind-holds (require-holds 7 (NameRow.Required Required.Sqr))
    (λ _. require-holds 8 (NameRow.Required Required.Odd)))

pub ordinal_names-holds : {size : ℕ} {later : Bool} → Holds size later (ordinal_names)
unfolding ordinal_names
ordinal_names-holds = bind-holds (require-holds 9 (NameRow.Required Required.Ord)) (λ _. bind-holds (require-holds 10 (NameRow.Required Required.Chr)) (λ _.
    bind-holds (require-holds 11 (NameRow.Required Required.Succ)) (λ _. require-holds 12 (NameRow.Required Required.Pred))))

pub reading_names-holds : {size : ℕ} {later : Bool} → Holds size later (reading_names)
unfolding reading_names
reading_names-holds = bind-holds (require-holds 13 (NameRow.Required Required.Eof)) (λ _. bind-holds (require-holds 14 (NameRow.Required Required.Eoln))
    (λ _. bind-holds (require-holds 15 (NameRow.Required Required.Read)) (λ _. require-holds 16 (NameRow.Required Required.Readln))))

pub writing_names-holds : {size : ℕ} {later : Bool} → Holds size later (writing_names)
unfolding writing_names
writing_names-holds = bind-holds (require-holds 17 (NameRow.Required Required.Write)) (λ _. bind-holds (require-holds 18 (NameRow.Required Required.Writeln))
    (λ _. require-holds 19 (NameRow.Required Required.Page)))

pub moving_names-holds : {size : ℕ} {later : Bool} → Holds size later (moving_names)
unfolding moving_names
moving_names-holds = bind-holds (require-holds 20 (NameRow.Required Required.New)) (λ _. bind-holds (require-holds 21 (NameRow.Required Required.Dispose))
    (λ _. bind-holds (require-holds 22 (NameRow.Required Required.Pack)) (λ _. require-holds 23 (NameRow.Required Required.Unpack))))

pub file_names-holds : {size : ℕ} {later : Bool} → Holds size later (file_names)
unfolding file_names
file_names-holds = bind-holds (require-holds 24 (NameRow.TextFile Input)) (λ _. require-holds 25 (NameRow.TextFile Output))

pub routine_names-holds : {size : ℕ} {later : Bool} → Holds size later (routine_names)
unfolding routine_names
routine_names-holds = bind-holds arithmetic_names-holds (λ _. bind-holds ordinal_names-holds (λ _. bind-holds reading_names-holds (λ _. bind-holds
    writing_names-holds (λ _. moving_names-holds))))

pub all_names-holds : {size : ℕ} {later : Bool} → Holds size later (all_names)
unfolding all_names
all_names-holds = bind-holds type_names-holds (λ _. bind-holds constant_names-holds (λ _. bind-holds routine_names-holds (λ _. file_names-holds)))

pub open_outermost-holds : {size : ℕ} {later : Bool} → Holds size later (open_outermost)
unfolding open_outermost
open_outermost-holds = bind-holds (open_region-holds 0 None 0) (λ frame. bind-holds ordinal_types-holds (λ _. bind-holds all_names-holds (λ _.
    give-holds frame)))
