-- What the steps of `Rattle.statement_checker.specs.Records` keep.
use Rattle.std.proofs.Common.{◌<◌, ℕ, Bool, Option, refl}
use Rattle.core_program.specs.declared.rows.StatementRow.TheVariants as statement
use Rattle.decl_checker.specs.Statements.{fields_in}
use Rattle.expression_checker.specs.{Selectors.is_record, Selectors.type_row, declared.typed.Typed.Typed}
use Rattle.statement_checker.specs.{Records.inside_record, Records.put_with, Sequences.line_of}
use Rattle.code_checker.proofs.{DeclareStatements.inside_of-holds, StatementSequences.stated-holds}
use Rattle.code_checker.proofs.Steps.{Holds, bind-holds, late-holds, look-holds}

pub inside_record-holds : {size : ℕ} {later : Bool} (frame : ℕ) (first : ℕ) (v : Typed) → first < size → Holds size later (inside_record frame first v)
unfolding inside_record
inside_record-holds frame first v first-in = bind-holds (look-holds (λ k. type_row k v.of)) (λ r. bind-holds (late-holds 23 first (is_record r) refl first-in)
    (λ _. inside_of-holds frame (fields_in r)))

pub put_with-holds : {size : ℕ} {later : Bool} (label : Option ℕ) (word : ℕ) (do_word : ℕ) (body : ℕ) → Holds size later (put_with label word do_word body)
unfolding put_with
put_with-holds label word do_word body = bind-holds (look-holds (λ k. line_of k label word)) (λ line. stated-holds do_word (statement.With line word body))
