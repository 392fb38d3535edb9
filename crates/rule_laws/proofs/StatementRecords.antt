-- What the steps of `Rattle.statement_checker.specs.Records` touch.
use Rattle.std.proofs.Common.{◌≡◌, ℕ, Option, false, refl}
use Rattle.core_program.specs.declared.rows.StatementRow.TheVariants as statement
use Rattle.decl_checker.specs.Statements.{fields_in}
use Rattle.expression_checker.specs.{Selectors.is_record, Selectors.type_row, declared.typed.Typed.Typed}
use Rattle.statement_checker.specs.{Records.inside_record, Records.put_with, Sequences.line_of}
use Rattle.rule_laws.proofs.{Every.Of, Faces.Shown, InsideOf.inside_of-touches, StatementSequences.stated-touches}
use Rattle.rule_laws.proofs.Touches.{Touches, bind-touches, late-touches, look-touches}

pub inside_record-touches : {Q : ℕ → Type 0} {strict : Shown} → strict.frames ≡ false → (frame : ℕ) (first : ℕ) (v : Typed) → Of Q first
    → Touches Q strict (inside_record frame first v)
unfolding inside_record
inside_record-touches lax frame first v first-in = bind-touches (look-touches (λ k. type_row k v.of))
    (λ r. bind-touches (late-touches 23 first (is_record r) refl first-in)
    (λ _. inside_of-touches lax frame (fields_in r)))

pub put_with-touches : {Q : ℕ → Type 0} {strict : Shown} (label : Option ℕ) (word : ℕ) (do_word : ℕ) (body : ℕ) → Of Q do_word
    → Touches Q strict (put_with label word do_word body)
unfolding put_with
put_with-touches label word do_word body word-in =
    bind-touches (look-touches (λ k. line_of k label word)) (λ line. stated-touches do_word (statement.With line word body) word-in)
