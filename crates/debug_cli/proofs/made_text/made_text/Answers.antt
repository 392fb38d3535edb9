use Rattle.std.proofs.Common.{◌∙◌, ◌≤◌, ℕ, List, ap, length, subst, sym}
use Rattle.std.proofs.lemmas.Result.{err_from_is_err_and}
use Rattle.pas_lexer.specs.Limits.{source_bytes}
use Rattle.made_program.specs.Lines.{made_lines}
use Rattle.debuggee.specs.{Execution.Execution, Program.IsProgram, Subjects.subject_of}
use Rattle.debug_cli.proofs.{MadeSourceIsShort.made_short, RefusalsAreOwed.memory_refused, RefusalsAreOwed.source_refused}
use Rattle.debug_cli.proofs.made_text.made_text.Goals as goal
use Rattle.debug_cli.specs.Meaning.{Made}

pub read_source-requires : goal.read_source-requires
read_source-requires c =
    subst (λ (b : List ℕ). length b ≤ source_bytes) (sym (c.as_slice.ensures ∙ c.in_ok-source.ensures.text))
    (made_short c.args.number c.requires.0 c.requires.1)

pub returns-in_err-source-clause-refused : goal.returns-in_err-source-clause-refused
returns-in_err-source-clause-refused c = λ x.
    let p = err_from_is_err_and c.from_residual.result c.from_residual.ensures.1 in rw (p.1, p.2) (memory_refused (Made c.args.number) x)

pub returns-in_err-program-clause-refused : goal.returns-in_err-program-clause-refused
returns-in_err-program-clause-refused c = λ x.
    let p = err_from_is_err_and c.from_residual-in_err-program.result c.from_residual-in_err-program.ensures.1 in
    rw (p.1, p.2)
    (source_refused (Made c.args.number) x c.as_slice.result.now (c.as_slice.ensures ∙ c.in_ok-source.ensures.text) c.in_err-program.field-0.0
    c.in_err-program.ensures.refused)

pub returns-in_err-debuggee-clause-refused : goal.returns-in_err-debuggee-clause-refused
returns-in_err-debuggee-clause-refused c = λ x.
    let p = err_from_is_err_and c.from_residual-in_err-debuggee.result c.from_residual-in_err-debuggee.ensures.1 in
    rw (p.1, p.2) (memory_refused (Made c.args.number) x)

pub returns-in_err-text-clause-refused : goal.returns-in_err-text-clause-refused
returns-in_err-text-clause-refused c = λ x.
    let p = err_from_is_err_and c.from_residual-in_err-text.result c.from_residual-in_err-text.ensures.1 in
    rw (p.1, p.2) (memory_refused (Made c.args.number) x)

pub returns-clause-text : goal.returns-clause-text
returns-clause-text c = (
  record {
    tokens = c.in_ok-program.program.tokens;
    rows = c.in_ok-program.program.program;
    program = subst (λ (b : List ℕ). IsProgram b c.in_ok-program.program.tokens c.in_ok-program.program.program)
        (c.as_slice.ensures ∙ c.in_ok-source.ensures.text) c.in_ok-program.ensures.found;
  },
  c.in_ok-text.ensures.lines ∙ ap (λ (h : Execution). made_lines (subject_of h)) c.in_ok-debuggee.ensures.kept,
)
