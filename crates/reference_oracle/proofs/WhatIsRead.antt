-- What comes of bytes is what comes of their tokens, and of their tree.
use Rattle.std.proofs.Common.{ℕ, Err, IfErr, IfOk, List, Ok, Result}
use Rattle.pas_lexer.specs.Lexed.{Lexed}
use Rattle.pas_tree.specs.declared.blocks.Tree.{Tree}
use Rattle.core_program.specs.ProgramRows.{ProgramRows}
use Rattle.code_checker.specs.{Declarations.HasTokens, Declarations.IsTextOf, Programs.IsChecked, Programs.IsDenotedBy}
use Rattle.reference_oracle.specs.Reading.{IsBrokenReference, IsSourceOf, IsUncheckedReference, IsUnlexedReference, IsUnparsedReference, IsUnreadReference}
use Rattle.reference_oracle.specs.declared.faults.RefFault.{RefFault}

-- ---- from a tree

pub program_of_tree : (t : Lexed) (x : Tree) (r : Result ProgramRows RefFault) → IsTextOf t x → IfOk r (IsDenotedBy t x) → IfOk r (IsChecked t)
program_of_tree t x (Ok p) text by = (x, text, by)
program_of_tree t x (Err e) text by = tt

pub broken_tree : (t : Lexed) (x : Tree) (r : Result ProgramRows RefFault) → IsTextOf t x → IfErr r (IsBrokenReference t x) → IfErr r (IsUncheckedReference t)
broken_tree t x (Ok p) text by = tt
broken_tree t x (Err (RefFault.Lex f)) text by = absurd by
broken_tree t x (Err (RefFault.Parse f line byte)) text by = absurd by
broken_tree t x (Err (RefFault.Check f line byte)) text by = (x, text, by)
broken_tree t x (Err RefFault.Memory) text by = tt

pub no_tree : (t : Lexed) (e : RefFault) → IsUnparsedReference t e → IsUncheckedReference t e
no_tree t (RefFault.Lex f) by = absurd by
no_tree t (RefFault.Parse f line byte) by = by
no_tree t (RefFault.Check f line byte) by = absurd by
no_tree t RefFault.Memory by = tt

-- ---- from tokens

pub program_of_tokens : (bytes : List ℕ) (t : Lexed) (r : Result ProgramRows RefFault) → HasTokens bytes t → IfOk r (IsChecked t) → IfOk r (IsSourceOf bytes)
program_of_tokens bytes t (Ok p) has by = (t, has, by)
program_of_tokens bytes t (Err e) has by = tt

pub unchecked_tokens : (bytes : List ℕ) (t : Lexed) (r : Result ProgramRows RefFault) → HasTokens bytes t → IfErr r (IsUncheckedReference t)
    → IfErr r (IsUnreadReference bytes)
unchecked_tokens bytes t (Ok p) has by = tt
unchecked_tokens bytes t (Err (RefFault.Lex f)) has by = absurd by
unchecked_tokens bytes t (Err (RefFault.Parse f line byte)) has by = (t, has, by)
unchecked_tokens bytes t (Err (RefFault.Check f line byte)) has by = (t, has, by)
unchecked_tokens bytes t (Err RefFault.Memory) has by = tt

pub no_tokens : (bytes : List ℕ) (e : RefFault) → IsUnlexedReference bytes e → IsUnreadReference bytes e
no_tokens bytes (RefFault.Lex f) by = by
no_tokens bytes (RefFault.Parse f line byte) by = absurd by
no_tokens bytes (RefFault.Check f line byte) by = absurd by
no_tokens bytes RefFault.Memory by = tt
