-- What comes of a source is what comes of its tree.
use Rattle.std.proofs.Common.{ℕ, Err, IfErr, IfOk, List, Ok, Result}
use Rattle.pas_lexer.specs.Lexed.{Lexed}
use Rattle.pas_tree.specs.declared.blocks.Tree.{Tree}
use Rattle.check_steps.specs.Known.{Known}
use Rattle.code_checker.specs.Declarations.{HasTokens, IsDeclared, IsDeclaredBy, IsTextOf, IsUndeclared, IsUndeclaredBy}
use Rattle.code_checker.specs.declared.declarations.DeclarationFault.{DeclarationFault}

-- the source has these tokens, and they are the text of this tree
pub record Read (source : List ℕ) (t : Lexed) (x : Tree) : Type 0 where
  pub tokens : HasTokens source t
  pub text : IsTextOf t x

pub tables_of_source : (source : List ℕ) (t : Lexed) (x : Tree) (r : Result Known DeclarationFault) → Read source t x
    → IfOk r (IsDeclaredBy t x) → IfOk r (IsDeclared source)
tables_of_source source t x (Ok known) read by = (t, x, read.tokens, read.text, by)
tables_of_source source t x (Err e) read by = tt

pub fault_of_source : (source : List ℕ) (t : Lexed) (x : Tree) (r : Result Known DeclarationFault) → Read source t x
    → IfErr r (IsUndeclaredBy t x) → IfErr r (IsUndeclared source)
fault_of_source source t x (Ok known) read by = tt
fault_of_source source t x (Err (DeclarationFault.Rule rule line byte)) read by = (t, x, read.tokens, read.text, by)
fault_of_source source t x (Err DeclarationFault.Memory) read by = tt
fault_of_source source t x (Err (DeclarationFault.Lexis f)) read by = absurd by
fault_of_source source t x (Err (DeclarationFault.Grammar f)) read by = absurd by
