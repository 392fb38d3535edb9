-- What the declarations break is among all that is broken.
use Rattle.std.proofs.Common.{◌++◌, ◌∷◌, [], Contains, List, arith, suc, zero}
use Rattle.pas_lexer.specs.Lexed.{Lexed}
use Rattle.pas_tree.specs.BlockTrees.{ProgramTree}
use Rattle.check_steps.specs.{Steps.◌>>=◌, Words.known_at_start, declared.breaks.Break.Break}
use Rattle.decl_checker.specs.Programs as declarations
use Rattle.code_checker.specs.{Blocks.code_block, CheckedPrograms.broken, CheckedPrograms.check_step}

among : (xs ys : List Break) (b : Break) → Contains xs b → Contains (xs ++ ys) b
among [] ys b c = absurd (omega (arith, c.1))
among (x ∷ xs) ys b (zero, h, same) = (0, omega arith, same)
among (x ∷ xs) ys b (suc i, h, at) = let c = among xs ys b (i, omega (arith, h), at) in (suc c.0, omega (arith, c.1), c.2)

pub declarations_among : (l : Lexed) (t : ProgramTree) (b : Break) → Contains (declarations.broken_early l t) b → Contains (broken l t) b
unfolding check_step ◌>>=◌
declarations_among l t b c =
    let d = declarations.program_step t (known_at_start l) in
    among d.broken (code_block d.value t.block d.known).broken b c
