-- What an answer of `check` tells beyond itself.
use Rattle.std.specs.Prelude.{◌<◌, ◌≡◌, ◌≤◌, ℕ, All, Contains, List, length, true}
use Rattle.pas_lexer.specs.Lexed.{Lexed}
use Rattle.pas_tree.specs.{BlockTrees.ProgramTree, BlockTrees.program_tree, declared.blocks.Tree.Tree}
use Rattle.check_steps.specs.Breaks.{FaultIs}
use Rattle.check_steps.specs.declared.breaks.{Break.Break, Broken.TheVariants.TooBig, CheckFault.CheckFault}
use Rattle.decl_checker.specs.Answers.{early_of}
use Rattle.decl_checker.specs.Programs as declarations
use Rattle.code_checker.specs.{CheckedPrograms.broken, Declarations.IsTextOf, RulesTold.is_told}

-- no rule is broken, and this is the first token at which something is too big
pub record IsTooBigAlone (bs : List Break) (token : ℕ) : Type 0 where
  pub there : Contains bs (record { broken = TooBig; token = token })
  pub no_rule : All (λ b. b.broken ≡ TooBig) bs
  pub first : All (λ b. token ≤ b.token) bs

abbrev pub TooBigComesLast : Type 0
TooBigComesLast = (bs : List Break) (token : ℕ) → FaultIs bs (CheckFault.TooBig token) → IsTooBigAlone bs token

-- What the declarations break is broken.
abbrev pub DeclarationsCount : Type 0
DeclarationsCount =
    (l : Lexed) (t : ProgramTree) (b : Break) → Contains (declarations.broken_early l t) b → Contains (broken l t) b

-- ---- texts

-- Each rule that a text breaks is broken at one of its tokens.
abbrev pub TokensStand : Type 0
TokensStand = (l : Lexed) (t : Tree) (b : Break) → IsTextOf l t → Contains (broken l (program_tree t)) b
    → b.token < length l.tokens

-- It is told before others exactly if it is a rule of declarations and names.
abbrev pub RulesAreTold : Type 0
RulesAreTold = (l : Lexed) (t : Tree) (b : Break) → IsTextOf l t → Contains (broken l (program_tree t)) b
    → is_told b.broken ≡ true

-- The rules of declarations and names that a text breaks are exactly those that its declarations alone break.
abbrev pub DeclarationsAreExact : Type 0
DeclarationsAreExact = (l : Lexed) (t : Tree) → IsTextOf l t
    → early_of (broken l (program_tree t)) ≡ early_of (declarations.broken_early l (program_tree t))
