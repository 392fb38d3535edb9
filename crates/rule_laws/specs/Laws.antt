-- Which headings break rule 8.
use Rattle.std.specs.Prelude.{◌++◌, ◌<◌, ◌↔◌, ◌∷◌, ◌≡◌, ◌⊎◌, ℕ, All, Contains, List, Some, false, length, true}
use Rattle.pas_tree.specs.BlockTrees.{RoutineTree, RoutineTrees, routine_body}
use Rattle.check_steps.specs.{Known.Known, Known.row_at, Regions.defined_in, declared.regions.Definition.Definition}
use Rattle.check_steps.specs.declared.breaks.{Break.Break, Broken.TheVariants.Early}
use Rattle.denoter_checker.specs.RoutineParts.{define_routines, is_waiting, routine_name}
use Rattle.rule_laws.specs.ForwardHeadings.{are_completing, has_forward, routines_in}

-- a rule of declarations at a token
abbrev pub broken_at : ℕ → ℕ → Break
broken_at rule token = record { broken = Early rule; token = token }

-- Nothing is known of a token so far: no forward heading stands there, and it defines nothing in the region.
pub record IsNew (k : Known) (region token : ℕ) : Type 0 where
  pub row : token < length k.program.rows
  pub quiet : is_waiting (row_at k token) ≡ false
  pub undefined : (name : ℕ) (d : Definition) → defined_in k.regions region name ≡ Some d → d.token ≡ token → ⊥

-- one of the routines of a part, those before it and those after it, which have their names at other tokens
pub record IsOne (before : List RoutineTree) (r : RoutineTree) (after : List RoutineTree) : Type 0 where
  pub others_before : All (λ s. routine_name s ≡ routine_name r → ⊥) before
  pub others_after : All (λ s. routine_name s ≡ routine_name r → ⊥) after

-- A forward heading breaks rule 8 if it is not the definition of its name, so that rule 2 is broken there, or if no
-- routine after it has its block.
pub record LacksBlock (k : Known) (bs : List Break) (r : RoutineTree) (after : List RoutineTree) : Type 0 where
  pub forward : has_forward k (routine_body r) ≡ true
  pub none : Contains bs (broken_at 2 (routine_name r)) ⊎ (are_completing k r after ≡ false)

-- Among the routines of a part these break rule 8, at their names.
abbrev pub PartsTellRuleEight : Type 0
PartsTellRuleEight = (k : Known) (region : ℕ) (rs : RoutineTrees) (before : List RoutineTree) (r : RoutineTree)
    (after : List RoutineTree)
    → region < length k.regions → routines_in rs ≡ before ++ r ∷ after → IsNew k region (routine_name r)
    → IsOne before r after
    → let bs = (define_routines region rs k).broken in
    Contains bs (broken_at 8 (routine_name r)) ↔ LacksBlock k bs r after
