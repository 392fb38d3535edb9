-- Blocks and programs without memory: one constructor a rule.
use Rattle.std.specs.Prelude.{◌∷◌, [], ℕ, List, Option, map, option_map}
use Rattle.pas_tree.specs.{ConstantTrees.NamesTree, ConstantTrees.names_tree, DenoterTrees.DenoterTree}
use Rattle.pas_tree.specs.{DenoterTrees.denoter_tree, HeadingTrees.HeadingTree, HeadingTrees.heading_tree}
use Rattle.pas_tree.specs.StatementTrees.{CompoundTree, compound_tree}
use Rattle.pas_tree.specs.declared.blocks.{Block.more_of-Routine, ConstantPart.ConstantPart, LabelPart.LabelPart}
use Rattle.pas_tree.specs.declared.blocks.{NextLabel.NextLabel, Parameters.Parameters, Routine.Routine, Tree.Tree}
use Rattle.pas_tree.specs.declared.blocks.{TypeDefinition.TypeDefinition, TypePart.TypePart, VariablePart.VariablePart}
use Rattle.pas_tree.specs.declared.blocks.Block.{Block, Block' as BlockOf', Row_of-Routine, end_of-Routine}
use Rattle.pas_tree.specs.declared.blocks.ConstantDefinition.{ConstantDefinition}
use Rattle.pas_tree.specs.declared.blocks.RoutineBody.{Block', Directive, RoutineBody}
use Rattle.pas_tree.specs.declared.blocks.VariableDeclaration.{VariableDeclaration}

-- ---- what holds no block

pub record LabelPartTree : Type 0 where
  pub word : ℕ
  pub first : ℕ
  pub others : List NextLabel
  pub semicolon : ℕ

pub record ConstantPartTree : Type 0 where
  pub word : ℕ
  pub first : ConstantDefinition
  pub others : List ConstantDefinition

pub record TypeDefinitionTree : Type 0 where
  pub name : ℕ
  pub equal : ℕ
  pub denoter : DenoterTree
  pub semicolon : ℕ

pub record TypePartTree : Type 0 where
  pub word : ℕ
  pub first : TypeDefinitionTree
  pub others : List TypeDefinitionTree

pub record VariableDeclarationTree : Type 0 where
  pub names : NamesTree
  pub colon : ℕ
  pub denoter : DenoterTree
  pub semicolon : ℕ

pub record VariablePartTree : Type 0 where
  pub word : ℕ
  pub first : VariableDeclarationTree
  pub others : List VariableDeclarationTree

pub record ParametersTree : Type 0 where
  pub left : ℕ
  pub names : NamesTree
  pub right : ℕ

-- ---- blocks

mutual
  pub data BlockTree : Type 0 where
    a_block : (labels : Option LabelPartTree) (constants : Option ConstantPartTree) (types : Option TypePartTree)
        (variables : Option VariablePartTree) (routines : RoutineTrees) (body : CompoundTree) → BlockTree

  pub data RoutineTrees : Type 0 where
    end_of_routines : RoutineTrees
    more_routines : (routine : RoutineTree) (rest : RoutineTrees) → RoutineTrees

  pub data RoutineTree : Type 0 where
    a_routine : (heading : HeadingTree) (semicolon : ℕ) (body : BodyTree) (last_semicolon : ℕ) → RoutineTree

  pub data BodyTree : Type 0 where
    a_directive : (token : ℕ) → BodyTree
    a_block_body : (block : BlockTree) → BodyTree

pub record ProgramTree : Type 0 where
  pub word : ℕ
  pub name : ℕ
  pub parameters : Option ParametersTree
  pub semicolon : ℕ
  pub block : BlockTree
  pub dot : ℕ
  pub last : ℕ

-- what a routine has
abbrev pub routine_heading : RoutineTree → HeadingTree
routine_heading (a_routine heading semicolon body last_semicolon) = heading

abbrev pub routine_body : RoutineTree → BodyTree
routine_body (a_routine heading semicolon body last_semicolon) = body

-- ---- the views

abbrev pub label_part_tree : LabelPart → LabelPartTree
label_part_tree p = record { word = p.word; first = p.first; others = p.others.items; semicolon = p.semicolon }

abbrev pub constant_part_tree : ConstantPart → ConstantPartTree
constant_part_tree p = record { word = p.word; first = p.first; others = p.others.items }

abbrev pub type_definition_tree : TypeDefinition → TypeDefinitionTree
type_definition_tree d =
    record { name = d.name; equal = d.equal; denoter = denoter_tree d.denoter; semicolon = d.semicolon }

abbrev pub type_part_tree : TypePart → TypePartTree
type_part_tree p = record {
  word = p.word;
  first = type_definition_tree p.first;
  others = map type_definition_tree p.others.items;
}

abbrev pub variable_declaration_tree : VariableDeclaration → VariableDeclarationTree
variable_declaration_tree d = record {
  names = names_tree d.names;
  colon = d.colon;
  denoter = denoter_tree d.denoter;
  semicolon = d.semicolon;
}

abbrev pub variable_part_tree : VariablePart → VariablePartTree
variable_part_tree p = record {
  word = p.word;
  first = variable_declaration_tree p.first;
  others = map variable_declaration_tree p.others.items;
}

abbrev pub parameters_tree : Parameters → ParametersTree
parameters_tree p = record { left = p.«open»; names = names_tree p.names; right = p.close }

abbrev mutual
  pub block_tree : Block → BlockTree
  block_tree (BlockOf' labels constants types variables _ routines body) =
      a_block (option_map label_part_tree labels) (option_map constant_part_tree constants)
      (option_map type_part_tree types) (option_map variable_part_tree variables) (routine_row routines)
      (compound_tree body)

  pub routine_row : {m : _} → Row_of-Routine m → RoutineTrees
  routine_row end_of-Routine = end_of_routines
  routine_row (more_of-Routine heading semicolon body last_semicolon rest) =
      more_routines (a_routine (heading_tree heading) semicolon (body_tree body) last_semicolon) (routine_row rest)

  pub body_tree : RoutineBody → BodyTree
  body_tree (Directive token) = a_directive token
  body_tree (Block' _ b) = a_block_body (block_tree b)

-- The tree of a program.
abbrev pub program_tree : Tree → ProgramTree
program_tree t = record {
  word = t.word;
  name = t.name;
  parameters = option_map parameters_tree t.parameters;
  semicolon = t.semicolon;
  block = block_tree t.block;
  dot = t.dot;
  last = t.end;
}

-- ---- the same of what the code holds

abbrev pub routine_tree : Routine → RoutineTree
routine_tree r = a_routine (heading_tree r.heading) r.semicolon (body_tree r.body) r.last_semicolon

abbrev pub routine_trees : List Routine → RoutineTrees
routine_trees [] = end_of_routines
routine_trees (r ∷ rest) = more_routines (routine_tree r) (routine_trees rest)
