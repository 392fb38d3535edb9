-- The trees of blocks by the fields of what the code holds.
use Rattle.std.proofs.Common.{◌∙◌, ◌≡◌, ap, option_map, refl}
use Rattle.pas_tree.specs.{HeadingTrees.heading_tree, StatementTrees.compound_tree}
use Rattle.pas_tree.specs.BlockTrees as tree
use Rattle.pas_tree.specs.declared.blocks.{Block.more_of-Routine, Block.out-Block, RoutineBody.TheBlock.hidden-the_row-Routine-0}
use Rattle.pas_tree.specs.declared.blocks.Block.{Block, Row_of-Routine, end_of-Routine, is-Block', items-the_row-Routine, items_hidden-the_row-Routine-0}

routine_rows : (n : _) (r : Row_of-Routine n) → tree.routine_row r ≡ tree.routine_trees (items-the_row-Routine n r)
routine_rows _ end_of-Routine = refl
routine_rows _ (more_of-Routine heading semicolon body last_semicolon rest) =
    ap (tree.more_routines (tree.a_routine (heading_tree heading) semicolon (tree.body_tree body) last_semicolon)) (routine_rows _ rest)

pub block_view : (b : Block) → tree.block_tree b
    ≡ tree.a_block (option_map tree.label_part_tree (out-Block b).labels) (option_map tree.constant_part_tree (out-Block b).constants)
    (option_map tree.type_part_tree (out-Block b).types) (option_map tree.variable_part_tree (out-Block b).variables)
    (tree.routine_trees (out-Block b).routines.items) (compound_tree (out-Block b).body)
block_view b =
    let o = out-Block b in
    ap tree.block_tree (is-Block' b)
    ∙ ap (λ xs. tree.a_block (option_map tree.label_part_tree o.labels) (option_map tree.constant_part_tree o.constants)
    (option_map tree.type_part_tree o.types)
    (option_map tree.variable_part_tree o.variables) xs (compound_tree o.body)) (routine_rows _ (hidden-the_row-Routine-0 o.routines)
    ∙ ap tree.routine_trees (items_hidden-the_row-Routine-0 o.routines))
