use Rattle.code_checker.proofs.WhatComesOfATree.{fault_of_source, tables_of_source}
use Rattle.code_checker.proofs.declarations.declare_source.Goals as goal

pub returns-clause-found : goal.returns-clause-found
returns-clause-found c = tables_of_source c.args.source.now c.in-Ok.tokens c.in-Ok-parse.tree c.declare_tree.result (record {
  tokens = record { kept = c.in-Ok.ensures.source; lexed = c.in-Ok.ensures.found };
  text = record { formed = c.in-Ok-parse.ensures.found.0; spelled = c.in-Ok-parse.ensures.found.1 };
}) c.declare_tree.ensures.found

pub returns-clause-refused : goal.returns-clause-refused
returns-clause-refused c = fault_of_source c.args.source.now c.in-Ok.tokens c.in-Ok-parse.tree c.declare_tree.result (record {
  tokens = record { kept = c.in-Ok.ensures.source; lexed = c.in-Ok.ensures.found };
  text = record { formed = c.in-Ok-parse.ensures.found.0; spelled = c.in-Ok-parse.ensures.found.1 };
}) c.declare_tree.ensures.refused
