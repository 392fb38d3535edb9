-- The grammar of Pascal passes the checks: one token decides each choice, short trees complete what was read, and each
-- construct that is tried may stand where it is tried.
use Rattle.std.proofs.Common.{◌≡◌, Bool, not, refl, true}
use Rattle.grammar.{proofs.LevelsTested.rule_sane, specs.declared.terminals.Terminal.Terminal, specs.declared.terminals.Terminal.TheVariants.WElse}
use Rattle.grammar.specs.{Deciding.IsDecided, Deciding.sane, Grammars.Level, RefusalLaws.Checks, Terminals.is}
use Rattle.pas_tree.specs.FirstFollow.{pascal}
use Rattle.pas_tree.specs.Rules as r

-- the terminals in front of which an else part may be left out
abbrev pub calm : Terminal → Bool
calm k = not (is WElse k)

pub pascal_checks : Checks calm 2 pascal r.program_rule
unfolding r.next_factor_rule r.term_rule r.next_term_rule r.sign_rule r.simple_rule r.relation_rule r.expression_rule r.next_expression_rule r.index_rule
    r.selector_rule r.selectors_rule r.access_rule r.arguments_rule r.member_rule r.next_member_rule r.members_rule r.named_factor_rule r.paren_rule
    r.factor_rule r.next_name_rule r.names_rule r.constant_rule r.next_constant_rule r.constants_rule r.range_rule r.limit_rule r.enumeration_rule
    r.next_denoter_rule r.array_rule r.section_rule r.variants_rule r.fixed_rule r.fields_rule r.arm_rule r.tag_rule r.variant_part_rule r.record_rule
    r.set_rule r.structure_rule r.structured_rule r.named_denoter_rule r.subrange_rule r.denoter_rule r.spec_rule r.next_spec_rule r.specs_rule
    r.formal_type_rule r.packed_schema_rule r.unpacked_schema_rule r.schema_rule r.variables_formal_rule r.formal_rule r.next_formal_rule r.formals_rule
    r.procedure_rule r.result_rule r.function_rule r.heading_rule r.next_statement_rule r.statements_rule r.compound_rule r.actual_rule r.next_actual_rule
    r.actuals_rule r.assignment_rule r.named_statement_rule r.alternative_rule r.else_rule r.if_rule r.branch_rule r.case_rule r.repeat_rule r.while_rule
    r.for_rule r.next_access_rule r.with_rule r.goto_rule r.counted_rule r.plain_rule r.label_rule r.statement_rule r.next_label_rule r.label_part_rule
    r.constant_definition_rule r.constant_part_rule r.type_definition_rule r.type_part_rule r.variable_declaration_rule r.variable_part_rule r.body_rule
    r.routine_rule r.routines_rule r.block_rule r.parameters_rule r.program_rule
pascal_checks = record { decided = refl; completed = refl; reaching = refl }

pub pascal_decided : IsDecided pascal r.program_rule ≡ true
pascal_decided = pascal_checks.decided

pub pascal_sane : (l : Level) → sane (pascal.rule l) ≡ true
pascal_sane = rule_sane pascal r.program_rule pascal_decided
