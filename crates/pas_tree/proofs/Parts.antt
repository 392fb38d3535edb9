-- What the grammar of Pascal repeats may stand in a loop.
use Rattle.std.proofs.Common.{◌≡◌, refl, true}
use Rattle.grammar.{proofs.Lists.Repeats, specs.Deciding.closed, specs.Grammars.Closer}
use Rattle.pas_tree.specs.Rules as r

pub record Parts : Type 0 where
  pub next_factor : Repeats r.next_factor_rule
  pub next_term : Repeats r.next_term_rule
  pub next_expression : Repeats r.next_expression_rule
  pub selector : Repeats r.selector_rule
  pub next_member : Repeats r.next_member_rule
  pub next_name : Repeats r.next_name_rule
  pub next_constant : Repeats r.next_constant_rule
  pub next_denoter : Repeats r.next_denoter_rule
  pub section : Repeats r.section_rule
  pub arm : Repeats r.arm_rule
  pub next_spec : Repeats r.next_spec_rule
  pub next_formal : Repeats r.next_formal_rule
  pub next_actual : Repeats r.next_actual_rule
  pub branch : Repeats r.branch_rule
  pub next_access : Repeats r.next_access_rule
  pub next_label : Repeats r.next_label_rule
  pub constant_definition : Repeats r.constant_definition_rule
  pub type_definition : Repeats r.type_definition_rule
  pub variable_declaration : Repeats r.variable_declaration_rule
  pub routine : Repeats r.routine_rule
  pub next_statement : (closer : Closer) → Repeats (r.next_statement_rule closer)
  pub variants_closed : closed r.variants_rule ≡ true

pub parts : Parts
unfolding r.next_factor_rule r.term_rule r.next_term_rule r.sign_rule r.simple_rule r.relation_rule r.expression_rule r.next_expression_rule r.index_rule
    r.selector_rule r.selectors_rule r.access_rule r.arguments_rule r.member_rule r.next_member_rule r.members_rule r.named_factor_rule r.paren_rule
    r.factor_rule r.next_name_rule r.names_rule r.constant_rule r.next_constant_rule r.constants_rule r.range_rule r.limit_rule r.enumeration_rule
    r.next_denoter_rule r.array_rule r.section_rule r.variants_rule r.fixed_rule r.fields_rule r.arm_rule r.tag_rule r.variant_part_rule r.record_rule
    r.set_rule r.structure_rule r.structured_rule r.named_denoter_rule r.subrange_rule r.denoter_rule r.spec_rule r.next_spec_rule r.specs_rule
    r.formal_type_rule r.packed_schema_rule r.unpacked_schema_rule r.schema_rule r.variables_formal_rule r.formal_rule r.next_formal_rule r.formals_rule
    r.procedure_rule r.result_rule r.function_rule r.heading_rule r.next_statement_rule r.statements_rule r.compound_rule r.actual_rule r.next_actual_rule
    r.actuals_rule r.assignment_rule r.named_statement_rule r.alternative_rule r.else_rule r.if_rule r.branch_rule r.case_rule r.repeat_rule r.while_rule
    r.for_rule r.next_access_rule r.with_rule r.goto_rule r.counted_rule r.plain_rule r.label_rule r.statement_rule r.next_label_rule r.label_part_rule
    r.constant_definition_rule r.constant_part_rule r.type_definition_rule r.type_part_rule r.variable_declaration_rule r.variable_part_rule r.body_rule
    r.routine_rule r.routines_rule r.block_rule r.parameters_rule r.program_rule
parts = record {
  next_factor = record { is_closed = refl; is_solid = refl };
  next_term = record { is_closed = refl; is_solid = refl };
  next_expression = record { is_closed = refl; is_solid = refl };
  selector = record { is_closed = refl; is_solid = refl };
  next_member = record { is_closed = refl; is_solid = refl };
  next_name = record { is_closed = refl; is_solid = refl };
  next_constant = record { is_closed = refl; is_solid = refl };
  next_denoter = record { is_closed = refl; is_solid = refl };
  section = record { is_closed = refl; is_solid = refl };
  arm = record { is_closed = refl; is_solid = refl };
  next_spec = record { is_closed = refl; is_solid = refl };
  next_formal = record { is_closed = refl; is_solid = refl };
  next_actual = record { is_closed = refl; is_solid = refl };
  branch = record { is_closed = refl; is_solid = refl };
  next_access = record { is_closed = refl; is_solid = refl };
  next_label = record { is_closed = refl; is_solid = refl };
  constant_definition = record { is_closed = refl; is_solid = refl };
  type_definition = record { is_closed = refl; is_solid = refl };
  variable_declaration = record { is_closed = refl; is_solid = refl };
  routine = record { is_closed = refl; is_solid = refl };
  next_statement = λ closer. record { is_closed = refl; is_solid = refl };
  variants_closed = refl;
}
