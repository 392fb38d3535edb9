use Rattle.std.proofs.Common.{◌∙◌}
use Rattle.cell_names.proofs.RecordsInTurn.{record_parts_end, record_parts_on}
use Rattle.cell_names.proofs.records.record_places.Goals as goal

pub tokens-preserved : goal.tokens-preserved
tokens-preserved c = record {
  as_many = c.in_ok-push_component.ensures.as_many ∙ c.tokens.invariant.as_many;
  so_far = λ owner. record_parts_on c.args.program.now _ _ _ c.args.tokens _ owner c.tokens.token c.placed_at.result c.tokens-test.true
      c.tokens.invariant.as_many c.placed_at.ensures (c.in_ok-push_component.ensures.finds_more owner) (c.tokens.invariant.so_far owner);
}

pub returns : goal.returns
returns c = λ owner. record_parts_end c.args.program.now _ _ c.args.tokens owner c.tokens.token c.tokens-test.false (c.tokens.invariant.so_far owner)
