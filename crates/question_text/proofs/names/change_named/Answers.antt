use Rattle.std.proofs.Common.{◌∙◌, ◌≡◌, ℕ, ap, option_map, sym}
use Rattle.std.specs.Str.{bytes_eq}
use Rattle.cell_value.specs.declared.entries.Change.{Change}
use Rattle.question_text.proofs.FoundInOrder.{found_here, passed_here}
use Rattle.question_text.proofs.names.change_named.Goals as goal
use Rattle.question_text.specs.{Cards.recorded_in, CellNames.cell_name}

pub returns-then-branch : goal.returns-then-branch
returns-then-branch c =
    let such = λ (x : ℕ × Change). bytes_eq (cell_name (recorded_in c.args.from.now) c.args.number x.0) c.args.name.now in
    ap (option_map (λ (x : ℕ × Change). x.0))
    (sym (found_here such c.args.changes.now c.loop-i.i c.at-address.result c.at-address.ensures.found
    (sym c.in_ok-is_named.ensures ∙ c.if-branch.true)) ∙ c.loop-i.invariant)

pub loop-i-preserved : goal.loop-i-preserved
loop-i-preserved c =
    let such = λ (x : ℕ × Change). bytes_eq (cell_name (recorded_in c.args.from.now) c.args.number x.0) c.args.name.now in
    sym (passed_here such c.args.changes.now c.loop-i.i c.at-address.result c.at-address.ensures.found
    (sym c.in_ok-is_named.ensures ∙ c.if-branch.false)) ∙ c.loop-i.invariant
