use Rattle.std.proofs.Common.{◌+◌, List, drop, get_or, pos, refl}
use Rattle.std.proofs.lemmas.{Option.slice_get-get_or, Result.err_from_is_err_and}
use Rattle.cell_value.specs.declared.values.Value.{Value}
use Rattle.core_program.specs.{Actions.◌>>=◌, Conformant.bound_cells, Conformant.read_each, State.moved, declared.components.HeldSpec.HeldSpec}
use Rattle.eval_ops.proofs.{ActionsCompose.came_next, ActionsCompose.came_stop, BoundsHeld.at_bounds}
use Rattle.eval_ops.proofs.conformant.read_bounds.Goals as goal
use Rattle.eval_ops.specs.{Conformant.read_onto, Machines.moment_of}

pub returns-in_err-read_onto-clause-action : goal.returns-in_err-read_onto-clause-action
returns-in_err-read_onto-clause-action c =
    let i = c.specs.spec-index in
    let d : HeldSpec = record { within = record { least = pos 0; greatest = pos 0 }; place = 0 } in
    let s = get_or c.args.specs.now i d in
    let spec = slice_get-get_or c.args.specs.now i d c.specs-test.true in
    let p = err_from_is_err_and c.from_residual.result c.from_residual.ensures.1 in
    let cell = c.moved-cell.result in
    rw (p.1, p.2) (came_stop {X = Unit {0}} (λ _. c.read_onto.new.values) (λ vs. vs) (read_onto c.specs.values cell)
    (λ us. read_onto us (moved cell 1) >>= λ ws. read_each ws (bound_cells c.args.frame (drop (i + 1) c.args.specs.now))) _
    (moment_of c.specs.machine) (moment_of c.read_onto.new.machine)
    (at_bounds c.specs.values c.args.frame c.args.specs.now i s cell (moved cell 1) spec c.moved-cell.ensures refl c.specs.invariant.came)
    c.in_err-read_onto.ensures.action)

pub returns-in_err-read_onto-2-clause-action : goal.returns-in_err-read_onto-2-clause-action
returns-in_err-read_onto-2-clause-action c =
    let i = c.specs.spec-index in
    let d : HeldSpec = record { within = record { least = pos 0; greatest = pos 0 }; place = 0 } in
    let s = get_or c.args.specs.now i d in
    let spec = slice_get-get_or c.args.specs.now i d c.specs-test.true in
    let p = err_from_is_err_and c.from_residual-in_err-read_onto-2.result c.from_residual-in_err-read_onto-2.ensures.1 in
    let cell = c.moved-cell.result in
    let after = c.moved.result in
    let rest = λ (ws : List Value). read_each ws (bound_cells c.args.frame (drop (i + 1) c.args.specs.now)) in
    rw (p.1, p.2) (came_stop {X = Unit {0}} (λ _. c.read_onto-in-specs.new.values) (λ vs. vs) (read_onto c.read_onto.new.values after) rest _
    (moment_of c.read_onto.new.machine) (moment_of c.read_onto-in-specs.new.machine)
    (came_next (read_onto c.specs.values cell) (λ us. read_onto us after >>= rest) c.read_onto.new.values (moment_of c.specs.machine)
    (moment_of c.read_onto.new.machine)
    (at_bounds c.specs.values c.args.frame c.args.specs.now i s cell after spec c.moved-cell.ensures c.moved.ensures c.specs.invariant.came)
    c.in_ok-read_onto.ensures.action) c.in_err-read_onto-2.ensures.action)

pub specs-preserved : goal.specs-preserved
specs-preserved c =
    let i = c.specs.spec-index in
    let d : HeldSpec = record { within = record { least = pos 0; greatest = pos 0 }; place = 0 } in
    let s = get_or c.args.specs.now i d in
    let spec = slice_get-get_or c.args.specs.now i d c.specs-test.true in
    let cell = c.moved-cell.result in
    let after = c.moved.result in
    let rest = λ (ws : List Value). read_each ws (bound_cells c.args.frame (drop (i + 1) c.args.specs.now)) in
    record {
      ready = c.in_ok-read_onto-2.ensures.ready;
      came = came_next (read_onto c.read_onto.new.values after) rest c.read_onto-in-specs.new.values (moment_of c.read_onto.new.machine)
          (moment_of c.read_onto-in-specs.new.machine)
          (came_next (read_onto c.specs.values cell) (λ us. read_onto us after >>= rest) c.read_onto.new.values (moment_of c.specs.machine)
          (moment_of c.read_onto.new.machine)
          (at_bounds c.specs.values c.args.frame c.args.specs.now i s cell after spec c.moved-cell.ensures c.moved.ensures c.specs.invariant.came)
          c.in_ok-read_onto.ensures.action) c.in_ok-read_onto-2.ensures.action;
    }
