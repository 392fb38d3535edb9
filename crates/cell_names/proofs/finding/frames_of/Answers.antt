use Rattle.std.proofs.Common.{◌≤◌, arith, length}
use Rattle.cell_names.proofs.NamesMade.{frames_end, frames_on}
use Rattle.cell_names.proofs.finding.frames_of.Goals as goal

pub routines-preserved : goal.routines-preserved
routines-preserved c =
    frames_on c.args.program.now c.routines.lists.items c.push.new.self.items c.in_ok-frame_places.field-0 c.routines.routine c.in_ok-push.ensures.items
    c.routines.invariant c.in_ok-frame_places.ensures

pub returns : goal.returns
returns c =
    let t = c.routines-test.false in let e = c.routines-routine-end.ensures in
    let all : length c.args.program.now.routines ≤ c.routines.routine = omega (arith, t, e) in
    λ routine. frames_end c.args.program.now c.routines.lists.items c.routines.routine c.routines.invariant all routine
