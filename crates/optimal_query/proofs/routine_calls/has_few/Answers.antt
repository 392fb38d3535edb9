use Rattle.std.proofs.Common.{◌*◌, ◌+◌, ◌<◌, ◌∙◌, ◌≡◌, ◌≤◌, ℕ, List, ap, arith, length, sym}
use Rattle.std.proofs.lemmas.{Bool.le-leb, Bool.lt-leb, List.length-map}
use Rattle.call_tree.specs.{Recording.depths_of, Recording.routines_of, declared.records.Call.Call}
use Rattle.optimal_query.proofs.CallsOfRoutine.{no_ways, ways_rise, ways_to_end, ways_to_next}
use Rattle.optimal_query.proofs.routine_calls.has_few.Goals as goal
use Rattle.optimal_query.specs.Changed.{ways_up}

-- the columns of calls are of one length
as_long : (calls : List Call) (depths : List ℕ) → depths ≡ depths_of calls → length depths ≡ length (routines_of calls)
as_long calls depths are = ap length are ∙ length-map calls (λ (call : Call). call.depth) ∙ sym (length-map calls (λ (call : Call). call.routine))

pub calls-init : goal.calls-init
calls-init c =
    record { counted = sym (no_ways c.args.depths.now (routines_of c.args.calls.now.calls) c.args.routine); few = omega arith; within = omega arith }

pub bounds-depths-place : goal.bounds-depths-place
bounds-depths-place c =
    omega (arith, c.in-Some.ensures.holds.inside, as_long c.args.calls.now.calls c.args.depths.now c.requires.depths)

pub calls-preserved : goal.calls-preserved
calls-preserved c = record {
  counted = omega (arith, c.calls.invariant.counted, ways_to_next c.args.depths.now c.in-Some.place c.in-Some.ensures);
  few = omega arith;
  within = omega (arith, c.in-Some.ensures.holds.inside);
}

pub returns-then-counted-most : goal.returns-then-counted-most
returns-then-counted-most c =
    let routines = routines_of c.args.calls.now.calls in
    let depths = c.args.depths.now in
    let ways = ways_up depths routines c.args.routine (length routines) in
    let further = ways_to_next depths c.in-Some.place c.in-Some.ensures in
    let rise = ways_rise depths routines c.args.routine (c.in-Some.place + 1) (length routines) (omega (arith, c.in-Some.ensures.holds.inside)) in
    let over : length routines < 16 * ways =
    omega (arith, further, rise, c.calls.invariant.counted, ap length c.routine_column.ensures, c.if-counted-most.true) in
    sym (lt-leb (16 * ways) (length routines) over)

pub returns : goal.returns
returns c =
    let routines = routines_of c.args.calls.now.calls in
    let ways = ways_up c.args.depths.now routines c.args.routine (length routines) in
    let all = ways_to_end c.args.depths.now c.calls.invariant.within c.in_default.ensures in
    let within : 16 * ways ≤ length routines =
    omega (arith, all, c.calls.invariant.counted, c.calls.invariant.few, ap length c.routine_column.ensures) in
    sym (le-leb (16 * ways) (length routines) within)
