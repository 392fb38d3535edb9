-- The own work of a call of a run gives its recorded exit.
use Rattle.std.proofs.Common.{◌∙◌, ◌≡◌, ◌≤◌, None, Some, ap, arith, refl}
use Rattle.std.specs.List.{slice_get}
use Rattle.core_program.proofs.OutcomesCompose.{none_some}
use Rattle.core_program.specs.{Run.Outcome, Run.depth_enough, Run.run, RunLaws.BodiesRepeat, RunLaws.calls_in}
use Rattle.body_replay.specs.{Laws.BodiesGiveTheirExits, Laws.GivesItsExit, Replays.records_of, Replays.work_at, Replays.work_of}

pub exits_are_given : BodiesRepeat → BodiesGiveTheirExits
exits_are_given law p W input budget number c = by (run p input budget) refl
  where
    by : (x : Outcome) → run p input budget ≡ x → slice_get (records_of x) number ≡ Some c → GivesItsExit c (work_of p x number)
    by None e at = absurd (none_some at)
    by (Some r) e at =
        let enough : depth_enough p c.entry.steps ≤ depth_enough p c.entry.steps = omega arith in
        let b = law p input budget r e number c at W (depth_enough p c.entry.steps) enough in
        record {
          body = b.run;
          is = ap (work_at p (calls_in r) number) at ∙ b.is;
          way = b.way;
          result = b.result;
          exit = b.exit;
        }
