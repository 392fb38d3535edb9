use Rattle.eval_ops.specs.Machines.{IsReady}
use Rattle.body_replay.proofs.replayer.Replayer.go.Given as goal
use Rattle.body_replay.specs.{Again.AtBody, Again.Job, Again.work_left, Counting.CountsEachStep, Counting.Tally, Traces.tally_of}

abbrev pub invariant-stops : goal.invariant-stops
invariant-stops g l =
    IsReady l.self.machine × ((j : Job l.run) → AtBody l.program l.run j l.fn.self → AtBody l.program l.run j l.self)
    × ((first : Tally) → CountsEachStep l.run first (tally_of l.fn.steps l.fn.self) → CountsEachStep l.run first (tally_of l.steps l.self))

abbrev pub decreases-stops : goal.decreases-stops
decreases-stops g l = work_left l.self
