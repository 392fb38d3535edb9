use Rattle.body_replay.proofs.replayer.Replayer.go.Goals as goal

pub step-requires-clause-rests : goal.step-requires-clause-rests
step-requires-clause-rests g c = let j = c.requires.rests.0 in (j, c.stops.invariant.1 j c.requires.rests.1)
