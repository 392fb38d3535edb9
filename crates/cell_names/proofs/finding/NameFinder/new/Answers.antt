use Rattle.cell_names.proofs.NamesMade.{names_are}
use Rattle.cell_names.proofs.finding.NameFinder.new.Goals as goal

pub returns : goal.returns
returns c =
    names_are c.args.program.now c.args.tokens c.args.log.now
    (record { frames = c.in_ok-frames.frames.items; records = c.in_ok-records.records.items; blocks = c.in_ok-blocks.blocks })
    c.in_ok-frames.ensures c.in_ok-records.ensures c.in_ok-blocks.ensures
