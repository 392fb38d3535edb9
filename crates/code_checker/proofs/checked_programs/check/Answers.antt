use Rattle.code_checker.proofs.checked_programs.check.Goals as goal

pub new-requires : goal.new-requires
new-requires c = record { whole = c.in_ok-are_whole_and_laid.ensures.whole c.if-branch.true }
