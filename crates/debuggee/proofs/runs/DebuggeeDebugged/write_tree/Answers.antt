use Rattle.std.proofs.{Common.◌∙◌, lemmas.List.length-map}
use Rattle.debuggee.proofs.runs.DebuggeeDebugged.write_tree.Goals as goal

pub write_tree-requires : goal.write_tree-requires
write_tree-requires g c = c.requires ∙ length-map c.args.self.now.history.calls.calls (λ call. call.last)
