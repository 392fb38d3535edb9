use Rattle.eval_ops.proofs.variants.+enter_all.Given as goal

abbrev pub decreases-enter_all : goal.decreases-enter_all
decreases-enter_all l = l.most
