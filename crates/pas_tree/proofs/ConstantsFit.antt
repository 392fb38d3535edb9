-- Every constant's node fits its rule.
use Rattle.std.proofs.Common.{None, Some, refl}
use Rattle.pas_tree.proofs.Fits.{Fits, left, listed, one, pair, right, sign_leaf_fits}
use Rattle.pas_tree.specs.Constants.{constant_node, constants_node, names_node, next_constant_node, next_name_node}
use Rattle.pas_tree.specs.Rules as r
use Rattle.pas_tree.specs.declared.constants.{Constant.Constant, Constants.Constants, Names.Names}

pub names_fits : (n : Names) → Fits r.names_rule (names_node n)
unfolding r.names_rule r.next_name_rule
names_fits n = pair (one refl) (listed next_name_node (λ x. pair (one refl) (one refl)) n.others.items)

pub constant_fits : (c : Constant) → Fits r.constant_rule (constant_node c)
unfolding r.constant_rule
constant_fits (Constant.Number None n) = right (right (one refl))
constant_fits (Constant.Number (Some s) n) = right (left (pair (sign_leaf_fits s) (one refl)))
constant_fits (Constant.Name None n) = right (right (one refl))
constant_fits (Constant.Name (Some s) n) = right (left (pair (sign_leaf_fits s) (one refl)))
constant_fits (Constant.Text n) = left (one refl)

pub constants_fits : (c : Constants) → Fits r.constants_rule (constants_node c)
unfolding r.constants_rule r.next_constant_rule
constants_fits c = pair (constant_fits c.first) (listed next_constant_node (λ x. pair (one refl) (constant_fits x.constant)) c.others.items)
