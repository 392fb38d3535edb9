-- What the steps of `Rattle.kind_checker.specs.Names` leave at other tokens.
use Rattle.std.proofs.Common.{ℕ}
use Rattle.pas_tree.specs.{ConstantTrees.NamesTree, Constants.next_name_node, TreeNodes.names_node, declared.constants.NextName.NextName}
use Rattle.check_steps.specs.Steps.{Step}
use Rattle.kind_checker.specs.{Names.define_name, Names.defined_as, Names.each_name, Names.on_name, declared.names.NameKind.NameKind}
use Rattle.rule_laws.proofs.{Every.Every, Every.Of, Leaves.Leaves, Leaves.bind-leaves, Leaves.each-leaves, LeavesNames.define_in-leaves}

pub on_name-leaves : {Q : ℕ → Type 0} {A : Type 0} (f : (A → ℕ → Step A)) (a : A) (n : NextName) → ((a : A) (t : ℕ) → Of Q t
    → Leaves Q (f a t)) → Every Q (next_name_node n) → Leaves Q (on_name f a n)
unfolding on_name
on_name-leaves f a n f-in n-in = f-in a n.name n-in.1

pub each_name-leaves : {Q : ℕ → Type 0} {A : Type 0} (f : (A → ℕ → Step A)) (a : A) (n : NamesTree) → ((a : A) (t : ℕ) → Of Q t
    → Leaves Q (f a t)) → Every Q (names_node n) → Leaves Q (each_name f a n)
each_name-leaves f a n f-in n-in = bind-leaves (f-in a n.first n-in.0) (λ b. each-leaves (on_name f) next_name_node (λ a x h.
    on_name-leaves f a x f-in h) b n.others n-in.1)

pub define_name-leaves : {Q : ℕ → Type 0} (region : ℕ) (k : NameKind) (u : Unit {0}) (token : ℕ) → Of Q token → Leaves Q (define_name region k u token)
unfolding define_name
define_name-leaves region k u token token-in = define_in-leaves region (record { def = defined_as k token; token = token; end = token }) token-in
