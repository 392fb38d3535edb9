-- What the steps of `Rattle.kind_checker.specs.Names` keep.
use Rattle.std.proofs.Common.{◌<◌, ℕ, Bool, false}
use Rattle.pas_tree.specs.{ConstantTrees.NamesTree, Constants.next_name_node, TreeNodes.names_node, declared.constants.NextName.NextName}
use Rattle.check_steps.specs.Steps.{Step}
use Rattle.kind_checker.specs.{Names.define_name, Names.defined_as, Names.each_name, Names.on_name, declared.names.NameKind.NameKind}
use Rattle.code_checker.proofs.{CheckNames.define_in-holds, Steps.Holds, Steps.bind-holds, Steps.each-holds, Within.Within}

pub on_name-holds : {size : ℕ} {later : Bool} {A : Type 0} (f : (A → ℕ → Step A)) (a : A) (n : NextName) → ((a : A) (t : ℕ) → t < size
    → Holds size later (f a t)) → Within size (next_name_node n) → Holds size later (on_name f a n)
unfolding on_name
on_name-holds f a n f-in n-in = f-in a n.name n-in.1

pub each_name-holds : {size : ℕ} {later : Bool} {A : Type 0} (f : (A → ℕ → Step A)) (a : A) (n : NamesTree) → ((a : A) (t : ℕ) → t < size
    → Holds size later (f a t)) → Within size (names_node n) → Holds size later (each_name f a n)
each_name-holds f a n f-in n-in = bind-holds (f-in a n.first n-in.0) (λ b. each-holds (on_name f) next_name_node (λ a x h.
    on_name-holds f a x f-in h) b n.others n-in.1)

pub define_name-holds : {size : ℕ} (region : ℕ) (k : NameKind) (u : Unit {0}) (token : ℕ) → token < size → Holds size false (define_name region k u token)
unfolding define_name
define_name-holds region k u token token-in = define_in-holds region (record { def = defined_as k token; token = token; end = token }) token-in
