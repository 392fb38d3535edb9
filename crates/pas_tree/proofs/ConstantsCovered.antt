-- Each node of an operator, a list of names or a constant is that of a typed tree.
use Rattle.std.proofs.Common.{◌≡◌, ◌⊎◌, ℕ, None, Option, Some, inl, inr, refl}
use Rattle.grammar.specs.{Grammars.Level, Grammars.seq, Grammars.token, Nesting.Trees, Nodes.Node, Nodes.leaf, declared.terminals.Terminal.Terminal}
use Rattle.pas_tree.proofs.{Parts.parts, Repeated.listed}
use Rattle.pas_tree.proofs.Covers.{Covers, absent, choose, made, one, or, pair}
use Rattle.pas_tree.specs.Constants.{constant_node, constants_node, names_node, next_constant_node, next_name_node, signed_node}
use Rattle.pas_tree.specs.Operators.{adding_node, direction_node, multiplying_node, relational_node, sign_leaf, sign_node}
use Rattle.pas_tree.specs.Rules as r
use Rattle.pas_tree.specs.declared.constants.Constant.{Constant}
use Rattle.pas_tree.specs.declared.operators.{AddingOperator.AddingOperator, Direction.Direction, MultiplyingOperator.MultiplyingOperator, Sign.Sign}
use Rattle.pas_tree.specs.declared.operators.RelationalOperator.TheVariants as relate

-- a number or a name
abbrev plain_node : ℕ ⊎ ℕ → Node
plain_node (inl n) = leaf Terminal.Number n
plain_node (inr n) = leaf Terminal.Name n

abbrev plain_constant : Option Sign → ℕ ⊎ ℕ → Constant
plain_constant sign (inl n) = Constant.Number sign n
plain_constant sign (inr n) = Constant.Name sign n

plain_constant_is : (sign : Option Sign) (n : ℕ ⊎ ℕ) → constant_node (plain_constant sign n) ≡ signed_node sign (plain_node n)
plain_constant_is sign (inl n) = refl
plain_constant_is sign (inr n) = refl

module _ {E : Level → Trees} where
  -- ---- one of several tokens

  pub sign_leaf_covered : Covers E (token r.signs) sign_leaf
  sign_leaf_covered = or (made Sign.Plus (λ _. refl) one) (made Sign.Minus (λ _. refl) one)

  pub sign_covered : Covers E r.sign_rule sign_node
  unfolding r.sign_rule
  sign_covered = choose (made Some (λ _. refl) sign_leaf_covered) (absent None refl)

  pub adding_covered : Covers E (token r.adding) adding_node
  adding_covered = or (made AddingOperator.Plus (λ _. refl) one) (or (made AddingOperator.Minus (λ _. refl) one) (made AddingOperator.Or (λ _. refl) one))

  pub multiplying_covered : Covers E (token r.multiplying) multiplying_node
  multiplying_covered =
      or (made MultiplyingOperator.Times (λ _. refl) one) (or (made MultiplyingOperator.Div (λ _. refl) one)
      (or (made MultiplyingOperator.Mod (λ _. refl) one) (made MultiplyingOperator.And (λ _. refl) one)))

  pub relational_covered : Covers E (token r.relations) relational_node
  relational_covered =
      or (made relate.Equal (λ _. refl) one) (or (made relate.NotEqual (λ _. refl) one) (or (made relate.Less (λ _. refl) one)
      (or (made relate.AtMost (λ _. refl) one) (or (made relate.Greater (λ _. refl) one) (or (made relate.AtLeast (λ _. refl) one)
      (made relate.In (λ _. refl) one))))))

  pub direction_covered : Covers E (token r.directions) direction_node
  direction_covered = or (made Direction.To (λ _. refl) one) (made Direction.Downto (λ _. refl) one)

  -- ---- names and constants

  next_name_covered : Covers E r.next_name_rule next_name_node
  unfolding r.next_name_rule
  next_name_covered = made (λ (comma, name). record { comma = comma; name = name }) (λ _. refl) (pair one one)

  pub names_covered : Covers E r.names_rule names_node
  unfolding r.names_rule
  names_covered =
      made (λ (first, others). record { first = first; others = others }) (λ _. refl) (pair one (listed parts.next_name next_name_covered))

  plain_covered : Covers E (token r.plain_constants) plain_node
  plain_covered = or (made inl (λ _. refl) one) (made inr (λ _. refl) one)

  signed_covered : Covers E (seq (token r.signs) (token r.plain_constants)) constant_node
  signed_covered = made (λ (s, n). plain_constant (Some s) n) (λ (s, n). plain_constant_is (Some s) n) (pair sign_leaf_covered plain_covered)

  pub constant_covered : Covers E r.constant_rule constant_node
  unfolding r.constant_rule
  constant_covered = choose (made Constant.Text (λ _. refl) one) (choose signed_covered (made (plain_constant None) (plain_constant_is None) plain_covered))

  next_constant_covered : Covers E r.next_constant_rule next_constant_node
  unfolding r.next_constant_rule
  next_constant_covered = made (λ (comma, c). record { comma = comma; constant = c }) (λ _. refl) (pair one constant_covered)

  pub constants_covered : Covers E r.constants_rule constants_node
  unfolding r.constants_rule
  constants_covered =
      made (λ (first, others). record { first = first; others = others }) (λ _. refl)
      (pair constant_covered (listed parts.next_constant next_constant_covered))

  -- a constant that is no name alone
  pub limit_covered : Covers E r.limit_rule constant_node
  unfolding r.limit_rule
  limit_covered = choose (made Constant.Text (λ _. refl) one) (choose signed_covered (made (Constant.Number None) (λ _. refl) one))
