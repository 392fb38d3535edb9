-- Tokens are refused for one reason, at one place.
use Rattle.std.proofs.Common.{◌&&◌, ◌||◌, ◌∙◌, ◌≡◌, ℕ, List, None, Option, Some, ap, arith, false, le_antisymm, lt_of_not-le, nat_eq, nat_lt, refl, slice_get}
use Rattle.std.proofs.{Common.subst, Common.sym, lemmas.Bool.Decides.nat_tests}
use native.Mathlib.Decide.{dec_le}
use Rattle.pas_lexer.specs.{Lexed.Lexed, declared.kinds.Token.Token}
use Rattle.grammar.specs.Refusals.{IsHopeless, IsLeast, IsTooDeep}
use Rattle.pas_tree.specs.{BlockTrees.program_tree, Blocks.tree_node, FirstFollow.pascal, Rules.program_rule, declared.blocks.Tree.Tree}
use Rattle.pas_parser.specs.Formed.{IsText, items_of}
use Rattle.check_steps.specs.Breaks.{IsFirst, IsOfFirst, fault_of, group, is_before, number}
use Rattle.check_steps.specs.declared.breaks.{Break.Break, CheckFault.CheckFault}
use Rattle.check_steps.specs.declared.breaks.Broken.{Broken, TheVariants.Early, TheVariants.Late, TheVariants.TooBig}
use Rattle.code_checker.proofs.OneText.{one_text}
use Rattle.code_checker.specs.{CheckedPrograms.broken, Declarations.IsTextOf, OneProgram.RefusedOnce, Places.TokenBegins}
use Rattle.code_checker.specs.declared.faults.SourceFault.TheVariants.{Memory, Refused}
use Rattle.code_checker.specs.declared.faults.SourceRefusal.TheVariants as reason

-- ---- first ones

least_once : (P : ℕ → Type 0) (i j : ℕ) → IsLeast P i → IsLeast P j → i ≡ j
least_once P i j a b = elim (dec_le i j) [
  | yes h ↦ elim (dec_le j i) [ yes k ↦ le_antisymm h k | no k ↦ absurd (b.1 i (lt_of_not-le k) a.0) ]
  | no h ↦ absurd (a.1 j (lt_of_not-le h) b.0)
]

broken_same : (a b : Broken) → group a ≡ group b → number a ≡ number b → a ≡ b
broken_same (Early m) (Early n) e f = ap Early f
broken_same (Late m) (Late n) e f = ap Late f
broken_same TooBig TooBig e f = refl
broken_same a b e f = absurd (omega (arith, e))

tied : (g t r h u s : ℕ) → (nat_lt g h || (nat_eq g h && (nat_lt t u || (nat_eq t u && nat_lt r s)))) ≡ false
    → (nat_lt h g || (nat_eq h g && (nat_lt u t || (nat_eq u t && nat_lt s r)))) ≡ false → (g ≡ h) × (t ≡ u) × (r ≡ s)
tied g t r h u s a b = (grind (arith, nat_tests), grind (arith, nat_tests), grind (arith, nat_tests))

first_once : (bs : List Break) (a b : Break) → IsFirst bs a → IsFirst bs b → a ≡ b
first_once bs a b p q =
    let a_after : is_before b a ≡ false = subst (λ x. is_before x a ≡ false) q.0.2 (p.1 q.0.0 b q.0.1) in
    let b_after : is_before a b ≡ false = subst (λ x. is_before x b ≡ false) p.0.2 (q.1 p.0.0 a p.0.1) in
    let e = tied (group a.broken) a.token (number a.broken) (group b.broken) b.token (number b.broken) b_after a_after in
    λ i. record { broken = broken_same a.broken b.broken e.0 e.2 i; token = e.1 i }

fault_once : (bs : List Break) (e f : CheckFault) → IsOfFirst bs e → IsOfFirst bs f → e ≡ f
fault_once bs e f (a, p, g) (b, q, h) = g ∙ ap fault_of (first_once bs a b p q) ∙ sym h

-- ---- places

abbrev token_in : Option Token → Token → Token
token_in None t = t
token_in (Some x) t = x

at_once : (t : Lexed) (m n line byte line' byte' : ℕ) → m ≡ n → TokenBegins t m line byte → TokenBegins t n line' byte'
    → (line ≡ line') × (byte ≡ byte')
at_once t m n line byte line' byte' e a b =
    let same : a.token ≡ b.token = ap (λ o. token_in o a.token) (sym a.there ∙ ap (slice_get t.tokens) e ∙ b.there) in
    (a.line_is ∙ ap (λ (x : Token). x.line) same ∙ sym b.line_is, a.byte_is ∙ ap (λ (x : Token). x.start) same ∙ sym b.byte_is)

-- ---- faults

abbrev kind_of : CheckFault → ℕ
kind_of (CheckFault.Rule rule token) = 0
kind_of (CheckFault.TooBig token) = 1
kind_of CheckFault.Memory = 2

abbrev rule_in : CheckFault → ℕ
rule_in (CheckFault.Rule rule token) = rule
rule_in (CheckFault.TooBig token) = 0
rule_in CheckFault.Memory = 0

abbrev token_at : CheckFault → ℕ
token_at (CheckFault.Rule rule token) = token
token_at (CheckFault.TooBig token) = token
token_at CheckFault.Memory = 0

-- what is answered of the first of what two trees of a text break
answered_once : (t : Lexed) (x y : Tree) (e f : CheckFault) → IsTextOf t x → IsTextOf t y → IsOfFirst (broken t (program_tree x)) e
    → IsOfFirst (broken t (program_tree y)) f → e ≡ f
answered_once t x y e f a b g h = fault_once (broken t (program_tree x)) e f g (subst (λ bs. IsOfFirst bs f) (one_text t y x b a).broken h)

no_tree : (t : Lexed) (x : Tree) → (IsText t.tokens → ⊥) → IsTextOf t x → ⊥
no_tree t x none a = none (tree_node x, a.formed, a.spelled)

pub refused_once : RefusedOnce
refused_once t (Refused reason.NotProgram line byte) (Refused reason.NotProgram line' byte') (m, x, at) (n, y, at') p q =
    let e : m ≡ n = least_once (IsHopeless pascal program_rule (items_of t.tokens)) m n x.1.1.1 y.1.1.1 in
    let place = at_once t m n line byte line' byte' e at at' in
    λ i. Refused reason.NotProgram (place.0 i) (place.1 i)
refused_once t (Refused reason.TooDeep line byte) (Refused reason.TooDeep line' byte') (m, x, at) (n, y, at') p q =
    let e : m ≡ n = least_once (IsTooDeep pascal 200 program_rule (items_of t.tokens)) m n x.1.1 y.1.1 in
    let place = at_once t m n line byte line' byte' e at at' in
    λ i. Refused reason.TooDeep (place.0 i) (place.1 i)
refused_once t (Refused reason.NotProgram line byte) (Refused reason.TooDeep line' byte') (m, x, at) (n, y, at') p q = absurd (x.1.1.0 n y.1.1.0)
refused_once t (Refused reason.TooDeep line byte) (Refused reason.NotProgram line' byte') (m, x, at) (n, y, at') p q = absurd (y.1.1.0 m x.1.1.0)
refused_once t (Refused reason.NotProgram line byte) (Refused (reason.Rule rule) line' byte') (m, x, at) (z, a, b) p q = absurd (no_tree t z x.0 a)
refused_once t (Refused reason.NotProgram line byte) (Refused reason.TooBig line' byte') (m, x, at) (z, a, b) p q = absurd (no_tree t z x.0 a)
refused_once t (Refused reason.TooDeep line byte) (Refused (reason.Rule rule) line' byte') (m, x, at) (z, a, b) p q = absurd (no_tree t z x.0 a)
refused_once t (Refused reason.TooDeep line byte) (Refused reason.TooBig line' byte') (m, x, at) (z, a, b) p q = absurd (no_tree t z x.0 a)
refused_once t (Refused (reason.Rule rule) line byte) (Refused reason.NotProgram line' byte') (z, a, b) (n, y, at) p q = absurd (no_tree t z y.0 a)
refused_once t (Refused (reason.Rule rule) line byte) (Refused reason.TooDeep line' byte') (z, a, b) (n, y, at) p q = absurd (no_tree t z y.0 a)
refused_once t (Refused reason.TooBig line byte) (Refused reason.NotProgram line' byte') (z, a, b) (n, y, at) p q = absurd (no_tree t z y.0 a)
refused_once t (Refused reason.TooBig line byte) (Refused reason.TooDeep line' byte') (z, a, b) (n, y, at) p q = absurd (no_tree t z y.0 a)
refused_once t (Refused (reason.Rule rule) line byte) (Refused (reason.Rule rule') line' byte') (x, a, (m, g, at)) (y, b, (n, h, at')) p q =
    let e = answered_once t x y (CheckFault.Rule rule m) (CheckFault.Rule rule' n) a b g h in
    let place = at_once t m n line byte line' byte' (ap token_at e) at at' in
    λ i. Refused (reason.Rule (rule_in (e i))) (place.0 i) (place.1 i)
refused_once t (Refused reason.TooBig line byte) (Refused reason.TooBig line' byte') (x, a, (m, g, at)) (y, b, (n, h, at')) p q =
    let e = answered_once t x y (CheckFault.TooBig m) (CheckFault.TooBig n) a b g h in
    let place = at_once t m n line byte line' byte' (ap token_at e) at at' in
    λ i. Refused reason.TooBig (place.0 i) (place.1 i)
refused_once t (Refused (reason.Rule rule) line byte) (Refused reason.TooBig line' byte') (x, a, (m, g, at)) (y, b, (n, h, at')) p q =
    let e = answered_once t x y (CheckFault.Rule rule m) (CheckFault.TooBig n) a b g h in absurd (omega (arith, ap kind_of e))
refused_once t (Refused reason.TooBig line byte) (Refused (reason.Rule rule) line' byte') (x, a, (m, g, at)) (y, b, (n, h, at')) p q =
    let e = answered_once t x y (CheckFault.TooBig m) (CheckFault.Rule rule n) a b g h in absurd (omega (arith, ap kind_of e))
refused_once t Memory f h g p q = absurd (p refl)
refused_once t e Memory h g p q = absurd (q refl)
refused_once t (Refused reason.NotProgram line byte) (Refused why line' byte') h g p q = absurd g
refused_once t (Refused reason.TooDeep line byte) (Refused why line' byte') h g p q = absurd g
refused_once t (Refused (reason.Rule rule) line byte) (Refused why line' byte') h g p q = absurd g
refused_once t (Refused reason.TooBig line byte) (Refused why line' byte') h g p q = absurd g
refused_once t (Refused why line byte) (Refused why' line' byte') h g p q = absurd h
