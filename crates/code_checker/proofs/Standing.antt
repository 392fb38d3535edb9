-- The broken rules of a text are broken at its tokens.
use Rattle.std.proofs.Common.{if◌then◌else◌, ◌++◌, ◌+◌, ◌-◌, ◌<◌, ◌∙◌, ◌∷◌, ◌≡◌, ◌≤◌, [], ℕ, Bool, Contains, List, None, Option, ap, arith, drop, false, filter}
use Rattle.std.proofs.Common.{length, length-drop, refl, subst, suc, sym, true, zero}
use Rattle.std.proofs.lemmas.List.{length-map, length-replicate}
use Rattle.pas_lexer.specs.Lexed.{Lexed}
use Rattle.grammar.specs.{Nodes.Item, Nodes.Node, declared.terminals.Terminal.Terminal}
use Rattle.pas_tree.{proofs.BlocksAgree.tree_same, specs.BlockTrees.program_tree, specs.Blocks.tree_node, specs.declared.blocks.Tree.Tree}
use Rattle.pas_tree.specs.TreeNodes as said
use Rattle.pas_phrases.specs.Items.{items_from, numbered}
use Rattle.pas_parser.specs.{Formed.items_of, Kinds.terminal_of, Kinds.terminals_of}
use Rattle.check_steps.specs.{Around.later, Breaks.FaultIs, Breaks.fault_at, Breaks.is_early, Steps.◌>>=◌, Words.known_at_start}
use Rattle.check_steps.specs.declared.breaks.{Break.Break, CheckFault.CheckFault}
use Rattle.check_steps.specs.declared.breaks.Broken.{Broken, TheVariants.Early, TheVariants.Late, TheVariants.TooBig}
use Rattle.decl_checker.specs.{Answers.EarlyFaultIs, Answers.early_of, Programs.broken_early, Programs.program_step}
use Rattle.code_checker.proofs.{CodeBlocks.code_block-holds, CodePrograms.check_step-holds, DeclarePrograms.program_step-holds, Steps.Each, Steps.Stands}
use Rattle.code_checker.proofs.Within.{Numbers, Within, within}
use Rattle.code_checker.specs.{Blocks.code_block, CheckedPrograms.broken, CheckedPrograms.check_step, Declarations.IsTextOf, RulesTold.is_told}

-- ---- the tokens of a text

counted : (size n : ℕ) (ks : List Terminal) → n + length ks ≤ size → Numbers size (numbered n ks)
counted size n [] h = tt
counted size n (k ∷ ks) h = (omega (arith, h), counted size (n + 1) ks (omega (arith, h)))

all_counted : (ks : List Terminal) → Numbers (length ks) (items_from ks 0)
unfolding items_from
all_counted ks = counted (length ks) 0 (drop 0 ks) (omega (arith, length-drop 0 ks))

text_within : (l : Lexed) (t : Tree) → IsTextOf l t → Within (length l.tokens) (said.tree_node (program_tree t))
text_within l t text =
    let ks = terminals_of l.tokens in
    let many : length ks ≡ length l.tokens = length-map l.tokens (λ t. terminal_of t.kind) in
    let P : ℕ → Type 0 = λ size. Numbers size (items_of l.tokens) in
    let Q : List Item → Type 0 = λ items. Numbers (length l.tokens) items in
    let W : Node → Type 0 = λ x. Within (length l.tokens) x in
    subst W (tree_same t) (within (length l.tokens) (tree_node t) (subst Q (sym text.spelled) (subst P many (all_counted ks))))

begun : (l : Lexed) → length (known_at_start l).threats ≤ length l.tokens
begun l = let nothing : Option ℕ = None in omega (arith, length-replicate (length l.tokens) nothing)

-- ---- broken rules

stand : (l : Lexed) (t : Tree) → IsTextOf l t → Each (Stands (length l.tokens) false) (broken l (program_tree t))
stand l t text =
    ((check_step-holds (program_tree t) (text_within l t text)).of (known_at_start l) (begun l)).broken

each_of : (P : Break → Type 0) (bs : List Break) (b : Break) → Each P bs → Contains bs b → P b
each_of P [] b e c = absurd (omega (arith, c.1))
each_of P (x ∷ xs) b e (zero, h, same) = subst P same e.0
each_of P (x ∷ xs) b e (suc i, h, same) = each_of P xs b e.1 (i, omega (arith, h), same)

stands : (l : Lexed) (t : Tree) (b : Break) → IsTextOf l t → Contains (broken l (program_tree t)) b → Stands (length l.tokens) false b
stands l t b text c = each_of (Stands (length l.tokens) false) (broken l (program_tree t)) b (stand l t text) c

pub tokens_stand : (l : Lexed) (t : Tree) (b : Break) → IsTextOf l t → Contains (broken l (program_tree t)) b → b.token < length l.tokens
tokens_stand l t b text c = (stands l t b text c).token

pub rules_are_told : (l : Lexed) (t : Tree) (b : Break) → IsTextOf l t → Contains (broken l (program_tree t)) b → is_told b.broken ≡ true
rules_are_told l t b text c = (stands l t b text c).told

-- ---- the declarations alone

declared_stand : (l : Lexed) (t : Tree) → IsTextOf l t → Each (Stands (length l.tokens) false) (broken_early l (program_tree t))
declared_stand l t text =
    ((program_step-holds (program_tree t) (text_within l t text)).of (known_at_start l) (begun l)).broken

chosen : (x : Break) (xs ys : List Break) (b : Break) (v : Bool) → Contains (if v then x ∷ ys else ys) b → (Contains ys b → Contains xs b)
    → Contains (x ∷ xs) b
chosen x xs ys b true (zero, h, same) more = (0, omega arith, same)
chosen x xs ys b true (suc i, h, same) more = let r = more (i, omega (arith, h), same) in (suc r.0, omega (arith, r.1), r.2)
chosen x xs ys b false c more = let r = more c in (suc r.0, omega (arith, r.1), r.2)

unfiltered : (f : Break → Bool) (xs : List Break) (b : Break) → Contains (filter f xs) b → Contains xs b
unfiltered f [] b c = absurd (omega (arith, c.1))
unfiltered f (x ∷ xs) b c = chosen x xs (filter f xs) b (f x) c (unfiltered f xs b)

-- what is told with the declarations, where nothing of that kind comes after them
no_early : (size : ℕ) (xs ys : List Break) → Each (Stands size true) ys → filter is_early (xs ++ ys) ≡ filter is_early xs
no_early size [] [] e = refl
no_early size [] (y ∷ ys) e =
    ap (λ (v : Bool). if v then y ∷ filter is_early ys else filter is_early ys) (e.0.waits refl) ∙ no_early size [] ys e.1
no_early size (x ∷ xs) ys e = ap (λ (rest : List Break). if is_early x then x ∷ rest else rest) (no_early size xs ys e)

pub declarations_are_exact : (l : Lexed) (t : Tree) → IsTextOf l t → early_of (broken l (program_tree t)) ≡ early_of (broken_early l (program_tree t))
unfolding check_step ◌>>=◌
declarations_are_exact l t text =
    let x = program_tree t in
    let d = program_step x (known_at_start l) in
    let all = text_within l t text in
    let one = (program_step-holds x all).of (known_at_start l) (begun l) in
    let two = (code_block-holds {later = true} d.value x.block all.1.1.1.1.0).of d.known one.threats in
    no_early (length l.tokens) d.broken (code_block d.value x.block d.known).broken two.broken

-- ---- what is told

of_rule : (what : Broken) (rule at token : ℕ) → CheckFault.Rule rule token ≡ fault_at what at → token ≡ at
of_rule (Early n) rule at token same = cc
of_rule (Late n) rule at token same = cc
of_rule TooBig rule at token same = absurd (let no_one : CheckFault.Rule rule token ≡ CheckFault.TooBig at = same in cc)

of_big : (what : Broken) (at token : ℕ) → CheckFault.TooBig token ≡ fault_at what at → token ≡ at
of_big (Early n) at token same = absurd (let no_one : CheckFault.TooBig token ≡ CheckFault.Rule n at = same in cc)
of_big (Late n) at token same = absurd (let no_one : CheckFault.TooBig token ≡ CheckFault.Rule n at = same in cc)
of_big TooBig at token same = cc

pub rule_stands : (l : Lexed) (t : Tree) (rule token : ℕ) → IsTextOf l t → FaultIs (broken l (program_tree t)) (CheckFault.Rule rule token)
    → token < length l.tokens
rule_stands l t rule token text (b, first, same) = omega (arith, of_rule b.broken rule b.token token same, tokens_stand l t b text first.0)

pub too_big_stands : (l : Lexed) (t : Tree) (token : ℕ) → IsTextOf l t → FaultIs (broken l (program_tree t)) (CheckFault.TooBig token) → token < length l.tokens
too_big_stands l t token text (b, first, same) = omega (arith, of_big b.broken b.token token same, tokens_stand l t b text first.0)

pub declared_rule_stands : (l : Lexed) (t : Tree) (rule token : ℕ) → IsTextOf l t → EarlyFaultIs (broken_early l (program_tree t)) (CheckFault.Rule rule token)
    → token < length l.tokens
declared_rule_stands l t rule token text first =
    let b : Break = record { broken = Early rule; token = token } in
    (each_of (Stands (length l.tokens) false) (broken_early l (program_tree t)) b (declared_stand l t text)
    (unfiltered is_early (broken_early l (program_tree t)) b first.0)).token
