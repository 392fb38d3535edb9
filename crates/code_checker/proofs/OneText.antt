-- The trees of one text break the same rules and denote the same program: they are one tree.
use Rattle.std.proofs.Common.{◌∙◌, ◌≡◌, [], ap, arith, refl, subst, sym}
use Rattle.pas_lexer.proofs.OneDivision.{same_tokens}
use Rattle.pas_tree.{proofs.TreesTold.text_told, specs.BlockTrees.program_tree, specs.Blocks.tree_node}
use Rattle.check_steps.specs.{Breaks.IsFirst, declared.breaks.Break.Break}
use Rattle.decl_checker.specs.Programs.{broken_early, tables_of}
use Rattle.code_checker.specs.{CheckedPrograms.broken, CheckedPrograms.program_of, Declarations.IsTextOf}
use Rattle.code_checker.specs.OneProgram.{AtMostOneProgram, DeclaredOnce, NeverBoth, OneTextOneProgram}
use Rattle.code_checker.specs.declared.faults.SourceFault.TheVariants.{Memory, Refused}
use Rattle.code_checker.specs.declared.faults.SourceRefusal.TheVariants as reason

pub one_text : OneTextOneProgram
one_text t a b x y =
    let same : program_tree a ≡ program_tree b = text_told 200 a b x.formed y.formed (x.spelled ∙ sym y.spelled) in
    record {
      broken = ap (broken t) same;
      denoted = ap (program_of t) same;
      declared = ap (broken_early t) same;
      tables = ap (tables_of t) same;
    }

pub at_most_one : AtMostOneProgram
at_most_one t p q (x, a, b) (y, c, d) = b.1 ∙ (one_text t x y a c).denoted ∙ sym d.1

-- no rule is the first of none
none_first : (b : Break) → IsFirst [] b → ⊥
none_first b first = omega (arith, first.0.1)

pub never_both : NeverBoth
never_both t p (Refused reason.NotProgram line byte) (x, a, b) (n, none, at) = absurd (none.0 (tree_node x, a.formed, a.spelled))
never_both t p (Refused reason.TooDeep line byte) (x, a, b) (n, none, at) = absurd (none.0 (tree_node x, a.formed, a.spelled))
never_both t p (Refused (reason.Rule rule) line byte) (x, a, b) (y, c, (token, fault, at)) =
    absurd (none_first fault.0 (subst (λ bs. IsFirst bs fault.0) ((one_text t y x c a).broken ∙ b.0) fault.1))
never_both t p (Refused reason.TooBig line byte) (x, a, b) (y, c, (token, fault, at)) =
    absurd (none_first fault.0 (subst (λ bs. IsFirst bs fault.0) ((one_text t y x c a).broken ∙ b.0) fault.1))
never_both t p Memory h g = refl
never_both t p (Refused why line byte) h g = absurd g

pub declared_once : DeclaredOnce
declared_once source j k (t, x, has, text, is) (u, y, has', text', is') =
    let e : t ≡ u = λ i. record {
      tokens = same_tokens source t.tokens u.tokens has.lexed has'.lexed i;
      source = (has.kept ∙ sym has'.kept) i;
    } in
    is.1 ∙ ap (λ v. tables_of v (program_tree x)) e ∙ (one_text u x y (subst (λ v. IsTextOf v x) e text) text').tables ∙ sym is'.1
