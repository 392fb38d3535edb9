-- Answers that are kept are right.
use Rattle.std.proofs.Common.{◌∙◌, ◌≡◌, [], ℕ, Bool, IfSome, List, None, Option, Some, ap, arith, cond, false, refl, subst, sym, true}
use Rattle.std.{proofs.lemmas.Bool.Decides.nat_tests, proofs.lemmas.Option.same_Some, specs.Map.lookup}
use Rattle.core_program.specs.ProgramRows.{ProgramRows}
use Rattle.check_steps.proofs.Seen.{congruous_seen}
use Rattle.check_steps.specs.{Compared.AreAnswers, Compared.same_pair, Compared.seen_of, Headings.congruous}

pub no_answers : (most : ℕ) (p : ProgramRows) (es : List ((ℕ × ℕ) × Bool)) → es ≡ [] → AreAnswers most p es
unfolding AreAnswers
no_answers most p es e = λ pair answer found. let none : lookup (same_pair pair) es ≡ None = ap (lookup (same_pair pair)) e in cc

-- a program of which the same is seen
pub answers_stay : (most : ℕ) (p q : ProgramRows) (es : List ((ℕ × ℕ) × Bool)) → seen_of q ≡ seen_of p → AreAnswers most p es → AreAnswers most q es
unfolding AreAnswers
answers_stay most p q es e are = λ pair answer found. are pair answer found ∙ ap (λ s. congruous most s pair.0 pair.1) (sym e)

pub answered : (most : ℕ) (p : ProgramRows) (es : List ((ℕ × ℕ) × Bool)) (left right : ℕ) (found : Option Bool) → AreAnswers most p es
    → found ≡ lookup (same_pair (left, right)) es → IfSome found (λ answer. answer ≡ congruous most p left right)
unfolding AreAnswers
answered most p es left right None are e = tt
answered most p es left right (Some b) are e = are (left, right) b (sym e) ∙ congruous_seen p most left right

-- one answer more, or another one
pub answers_put : (most : ℕ) (p : ProgramRows) (old new : List ((ℕ × ℕ) × Bool)) (left right : ℕ) (b : Bool)
    → ((q : ℕ × ℕ) → lookup (same_pair q) new ≡ cond (same_pair (left, right) q) (Some b) (lookup (same_pair q) old))
    → AreAnswers most p old → b ≡ congruous most p left right → AreAnswers most p new
unfolding AreAnswers
answers_put most p old new left right b put are is = λ q c e. by q c (same_pair (left, right) q) refl (sym (put q) ∙ e)
  where
    by : (q : ℕ × ℕ) (c t : Bool) → same_pair (left, right) q ≡ t → cond t (Some b) (lookup (same_pair q) old) ≡ Some c
        → c ≡ congruous most (seen_of p) q.0 q.1
    by q c true same e =
        let l : left ≡ q.0 = grind (arith, nat_tests, same) in
        let r : right ≡ q.1 = grind (arith, nat_tests, same) in
        sym (same_Some b c e) ∙ is ∙ sym (congruous_seen p most left right) ∙ ap (λ n. congruous most (seen_of p) n right) l
        ∙ ap (λ n. congruous most (seen_of p) q.0 n) r
    by q c false other e = are q c e

pub answers_same : (most : ℕ) (p : ProgramRows) (old new : List ((ℕ × ℕ) × Bool)) → new ≡ old → AreAnswers most p old → AreAnswers most p new
answers_same most p old new e are = subst (λ es. AreAnswers most p es) (sym e) are
