-- A record that is left was the last that was established.
use Rattle.std.proofs.Common.{◌++◌, ◌∙◌, ◌∷◌, ◌≡◌, [], ℕ, List, ap, refl, reverse, sym}
use Rattle.std.proofs.lemmas.List.{reverse-append}
use Rattle.cell_value.specs.declared.values.Value.{Value}
use Rattle.core_program.specs.ProgramRows.{ProgramRows}
use Rattle.core_program.specs.Tree.{Actuals, Address, Bounded, Cells, Jump, Nothing, Scalar}
use Rattle.evaluator.specs.{Records.without_first, Records.without_last, declared.tasks.Home.Home, declared.tasks.Task.Task, declared.tasks.Way.Way}
use Rattle.evaluator.specs.Rest.{Lists, below_list, below_passed, came, resume, top_list, top_passed}

twice : (xs : List ℕ) → reverse (reverse xs) ≡ xs
twice [] = refl
twice (x ∷ xs) = ap reverse (reverse-append (x ∷ []) xs) ∙ reverse-append (reverse xs) (x ∷ []) ∙ ap (λ ys. x ∷ ys) (twice xs)

pub added_left : (records : List ℕ) (addr : ℕ) → without_last (records ++ addr ∷ []) ≡ records
added_left records addr = ap (λ xs. reverse (without_first xs)) (reverse-append records (addr ∷ [])) ∙ twice records

-- what came goes on as it came, without the record that is left
pub way_left : (p : ProgramRows) (home : Home) (records : List ℕ) (w : Way) (ts : List Task) (vs : List Value) (ls : Lists)
    → records ≡ without_last home.records → came p home w (Task.Leave ∷ ts) vs ls ≡ came p (record home { records = records }) w ts vs ls
way_left p home records Way.Nothing ts vs ls e = ap (λ rs. resume p (record home { records = rs }) ts vs ls Nothing) (sym e)
way_left p home records (Way.Scalar v) ts vs ls e = ap (λ rs. resume p (record home { records = rs }) ts vs ls (Scalar v)) (sym e)
way_left p home records Way.Cells ts vs ls e = ap (λ rs. resume p (record home { records = rs }) ts vs (below_list ls) (Cells (top_list ls))) (sym e)
way_left p home records Way.Actuals ts vs ls e =
    ap (λ rs. resume p (record home { records = rs }) ts vs (below_passed ls) (Actuals (top_passed ls))) (sym e)
way_left p home records (Way.Address addr) ts vs ls e = ap (λ rs. resume p (record home { records = rs }) ts vs ls (Address addr)) (sym e)
way_left p home records (Way.Bounded addr frame) ts vs ls e =
    ap (λ rs. resume p (record home { records = rs }) ts vs ls (Bounded addr frame)) (sym e)
way_left p home records (Way.Jump label base) ts vs ls e = ap (λ rs. resume p (record home { records = rs }) ts vs ls (Jump label base)) (sym e)
