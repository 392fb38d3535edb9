-- The classes of alike calls, as a dialog sees them.
use Rattle.std.proofs.Common.{if◌then◌else◌, ◌<◌, ◌∙◌, ◌≡◌, ◌≤◌, ℕ, Bool, Err, List, None, Ok, Option, Some, ap, arith, false, length, nat_le, subst, sym, true}
use Rattle.std.proofs.lemmas.{Bool.Decides.nat_tests, List.length-map}
use Rattle.core_program.specs.Run.{Call}
use Rattle.call_tree.specs.Recording.{lasts_of}
use Rattle.call_tree.specs.declared.records.Call as table
use Rattle.answer_reuse.specs.Classes.{IsClassed, classes_of, compared, most_touches, touches_between}
use Rattle.answer_reuse.specs.declared.faults.ClassFault.{ClassFault}
use Rattle.answer_reuse.specs.declared.faults.ClassFault.TheVariants as fault

pub told_classes : (calls : List Call) (classes : List ℕ) → IsClassed calls (Ok classes) → Some classes ≡ compared calls
told_classes calls classes h =
    let few : nat_le (touches_between calls) most_touches ≡ true = grind (arith, nat_tests, h.0) in
    ap Some h.1 ∙ sym (ap (λ (b : Bool). if b then Some (classes_of calls) else None) few)

none_told : (calls : List Call) (touches : ℕ) → IsClassed calls (Err (fault.TooMany touches)) → None ≡ compared calls
none_told calls touches h =
    let many : nat_le (touches_between calls) most_touches ≡ false = grind (arith, nat_tests, h.0, h.1) in
    sym (ap (λ (b : Bool). if b then Some (classes_of calls) else None) many)

pub told_none : (calls : List Call) (why : ClassFault) (touches : ℕ) → why ≡ fault.TooMany touches → IsClassed calls (Err why) → None ≡ compared calls
told_none calls why touches e h = none_told calls touches (subst (λ (why : ClassFault). IsClassed calls (Err why)) e h)

-- there is one for each call of the table
pub one_for_each : (rows : List table.Call) (classes : List ℕ) → length classes ≡ length rows → length classes ≡ length (lasts_of rows)
one_for_each rows classes same = same ∙ sym (length-map rows (λ r. r.last))
