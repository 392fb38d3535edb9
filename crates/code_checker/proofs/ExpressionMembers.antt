-- What the steps of `Rattle.expression_checker.specs.Members` keep.
use Rattle.std.proofs.Common.{◌&&◌, ◌<◌, ℕ, Bool, refl}
use Rattle.core_program.specs.declared.rows.{ExpressionRow.ExpressionRow, ItemRow.ItemRow, Row.Row}
use Rattle.kind_checker.specs.Shapes.{shape_of}
use Rattle.expression_checker.specs.Members.{fits_members, gathered_type, gathered_with, host_with, member_range, one_member, set_constructor}
use Rattle.expression_checker.specs.Typed.{typed_value}
use Rattle.expression_checker.specs.declared.{members.Gathered.Gathered, members.MemberStart.MemberStart, typed.Typed.Typed}
use Rattle.code_checker.proofs.CheckItems.{add_item-holds}
use Rattle.code_checker.proofs.Steps.{Holds, bind-holds, give-holds, late-holds, look-holds, put-holds}

pub one_member-holds : {size : ℕ} {later : Bool} (g : Gathered) (b : MemberStart) → b.first < size → Holds size later (one_member g b)
unfolding one_member
one_member-holds g b b-in = bind-holds (look-holds (λ k. shape_of k b.value.of)) (λ s. bind-holds (late-holds 31 b.first (fits_members g.host s) refl b-in)
    (λ _. bind-holds (add_item-holds g.last b.slot (ItemRow.Member b.value.row 0)) (λ last. give-holds (gathered_with g last s))))

pub member_range-holds : {size : ℕ} {later : Bool} (g : Gathered) (b : MemberStart) (v : Typed) → b.first < size → Holds size later (member_range g b v)
unfolding member_range
member_range-holds g b v b-in = bind-holds (look-holds (λ k. shape_of k b.value.of)) (λ s. bind-holds (look-holds (λ k. shape_of k v.of)) (λ t.
    bind-holds (late-holds 31 b.first (fits_members g.host s && fits_members (host_with g.host s) t) refl b-in) (λ _.
    bind-holds (add_item-holds g.last b.slot (ItemRow.Members b.value.row v.row 0)) (λ last. give-holds (gathered_with (gathered_with g last s) last t)))))

pub set_constructor-holds : {size : ℕ} {later : Bool} (g : Gathered) (members : ℕ) (close : ℕ) → Holds size later (set_constructor g members close)
unfolding set_constructor
set_constructor-holds g members close = bind-holds (put-holds close (Row.Expression (ExpressionRow.Set members))) (λ _.
    give-holds (typed_value close (gathered_type g)))
