-- What the steps of `Rattle.expression_checker.specs.Members` touch.
use Rattle.std.proofs.Common.{◌&&◌, ℕ, refl}
use Rattle.core_program.specs.declared.rows.{ExpressionRow.ExpressionRow, ItemRow.ItemRow, Row.Row}
use Rattle.kind_checker.specs.Shapes.{shape_of}
use Rattle.expression_checker.specs.Members.{fits_members, gathered_type, gathered_with, host_with, member_range, one_member, set_constructor}
use Rattle.expression_checker.specs.Typed.{typed_value}
use Rattle.expression_checker.specs.declared.{members.Gathered.Gathered, members.MemberStart.MemberStart, typed.Typed.Typed}
use Rattle.rule_laws.proofs.{CheckItems.add_item-touches, Every.Of, Faces.Shown}
use Rattle.rule_laws.proofs.Touches.{Touches, bind-touches, give-touches, late-touches, look-touches, put-touches}

pub one_member-touches : {Q : ℕ → Type 0} {strict : Shown} (g : Gathered) (b : MemberStart) → Of Q b.slot → Of Q b.first → Touches Q strict (one_member g b)
unfolding one_member
one_member-touches g b slot-in b-in = bind-touches (look-touches (λ k. shape_of k b.value.of))
    (λ s. bind-touches (late-touches 31 b.first (fits_members g.host s) refl b-in)
    (λ _. bind-touches (add_item-touches g.last b.slot (ItemRow.Member b.value.row 0) slot-in) (λ last. give-touches (gathered_with g last s))))

pub member_range-touches : {Q : ℕ → Type 0} {strict : Shown} (g : Gathered) (b : MemberStart) (v : Typed) → Of Q b.slot → Of Q b.first
    → Touches Q strict (member_range g b v)
unfolding member_range
member_range-touches g b v slot-in b-in = bind-touches (look-touches (λ k. shape_of k b.value.of))
    (λ s. bind-touches (look-touches (λ k. shape_of k v.of)) (λ t.
    bind-touches (late-touches 31 b.first (fits_members g.host s && fits_members (host_with g.host s) t) refl b-in) (λ _.
    bind-touches (add_item-touches g.last b.slot (ItemRow.Members b.value.row v.row 0) slot-in)
    (λ last. give-touches (gathered_with (gathered_with g last s) last t)))))

pub set_constructor-touches : {Q : ℕ → Type 0} {strict : Shown} (g : Gathered) (members : ℕ) (close : ℕ) → Of Q close
    → Touches Q strict (set_constructor g members close)
unfolding set_constructor
set_constructor-touches g members close close-in = bind-touches (put-touches close (Row.Expression (ExpressionRow.Set members)) close-in refl) (λ _.
    give-touches (typed_value close (gathered_type g)))
