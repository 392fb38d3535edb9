-- Members of set constructors, once their parts are checked (6.7.1).
use Rattle.std.specs.Prelude.{if◌then◌else◌, ◌&&◌, ◌||◌, ℕ, Bool, None, Option, Some, false, nat_eq, true}
use Rattle.core_program.specs.declared.rows.{ExpressionRow.ExpressionRow, ItemRow.ItemRow, Row.Row}
use Rattle.check_steps.specs.Items.{add_item}
use Rattle.check_steps.specs.Steps.{◌>>=◌, Step, give, late, look, put}
use Rattle.kind_checker.specs.{Operators.is_unknown_shape, Shapes.shape_of}
use Rattle.kind_checker.specs.declared.shapes.{ExpressionType.ExpressionType, Packing.TheVariants.Either, Shape.Shape}
use Rattle.expression_checker.specs.{Typed.typed_value, declared.typed.Typed.Typed}
use Rattle.expression_checker.specs.declared.members.{Gathered.Gathered, MemberStart.MemberStart}

-- ordinal, and of the host of those before
abbrev pub is_member : Option ℕ → Shape → Bool
is_member None (Shape.Ordinal h) = true
is_member (Some host) (Shape.Ordinal h) = nat_eq host h
is_member host s = false

-- A member of unknown type breaks no further rule.
abbrev pub fits_members : Option ℕ → Shape → Bool
fits_members host s = is_unknown_shape s || is_member host s

-- the host of the members, with one more
abbrev pub host_with : Option ℕ → Shape → Option ℕ
host_with None (Shape.Ordinal h) = Some h
host_with host s = host

-- before the first member, with a number at which no item stands
abbrev pub nothing_gathered : ℕ → Gathered
nothing_gathered last = record { last = last; host = None; known = true }

abbrev pub gathered_with : Gathered → ℕ → Shape → Gathered
gathered_with g last s =
    record { last = last; host = host_with g.host s; known = g.known && is_member g.host s }

-- rule 31: members of a constructor are not ordinal or not of one host, at the first token of the member
unfoldable pub one_member : Gathered → MemberStart → Step Gathered
one_member g b = do
  s ← look (λ k. shape_of k b.value.of)
  _ ← late 31 b.first (fits_members g.host s)
  last ← add_item g.last b.slot (ItemRow.Member b.value.row 0)
  give (gathered_with g last s)

-- the same of a range, whose last value may be the wrong one
unfoldable pub member_range : Gathered → MemberStart → Typed → Step Gathered
member_range g b v = do
  s ← look (λ k. shape_of k b.value.of)
  t ← look (λ k. shape_of k v.of)
  _ ← late 31 b.first (fits_members g.host s && fits_members (host_with g.host s) t)
  last ← add_item g.last b.slot (ItemRow.Members b.value.row v.row 0)
  give (gathered_with (gathered_with g last s) last t)

-- A constructor with a member that is wrong or unknown is of unknown type.
abbrev pub gathered_type : Gathered → ExpressionType
gathered_type g = if g.known then ExpressionType.Set g.host Either else ExpressionType.Unknown

-- a set constructor, at its closing bracket, with the list of its members
unfoldable pub set_constructor : Gathered → ℕ → ℕ → Step Typed
set_constructor g members close = do
  _ ← put close (Row.Expression (ExpressionRow.Set members))
  give (typed_value close (gathered_type g))
