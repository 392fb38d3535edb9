-- A node that is lent to be written to.
use Rattle.std.specs.{Prelude.Option, Borrow.Fml, Borrow.LendsIf, Borrow.MutBor}
use Rattle.std.specs.contracts.alloc.Global as global
use Rattle.std.specs.contracts.impls.GlobalAllocator.TheImpl as allocator
use Rattle.std.specs.contracts.rc.Rc as rc
use Rattle.std.specs.declared.{alloc.Global.Global, rc.Rc.Rc}
use denote.RattleType.{RattleType}

-- the same pointer, to this value
abbrev pub with_target : {X Z : Type 0} → Rc X Z → X → Rc X Z
with_target pointer value = record pointer { value = value }

-- the pointer ends with the last value behind r, and is unchanged where there is no r
abbrev pub LendsTarget : (T : RattleType) → MutBor (Rc T.Denot Global) → Option (MutBor T.Denot) → Fml
LendsTarget T pointer r = LendsIf (rc.the_row T global.the_row allocator.ghosts) T pointer r
    (with_target pointer.now) pointer.now
