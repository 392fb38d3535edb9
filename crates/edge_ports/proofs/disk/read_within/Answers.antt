use Rattle.std.proofs.Common.{◌++◌, ℕ, ap, arith, length, take}
use Rattle.std.proofs.{KnownBytes.Consumes-trans, lemmas.List.length-append, lemmas.List.length-take}
use Rattle.edge_ports.proofs.disk.read_within.Goals as goal

pub returns-then-count-left-clause-most : goal.returns-then-count-left-clause-most
returns-then-count-left-clause-most g c = (
  c.chunks.bytes ++ take c.in-Ok.count c.read_uninterrupted.new.room,
  Consumes-trans _ _ _ c.chunks.bytes (take c.in-Ok.count c.read_uninterrupted.new.room) c.chunks.invariant.1 c.in-Ok.ensures.bytes.0,
  omega (
    arith,
    length-append c.chunks.bytes (take c.in-Ok.count c.read_uninterrupted.new.room),
    length-take {A = ℕ},
    c.in-Ok.ensures.bound,
    c.chunk_len-want.ensures.most,
    c.read_uninterrupted.auto.room,
    ap (length {A = ℕ}) c.as_slice.ensures,
  ),
)

pub returns-then-is_err-clause-most : goal.returns-then-is_err-clause-most
returns-then-is_err-clause-most g c = (
  c.chunks.bytes ++ take c.in-Ok.count c.read_uninterrupted.new.room,
  Consumes-trans _ _ _ c.chunks.bytes (take c.in-Ok.count c.read_uninterrupted.new.room) c.chunks.invariant.1 c.in-Ok.ensures.bytes.0,
  omega (
    arith,
    length-append c.chunks.bytes (take c.in-Ok.count c.read_uninterrupted.new.room),
    length-take {A = ℕ},
    c.in-Ok.ensures.bound,
    c.if-count-left.false,
    ap (length {A = ℕ}) c.as_slice.ensures,
  ),
)
