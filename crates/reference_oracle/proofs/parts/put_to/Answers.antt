use Rattle.std.proofs.Common.{◌++◌, ◌<◌, ◌∙◌, ap, arith, length, refl, sym}
use Rattle.std.proofs.lemmas.Option.{slice_get_read}
use Rattle.core_program.specs.ProgramRows.{row_at}
use Rattle.reference_oracle.proofs.PartsPut.{one_put}
use Rattle.reference_oracle.proofs.parts.put_to.Goals as goal
use Rattle.reference_oracle.specs.{PartsKept.list_in, Shapes.parts_in}

pub returns : goal.returns
returns c =
    let lists = c.args.lists.now.items in
    let holder = c.args.holder in
    let more = parts_in c.args.program.now holder c.args.token (row_at c.args.program.now c.args.token) in
    let less : holder < length lists = let t = c.if-at-len.false in let e = c.len.ensures in omega (arith, t, e) in
    let there = slice_get_read lists (length lists) holder c.index_mut.result.now refl less c.index_mut.ensures.value in
    one_put lists holder c.put_part.new.parts more less (c.in_ok-put_part.ensures ∙ ap (λ o. list_in o ++ more) (sym there))
