use Rattle.std.{proofs.Common.◌≡◌, proofs.Common.None, proofs.Common.Some, specs.HashMap.get}
use Rattle.core_program.proofs.TypesClassed.{one_type_classed, other_classed}
use Rattle.core_program.proofs.type_classes.classify_type.Goals as goal
use Rattle.core_program.specs.{ProgramRows.type_at, TypeClasses.same_type_form, TypeClasses.type_form}

pub returns-in-None : goal.returns-in-None
returns-in-None c =
    let d = c.deref.ensures.value in
    let r = c.type_row.ensures in
    let u = c.type_form.ensures in
    let v = c.in-None.is in
    let e : type_form c.args.tables.now c.args.types.now.items (type_at c.args.tables.now c.args.at) ≡ None = cc in
    other_classed c.args.tables.now c.requires.whole c.args.types.now.items (get same_type_form c.args.known.now) c.args.at c.requires.after e

pub returns-in_ok-class-in-Some : goal.returns-in_ok-class-in-Some
returns-in_ok-class-in-Some c =
    let d = c.deref.ensures.value in
    let r = c.type_row.ensures in
    let u = c.type_form.ensures in
    let v = c.in-Some.is in
    let e : type_form c.args.tables.now c.args.types.now.items (type_at c.args.tables.now c.args.at) ≡ Some c.in-Some.form = cc in
    one_type_classed c.args.tables.now c.requires.whole c.args.types.now.items (get same_type_form c.args.known.now)
    (get same_type_form c.class_of_form.new.known) c.args.at c.in_ok-class-in-Some.class c.in-Some.form c.requires.inside c.requires.after e
    c.in_ok-class-in-Some.ensures.class c.in_ok-class-in-Some.ensures.known c.in_ok-class-in-Some.ensures.has
