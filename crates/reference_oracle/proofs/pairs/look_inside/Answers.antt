use Rattle.std.proofs.Common.{◌+◌, ◌<◌, ◌∙◌, ◌≡◌, Some, ap, arith, length, refl, slice_get, subst, sym}
use Rattle.std.proofs.lemmas.{List.length_push, Option.slice_get_read}
use Rattle.reference_oracle.proofs.PairsNumbered.{extends_twice, noted_one, noted_within}
use Rattle.reference_oracle.proofs.pairs.look_inside.Goals as goal
use Rattle.reference_oracle.specs.{PairsOfTypes.AreInside, PairsOfTypes.AreNoted, Shapes.programs}

pub returns-then-at-len-clause-all : goal.returns-then-at-len-clause-all
returns-then-at-len-clause-all c =
    let ps = programs c.args.subject.now c.args.reference.now in
    let within = noted_within ps c.pairs.list.items c.pairs.inside.items c.pairs.invariant.noted in
    let size = c.pairs.invariant.size in
    let t = c.if-at-len.true in
    let e = c.len.ensures in
    omega (arith, within, size, t, e)

pub pairs-preserved : goal.pairs-preserved
pairs-preserved c =
    let ps = programs c.args.subject.now c.args.reference.now in
    let old = c.pairs.list.items in
    let new = c.inside_of.new.pairs.items in
    let noted = c.pairs.inside.items in
    let ns = c.in_ok-numbers.numbers in
    let q = c.index.result.now in
    let size = c.pairs.invariant.size in
    let within : c.pairs.at < length old = let t = c.if-at-len.false in let e = c.len.ensures in omega (arith, t, e) in
    let there = slice_get_read old (length old) c.pairs.at q refl within c.index.ensures in
    let inside = subst (AreInside new ns) c.in_ok-found.ensures c.in_ok-numbers.ensures.inside in
    record {
      noted = subst (AreNoted ps new) (sym c.in_ok-push.ensures.items)
          (noted_one ps old new noted ns q c.pairs.invariant.noted c.in_ok-numbers.ensures.more
          (subst (λ n. slice_get old n ≡ Some q) (sym size) there) inside);
      size = ap length c.in_ok-push.ensures.items ∙ length_push noted ns ∙ ap (λ n. n + 1) size;
      more = extends_twice c.args.list.now.items old new c.pairs.invariant.more c.in_ok-numbers.ensures.more;
      numbers = c.in_ok-numbers.ensures.numbers;
    }
