use Rattle.std.proofs.Common.{◌<◌, ◌∙◌, ◌≡◌, ℕ, Some, ap, arith, length, subst, sym}
use Rattle.std.proofs.lemmas.List.{with_items_is}
use Rattle.reference_oracle.proofs.{LevelsFound.all_levels, LevelsFound.level_within, PairsMatch.noted_longer}
use Rattle.reference_oracle.proofs.PairsNumbered.{extends_long, extends_twice}
use Rattle.reference_oracle.proofs.pairs.Pairs.look_at.Goals as goal
use Rattle.reference_oracle.specs.Levels.{AreLevels, IsSettled, Leads, is_within, level_at}
use Rattle.reference_oracle.specs.Shapes.{programs}

pub look_inside-requires-clause-noted : goal.look_inside-requires-clause-noted
look_inside-requires-clause-noted c =
    let x = c.args.self.now in
    noted_longer (programs c.args.subject.now c.args.reference.now) x.list.items c.number_of.new.pairs.items x.inside.items
    c.in_ok-number.ensures.more c.requires.pairs.noted

pub add_levels-requires : goal.add_levels-requires
add_levels-requires c =
    let x = c.args.self.now in
    let longer = extends_twice x.list.items c.number_of.new.pairs.items c.look_inside.new.list.items c.in_ok-number.ensures.more
    c.in_ok-look_inside.ensures.more in
    let long = extends_long x.list.items c.look_inside.new.list.items longer in
    let size = c.requires.pairs.size in
    let all = c.requires.pairs.all in
    let now = c.in_ok-look_inside.ensures.all in
    let end = c.len.ensures in
    omega (arith, long, size, all, now, end)

pub returns-clause-pairs : goal.returns-clause-pairs
returns-clause-pairs c =
    let ps = programs c.args.subject.now c.args.reference.now in
    let x = c.args.self.now in
    let list = c.look_inside.new.list.items in
    let inside = c.look_inside.new.inside.items in
    let before = c.add_levels.new.levels.items in
    let levels = c.settle.new.levels in
    let start = c.len-start.result in
    let noted = c.in_ok-look_inside.ensures.noted in
    let all = c.in_ok-look_inside.ensures.all in
    let same = c.in_ok-add_levels.ensures.same in
    let longer = extends_twice x.list.items c.number_of.new.pairs.items list c.in_ok-number.ensures.more c.in_ok-look_inside.ensures.more in
    let known : AreLevels ps x.list.items before = λ n q there most. c.requires.pairs.levels n q there most ∙ ap (is_within most) (sym (same n)) in
    let begun : start ≡ length x.list.items = let e = c.len-start.ensures in let f = c.requires.pairs.all in omega (arith, e, f) in
    let short : (n level : ℕ) → level_at before n ≡ Some level → n < start =
    λ n level h. (let w = level_within x.levels.items n level (sym (same n) ∙ h) in let e = c.len-start.ensures in
    let f = c.requires.pairs.size in omega (arith, w, e, f)) in
    let to : Leads inside before levels =
    subst (λ l. Leads l before levels) c.deref.ensures.value
    (subst (λ l. Leads c.deref.result.now l levels) c.deref_mut.ensures.value c.in_ok-settle.ensures.leads) in
    let settled : IsSettled inside start levels = subst (λ l. IsSettled l start levels) c.deref.ensures.value c.in_ok-settle.ensures.settled in
    let column = c.add_levels.new.levels in
    let full : length levels ≡ column.len = let e = to.size in let f = column.ok.0 in omega (arith, e, f) in
    let is = with_items_is column levels full in
    record {
      parts = c.requires.pairs.parts;
      numbers = c.in_ok-look_inside.ensures.numbers;
      noted = noted;
      all = all;
      levels = subst (AreLevels ps list) (sym is) (all_levels ps x.list.items list inside before levels start noted all longer known begun to settled short);
      size = let e = ap length is ∙ to.size in let f = c.in_ok-add_levels.ensures.size in let g = c.len.ensures in omega (arith, e, f, g);
    }
