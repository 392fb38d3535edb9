use Rattle.std.proofs.Common.{◌∙◌, arith, sym}
use Rattle.cell_names.proofs.NamesPassed.{led_begins, led_here, led_on, unled_far, unled_here}
use Rattle.cell_names.proofs.walks.unled.Goals as goal
use Rattle.cell_names.specs.Names.{scene_in}

pub steps-init : goal.steps-init
steps-init c = led_begins (scene_in c.args.scene.now) c.args.from c.args.name.now c.args.limit

pub returns-then-is_empty : goal.returns-then-is_empty
returns-then-is_empty c =
    led_here (scene_in c.args.scene.now) c.steps.counter c.args.from c.steps.at c.args.name.now c.steps.left.now c.steps.alike
    (sym c.is_empty.ensures ∙ c.if-is_empty.true) c.steps.invariant

pub returns-in-None : goal.returns-in-None
returns-in-None c =
    unled_here (scene_in c.args.scene.now) c.steps.counter c.args.from c.steps.at c.args.name.now c.steps.left.now c.steps.alike c.passed_over.result _
    c.steps-test.true (sym c.is_empty.ensures ∙ c.if-is_empty.false) c.passed_over.ensures (omega arith) (omega arith) c.steps.invariant

pub steps-preserved : goal.steps-preserved
steps-preserved c =
    led_on (scene_in c.args.scene.now) c.steps.counter c.args.from c.steps.at _ c.args.name.now c.steps.left.now _ c.steps.alike c.alike_below.result _
    c.steps-test.true (sym c.is_empty.ensures ∙ c.if-is_empty.false) c.alike_below.ensures (λ go. rw c.in-Some.is at (c.step_named.ensures go))
    (omega arith) (omega arith) c.steps.invariant

pub returns-then-is_empty-2 : goal.returns-then-is_empty-2
returns-then-is_empty-2 c =
    led_here (scene_in c.args.scene.now) c.steps.counter c.args.from c.steps.at c.args.name.now c.steps.left.now c.steps.alike
    (sym c.is_empty-2.ensures ∙ c.if-is_empty-2.true) c.steps.invariant

pub returns-else-is_empty-2 : goal.returns-else-is_empty-2
returns-else-is_empty-2 c =
    unled_far (scene_in c.args.scene.now) c.steps.counter c.args.from c.steps.at c.args.name.now c.steps.left.now c.steps.alike c.steps-test.false
    (sym c.is_empty-2.ensures ∙ c.if-is_empty-2.false) c.steps.invariant
