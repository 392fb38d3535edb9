use Rattle.std.proofs.Common.{◌++◌, ◌-◌, ◌∙◌, ◌∷◌, ◌≡◌, [], ap, arith, length, map, reverse, subst, sym}
use Rattle.std.{proofs.lemmas.List.reverse-append, specs.Option.option_to_list}
use Rattle.core_program.specs.Run.{call_closed, without_frame}
use Rattle.call_tree.specs.Recording.{left}
use Rattle.eval_ops.specs.Machines.{moment_of}
use Rattle.program_run.proofs.StepsLeadToTheRun.{climb_leave}
use Rattle.program_run.proofs.runner.Runner.leave.Goals as goal
use Rattle.program_run.specs.{Runners.open_in, Runners.rest_in, Runners.view_of, Table.side_of, Tower.TowerAt, Tower.stage_after}

pub unwrap-open-requires : goal.unwrap-open-requires
unwrap-open-requires c = c.pop.ensures.variant.1 (let o = c.args.self.now.opens.ok in let h = c.requires.open in omega (arith, o, h))

pub returns-clause-left : goal.returns-clause-left
returns-clause-left c p first e t =
    let call = c.unwrap-open.result in
    let old = moment_of c.args.self.now.machine in
    let new = moment_of c.close_call.new.machine in
    let removed = c.in_ok-remove_frame.ensures.removed in
    let closes = c.close_call.ensures.closed in
    let log : new.log ≡ old.log = ap (λ m. m.log) closes ∙ ap (λ m. m.log) removed in
    let state : new.state ≡ call_closed c.saturating_sub-depth.result (without_frame call.base call.cells old.state) =
    ap (λ m. m.state) closes ∙ ap (λ m. call_closed c.saturating_sub-depth.result m.state) removed in
    let depth : c.saturating_sub-depth.result ≡ old.state.depth - 1 = c.saturating_sub-depth.ensures ∙ ap (λ m. m.state.depth - 1) removed in
    let items : c.args.self.now.opens.items ≡ c.pop.new.self.items ++ call ∷ [] =
    c.pop.ensures.items ∙ ap (λ o. c.pop.new.self.items ++ option_to_list o) c.unwrap-open.ensures in
    let opens : map (open_in p) (reverse c.args.self.now.opens.items) ≡ open_in p call ∷ map (open_in p) (reverse c.pop.new.self.items) =
    ap (λ os. map (open_in p) (reverse os)) items ∙ ap (map (open_in p)) (reverse-append c.pop.new.self.items (call ∷ [])) in
    subst (λ kept. TowerAt p first (stage_after (rest_in p call.caller) e) (record {
      opens = map (open_in p) (reverse c.pop.new.self.items);
      moment = new;
      recording = kept;
    }))
    (sym (c.leave.ensures ∙ (λ i. left c.args.self.now.calls ((c.in_ok-exit.ensures ∙ ap (λ w. side_of (length w) new.state) log) i)
    (sym t.goes_out i) (sym t.gives i))))
    (climb_leave (view_of p c.args.self.now) new (map (open_in p) (reverse c.pop.new.self.items)) (open_in p call) c.saturating_sub-depth.result e t.ends
    opens state log depth)
