use Rattle.std.proofs.Common.{◌-◌, ◌<◌, ◌∙◌, ◌≡◌, ap, arith, length, set, sym}
use Rattle.std.proofs.{Math.Seq.map-set_same, lemmas.List.map-set, lemmas.List.Elements.All-get_or, lemmas.List.Elements.All-set}
use Rattle.call_tree.proofs.LeavingKeepsNesting.{left_calls_are_nested, left_recording, number_inside}
use Rattle.call_tree.proofs.calls.Calls.leave.Goals as goal
use Rattle.call_tree.specs.{Recording.left_call, Recording.start_of, declared.records.Call.Call}

pub invariant_of-self : goal.invariant_of-self
invariant_of-self c =
    let calls = c.self.inside.calls.items in
    let call = c.index_mut-call.result.now in
    let number = c.in-Some.number in
    let kept = c.self.invariant in
    let is = c.index_mut-call.ensures.value in
    let popped = c.in-Some.ensures.items in
    let all_calls : c.len.result ≡ length calls = c.len.ensures ∙ c.self.inside.calls.ok.0 in
    let inside : number < length calls = number_inside _ _ _ _ call popped is kept.nested in
    rw all_calls record {
      few = kept.few;
      few_open = omega arith;
      routine_column = kept.routine_column ∙ sym (map-set_same (λ (k : Call). k.routine) calls number
          (left_call call (length calls) c.args.exit c.args.way c.args.answer) call (ap (λ (k : Call). k.routine) is));
      last_column = ap (λ xs. set xs number (length calls - 1)) kept.last_column
          ∙ sym (map-set (λ (k : Call). k.last) calls number (left_call call (length calls) c.args.exit c.args.way c.args.answer));
      start_column = kept.start_column ∙ sym (map-set_same start_of calls number
          (left_call call (length calls) c.args.exit c.args.way c.args.answer) call (ap start_of is));
      known = All-set (λ (k : Call). k.routine < c.self.inside.routines) calls number _
          (rw (ap (λ (k : Call). k.routine) is) (All-get_or (λ (k : Call). k.routine < c.self.inside.routines) calls number call inside kept.known)) kept.known;
      nested = left_calls_are_nested calls _ _ number call popped is c.args.exit c.args.way c.args.answer kept.nested;
    }

pub returns-in-Some : goal.returns-in-Some
returns-in-Some c =
    let calls = c.self.inside.calls.items in
    let call = c.index_mut-call.result.now in
    let is = c.index_mut-call.ensures.value in
    let popped = c.in-Some.ensures.items in
    let all_calls : c.len.result ≡ length calls = c.len.ensures ∙ c.self.inside.calls.ok.0 in
    let inside : c.in-Some.number < length calls = number_inside _ _ _ _ call popped is c.self.invariant.nested in
    rw (all_calls, ← c.self.view_is) (left_recording calls _ _ _ call popped is c.self.inside.routines c.args.exit c.args.way c.args.answer inside)
