use Rattle.std.proofs.Common.{◌≡◌, All, arith, length, slice_get, subst, sym}
use Rattle.std.proofs.lemmas.Option.{get_or_from_slice_get, slice_get_within}
use Rattle.call_tree.specs.Told.{IsTold}
use Rattle.answer_reuse.proofs.KeysOfRun.{keys_none}
use Rattle.answer_reuse.proofs.classes.keyed_calls.Goals as goal
use Rattle.answer_reuse.specs.Sorting.{AreKeysTo}

pub calls-init : goal.calls-init
calls-init c = subst (AreKeysTo c.args.run.now 0) (sym c.in_ok-keys.ensures.items) (keys_none c.args.run.now)

pub push_key-requires : goal.push_key-requires
push_key-requires c =
    let run = c.args.run.now in
    let row = c.call.result.now in
    let found = c.call.ensures.found in
    record {
      told = subst (IsTold run.log run.input) (get_or_from_slice_get run.calls.calls c.calls.call row row found)
          (c.requires.told c.calls.call row (slice_get_within run.calls.calls c.calls.call row found));
      row = found;
    }

pub calls-preserved : goal.calls-preserved
calls-preserved c = c.in_ok-push_key.ensures c.calls.invariant

pub returns : goal.returns
returns c =
    let all : c.calls.call ≡ length c.args.run.now.calls.calls = omega (arith, c.calls-test.false, c.calls.auto.call-end, c.len-call-end.ensures) in
    subst (λ n. AreKeysTo c.args.run.now n c.calls.keys.items) all c.calls.invariant
