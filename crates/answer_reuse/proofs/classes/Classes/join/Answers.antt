use Rattle.std.proofs.Common.{◌-◌, ◌∙◌, ap, arith, false, length, subst, sym}
use Rattle.std.proofs.lemmas.List.FromFn.{length-range_with_len}
use Rattle.body_replay.proofs.AgreementIsTested.{both}
use Rattle.answer_reuse.proofs.CallsJoined.{joined_as_many, joined_fewer, joined_first, joined_turn, key_inside}
use Rattle.answer_reuse.proofs.KeysInOrder.{keyed_of, pair_in_order, sorted_fewer, sorted_more, sorted_one}
use Rattle.answer_reuse.proofs.classes.Classes.join.Goals as goal
use Rattle.answer_reuse.specs.{Kept.AreJoined, Sorting.rises}

pub keys-init : goal.keys-init
keys-init c = record {
  each = ap length c.requires.calls ∙ length-range_with_len 0 (length c.args.run.now.calls.calls);
  joined = λ s. subst (AreJoined c.args.run.now c.args.keys.now 1) (sym c.requires.calls) (joined_first c.args.run.now c.args.keys.now);
  rising = λ t. sorted_one c.args.run.now c.args.keys.now;
}

pub are_tied-is_same-requires : goal.are_tied-is_same-requires
are_tied-is_same-requires c =
    let keyed = keyed_of c.args.run.now c.args.keys.now c.requires.keys in
    record {
      one = (keyed (c.keys.i - 1) c.key_at-lesser.result.now c.key_at-lesser.ensures).keyed;
      other = (keyed c.keys.i c.key_at-here.result.now c.key_at-here.ensures).keyed;
    }

pub join_one-requires : goal.join_one-requires
join_one-requires c =
    let inside = key_inside c.args.run.now c.args.keys.now c.requires.keys in
    let lesser = inside (c.keys.i - 1) c.key_at-lesser.result.now c.key_at-lesser.ensures in
    let here = inside c.keys.i c.key_at-here.result.now c.key_at-here.ensures in
    record { lesser = omega (arith, lesser, c.keys.invariant.each); a_call = omega (arith, here, c.keys.invariant.each) }

pub keys-preserved : goal.keys-preserved
keys-preserved c =
    let run = c.args.run.now in
    let keys = c.args.keys.now in
    let lesser = c.key_at-lesser.result.now in
    let here = c.key_at-here.result.now in
    let keyed = keyed_of run keys c.requires.keys in
    record {
      each = joined_as_many c.keys.self c.are_tied-is_same.result lesser.call here.call c.join_one.new.self c.join_one.ensures ∙ c.keys.invariant.each;
      joined = λ s. joined_turn run keys s c.keys.self c.keys.i lesser here (omega (arith, c.keys.auto.i)) c.key_at-lesser.ensures c.key_at-here.ensures
          (c.keys.invariant.joined s) c.are_tied-is_same.result c.are_tied-is_same.ensures c.join_one.new.self c.join_one.ensures;
      rising = λ t.
          let b = both c.keys.rise (rises c.are_tied-is_same.result lesser here) (sym c.still_rise-rise.ensures ∙ t) in
          sorted_more run keys c.keys.i lesser here (omega (arith, c.keys.auto.i)) c.key_at-lesser.ensures c.key_at-here.ensures (c.keys.invariant.rising b.0)
          (pair_in_order run lesser here (keyed (c.keys.i - 1) lesser c.key_at-lesser.ensures).keyed (keyed c.keys.i here c.key_at-here.ensures).keyed
          c.are_tied-is_same.result (λ e. c.are_tied-is_same.ensures.0 e) b.1);
    }

pub returns-clause-joined : goal.returns-clause-joined
returns-clause-joined c = λ s. joined_fewer c.args.run.now c.args.keys.now c.keys.i (length c.args.keys.now) c.keys.self c.keys-test.false
    (c.keys.invariant.joined s)

pub returns-clause-sorted : goal.returns-clause-sorted
returns-clause-sorted c = λ t. record {
  keys' = c.requires.keys;
  sorted = sorted_fewer c.args.run.now c.args.keys.now c.keys.i (length c.args.keys.now) c.keys-test.false (c.keys.invariant.rising t);
}
