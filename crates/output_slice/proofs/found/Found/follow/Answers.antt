use Rattle.std.proofs.Common.{if◌then◌else◌, ◌++◌, ◌∙◌, ◌≡◌, None, Some, ap, arith, is_some, sym}
use Rattle.std.{proofs.lemmas.Option.slice_get_read, specs.List.slice_get}
use Rattle.output_slice.proofs.{FirstPairs.first_some, FirstPairs.first_within, FirstPairs.none_at, KeptOfRuns.entry_at}
use Rattle.output_slice.proofs.found.Found.follow.Goals as goal
use Rattle.output_slice.specs.Backward.{more_at, wants_at}

pub returns-in-None-clause-pairs : goal.returns-in-None-clause-pairs
returns-in-None-clause-pairs c r k t =
    let firsts = c.args.self.now.firsts in
    let pairs = c.args.self.now.pairs in
    let n = c.args.call in
    let there : slice_get firsts.items n ≡ Some None =
    slice_get_read firsts.items firsts.len n c.index.result.now firsts.ok.0 (omega arith) c.index.ensures ∙ ap Some c.in-None.is in
    sym (ap (λ b. if b then pairs ++ more_at r n pairs (slice_get r.events n) else pairs) (none_at n pairs (sym (c.requires.firsts.each n None there))))

pub want_all-gathered-requires : goal.want_all-gathered-requires
want_all-gathered-requires c =
    let firsts = c.args.self.now.firsts in
    let there : slice_get firsts.items c.args.call ≡ Some (Some c.in-Some.first) =
    slice_get_read firsts.items firsts.len c.args.call c.index.result.now firsts.ok.0 (omega arith) c.index.ensures ∙ ap Some c.in-Some.is in
    let inside = first_within c.args.call c.args.self.now.pairs c.in-Some.first (sym (c.requires.firsts.each c.args.call (Some c.in-Some.first) there)) in
    omega (arith, inside)

pub returns-in_ok-pass_call-in-Some-clause-pairs : goal.returns-in_ok-pass_call-in-Some-clause-pairs
returns-in_ok-pass_call-in-Some-clause-pairs c r k t =
    let firsts = c.args.self.now.firsts in
    let pairs = c.args.self.now.pairs in
    let n = c.args.call in
    let there : slice_get firsts.items n ≡ Some (Some c.in-Some.first) =
    slice_get_read firsts.items firsts.len n c.index.result.now firsts.ok.0 (omega arith) c.index.ensures ∙ ap Some c.in-Some.is in
    let first = sym (c.requires.firsts.each n (Some c.in-Some.first) there) in
    let asked = c.want_all-gathered.ensures (t c.in-Some.first first) in
    let e = entry_at k n c.requires.a_call in
    let passed = c.in_ok-pass_call-in-Some.ensures.passed r k e.0 e.1 (wants_at n pairs) asked.outputs asked.cells in
    passed.pairs ∙ ap (λ o. pairs ++ more_at r n pairs o) (sym e.1)
    ∙ sym (ap (λ b. if b then pairs ++ more_at r n pairs (slice_get r.events n) else pairs) (sym (first_some n pairs) ∙ ap is_some first))
