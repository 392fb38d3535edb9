use Rattle.std.proofs.Common.{◌-◌, ◌∙◌, ◌≡◌, None, Some, arith, inr, length, refl}
use Rattle.std.proofs.lemmas.Result.{err_from_is_err_and}
use Rattle.json.{proofs.Grammar.read_key-shorter, specs.Json.read_key, specs.Json.value}
use Rattle.serde_json.specs.Data.{no_members, put}
use Rattle.session_file.proofs.{PartsRead.no_parts, WholeRead.refused_with}
use Rattle.session_file.proofs.PassTurns.{key_refused, member_read, member_refused, members_over}
use Rattle.session_file.proofs.parts.parts_in.Goals as goal

pub members-init : goal.members-init
members-init c = (length c.args.reader.now, no_members, omega arith, refl, no_parts _ c.new.ensures.empty refl refl, omega arith)

pub returns-in_err-key-clause-refused : goal.returns-in_err-key-clause-refused
returns-in_err-key-clause-refused c =
    let l = c.members in
    let p = err_from_is_err_and c.from_residual.result c.from_residual.ensures.1 in
    let refused = c.in_err-key.ensures.refused in
    rw (p.1, p.2) (inr (refused.0, l.invariant.3 ∙ key_refused (value c.args.depth) l.invariant.1 l.invariant.0 l.reader refused.1))

pub members-preserved : goal.members-preserved
members-preserved c =
    let p = value c.args.depth in
    let l = c.members in
    let n = l.invariant.0 in
    let old = l.invariant.1 in
    let k = c.in-Some.key.now in
    let s = c.key_after.new.reader in
    let named : read_key l.reader ≡ Some (Some k, s) = grind arith in
    let read = c.in-Ok.ensures.read in
    let r = c.part_read.new.reader in
    let less = read_key-shorter l.reader (Some k) s named in
    let lesser = c.in-Ok.ensures.shorter in (
      n - 1,
      put k read.0 old,
      omega (arith, l.invariant.2),
      l.invariant.3 ∙ member_read p old n k l.reader s r read.0 (omega (arith, l.invariant.2)) named read.1,
      read.2 old l.invariant.4,
      omega (arith, l.invariant.5),
    )

pub returns-in-Err-clause-refused : goal.returns-in-Err-clause-refused
returns-in-Err-clause-refused c =
    let l = c.members in
    let k = c.in-Some.key.now in
    let s = c.key_after.new.reader in
    let named : read_key l.reader ≡ Some (Some k, s) = grind arith in
    refused_with c.in-Err.fault _ _
    (λ none. l.invariant.3 ∙ member_refused (value c.args.depth) l.invariant.1 l.invariant.0 k l.reader s named none) c.in-Err.ensures.refused

pub returns-clause-read : goal.returns-clause-read
returns-clause-read c =
    let l = c.members in
    let r = c.key_after.new.reader in
    let over : read_key l.reader ≡ Some (None, r) = grind arith in
    (l.invariant.1, l.invariant.3 ∙ members_over (value c.args.depth) l.invariant.1 l.invariant.0 l.reader r l.invariant.2 over, l.invariant.4)
