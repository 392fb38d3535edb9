use Rattle.std.proofs.Common.{◌∙◌, Some, ap, arith, inr, option_and_then, refl, sym}
use Rattle.std.proofs.lemmas.Result.{IfErr-weaker, IfOk-weaker}
use Rattle.json.specs.{Json.parse_map, Reads.token_of}
use Rattle.serde_json.specs.Data.{array}
use Rattle.session_file.proofs.{ListsShown.no_list, WholeRead.array_read, WholeRead.nothing_read, WholeRead.refused_with}
use Rattle.session_file.proofs.replied.replies_read.Goals as goal
use Rattle.session_file.specs.{Listed.all_answered, Listed.nothing_answered, Passing.value_read}

pub returns-in_default-clause-refused : goal.returns-in_default-clause-refused
returns-in_default-clause-refused c = inr (refl, nothing_read c.args.depth c.args.reader.now c.in_default.ensures.value.0)

pub returns-then-opens_list-clause-read : goal.returns-then-opens_list-clause-read
returns-then-opens_list-clause-read c =
    let opens = sym c.if-opens_list.ensures in
    let is = array_read c.args.depth c.args.reader.now c.next.new.self (token_of c.in-Some.token) c.in-Some.ensures.value (omega (arith, c.requires)) opens in
    IfOk-weaker c.replies_in.result _ _ (λ answered found. (array found.0, is ∙ ap (parse_map array) found.1, found.2)) c.replies_in.ensures.read

pub returns-then-opens_list-clause-refused : goal.returns-then-opens_list-clause-refused
returns-then-opens_list-clause-refused c =
    let opens = sym c.if-opens_list.ensures in
    let is = array_read c.args.depth c.args.reader.now c.next.new.self (token_of c.in-Some.token) c.in-Some.ensures.value (omega (arith, c.requires)) opens in
    IfErr-weaker c.replies_in.result _ _ (λ fault refused. refused_with fault _ _ (λ none. is ∙ ap (parse_map array) none) refused) c.replies_in.ensures.refused

pub returns-in-Ok-clause-read : goal.returns-in-Ok-clause-read
returns-in-Ok-clause-read c =
    let found = c.in-Ok.ensures.passed in (
      found.0,
      ap (value_read c.args.depth) c.in-Some.ensures.value ∙ found.2,
      sym (ap (option_and_then (all_answered (Some nothing_answered))) (no_list (token_of c.in-Some.token) found.0 found.1 (sym c.if-opens_list.ensures))),
    )

pub returns-in-Err-clause-refused : goal.returns-in-Err-clause-refused
returns-in-Err-clause-refused c = inr (refl, ap (value_read c.args.depth) c.in-Some.ensures.value ∙ c.in-Err.ensures.refused)
