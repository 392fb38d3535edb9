use Rattle.std.proofs.Common.{◌∙◌, ap, arith, inr, sym}
use Rattle.json.specs.{Json.parse_map, Reads.token_of}
use Rattle.serde_json.specs.{Data.object, Read.max_depth}
use Rattle.session_file.proofs.{PartsSame.parts_session, WholeRead.nothing_read, WholeRead.object_read}
use Rattle.session_file.proofs.TextRead.{ended, no_session, refused_text, text_followed, text_refused, text_whole}
use Rattle.session_file.proofs.reading.session_read.Goals as goal
use Rattle.session_file.specs.{Passing.value_read, Reading.session_or_fault}

pub returns-in_default : goal.returns-in_default
returns-in_default c =
    inr (sym (ap session_or_fault (text_refused c.args.reader (nothing_read max_depth c.args.reader c.in_default.ensures.value.0))))

pub returns-then-is_some : goal.returns-then-is_some
returns-then-is_some c =
    let opens = sym c.if-opens_object.ensures in
    let is = object_read max_depth c.args.reader c.next.new.self (token_of c.in-Some.token) c.in-Some.ensures.value (omega arith) opens in
    let found = c.in-Ok.ensures.read in
    let read = is ∙ ap (parse_map object) found.1 in
    let none = text_followed c.args.reader token_of c.next-in-Ok.result c.parts_in.new.reader c.next-in-Ok.new.self (object found.0) read
    c.next-in-Ok.ensures.value (sym c.if-is_some.ensures) in
    inr (sym (ap session_or_fault none))

pub returns-then-is_some-2 : goal.returns-then-is_some-2
returns-then-is_some-2 c =
    let found = c.in-Ok-pass_rest.ensures.passed in
    let read = ap (value_read max_depth) c.in-Some.ensures.value ∙ found.2 in
    let none = text_followed c.args.reader token_of c.next-in-Ok-pass_rest.result c.pass_rest.new.reader c.next-in-Ok-pass_rest.new.self found.0 read
    c.next-in-Ok-pass_rest.ensures.value (sym c.if-is_some-2.ensures) in
    inr (sym (ap session_or_fault none))

pub returns-else-is_some : goal.returns-else-is_some
returns-else-is_some c =
    let opens = sym c.if-opens_object.ensures in
    let is = object_read max_depth c.args.reader c.next.new.self (token_of c.in-Some.token) c.in-Some.ensures.value (omega arith) opens in
    let found = c.in-Ok.ensures.read in
    let over = ended token_of c.next-in-Ok.result c.parts_in.new.reader c.next-in-Ok.new.self c.next-in-Ok.ensures.value (sym c.if-is_some.ensures) in
    let whole = text_whole c.args.reader c.parts_in.new.reader (object found.0) (is ∙ ap (parse_map object) found.1) over in
    inr (c.session_from.ensures ∙ parts_session c.in-Ok.parts found.0 found.2 ∙ sym (ap session_or_fault whole))

pub returns-in-Err : goal.returns-in-Err
returns-in-Err c =
    let opens = sym c.if-opens_object.ensures in
    let is = object_read max_depth c.args.reader c.next.new.self (token_of c.in-Some.token) c.in-Some.ensures.value (omega arith) opens in
    refused_text c.in-Err.fault _ c.args.reader (λ none. text_refused c.args.reader (is ∙ ap (parse_map object) none)) c.in-Err.ensures.refused

pub returns-else-is_some-2 : goal.returns-else-is_some-2
returns-else-is_some-2 c =
    let found = c.in-Ok-pass_rest.ensures.passed in
    let over = ended token_of c.next-in-Ok-pass_rest.result c.pass_rest.new.reader c.next-in-Ok-pass_rest.new.self c.next-in-Ok-pass_rest.ensures.value
    (sym c.if-is_some-2.ensures) in
    let whole = text_whole c.args.reader c.pass_rest.new.reader found.0 (ap (value_read max_depth) c.in-Some.ensures.value ∙ found.2) over in
    inr (sym (ap session_or_fault whole ∙ no_session (token_of c.in-Some.token) found.0 found.1 (sym c.if-opens_object.ensures)))

pub returns-in-Err-pass_rest : goal.returns-in-Err-pass_rest
returns-in-Err-pass_rest c =
    inr (sym (ap session_or_fault (text_refused c.args.reader (ap (value_read max_depth) c.in-Some.ensures.value ∙ c.in-Err-pass_rest.ensures.refused))))
