use Rattle.std.proofs.Common.{◌∙◌, Some, ap, sym}
use Rattle.json.specs.Reads.{token_of}
use Rattle.serde_json.specs.{Data.string, Read.number_of}
use Rattle.session_file.proofs.FieldsShown.{nothing_kept, numeral_kept, numeral_none, numeral_null, view-boolean, view-null, view-string}
use Rattle.session_file.proofs.fields.flat_value.Goals as goal
use Rattle.session_file.specs.Shown.{flat_token}

pub returns-in_ok-from_str-in-String : goal.returns-in_ok-from_str-in-String
returns-in_ok-from_str-in-String c =
    let text = c.in_ok-from_str-in-String in
    view-string text.field-0 ∙ ap string text.ensures.ok ∙ sym (ap flat_token (ap token_of c.in-String.is))

pub returns-in-Some-Some : goal.returns-in-Some-Some
returns-in-Some-Some c =
    let is = ap Some (sym c.in-Some-Some.field-0-is) ∙ c.in-Some-Some.ensures in
    c.from.ensures ∙ numeral_kept (number_of c.in-Number.text.now) c.in-Some-Some.number is
    ∙ sym (ap flat_token (ap token_of c.in-Number.is))

pub returns-in-Some-None : goal.returns-in-Some-None
returns-in-Some-None c =
    let is = sym c.in-Some-None.ensures ∙ ap Some c.in-Some-None.field-0-is in
    view-null ∙ numeral_null (number_of c.in-Number.text.now) is ∙ sym (ap flat_token (ap token_of c.in-Number.is))

pub returns-in-None : goal.returns-in-None
returns-in-None c =
    view-null ∙ numeral_none (number_of c.in-Number.text.now) (sym c.in-None.ensures) ∙ sym (ap flat_token (ap token_of c.in-Number.is))

pub returns-in-Bool : goal.returns-in-Bool
returns-in-Bool c = view-boolean c.in-Bool.truth ∙ sym (ap flat_token (ap token_of c.in-Bool.is))

pub returns-in_default : goal.returns-in_default
returns-in_default c = view-null ∙ nothing_kept c.args.token c.in_default.not-String c.in_default.not-Number c.in_default.not-Bool
