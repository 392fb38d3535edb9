use Rattle.std.proofs.Common.{◌∙◌, ap, inr, refl, subst, sym}
use Rattle.json.specs.{Json.parse_map, Reads.token_of}
use Rattle.serde_json.specs.Data.{object}
use Rattle.session_file.proofs.FieldsShown.{no_fields, object_shown, view-null}
use Rattle.session_file.proofs.WholeRead.{nothing_read, object_read, refused_with}
use Rattle.session_file.proofs.fields.shown_value.Goals as goal
use Rattle.session_file.specs.{Passing.value_read, Shown.ShowsValue}

pub returns-in_default-clause-refused : goal.returns-in_default-clause-refused
returns-in_default-clause-refused c = inr (refl, nothing_read c.args.depth c.args.reader.now c.in_default.ensures.value.0)

pub returns-in-Ok-clause-read : goal.returns-in-Ok-clause-read
returns-in-Ok-clause-read c =
    let found = c.in-Ok.ensures.read in
    let opens = sym c.if-opens_object.ensures in
    let is = object_read c.args.depth c.args.reader.now c.next.new.self (token_of c.in-Some.token) c.in-Some.ensures.value c.requires opens in
    (object found.0, is ∙ ap (parse_map object) found.1, object_shown c.in-Ok.fields found.0 found.2)

pub returns-in-Err-clause-refused : goal.returns-in-Err-clause-refused
returns-in-Err-clause-refused c =
    let opens = sym c.if-opens_object.ensures in
    let is = object_read c.args.depth c.args.reader.now c.next.new.self (token_of c.in-Some.token) c.in-Some.ensures.value c.requires opens in
    refused_with c.in-Err.fault _ _ (λ none. is ∙ ap (parse_map object) none) c.in-Err.ensures.refused

pub returns-in-Ok-pass_rest-clause-read : goal.returns-in-Ok-pass_rest-clause-read
returns-in-Ok-pass_rest-clause-read c =
    let found = c.in-Ok-pass_rest.ensures.passed in (
      found.0,
      ap (value_read c.args.depth) c.in-Some.ensures.value ∙ found.2,
      subst (λ d. ShowsValue d found.0) (sym view-null) (no_fields (token_of c.in-Some.token) found.0 found.1 (sym c.if-opens_object.ensures)),
    )

pub returns-in-Err-pass_rest-clause-refused : goal.returns-in-Err-pass_rest-clause-refused
returns-in-Err-pass_rest-clause-refused c = inr (refl, ap (value_read c.args.depth) c.in-Some.ensures.value ∙ c.in-Err-pass_rest.ensures.refused)
