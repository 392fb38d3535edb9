use Rattle.std.proofs.Common.{◌∙◌, ap, inr, refl, sym}
use Rattle.json.specs.Reads.{token_of}
use Rattle.serde_json.specs.View.{members_view}
use Rattle.session_file.proofs.FieldsShown.{flat_begun}
use Rattle.session_file.proofs.fields.field_read.Goals as goal
use Rattle.session_file.specs.Shown.{with_field}

pub returns-in-Ok-keep_field-clause-read : goal.returns-in-Ok-keep_field-clause-read
returns-in-Ok-keep_field-clause-read c =
    let p = c.in-Ok.ensures.passed in (
      p.0,
      p.2,
      c.in-Ok-keep_field.ensures
          ∙ ap (λ d. with_field c.args.key.now d (members_view c.args.fields.now.entries)) (sym (flat_begun (token_of c.in-Ok.token) p.0 p.1)),
    )

pub returns-in-Err-clause-refused : goal.returns-in-Err-clause-refused
returns-in-Err-clause-refused c = inr (refl, c.in-Err.ensures.refused)
