use Rattle.std.proofs.Common.{if◌then◌else◌, ◌∙◌, Bool, ap}
use Rattle.json.specs.Reads.{token_of}
use Rattle.serde_json.{proofs.Views.members_view-insert_entry, specs.Data.put, specs.View.members_view, specs.View.view}
use Rattle.session_file.proofs.fields.keep_field.Goals as goal
use Rattle.session_file.specs.Shown.{flat_token}

pub returns-in_ok-insert : goal.returns-in_ok-insert
returns-in_ok-insert c =
    let old = members_view c.args.fields.now.entries in
    let d = flat_token (token_of c.args.token) in
    ap members_view c.in_ok-insert.ensures.entries
    ∙ members_view-insert_entry c.args.fields.now.entries c.in_ok-key.key c.in_ok-value.value
    ∙ ap (λ k. put k (view c.in_ok-value.value) old) c.in_ok-key.ensures.ok
    ∙ ap (λ x. put c.args.key.now x old) c.in_ok-value.ensures
    ∙ ap (λ (b : Bool). if b then put c.args.key.now d old else old) c.if-is_field.ensures

pub returns-else-is_field : goal.returns-else-is_field
returns-else-is_field c =
    let old = members_view c.args.fields.now.entries in
    ap (λ (b : Bool). if b then put c.args.key.now (flat_token (token_of c.args.token)) old else old) c.if-is_field.ensures
