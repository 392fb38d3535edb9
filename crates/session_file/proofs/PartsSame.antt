-- The session of the parts of an object is the session that the object is.
use Rattle.std.proofs.Common.{if◌then◌else◌, ◌==◌, ◌∙◌, ◌≡◌, [], ℕ, Bool, Err, List, None, Ok, Option, Result, Some, ap, codes, false, option_and_then}
use Rattle.std.proofs.Common.{option_map, refl, true}
use Rattle.serde_json.specs.{Data.Data, Data.Members, Data.object, Find.as_array, Find.get, Find.get_member, View.members_view}
use Rattle.session_file.proofs.{FieldsShown.digest_shown, FieldsShown.whole_shown, ListedSame.answered_same, ListedSame.listed_then}
use Rattle.session_file.specs.{Listed.answered_in, Listed.listed_in, Parts.AreParts, Parts.answered_by, Parts.listed_by, Parts.session_by, Reading.whole_under}
use Rattle.session_file.specs.{Reading.with_field, Reading.with_notes, Reading.with_replies, Shown.ShowsValue, Text.first_version}
use Rattle.session_file.specs.Reading.{budget_at, digest_at, entries_at, is_budget, is_version, notes_at, only_if, replies_in, reply_values_at, session_in}
use Rattle.session_file.specs.declared.{listed.Listed.Listed, parts.Parts.Parts, replied.Answered.Answered}
use Rattle.session_file.specs.declared.session.{LoadFault.LoadFault, LoadFault.TheVariants.BadVersion, Session.Session, SessionField.SessionField}
use Rattle.session_file.specs.declared.session.SessionField.TheVariants.{Budget, Entries, Input, Replies, Source, Version}

under : {A : Type 0} (field : SessionField) (o : Option A) (f g : A → Result Session LoadFault) → ((a : A) → f a ≡ g a)
    → with_field field o f ≡ with_field field o g
under field None f g h = refl
under field (Some a) f g h = h a

either : (b : Bool) (x y z : Result Session LoadFault) → x ≡ y → (if b then x else z) ≡ (if b then y else z)
either true x y z e = e
either false x y z e = refl

-- a session by the values of its fields
abbrev by_values : Option ℕ → Option (List ℕ) → Option (List ℕ) → Option ℕ → Option Listed → Option Answered → Result Session LoadFault
by_values version source input budget listed answered =
    with_field Version version (λ version.
    if is_version version then with_field Source source (λ source.
    with_field Input input (λ input.
    with_field Budget budget (λ budget.
    listed_by (record {
      version = version;
      source = source;
      input = input;
      budget = budget;
      entries = [];
      notes = [];
      replies = [];
    }) listed answered)))
    else Err (BadVersion version))

same_replies_by : (d : Data) (s : Session) (first : Bool)
    → with_field Replies (if first then Some [] else option_map (λ (a : Answered). a.replies) (answered_in (get (codes "replies") d)))
    (λ replies. Ok (record s { replies = replies }))
    ≡ with_field Replies (if first then Some [] else option_and_then (replies_in []) (reply_values_at d)) (λ replies. Ok (record s { replies = replies }))
same_replies_by d s true = refl
same_replies_by d s false =
    ap (λ o. with_field Replies o (λ replies. Ok (record s { replies = replies }))) (answered_same (option_and_then as_array (get (codes "replies") d)))

same_replies : (d : Data) (s : Session) → answered_by s (answered_in (get (codes "replies") d)) ≡ with_replies d s
same_replies d s = same_replies_by d s (s.version == first_version)

same_lists : (d : Data) (s : Session)
    → listed_by s (listed_in (get (codes "entries") d)) (answered_in (get (codes "replies") d))
    ≡ with_field Entries (entries_at d) (λ entries. with_notes d (record s { entries = entries }))
same_lists d s =
    listed_then s (λ t. answered_by t (answered_in (get (codes "replies") d))) (option_and_then as_array (get (codes "entries") d))
    ∙ under Entries (entries_at d) _ _ (λ entries. under Entries (notes_at s.version d) _ _
    (λ notes. same_replies d (record s { entries = entries; notes = notes })))

same_session : (d : Data)
    → by_values (whole_under (codes "version") d) (digest_at (codes "source") d) (digest_at (codes "input") d) (budget_at d)
    (listed_in (get (codes "entries") d)) (answered_in (get (codes "replies") d)) ≡ session_in d
same_session d =
    under Version (whole_under (codes "version") d) _ _ (λ version. either (is_version version) _ _ _
    (under Source (digest_at (codes "source") d) _ _ (λ source. under Input (digest_at (codes "input") d) _ _
    (λ input. under Budget (budget_at d) _ _ (λ budget. same_lists d (record {
      version = version;
      source = source;
      input = input;
      budget = budget;
      entries = [];
      notes = [];
      replies = [];
    }))))))

pub parts_session : (parts : Parts) (ms : Members) → AreParts parts ms
    → session_by (object (members_view parts.fields.entries)) parts.entries parts.replies ≡ session_in (object ms)
parts_session parts ms are =
    let fields = object (members_view parts.fields.entries) in
    let d = object ms in
    let s : ShowsValue fields d = record { each = are.fields.each } in
    let b = λ (o : Option ℕ). only_if is_budget o in
    ap (λ o. by_values o (digest_at (codes "source") fields) (digest_at (codes "input") fields) (budget_at fields) parts.entries parts.replies)
    (whole_shown fields d s (codes "version") refl)
    ∙ ap (λ o. by_values (whole_under (codes "version") d) o (digest_at (codes "input") fields) (budget_at fields) parts.entries parts.replies)
    (digest_shown fields d s (codes "source") refl)
    ∙ ap (λ o. by_values (whole_under (codes "version") d) (digest_at (codes "source") d) o (budget_at fields) parts.entries parts.replies)
    (digest_shown fields d s (codes "input") refl)
    ∙ ap (λ o. by_values (whole_under (codes "version") d) (digest_at (codes "source") d) (digest_at (codes "input") d) (b o) parts.entries parts.replies)
    (whole_shown fields d s (codes "budget") refl)
    ∙ ap (λ o. by_values (whole_under (codes "version") d) (digest_at (codes "source") d) (digest_at (codes "input") d) (budget_at d) o parts.replies)
    are.entries
    ∙ ap (λ o. by_values (whole_under (codes "version") d) (digest_at (codes "source") d) (digest_at (codes "input") d) (budget_at d)
    (listed_in (get_member (codes "entries") ms)) o) are.replies
    ∙ same_session d
