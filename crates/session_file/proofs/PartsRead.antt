-- The parts of an object, as one more member is read. Of equal keys the last one counts.
use Rattle.std.proofs.Common.{if◌then◌else◌, ◌∙◌, ◌≡◌, [], ℕ, Bool, List, None, Some, ap, codes, false, refl, subst, sym, true, true≢false}
use Rattle.std.specs.Str.{bytes_eq}
use Rattle.serde_json.proofs.Views.{get_member-put, get_member-put_other}
use Rattle.serde_json.specs.{Data.Data, Data.Members, Data.no_members, Data.put, Find.get_member, View.members_view}
use Rattle.session_file.proofs.FieldsShown.{field_shown, none_shown}
use Rattle.session_file.specs.{Listed.answered_in, Listed.listed_in, Parts.AreParts, declared.parts.Parts.Parts}
use Rattle.session_file.specs.Shown.{Shows, flat, is_field, with_field}

-- a text that is not this one
other_key : (key name : List ℕ) → bytes_eq key name ≡ false → bytes_eq name name ≡ true → name ≡ key → ⊥
other_key key name other same is = true≢false (sym same ∙ ap (λ k. bytes_eq k name) is ∙ other)

-- a member under a key that is none of a field
unshown : (key : List ℕ) (d : Data) (fields members : Members) → is_field key ≡ false → Shows fields members → Shows fields (put key d members)
unshown key d fields members none s =
    subst (λ (b : Bool). Shows (if b then put key (flat d) fields else fields) (put key d members)) none (field_shown key d fields members s)

-- the parts before the first member
pub no_parts : (parts : Parts) → parts.fields.entries ≡ [] → parts.entries ≡ None → parts.replies ≡ None → AreParts parts no_members
no_parts parts fields entries replies = record {
  fields = subst (λ es. Shows (members_view es) no_members) (sym fields) none_shown;
  entries = entries;
  replies = replies;
}

module _ (old new : Parts) (key : List ℕ) (d : Data) (members : Members) (are : AreParts old members) where
  pub entries_more : key ≡ codes "entries" → members_view new.fields.entries ≡ members_view old.fields.entries → new.entries ≡ listed_in (Some d)
      → new.replies ≡ old.replies → AreParts new (put key d members)
  entries_more is fields entries replies =
      let other : bytes_eq key (codes "replies") ≡ false = ap (λ k. bytes_eq k (codes "replies")) is in
      record {
        fields = subst (λ f. Shows f (put key d members)) (sym fields) (unshown key d _ members (ap is_field is) are.fields);
        entries = entries ∙ ap listed_in (sym (ap (λ k. get_member k (put key d members)) (sym is) ∙ get_member-put key d members));
        replies = replies ∙ are.replies ∙ ap answered_in (sym (get_member-put_other (codes "replies") key d members
            (other_key key (codes "replies") other refl)));
      }

  pub replies_more : key ≡ codes "replies" → members_view new.fields.entries ≡ members_view old.fields.entries → new.entries ≡ old.entries
      → new.replies ≡ answered_in (Some d) → AreParts new (put key d members)
  replies_more is fields entries replies =
      let other : bytes_eq key (codes "entries") ≡ false = ap (λ k. bytes_eq k (codes "entries")) is in
      record {
        fields = subst (λ f. Shows f (put key d members)) (sym fields) (unshown key d _ members (ap is_field is) are.fields);
        entries = entries ∙ are.entries ∙ ap listed_in (sym (get_member-put_other (codes "entries") key d members
            (other_key key (codes "entries") other refl)));
        replies = replies ∙ ap answered_in (sym (ap (λ k. get_member k (put key d members)) (sym is) ∙ get_member-put key d members));
      }

  pub field_more : bytes_eq key (codes "entries") ≡ false → bytes_eq key (codes "replies") ≡ false
      → members_view new.fields.entries ≡ with_field key (flat d) (members_view old.fields.entries) → new.entries ≡ old.entries → new.replies ≡ old.replies
      → AreParts new (put key d members)
  field_more no_entries no_replies fields entries replies = record {
    fields = subst (λ f. Shows f (put key d members)) (sym fields) (field_shown key d _ members are.fields);
    entries = entries ∙ are.entries ∙ ap listed_in (sym (get_member-put_other (codes "entries") key d members
        (other_key key (codes "entries") no_entries refl)));
    replies = replies ∙ are.replies ∙ ap answered_in (sym (get_member-put_other (codes "replies") key d members
        (other_key key (codes "replies") no_replies refl)));
  }
