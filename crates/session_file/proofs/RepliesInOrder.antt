-- Replies, as one more is set: in the place of an older one, or last.
use Rattle.std.proofs.Common.{if◌then◌else◌, ◌++◌, ◌+◌, ◌<◌, ◌||◌, ◌∙◌, ◌∷◌, ◌≡◌, ◌≤◌, [], ℕ, All, Bool, List, None, Some, ap, append-nil, append_assoc, arith}
use Rattle.std.proofs.Common.{cond, drop, false, is_some, length, lt-ltb, ltb-true, nat_lt, refl, slice_get, subst, suc, sym, true}
use Rattle.std.proofs.{Math.Seq.drop-cons, lemmas.Cmp.lists_equiv, lemmas.Option.get_or_from_slice_get, lemmas.Option.slice_get_within}
use Rattle.std.proofs.lemmas.List.{drop_all, length-append, Elements.All-cons, Elements.All-nil, Elements.All-tail}
use Rattle.std.specs.{Prelude.⊤, Cmp.IsEquivalence, Cmp.nat_eq_equiv, List.AllByRecursion, List.IsDistinct, Map.keys_of, Map.lookup, Str.bytes_eq}
use Rattle.indexmap.specs.IndexMap.{insert_entry}
use Rattle.answer_book.specs.declared.entries.Judgement.{Judgement}
use Rattle.session_file.specs.{Limits.most_replies, Replies.AreReplies, Replies.with_reply}

eq_laws : IsEquivalence bytes_eq
eq_laws = lists_equiv nat_eq_equiv

-- ---- a question that has no reply yet

abbrev pub IsFresh : List ℕ → List (List ℕ × Judgement) → Type 0
IsFresh digest [] = ⊤
IsFresh digest (kept ∷ replies) = (bytes_eq digest kept.0 ≡ false) × IsFresh digest replies

no_reply : (digest : List ℕ) (replies : List (List ℕ × Judgement)) → IsFresh digest replies → lookup (bytes_eq digest) replies ≡ None
no_reply digest [] fresh = refl
no_reply digest (kept ∷ replies) fresh = rw (fresh.0, no_reply digest replies fresh.1)

goes_last : (digest : List ℕ) (reply : Judgement) (replies : List (List ℕ × Judgement)) → IsFresh digest replies
    → insert_entry bytes_eq replies digest reply ≡ replies ++ (digest, reply) ∷ []
goes_last digest reply [] fresh = refl
goes_last digest reply (kept ∷ replies) fresh = rw (fresh.0, goes_last digest reply replies fresh.1)

pub set_last : (digest : List ℕ) (reply : Judgement) (replies : List (List ℕ × Judgement)) → IsFresh digest replies → length replies < most_replies
    → with_reply replies digest reply ≡ replies ++ (digest, reply) ∷ []
set_last digest reply replies fresh few =
    rw (no_reply digest replies fresh, lt-ltb (length replies) most_replies few) (goes_last digest reply replies fresh)

fresh_after : (digest : List ℕ) (kept : List ℕ × Judgement) (replies : List (List ℕ × Judgement)) → bytes_eq digest kept.0 ≡ false
    → IsFresh digest replies → IsFresh digest (replies ++ kept ∷ [])
fresh_after digest kept [] other fresh = (other, tt)
fresh_after digest kept (first ∷ replies) other fresh = (fresh.0, fresh_after digest kept replies other fresh.1)

-- none of the questions of these has a reply yet
abbrev pub AreFresh : (done left : List (List ℕ × Judgement)) → Type 0
AreFresh done [] = ⊤
AreFresh done (kept ∷ left) = IsFresh kept.0 done × AreFresh done left

pub all_fresh : (left : List (List ℕ × Judgement)) → AreFresh [] left
all_fresh [] = tt
all_fresh (kept ∷ left) = (tt, all_fresh left)

pub still_fresh : (done left : List (List ℕ × Judgement)) (kept : List ℕ × Judgement)
    → AllByRecursion (λ y. bytes_eq kept.0 y ≡ false) (keys_of left) → AreFresh done left → AreFresh (done ++ kept ∷ []) left
still_fresh done [] kept others fresh = tt
still_fresh done (first ∷ left) kept others fresh =
    (fresh_after first.0 kept done (eq_laws.symm first.0 kept.0 ∙ others.0) fresh.0, still_fresh done left kept others.1 fresh.1)

pub first_other : (digest : List ℕ) (digests : List (List ℕ)) → IsDistinct bytes_eq (digest ∷ digests)
    → AllByRecursion (λ y. bytes_eq digest y ≡ false) digests × IsDistinct bytes_eq digests
unfolding IsDistinct
first_other digest digests distinct = distinct

-- ---- what setting one leaves

-- a question that has a reply keeps its place
same_by : (b : Bool) (digest : List ℕ) (reply : Judgement) (kept : List ℕ × Judgement) (replies : List (List ℕ × Judgement))
    → (is_some (lookup (bytes_eq digest) replies) ≡ true → keys_of (insert_entry bytes_eq replies digest reply) ≡ keys_of replies)
    → bytes_eq digest kept.0 ≡ b → is_some (lookup (bytes_eq digest) (kept ∷ replies)) ≡ true
    → keys_of (insert_entry bytes_eq (kept ∷ replies) digest reply) ≡ keys_of (kept ∷ replies)
same_by true digest reply kept replies rest is there = rw is
same_by false digest reply kept replies rest is there =
    let there_still : is_some (lookup (bytes_eq digest) replies) ≡ true =
    subst (λ b. is_some (cond b (Some kept.1) (lookup (bytes_eq digest) replies)) ≡ true) is there in
    rw is (ap (λ (l : List (List ℕ)). kept.0 ∷ l) (rest there_still))

same_keys : (digest : List ℕ) (reply : Judgement) (replies : List (List ℕ × Judgement)) → is_some (lookup (bytes_eq digest) replies) ≡ true
    → keys_of (insert_entry bytes_eq replies digest reply) ≡ keys_of replies
same_keys digest reply [] there = absurd cc
same_keys digest reply (kept ∷ replies) there =
    same_by (bytes_eq digest kept.0) digest reply kept replies (same_keys digest reply replies) refl there

fresh_by : (b : Bool) (digest : List ℕ) (kept : List ℕ × Judgement) (replies : List (List ℕ × Judgement))
    → (is_some (lookup (bytes_eq digest) replies) ≡ false → IsFresh digest replies) → bytes_eq digest kept.0 ≡ b
    → is_some (lookup (bytes_eq digest) (kept ∷ replies)) ≡ false → IsFresh digest (kept ∷ replies)
fresh_by true digest kept replies rest is none =
    absurd (let s = subst (λ b. is_some (cond b (Some kept.1) (lookup (bytes_eq digest) replies)) ≡ false) is none in cc)
fresh_by false digest kept replies rest is none =
    (is, rest (subst (λ b. is_some (cond b (Some kept.1) (lookup (bytes_eq digest) replies)) ≡ false) is none))

fresh_where_none : (digest : List ℕ) (replies : List (List ℕ × Judgement)) → is_some (lookup (bytes_eq digest) replies) ≡ false → IsFresh digest replies
fresh_where_none digest [] none = tt
fresh_where_none digest (kept ∷ replies) none =
    fresh_by (bytes_eq digest kept.0) digest kept replies (fresh_where_none digest replies) refl none

others_after : (digest new : List ℕ) (reply : Judgement) (replies : List (List ℕ × Judgement)) → bytes_eq digest new ≡ false
    → AllByRecursion (λ y. bytes_eq digest y ≡ false) (keys_of replies)
    → AllByRecursion (λ y. bytes_eq digest y ≡ false) (keys_of (replies ++ (new, reply) ∷ []))
others_after digest new reply [] other others = (other, tt)
others_after digest new reply (kept ∷ replies) other others = (others.0, others_after digest new reply replies other others.1)

distinct_after : (digest : List ℕ) (reply : Judgement) (replies : List (List ℕ × Judgement)) → IsFresh digest replies
    → IsDistinct bytes_eq (keys_of replies) → IsDistinct bytes_eq (keys_of (replies ++ (digest, reply) ∷ []))
unfolding IsDistinct
distinct_after digest reply [] fresh distinct = (tt, tt)
distinct_after digest reply (kept ∷ replies) fresh distinct = (
  others_after kept.0 digest reply replies (eq_laws.symm kept.0 digest ∙ fresh.0) distinct.0,
  distinct_after digest reply replies fresh.1 distinct.1,
)

-- at most `most_replies` replies to different questions, whose digests are all such
pub record AreSuch (P : List ℕ → Type 0) (replies : List (List ℕ × Judgement)) : Type 0 where
  pub whole : AreReplies replies
  pub each : All P (keys_of replies)

all_after : (P : List ℕ → Type 0) (digest : List ℕ) (reply : Judgement) (replies : List (List ℕ × Judgement)) → P digest → All P (keys_of replies)
    → All P (keys_of (replies ++ (digest, reply) ∷ []))
all_after P digest reply [] such each = All-cons P digest [] such (All-nil P)
all_after P digest reply (kept ∷ replies) such each =
    All-cons P kept.0 (keys_of (replies ++ (digest, reply) ∷ [])) (each 0 kept.0 (omega arith))
    (all_after P digest reply replies such (All-tail P kept.0 (keys_of replies) each))

length_of_keys : (replies : List (List ℕ × Judgement)) → length (keys_of replies) ≡ length replies
length_of_keys [] = refl
length_of_keys (kept ∷ replies) = ap suc (length_of_keys replies)

set_by : (P : List ℕ → Type 0) (there room : Bool) (digest : List ℕ) (reply : Judgement) (replies : List (List ℕ × Judgement)) → P digest
    → is_some (lookup (bytes_eq digest) replies) ≡ there → nat_lt (length replies) most_replies ≡ room → AreSuch P replies
    → AreSuch P (if there || room then insert_entry bytes_eq replies digest reply else replies)
set_by P true room digest reply replies such is has_room are =
    let same = same_keys digest reply replies is in
    let new = insert_entry bytes_eq replies digest reply in
    let a = length_of_keys replies in let b = length_of_keys new in let c = ap length same in
    record {
      whole = record { few = let f = are.whole.few in omega (arith, a, b, c, f); different = subst (IsDistinct bytes_eq) (sym same) are.whole.different };
      each = subst (All P) (sym same) are.each;
    }
set_by P false true digest reply replies such is has_room are =
    let fresh = fresh_where_none digest replies is in
    let count : length (replies ++ (digest, reply) ∷ []) ≡ length replies + 1 = length-append replies ((digest, reply) ∷ []) in
    subst (AreSuch P) (sym (goes_last digest reply replies fresh)) (record {
      whole = record {
        few = let few = ltb-true (length replies) most_replies has_room in omega (arith, count, few);
        different = distinct_after digest reply replies fresh are.whole.different;
      };
      each = all_after P digest reply replies such are.each;
    })
set_by P false false digest reply replies such is has_room are = are

pub set_such : (P : List ℕ → Type 0) (digest : List ℕ) (reply : Judgement) (replies : List (List ℕ × Judgement)) → P digest → AreSuch P replies
    → AreSuch P (with_reply replies digest reply)
set_such P digest reply replies such are =
    set_by P (is_some (lookup (bytes_eq digest) replies)) (nat_lt (length replies) most_replies) digest reply replies such refl refl are

-- ---- replies that are copied, one after another

-- one fewer is left
pub one_fewer : {X : Type 0} (xs : List X) (i : ℕ) (x : X) → slice_get xs i ≡ Some x → drop i xs ≡ x ∷ drop (i + 1) xs
one_fewer xs i x here =
    let next : suc i ≡ i + 1 = omega arith in
    drop-cons xs i x (slice_get_within xs i x here) ∙ ap (λ y. y ∷ drop (suc i) xs) (get_or_from_slice_get xs i x x here)
    ∙ ap (λ n. x ∷ drop n xs) next

-- these are the replies before a place, and the others are to other questions
pub record AreCopied (replies : List (List ℕ × Judgement)) (place : ℕ) (copy : List (List ℕ × Judgement)) : Type 0 where
  pub whole : copy ++ drop place replies ≡ replies
  pub fresh : AreFresh copy (drop place replies)
  pub different : IsDistinct bytes_eq (keys_of (drop place replies))
  pub few : length copy + length (drop place replies) ≤ most_replies

pub none_copied : (replies : List (List ℕ × Judgement)) → AreReplies replies → AreCopied replies 0 []
none_copied replies are =
    record { whole = refl; fresh = all_fresh replies; different = are.different; few = let few = are.few in omega (arith, few) }

copied_by : (replies copy left : List (List ℕ × Judgement)) (place : ℕ) (kept : List ℕ × Judgement) → drop place replies ≡ kept ∷ left
    → drop (place + 1) replies ≡ left → AreCopied replies place copy → AreCopied replies (place + 1) (copy ++ kept ∷ [])
copied_by replies copy left place kept here next are =
    let fresh = subst (AreFresh copy) here are.fresh in
    let others = first_other kept.0 (keys_of left) (subst (λ (l : List (List ℕ × Judgement)). IsDistinct bytes_eq (keys_of l)) here are.different) in
    let count : length (copy ++ kept ∷ []) ≡ length copy + 1 = length-append copy (kept ∷ []) in
    let few = subst (λ (l : List (List ℕ × Judgement)). length copy + length l ≤ most_replies) here are.few in
    record {
      whole = append_assoc copy (kept ∷ []) (drop (place + 1) replies) ∙ ap (λ (l : List (List ℕ × Judgement)). copy ++ kept ∷ l) next
          ∙ ap (λ (l : List (List ℕ × Judgement)). copy ++ l) (sym here) ∙ are.whole;
      fresh = subst (AreFresh (copy ++ kept ∷ [])) (sym next) (still_fresh copy left kept others.0 fresh.1);
      different = subst (λ (l : List (List ℕ × Judgement)). IsDistinct bytes_eq (keys_of l)) (sym next) others.1;
      few = subst (λ (l : List (List ℕ × Judgement)). length (copy ++ kept ∷ []) + length l ≤ most_replies) (sym next) (omega (arith, count, few));
    }

pub one_copied : (replies : List (List ℕ × Judgement)) (place : ℕ) (kept : List ℕ × Judgement) (copy new : List (List ℕ × Judgement))
    → slice_get replies place ≡ Some kept → new ≡ with_reply copy kept.0 kept.1 → AreCopied replies place copy → AreCopied replies (place + 1) new
one_copied replies place kept copy new there is are =
    let here = one_fewer replies place kept there in
    let fresh = subst (AreFresh copy) here are.fresh in
    let few = subst (λ (l : List (List ℕ × Judgement)). length copy + length l ≤ most_replies) here are.few in
    subst (AreCopied replies (place + 1)) (sym (is ∙ set_last kept.0 kept.1 copy fresh.0 (omega (arith, few))))
    (copied_by replies copy (drop (place + 1) replies) place kept here refl are)

pub all_copied : (replies : List (List ℕ × Judgement)) (place : ℕ) (copy : List (List ℕ × Judgement)) → length replies ≤ place
    → AreCopied replies place copy → copy ≡ replies
all_copied replies place copy all are =
    sym (append-nil copy) ∙ ap (λ (l : List (List ℕ × Judgement)). copy ++ l) (sym (drop_all place replies all)) ∙ are.whole

pub ruleset replies_copied = (none_copied, one_copied, all_copied)
