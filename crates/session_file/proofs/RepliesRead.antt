-- The replies that are read of what is saved are those that were saved.
use Rattle.std.proofs.Common.{◌++◌, ◌+◌, ◌∙◌, ◌∷◌, ◌≡◌, ◌≤◌, [], ℕ, All, List, Ok, Some, ap, append-nil, append_assoc, arith, length, map, option_and_then, sym}
use Rattle.std.{proofs.lemmas.List.length-append, proofs.lemmas.List.Elements.All-tail, specs.List.IsDistinct, specs.Map.keys_of, specs.Str.bytes_eq}
use Rattle.hex.{proofs.HexLemmas.decode_sized-encode_lower, specs.Hex.decode_sized, specs.Hex.encode_lower}
use Rattle.serde_json.specs.View.{items_of}
use Rattle.answer_book.specs.declared.entries.Judgement.{Judgement, TheVariants.Right, TheVariants.Unknown, TheVariants.Wrong}
use Rattle.session_file.proofs.RepliesInOrder.{AreFresh, all_fresh, first_other, set_last, still_fresh}
use Rattle.session_file.specs.{Limits.most_replies, Replies.AreReplies, Text.reply_data, Whole.IsDigest}
use Rattle.session_file.specs.Reading.{replies_in, reply_in, with_kept}

pub digest_read : (bytes : List ℕ) → IsDigest bytes → decode_sized (encode_lower bytes) 32 ≡ Ok bytes
digest_read bytes d = decode_sized-encode_lower bytes 32 d.size d.each

-- ---- they are read

reply_read : (digest : List ℕ) (reply : Judgement) → IsDigest digest → reply_in (reply_data (digest, reply)) ≡ Some (digest, reply)
reply_read digest Right d = rw (digest_read digest d)
reply_read digest Wrong d = rw (digest_read digest d)
reply_read digest Unknown d = rw (digest_read digest d)

replies_left : (done left : List (List ℕ × Judgement)) → AreFresh done left → IsDistinct bytes_eq (keys_of left) → length done + length left ≤ most_replies
    → All IsDigest (keys_of left) → replies_in done (items_of (map reply_data left)) ≡ Some (done ++ left)
replies_left done [] fresh distinct few digests = ap Some (sym (append-nil done))
replies_left done (kept ∷ left) fresh distinct few digests =
    let others = first_other kept.0 (keys_of left) distinct in
    let count : length (done ++ kept ∷ []) ≡ length done + 1 = length-append done (kept ∷ []) in
    ap (option_and_then (λ (k : List ℕ × Judgement). replies_in (with_kept done k) (items_of (map reply_data left))))
    (reply_read kept.0 kept.1 (digests 0 kept.0 (omega arith)))
    ∙ ap (λ (l : List (List ℕ × Judgement)). replies_in l (items_of (map reply_data left))) (set_last kept.0 kept.1 done fresh.0 (omega (arith, few)))
    ∙ replies_left (done ++ kept ∷ []) left (still_fresh done left kept others.0 fresh.1) others.1 (omega (arith, few, count))
    (All-tail IsDigest kept.0 (keys_of left) digests)
    ∙ ap Some (append_assoc done (kept ∷ []) left)

pub replies_read : (replies : List (List ℕ × Judgement)) → AreReplies replies → All IsDigest (keys_of replies)
    → replies_in [] (items_of (map reply_data replies)) ≡ Some replies
replies_read replies a digests = replies_left [] replies (all_fresh replies) a.different (let few = a.few in omega (arith, few)) digests
