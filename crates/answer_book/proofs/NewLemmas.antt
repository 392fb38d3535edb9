-- A new book is kept, and one with an entry more.
use Rattle.std.proofs.Common.{◌++◌, ◌<◌, ◌∙◌, ◌∷◌, ◌≡◌, ◌≤◌, [], ℕ, All, Bool, List, None, Option, Some, ap, append-nil, false, length, map, replicate, set}
use Rattle.std.proofs.Common.{subst, sym, true}
use Rattle.std.proofs.lemmas.{Bool.cond-false, List.get_or-replicate, List.length-replicate, List.FromFn.fill_by_all}
use Rattle.std.proofs.lemmas.List.Elements.{All-map, All-nil, All-push, filter_map-append}
use Rattle.call_tree.specs.{Recording.Recording, Recording.routines_of, declared.records.Call.Call}
use Rattle.answer_book.proofs.{FilterMaps.gives_none, KeptLemmas.judged_is_kept, KeptLemmas.trusted_is_kept}
use Rattle.answer_book.specs.{Answers.Answers, Answers.book_with, Answers.with_entry, Entries.entry_saying, Entries.said_by, Entries.standing_answers}
use Rattle.answer_book.specs.{InRange.IsInRange, Kept.AreKept, Marks.is_trusted, Marks.last_judgement, Numbers.numbers_below}
use Rattle.answer_book.specs.declared.entries.{Entry.Entry, Judgement.Judgement, What.What, What.TheVariants.Judged, What.TheVariants.Trusted}

pub empty_is_kept : (run : Recording) (judged : List (Option Judgement)) (trusted : List Bool) → length (routines_of run.calls) ≤ 500000
    → All (λ (call : Call). call.routine < run.routines) run.calls → judged ≡ replicate (length (routines_of run.calls)) None
    → trusted ≡ replicate run.routines false → AreKept (book_with run []) judged trusted
empty_is_kept run judged trusted few known unjudged untrusted =
    let n = length (routines_of run.calls) in
    record {
      few = few;
      known = All-map (λ routine. routine < run.routines) (λ (call : Call). call.routine) run.calls known;
      named = All-nil (λ (entry : Entry). IsInRange n run.routines entry.what);
      judged_calls =
          unjudged ∙ fill_by_all (last_judgement []) (replicate n None) n None (length-replicate n None)
          (λ k inside. get_or-replicate n k None None inside);
      trusted_routines =
          untrusted ∙ fill_by_all (is_trusted []) (replicate run.routines false) run.routines false (length-replicate run.routines false)
          (λ k inside. get_or-replicate run.routines k false false inside);
    }

-- an entry that stands and says this
saying_is : (entry : Entry) (what : What) → entry.standing ≡ true → entry.what ≡ what → entry_saying what ≡ entry
saying_is entry what stands is = sym (λ i. record { what = is i; standing = stands i })

pub judgement_put : (book : Answers) (judged : List (Option Judgement)) (trusted : List Bool) (entry : Entry) (call : ℕ) (judgement : Judgement)
    → entry.standing ≡ true → entry.what ≡ Judged call judgement → call < length book.routine → AreKept book judged trusted
    → AreKept (with_entry book entry) (set judged call (Some judgement)) trusted
judgement_put book judged trusted entry call judgement stands is inside kept =
    subst (λ (e : Entry). AreKept (with_entry book e) (set judged call (Some judgement)) trusted) (saying_is entry (Judged call judgement) stands is)
    (judged_is_kept book judged trusted call judgement inside kept)

pub trust_put : (book : Answers) (judged : List (Option Judgement)) (trusted : List Bool) (entry : Entry) (routine : ℕ)
    → entry.standing ≡ true → entry.what ≡ Trusted routine → routine < book.routines → AreKept book judged trusted
    → AreKept (with_entry book entry) judged (set trusted routine true)
trust_put book judged trusted entry routine stands is inside kept =
    subst (λ (e : Entry). AreKept (with_entry book e) judged (set trusted routine true)) (saying_is entry (Trusted routine) stands is)
    (trusted_is_kept book judged trusted routine inside kept)

-- an entry that was taken back says nothing
says_nothing : (entries : List Entry) (entry : Entry) → entry.standing ≡ false
    → standing_answers entries ≡ standing_answers (entries ++ entry ∷ [])
says_nothing entries entry off =
    sym (filter_map-append said_by entries (entry ∷ [])
    ∙ ap (λ l. standing_answers entries ++ l) (gives_none said_by entry (cond-false entry.standing (Some entry.what) None off))
    ∙ append-nil (standing_answers entries))

pub taken_back_put : (book : Answers) (judged : List (Option Judgement)) (trusted : List Bool) (entry : Entry) → entry.standing ≡ false
    → IsInRange (length book.routine) book.routines entry.what → AreKept book judged trusted → AreKept (with_entry book entry) judged trusted
taken_back_put book judged trusted entry off named kept =
    let same = says_nothing book.entries entry off in
    record {
      few = kept.few;
      known = kept.known;
      named = All-push (λ (e : Entry). IsInRange (length book.routine) book.routines e.what) book.entries entry kept.named named;
      judged_calls = kept.judged_calls ∙ ap (λ l. map (last_judgement l) (numbers_below (length book.routine))) same;
      trusted_routines = kept.trusted_routines ∙ ap (λ l. map (is_trusted l) (numbers_below book.routines)) same;
    }
