-- Marks and the accused, from what a book keeps.
use Rattle.std.proofs.Common.{◌<◌, ◌∙◌, ◌≡◌, ℕ, Bool, List, None, Option, Some, ap, arith, false, get_or, length, refl, slice_get, slice_index, sym, true}
use Rattle.std.proofs.lemmas.{List.Elements.All-get_or, List.FromFn.get_or-map-range_with_len, List.FromFn.length-map-range_with_len, Option.slice_get-get_or}
use Rattle.answer_book.proofs.LastWhere.{last_where_same}
use Rattle.answer_book.specs.{Accused.accused_of, Accused.is_wrong, Answers.Answers, Entries.standing_answers, Judged.is_wrong_at, Judged.is_wrong_judgement}
use Rattle.answer_book.specs.{Judged.last_wrong, Kept.AreKept, Numbers.last_where, Numbers.numbers_below, declared.entries.What.What}
use Rattle.answer_book.specs.Marks.{is_trusted, last_judgement, mark_by, mark_given, mark_of}
use Rattle.answer_book.specs.declared.entries.Judgement.{Judgement, TheVariants.Right, TheVariants.Unknown, TheVariants.Wrong}

pub judged_length : (book : Answers) (judged : List (Option Judgement)) (trusted : List Bool) → AreKept book judged trusted
    → length judged ≡ length book.routine
judged_length book judged trusted kept =
    ap length kept.judged_calls ∙ length-map-range_with_len (last_judgement (standing_answers book.entries)) 0 (length book.routine)

pub trusted_length : (book : Answers) (judged : List (Option Judgement)) (trusted : List Bool) → AreKept book judged trusted
    → length trusted ≡ book.routines
trusted_length book judged trusted kept =
    ap length kept.trusted_routines ∙ length-map-range_with_len (is_trusted (standing_answers book.entries)) 0 book.routines

pub judged_at : (book : Answers) (judged : List (Option Judgement)) (trusted : List Bool) (call : ℕ) → AreKept book judged trusted
    → call < length book.routine → slice_get judged call ≡ Some (last_judgement (standing_answers book.entries) call)
judged_at book judged trusted call kept inside =
    slice_get-get_or judged call None (omega (arith, judged_length book judged trusted kept, inside))
    ∙ ap Some (ap (λ l. get_or l call None) kept.judged_calls
    ∙ get_or-map-range_with_len (last_judgement (standing_answers book.entries)) 0 (length book.routine) call call None inside (omega arith))

pub trusted_at : (book : Answers) (judged : List (Option Judgement)) (trusted : List Bool) (routine : ℕ) (d : Bool) → AreKept book judged trusted
    → routine < book.routines → get_or trusted routine d ≡ is_trusted (standing_answers book.entries) routine
trusted_at book judged trusted routine d kept inside =
    ap (λ l. get_or l routine d) kept.trusted_routines
    ∙ get_or-map-range_with_len (is_trusted (standing_answers book.entries)) 0 book.routines routine routine d inside (omega arith)

-- a call is of a routine that there is
pub routine_known : (book : Answers) (judged : List (Option Judgement)) (trusted : List Bool) (call : ℕ) → AreKept book judged trusted
    → call < length book.routine → slice_index book.routine call < book.routines
routine_known book judged trusted call kept inside = All-get_or (λ routine. routine < book.routines) book.routine call 0 inside kept.known

pub mark_judged : (routine : List ℕ) (answers : List What) (call : ℕ) (judgement : Judgement) → last_judgement answers call ≡ Some judgement
    → mark_of routine answers call ≡ mark_by judgement
unfolding mark_of
mark_judged routine answers call judgement is = ap (λ o. mark_given o (is_trusted answers (slice_index routine call))) is

pub mark_unjudged : (routine : List ℕ) (answers : List What) (call : ℕ) (trusted : Bool) → last_judgement answers call ≡ None
    → is_trusted answers (slice_index routine call) ≡ trusted → mark_of routine answers call ≡ mark_given None trusted
unfolding mark_of
mark_unjudged routine answers call trusted none is =
    ap (λ o. mark_given o (is_trusted answers (slice_index routine call))) none ∙ ap (mark_given None) is

wrong_by : (o : Option Judgement) (trusted : Bool) → is_wrong (mark_given o trusted) ≡ is_wrong_judgement o
wrong_by None true = refl
wrong_by None false = refl
wrong_by (Some Right) trusted = refl
wrong_by (Some Wrong) trusted = refl
wrong_by (Some Unknown) trusted = refl

-- a call is marked wrong where its last judgement is wrong
pub wrong_where : (routine : List ℕ) (answers : List What) (call : ℕ)
    → is_wrong (mark_of routine answers call) ≡ is_wrong_judgement (last_judgement answers call)
unfolding mark_of
wrong_where routine answers call = wrong_by (last_judgement answers call) (is_trusted answers (slice_index routine call))

pub accused_is : (book : Answers) (judged : List (Option Judgement)) (trusted : List Bool) → AreKept book judged trusted
    → last_wrong judged ≡ accused_of book.routine (standing_answers book.entries)
unfolding accused_of
accused_is book judged trusted kept =
    let answers = standing_answers book.entries in
    ap (λ n. last_where (λ call. is_wrong_at (slice_get judged call)) (numbers_below n)) (judged_length book judged trusted kept)
    ∙ last_where_same (λ call. is_wrong_at (slice_get judged call)) (λ call. is_wrong (mark_of book.routine answers call)) (length book.routine)
    (λ call inside. ap is_wrong_at (judged_at book judged trusted call kept inside) ∙ sym (wrong_where book.routine answers call))
