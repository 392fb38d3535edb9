-- The entries after lines are those that the acts of the lines make.
use Rattle.std.proofs.Common.{if◌then◌else◌, ◌++◌, ◌+◌, ◌-◌, ◌==◌, ◌∙◌, ◌∷◌, ◌≡◌, ◌⊎◌, [], ℕ, Bool, Err, List, None, Ok, Option, Result, Some, ap, false, fold}
use Rattle.std.proofs.Common.{inl, inr, length, nat_le, nat_lt, option_map, refl, slice_get, slice_set, subst, suc, sym, true, zero}
use Rattle.std.specs.List.{filter_map}
use Rattle.core_program.specs.ProgramRows.{ProgramRows}
use Rattle.answer_book.specs.Answers.{judge_answer, take_back_answer, take_back_last_answer, trust_answer}
use Rattle.answer_book.specs.Entries.{entries_with, entries_without, entry_at, is_standing, is_standing_entry, said_by, standing_answers, with_taken_back}
use Rattle.answer_book.specs.declared.entries.{BookFault.BookFault, Entry.Entry, Judgement.Judgement}
use Rattle.answer_book.specs.declared.entries.BookFault.TheVariants as faults
use Rattle.answer_book.specs.declared.entries.What.{What, TheVariants.Judged, TheVariants.Trusted}
use Rattle.optimal_query.proofs.GivenEntriesStand.{follow_given}
use Rattle.optimal_query.proofs.StandUnlessTakenBack.{Follow, as_many, follow_command, follow_made, said_alike}
use Rattle.optimal_query.specs.{Laws.state_in, Search.Search, Search.search_with, Search.search_without, declared.state.SearchState.SearchState}
use Rattle.optimal_query.specs.Accepted.{CommandAct, Made, acts_giving, and_then, entries_after, is_taken_back, number_made, standing_after}
use Rattle.optimal_query.specs.Standing.{Command, Judge, TakeBack, TakeBackLast, Trust, after_command, if_accepted, search_taken_back}
use Rattle.optimal_query.specs.declared.state.SearchState.TheVariants.{Ask, Found, Narrowed, NothingWrong, Unclear}
use Rattle.answer_reuse.specs.{Classes.class_of, Shared.judged_each, Shared.standing_alike}
use Rattle.dialog_replies.specs.{Instructions.instruction_of, Replies.trust_outcome, Replies.trusts_named, Replies.with_classes, Said.Held, Said.KeptReplies}
use Rattle.dialog_replies.specs.{Said.Said, Said.kept_on, Slices.all_answer, Slices.entries_with_all, Slices.slice_answers}
use Rattle.dialog_replies.specs.Replies.{LineOutcome, adds, adds_all, alike_text, command_outcome, if_compared, is_made, judges_as_kept, judges_asked}
use Rattle.dialog_replies.specs.Replies.{judges_class, judges_class_asked, judges_same, outcome, refers_asked, refers_by, refers_if, refers_to, replied}
use Rattle.dialog_replies.specs.Replies.{says_all, slices_by, slices_output, takes_back, takes_back_class, takes_back_last, takes_each_back, tells_alike}
use Rattle.dialog_replies.specs.Subject.{Subject, book_of, calls_recorded, routine_named, state_after}
use Rattle.dialog_replies.specs.declared.{references.Referred.Referred, slices.SliceOf.SliceOf}
use Rattle.dialog_replies.specs.declared.instructions.{DialogCommand.DialogCommand, Instruction.Instruction}
use Rattle.dialog_replies.specs.declared.slices.SliceOf.TheVariants as slices
use Rattle.ask_session.specs.{LineActs.judgement_referred, LineActs.known_after_line, LineActs.refer_command, Turned.held_through}
use Rattle.ask_session.specs.Dialog.{Granted, errand_in, granted_after_line, held_after_line, is_too_long, next_granted}
use Rattle.ask_session.specs.LineActs.{EntriesFollowLines, Known, act_by, acts_after_instruction, acts_after_line, acts_after_lines, acts_by_classes}
use Rattle.ask_session.specs.LineActs.{acts_by_slice, acts_if_room, acts_judging_alike, acts_judging_asked, acts_making, acts_of_slice, acts_on_alike}
use Rattle.ask_session.specs.LineActs.{acts_taking_back, acts_taking_back_alike, judgement_asked, judgement_by, judgement_kept, judgement_on}

-- the answers that stand, by the acts
pub said_after : {acts : List CommandAct} {entries : List Entry} → Follow acts entries → standing_answers entries ≡ standing_after acts
said_after {acts = acts} before =
    ap (λ (l : List Entry). filter_map said_by l) before.entries_are ∙ said_alike (is_taken_back acts) acts

-- as many entries were made as there are
as_made : {acts : List CommandAct} {entries : List Entry} → Follow acts entries → length entries ≡ number_made acts
as_made {acts = acts} before = ap (λ (l : List Entry). length l) before.entries_are ∙ as_many (is_taken_back acts) acts

-- an entry more for each of these
makes_all : (acts : List CommandAct) (entries : List Entry) → Follow acts entries → (whats : List What)
    → Follow (acts_making acts whats) (entries_with_all entries whats)
makes_all acts entries before [] = before
makes_all acts entries before (what ∷ whats) =
    makes_all (acts ++ Made (number_made acts + 1) what ∷ []) (entries_with entries what) (follow_made acts entries what before) whats

some_same : {X : Type 0} {x y : X} → Some x ≡ Some y → x ≡ y
some_same e = cc

none_some : {X : Type 0} {x : X} → None ≡ Some x → ⊥
none_some e = cc

-- an entry that does not stand stays as it is when it is taken back
same_set : (entries : List Entry) (place : ℕ) (entry : Entry) → slice_get entries place ≡ Some entry → entry.standing ≡ false
    → slice_set entries place (record entry { standing = false }) ≡ entries
same_set [] place entry at none = refl
same_set (e ∷ entries) zero entry at none =
    let same : e ≡ entry = some_same at in
    ap (λ (f : Entry). f ∷ entries) ((λ i. record { what = entry.what; standing = sym none i }) ∙ sym same)
same_set (e ∷ entries) (suc place) entry at none = ap (λ (l : List Entry). e ∷ l) (same_set entries place entry at none)

stays_if : (entries : List Entry) (place : ℕ) (found : Option Entry) → (found ≡ None) ⊎ (found ≡ slice_get entries place)
    → is_standing_entry found ≡ false → with_taken_back entries place found ≡ entries
stays_if entries place None which none = refl
stays_if entries place (Some entry) (inl absent) none = absurd (none_some (sym absent))
stays_if entries place (Some entry) (inr at) none = same_set entries place entry (sym at) none

stays : (entries : List Entry) (number : ℕ) → is_standing entries number ≡ false → entries_without entries number ≡ entries
stays entries number none = stays_if entries (number - 1) (entry_at entries number) (which (number == 0)) none
  where
    which : (b : Bool) → ((if b then None else slice_get entries (number - 1)) ≡ None)
        ⊎ ((if b then None else slice_get entries (number - 1)) ≡ slice_get entries (number - 1))
    which true = inl refl
    which false = inr refl

module _ (s : Subject) where
  -- a search with these entries
  abbrev search_of : List Entry → Search
  search_of entries = record { last = s.tree.last; depth = []; book = book_of s entries }

  -- ---- a reply leaves the entries that the search has after its command

  adds_as : (said : Said) (what : What) (answer : Result ℕ BookFault)
      → (if_accepted answer (search_with (search_of said.entries) what) (search_of said.entries)).book.entries ≡ (adds s said what answer).said.entries
  adds_as said what (Ok number) = refl
  adds_as said what (Err fault) = refl

  takes_as : (said : Said) (number : ℕ) (answer : Result (Unit {0}) BookFault)
      → (if_accepted answer (search_without (search_of said.entries) number) (search_of said.entries)).book.entries
      ≡ (takes_back s said number answer).said.entries
  takes_as said number (Ok done) = refl
  takes_as said number (Err fault) = refl

  takes_last_as : (said : Said) (answer : Result ℕ BookFault)
      → (search_taken_back answer (search_of said.entries)).book.entries ≡ (takes_back_last s said answer).said.entries
  takes_last_as said (Ok number) = refl
  takes_last_as said (Err fault) = refl

  -- entries that are taken back, each by a command of its own
  taken_by : (entries : List Entry) (number : ℕ) (standing : Bool) → is_standing entries number ≡ standing
      → (if_accepted {X = Unit {0}} (if standing then Ok tt else Err (faults.NotStanding number)) (search_without (search_of entries) number)
      (search_of entries)).book.entries ≡ entries_without entries number
  taken_by entries number true is = refl
  taken_by entries number false is = sym (stays entries number is)

  takes_each : (acts : List CommandAct) (entries : List Entry) → Follow acts entries → (numbers : List ℕ)
      → Follow (acts_taking_back s acts numbers) (fold entries_without entries numbers)
  takes_each acts entries before [] = before
  takes_each acts entries before (number ∷ numbers) =
      takes_each (and_then acts (act_by s acts (Some (TakeBack number)))) (entries_without entries number)
      (subst (λ (now : List Entry). Follow (and_then acts (act_by s acts (Some (TakeBack number)))) now)
      (taken_by entries number (is_standing entries number) refl) (follow_command acts (search_of entries) (TakeBack number) before)) numbers

  -- ---- one instruction

  module _ (acts : List CommandAct) (said : Said) (before : Follow acts said.entries) where
    -- the entries after the act of a command, if there is one
    abbrev FollowBy : Option Command → List Entry → Type 0
    FollowBy command now = Follow (and_then acts (act_by s acts command)) now

    by_command : (command : Command) → FollowBy (Some command) (after_command (search_of said.entries) command).book.entries
    by_command command = follow_command acts (search_of said.entries) command before

    judged : (judgement : Judgement) (call : ℕ)
        → FollowBy (Some (Judge call judgement)) (adds s said (Judged call judgement) (judge_answer (book_of s said.entries) call)).said.entries
    judged judgement call =
        subst (λ (now : List Entry). FollowBy (Some (Judge call judgement)) now)
        (adds_as said (Judged call judgement) (judge_answer (book_of s said.entries) call)) (by_command (Judge call judgement))

    trusted : (routine : ℕ) → FollowBy (Some (Trust routine)) (trust_outcome s said routine).said.entries
    trusted routine =
        subst (λ (now : List Entry). FollowBy (Some (Trust routine)) now)
        (adds_as said (Trusted routine) (trust_answer (book_of s said.entries) routine)) (by_command (Trust routine))

    judged_asked : (judgement : Judgement) (state : SearchState)
        → FollowBy (judgement_on judgement state) (judges_asked s said judgement state).said.entries
    judged_asked judgement (Ask call weight suspects left) = judged judgement call
    judged_asked judgement (Found call) = before
    judged_asked judgement (Narrowed call) = before
    judged_asked judgement NothingWrong = before
    judged_asked judgement Unclear = before

    judged_kept : (call : ℕ) (judgement : Option Judgement)
        → FollowBy (option_map (Judge call) judgement) (judges_as_kept s said call judgement).said.entries
    judged_kept call (Some judgement) = judged judgement call
    judged_kept call None = before

    judged_same : (state : SearchState) → FollowBy (judgement_kept s said.replies state) (judges_same s said state).said.entries
    judged_same (Ask call weight suspects left) = judged_kept call (kept_on s said.replies call)
    judged_same (Found call) = before
    judged_same (Narrowed call) = before
    judged_same NothingWrong = before
    judged_same Unclear = before

    trusted_named : (name : List ℕ) (routine : Option ℕ) → FollowBy (option_map Trust routine) (trusts_named s said name routine).said.entries
    trusted_named name (Some routine) = trusted routine
    trusted_named name None = before

    -- either of two replies that leave the entries as they are
    either : (b : Bool) (x y : LineOutcome) → Follow acts x.said.entries → Follow acts y.said.entries → Follow acts (if b then x else y).said.entries
    either true x y f g = f
    either false x y f g = g

    -- ---- a line that slices

    both_ways : (b : Bool) (some none : List CommandAct) (x y : LineOutcome) → Follow some x.said.entries → Follow none y.said.entries
        → Follow (if b then some else none) (if b then x else y).said.entries
    both_ways true some none x y f g = f
    both_ways false some none x y f g = g

    made_or_not : (b : Bool) (numbers : ℕ × ℕ) (whats : List What)
        → Follow (if b then acts_making acts whats else acts) (adds_all s said whats (if b then Ok numbers else Err faults.Full)).said.entries
    made_or_not true numbers whats = makes_all acts said.entries before whats
    made_or_not false numbers whats = before

    said_all : (whats : List What) → Follow (acts_if_room acts whats) (says_all s said whats).said.entries
    said_all whats =
        subst (λ (n : ℕ). Follow (if nat_le (n + length whats) 100000 then acts_making acts whats else acts) (says_all s said whats).said.entries)
        (as_made before)
        (made_or_not (nat_le (length said.entries + length whats) 100000) (length said.entries + 1, length said.entries + length whats) whats)

    sliced_by : (call : ℕ) (name : List ℕ) (told : SliceOf (ℕ → Bool)) → Follow (acts_by_slice s acts call told) (slices_by s said call name told).said.entries
    sliced_by call name (slices.Slice has) =
        subst (λ (answers : List What). Follow (acts_if_room acts (slice_answers s answers has call))
        (says_all s said (slice_answers s (standing_answers said.entries) has call)).said.entries) (said_after before)
        (said_all (slice_answers s (standing_answers said.entries) has call))
    sliced_by call name slices.NoOutput = before
    sliced_by call name slices.TooMany = before

    sliced : (call : ℕ) (name : List ℕ) → Follow (acts_of_slice s acts call name) (slices_output s said call name).said.entries
    sliced call name =
        both_ways (nat_lt call (calls_recorded s)) (acts_by_slice s acts call (s.slice call name)) acts _ _
        (sliced_by call name (s.slice call name)) before

    -- ---- a line on calls that are alike

    by_classes : (told : Option (List ℕ)) (made : List ℕ → List CommandAct) (goes : List ℕ → LineOutcome)
        → ((classes : List ℕ) → Follow (made classes) (goes classes).said.entries)
        → Follow (acts_by_classes told acts made) (if_compared said told goes).said.entries
    by_classes (Some classes) made goes each = each classes
    by_classes None made goes each = before

    on_alike : (call : ℕ) (made : List ℕ → List CommandAct) (goes : List ℕ → LineOutcome)
        → ((classes : List ℕ) → Follow (made classes) (goes classes).said.entries)
        → Follow (acts_on_alike s acts call made) (with_classes s said call goes).said.entries
    on_alike call made goes each =
        both_ways (nat_lt call (calls_recorded s)) (acts_by_classes s.classes acts made) acts _ _ (by_classes s.classes made goes each) before

    told_by : (told : Option (List ℕ)) (call : ℕ) → Follow acts (if_compared said told (λ classes. replied said (alike_text classes call))).said.entries
    told_by (Some classes) call = before
    told_by None call = before

    told_alike : (call : ℕ) → Follow acts (tells_alike s said call).said.entries
    told_alike call = either (nat_lt call (calls_recorded s)) _ _ (told_by s.classes call) before

    judged_alike : (judgement : Judgement) (call : ℕ) → Follow (acts_judging_alike s acts judgement call) (judges_class s said judgement call).said.entries
    judged_alike judgement call =
        on_alike call (λ classes. acts_if_room acts (judged_each judgement (class_of classes call)))
        (λ classes. says_all s said (judged_each judgement (class_of classes call))) (λ classes. said_all (judged_each judgement (class_of classes call)))

    judged_alike_asked : (judgement : Judgement) (state : SearchState)
        → Follow (acts_judging_asked s acts judgement state) (judges_class_asked s said judgement state).said.entries
    judged_alike_asked judgement (Ask call weight suspects left) = judged_alike judgement call
    judged_alike_asked judgement (Found call) = before
    judged_alike_asked judgement (Narrowed call) = before
    judged_alike_asked judgement NothingWrong = before
    judged_alike_asked judgement Unclear = before

    taken_or_none : (numbers : List ℕ) → Follow (acts_taking_back s acts numbers) (takes_each_back s said numbers).said.entries
    taken_or_none [] = before
    taken_or_none (number ∷ numbers) = takes_each acts said.entries before (number ∷ numbers)

    taken_alike : (call : ℕ) → Follow (acts_taking_back_alike s acts call) (takes_back_class s said call).said.entries
    taken_alike call =
        on_alike call (λ classes. acts_taking_back s acts (standing_alike (entries_after acts) classes call))
        (λ classes. takes_each_back s said (standing_alike said.entries classes call))
        (λ classes. subst (λ (entries : List Entry). Follow (acts_taking_back s acts (standing_alike entries classes call))
        (takes_each_back s said (standing_alike said.entries classes call)).said.entries) before.entries_are
        (taken_or_none (standing_alike said.entries classes call)))

    -- ---- a right program is asked

    referred_by : (call : ℕ) (answer : Referred) → FollowBy (judgement_by call answer) (refers_by s said call answer).said.entries
    referred_by call (Referred.Judged judgement) = judged judgement call
    referred_by call Referred.Unfit = before
    referred_by call Referred.NoAnswer = before

    if_there : (b : Bool) (some : Option Command) (x y : LineOutcome) → FollowBy some x.said.entries → Follow acts y.said.entries
        → FollowBy (if b then some else None) (if b then x else y).said.entries
    if_there true some x y f g = f
    if_there false some x y f g = g

    referred_to : (reference : ProgramRows) (call : ℕ) → FollowBy (judgement_referred s reference call) (refers_to s said reference call).said.entries
    referred_to reference call =
        if_there (nat_lt call (calls_recorded s)) (judgement_by call (s.refer reference call)) _ _ (referred_by call (s.refer reference call)) before

    referred_asked : (reference : ProgramRows) (state : SearchState)
        → FollowBy (judgement_asked s reference state) (refers_asked s said reference state).said.entries
    referred_asked reference (Ask call weight suspects left) = referred_to reference call
    referred_asked reference (Found call) = before
    referred_asked reference (Narrowed call) = before
    referred_asked reference NothingWrong = before
    referred_asked reference Unclear = before

    referred : (reference : Option ProgramRows) (call : Option ℕ)
        → FollowBy (refer_command s reference call (state_in s.tree (standing_after acts))) (refers_if s said reference call).said.entries
    referred None call = before
    referred (Some reference) (Some call) = referred_to reference call
    referred (Some reference) None =
        subst (λ (answers : List What). FollowBy (judgement_asked s reference (state_in s.tree answers))
        (refers_asked s said reference (state_after s said.entries)).said.entries) (said_after before)
        (referred_asked reference (state_after s said.entries))

    -- ---- each instruction

    -- what is known where this is held
    abbrev known_with : Option ProgramRows → Known
    known_with reference = record { kept = said.replies; reference = reference }

    by_dialog : (reference : Option ProgramRows) (c : DialogCommand)
        → Follow (acts_after_instruction s (known_with reference) acts (Instruction.Command c)) (command_outcome s said c).said.entries
    unfolding command_outcome
    by_dialog reference DialogCommand.Nothing = before
    by_dialog reference (DialogCommand.Judge judgement None) =
        subst (λ (answers : List What). FollowBy (judgement_on judgement (state_in s.tree answers))
        (judges_asked s said judgement (state_after s said.entries)).said.entries) (said_after before)
        (judged_asked judgement (state_after s said.entries))
    by_dialog reference (DialogCommand.Judge judgement (Some call)) = judged judgement call
    by_dialog reference DialogCommand.Same =
        subst (λ (answers : List What). FollowBy (judgement_kept s said.replies (state_in s.tree answers))
        (judges_same s said (state_after s said.entries)).said.entries) (said_after before) (judged_same (state_after s said.entries))
    by_dialog reference (DialogCommand.TrustNamed name) = trusted_named name (routine_named s name)
    by_dialog reference (DialogCommand.Trust routine) = trusted routine
    by_dialog reference (DialogCommand.TakeBack None) =
        subst (λ (now : List Entry). FollowBy (Some TakeBackLast) now) (takes_last_as said (take_back_last_answer (book_of s said.entries)))
        (by_command TakeBackLast)
    by_dialog reference (DialogCommand.TakeBack (Some number)) =
        subst (λ (now : List Entry). FollowBy (Some (TakeBack number)) now) (takes_as said number (take_back_answer (book_of s said.entries) number))
        (by_command (TakeBack number))
    by_dialog reference (DialogCommand.Note entry note) = either (is_made said entry) _ _ before before
    by_dialog reference (DialogCommand.Show call) = before
    by_dialog reference (DialogCommand.State call name) = before
    by_dialog reference (DialogCommand.Trace call) = before
    by_dialog reference (DialogCommand.Slice call name) = sliced call name
    by_dialog reference (DialogCommand.Alike call) = told_alike call
    by_dialog reference (DialogCommand.JudgeAlike judgement None) =
        subst (λ (answers : List What). Follow (acts_judging_asked s acts judgement (state_in s.tree answers))
        (judges_class_asked s said judgement (state_after s said.entries)).said.entries) (said_after before)
        (judged_alike_asked judgement (state_after s said.entries))
    by_dialog reference (DialogCommand.JudgeAlike judgement (Some call)) = judged_alike judgement call
    by_dialog reference (DialogCommand.TakeBackAlike call) = taken_alike call
    by_dialog reference (DialogCommand.Carry call onto) = before
    by_dialog reference DialogCommand.Tree = before
    by_dialog reference DialogCommand.Other = before

    pub by_instruction : (reference : Option ProgramRows) (i : Instruction)
        → Follow (acts_after_instruction s (known_with reference) acts i) (outcome s (record { said = said; reference = reference }) i).said.entries
    by_instruction reference (Instruction.Command command) = by_dialog reference command
    by_instruction reference (Instruction.Refer call) = referred reference call
    by_instruction reference (Instruction.Save file) = before
    by_instruction reference (Instruction.Reference file) = before
    by_instruction reference Instruction.Quit = before

  -- ---- one line, and those after it

  -- what is known where this is held
  abbrev known_by : Held → Known
  known_by held = record { kept = held.said.replies; reference = held.reference }

  by_line : (acts : List CommandAct) (held : Held) (i : Instruction) (long : Bool) → Follow acts held.said.entries
      → Follow (if long then acts else acts_after_instruction s (known_by held) acts i) (if long then held.said else (outcome s held i).said).entries
  by_line acts held i true before = before
  by_line acts held i false before = by_instruction acts held.said before held.reference i

  -- the replies that are kept stay as they are
  adds_keeps : (said : Said) (what : What) (answer : Result ℕ BookFault) → (adds s said what answer).said.replies ≡ said.replies
  adds_keeps said what (Ok number) = refl
  adds_keeps said what (Err fault) = refl

  takes_keeps : (said : Said) (number : ℕ) (answer : Result (Unit {0}) BookFault) → (takes_back s said number answer).said.replies ≡ said.replies
  takes_keeps said number (Ok done) = refl
  takes_keeps said number (Err fault) = refl

  takes_last_keeps : (said : Said) (answer : Result ℕ BookFault) → (takes_back_last s said answer).said.replies ≡ said.replies
  takes_last_keeps said (Ok number) = refl
  takes_last_keeps said (Err fault) = refl

  asked_keeps : (said : Said) (judgement : Judgement) (state : SearchState) → (judges_asked s said judgement state).said.replies ≡ said.replies
  asked_keeps said judgement (Ask call weight suspects left) = adds_keeps said (Judged call judgement) (judge_answer (book_of s said.entries) call)
  asked_keeps said judgement (Found call) = refl
  asked_keeps said judgement (Narrowed call) = refl
  asked_keeps said judgement NothingWrong = refl
  asked_keeps said judgement Unclear = refl

  kept_keeps : (said : Said) (call : ℕ) (judgement : Option Judgement) → (judges_as_kept s said call judgement).said.replies ≡ said.replies
  kept_keeps said call (Some judgement) = adds_keeps said (Judged call judgement) (judge_answer (book_of s said.entries) call)
  kept_keeps said call None = refl

  same_keeps : (said : Said) (state : SearchState) → (judges_same s said state).said.replies ≡ said.replies
  same_keeps said (Ask call weight suspects left) = kept_keeps said call (kept_on s said.replies call)
  same_keeps said (Found call) = refl
  same_keeps said (Narrowed call) = refl
  same_keeps said NothingWrong = refl
  same_keeps said Unclear = refl

  named_keeps : (said : Said) (name : List ℕ) (routine : Option ℕ) → (trusts_named s said name routine).said.replies ≡ said.replies
  named_keeps said name (Some routine) = adds_keeps said (Trusted routine) (trust_answer (book_of s said.entries) routine)
  named_keeps said name None = refl

  either_keeps : (said : Said) (b : Bool) (x y : LineOutcome) → x.said.replies ≡ said.replies → y.said.replies ≡ said.replies
      → (if b then x else y).said.replies ≡ said.replies
  either_keeps said true x y e f = e
  either_keeps said false x y e f = f

  all_keeps : (said : Said) (whats : List What) (answer : Result (ℕ × ℕ) BookFault) → (adds_all s said whats answer).said.replies ≡ said.replies
  all_keeps said whats (Ok numbers) = refl
  all_keeps said whats (Err fault) = refl

  slice_keeps : (said : Said) (call : ℕ) (name : List ℕ) (told : SliceOf (ℕ → Bool)) → (slices_by s said call name told).said.replies ≡ said.replies
  slice_keeps said call name (slices.Slice has) = all_keeps said (slice_answers s (standing_answers said.entries) has call)
      (all_answer said.entries (slice_answers s (standing_answers said.entries) has call))
  slice_keeps said call name slices.NoOutput = refl
  slice_keeps said call name slices.TooMany = refl

  compared_keeps : (said : Said) (told : Option (List ℕ)) (goes : List ℕ → LineOutcome) → ((classes : List ℕ) → (goes classes).said.replies ≡ said.replies)
      → (if_compared said told goes).said.replies ≡ said.replies
  compared_keeps said (Some classes) goes each = each classes
  compared_keeps said None goes each = refl

  alike_keeps : (said : Said) (call : ℕ) (goes : List ℕ → LineOutcome) → ((classes : List ℕ) → (goes classes).said.replies ≡ said.replies)
      → (with_classes s said call goes).said.replies ≡ said.replies
  alike_keeps said call goes each = either_keeps said (nat_lt call (calls_recorded s)) _ _ (compared_keeps said s.classes goes each) refl

  judged_keeps : (said : Said) (judgement : Judgement) (call : ℕ) → (judges_class s said judgement call).said.replies ≡ said.replies
  judged_keeps said judgement call = alike_keeps said call (λ classes. says_all s said (judged_each judgement (class_of classes call)))
      (λ classes. all_keeps said (judged_each judgement (class_of classes call)) (all_answer said.entries (judged_each judgement (class_of classes call))))

  judged_asked_keeps : (said : Said) (judgement : Judgement) (state : SearchState) → (judges_class_asked s said judgement state).said.replies ≡ said.replies
  judged_asked_keeps said judgement (Ask call weight suspects left) = judged_keeps said judgement call
  judged_asked_keeps said judgement (Found call) = refl
  judged_asked_keeps said judgement (Narrowed call) = refl
  judged_asked_keeps said judgement NothingWrong = refl
  judged_asked_keeps said judgement Unclear = refl

  taken_keeps : (said : Said) (numbers : List ℕ) → (takes_each_back s said numbers).said.replies ≡ said.replies
  taken_keeps said [] = refl
  taken_keeps said (number ∷ numbers) = refl

  command_keeps : (said : Said) (c : DialogCommand) → (command_outcome s said c).said.replies ≡ said.replies
  unfolding command_outcome
  command_keeps said DialogCommand.Nothing = refl
  command_keeps said (DialogCommand.Judge judgement None) = asked_keeps said judgement (state_after s said.entries)
  command_keeps said (DialogCommand.Judge judgement (Some call)) = adds_keeps said (Judged call judgement) (judge_answer (book_of s said.entries) call)
  command_keeps said DialogCommand.Same = same_keeps said (state_after s said.entries)
  command_keeps said (DialogCommand.TrustNamed name) = named_keeps said name (routine_named s name)
  command_keeps said (DialogCommand.Trust routine) = adds_keeps said (Trusted routine) (trust_answer (book_of s said.entries) routine)
  command_keeps said (DialogCommand.TakeBack None) = takes_last_keeps said (take_back_last_answer (book_of s said.entries))
  command_keeps said (DialogCommand.TakeBack (Some number)) = takes_keeps said number (take_back_answer (book_of s said.entries) number)
  command_keeps said (DialogCommand.Note entry note) = either_keeps said (is_made said entry) _ _ refl refl
  command_keeps said (DialogCommand.Show call) = refl
  command_keeps said (DialogCommand.State call name) = refl
  command_keeps said (DialogCommand.Trace call) = refl
  command_keeps said (DialogCommand.Slice call name) =
      either_keeps said (nat_lt call (calls_recorded s)) _ _ (slice_keeps said call name (s.slice call name)) refl
  command_keeps said (DialogCommand.Alike call) = alike_keeps said call (λ classes. replied said (alike_text classes call)) (λ classes. refl)
  command_keeps said (DialogCommand.JudgeAlike judgement None) = judged_asked_keeps said judgement (state_after s said.entries)
  command_keeps said (DialogCommand.JudgeAlike judgement (Some call)) = judged_keeps said judgement call
  command_keeps said (DialogCommand.TakeBackAlike call) =
      alike_keeps said call (λ classes. takes_each_back s said (standing_alike said.entries classes call))
      (λ classes. taken_keeps said (standing_alike said.entries classes call))
  command_keeps said (DialogCommand.Carry call onto) = refl
  command_keeps said DialogCommand.Tree = refl
  command_keeps said DialogCommand.Other = refl

  refer_keeps : (said : Said) (call : ℕ) (answer : Referred) → (refers_by s said call answer).said.replies ≡ said.replies
  refer_keeps said call (Referred.Judged judgement) = adds_keeps said (Judged call judgement) (judge_answer (book_of s said.entries) call)
  refer_keeps said call Referred.Unfit = refl
  refer_keeps said call Referred.NoAnswer = refl

  refer_to_keeps : (said : Said) (reference : ProgramRows) (call : ℕ) → (refers_to s said reference call).said.replies ≡ said.replies
  refer_to_keeps said reference call =
      either_keeps said (nat_lt call (calls_recorded s)) _ _ (refer_keeps said call (s.refer reference call)) refl

  refer_asked_keeps : (said : Said) (reference : ProgramRows) (state : SearchState) → (refers_asked s said reference state).said.replies ≡ said.replies
  refer_asked_keeps said reference (Ask call weight suspects left) = refer_to_keeps said reference call
  refer_asked_keeps said reference (Found call) = refl
  refer_asked_keeps said reference (Narrowed call) = refl
  refer_asked_keeps said reference NothingWrong = refl
  refer_asked_keeps said reference Unclear = refl

  refers_keeps : (said : Said) (reference : Option ProgramRows) (call : Option ℕ) → (refers_if s said reference call).said.replies ≡ said.replies
  refers_keeps said None call = refl
  refers_keeps said (Some reference) (Some call) = refer_to_keeps said reference call
  refers_keeps said (Some reference) None = refer_asked_keeps said reference (state_after s said.entries)

  line_keeps : (held : Held) (i : Instruction) (long : Bool) → (if long then held.said else (outcome s held i).said).replies ≡ held.said.replies
  line_keeps held i true = refl
  line_keeps held (Instruction.Command command) false = command_keeps held.said command
  line_keeps held (Instruction.Refer call) false = refers_keeps held.said held.reference call
  line_keeps held (Instruction.Save file) false = refl
  line_keeps held (Instruction.Reference file) false = refl
  line_keeps held Instruction.Quit false = refl

  -- what is known after a line is known where that is held
  known_next : (held : Held) (g : Granted) (line : List ℕ) → known_by (held_after_line s held g line) ≡ known_after_line (known_by held) g line
  known_next held g line =
      ap (λ (replies : KeptReplies). record {
        kept = replies;
        reference = (known_after_line (known_by held) g line).reference;
      }) (line_keeps held (instruction_of line) (is_too_long line))

  follow_lines : (acts : List CommandAct) (held : Held) (granted : List Granted) (lines : List (List ℕ)) → Follow acts held.said.entries
      → Follow (acts_after_lines s (known_by held) acts granted lines) (held_through s held granted lines).said.entries
  follow_lines acts held granted [] before = before
  follow_lines acts held granted (line ∷ lines) before =
      let after : Held = held_after_line s held (next_granted granted) line in
      let later : List Granted = granted_after_line (errand_in line) granted in
      subst (λ (known : Known). Follow (acts_after_lines s known (acts_after_line s (known_by held) acts line) later lines)
      (held_through s after later lines).said.entries) (known_next held (next_granted granted) line)
      (follow_lines (acts_after_line s (known_by held) acts line) after later lines
      (by_line acts held (instruction_of line) (is_too_long line) before))

pub entries_follow : (s : Subject) → EntriesFollowLines s
entries_follow s first granted lines =
    (follow_lines s (acts_giving first.said.entries) first granted lines (follow_given first.said.entries)).entries_are
