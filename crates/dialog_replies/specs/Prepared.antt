-- What was prepared for the texts on calls, and replies with it.
use Rattle.std.specs.Prelude.{if◌then◌else◌, ◌++◌, ◌<◌, ◌≡◌, ℕ, Bool, List, codes, length}
use Rattle.dialog_replies.specs.{Replies.LineOutcome, Replies.no_cell, Replies.replied, Said.Said, Subject.Subject}
use Rattle.dialog_replies.specs.Texts.{doubt_lines, kept_line, named_call, question_line}
use Rattle.dialog_replies.specs.declared.{reply.Reply.Reply, reply.Report.Report, slices.SliceOf.SliceOf}
use Rattle.dialog_replies.specs.declared.reply.Reply.TheVariants as replies
use Rattle.dialog_replies.specs.declared.reply.Report.TheVariants as reports
use Rattle.dialog_replies.specs.declared.slices.SliceOf.TheVariants as slices

-- of which calls what was prepared is; and of which calls a slice has an output
pub record Prepared (C O T S : Type 0) : Type 1 where
  pub card : (call : ℕ) → C → Type 0
  pub opened : (call : ℕ) → O → Type 0
  pub trace : (call : ℕ) → T → Type 0
  pub slice : (call : ℕ) → S → Type 0
  pub in_slice : S → (call : ℕ) → Bool

-- ---- a report

-- each call that it names is one of this many, and what was prepared is of that call
abbrev pub IsReport : {C O T S : Type 0} → Prepared C O T S → (calls : ℕ) → Report C T → Type 0
IsReport p calls (reports.Ask call suspects left card kept) = (call < calls) × p.card call card
IsReport p calls (reports.Found call trace) = (call < calls) × p.trace call trace
IsReport p calls (reports.Narrowed call) = call < calls
IsReport p calls reports.NothingWrong = Unit {0}
IsReport p calls reports.Unclear = Unit {0}

-- its text
abbrev pub text_of_report : {C T : Type 0} → Subject → Said → Report C T → List ℕ
text_of_report s said (reports.Ask call suspects left card kept) =
    question_line call suspects left ++ s.card call ++ kept_line kept
text_of_report s said (reports.Found call trace) =
    codes "found call " ++ named_call s call ++ codes "\n" ++ s.trace call
text_of_report s said (reports.Narrowed call) =
    codes "narrowed to call " ++ named_call s call ++ codes "\n" ++ doubt_lines s said.entries
text_of_report s said reports.NothingWrong = codes "nothing wrong\n"
text_of_report s said reports.Unclear = codes "unclear\n" ++ doubt_lines s said.entries

-- ---- a reply

abbrev pub IsReply : {C O T S : Type 0} → Prepared C O T S → (calls : ℕ) → Reply C O T → Type 0
IsReply p calls (replies.Text text) = Unit {0}
IsReply p calls (replies.Reported text report) = IsReport p calls report
IsReply p calls (replies.Opening text card report) = (0 < calls) × p.card 0 card × IsReport p calls report
IsReply p calls (replies.Card call card) = (call < calls) × p.card call card
IsReply p calls (replies.Trace call trace) = (call < calls) × p.trace call trace
IsReply p calls (replies.State call name opened) = (call < calls) × p.opened call opened
IsReply p calls (replies.Tree marks) = length marks.items ≡ calls

abbrev pub text_of_reply : {C O T : Type 0} → Subject → Said → Reply C O T → List ℕ
text_of_reply s said (replies.Text text) = text
text_of_reply s said (replies.Reported text report) = text ++ text_of_report s said report
text_of_reply s said (replies.Opening text card report) = text ++ s.card 0 ++ text_of_report s said report
text_of_reply s said (replies.Card call card) = s.card call
text_of_reply s said (replies.Trace call trace) = s.trace call
text_of_reply s said (replies.State call name opened) =
    if s.has_cell call name then s.state call name else no_cell call name
text_of_reply s said (replies.Tree marks) = s.marked marks.items

-- what was said after a line, and the text of its reply
abbrev pub outcome_with : {C O T : Type 0} → Subject → Said → Reply C O T → LineOutcome
outcome_with s said reply = replied said (text_of_reply s said reply)

-- a reply that is this text alone
abbrev pub IsText : {C O T : Type 0} → (text : List ℕ) → Reply C O T → Type 0
IsText text it = it ≡ replies.Text text

-- ---- a slice

-- what was prepared is what there is: the slice is of this call, and has outputs of these calls
abbrev pub IsSliceOf : {C O T S : Type 0} → Prepared C O T S → (call : ℕ) → SliceOf (ℕ → Bool) → SliceOf S → Type 0
IsSliceOf p call (slices.Slice has) (slices.Slice slice) = p.slice call slice × (p.in_slice slice ≡ has)
IsSliceOf p call slices.NoOutput slices.NoOutput = Unit {0}
IsSliceOf p call slices.TooMany slices.TooMany = Unit {0}
IsSliceOf p call told slice = ⊥
