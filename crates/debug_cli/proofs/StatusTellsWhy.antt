-- By the status that the command answers: why it came, what the screen got, and what became of the files.
use Rattle.std.proofs.Common.{◌≡◌, ℕ, List, None, Option, Some, inl, inr, refl, subst, sym}
use Rattle.core_program.specs.WholeTables.{WholeTables}
use Rattle.ask_session.specs.{Outside.Outside, Went.Went, declared.dialog.Ending.Ending}
use Rattle.debuggee.specs.References.{IsReading}
use Rattle.debug_cli.specs.{Given.GivesText, Goes.Goes, Goes.HasGone, Goes.Owes, Goes.Says, Meaning.Made, Meaning.Meant, Meaning.Requested, Meaning.Source}
use Rattle.debug_cli.specs.{Outside.LeavesAlone, Outside.outside, Refusals.GivesLine, Refusals.IsRefusal, Refusals.line_on, Refusals.refusal_status}
use Rattle.debug_cli.specs.{Status.session_status, Texts.usage_line, declared.refusals.Refusal.Refusal, declared.status.Status.Status}
use Rattle.debug_cli.specs.Named.{Begun, MadeProgram, made_text, start_in, subject_in}

-- the keeper alone
abbrev pub keeper_of : Outside → Outside
keeper_of x = outside x.files x.counts None None

-- a text that is owed, whole or a first part of it
text_goes : (m : Option Meant) (before after : Outside) → LeavesAlone before after → (result wanted : Status) (text : List ℕ)
    → Owes m before after wanted text → GivesText result wanted text before.streams.given after.streams.given
    → (Says m before after wanted → Goes m before after wanted) → Goes m before after result
text_goes m before after alone result wanted text owed (inl g) whole =
    subst (Goes m before after) (sym g.0) (whole (record { text = text; owed = owed; gave = g.1; alone = alone }))
text_goes m before after alone result wanted text owed (inr g) whole =
    subst (Goes m before after) (sym g.0) (inl (record { wanted = wanted; text = text; owed = owed; gave = g.1; alone = alone }))

-- ---- what is refused

-- what is owed is told by the keeper alone
owed_here : (why : Refusal) (m : Meant) (before after : Outside) (text : List ℕ)
    → Owes (Some m) (keeper_of before) (keeper_of after) (refusal_status why) text → Owes (Some m) before after (refusal_status why) text
owed_here (Refusal.Source why) m before after text owed = owed
owed_here (Refusal.File name why) (Source r) before after text owed = owed
owed_here (Refusal.File name why) (Made number) before after text owed = absurd owed
owed_here (Refusal.Session why) (Source r) before after text owed = owed
owed_here (Refusal.Session why) (Made number) before after text owed = absurd owed
owed_here Refusal.Memory m before after text owed = absurd owed

whole_here : (why : Refusal) (m : Meant) (before after : Outside) → Says (Some m) before after (refusal_status why)
    → Goes (Some m) before after (refusal_status why)
whole_here (Refusal.Source why) m before after s = s
whole_here (Refusal.File name why) m before after s = s
whole_here (Refusal.Session why) m before after s = inl s
whole_here Refusal.Memory m before after s = absurd s.owed

refusal_goes : (m : Meant) (before after : Outside) → after.streams.left ≡ before.streams.left → (why : Refusal)
    → IsRefusal m (keeper_of before) (keeper_of after) why → (result : Status)
    → GivesLine (line_on why) (refusal_status why) result before.streams.given after.streams.given → Goes (Some m) before after result
refusal_goes m before after left why is result (inl (text, line, gives)) =
    text_goes (Some m) before after (record { files = is.files; left = left }) result (refusal_status why) text
    (owed_here why m before after text (is.owed text line)) gives (whole_here why m before after)
refusal_goes m before after left why is result (inr g) =
    subst (Goes (Some m) before after) (sym g.0)
    (inl (record { given = g.1; counts = is.counts; alone = record { files = is.files; left = left } }))

-- ---- a session

pub talk_goes : (r : Requested) (before after : Outside) (b : Begun r before.files) → WholeTables b.run.source.rows → (e : Ending)
    → Went IsReading (subject_in b) (start_in b) before e after → Goes (Some (Source r)) before after (session_status e)
talk_goes r before after b whole Ending.Done w = inr (b, w, whole)
talk_goes r before after b whole Ending.Console w = (b, w, whole)
talk_goes r before after b whole Ending.Screen w = inr (b, w, whole)
talk_goes r before after b whole Ending.Spent w = (b, w, whole)
talk_goes r before after b whole Ending.Refused w = inr (b, w, whole)
talk_goes r before after b whole Ending.Memory w = inr (b, w, whole)

-- after files were fetched all is as it was before
same_outside : (before after : Outside) → keeper_of after ≡ keeper_of before → after.streams ≡ before.streams → after ≡ before
same_outside before after kept streams = λ i. record { files = (kept i).files; counts = (kept i).counts; streams = streams i }

-- ---- by what the words mean

module _ {means : Option Meant} {before after : Outside} {s : Status} where
  as_meant : {m : Option Meant} → means ≡ m → Goes m before after s → HasGone means before after s
  as_meant {m} is goes = subst (λ (x : Option Meant). HasGone x before after s) (sym is) (record { goes = goes })

  pub session_gone : {m : Option Meant} {middle : Outside} → means ≡ m → HasGone m middle after s → keeper_of middle ≡ keeper_of before
      → middle.streams ≡ before.streams → HasGone means before after s
  session_gone {m} {middle} is x kept streams =
      as_meant is (subst (λ (o : Outside). Goes m o after s) (same_outside before middle kept streams) x.goes)

  pub refusal_gone : {m : Meant} → means ≡ Some m → (why : Refusal) → IsRefusal m (keeper_of before) (keeper_of after) why
      → after.streams.left ≡ before.streams.left → GivesLine (line_on why) (refusal_status why) s before.streams.given after.streams.given
      → HasGone means before after s
  refusal_gone {m} is why refused left says = as_meant is (refusal_goes m before after left why refused s says)

  -- the lines of a made program, and the one on words that mean nothing
  pub made_gone : {number : ℕ} → means ≡ Some (Made number) → LeavesAlone before after → after.counts ≡ before.counts → (x : MadeProgram number)
      → GivesText s Status.Done (made_text x) before.streams.given after.streams.given → HasGone means before after s
  made_gone {number} is alone counts x gives =
      as_meant is (text_goes (Some (Made number)) before after alone s Status.Done (made_text x) (x, refl, counts) gives (λ y. inl y))

  pub words_gone : means ≡ None → LeavesAlone before after → after.counts ≡ before.counts
      → GivesText s Status.Words usage_line before.streams.given after.streams.given → HasGone means before after s
  words_gone is alone counts gives =
      as_meant is (text_goes None before after alone s Status.Words usage_line (refl, counts) gives (λ y. y))
