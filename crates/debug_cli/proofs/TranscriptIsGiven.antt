-- Where the keeper tells the files that the words name, or they mean a made program: what the screen got, what became of the files, and which
-- status comes.
use Rattle.std.proofs.Common.{◌∙◌, ◌≡◌, ◌≤◌, ◌⊎◌, [], ℕ, Bool, List, None, Option, Some, ap, arith, inl, inr, length, refl, subst, sym}
use Rattle.edge_ports.proofs.PiecesAddUp.{gave_nothing, gave_prefix_before, gave_prefix_whole}
use Rattle.edge_ports.specs.{Counts.Counted, Lines.lines_of, Told.GaveAll, Told.GavePrefix}
use Rattle.core_program.specs.WholeTables.{WholeTables}
use Rattle.dialog_replies.specs.{Fit.misfit, Subject.Subject, declared.start.Start.Start}
use Rattle.ask_session.proofs.TranscriptIsGiven.{Cause, Closed, done_or_memory, spent_or_memory, told_so}
use Rattle.ask_session.specs.{Console.FirstAnswered, Console.GaveOf, Console.NotRisen, Dialog.Granted, Dialog.transcript, Outside.Outside, Reached.Reached}
use Rattle.ask_session.specs.{Reached.Telling, Reached.telling, Went.Went, declared.dialog.Ending.Ending}
use Rattle.ask_session.specs.Wishes.{AreReadIn, FilesAfter, Wish, counts_granted, wishes_in}
use Rattle.debuggee.specs.{Program.IsProgram, References.IsReading}
use Rattle.debug_cli.proofs.ByStatus.{View, nothing, part, said, talked, view}
use Rattle.debug_cli.proofs.FilesAreTold.{AllCame, begun_comes, no_fault, no_other_session, no_refusal, same_made, same_rows, same_start, same_subject}
use Rattle.debug_cli.proofs.StatusByCode.{Failed, code_is, console_by_end, no_screen, screen_by_end}
use Rattle.debug_cli.specs.{Goes.Goes, Goes.HasGone, Goes.Owes, Goes.Talks, Laws.OneRun, Meaning.Made, Meaning.Meant, Meaning.Requested, Meaning.Source}
use Rattle.debug_cli.specs.{Outside.LeavesAlone, Setting.transcript_of, Setting.wishes_of, Status.code_of, Status.session_status, declared.status.Status.Status}
use Rattle.debug_cli.specs.Named.{MadeProgram, SourceRefused, Words, made_text, meaning, start_in, subject_in}
use Rattle.debug_cli.specs.Setting.{AllFetched, ComesTo, InFiles, IsMade, NothingFailed, Setting, Told, lines_of_console, telling_made, telling_of}

-- the screen has got this much, and the files and the counts followed
pub record Follows (before after : Outside) (text : List Granted → List ℕ) (asked : List Granted → List Wish) : Type 0 where
  pub granted : List Granted
  pub read : AreReadIn IsReading granted
  pub each : length granted ≡ length (asked granted)
  pub gave : GaveAll before.streams.given after.streams.given (text granted)
  pub files_are : FilesAfter granted (asked granted) before.files after.files
  pub counts_are : after.counts ≡ counts_granted granted before.counts

pub record FollowsPart (before after : Outside) (t : Telling) (lines : List (List ℕ)) : Type 0 where
  pub granted : List Granted
  pub read : AreReadIn IsReading granted
  pub few : length granted ≤ length (t.asked granted lines)
  pub gave : GavePrefix before.streams.given after.streams.given (t.text granted lines)
  pub files_are : FilesAfter granted (t.asked granted lines) before.files after.files
  pub reached : Reached t lines granted before.streams.given after.streams.given

-- nothing was given to any line, and so nothing was read
none_read : AreReadIn IsReading []
none_read k d l = absurd (omega (arith, l))

-- nothing was reached but the opening, or a first part of it
reached_none : (given given' : Option (List ℕ)) (t : Telling) (lines : List (List ℕ)) → length (t.asked [] []) ≡ 0
    → GavePrefix given given' (t.text [] []) → Reached t lines [] given given'
reached_none given given' t lines none gave = record { count = 0; within = omega arith; answered = inl (sym none); gave = gave }

-- nothing was given and nothing was stored
nothing_follows : (before after : Outside) (t : Telling) (lines : List (List ℕ)) → length (t.asked [] []) ≡ 0
    → after.streams.given ≡ before.streams.given → LeavesAlone before after → FollowsPart before after t lines
nothing_follows before after t lines none same alone = record {
  granted = [];
  read = none_read;
  few = omega arith;
  gave = part_of (t.text [] lines);
  files_are = alone.files;
  reached = reached_none before.streams.given after.streams.given t lines none (part_of (t.text [] []));
}
  where
    part_of : (text : List ℕ) → GavePrefix before.streams.given after.streams.given text
    part_of text = gave_prefix_before before.streams.given after.streams.given [] text
        (gave_prefix_whole before.streams.given after.streams.given [] (same ∙ gave_nothing before.streams.given))

-- ---- a session

module _ (before after : Outside) (s : Subject) (start : Start) (bytes : List ℕ) (console : before.streams.left ≡ Some bytes) where
  abbrev Whole : Type 0
  Whole =
      Follows before after (λ granted. transcript s start granted bytes) (λ granted. wishes_in s start granted (lines_of bytes))

  abbrev Part : Type 0
  Part = FollowsPart before after (telling s start) (lines_of bytes)

  whole_of : Went IsReading s start before Ending.Done after → Whole
  whole_of w =
      let t = told_so s start before.streams.left after.streams.left bytes console IsReading before after Ending.Done w w.is_heard in
      record { granted = w.granted; read = w.read; each = t.0; gave = t.1; files_are = t.2; counts_are = w.counts }

  part_with : (granted : List Granted) → AreReadIn IsReading granted → length granted ≤ length (wishes_in s start granted (lines_of bytes))
      → GavePrefix before.streams.given after.streams.given (transcript s start granted bytes)
      → FilesAfter granted (wishes_in s start granted (lines_of bytes)) before.files after.files
      × Reached (telling s start) (lines_of bytes) granted before.streams.given after.streams.given → Part
  part_with granted read few gave t = record { granted = granted; read = read; few = few; gave = gave; files_are = t.0; reached = t.1 }

  part_of : (e : Ending) → Went IsReading s start before e after → Part
  part_of e w = by e w (told_so s start before.streams.left after.streams.left bytes console IsReading before after e w w.is_heard)
    where
      by : (e : Ending) (w : Went IsReading s start before e after)
          → FirstAnswered e w.granted (wishes_in s start w.granted (lines_of bytes))
          × GaveOf e before.streams.given after.streams.given (transcript s start w.granted bytes)
          × FilesAfter w.granted (wishes_in s start w.granted (lines_of bytes)) before.files after.files
          × Reached (telling s start) (lines_of bytes) w.granted before.streams.given after.streams.given → Part
      by Ending.Done w t =
          part_with w.granted w.read (omega (arith, t.0)) (gave_prefix_whole before.streams.given after.streams.given _ t.1) (t.2, t.3)
      by Ending.Refused w t = part_with w.granted w.read t.0 (gave_prefix_whole before.streams.given after.streams.given _ t.1) (t.2, t.3)
      by Ending.Console w t = part_with w.granted w.read t.0 t.1 (t.2, t.3)
      by Ending.Screen w t = part_with w.granted w.read t.0 t.1 (t.2, t.3)
      by Ending.Spent w t = part_with w.granted w.read t.0 t.1 (t.2, t.3)
      by Ending.Memory w t = part_with w.granted w.read t.0 t.1 (t.2, t.3)

-- ---- files that are told

module _ (one : OneRun) (r : Requested) (before after : Outside) (told : Told r before.files before.streams.left) where
  abbrev Here : Status → Type 0
  Here s = Goes (Some (Source r)) before after s

  abbrev about : Subject
  about = subject_in told.begun

  abbrev begins : Start
  begins = start_in told.begun

  talk : (e : Ending) → Talks (Some (Source r)) before after e → Went IsReading about begins before e after
  talk e (b, w, whole) =
      subst (λ (start : Start). Went IsReading about start before e after) (same_start r before.files told.files_told one b told.begun)
      (subst (λ (s : Subject). Went IsReading s (start_in b) before e after) (same_subject r before.files told.files_told one b told.begun) w)

  tables_told : Here Status.Done → WholeTables told.begun.run.source.rows
  tables_told (inl x) = absurd x.owed
  tables_told (inr (b, w, whole)) = subst WholeTables (same_rows r before.files told.files_told one b told.begun) whole

  whole_told : Here Status.Done → Whole before after about begins told.console told.console_told
  whole_told (inl x) = absurd x.owed
  whole_told (inr t) = whole_of before after about begins told.console told.console_told (talk Ending.Done t)

  module _ (well : AllCame before after) where
    none_owed : LeavesAlone before after → (wanted : Status) (text : List ℕ) → Owes (Some (Source r)) before after wanted text → ⊥
    none_owed alone Status.Done text o = o
    none_owed alone Status.Words text o = o
    none_owed alone Status.Source text o = no_refusal r before.files told.files_told told.begun.run.source o.0
    none_owed alone Status.File text o =
        no_fault r before.files told.files_told (begun_comes r before.files told.files_told told.begun) before after well alone o.0 o.2
    none_owed alone Status.Console text o = o
    none_owed alone Status.Screen text o = o
    none_owed alone Status.Memory text o = o
    none_owed alone Status.Session text o = no_other_session r before.files told.files_told told.begun o.0
    none_owed alone Status.Spent text o = o

    part_told : {s : Status} → View (Some (Source r)) before after s → Part before after about begins told.console told.console_told
    part_told (said s x) = absurd (none_owed x.alone s x.text x.owed)
    part_told (part x) = absurd (none_owed x.alone x.wanted x.text x.owed)
    part_told (nothing x) = nothing_follows before after (telling about begins) (lines_of told.console) refl x.given x.alone
    part_told (talked e t) = part_of before after about begins told.console told.console_told e (talk e t)

    -- where the session fits and neither the console nor the screen failed: it ends as it is known to end, or memory runs out
    module _ (fits : misfit about begins ≡ None) {console console' screen screen' : ℕ} (calm : NotRisen console console')
        (still : NotRisen screen screen') (wanted : Ending)
        (ends : (e : Ending) → Cause about begins before.streams.left after.streams.left told.console told.console_told e
        → Closed e console console' screen screen' → (e ≡ wanted) ⊎ (e ≡ Ending.Memory))
      where
        ended_told : {s : Status} → Failed s console console' screen screen' → View (Some (Source r)) before after s
            → (s ≡ session_status wanted) ⊎ (s ≡ Status.Memory)
        ended_told f (said s x) = absurd (none_owed x.alone s x.text x.owed)
        ended_told f (part x) = absurd (no_screen Status.Screen screen screen' f.screen_counted still refl)
        ended_told f (nothing x) = inr refl
        ended_told f (talked e t) = by (ends e (cause (talk e t)) closed)
          where
            cause : Went IsReading about begins before e after
                → Cause about begins before.streams.left after.streams.left told.console told.console_told e
            cause w = record { heard = w.heard; is_heard = w.is_heard; ended = w.ended; refused = w.refused; fits = fits }

            closed : Closed e console console' screen screen'
            closed = record {
              console_counted = subst (λ (b : Bool). Counted b console console') (sym (console_by_end e)) f.console_counted;
              console_stayed = calm;
              screen_counted = subst (λ (b : Bool). Counted b screen screen') (sym (screen_by_end e)) f.screen_counted;
              screen_stayed = still;
            }

            by : (e ≡ wanted) ⊎ (e ≡ Ending.Memory) → (session_status e ≡ session_status wanted) ⊎ (session_status e ≡ Status.Memory)
            by (inl is) = inl (ap session_status is)
            by (inr is) = inr (ap session_status is)

-- ---- a made program

module _ (one : OneRun) (number : ℕ) (before after : Outside) (x : MadeProgram number) where
  abbrev AsMade : Status → Type 0
  AsMade s = Goes (Some (Made number)) before after s

  no_made_refusal : SourceRefused (Made number) before.files → ⊥
  no_made_refusal y = y.none x.tokens x.rows (subst (λ (bytes : List ℕ). IsProgram bytes x.tokens x.rows) (sym y.source) x.program)

  abbrev PartMade : Type 0
  PartMade = FollowsPart before after (telling_made x) []

  whole_made : AsMade Status.Done → Follows before after (λ granted. made_text x) (λ granted. [])
  whole_made (inl y) = record {
    granted = [];
    read = none_read;
    each = refl;
    gave = subst (λ (text : List ℕ). GaveAll before.streams.given after.streams.given text) (y.owed.1 ∙ same_made one number y.owed.0 x) y.gave;
    files_are = y.alone.files;
    counts_are = y.owed.2;
  }
  whole_made (inr t) = absurd t

  some_made : LeavesAlone before after → GavePrefix before.streams.given after.streams.given (made_text x)
      → PartMade
  some_made alone gave = record {
    granted = [];
    read = none_read;
    few = omega arith;
    gave = gave;
    files_are = alone.files;
    reached = reached_none before.streams.given after.streams.given (telling_made x) [] refl gave;
  }

  owed_made : (wanted : Status) (text : List ℕ) → Owes (Some (Made number)) before after wanted text
      → (wanted ≡ Status.Done) × (text ≡ made_text x)
  owed_made Status.Done text o = (refl, o.1 ∙ same_made one number o.0 x)
  owed_made Status.Words text o = absurd o
  owed_made Status.Source text o = absurd (no_made_refusal o.0)
  owed_made Status.File text o = absurd o
  owed_made Status.Console text o = absurd o
  owed_made Status.Screen text o = absurd o
  owed_made Status.Memory text o = absurd o
  owed_made Status.Session text o = absurd o
  owed_made Status.Spent text o = absurd o

  part_made : {s : Status} → View (Some (Made number)) before after s → PartMade
  part_made (said s y) = some_made y.alone
      (subst (λ (text : List ℕ). GavePrefix before.streams.given after.streams.given text) (owed_made s y.text y.owed).1
      (gave_prefix_whole before.streams.given after.streams.given y.text y.gave))
  part_made (part y) =
      some_made y.alone (subst (λ (text : List ℕ). GavePrefix before.streams.given after.streams.given text) (owed_made y.wanted y.text y.owed).1 y.gave)
  part_made (nothing y) = nothing_follows before after (telling_made x) [] refl y.given y.alone
  part_made (talked e t) = absurd t

  made_comes : {s : Status} → View (Some (Made number)) before after s → (s ≡ Status.Screen → ⊥) → (s ≡ Status.Done) ⊎ (s ≡ Status.Memory)
  made_comes (said s y) screen = inl (owed_made s y.text y.owed).0
  made_comes (part y) screen = absurd (screen refl)
  made_comes (nothing y) screen = inr refl
  made_comes (talked e t) screen = absurd t

-- ---- either

module _ (one : OneRun) (words : Words) {before after : Outside} {s : Status} (x : HasGone (meaning words) before after s) where
  at : {m : Option Meant} → meaning words ≡ m → View m before after s
  at {m} is = view m before after s (subst (λ (m : Option Meant). Goes m before after s) is x.goes)

  goes_done : {m : Option Meant} → meaning words ≡ m → code_of s ≡ 0 → Goes m before after Status.Done
  goes_done {m} is done =
      subst (Goes m before after) (code_is s Status.Done done) (subst (λ (m : Option Meant). Goes m before after s) is x.goes)

  -- the program of the source has whole tables
  pub tables_are_whole : (r : Requested) → meaning words ≡ Some (Source r) → (told : Told r before.files before.streams.left) → code_of s ≡ 0
      → WholeTables told.begun.run.source.rows
  tables_are_whole r means told done = tables_told one r before after told (goes_done means done)

  pub whole_transcript : (set : Setting words before.files before.streams.left) → code_of s ≡ 0
      → Follows before after (transcript_of set) (wishes_of set)
  whole_transcript (InFiles r means told) done = whole_told one r before after told (goes_done means done)
  whole_transcript (IsMade number means y) done = whole_made one number before after y (goes_done means done)

  pub record FirstPart (set : Setting words before.files before.streams.left) : Type 0 where
    pub granted : List Granted
    pub read : AreReadIn IsReading granted
    pub few : length granted ≤ length (wishes_of set granted)
    pub gave : GavePrefix before.streams.given after.streams.given (transcript_of set granted)
    pub files_are : FilesAfter granted (wishes_of set granted) before.files after.files
    pub reached : Reached (telling_of set) (lines_of_console set) granted before.streams.given after.streams.given

  pub first_part : (set : Setting words before.files before.streams.left) → AllFetched set before.counts after.counts after.streams.left → FirstPart set
  first_part (InFiles r means told) well =
      let f = part_told one r before after told well (at means) in
      record { granted = f.granted; read = f.read; few = f.few; gave = f.gave; files_are = f.files_are; reached = f.reached }
  first_part (IsMade number means y) well =
      let f = part_made one number before after y (at means) in
      record { granted = f.granted; read = f.read; few = f.few; gave = f.gave; files_are = f.files_are; reached = f.reached }

  pub wanted_or_memory : {console console' screen screen' : ℕ} → Failed s console console' screen screen'
      → (set : Setting words before.files before.streams.left) (wanted : Status) → ComesTo set wanted
      → NothingFailed set (record { keeper = before.counts; console = console; screen = screen })
      (record { keeper = after.counts; console = console'; screen = screen' }) after.streams.left → (s ≡ wanted) ⊎ (s ≡ Status.Memory)
  wanted_or_memory f (InFiles r means told) Status.Done (fits, ends) (well, calm, still) =
      ended_told one r before after told well fits calm still Ending.Done
      (λ e w c. done_or_memory (subject_in told.begun) (start_in told.begun) before.streams.left after.streams.left told.console told.console_told
      e w c ends) f (at means)
  wanted_or_memory f (InFiles r means told) Status.Spent (fits, on) (well, calm, still) =
      ended_told one r before after told well fits calm still Ending.Spent
      (λ e w c. spent_or_memory (subject_in told.begun) (start_in told.begun) before.streams.left after.streams.left told.console told.console_told
      e w c on) f (at means)
  wanted_or_memory f (InFiles r means told) Status.Words c n = absurd c
  wanted_or_memory f (InFiles r means told) Status.Source c n = absurd c
  wanted_or_memory f (InFiles r means told) Status.File c n = absurd c
  wanted_or_memory f (InFiles r means told) Status.Console c n = absurd c
  wanted_or_memory f (InFiles r means told) Status.Screen c n = absurd c
  wanted_or_memory f (InFiles r means told) Status.Memory c n = absurd c
  wanted_or_memory f (InFiles r means told) Status.Session c n = absurd c
  wanted_or_memory {console} {console'} {screen} {screen'} f (IsMade number means y) Status.Done c still =
      made_comes one number before after y (at means) (no_screen s screen screen' f.screen_counted still)
  wanted_or_memory f (IsMade number means y) Status.Spent c n = absurd c
  wanted_or_memory f (IsMade number means y) Status.Words c n = absurd c
  wanted_or_memory f (IsMade number means y) Status.Source c n = absurd c
  wanted_or_memory f (IsMade number means y) Status.File c n = absurd c
  wanted_or_memory f (IsMade number means y) Status.Console c n = absurd c
  wanted_or_memory f (IsMade number means y) Status.Screen c n = absurd c
  wanted_or_memory f (IsMade number means y) Status.Memory c n = absurd c
  wanted_or_memory f (IsMade number means y) Status.Session c n = absurd c
