-- What the command promises of its words, files, console and screen holds of what a turn is given and how it comes out.
use Rattle.std.proofs.Common.{◌==◌, ◌∙◌, ◌≡◌, ◌≤◌, ◌⊎◌, [], ℕ, All, Bool, List, None, Option, Some, ap, arith, false, inl, inr, length, refl, subst, sym, true}
use Rattle.std.{proofs.lemmas.Bool.eqb-true, proofs.lemmas.Cmp.nat_list_cmp_total, specs.FinMap.get-insert}
use Rattle.edge_ports.specs.{Counts.Counted, Counts.KeeperCounts, Lines.lines_of, Told.GaveAll, Told.GavePrefix}
use Rattle.pas_lexer.specs.Limits.{source_bytes}
use Rattle.dialog_replies.specs.Fit.{misfit}
use Rattle.ask_session.specs.{Console.NotRisen, Dialog.Granted, Dialog.transcript, Reached.Reached, Reached.telling}
use Rattle.ask_session.specs.Wishes.{AreReadIn, FilesAfter, counts_granted, wishes_in}
use Rattle.debuggee.specs.{Program.NoProgram, References.IsReading}
use Rattle.debug_cli.specs.{Goes.Goes, Headline.Headline, Meaning.Meant, Meaning.Requested, Meaning.Source, Meaning.budget_spelled, Named.start_in}
use Rattle.debug_cli.specs.{Named.subject_in, Outside.NoFetchFailed, Setting.MeansNoProgram, Setting.Told, Status.code_of, declared.status.Status.Status}
use Rattle.web_page.proofs.NoCallFails.{all_went_well, same_bytes}
use Rattle.web_page.specs.{Given.TurnGiven, Given.turn_files, Given.turn_meaning, Outside.FilesState, Outside.counts_of, Outside.files_at_start}
use Rattle.web_page.specs.Promises.{CanAsk, WentWell, telling_of_turn, transcript_of_turn, wishes_of_turn}

-- what the words mean, the files, the console's bytes, and what the screen has before and after
pub record Situation : Type 0 where
  pub meant : Option Meant
  pub files : FilesState
  pub left : List ℕ
  pub before : Option (List ℕ)
  pub after : Option (List ℕ)

-- a turn that shows this
abbrev pub turn_situation : TurnGiven → (shown : List ℕ) → Situation
turn_situation g shown =
    record { meant = turn_meaning g; files = files_at_start g; left = g.console; before = Some []; after = Some shown }

-- what holds of the command holds of the turn that asks it
pub is_turn : (x : Situation) (g : TurnGiven) {shown : List ℕ} → x.meant ≡ turn_meaning g → x.files ≡ files_at_start g → x.left ≡ g.console
    → x.before ≡ Some [] → x.after ≡ Some shown → x ≡ turn_situation g shown
is_turn x g {shown} m f l b a =
    ap (λ (it : Option Meant). record { meant = it; files = x.files; left = x.left; before = x.before; after = x.after }) m
    ∙ ap (λ (it : FilesState). record { meant = turn_meaning g; files = it; left = x.left; before = x.before; after = x.after }) f
    ∙ ap (λ (it : List ℕ). record { meant = turn_meaning g; files = files_at_start g; left = it; before = x.before; after = x.after }) l
    ∙ ap (λ (it : Option (List ℕ)). record { meant = turn_meaning g; files = files_at_start g; left = g.console; before = it; after = x.after }) b
    ∙ ap (λ (it : Option (List ℕ)). record { meant = turn_meaning g; files = files_at_start g; left = g.console; before = Some []; after = it }) a

-- no call of the files of a turn fails
pub no_fetch_failed : {left left' : Option (List ℕ)} (before now : FilesState) → NoFetchFailed (counts_of before) (counts_of now) left left'
no_fetch_failed before now = inl (λ rose. absurd (omega (arith, rose)))

-- nor one of its console
pub console_is_calm : NotRisen 0 0
console_is_calm rose = absurd (omega (arith, rose))

-- ---- the clauses of the command, as far as they speak of files and a console that are told

abbrev pub HeadlineAt : (status : ℕ) → Situation → Type 0
HeadlineAt status x =
    (r : Requested) (t : Told r (Some x.files.files) (Some x.left)) → x.meant ≡ Some (Source r) → status ≡ 0 → Headline t x.before x.after

abbrev pub TranscriptAt : (status : ℕ) → (now : FilesState) → Situation → Type 0
TranscriptAt status now x =
    (r : Requested) (t : Told r (Some x.files.files) (Some x.left)) → x.meant ≡ Some (Source r) → status ≡ 0
    → (granted : List Granted) × AreReadIn IsReading granted
    × (length granted ≡ length (wishes_in (subject_in t.begun) (start_in t.begun) granted (lines_of t.console)))
    × GaveAll x.before x.after (transcript (subject_in t.begun) (start_in t.begun) granted t.console)
    × FilesAfter granted (wishes_in (subject_in t.begun) (start_in t.begun) granted (lines_of t.console)) (Some x.files.files) (Some now.files)
    × (counts_of now ≡ counts_granted granted (counts_of x.files))

abbrev pub FirstPartAt : (now : FilesState) → Situation → Type 0
FirstPartAt now x =
    (r : Requested) (t : Told r (Some x.files.files) (Some x.left)) → x.meant ≡ Some (Source r)
    → (granted : List Granted) × AreReadIn IsReading granted
    × (length granted ≤ length (wishes_in (subject_in t.begun) (start_in t.begun) granted (lines_of t.console)))
    × GavePrefix x.before x.after (transcript (subject_in t.begun) (start_in t.begun) granted t.console)
    × FilesAfter granted (wishes_in (subject_in t.begun) (start_in t.begun) granted (lines_of t.console)) (Some x.files.files) (Some now.files)
    × Reached (telling (subject_in t.begun) (start_in t.begun)) (lines_of t.console) granted x.before x.after

-- a session that fits ends so, where the screen does not fail
abbrev pub EndingAt : (status wanted : ℕ) → (List ℕ → Type 0) → (calm : Type 0) → Situation → Type 0
EndingAt status wanted console calm x =
    (r : Requested) (t : Told r (Some x.files.files) (Some x.left)) → x.meant ≡ Some (Source r)
    → misfit (subject_in t.begun) (start_in t.begun) ≡ None → console t.console → calm → (status ≡ wanted) ⊎ (status ≡ 7)

abbrev pub RefusalAt : (status : ℕ) → (calm : Type 0) → Situation → Type 0
RefusalAt status calm x = MeansNoProgram x.meant (Some x.files.files) → calm → (status ≡ 3) ⊎ (status ≡ 7)

abbrev pub GoesAt : (status : ℕ) → (now : FilesState) → (left : List ℕ) → Situation → Type 0
GoesAt status now left x =
    (s : Status) × (status ≡ code_of s) × Goes x.meant
    (record { files = Some x.files.files; counts = counts_of x.files; streams = record { left = Some x.left; given = x.before } })
    (record { files = Some now.files; counts = counts_of now; streams = record { left = Some left; given = x.after } }) s

-- ---- the promises of a turn

full_or_not : {status before now : ℕ} {A : Type 0} (full : Bool) → (status == 6) ≡ full → before ≡ 0 → Counted full before now
    → (NotRisen before now → A ⊎ (status ≡ 7)) → A ⊎ (status ≡ 6) ⊎ (status ≡ 7)
full_or_not {status} true is first counted next = inr (inl (eqb-true status 6 is))
full_or_not {status} {before} {now} {A} false is first counted next = by (next (λ rose. absurd (omega (arith, first, counted, rose))))
  where
    by : A ⊎ (status ≡ 7) → A ⊎ (status ≡ 6) ⊎ (status ≡ 7)
    by (inl a) = inl a
    by (inr e) = inr (inr e)

-- what comes where the screen does not fail
pub unless_full : {status before now : ℕ} {A : Type 0} → before ≡ 0 → Counted (status == 6) before now
    → (NotRisen before now → A ⊎ (status ≡ 7)) → A ⊎ (status ≡ 6) ⊎ (status ≡ 7)
unless_full {status} = full_or_not (status == 6) refl

module _ {x : Situation} (g : TurnGiven) {shown : List ℕ} (is : x ≡ turn_situation g shown) where
  pub headline : {status : ℕ} → HeadlineAt status x → (c : CanAsk g) → status ≡ 0 → Headline c.told (Some []) (Some shown)
  headline {status} clause c = subst (HeadlineAt status) is clause c.request c.told c.meant

  pub first_part : (now : FilesState) → FirstPartAt now x → (c : CanAsk g)
      → (granted : List Granted) × AreReadIn IsReading granted × (length granted ≤ length (wishes_of_turn c granted))
      × GavePrefix (Some []) (Some shown) (transcript_of_turn c granted)
      × FilesAfter granted (wishes_of_turn c granted) (Some (turn_files g)) (Some now.files)
      × Reached (telling_of_turn c) (lines_of c.told.console) granted (Some []) (Some shown)
  first_part now clause c = subst (FirstPartAt now) is clause c.request c.told c.meant

  pub ends : {status wanted : ℕ} (console : List ℕ → Type 0) {calm : Type 0} → EndingAt status wanted console calm x
      → (c : CanAsk g) → misfit (subject_in c.told.begun) (start_in c.told.begun) ≡ None → console c.told.console
      → calm → (status ≡ wanted) ⊎ (status ≡ 7)
  ends {status} {wanted} console {calm} clause c = subst (EndingAt status wanted console calm) is clause c.request c.told c.meant

  pub refused : {status : ℕ} {calm : Type 0} → RefusalAt status calm x
      → (steps : ℕ) → budget_spelled g.budget ≡ Some steps → length g.source ≤ source_bytes → NoProgram g.source
      → calm → (status ≡ 3) ⊎ (status ≡ 7)
  refused {status} {calm} clause steps spelled short none =
      subst (RefusalAt status calm) is clause (rw spelled (g.source, (get-insert nat_list_cmp_total _ _ _ _, short), none))

  pub goes_on : {status : ℕ} {now : FilesState} {left : List ℕ} → GoesAt status now left x → GoesAt status now left (turn_situation g shown)
  goes_on {status} {now} {left} clause = subst (GoesAt status now left) is clause

  pub all_is_well : {status : ℕ} {now : FilesState} → TranscriptAt status now x → (c : CanAsk g) → status ≡ 0
      → (granted : List Granted) × All WentWell granted × AreReadIn IsReading granted
      × (length granted ≡ length (wishes_of_turn c granted)) × (shown ≡ transcript_of_turn c granted)
      × FilesAfter granted (wishes_of_turn c granted) (Some (turn_files g)) (Some now.files)
  all_is_well {status} {now} clause c done =
      let it = subst (TranscriptAt status now) is clause c.request c.told c.meant done in (
        it.0,
        all_went_well it.0 (counts_of (files_at_start g)) refl (sym (ap (λ (counts : KeeperCounts). counts.faults) it.5)),
        it.1,
        it.2,
        same_bytes shown (transcript_of_turn c it.0) it.3,
        it.4,
      )
