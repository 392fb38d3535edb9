-- Where the keeper tells its files, and the source is no program or the session is refused: which status comes.
use Rattle.std.proofs.Common.{◌∙◌, ◌≡◌, ◌⊎◌, ℕ, Err, IsSome, List, None, Option, Some, ap, inl, inr, refl, subst, sym}
use Rattle.edge_ports.specs.{Counts.CountsFetch, Counts.KeeperCounts, Files.FileMap, declared.ports.FetchFault.FetchFault}
use Rattle.dialog_replies.specs.{Fit.misfit, declared.misfits.Misfit.Misfit}
use Rattle.ask_session.specs.{Heard.RefusedBy, Outside.Outside, declared.dialog.Ending.Ending}
use Rattle.debuggee.specs.Program.{IsProgram, NoProgram}
use Rattle.debug_cli.proofs.FilesAreTold.{AllCame, Comes, Fits, begun_comes, no_fault, no_fault_at, no_other_session, no_refusal, refused_comes, same_file}
use Rattle.debug_cli.proofs.FilesAreTold.{same_start, same_subject}
use Rattle.debug_cli.specs.{Goes.Goes, Goes.HasGone, Goes.Owes, Goes.Talks, Laws.OneRun, Outside.LeavesAlone, Outside.NoneRisen, Outside.WentOn}
use Rattle.debug_cli.specs.{Setting.MeansNoProgram, Setting.MeansNoSession, Status.code_of, declared.status.Status.Status}
use Rattle.debug_cli.specs.Meaning.{Made, Meant, Requested, Source}
use Rattle.debug_cli.specs.Named.{Begun, Checked, FileSought, IsFetchFault, IsSought, IsSource, MadeProgram, NotFetched, start_in, subject_in}

module _ (before after : Outside) (told : IsSome before.files) (well : AllCame before after) where
  -- ---- the source is no program

  module _ (r : Requested) (bytes : List ℕ) (source : IsSource (Source r) before.files bytes) (none : NoProgram bytes) where
    no_checked : Checked r before.files → ⊥
    no_checked c =
        none c.tokens c.rows
        (subst (λ (b : List ℕ). IsProgram b c.tokens c.rows) (same_file before.files r.source c.bytes bytes told c.fetched.0 source.0) c.program)

    no_talk : (e : Ending) → Talks (Some (Source r)) before after e → ⊥
    no_talk e t = no_checked t.0.run.source

    sought_not : LeavesAlone before after → (x : NotFetched r before.files) → CountsFetch (Err x.why) before.counts after.counts
        → IsSought r before.files x.file → ⊥
    sought_not alone x counts (inl is) =
        no_fault_at r before.files told before after well alone x (subst (Fits r before.files told) (sym is) (bytes, source)) counts
    sought_not alone x counts (inr (inl is)) = no_checked is.0
    sought_not alone x counts (inr (inr is)) = no_checked is.0.source

    source_refused : (s : Status) → Goes (Some (Source r)) before after s → (s ≡ Status.Screen → ⊥) → (s ≡ Status.Source) ⊎ (s ≡ Status.Memory)
    source_refused Status.Done (inl x) screen = absurd x.owed
    source_refused Status.Done (inr t) screen = absurd (no_talk Ending.Done t)
    source_refused Status.Words x screen = absurd x.owed
    source_refused Status.Source x screen = inl refl
    source_refused Status.File x screen = absurd (sought_not x.alone x.owed.0 x.owed.2 x.owed.0.sought)
    source_refused Status.Console t screen = absurd (no_talk Ending.Console t)
    source_refused Status.Screen h screen = absurd (screen refl)
    source_refused Status.Memory h screen = inr refl
    source_refused Status.Session (inl x) screen = absurd (no_checked x.owed.0.run.source)
    source_refused Status.Session (inr t) screen = absurd (no_talk Ending.Refused t)
    source_refused Status.Spent t screen = absurd (no_talk Ending.Spent t)

  module _ (number : ℕ) (bytes : List ℕ) (source : IsSource (Made number) before.files bytes) (none : NoProgram bytes) where
    no_made : MadeProgram number → ⊥
    no_made x = none x.tokens x.rows (subst (λ (b : List ℕ). IsProgram b x.tokens x.rows) (sym source) x.program)

    made_refused : (s : Status) → Goes (Some (Made number)) before after s → (s ≡ Status.Screen → ⊥) → (s ≡ Status.Source) ⊎ (s ≡ Status.Memory)
    made_refused Status.Done (inl x) screen = absurd (no_made x.owed.0)
    made_refused Status.Done (inr t) screen = absurd t
    made_refused Status.Words x screen = absurd x.owed
    made_refused Status.Source x screen = inl refl
    made_refused Status.File x screen = absurd x.owed
    made_refused Status.Console t screen = absurd t
    made_refused Status.Screen h screen = absurd (screen refl)
    made_refused Status.Memory h screen = inr refl
    made_refused Status.Session (inl x) screen = absurd x.owed
    made_refused Status.Session (inr t) screen = absurd t
    made_refused Status.Spent t screen = absurd t

  program_by : (m : Option Meant) → MeansNoProgram m before.files → (s : Status) → Goes m before after s → (s ≡ Status.Screen → ⊥)
      → (s ≡ Status.Source) ⊎ (s ≡ Status.Memory)
  program_by None means s h screen = absurd means
  program_by (Some (Source r)) (bytes, source, none) s h screen = source_refused r bytes source none s h screen
  program_by (Some (Made number)) (bytes, source, none) s h screen = made_refused number bytes source none s h screen

  -- ---- the session is refused

  module _ (r : Requested) (checked : Checked r before.files) (comes : Comes r before.files told)
      (quiet : (e : Ending) → (e ≡ Ending.Done) ⊎ (e ≡ Ending.Console) ⊎ (e ≡ Ending.Spent) → Talks (Some (Source r)) before after e → ⊥) where
    refused_so : (s : Status) → Goes (Some (Source r)) before after s → (s ≡ Status.Screen → ⊥) → (s ≡ Status.Session) ⊎ (s ≡ Status.Memory)
    refused_so Status.Done (inl x) screen = absurd x.owed
    refused_so Status.Done (inr t) screen = absurd (quiet Ending.Done (inl refl) t)
    refused_so Status.Words x screen = absurd x.owed
    refused_so Status.Source x screen = absurd (no_refusal r before.files told checked x.owed.0)
    refused_so Status.File x screen = absurd (no_fault r before.files told comes before after well x.alone x.owed.0 x.owed.2)
    refused_so Status.Console t screen = absurd (quiet Ending.Console (inr (inl refl)) t)
    refused_so Status.Screen h screen = absurd (screen refl)
    refused_so Status.Memory h screen = inr refl
    refused_so Status.Session h screen = inl refl
    refused_so Status.Spent t screen = absurd (quiet Ending.Spent (inr (inr refl)) t)

  unfit_talks : OneRun → (r : Requested) (b : Begun r before.files) → IsSome (misfit (subject_in b) (start_in b)) → (e : Ending)
      → (e ≡ Ending.Done) ⊎ (e ≡ Ending.Console) ⊎ (e ≡ Ending.Spent) → Talks (Some (Source r)) before after e → ⊥
  unfit_talks one r b unfit e which (a, w, whole) = by which w.refused
    where
      same : misfit (subject_in a) (start_in a) ≡ misfit (subject_in b) (start_in b)
      same = λ i. misfit (same_subject r before.files told one a b i) (same_start r before.files told one a b i)

      not_none : misfit (subject_in a) (start_in a) ≡ None → ⊥
      not_none e = let some : IsSome {T = Misfit} None = subst IsSome (sym same ∙ e) unfit in let x : ⊥ = cc in x

      by : (e ≡ Ending.Done) ⊎ (e ≡ Ending.Console) ⊎ (e ≡ Ending.Spent) → RefusedBy e (misfit (subject_in a) (start_in a)) → ⊥
      by (inl is) refused = not_none (subst (λ (e : Ending). RefusedBy e (misfit (subject_in a) (start_in a))) is refused)
      by (inr (inl is)) refused = not_none (subst (λ (e : Ending). RefusedBy e (misfit (subject_in a) (start_in a))) is refused)
      by (inr (inr is)) refused = not_none (subst (λ (e : Ending). RefusedBy e (misfit (subject_in a) (start_in a))) is refused)

  session_by : OneRun → (m : Option Meant) → MeansNoSession m before.files → (s : Status) → Goes m before after s → (s ≡ Status.Screen → ⊥)
      → (s ≡ Status.Session) ⊎ (s ≡ Status.Memory)
  session_by one None means s h screen = absurd means
  session_by one (Some (Made number)) means s h screen = absurd means
  session_by one (Some (Source r)) (inl x) s h screen =
      refused_so r x.run.source (refused_comes r before.files told x) (λ e which t. no_other_session r before.files told t.0 x) s h screen
  session_by one (Some (Source r)) (inr (b, unfit)) s h screen =
      refused_so r b.run.source (begun_comes r before.files told b) (unfit_talks one r b unfit) s h screen

-- ---- by the counts, where files need not be told

abbrev Expected : Status → Type 0
Expected s = (code_of s ≡ 0) ⊎ (code_of s ≡ 3) ⊎ (code_of s ≡ 7) ⊎ (code_of s ≡ 8) ⊎ (code_of s ≡ 9)

module _ (before after : Outside) where
  not_fetched : NoneRisen before.counts after.counts → (why : FetchFault) → CountsFetch (Err why) before.counts after.counts → (why ≡ FetchFault.Memory → ⊥) → ⊥
  not_fetched none FetchFault.Absent counts other = none.misses (ap (λ (c : KeeperCounts). c.misses) counts)
  not_fetched none FetchFault.Failed counts other = none.faults (ap (λ (c : KeeperCounts). c.faults) counts)
  not_fetched none (FetchFault.TooLong limit) counts other = none.overs (ap (λ (c : KeeperCounts). c.overs) counts)
  not_fetched none FetchFault.Memory counts other = other refl

  -- a fetch stores nothing
  none_stored : (why : FetchFault) → CountsFetch (Err why) before.counts after.counts → after.counts.stores ≡ before.counts.stores
  none_stored FetchFault.Absent counts = ap (λ (c : KeeperCounts). c.stores) counts
  none_stored FetchFault.Failed counts = ap (λ (c : KeeperCounts). c.stores) counts
  none_stored (FetchFault.TooLong limit) counts = ap (λ (c : KeeperCounts). c.stores) counts
  none_stored FetchFault.Memory counts = ap (λ (c : KeeperCounts). c.stores) counts

  no_memory : (why : FetchFault) (file : FileSought) (files : Option FileMap) → IsFetchFault why file files → why ≡ FetchFault.Memory → ⊥
  no_memory why file files cause is = subst (λ (w : FetchFault). IsFetchFault w file files) is cause

  -- no count of the keeper rose, or the session went on past the fetches of all files that the words name
  abbrev pub Quiet : Type 0
  Quiet = NoneRisen before.counts after.counts ⊎ WentOn before.counts after.counts before.streams.left after.streams.left

  file_not : (m : Option Meant) → Quiet → LeavesAlone before after → (text : List ℕ) → Owes m before after Status.File text → ⊥
  file_not None quiet alone text o = o
  file_not (Some (Made number)) quiet alone text o = o
  file_not (Some (Source r)) (inl none) alone text o = not_fetched none o.0.why o.2 (no_memory o.0.why o.0.file before.files o.0.cause)
  file_not (Some (Source r)) (inr (inl stored)) alone text o = stored (none_stored o.0.why o.2)
  file_not (Some (Source r)) (inr (inr taken)) alone text o = taken alone.left

  words_not : (m : Option Meant) → IsSome m → (text : List ℕ) → Owes m before after Status.Words text → ⊥
  words_not None some text o = let x : ⊥ = cc in x
  words_not (Some (Made number)) some text o = o
  words_not (Some (Source r)) some text o = o

  no_fault_by : (m : Option Meant) → IsSome m → Quiet → (s : Status) → Goes m before after s
      → (s ≡ Status.Console → ⊥) → (s ≡ Status.Screen → ⊥) → Expected s
  no_fault_by m some quiet Status.Done h console screen = inl refl
  no_fault_by m some quiet Status.Words x console screen = absurd (words_not m some x.text x.owed)
  no_fault_by m some quiet Status.Source h console screen = inr (inl refl)
  no_fault_by m some quiet Status.File x console screen = absurd (file_not m quiet x.alone x.text x.owed)
  no_fault_by m some quiet Status.Console h console screen = absurd (console refl)
  no_fault_by m some quiet Status.Screen h console screen = absurd (screen refl)
  no_fault_by m some quiet Status.Memory h console screen = inr (inr (inl refl))
  no_fault_by m some quiet Status.Session h console screen = inr (inr (inr (inl refl)))
  no_fault_by m some quiet Status.Spent h console screen = inr (inr (inr (inr refl)))

  no_words_by : (s : Status) → Goes None before after s → (code_of s ≡ 2) ⊎ (code_of s ≡ 6) ⊎ (code_of s ≡ 7)
  no_words_by Status.Done (inl x) = absurd x.owed
  no_words_by Status.Done (inr t) = absurd t
  no_words_by Status.Words x = inl refl
  no_words_by Status.Source x = absurd x.owed
  no_words_by Status.File x = absurd x.owed
  no_words_by Status.Console t = absurd t
  no_words_by Status.Screen h = inr (inl refl)
  no_words_by Status.Memory h = inr (inr refl)
  no_words_by Status.Session (inl x) = absurd x.owed
  no_words_by Status.Session (inr t) = absurd t
  no_words_by Status.Spent t = absurd t

-- ---- all of it, by what the command did

module _ {m : Option Meant} {before after : Outside} {s : Status} (x : HasGone m before after s) where
  pub program_refused : IsSome before.files → AllCame before after → MeansNoProgram m before.files → (s ≡ Status.Screen → ⊥)
      → (s ≡ Status.Source) ⊎ (s ≡ Status.Memory)
  program_refused told well means screen = program_by before after told well m means s x.goes screen

  pub session_refused : OneRun → IsSome before.files → AllCame before after → MeansNoSession m before.files
      → (s ≡ Status.Screen → ⊥) → (s ≡ Status.Session) ⊎ (s ≡ Status.Memory)
  session_refused one told well means screen = session_by before after told well one m means s x.goes screen

  pub no_fault_status : IsSome m → Quiet before after → (s ≡ Status.Console → ⊥) → (s ≡ Status.Screen → ⊥) → Expected s
  no_fault_status some quiet console screen = no_fault_by before after m some quiet s x.goes console screen

  pub no_words_status : m ≡ None → (code_of s ≡ 2) ⊎ (code_of s ≡ 6) ⊎ (code_of s ≡ 7)
  no_words_status none = no_words_by before after s (subst (λ (m : Option Meant). Goes m before after s) none x.goes)
