-- Where the keeper tells its files: what the words name is one program with its input and its session, and all of it is fetched.
use Rattle.std.proofs.Common.{◌<◌, ◌∙◌, ◌≡◌, [], ℕ, Err, IsSome, IsSomeAnd, List, None, Ok, Option, Result, Some, ap, arith, inl, inr, length, subst, sym}
use Rattle.sha2.specs.Sha256.{sha256}
use Rattle.edge_ports.specs.{Counts.CountsFetch, Counts.KeeperCounts, declared.ports.FetchFault.FetchFault}
use Rattle.edge_ports.specs.Files.{FileMap, HoldsFile, HoldsLonger, LacksFile}
use Rattle.session_file.specs.{Reading.session_of, declared.session.LoadFault.LoadFault, declared.session.Session.Session}
use Rattle.made_program.specs.{Lines.made_lines, Source.made_source}
use Rattle.ask_session.specs.Outside.{Outside}
use Rattle.debuggee.specs.{Execution.Execution, Execution.execution_of, Limits.most_steps, Program.IsProgram, Subjects.subject_of}
use Rattle.debug_cli.specs.{Laws.OneRun, Limits.session_bytes, Meaning.Requested, Meaning.Source, Outside.LeavesAlone, Outside.NoFetchFailed}
use Rattle.debug_cli.specs.Named.{Begun, Checked, FileSought, IsFetchFault, IsFetched, IsInput, IsSaved, IsSought, MadeProgram, NotFetched, SessionRefused}
use Rattle.debug_cli.specs.Named.{SourceRefused, Supplied, made_text, start_in, subject_in}

-- no fetch of a file that the words name failed
abbrev pub AllCame : (before after : Outside) → Type 0
AllCame before after = NoFetchFailed before.counts after.counts before.streams.left after.streams.left

same_some : {A : Type 0} {a b : A} → Some a ≡ Some b → a ≡ b
same_some e = cc

-- one file of each name
pub same_file : (files : Option FileMap) (name a b : List ℕ) → IsSome files → HoldsFile files name a → HoldsFile files name b → a ≡ b
same_file None name a b told x y = absurd (let z : ⊥ = cc in z)
same_file (Some map) name a b told x y = same_some (sym x ∙ y)

module _ (r : Requested) (files : Option FileMap) (told : IsSome files) where
  same_source : (a b : Checked r files) → a.bytes ≡ b.bytes
  same_source a b = same_file files r.source a.bytes b.bytes told a.fetched.0 b.fetched.0

  same_input : (name : Option (List ℕ)) (a b : List ℕ) → IsInput files name a → IsInput files name b → a ≡ b
  same_input None a b x y = x ∙ sym y
  same_input (Some name) a b x y = same_file files name a b told x.0 y.0

  same_loaded : (a b : Session) → ◌≡◌ {A = Result Session LoadFault} (Ok a) (Ok b) → a ≡ b
  same_loaded a b e = cc

  same_saved : (name : Option (List ℕ)) (a b : Option Session) → IsSaved files name a → IsSaved files name b → a ≡ b
  same_saved None a b x y = x ∙ sym y
  same_saved (Some name) None b x y = absurd x
  same_saved (Some name) (Some a) None x y = absurd y
  same_saved (Some name) (Some a) (Some b) x y =
      ap Some (same_loaded a b (sym x.2 ∙ ap session_of (same_file files name x.0 y.0 told x.1.0 y.1.0) ∙ y.2))

  module _ (one : OneRun) (a b : Begun r files) where
    same_bytes : a.run.source.bytes ≡ b.run.source.bytes
    same_bytes = same_source a.run.source b.run.source

    same_given : a.run.input ≡ b.run.input
    same_given = same_input r.input a.run.input b.run.input a.run.is_input b.run.is_input

    same_run : execution_of a.run.source.tokens a.run.source.rows (record { input = a.run.input; budget = r.budget })
        ≡ execution_of b.run.source.tokens b.run.source.rows (record { input = a.run.input; budget = r.budget })
    same_run =
        let x = a.run.source in
        let y = b.run.source in
        let program = subst (λ (bytes : List ℕ). IsProgram bytes x.tokens x.rows) same_bytes x.program in
        one y.bytes x.tokens y.tokens x.rows y.rows program y.program (record { input = a.run.input; budget = r.budget })

    pub same_rows : a.run.source.rows ≡ b.run.source.rows
    same_rows = ap (λ (e : Execution). e.recorded.program) same_run

    pub same_subject : subject_in a ≡ subject_in b
    same_subject = ap subject_of (same_run
        ∙ ap (λ (input : List ℕ). execution_of b.run.source.tokens b.run.source.rows (record { input = input; budget = r.budget })) same_given)

    pub same_start : start_in a ≡ start_in b
    same_start =
        let saved = same_saved r.load a.saved b.saved a.is_saved b.is_saved in
        λ i. record { source = sha256 (same_bytes i); input = sha256 (same_given i); budget = r.budget; saved = saved i }

  -- ---- what can't be

  -- a program is not refused
  pub no_refusal : (c : Checked r files) → SourceRefused (Source r) files → ⊥
  no_refusal c x =
      x.none c.tokens c.rows
      (subst (λ (bytes : List ℕ). IsProgram bytes c.tokens c.rows) (same_file files r.source c.bytes x.bytes told c.fetched.0 x.source.0) c.program)

  -- a session is loaded
  pub no_other_session : (b : Begun r files) → SessionRefused r files → ⊥
  no_other_session b x = by b.saved (subst (λ (o : Option (List ℕ)). IsSaved files o b.saved) x.named b.is_saved)
    where
      by : (saved : Option Session) → IsSaved files (Some x.name) saved → ⊥
      by None is = is
      by (Some session) is =
          let same : ◌≡◌ {A = Result Session LoadFault} (Ok session) (Err x.why) =
          sym is.2 ∙ ap session_of (same_file files x.name is.0 x.bytes told is.1.0 x.fetched.0) ∙ x.refused in
          let y : ⊥ = cc in y

  -- ---- what is sought is fetched

  -- the files that are sought are these
  abbrev pub Comes : Type 0
  Comes = (file : FileSought) → IsSought r files file → (bytes : List ℕ) × IsFetched files file.name file.limit bytes

  abbrev pub Fits : FileSought → Type 0
  Fits file = (bytes : List ℕ) × IsFetched files file.name file.limit bytes

  limited : (file : FileSought) (limit : ℕ) (bytes : List ℕ) → file.limit ≡ limit → IsFetched files file.name limit bytes → Fits file
  limited file limit bytes is f = (bytes, subst (λ (n : ℕ). IsFetched files file.name n bytes) (sym is) f)

  supplied_comes : (s : Supplied r files) → ((name : List ℕ) → r.load ≡ Some name → (bytes : List ℕ) × IsFetched files name session_bytes bytes) → Comes
  supplied_comes s load file (inl is) =
      subst Fits (sym is) (s.source.bytes, s.source.fetched)
  supplied_comes s load file (inr (inl is)) =
      limited file _ s.input is.2 (subst (λ (o : Option (List ℕ)). IsInput files o s.input) is.1 s.is_input)
  supplied_comes s load file (inr (inr is)) = let f = load file.name is.1 in limited file _ f.0 is.2 f.1

  pub begun_comes : (b : Begun r files) → Comes
  begun_comes b = supplied_comes b.run (λ name is. by name b.saved (subst (λ (o : Option (List ℕ)). IsSaved files o b.saved) is b.is_saved))
    where
      by : (name : List ℕ) (saved : Option Session) → IsSaved files (Some name) saved → (bytes : List ℕ) × IsFetched files name session_bytes bytes
      by name None is = absurd is
      by name (Some session) is = (is.0, is.1)

  pub refused_comes : (x : SessionRefused r files) → Comes
  refused_comes x =
      supplied_comes x.run (λ name is. (x.bytes, subst (λ (n : List ℕ). IsFetched files n session_bytes x.bytes) (same_some (sym x.named ∙ is)) x.fetched))

  no_lack : (name bytes : List ℕ) (limit : ℕ) → IsFetched files name limit bytes → LacksFile files name → ⊥
  no_lack name bytes limit f lacks = by files told f.0 lacks
    where
      by : (files : Option FileMap) → IsSome files → HoldsFile files name bytes → LacksFile files name → ⊥
      by None some x y = let z : ⊥ = cc in z
      by (Some map) some x y = let same : ◌≡◌ {A = Option (List ℕ)} None (Some bytes) = sym y ∙ x in let z : ⊥ = cc in z

  no_longer : (name bytes : List ℕ) (limit : ℕ) → IsFetched files name limit bytes → HoldsLonger files name limit → ⊥
  no_longer name bytes limit f longer = by files told f.0 longer
    where
      by : (files : Option FileMap) → IsSome files → HoldsFile files name bytes → HoldsLonger files name limit → ⊥
      by None some x y = let z : ⊥ = cc in z
      by (Some map) some x y =
          let more : IsSomeAnd (Some bytes) (λ b. limit < length b) = subst (λ (o : Option (List ℕ)). IsSomeAnd o (λ b. limit < length b)) x y in
          let lt : limit < length bytes = more in omega (arith, lt, f.1)

  -- no fetch failed, so a file that is there was fetched
  pub no_fault_at : (before after : Outside) → AllCame before after → LeavesAlone before after → (x : NotFetched r files) → Fits x.file
      → CountsFetch (Err x.why) before.counts after.counts → ⊥
  no_fault_at before after well alone x f counts = by x.why x.cause counts
    where
      failed : AllCame before after → CountsFetch (Err FetchFault.Failed) before.counts after.counts → ⊥
      failed (inl stayed) counts = stayed (ap (λ (c : KeeperCounts). c.faults) counts)
      failed (inr (inl stored)) counts = stored (ap (λ (c : KeeperCounts). c.stores) counts)
      failed (inr (inr taken)) counts = taken alone.left

      by : (why : FetchFault) → IsFetchFault why x.file files → CountsFetch (Err why) before.counts after.counts → ⊥
      by FetchFault.Absent cause counts = no_lack x.file.name f.0 x.file.limit f.1 cause
      by FetchFault.Failed cause counts = failed well counts
      by (FetchFault.TooLong limit) cause counts = no_longer x.file.name f.0 x.file.limit f.1 cause
      by FetchFault.Memory cause counts = cause

  pub no_fault : Comes → (before after : Outside) → AllCame before after → LeavesAlone before after → (x : NotFetched r files)
      → CountsFetch (Err x.why) before.counts after.counts → ⊥
  no_fault comes before after well alone x counts = no_fault_at before after well alone x (comes x.file x.sought) counts

-- the lines of a made program
pub same_made : OneRun → (number : ℕ) (a b : MadeProgram number) → made_text a ≡ made_text b
same_made one number a b =
    ap (λ (h : Execution). made_lines (subject_of h))
    (one (made_source number) a.tokens b.tokens a.rows b.rows a.program b.program (record { input = []; budget = most_steps }))
