-- What is refused is what is owed at its status.
use Rattle.std.proofs.Common.{◌≡◌, ◌⊎◌, ℕ, Bor, Err, List, None, Ok, Option, Result, Some, inl, inr, refl, subst, sym}
use Rattle.edge_ports.specs.{Counts.CountsFetch, Files.FileMap, Files.HoldsLonger, Files.LacksFile, declared.ports.FetchFault.FetchFault}
use Rattle.code_checker.specs.declared.faults.SourceFault.{SourceFault}
use Rattle.session_file.specs.{Reading.session_of, declared.session.LoadFault.LoadFault, declared.session.Session.Session}
use Rattle.ask_session.specs.Outside.{Outside}
use Rattle.debuggee.specs.Program.{IsRefused}
use Rattle.debug_cli.specs.{Goes.Owes, Limits.session_bytes, Meaning.Meant, Meaning.Requested, Meaning.Source, Refusals.IsRefusal, Refusals.file_told}
use Rattle.debug_cli.specs.{Refusals.session_told, Texts.file_line, Texts.session_line, declared.refusals.Refusal.Refusal, declared.status.Status.Status}
use Rattle.debug_cli.specs.Named.{FileSought, IsFetchFault, IsFetched, IsSought, IsSource, Supplied}

same_some : {A : Type 0} {a b : A} → Some a ≡ Some b → b ≡ a
same_some e = cc

none_some : {A : Type 0} {a : A} → None ≡ Some a → ⊥
none_some e = let x : ⊥ = cc in x

module _ {m : Meant} {before : Outside} {why : Refusal} where
  -- what comes first changes nothing outside
  pub refused_later : {middle after : Outside} → middle ≡ before → IsRefusal m middle after why → IsRefusal m before after why
  refused_later {middle} {after} same is = subst (λ (x : Outside). IsRefusal m x after why) same is

  pub refused_here : {after : Outside} → after ≡ before → IsRefusal m before before why → IsRefusal m before after why
  refused_here {after} same is = subst (λ (x : Outside). IsRefusal m before x why) (sym same) is

pub memory_refused : (m : Meant) (x : Outside) → IsRefusal m x x Refusal.Memory
memory_refused m x = record { owed = λ text e. absurd (none_some e); counts = inl refl; files = refl }

-- a source that is no program
pub source_refused : (m : Meant) (x : Outside) (bytes : List ℕ) → IsSource m x.files bytes → (why : SourceFault) → IsRefused bytes why
    → IsRefusal m x x (Refusal.Source why)
source_refused m x bytes source (SourceFault.Refused why line byte) is = record {
  owed = λ text e. (
    record { bytes = bytes; source = source; none = is.0; why = why; line = line; byte = byte; place = is.1 },
    same_some e,
    refl,
  );
  counts = inl refl;
  files = refl;
}
source_refused m x bytes source SourceFault.Memory is = record { owed = λ text e. absurd (none_some e); counts = inl refl; files = refl }

-- what a fetch says of the fault that it answers
pub record Tells (why : FetchFault) (file : FileSought) (files : Option FileMap) : Type 0 where
  pub absent : why ≡ FetchFault.Absent → LacksFile files file.name
  pub longer : (bound : ℕ) → why ≡ FetchFault.TooLong bound → HoldsLonger files file.name file.limit

-- a file that was not fetched
module _ (r : Requested) (before after : Outside) (file : FileSought) (sought : IsSought r before.files file) where
  owes_file : (why : FetchFault) → IsFetchFault why file before.files → CountsFetch (Err why) before.counts after.counts → (text : List ℕ)
      → Some (file_line why file.name) ≡ Some text → Owes (Some (Source r)) before after Status.File text
  owes_file why cause counts text e = (record { file = file; sought = sought; why = why; cause = cause }, same_some e, counts)

  file_owed : (why : FetchFault) → Tells why file before.files → CountsFetch (Err why) before.counts after.counts → (text : List ℕ)
      → file_told why file.name ≡ Some text → Owes (Some (Source r)) before after Status.File text
  file_owed FetchFault.Absent tells counts text e = owes_file FetchFault.Absent (tells.absent refl) counts text e
  file_owed FetchFault.Failed tells counts text e = owes_file FetchFault.Failed tt counts text e
  file_owed (FetchFault.TooLong bound) tells counts text e = owes_file (FetchFault.TooLong bound) (tells.longer bound refl) counts text e
  file_owed FetchFault.Memory tells counts text e = absurd (none_some e)

pub file_refused : (r : Requested) {before after : Outside} (name : Bor (List ℕ)) (limit : ℕ)
    → IsSought r before.files (record { name = name.now; limit = limit }) → (why : FetchFault)
    → Tells why (record { name = name.now; limit = limit }) before.files → CountsFetch (Err why) before.counts after.counts
    → after.files ≡ before.files → IsRefusal (Source r) before after (Refusal.File name why)
file_refused r {before} {after} name limit sought why tells counts files = record {
  owed = file_owed r before after (record { name = name.now; limit = limit }) sought why tells counts;
  counts = inr (why, counts);
  files = files;
}

-- ---- a file that is a session, or is none

pub loaded : (bytes : List ℕ) (s : Session) → (◌≡◌ {A = Result Session LoadFault} (Ok s) (Err LoadFault.Memory)) ⊎ (Ok s ≡ session_of bytes)
    → session_of bytes ≡ Ok s
loaded bytes s (inl e) = absurd (let x : ⊥ = cc in x)
loaded bytes s (inr e) = sym e

not_loaded : (bytes : List ℕ) (why : LoadFault) → (◌≡◌ {A = Result Session LoadFault} (Err why) (Err LoadFault.Memory)) ⊎ (Err why ≡ session_of bytes)
    → (why ≡ LoadFault.Memory → ⊥) → session_of bytes ≡ Err why
not_loaded bytes why (inl e) other = absurd (other (let x : why ≡ LoadFault.Memory = cc in x))
not_loaded bytes why (inr e) other = sym e

module _ (r : Requested) (x : Outside) (run : Supplied r x.files) (name : List ℕ) (named : r.load ≡ Some name) (bytes : List ℕ)
    (fetched : IsFetched x.files name session_bytes bytes) where
  abbrev Answers : LoadFault → Type 0
  Answers why = (◌≡◌ {A = Result Session LoadFault} (Err why) (Err LoadFault.Memory)) ⊎ (Err why ≡ session_of bytes)

  owes_session : (why : LoadFault) → Answers why → (why ≡ LoadFault.Memory → ⊥) → (text : List ℕ) → Some (session_line why) ≡ Some text
      → Owes (Some (Source r)) x x Status.Session text
  owes_session why answer other text e = (
    record { run = run; name = name; named = named; bytes = bytes; fetched = fetched; why = why; refused = not_loaded bytes why answer other },
    same_some e,
    refl,
  )

  session_owed : (why : LoadFault) → Answers why → (text : List ℕ) → session_told why ≡ Some text → Owes (Some (Source r)) x x Status.Session text
  session_owed LoadFault.NotJson answer text e = owes_session LoadFault.NotJson answer (λ z. let y : ⊥ = cc in y) text e
  session_owed (LoadFault.BadShape field) answer text e = owes_session (LoadFault.BadShape field) answer (λ z. let y : ⊥ = cc in y) text e
  session_owed (LoadFault.BadVersion version) answer text e = owes_session (LoadFault.BadVersion version) answer (λ z. let y : ⊥ = cc in y) text e
  session_owed LoadFault.Memory answer text e = absurd (none_some e)

  pub session_refused : (why : LoadFault) → Answers why → IsRefusal (Source r) x x (Refusal.Session why)
  session_refused why answer = record { owed = session_owed why answer; counts = inl refl; files = refl }
