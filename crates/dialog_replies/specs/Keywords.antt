-- The words that begin a line.
use Rattle.std.specs.{Prelude.if◌then◌else◌, Prelude.ℕ, Prelude.List, Prelude.codes, Str.bytes_eq}
use Rattle.answer_book.specs.declared.entries.Judgement.TheVariants.{Right, Unknown, Wrong}
use Rattle.dialog_replies.specs.declared.keywords.Keyword.{Keyword}
use Rattle.dialog_replies.specs.declared.keywords.Keyword.TheVariants.{Alike, Back, Carry, Judge, Note, Other, Quit}
use Rattle.dialog_replies.specs.declared.keywords.Keyword.TheVariants.{Refer, Reference, Same, Save, Shared, Show}
use Rattle.dialog_replies.specs.declared.keywords.Keyword.TheVariants.{Slice, State, Trace, Tree, Trust}

-- the words on the session, its marks and its notes
abbrev pub session_keyword : List ℕ → Keyword
session_keyword word =
    if bytes_eq word (codes "tree") then Tree
    else (if bytes_eq word (codes "save") then Save
    else (if bytes_eq word (codes "note") then Note
    else (if bytes_eq word (codes "quit") then Quit else Other)))

-- these, and the words on a right program that answers
abbrev pub reference_keyword : List ℕ → Keyword
reference_keyword word =
    if bytes_eq word (codes "reference") then Reference
    else (if bytes_eq word (codes "refer") then Refer else session_keyword word)

-- these, and the words after which the line names a call
abbrev pub call_keyword : List ℕ → Keyword
call_keyword word =
    if bytes_eq word (codes "show") then Show
    else (if bytes_eq word (codes "state") then State
    else (if bytes_eq word (codes "trace") then Trace
    else (if bytes_eq word (codes "slice") then Slice
    else (if bytes_eq word (codes "alike") then Alike
    else (if bytes_eq word (codes "carry") then Carry else reference_keyword word)))))

-- all of these, and the words that judge or take back
abbrev pub keyword_of : List ℕ → Keyword
keyword_of word =
    if bytes_eq word (codes "right") then Judge Right
    else (if bytes_eq word (codes "wrong") then Judge Wrong
    else (if bytes_eq word (codes "unknown") then Judge Unknown
    else (if bytes_eq word (codes "same") then Same
    else (if bytes_eq word (codes "trust") then Trust
    else (if bytes_eq word (codes "back") then Back
    else (if bytes_eq word (codes "shared") then Shared else call_keyword word))))))
