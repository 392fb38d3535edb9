-- The line that refuses a saved session.
use Rattle.std.specs.Prelude.{◌++◌, ℕ, List, codes, decimal}
use Rattle.hex.specs.Hex.{encode_lower}
use Rattle.dialog_replies.specs.declared.misfits.Misfit.{Misfit}
use Rattle.dialog_replies.specs.declared.misfits.Misfit.TheVariants.{Budget, Call, Input, Routine, Source}

-- what is named has one value in the run and another one in the session
abbrev pub differs_line : (name run saved : List ℕ) → List ℕ
differs_line name run saved =
    codes "session: " ++ name ++ codes " is " ++ run ++ codes " but the session has " ++ saved ++ codes "\n"

-- the entry of this number names what there is not
abbrev pub names_line : (entry : ℕ) (kind : List ℕ) (named : ℕ) → List ℕ
names_line entry kind named =
    codes "session: entry " ++ decimal entry ++ codes " names " ++ kind ++ codes " " ++ decimal named ++ codes "\n"

-- a digest is written in hexadecimal digits of lower case
abbrev pub misfit_line : Misfit → List ℕ
misfit_line (Source run saved) = differs_line (codes "source") (encode_lower run) (encode_lower saved)
misfit_line (Input run saved) = differs_line (codes "input") (encode_lower run) (encode_lower saved)
misfit_line (Budget run saved) = differs_line (codes "budget") (decimal run) (decimal saved)
misfit_line (Call entry call) = names_line entry (codes "call") call
misfit_line (Routine entry routine) = names_line entry (codes "routine") routine
