-- How it is told why and where a source is refused.
use Rattle.std.specs.Prelude.{◌++◌, ℕ, List, codes, decimal}
use Rattle.code_checker.specs.declared.faults.SourceRefusal.{SourceRefusal}

-- the name of a reason for which a source is refused
abbrev pub refusal_name : SourceRefusal → List ℕ
refusal_name SourceRefusal.BadByte = codes "BadByte"
refusal_name SourceRefusal.OpenComment = codes "OpenComment"
refusal_name SourceRefusal.OpenString = codes "OpenString"
refusal_name SourceRefusal.EmptyString = codes "EmptyString"
refusal_name SourceRefusal.RealWord = codes "RealWord"
refusal_name SourceRefusal.TooLarge = codes "TooLarge"
refusal_name SourceRefusal.Joined = codes "Joined"
refusal_name SourceRefusal.NotProgram = codes "NotProgram"
refusal_name SourceRefusal.TooDeep = codes "TooDeep"
refusal_name (SourceRefusal.Rule rule) = codes "Rule"
refusal_name SourceRefusal.TooBig = codes "TooBig"

-- why a source is refused: the reason's name, and after it the number of a rule
abbrev pub refusal_text : SourceRefusal → List ℕ
refusal_text (SourceRefusal.Rule rule) = codes "Rule " ++ decimal rule
refusal_text why = refusal_name why

-- and where
abbrev pub refusal_at : SourceRefusal → (line byte : ℕ) → List ℕ
refusal_at why line byte = refusal_text why ++ codes ", line " ++ decimal line ++ codes ", byte " ++ decimal byte
