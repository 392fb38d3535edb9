-- What the code keeps of a heading.
use Rattle.core_program.specs.declared.headings.Signature.{Signature}
use Rattle.reference_oracle.specs.declared.headings.Parts.{Parts}

-- as the tables say it
abbrev pub signature_of : Parts → Signature
signature_of p = record { sections = p.sections; result = p.result }
