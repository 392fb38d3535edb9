-- What a mark says.
use Rattle.std.specs.Prelude.{Bool, false, true}
use Rattle.call_tree.specs.declared.records.Mark.{Mark}
use Rattle.call_tree.specs.declared.records.Mark.TheVariants.{Right, Trusted, Unjudged, Unknown}

-- whether a call is right or trusted, so that nothing below it need be searched
abbrev pub is_clear : Mark → Bool
is_clear Right = true
is_clear Trusted = true
is_clear _ = false

-- whether nothing is said of a call
abbrev pub is_unjudged : Mark → Bool
is_unjudged Unjudged = true
is_unjudged _ = false

-- whether the one who was asked could not tell
abbrev pub is_unknown : Mark → Bool
is_unknown Unknown = true
is_unknown _ = false
