-- The text of the made program: a procedure that calls itself twice, as deep as a number says.
use Rattle.std.specs.Prelude.{◌++◌, ℕ, List, codes, decimal}

abbrev pub heading : List ℕ
heading = codes "program made;\n" ++ codes "var s: integer;\n"

-- it counts its calls in s
abbrev pub procedure_t : List ℕ
procedure_t =
    codes "procedure t(d: integer);\n" ++ codes "begin\n" ++ codes "  s := s + 1;\n"
    ++ codes "  if d > 0 then begin t(d - 1); t(d - 1) end\n" ++ codes "end;\n"

abbrev pub statements : ℕ → List ℕ
statements n =
    codes "begin\n" ++ codes "  s := 0;\n" ++ codes "  t(" ++ decimal n ++ codes ")\n" ++ codes "end.\n"

abbrev pub made_source : ℕ → List ℕ
made_source n = heading ++ procedure_t ++ statements n
