-- Where constants and type denoters begin.
use Rattle.std.specs.Prelude.{ℕ, None, Option, Some}
use Rattle.pas_tree.specs.DenoterTrees.{ArrayTree, DenoterTree, StructureTree}
use Rattle.pas_tree.specs.DenoterTrees as tree
use Rattle.pas_tree.specs.OperatorPlaces.{sign_token}
use Rattle.pas_tree.specs.declared.{constants.Constant.Constant, operators.Sign.Sign}

-- the token of the sign, or else this one
abbrev pub first_of_signed : Option Sign → ℕ → ℕ
first_of_signed None token = token
first_of_signed (Some s) token = sign_token s

abbrev pub first_of_constant : Constant → ℕ
first_of_constant (Constant.Number s n) = first_of_signed s n
first_of_constant (Constant.Name s n) = first_of_signed s n
first_of_constant (Constant.Text n) = n

abbrev pub array_word : ArrayTree → ℕ
array_word (tree.index_types word left first others right of_word component) = word

-- the word `packed` aside
abbrev pub first_of_structure : StructureTree → ℕ
first_of_structure (tree.an_array a) = array_word a
first_of_structure (tree.a_record word fields last) = word
first_of_structure (tree.a_set_type word of_word base) = word

abbrev pub first_of_denoter : DenoterTree → ℕ
first_of_denoter (tree.a_type_name token) = token
first_of_denoter (tree.an_enumeration e) = e.left
first_of_denoter (tree.a_subrange first dots last) = first_of_constant first
first_of_denoter (tree.a_pointer caret name) = caret
first_of_denoter (tree.a_structure (Some packed) s) = packed
first_of_denoter (tree.a_structure None s) = first_of_structure s
