-- Further files, as they are passed: their names and bytes, one after the other, and how many bytes each has.
use Rattle.std.specs.Prelude.{if◌then◌else◌, ◌++◌, ◌∷◌, [], ℕ, List, None, Option, Some, drop, length, nat_le, take}
use Rattle.std.specs.{Option.option_and_then, Option.option_map, Str.is_utf8}
use Rattle.web_page.specs.Given.{FileGiven}
use Rattle.web_exports.specs.declared.FileSizes.{FileSizes}

-- so many bytes, and those after them, if there are so many
abbrev pub cut_at : (count : ℕ) → List ℕ → Option (List ℕ × List ℕ)
cut_at count bytes = if nat_le count (length bytes) then Some (take count bytes, drop count bytes) else None

-- the text that bytes are, if they are one
abbrev pub text_in : List ℕ → Option (List ℕ)
text_in bytes = if is_utf8 bytes then Some bytes else None

-- the file at the front, and the bytes after it
abbrev pub first_file : FileSizes → List ℕ → Option (FileGiven × List ℕ)
first_file sizes bytes =
    option_and_then (λ name. option_and_then (λ file.
    option_map (λ text. (record { name = text; bytes = file.0 }, file.1)) (text_in name.0))
    (cut_at sizes.bytes name.1)) (cut_at sizes.name bytes)

-- these files and all that are passed, where they fill the bytes
abbrev pub files_in : List FileGiven → List FileSizes → List ℕ → Option (List FileGiven)
files_in files [] [] = Some files
files_in files [] (byte ∷ bytes) = None
files_in files (sizes ∷ more) bytes =
    option_and_then (λ it. files_in (files ++ it.0 ∷ []) more it.1) (first_file sizes bytes)
