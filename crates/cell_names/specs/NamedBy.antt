-- Which cells a name names: the cell that is printed so; or, if it is cut short, all cells of a variable, of a part of
-- one, or of a frame.
use Rattle.std.specs.Prelude.{if◌then◌else◌, ◌++◌, ◌==◌, ◌||◌, ℕ, Bool, List, None, Option, Some, codes, decimal, drop}
use Rattle.std.specs.Prelude.{false, length, nat_eq, suc, true, zero}
use Rattle.std.specs.{List.starts_with, Str.bytes_eq}
use Rattle.core_program.specs.ProgramRows.{ProgramRows, name_of}
use Rattle.cell_names.specs.Names.{Scene, most_types, origin_text, selector_text, step_down, whose_text}
use Rattle.cell_names.specs.Values.{heap_number}
use Rattle.cell_names.specs.declared.names.{Origin.Origin, Root.Root, Spot.Spot, Step.Step}

-- what is left of a name after its first part, if it begins so
abbrev pub after_part : (part name : List ℕ) → Option (List ℕ)
after_part part name = if starts_with nat_eq name part then Some (drop (length part) name) else None

-- what is left after one more part, if a name goes on so
abbrev pub then_part : (part : List ℕ) → (left : Option (List ℕ)) → Option (List ℕ)
then_part part None = None
then_part part (Some name) = after_part part name

abbrev pub is_over : (name : List ℕ) → Bool
is_over name = length name == 0

-- whether nothing is left of a name
abbrev pub is_all : (left : Option (List ℕ)) → Bool
is_all None = false
is_all (Some rest) = is_over rest

-- a call of a routine, as `f#3`, and a variable of the heap before its last `^`
abbrev pub call_text : ProgramRows → (call routine : ℕ) → List ℕ
call_text p call routine = name_of p routine ++ codes "#" ++ decimal call

abbrev pub block_text : (base : ℕ) → List ℕ
block_text base = codes "^" ++ decimal (heap_number base)

abbrev pub leads_on : (go : List ℕ → Bool) → Option (List ℕ) → Bool
leads_on go None = false
leads_on go (Some rest) = go rest

abbrev pub leads_by : ProgramRows → (go : Spot → List ℕ → Bool) → (name : List ℕ) → Option Step → Bool
leads_by p go name None = false
leads_by p go name (Some s) = leads_on (go s.spot) (after_part (selector_text p s.selector) name)

-- whether what is left of a name is the first selectors on the way down to a cell: all of them, some or none. At most
-- this many steps are taken.
abbrev pub leads_within : Scene → (most : ℕ) → Spot → (name : List ℕ) → Bool
leads_within s zero at name = is_over name
leads_within s (suc most) at name =
    if is_over name then true else leads_by s.program (leads_within s most) name (step_down s at)

-- whether a name is that of all cells of a frame, as `f#3`, or of a variable of the heap before its last `^`
abbrev pub is_of_all : ProgramRows → Origin → (name : List ℕ) → Bool
is_of_all p (Origin.Heap base) name = bytes_eq (name ++ codes "^") (origin_text p (Origin.Heap base))
is_of_all p (Origin.Local call routine token) name = bytes_eq (name ++ codes ".") (whose_text p call routine)

-- whether a name is that of a cell, or that name cut before one of its selectors, before the variable of a frame, or
-- before the last `^` of a variable of the heap
unfoldable pub is_named_by : Scene → Root → (name : List ℕ) → Bool
is_named_by s r name =
    is_of_all s.program r.origin name
    || leads_on (leads_within s most_types r.spot) (after_part (origin_text s.program r.origin) name)
