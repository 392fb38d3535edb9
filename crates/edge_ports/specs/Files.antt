-- The files of a keeper, where it tells them.
use Rattle.std.specs.Prelude.{◌%◌, ◌<◌, ◌≡◌, ◌≢◌, ◌≤◌, ◌⊎◌, [], ℕ, IfSome, IsSomeAnd, List, None, Option, Some, length}
use Rattle.std.specs.{Prelude.take, Cmp.Lexicographic.slice_cmp, Option.option_map, Ordering.nat_cmp}
use Rattle.std.specs.FinMap.{FinMap, get, insert}

-- a finite map from the bytes of names to the bytes of files
abbrev pub FileMap : Type 0
FileMap = FinMap (slice_cmp nat_cmp) (List ℕ)

-- the file of this name, if there is one
abbrev pub file_at : FileMap → List ℕ → Option (List ℕ)
file_at files name = get files name

-- the file of this name has these bytes, where files are told
abbrev pub HoldsFile : Option FileMap → List ℕ → List ℕ → Type 0
HoldsFile files name bytes = IfSome files (λ map. file_at map name ≡ Some bytes)

-- there is no file of this name, where files are told
abbrev pub LacksFile : Option FileMap → List ℕ → Type 0
LacksFile files name = IfSome files (λ map. file_at map name ≡ None)

-- the file of this name has more than `limit` bytes, where files are told
abbrev pub HoldsLonger : Option FileMap → List ℕ → ℕ → Type 0
HoldsLonger files name limit = IfSome files (λ map. IsSomeAnd (file_at map name) (λ bytes. limit < length bytes))

-- the file of this name was set to these bytes and all others stay, where files are told
abbrev pub StoresFile : List ℕ → List ℕ → (before now : Option FileMap) → Type 0
StoresFile name bytes before now = now ≡ option_map (λ map. insert map name bytes) before

-- what is told of the file of this name, where files are told: its bytes, or that there is none
abbrev pub told_at : List ℕ → Option FileMap → Option (Option (List ℕ))
told_at name files = option_map (λ map. file_at map name) files

-- the files of all other names stay, where files are told; of this name nothing is known
abbrev pub KeepsOthers : List ℕ → (before now : Option FileMap) → Type 0
KeepsOthers name before now = (other : List ℕ) → other ≢ name → told_at other now ≡ told_at other before

-- a file with the old bytes may be replaced by one with the new bytes: it is empty, or both begin with the same ten
abbrev pub MayReplace : (old new : List ℕ) → Type 0
MayReplace old new = (old ≡ []) ⊎ ((10 ≤ length old) × (take 10 new ≡ take 10 old))

-- the bits of a mode that say who may read, write and run a file: the last nine
abbrev pub access_mode : ℕ → ℕ
access_mode mode = mode % 512
