-- The file of a name among the entries of a shelf.
use Rattle.std.proofs.Common.{◌∙◌, ◌∷◌, ◌≡◌, [], ℕ, List, None, Some, ap, cond, eqb, refl, subst, sym, true}
use Rattle.std.proofs.lemmas.{Cmp.nat_list_cmp_total, Cmp.tied_itself, Slice.Eq.bytes_eq-Decides}
use Rattle.std.specs.{Bool.Decides, Bool.one_answer, Cmp.Lexicographic.pointwise, Cmp.Lexicographic.slice_cmp, FinMap.get-empty, FinMap.get-insert}
use Rattle.std.specs.{FinMap.nat_cmp-IsAntisymmetric, FinMap.slice_cmp-IsAntisymmetric, Ordering.eq_by_cmp, Ordering.is_eq, Ordering.nat_cmp}
use Rattle.std.specs.declared.cmp.Ordering.{Ordering, TheVariants.Equal, TheVariants.Greater, TheVariants.Less}
use Rattle.edge_ports.specs.{Entries.files_of, Files.file_at, declared.shelf.ShelvedFile.ShelvedFile}

is_equal : (r : Ordering) → is_eq r ≡ true → r ≡ Equal
is_equal Less e = cc
is_equal Equal e = refl
is_equal Greater e = cc

tied_by_cmp : (q k : List ℕ) → Decides (eq_by_cmp (slice_cmp nat_cmp) q k) (k ≡ q)
tied_by_cmp q k = (
  λ e. sym (slice_cmp-IsAntisymmetric nat_cmp-IsAntisymmetric q k (is_equal (slice_cmp nat_cmp q k) e)),
  λ e. subst (λ x. eq_by_cmp (slice_cmp nat_cmp) x k ≡ true) e (ap is_eq (tied_itself nat_list_cmp_total k)),
)

-- keys tie where `==` on their bytes answers true
pub same_key : (q k : List ℕ) → eq_by_cmp (slice_cmp nat_cmp) q k ≡ pointwise eqb k q
same_key q k = one_answer (eq_by_cmp (slice_cmp nat_cmp) q k) (pointwise eqb k q) (tied_by_cmp q k) (bytes_eq-Decides k q)

pub file_at_newest : (entry : ShelvedFile) (entries : List ShelvedFile) (name : List ℕ)
    → file_at (files_of (entry ∷ entries)) name ≡ cond (pointwise eqb entry.name.items name) (Some entry.bytes.items) (file_at (files_of entries) name)
file_at_newest entry entries name =
    get-insert nat_list_cmp_total (files_of entries) entry.name.items entry.bytes.items name
    ∙ ap (λ b. cond b (Some entry.bytes.items) (file_at (files_of entries) name)) (same_key name entry.name.items)

pub file_at_none : (name : List ℕ) → file_at (files_of []) name ≡ None
file_at_none name = get-empty (slice_cmp nat_cmp) name
