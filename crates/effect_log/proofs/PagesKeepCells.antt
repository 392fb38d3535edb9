-- A page that is made and a cell that is set leave all other cells as they were.
use Rattle.std.proofs.Common.{◌%◌, ◌++◌, ◌+◌, ◌/◌, ◌<◌, ◌==◌, ◌∙◌, ◌∷◌, ◌≡◌, ◌≢◌, ◌⊎◌, [], ℕ, List, None, Option, Some, ap, arith, cond, get_or, inl, inr}
use Rattle.std.proofs.Common.{length, refl, set, suc, sym, zero}
use Rattle.std.proofs.{Math.ListN.get_or-append, lemmas.Bool.Decides.eqb_tells, lemmas.Bool.Decides.leb_tells}
use Rattle.std.proofs.lemmas.List.{get_or-append-add, get_or-set_other, get_or-set_same, length-set}
use Rattle.effect_log.specs.{Paging.IsPaged, Paging.blank_cell, Paging.cell_in, declared.cells.Cell.Cell}

option_cases : {X : Type 0} (o : Option X) → ((x : X) × (o ≡ Some x)) ⊎ (o ≡ None)
option_cases (Some x) = inl (x, refl)
option_cases None = inr refl

some_is : {X : Type 0} (x y : X) → Some x ≡ Some y → x ≡ y
some_is x y e = cc

pub any_default : {X : Type 0} (xs : List X) (i : ℕ) (x d : X) → i < length xs → get_or xs i x ≡ get_or xs i d
any_default [] i x d l = absurd (omega arith)
any_default (y ∷ ys) zero x d l = refl
any_default (y ∷ ys) (suc i) x d l = any_default ys i x d (omega arith)

module _ (starts : List (Option ℕ)) (cells : List Cell) (paged : IsPaged starts cells) where
  -- setting a cell
  module _ (addr start : ℕ) (cell : Cell) (here : get_or starts (addr / 32) None ≡ Some start) where
    abbrev place : ℕ
    place = start + addr % 32

    inside : place < length cells
    inside = let from = paged.inside (addr / 32) start here in omega arith

    pub set_paged : IsPaged starts (set cells place cell)
    set_paged = record {
      all = paged.all;
      inside = λ page at is. let from = paged.inside page at is in simp length-set from;
      apart = paged.apart;
    }

    other_start : (q t : ℕ) → get_or starts (q / 32) None ≡ Some t → q ≢ addr → t + q % 32 ≢ place
    other_start q t there differs = elim (eqb_tells (q / 32) (addr / 32)) [
      | inl h ↦
          let same : t ≡ start = some_is t start (sym there ∙ ap (λ p. get_or starts p None) h.1 ∙ here) in
          let page : q / 32 ≡ addr / 32 = h.1 in
          omega arith
      | inr h ↦
          elim (leb_tells t start) [
            | inl o ↦ let before = paged.apart (q / 32) (addr / 32) t start there here h.1 o.1 in omega arith
            | inr o ↦ let after = paged.apart (addr / 32) (q / 32) start t here there (λ e. h.1 (sym e)) (omega arith) in omega arith
          ]
    ]

    other_cell : (q : ℕ) → q ≢ addr → cell_in (set cells place cell) (get_or starts (q / 32) None) (q % 32)
        ≡ cell_in cells (get_or starts (q / 32) None) (q % 32)
    other_cell q differs = elim (option_cases (get_or starts (q / 32) None)) [
      | inl w ↦
          ap (λ o. cell_in (set cells place cell) o (q % 32)) w.1
          ∙ get_or-set_other cells place (w.0 + q % 32) cell blank_cell (other_start q w.0 w.1 differs)
          ∙ ap (λ o. cell_in cells o (q % 32)) (sym w.1)
      | inr none ↦ ap (λ o. cell_in (set cells place cell) o (q % 32)) none ∙ ap (λ o. cell_in cells o (q % 32)) (sym none)
    ]

    same_cell : (q : ℕ) → q ≡ addr → cell_in (set cells place cell) (get_or starts (q / 32) None) (q % 32) ≡ cell
    same_cell q is =
        ap (λ a. cell_in (set cells place cell) (get_or starts (a / 32) None) (a % 32)) is
        ∙ ap (λ o. cell_in (set cells place cell) o (addr % 32)) here ∙ get_or-set_same cells place cell blank_cell inside

    pub cell_set : (q : ℕ) → cell_in (set cells place cell) (get_or starts (q / 32) None) (q % 32)
        ≡ cond (q == addr) cell (cell_in cells (get_or starts (q / 32) None) (q % 32))
    cell_set q = elim (eqb_tells q addr) [
      | inl h ↦ same_cell q h.1 ∙ ap (λ b. cond b cell (cell_in cells (get_or starts (q / 32) None) (q % 32))) (sym h.0)
      | inr h ↦ other_cell q h.1 ∙ ap (λ b. cond b cell (cell_in cells (get_or starts (q / 32) None) (q % 32))) (sym h.0)
    ]

  -- making a page
  module _ (page : ℕ) (more : List Cell) (missing : get_or starts page None ≡ None) (there : page < 32768)
      (fresh : (place : ℕ) → place < 32 → get_or more place blank_cell ≡ blank_cell) where
    abbrev made : List (Option ℕ)
    made = set starts page (Some (length cells))

    kept : (q : ℕ) → q / 32 ≢ page → cell_in (cells ++ more) (get_or made (q / 32) None) (q % 32) ≡ cell_in cells (get_or starts (q / 32) None) (q % 32)
    kept q differs = ap (λ o. cell_in (cells ++ more) o (q % 32)) (get_or-set_other starts page (q / 32) (Some (length cells)) None differs) ∙ same where
      same : cell_in (cells ++ more) (get_or starts (q / 32) None) (q % 32) ≡ cell_in cells (get_or starts (q / 32) None) (q % 32)
      same = elim (option_cases (get_or starts (q / 32) None)) [
        | inl w ↦
            let from = paged.inside (q / 32) w.0 w.1 in
            ap (λ o. cell_in (cells ++ more) o (q % 32)) w.1 ∙ get_or-append cells more blank_cell (w.0 + q % 32) (omega arith)
            ∙ ap (λ o. cell_in cells o (q % 32)) (sym w.1)
        | inr none ↦ ap (λ o. cell_in (cells ++ more) o (q % 32)) none ∙ ap (λ o. cell_in cells o (q % 32)) (sym none)
      ]

    new_page : (q : ℕ) → q / 32 ≡ page → cell_in (cells ++ more) (get_or made (q / 32) None) (q % 32)
        ≡ cell_in cells (get_or starts (q / 32) None) (q % 32)
    new_page q is =
        let all = paged.all in
        ap (λ p. cell_in (cells ++ more) (get_or made p None) (q % 32)) is
        ∙ ap (λ o. cell_in (cells ++ more) o (q % 32)) (get_or-set_same starts page (Some (length cells)) None (omega arith))
        ∙ get_or-append-add cells more (q % 32) blank_cell ∙ fresh (q % 32) (omega arith)
        ∙ ap (λ o. cell_in cells o (q % 32)) (sym (ap (λ p. get_or starts p None) is ∙ missing))

    pub page_made : (q : ℕ) → cell_in (cells ++ more) (get_or made (q / 32) None) (q % 32) ≡ cell_in cells (get_or starts (q / 32) None) (q % 32)
    page_made q = elim (eqb_tells (q / 32) page) [
      | inl h ↦ new_page q h.1
      | inr h ↦ kept q h.1
    ]
