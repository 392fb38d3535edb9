-- All that is found in touches goes on with one more touch, and at the end is their effect.
use Rattle.std.proofs.Common.{◌++◌, ◌∙◌, ◌∷◌, ◌≡◌, ◌⊎◌, [], ℕ, Bool, List, None, Some, ap, cond, false, inl, inr, refl, slice_get, subst, sym, true}
use Rattle.cell_value.specs.Effects.{asked_by, change_at, changes_of, is_shared, read_by, reads_of, seen_at, seen_by, shared}
use Rattle.cell_value.specs.declared.entries.Touch.{Touch}
use Rattle.effect_log.proofs.{AddressesAreListed.all_listed, AddressesAreListed.listed_same, TouchesMark.cell_marked, TouchesMark.one_more_counted}
use Rattle.effect_log.specs.{Lists.ListsReach, Pages.cell_at, declared.page_lists.Lists.Lists, declared.paged.Found.Found}
use Rattle.effect_log.specs.Marks.{IsMarked, PagesHold, PagesTakeIn, cell_after, changed_in, first_before, seen_in, shown, touch_numbered}

pub one_more_found : (base place : ℕ) (log ts : List Touch) (number : ℕ) (t : Touch) → slice_get log number ≡ Some t → (old new : Found)
    → PagesHold base place log ts old → PagesTakeIn base place (record { number = number; touch = t }) old new → PagesHold base place log (ts ++ t ∷ []) new
one_more_found base place log ts number t is old new found takes = record {
  cells = λ addr inside.
      let same : cell_at new.pages addr ≡ cell_after number t addr (cell_at old.pages addr) =
      takes.cells.at addr ∙ ap (λ b. cond b (cell_after number t addr (cell_at old.pages addr)) (cell_at old.pages addr)) inside in
      subst (IsMarked log (ts ++ t ∷ []) addr) (sym same) (cell_marked log ts addr number t (cell_at old.pages addr) is (found.cells addr inside));
  others = λ addr outside.
      takes.cells.at addr ∙ ap (λ b. cond b (cell_after number t addr (cell_at old.pages addr)) (cell_at old.pages addr)) outside ∙ found.others addr outside;
  counts = one_more_counted base place number ts t old new found.counts takes;
}

bool_cases : (b : Bool) → (b ≡ true) ⊎ (b ≡ false)
bool_cases true = inl refl
bool_cases false = inr refl

module _ (base place : ℕ) (log ts : List Touch) (found : Found) (all : PagesHold base place log ts found) where
  seen_is : (addr : ℕ) → seen_in log addr (cell_at found.pages addr) ≡ shared base (λ a. seen_at a ts) addr
  unfolding seen_at
  seen_is addr = elim (bool_cases (is_shared base addr)) [
    | inl inside ↦
        let marked = all.cells addr inside in
        ap (λ r. seen_by r (shown (asked_by addr) (touch_numbered log (cell_at found.pages addr).answer))) marked.read.says
        ∙ ap (seen_by (first_before (read_by addr) addr ts)) marked.answer.says ∙ ap (λ b. cond b (seen_at addr ts) None) (sym inside)
    | inr outside ↦ ap (seen_in log addr) (all.others addr outside) ∙ ap (λ b. cond b (seen_at addr ts) None) (sym outside)
  ]

  change_is : (addr : ℕ) → changed_in log addr (cell_at found.pages addr) ≡ shared base (λ a. change_at a ts) addr
  change_is addr = elim (bool_cases (is_shared base addr)) [
    | inl inside ↦ let marked = all.cells addr inside in marked.change.says ∙ ap (λ b. cond b (change_at addr ts) None) (sym inside)
    | inr outside ↦ ap (changed_in log addr) (all.others addr outside) ∙ ap (λ b. cond b (change_at addr ts) None) (sym outside)
  ]

  pub reads_are : (lists : Lists) → ListsReach log found.pages 1048576 lists → lists.reads ≡ reads_of base ts
  reads_are lists done = done.reads
      ∙ listed_same (λ addr. seen_in log addr (cell_at found.pages addr)) (shared base (λ addr. seen_at addr ts)) 1048576 (λ q l. seen_is q)
      ∙ all_listed (shared base (λ addr. seen_at addr ts))

  pub changes_are : (lists : Lists) → ListsReach log found.pages 1048576 lists → lists.changes ≡ changes_of base ts
  changes_are lists done = done.changes
      ∙ listed_same (λ addr. changed_in log addr (cell_at found.pages addr)) (shared base (λ addr. change_at addr ts)) 1048576 (λ q l. change_is q)
      ∙ all_listed (shared base (λ addr. change_at addr ts))
