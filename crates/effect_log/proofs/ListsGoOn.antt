-- The lists of an effect go on with an address, and with a page of which nothing was found.
use Rattle.std.proofs.Common.{◌++◌, ◌+◌, ◌<◌, ◌∙◌, ◌≡◌, [], ℕ, List, Option, ap, option_to_list, subst, sym}
use Rattle.std.specs.Option.{option_map}
use Rattle.cell_value.specs.declared.entries.Touch.{Touch}
use Rattle.effect_log.proofs.AddressesAreListed.{listed_more, listed_skip, none_listed}
use Rattle.effect_log.specs.{Lists.ListsReach, Lists.listed_to, Marks.changed_in, Marks.seen_in, Pages.cell_at, Paging.blank_cell}
use Rattle.effect_log.specs.declared.{cells.Pages.Pages, page_lists.Lists.Lists}

pub grows : {X : Type 0} (f : ℕ → Option X) (n : ℕ) (old new : List (ℕ × X)) (found : Option X) → old ≡ listed_to f n
    → new ≡ old ++ option_to_list (option_map (λ x. (n, x)) found) → found ≡ f n → new ≡ listed_to f (n + 1)
grows f n old new found so_far added is =
    added ∙ ap (λ xs. xs ++ option_to_list (option_map (λ x. (n, x)) found)) so_far
    ∙ ap (λ o. listed_to f n ++ option_to_list (option_map (λ x. (n, x)) o)) is ∙ sym (listed_more f n)

pub skips : (log : List Touch) (pages : Pages) (n : ℕ) (lists : Lists) → ListsReach log pages n lists
    → ((place : ℕ) → place < 32 → cell_at pages (n + place) ≡ blank_cell) → ListsReach log pages (n + 32) lists
skips log pages n lists so_far none = record {
  reads = so_far.reads ∙ sym (listed_skip (λ addr. seen_in log addr (cell_at pages addr)) 32 n (λ place l. ap (seen_in log (n + place)) (none place l)));
  changes = so_far.changes
      ∙ sym (listed_skip (λ addr. changed_in log addr (cell_at pages addr)) 32 n (λ place l. ap (changed_in log (n + place)) (none place l)));
}

pub none_yet : (log : List Touch) (pages : Pages) (lists : Lists) → lists.reads ≡ [] → lists.changes ≡ [] → ListsReach log pages 0 lists
none_yet log pages lists reads changes = record {
  reads = reads ∙ none_listed (λ addr. seen_in log addr (cell_at pages addr));
  changes = changes ∙ none_listed (λ addr. changed_in log addr (cell_at pages addr));
}

pub up_to : (log : List Touch) (pages : Pages) (m n : ℕ) (lists : Lists) → m ≡ n → ListsReach log pages m lists → ListsReach log pages n lists
up_to log pages m n lists same listed = subst (λ k. ListsReach log pages k lists) same listed
