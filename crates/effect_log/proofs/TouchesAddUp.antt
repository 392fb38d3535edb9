-- What is found in touches, one more touch at a time.
use Rattle.std.proofs.Common.{◌++◌, ◌+◌, ◌∙◌, ◌∷◌, ◌≡◌, [], ℕ, Bool, List, None, Option, Some, ap, cond, false, inl, inr, max, option_to_list, refl, sym, true}
use Rattle.std.{proofs.lemmas.List.append-nil, proofs.lemmas.List.Elements.filter_map-append, specs.List.before_first, specs.List.filter_map}
use Rattle.cell_value.specs.Effects.{asked_by, byte_by, change_at, change_by, given_of, head_of, is_shared, last_of, looked_by, made_by, read_by, seen_at}
use Rattle.cell_value.specs.Effects.{seen_by, shown_by, taken_by}
use Rattle.cell_value.specs.declared.{entries.Change.Change, entries.Touch.Touch, values.Value.Value}
use Rattle.cell_value.specs.declared.entries.Touch.TheVariants.{Drop, Give, Has, Look, Make, Read, Take, Write}
use Rattle.effect_log.proofs.{BlocksChange.nothing_seen, OneMoreTouch.one_option, OneMoreTouch.option_cases, OneMoreTouch.sooner, OneMoreTouch.sum_more}
use Rattle.effect_log.proofs.OneMoreTouch.{all_before, before_changing, before_none, before_other, before_some, change_more, changes, first_more, looked_more}
use Rattle.effect_log.specs.Passing.{IsFound, TakesIn, found_at, later, seen_next}
use Rattle.effect_log.specs.declared.found.Found.{Found}

-- ---- one address

-- a touch that changes an address neither reads it nor asks for it
changing_reads_not : (addr : ℕ) (t : Touch) (c : Change) → change_by addr t ≡ Some c → (read_by addr t ≡ None) × (asked_by addr t ≡ None)
changing_reads_not addr (Read at value) c e = cc
changing_reads_not addr (Has at there) c e = cc
changing_reads_not addr (Write at value) c e = (refl, refl)
changing_reads_not addr (Make first cells kind) c e = (refl, refl)
changing_reads_not addr (Drop first cells) c e = (refl, refl)
changing_reads_not addr (Look at) c e = cc
changing_reads_not addr (Take items) c e = cc
changing_reads_not addr (Give byte) c e = cc

seen_more : (f : Option Value) (a : Option Bool) (read : Option Value) (asked : Option Bool)
    → seen_by (sooner f read) (sooner a asked) ≡ seen_next None (seen_by f a) read asked
seen_more (Some v) a read asked = refl
seen_more None (Some true) (Some w) asked = refl
seen_more None (Some true) None asked = refl
seen_more None (Some false) (Some w) asked = refl
seen_more None (Some false) None asked = refl
seen_more None None (Some w) asked = refl
seen_more None None None asked = refl

-- what touches show with one more that does not change the address
shown_more : (addr : ℕ) (ts : List Touch) (t : Touch) → shown_by addr (ts ++ t ∷ []) ≡ seen_next None (shown_by addr ts) (read_by addr t) (asked_by addr t)
shown_more addr ts t =
    let reads : head_of (filter_map (read_by addr) (ts ++ t ∷ [])) ≡ sooner (head_of (filter_map (read_by addr) ts)) (read_by addr t) =
    ap head_of (filter_map-append (read_by addr) ts (t ∷ [])) ∙ first_more (filter_map (read_by addr) ts) (read_by addr t) in
    let asks : head_of (filter_map (asked_by addr) (ts ++ t ∷ [])) ≡ sooner (head_of (filter_map (asked_by addr) ts)) (asked_by addr t) =
    ap head_of (filter_map-append (asked_by addr) ts (t ∷ [])) ∙ first_more (filter_map (asked_by addr) ts) (asked_by addr t) in
    ap (λ r. seen_by r (head_of (filter_map (asked_by addr) (ts ++ t ∷ [])))) reads
    ∙ ap (seen_by (sooner (head_of (filter_map (read_by addr) ts)) (read_by addr t))) asks
    ∙ seen_more (head_of (filter_map (read_by addr) ts)) (head_of (filter_map (asked_by addr) ts)) (read_by addr t) (asked_by addr t)

seen_at_more : (addr : ℕ) (ts : List Touch) (t : Touch) → seen_at addr (ts ++ t ∷ [])
    ≡ seen_next (change_at addr ts) (seen_at addr ts) (read_by addr t) (asked_by addr t)
unfolding seen_at change_at
seen_at_more addr ts t = elim (option_cases (change_by addr) (last_of (filter_map (change_by addr) ts))) [
  | inl w ↦
      ap (shown_by addr) (before_some (change_by addr) ts t w.0 w.1)
      ∙ ap (λ o. seen_next o (shown_by addr (before_first (changes (change_by addr)) ts)) (read_by addr t) (asked_by addr t)) (sym w.1)
  | inr none ↦
      let before : before_first (changes (change_by addr)) ts ≡ ts = all_before (change_by addr) ts none in
      let more = ap (shown_by addr) (before_none (change_by addr) ts t none) in
      let last : shown_by addr (ts ++ before_first (changes (change_by addr)) (t ∷ []))
      ≡ seen_next None (shown_by addr ts) (read_by addr t) (asked_by addr t) = elim (option_cases (change_by addr) (change_by addr t)) [
        | inl w ↦
            let not_read = changing_reads_not addr t w.0 w.1 in
            ap (λ xs. shown_by addr (ts ++ xs)) (before_changing (change_by addr) t [] w.0 w.1) ∙ ap (shown_by addr) (append-nil ts)
            ∙ nothing_seen None (shown_by addr ts)
            ∙ ap (λ r. seen_next None (shown_by addr ts) r None) (sym not_read.0) ∙ ap (seen_next None (shown_by addr ts) (read_by addr t)) (sym not_read.1)
        | inr none_here ↦ ap (λ xs. shown_by addr (ts ++ xs)) (before_other (change_by addr) t [] none_here) ∙ shown_more addr ts t
      ] in
      more ∙ last
      ∙ ap (λ xs. seen_next None (shown_by addr xs) (read_by addr t) (asked_by addr t)) (sym before)
      ∙ ap (λ o. seen_next o (shown_by addr (before_first (changes (change_by addr)) ts)) (read_by addr t) (asked_by addr t)) (sym none)
]

-- ---- all that is found

under_test : {X : Type 0} (b : Bool) (was now : Option X) (step : Option X → Option X) → was ≡ cond b now None → cond b (step was) was ≡ cond b (step now) None
under_test true was now step e = ap step e
under_test false was now step e = e

under_both : {X Y : Type 0} (b : Bool) (other other_now : Option Y) (was now : Option X) (step : Option Y → Option X → Option X)
    → other ≡ cond b other_now None → was ≡ cond b now None → cond b (step other was) was ≡ cond b (step other_now now) None
under_both true other other_now was now step d e = ap (λ o. step o was) d ∙ ap (step other_now) e
under_both false other other_now was now step d e = e

pub one_more_found : (base place : ℕ) (ts : List Touch) (t : Touch) (old new : Found) → IsFound base place ts old → TakesIn base place t old new
    → IsFound base place (ts ++ t ∷ []) new
one_more_found base place ts t old new found takes = record {
  reads = λ addr.
      takes.reads.at addr
      ∙ under_both (is_shared base addr) (found_at old.changes addr) (change_at addr ts) (found_at old.reads addr) (seen_at addr ts)
      (λ c s. seen_next c s (read_by addr t) (asked_by addr t)) (found.changes addr) (found.reads addr)
      ∙ ap (λ s. cond (is_shared base addr) s None) (sym (seen_at_more addr ts t));
  changes = λ addr.
      takes.changes.at addr
      ∙ under_test (is_shared base addr) (found_at old.changes addr) (change_at addr ts) (later (change_by addr t)) (found.changes addr)
      ∙ ap (λ s. cond (is_shared base addr) s None) (sym (change_more addr ts t));
  made = takes.made ∙ ap (λ n. n + made_by t) found.made ∙ sym (sum_more made_by ts t);
  looked = takes.looked ∙ ap (λ n. max n (looked_by place t)) found.looked ∙ sym (looked_more place ts t);
  taken = takes.taken ∙ ap (λ n. n + taken_by t) found.taken ∙ sym (sum_more taken_by ts t);
  given = takes.given ∙ ap (λ bs. bs ++ option_to_list (byte_by t)) found.given ∙ ap (λ bs. given_of ts ++ bs) (sym (one_option (byte_by t)))
      ∙ sym (filter_map-append byte_by ts (t ∷ []));
}
