-- The cells of a block are changed one after another, and what a touch does not name stays.
use Rattle.std.proofs.Common.{◌&&◌, ◌+◌, ◌==◌, ◌∙◌, ◌≡◌, ◌≢◌, ◌≤◌, ℕ, Bool, None, Option, Some, ap, arith, cond, false, inl, inr, nat_le, nat_lt, refl, sym}
use Rattle.std.{proofs.Common.true, proofs.lemmas.Bool.Decides.eqb_tells, proofs.lemmas.Bool.Decides.nat_tests, specs.BTreeMap.BTreeMap}
use Rattle.cell_value.specs.Effects.{changed_block, is_shared}
use Rattle.cell_value.specs.declared.entries.{Change.Change, Seen.Seen, Seen.TheVariants.Absent, Seen.TheVariants.Held, Seen.TheVariants.There}
use Rattle.effect_log.specs.Passing.{ChangesBy, found_at, later, seen_next}

pub either : {X : Type 0} (b : Bool) (x : X) → x ≡ cond b x x
either true x = refl
either false x = refl

pub nothing_seen : (change : Option Change) (seen : Option Seen) → seen ≡ seen_next change seen None None
nothing_seen (Some change) seen = refl
nothing_seen None (Some (Held value)) = refl
nothing_seen None (Some There) = refl
nothing_seen None (Some Absent) = refl
nothing_seen None None = refl

-- a touch that changes no cell leaves what is changed
pub changes_nothing : (base : ℕ) (changes : BTreeMap ℕ Change) → ChangesBy base (λ at. None) changes changes
changes_nothing base changes = record { at = λ addr. either (is_shared base addr) (found_at changes addr) }

module _ (base first addr : ℕ) (change : Change) where
  none_yet : (q : ℕ) → changed_block first first change q ≡ None
  none_yet q = let out : (nat_le first q && nat_lt q first) ≡ false = grind (arith, nat_tests) in ap (λ b. cond b (Some change) None) out

  other : (q : ℕ) → q ≢ addr → changed_block first (addr + 1) change q ≡ changed_block first addr change q
  other q differs = let same : nat_lt q (addr + 1) ≡ nat_lt q addr = grind (arith, nat_tests) in ap (λ b. cond (nat_le first q && b) (Some change) None) same

  here : (q : ℕ) → q ≡ addr → first ≤ addr → changed_block first (addr + 1) change q ≡ Some change
  here q same from = let inside : (nat_le first q && nat_lt q (addr + 1)) ≡ true = grind (arith, nat_tests) in ap (λ b. cond b (Some change) None) inside

  pub block_begins : (m : BTreeMap ℕ Change) → ChangesBy base (changed_block first first change) m m
  block_begins m = record {
    at = λ q. either (is_shared base q) (found_at m q)
        ∙ ap (λ o. cond (is_shared base q) (later o (found_at m q)) (found_at m q)) (sym (none_yet q));
  }

  pub block_goes_on : (old m new : BTreeMap ℕ Change) → first ≤ addr → is_shared base addr ≡ true → ChangesBy base (changed_block first addr change) old m
      → ((q : ℕ) → found_at new q ≡ cond (q == addr) (Some change) (found_at m q)) → ChangesBy base (changed_block first (addr + 1) change) old new
  block_goes_on old m new from is_in so_far set = record {
    at = λ q. elim (eqb_tells q addr) [
      | inl h ↦
          let is_in_q : is_shared base q ≡ true = ap (is_shared base) h.1 ∙ is_in in
          set q ∙ ap (λ b. cond b (Some change) (found_at m q)) h.0 ∙ ap (λ o. later o (found_at old q)) (sym (here q h.1 from))
          ∙ ap (λ b. cond b (later (changed_block first (addr + 1) change q) (found_at old q)) (found_at old q)) (sym is_in_q)
      | inr h ↦
          set q ∙ ap (λ b. cond b (Some change) (found_at m q)) h.0 ∙ so_far.at q
          ∙ ap (λ o. cond (is_shared base q) (later o (found_at old q)) (found_at old q)) (sym (other q h.1))
    ];
  }

  pub block_passes_by : (old m : BTreeMap ℕ Change) → is_shared base addr ≡ false → ChangesBy base (changed_block first addr change) old m
      → ChangesBy base (changed_block first (addr + 1) change) old m
  block_passes_by old m is_out so_far = record {
    at = λ q. elim (eqb_tells q addr) [
      | inl h ↦
          let is_out_q : is_shared base q ≡ false = ap (is_shared base) h.1 ∙ is_out in
          so_far.at q ∙ ap (λ b. cond b (later (changed_block first addr change q) (found_at old q)) (found_at old q)) is_out_q
          ∙ ap (λ b. cond b (later (changed_block first (addr + 1) change q) (found_at old q)) (found_at old q)) (sym is_out_q)
      | inr h ↦ so_far.at q ∙ ap (λ o. cond (is_shared base q) (later o (found_at old q)) (found_at old q)) (sym (other q h.1))
    ];
  }
