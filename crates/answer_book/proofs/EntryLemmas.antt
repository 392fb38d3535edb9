-- What the answers that stand say, entry by entry, and after one entry more or less.
use Rattle.std.proofs.Common.{◌&&◌, ◌++◌, ◌||◌, ◌∙◌, ◌∷◌, ◌≡◌, [], ℕ, Bool, List, None, Some, ap, append-nil, cond, false, refl, sym, true}
use Rattle.std.proofs.lemmas.{Bool.cond-false, Bool.cond-true, Bool.eq-eqb, Bool.ne_eqb, List.Elements.filter_map-append, List.Folds.list_any-append}
use Rattle.std.specs.List.{cons_option, filter_map, list_any}
use Rattle.answer_book.proofs.{FilterMaps.gives_none, FilterMaps.gives_one, LastWhere.last_of_more}
use Rattle.answer_book.specs.{Entries.entries_with, Entries.entry_saying, Entries.said_by, Entries.standing_answers, Marks.is_trusted, Marks.judgement_on}
use Rattle.answer_book.specs.{Marks.last_judgement, Marks.trusts, Numbers.last_of, Spoken.entry_judgement, Spoken.entry_trusts}
use Rattle.answer_book.specs.declared.entries.{Entry.Entry, Judgement.Judgement, What.What, What.TheVariants.Judged, What.TheVariants.Trusted}

judgement_said : (call : ℕ) (what : What) (stands : Bool) (more : List What)
    → filter_map (judgement_on call) (cons_option (cond stands (Some what) None) more)
    ≡ cons_option (cond stands (judgement_on call what) None) (filter_map (judgement_on call) more)
judgement_said call what true more = refl
judgement_said call what false more = refl

judgements_said : (call : ℕ) (entries : List Entry)
    → filter_map (judgement_on call) (standing_answers entries) ≡ filter_map (entry_judgement call) entries
judgements_said call [] = refl
judgements_said call (entry ∷ entries) =
    judgement_said call entry.what entry.standing (standing_answers entries)
    ∙ ap (cons_option (entry_judgement call entry)) (judgements_said call entries)

-- the last judgement on a call, from the entries
pub last_by_entries : (entries : List Entry) (call : ℕ) → last_judgement (standing_answers entries) call ≡ last_of (filter_map (entry_judgement call) entries)
last_by_entries entries call = ap last_of (judgements_said call entries)

trust_said : (routine : ℕ) (what : What) (stands : Bool) (more : List What)
    → list_any (trusts routine) (cons_option (cond stands (Some what) None) more) ≡ (stands && trusts routine what || list_any (trusts routine) more)
trust_said routine what true more = refl
trust_said routine what false more = refl

-- and whether a routine is trusted
pub trusted_by_entries : (entries : List Entry) (routine : ℕ) → is_trusted (standing_answers entries) routine ≡ list_any (entry_trusts routine) entries
trusted_by_entries [] routine = refl
trusted_by_entries (entry ∷ entries) routine =
    trust_said routine entry.what entry.standing (standing_answers entries)
    ∙ ap (λ b. entry_trusts routine entry || b) (trusted_by_entries entries routine)

pub answers_with : (entries : List Entry) (what : What) → standing_answers (entries_with entries what) ≡ standing_answers entries ++ what ∷ []
answers_with entries what = filter_map-append said_by entries (entry_saying what ∷ [])

-- a new answer that is a judgement on the call
pub last_with : (entries : List Entry) (what : What) (call : ℕ) (judgement : Judgement) → judgement_on call what ≡ Some judgement
    → last_judgement (standing_answers (entries_with entries what)) call ≡ Some judgement
last_with entries what call judgement on =
    ap (λ l. last_judgement l call) (answers_with entries what)
    ∙ ap last_of (filter_map-append (judgement_on call) (standing_answers entries) (what ∷ [])
    ∙ ap (λ l. filter_map (judgement_on call) (standing_answers entries) ++ l) (gives_one (judgement_on call) what judgement on))
    ∙ last_of_more (filter_map (judgement_on call) (standing_answers entries)) judgement

-- and one that is none
pub last_with_other : (entries : List Entry) (what : What) (call : ℕ) → judgement_on call what ≡ None
    → last_judgement (standing_answers (entries_with entries what)) call ≡ last_judgement (standing_answers entries) call
last_with_other entries what call off =
    ap (λ l. last_judgement l call) (answers_with entries what)
    ∙ ap last_of (filter_map-append (judgement_on call) (standing_answers entries) (what ∷ [])
    ∙ ap (λ l. filter_map (judgement_on call) (standing_answers entries) ++ l) (gives_none (judgement_on call) what off)
    ∙ append-nil (filter_map (judgement_on call) (standing_answers entries)))

any_one : (b : Bool) → (b || false) ≡ b
any_one true = refl
any_one false = refl

pub trusted_with : (entries : List Entry) (what : What) (routine : ℕ)
    → is_trusted (standing_answers (entries_with entries what)) routine ≡ (is_trusted (standing_answers entries) routine || trusts routine what)
trusted_with entries what routine =
    ap (λ l. is_trusted l routine) (answers_with entries what) ∙ list_any-append (trusts routine) (standing_answers entries) (what ∷ [])
    ∙ ap (λ b. is_trusted (standing_answers entries) routine || b) (any_one (trusts routine what))

-- a judgement is one on its call alone
pub on_its_call : (call : ℕ) (judgement : Judgement) → judgement_on call (Judged call judgement) ≡ Some judgement
on_its_call call judgement = cond-true _ _ _ (eq-eqb call call refl)

pub on_another : (call other : ℕ) (judgement : Judgement) → (other ≡ call → ⊥) → judgement_on other (Judged call judgement) ≡ None
on_another call other judgement differs = cond-false _ _ _ (ne_eqb call other (λ e. differs (sym e)))

-- and trust is trust in its routine alone
pub in_its_routine : (routine : ℕ) → trusts routine (Trusted routine) ≡ true
in_its_routine routine = eq-eqb routine routine refl

pub in_another : (routine other : ℕ) → (other ≡ routine → ⊥) → trusts other (Trusted routine) ≡ false
in_another routine other differs = ne_eqb routine other (λ e. differs (sym e))
