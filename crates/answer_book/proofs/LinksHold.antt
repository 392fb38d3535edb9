-- The links hold in a new book, and after each change.
use Rattle.std.proofs.Common.{◌&&◌, ◌++◌, ◌+◌, ◌-◌, ◌<◌, ◌∙◌, ◌∷◌, ◌≡◌, ◌≤◌, [], ℕ, Bool, List, None, Option, Some, ap, arith, cond, false, get_or}
use Rattle.std.proofs.Common.{get_or-set_other, get_or-set_same, inl, inr, length, refl, replicate, set, slice_index, subst, sym, true}
use Rattle.std.proofs.{Math.Seq.get_or-append_seam, lemmas.Bool.cases_eq, lemmas.Bool.cases_lt, lemmas.Bool.ne_eqb}
use Rattle.std.proofs.lemmas.List.{get_or-replicate, get_or_append_left, length-append, length-replicate, length-set}
use Rattle.std.specs.Option.{option_and_then}
use Rattle.answer_book.proofs.NumberedEntries.{at_before, at_new, at_past, none_at, same_at}
use Rattle.answer_book.proofs.WithdrawnLemmas.{IsWithdrawn}
use Rattle.answer_book.specs.{Entries.entry_saying, InRange.IsInRange, Links.said_at, Links.said_on}
use Rattle.answer_book.specs.Links.{AreLinked, AreLinkedBy, LeadsBack, Links, is_place, links_at, links_found, links_with, no_links, place_at, place_of}
use Rattle.answer_book.specs.declared.entries.{Entry.Entry, What.What, What.TheVariants.Judged, What.TheVariants.Trusted}
use Rattle.answer_book.specs.declared.entry_links.Subject.{Subject, TheVariants.Any, TheVariants.Call, TheVariants.Routine}

-- up to a number the entries are on the same chains, and none stands that did not stand before
pub record IsLess (subject : Subject) (entries after : List Entry) (from : ℕ) : Type 0 where
  pub places : (number : ℕ) → number < from → place_at subject after number ≡ place_at subject entries number
  pub fewer : (place number : ℕ) → number < from → said_at subject entries place number ≡ None → said_at subject after place number ≡ None

pub leads_still : (subject : Subject) (entries after : List Entry) (place from to : ℕ) → IsLess subject entries after from
    → LeadsBack subject entries place from to → LeadsBack subject after place from to
leads_still subject entries after place from to less leads = record {
  earlier = leads.earlier;
  on_chain = λ some. less.places to leads.earlier ∙ leads.on_chain some;
  none_between = λ number later sooner. less.fewer place number sooner (leads.none_between number later sooner);
}

none_on : (subject : Subject) (entries : List Entry) (place from to : ℕ) → from ≡ 1 → to ≡ 0 → LeadsBack subject entries place from to
none_on subject entries place from to one none = record {
  earlier = omega (arith, one, none);
  on_chain = λ some. absurd (omega (arith, none, some));
  none_between = λ number later sooner. absurd (omega (arith, one, none, later, sooner));
}

nothing_at : (subject : Subject) (entries : List Entry) (number place : ℕ) → length entries < number → place_at subject entries number ≡ Some place → ⊥
nothing_at subject entries number place past on =
    let e = ap (option_and_then (λ (entry : Entry). place_of subject entry.what)) (at_past entries number past) in
    let l : ◌≡◌ {A = Option ℕ} None (Some place) = sym e ∙ on in
    cc

nothing_at_0 : (subject : Subject) (entries : List Entry) (number place : ℕ) → number ≡ 0 → place_at subject entries number ≡ Some place → ⊥
nothing_at_0 subject entries number place none on =
    let l : ◌≡◌ {A = Option ℕ} None (Some place) = sym (ap (place_at subject entries) none) ∙ on in
    cc

pub new_are_linked : (subject : Subject) (chains : ℕ) → AreLinkedBy subject chains [] (no_links subject chains)
new_are_linked subject chains =
    let linked : AreLinked [] (no_links subject chains) = record {
      each = refl;
      before = λ number place on. elim (cases_eq number 0) [
        | inl same ↦ absurd (nothing_at_0 subject [] number place same on)
        | inr differs ↦ absurd (nothing_at subject [] number place (omega (arith, differs)) on)
      ];
      last = λ place inside.
          none_on subject [] place 1 (slice_index (replicate chains 0) place) refl
          (get_or-replicate chains place 0 0 (omega (arith, inside, length-replicate {A = ℕ} chains 0)));
    } in
    record { linked = linked; subject = refl; chains = length-replicate {A = ℕ} chains 0 }

-- one entry more
more_is_less : (subject : Subject) (entries : List Entry) (entry : Entry) → IsLess subject entries (entries ++ entry ∷ []) (length entries + 1)
more_is_less subject entries entry = record {
  places = λ number sooner.
      ap (option_and_then (λ (e : Entry). place_of subject e.what)) (at_before entries entry number (omega (arith, sooner)));
  fewer = λ place number sooner none. ap (option_and_then (said_on subject place)) (at_before entries entry number (omega (arith, sooner))) ∙ none;
}

up_to : (subject : Subject) (entries after : List Entry) (from number : ℕ) → number ≤ from → IsLess subject entries after from
    → IsLess subject entries after number
up_to subject entries after from number within less = record {
  places = λ other sooner. less.places other (omega (arith, within, sooner));
  fewer = λ place other sooner. less.fewer place other (omega (arith, within, sooner));
}

long_of : (entries : List Entry) (entry : Entry) → length (entries ++ entry ∷ []) ≡ length entries + 1
long_of entries entry = length-append entries (entry ∷ [])

-- past a new entry that is not on the chain, or does not stand
past_new : (subject : Subject) (entries : List Entry) (entry : Entry) (place to : ℕ) → said_on subject place entry ≡ None
    → LeadsBack subject entries place (length entries + 1) to
    → LeadsBack subject (entries ++ entry ∷ []) place (length (entries ++ entry ∷ []) + 1) to
past_new subject entries entry place to silent leads =
    let long = long_of entries entry in
    let still = leads_still subject entries (entries ++ entry ∷ []) place (length entries + 1) to (more_is_less subject entries entry) leads in
    record {
      earlier = let e = leads.earlier in omega (arith, long, e);
      on_chain = still.on_chain;
      none_between = λ number later sooner. elim (cases_eq number (length entries + 1)) [
        | inl same ↦ ap (option_and_then (said_on subject place)) (at_new entries entry number same) ∙ silent
        | inr differs ↦ still.none_between number later (omega (arith, long, sooner, differs))
      ];
    }

-- to a new entry that is on the chain
to_new : (subject : Subject) (entries : List Entry) (entry : Entry) (place to : ℕ) → place_of subject entry.what ≡ Some place → to ≡ length entries + 1
    → LeadsBack subject (entries ++ entry ∷ []) place (length (entries ++ entry ∷ []) + 1) to
to_new subject entries entry place to on is =
    let long = long_of entries entry in
    record {
      earlier = omega (arith, long, is);
      on_chain = λ some. ap (option_and_then (λ (e : Entry). place_of subject e.what)) (at_new entries entry to is) ∙ on;
      none_between = λ number later sooner. absurd (omega (arith, long, is, later, sooner));
    }

linked_more : (entries : List Entry) (links : Links) (entry : Entry) (link : ℕ) (last : List ℕ) → AreLinked entries links
    → ((place : ℕ) → place_of links.subject entry.what ≡ Some place → LeadsBack links.subject entries place (length entries + 1) link)
    → ((place : ℕ) → place < length last
    → LeadsBack links.subject (entries ++ entry ∷ []) place (length (entries ++ entry ∷ []) + 1) (slice_index last place))
    → AreLinked (entries ++ entry ∷ []) (record { subject = links.subject; before = links.before ++ link ∷ []; last = last })
linked_more entries links entry link last linked links_back lasts =
    let subject = links.subject in
    let after = entries ++ entry ∷ [] in
    let less = more_is_less subject entries entry in
    let long = long_of entries entry in
    let longer : length (links.before ++ link ∷ []) ≡ length links.before + 1 = length-append links.before (link ∷ []) in
    record {
      each = omega (arith, linked.each, long, longer);
      before = λ number place on. elim (cases_eq number (length entries + 1)) [
        | inl same ↦
            let here : place_of subject entry.what ≡ Some place =
            sym (ap (option_and_then (λ (e : Entry). place_of subject e.what)) (at_new entries entry number same)) ∙ on in
            let at : number - 1 ≡ length links.before = omega (arith, same, linked.each) in
            let is : slice_index (links.before ++ link ∷ []) (number - 1) ≡ link =
            ap (λ i. get_or (links.before ++ link ∷ []) i 0) at ∙ get_or-append_seam links.before link [] 0 in
            let leads = leads_still subject entries after place (length entries + 1) link less (links_back place here) in
            subst (λ from. LeadsBack subject after place from (slice_index (links.before ++ link ∷ []) (number - 1))) (sym same)
            (subst (λ to. LeadsBack subject after place (length entries + 1) to) (sym is) leads)
        | inr differs ↦ elim (cases_eq number 0) [
          | inl none ↦ absurd (nothing_at_0 subject after number place none on)
          | inr some ↦ elim (cases_lt number (length entries + 1)) [
            | inl within ↦
                let old : place_at subject entries number ≡ Some place = sym (less.places number (omega (arith, within))) ∙ on in
                let same : slice_index (links.before ++ link ∷ []) (number - 1) ≡ slice_index links.before (number - 1) =
                get_or_append_left links.before (link ∷ []) 0 (number - 1) (omega (arith, within, some, linked.each)) in
                subst (λ to. LeadsBack subject after place number to) (sym same)
                (leads_still subject entries after place number (slice_index links.before (number - 1))
                (up_to subject entries after (length entries + 1) number (omega (arith, within)) less) (linked.before number place old))
            | inr past ↦ absurd (nothing_at subject after number place (omega (arith, past, differs, long)) on)
          ]
        ]
      ];
      last = lasts;
    }

some_same : (a b : ℕ) → Some a ≡ Some b → a ≡ b
some_same a b h = cc

not_some : (a : ℕ) → ◌≡◌ {A = Option ℕ} None (Some a) → ⊥
not_some a h = cc

nothing_said : (what : What) (b : Bool) → b ≡ false → ◌≡◌ {A = Option What} (cond b (Some what) None) None
nothing_said what true off = absurd (let l : ⊥ = cc in l)
nothing_said what false off = refl

off_by : (standing on : Bool) → on ≡ false → (standing && on) ≡ false
off_by true on off = off
off_by false on off = refl

-- an entry that does not stand says nothing, nor does one on another chain
pub silent_off : (subject : Subject) (place : ℕ) (entry : Entry) → entry.standing ≡ false → said_on subject place entry ≡ None
silent_off subject place entry off =
    nothing_said entry.what (entry.standing && is_place place (place_of subject entry.what))
    (ap (λ b. b && is_place place (place_of subject entry.what)) off)

silent_elsewhere : (subject : Subject) (place : ℕ) (entry : Entry) → is_place place (place_of subject entry.what) ≡ false
    → said_on subject place entry ≡ None
silent_elsewhere subject place entry off =
    nothing_said entry.what (entry.standing && is_place place (place_of subject entry.what))
    (off_by entry.standing (is_place place (place_of subject entry.what)) off)

elsewhere : (subject : Subject) (entry : Entry) (other place : ℕ) → place_of subject entry.what ≡ Some place → (other ≡ place → ⊥)
    → is_place other (place_of subject entry.what) ≡ false
elsewhere subject entry other place on differs = ap (is_place other) on ∙ ne_eqb place other (λ e. differs (sym e))

at_linked : (entries : List Entry) (links : Links) (entry : Entry) (o : Option ℕ) (standing : Bool) → place_of links.subject entry.what ≡ o
    → entry.standing ≡ standing → ((place : ℕ) → place_of links.subject entry.what ≡ Some place → place < length links.last) → AreLinked entries links
    → AreLinked (entries ++ entry ∷ []) (links_at links o standing)
at_linked entries links entry (Some place) true on stands inside linked =
    let subject = links.subject in
    linked_more entries links entry (slice_index links.last place) (set links.last place (length links.before + 1)) linked
    (λ other is. let e : place ≡ other = some_same place other (sym on ∙ is) in
    subst (λ o. LeadsBack subject entries o (length entries + 1) (slice_index links.last place)) e (linked.last place (inside place on)))
    (λ other within. elim (cases_eq other place) [
      | inl same ↦
          to_new subject entries entry other (slice_index (set links.last place (length links.before + 1)) other) (on ∙ ap Some (sym same))
          (ap (λ i. get_or (set links.last place (length links.before + 1)) i 0) same
          ∙ get_or-set_same links.last place (length links.before + 1) 0 (inside place on) ∙ ap (λ n. n + 1) linked.each)
      | inr differs ↦
          subst (λ to. LeadsBack subject (entries ++ entry ∷ []) other (length (entries ++ entry ∷ []) + 1) to)
          (sym (get_or-set_other links.last place other (length links.before + 1) 0 differs))
          (past_new subject entries entry other (slice_index links.last other)
          (silent_elsewhere subject other entry (elsewhere subject entry other place on differs))
          (linked.last other (omega (arith, within, length-set links.last place (length links.before + 1)))))
    ])
at_linked entries links entry (Some place) false on stands inside linked =
    let subject = links.subject in
    linked_more entries links entry (slice_index links.last place) links.last linked
    (λ other is. let e : place ≡ other = some_same place other (sym on ∙ is) in
    subst (λ o. LeadsBack subject entries o (length entries + 1) (slice_index links.last place)) e (linked.last place (inside place on)))
    (λ other within. past_new subject entries entry other (slice_index links.last other) (silent_off subject other entry stands) (linked.last other within))
at_linked entries links entry None standing on stands inside linked =
    let subject = links.subject in
    linked_more entries links entry 0 links.last linked (λ other is. absurd (not_some other (sym on ∙ is)))
    (λ other within.
    past_new subject entries entry other (slice_index links.last other) (silent_elsewhere subject other entry (ap (is_place other) on))
    (linked.last other within))

at_subject : (links : Links) (o : Option ℕ) (standing : Bool) → (links_at links o standing).subject ≡ links.subject
at_subject links (Some place) standing = refl
at_subject links None standing = refl

at_chains : (links : Links) (o : Option ℕ) (standing : Bool) → length (links_at links o standing).last ≡ length links.last
at_chains links (Some place) true = length-set links.last place (length links.before + 1)
at_chains links (Some place) false = refl
at_chains links None standing = refl

-- the chain of an entry is one of those that are linked
pub chain_inside : (subject : Subject) (chains : ℕ) (entries : List Entry) (links : Links) (what : What)
    → ((place : ℕ) → place_of subject what ≡ Some place → place < chains) → AreLinkedBy subject chains entries links
    → (place : ℕ) → place_of links.subject what ≡ Some place → place < length links.last
chain_inside subject chains entries links what inside by place on =
    let within = inside place (sym (ap (λ s. place_of s what) by.subject) ∙ on) in
    omega (arith, by.chains, within)

pub with_are_linked : (subject : Subject) (chains : ℕ) (entries : List Entry) (links : Links) (entry : Entry)
    → ((place : ℕ) → place_of subject entry.what ≡ Some place → place < chains) → AreLinkedBy subject chains entries links
    → AreLinkedBy subject chains (entries ++ entry ∷ []) (links_with links entry)
with_are_linked subject chains entries links entry inside by = record {
  linked =
      at_linked entries links entry (place_of links.subject entry.what) entry.standing refl refl
      (chain_inside subject chains entries links entry.what inside by) by.linked;
  subject = at_subject links (place_of links.subject entry.what) entry.standing ∙ by.subject;
  chains = at_chains links (place_of links.subject entry.what) entry.standing ∙ by.chains;
}

-- an entry that was taken back
withdrawn_is_less : (subject : Subject) (entries after : List Entry) (place : ℕ) (what : What) (from : ℕ) → IsWithdrawn entries after place what
    → IsLess subject entries after from
withdrawn_is_less subject entries after place what from w =
    let gone : Entry = record { what = what; standing = false } in
    record {
      places = λ number sooner.
          ap (λ l. place_at subject l number) w.set
          ∙ same_at (λ (e : Entry). place_of subject e.what) entries place number (entry_saying what) gone w.at refl;
      fewer = λ chain number sooner none.
          ap (λ l. said_at subject l chain number) w.set
          ∙ none_at (said_on subject chain) entries place number gone (silent_off subject chain gone refl) none;
    }

withdrawn_linked : (entries after : List Entry) (links : Links) (place : ℕ) (what : What) → IsWithdrawn entries after place what
    → AreLinked entries links → AreLinked after links
withdrawn_linked entries after links place what w linked =
    let subject = links.subject in
    let long : length after ≡ length entries = ap length w.set ∙ length-set entries place (record { what = what; standing = false }) in
    record {
      each = linked.each ∙ sym long;
      before = λ number chain on.
          let less = withdrawn_is_less subject entries after place what number w in
          let all = withdrawn_is_less subject entries after place what (number + 1) w in
          let old : place_at subject entries number ≡ Some chain = sym (all.places number (omega arith)) ∙ on in
          leads_still subject entries after chain number (slice_index links.before (number - 1)) less (linked.before number chain old);
      last = λ chain inside.
          subst (λ n. LeadsBack subject after chain (n + 1) (slice_index links.last chain)) (sym long)
          (leads_still subject entries after chain (length entries + 1) (slice_index links.last chain)
          (withdrawn_is_less subject entries after place what (length entries + 1) w) (linked.last chain inside));
    }

pub withdrawn_are_linked : (subject : Subject) (chains : ℕ) (entries after : List Entry) (links : Links) (place : ℕ) (what : What)
    → IsWithdrawn entries after place what → AreLinkedBy subject chains entries links → AreLinkedBy subject chains after links
withdrawn_are_linked subject chains entries after links place what w by =
    record { linked = withdrawn_linked entries after links place what w by.linked; subject = by.subject; chains = by.chains }

-- the last entry on a chain was found anew
pub found_are_linked : (subject : Subject) (chains : ℕ) (entries : List Entry) (links : Links) (place number : ℕ)
    → AreLinkedBy subject chains entries links → place < length links.last → LeadsBack links.subject entries place (length entries + 1) number
    → AreLinkedBy subject chains entries (links_found links place number)
found_are_linked subject chains entries links place number by inside leads =
    let linked : AreLinked entries (links_found links place number) = record {
      each = by.linked.each;
      before = by.linked.before;
      last = λ other within. elim (cases_eq other place) [
        | inl same ↦
            let is : slice_index (set links.last place number) other ≡ number =
            ap (λ i. get_or (set links.last place number) i 0) same ∙ get_or-set_same links.last place number 0 inside in
            subst (λ c. LeadsBack links.subject entries c (length entries + 1) (slice_index (set links.last place number) other)) (sym same)
            (subst (λ to. LeadsBack links.subject entries place (length entries + 1) to) (sym is) leads)
        | inr differs ↦
            subst (λ to. LeadsBack links.subject entries other (length entries + 1) to) (sym (get_or-set_other links.last place other number 0 differs))
            (by.linked.last other (omega (arith, within, length-set links.last place number)))
      ];
    } in
    record { linked = linked; subject = by.subject; chains = length-set links.last place number ∙ by.chains }

-- each entry names a chain that there is
pub call_inside : (calls routines : ℕ) (what : What) → IsInRange calls routines what → (place : ℕ) → place_of Call what ≡ Some place → place < calls
call_inside calls routines (Judged call judgement) named place is =
    let e : call ≡ place = some_same call place is in
    let inside : call < calls = named in
    omega (arith, e, inside)
call_inside calls routines (Trusted routine) named place is = absurd (not_some place is)

pub routine_inside : (calls routines : ℕ) (what : What) → IsInRange calls routines what → (place : ℕ) → place_of Routine what ≡ Some place
    → place < routines
routine_inside calls routines (Judged call judgement) named place is = absurd (not_some place is)
routine_inside calls routines (Trusted routine) named place is =
    let e : routine ≡ place = some_same routine place is in
    let inside : routine < routines = named in
    omega (arith, e, inside)

pub one_inside : (what : What) (place : ℕ) → place_of Any what ≡ Some place → place < 1
one_inside what place is =
    let e : 0 ≡ place = some_same 0 place is in
    omega (arith, e)
