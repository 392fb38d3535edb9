-- The names of a text's regions, also of those with the formal parameters of a forward heading.
use Rattle.std.proofs.Common.{if◌then◌else◌, ◌++◌, ◌<◌, ◌^◌, ◌∙◌, ◌≡◌, [], ℕ, Contains, List, None, Some, ap, false, inl, inr, length, subst, sym, true}
use Rattle.std.proofs.lemmas.Option.{none-some}
use Rattle.pas_tree.specs.BlockTrees.{BlockTree, BodyTree, RoutineTree, RoutineTrees, routine_body, routine_heading}
use Rattle.pas_tree.specs.BlockTrees as tree
use Rattle.pas_tree.specs.HeadingTrees.{HeadingTree}
use Rattle.check_steps.specs.{Known.Known, Known.and_region, Steps.◌>>=◌, Steps.extend, Steps.give, Steps.look, Words.known_at_start}
use Rattle.check_steps.specs.declared.{breaks.Break.Break, regions.Frame.Frame}
use Rattle.denoter_checker.specs.{Formals.define_formals_at, RoutineParts.completion_of, RoutineParts.routine_name}
use Rattle.decl_checker.specs.Routines.{define_body, define_inside, first_heading, open_routine}
use Rattle.rule_laws.proofs.{Breaks.In, Breaks.in_either, Breaks.in_left, Breaks.in_right, LastsRoutines.after_completion, MatedText.text_told}
use Rattle.rule_laws.proofs.{MatedText.text_walks, MatedWalk.All, MatedWalk.Teller, MatedWalk.completes_second, PartTurns.Orderly, PartTurns.orderly_lasts}
use Rattle.rule_laws.proofs.{TextBlocks.first_told, TextBlocks.inside_again, TextBlocks.text_name_firsts, TextFields.IsTold, TextFields.Text}
use Rattle.rule_laws.proofs.{TextNames.inside_labels, TextNames.inside_told, TextSplit.follow_block, TextSplit.less_or, TextSplit.second_or}
use Rattle.rule_laws.proofs.PartWalk.{Fresh, StatedOf, completed_by_none, frame_inside, fresh_inside}
use Rattle.rule_laws.specs.{ForwardHeadings.is_block, ForwardHeadings.is_second, Laws.broken_at, TextLaws.routines_in_body}
use Rattle.rule_laws.specs.TextLaws.{RegionIsTold, TextsTellNames, first_formals, labels_in_body, names_after, names_in_body, names_of_routine}

-- ---- one with a block of its own

own_region : (x : Text) (t : BlockTree) (frame : ℕ) (before : List RoutineTree) (rs : RoutineTrees) (r : RoutineTree) (j : Known) → Orderly x.k t j
    → StatedOf x.k t before r → All (IsTold x) (first_heading frame rs r j).broken
    → RegionIsTold x.k x.bs (names_of_routine r) (routines_in_body (routine_body r)) (labels_in_body (routine_body r))
own_region x t frame outer rs q j s st w = record {
  names = λ before name after same second. w (broken_at 2 name) (first_told x.k t j frame rs q (broken_at 2 name) s (record {
    told = λ i inner f completion o fresh. inside_told x.k i inner f q completion before name after o.both.sound.words fresh.stands same second;
  }));
  headings = λ before r after same again. w (broken_at 2 (routine_name r)) (first_told x.k t j frame rs q (broken_at 2 (routine_name r)) s (record {
    told = λ i inner f completion o fresh.
        inside_again x.k t i inner f q completion o fresh st.seat.formals st.body before r after same (record { is = again });
  }));
  labels = λ before label after same second. w (broken_at 2 label) (first_told x.k t j frame rs q (broken_at 2 label) s (record {
    told = λ i inner f completion o fresh. inside_labels x.k i inner f q completion before label after o.both.sound.words fresh.stands same second;
  }));
}

-- ---- one that has the block of a forward heading

inside_none : (frame : ℕ) (h : HeadingTree) (body : BodyTree) (r : RoutineTree) (j : Known) (b : Break) → is_block body ≡ false
    → In b (define_inside frame h (routine_body r) None j).broken → In b (define_inside frame h body (Some r) j).broken
unfolding define_inside ◌>>=◌ give
inside_none frame h (tree.a_directive directive) r j b e has =
    let d = define_formals_at frame h j in
    let i = define_body frame (routine_body r) d.known in
    elim (in_either b d.broken (i.broken ++ []) has) [
      | inl l ↦ in_left b d.broken _ l
      | inr m ↦ in_right b d.broken _ (elim (in_either b i.broken [] m) [
        | inl l ↦ l
        | inr never ↦ absurd never
      ])
    ]
inside_none frame h (tree.a_block_body c) r j b e has = absurd (let never : true ≡ false = e in cc)

-- the two headings as one
abbrev joined : RoutineTree → RoutineTree → RoutineTree
joined q r = tree.a_routine (routine_heading q) 0 (routine_body r) 0

joined_told : (x : Text) (t : BlockTree) (frame : ℕ) (rs : RoutineTrees) (q r : RoutineTree) (j : Known) (b : Break) → Orderly x.k t j
    → is_block (routine_body q) ≡ false → completion_of j rs q ≡ Some r → All (IsTold x) (first_heading frame rs q j).broken
    → ((i : Known) (inner : ℕ) (f : Frame) → Orderly x.k t i → Fresh t inner f i
    → In b (define_inside inner (routine_heading q) (routine_body r) None i).broken) → IsTold x b
unfolding first_heading open_routine look extend ◌>>=◌
joined_told x t frame rs q r j b s block is w inside =
    let f = frame_inside j frame in
    let i = and_region j (routine_name q) f in
    let inner = length j.frames in
    let d = define_inside inner (routine_heading q) (routine_body q) (Some r) i in
    let here = inside_none inner (routine_heading q) (routine_body q) r i b block
    (inside i inner f ((orderly_lasts x.k t).regions j (routine_name q) f s) (fresh_inside t j frame (routine_name q))) in
    (subst (λ o. All (IsTold x) (after_completion frame q o j).broken) is w) b (in_left b d.broken _ here)

joined_region : (x : Text) (t : BlockTree) (frame : ℕ) (before : List RoutineTree) (rs : RoutineTrees) (q : RoutineTree) (j : Known) → Orderly x.k t j
    → StatedOf x.k t before q → (earlier : List RoutineTree) (r : RoutineTree) → completion_of j rs q ≡ Some r → StatedOf x.k t earlier r
    → All (IsTold x) (first_heading frame rs q j).broken
    → RegionIsTold x.k x.bs (names_of_routine (joined q r)) (routines_in_body (routine_body r)) (labels_in_body (routine_body r))
joined_region x t frame outer rs q j s st earlier r is that w =
    let both = joined q r in
    let block : is_block (routine_body q) ≡ false = second_or (is_block (routine_body q)) (completion_of j rs q ≡ None)
    (λ block. completed_by_none x.k t j outer rs q s st.seat block) (λ none. none-some r (sym none ∙ is)) in
    record {
      names = λ before name after same second. joined_told x t frame rs q r j (broken_at 2 name) s block is w (λ i inner f o fresh.
          inside_told x.k i inner f both None before name after o.both.sound.words fresh.stands same second);
      headings = λ before p after same again. joined_told x t frame rs q r j (broken_at 2 (routine_name p)) s block is w (λ i inner f o fresh.
          inside_again x.k t i inner f both None o fresh st.seat.formals that.body before p after same (record { is = again }));
      labels = λ before label after same second. joined_told x t frame rs q r j (broken_at 2 label) s block is w (λ i inner f o fresh.
          inside_labels x.k i inner f both None before label after o.both.sound.words fresh.stands same second);
    }

-- ---- a text

abbrev Region : Text → List RoutineTree → RoutineTree → Type 0
Region x before r = RegionIsTold x.k x.bs (names_after x.k before r) (routines_in_body (routine_body r)) (labels_in_body (routine_body r))

abbrev Names : Text → List RoutineTree → RoutineTree → Type 0
Names x before r = (is_second x.k before r ≡ true → Contains x.bs (broken_at 2 (routine_name r)) → ⊥) → Region x before r

-- the names of one that has not the block of a forward heading
own_names : (x : Text) (before : List RoutineTree) (r : RoutineTree) → is_second x.k before r ≡ false
    → RegionIsTold x.k x.bs (names_of_routine r) (routines_in_body (routine_body r)) (labels_in_body (routine_body r)) → Region x before r
own_names x before r e told = subst (λ (l : List ℕ). RegionIsTold x.k x.bs l (routines_in_body (routine_body r)) (labels_in_body (routine_body r)))
    (sym (ap (λ b. if b then first_formals x.k before r ++ names_in_body (routine_body r) else names_of_routine r) e)) told

names_teller : (x : Text) (t : BlockTree) → Teller x.k t (IsTold x) (Names x)
names_teller x t = record {
  first = λ frame before rs r j s st all again w h.
      let none : is_second x.k before r ≡ false = second_or (is_second x.k before r) ⊥ (λ e. h e (again e)) (λ never. never) in
      own_names x before r none (own_region x t frame before rs r j s st w);
  second = λ frame before rs q j s st all_q earlier r later one listed is that all c formals w h.
      let second = (completes_second x.k t j earlier r s that c).0 in
      subst (λ (l : List ℕ). RegionIsTold x.k x.bs l (routines_in_body (routine_body r)) (labels_in_body (routine_body r)))
      (ap (λ (l : List ℕ). l ++ names_in_body (routine_body r)) (sym formals)
      ∙ sym (ap (λ b. if b then first_formals x.k earlier r ++ names_in_body (routine_body r) else names_of_routine r) second))
      (joined_region x t frame before rs q j s st earlier r is that w);
}

pub text_name_law : TextsTellNames
text_name_law l t spelled =
    let k = known_at_start l in
    let x = text_told l t in
    let old = text_name_firsts l t spelled in
    let few = length l.tokens < 2 ^ 32 in
    let Both : List RoutineTree → RoutineTree → Type 0 = λ before r.
    (is_second k before r ≡ true → few × (Contains x.bs (broken_at 2 (routine_name r)) → ⊥)) → Region x before r in (
      old.0,
      elim (less_or (length l.tokens) (2 ^ 32)) [
        | inl less ↦ follow_block (Names x) Both (λ before r p h. p (λ e. (h e).1)) t.block
            (text_walks l t (Names x) (names_teller x t.block) spelled less)
        | inr more ↦ follow_block (λ before r. is_second k before r ≡ false
            → RegionIsTold k x.bs (names_of_routine r) (routines_in_body (routine_body r)) (labels_in_body (routine_body r))) Both (λ before r p h.
            let none = second_or (is_second k before r) few (λ e. (h e).0) more in
            own_names x before r none (p none)) t.block old.1
      ],
    )
