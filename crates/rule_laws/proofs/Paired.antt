-- Rows of headings that found one another, and the steps that leave these as they are.
use Rattle.std.proofs.Common.{◌∙◌, ◌≡◌, ◌⊎◌, ℕ, None, Option, Some, ap, false, inl, inr, nat_le, refl, sym, true}
use Rattle.pas_tree.specs.{BlockTrees.BlockTree, BlockTrees.LabelPartTree, declared.blocks.NextLabel.NextLabel}
use Rattle.core_program.specs.declared.rows.{NameRow.NameRow, PartRow.PartRow, Row.Row, TypeRow.TypeRow}
use Rattle.check_steps.specs.{Known.Known, Known.label_at, Known.row_at, Known.with_row, Steps.Step, declared.regions.Frame.Frame}
use Rattle.decl_checker.specs.Labels.{define_label, define_labels, define_next_label}
use Rattle.rule_laws.proofs.{Every.Of, Faces.row_either, Leaves.Leaves, Leaves.is_fast, PartTurns.NoRoutine, Seats.AnyKind, Seats.SomeAt, TextHeadings.same_row}
use Rattle.rule_laws.proofs.Keeping.{Keeps, ask-keeps, bind-keeps, give-keeps, look-keeps, put-keeps}
use Rattle.rule_laws.proofs.Lasting.{Ends, Lasting, declare_in-keeps, each-lasts, is_quiet}

-- the row of a forward heading whose block was found, of the heading that has it, or of one that was entered
abbrev pub paired : Row → Row
paired (Row.Part (PartRow.Forward function (Some position))) = Row.Part (PartRow.Forward function (Some position))
paired (Row.Part (PartRow.Completing first)) = Row.Part (PartRow.Completing first)
paired (Row.Name (NameRow.Routine assigned number region)) = Row.Name (NameRow.Routine false number region)
paired r = Row.Nothing

-- such a row after some steps was there before them
pub record Older (j i : Known) : Type 0 where
  pub of : (n : ℕ) → (paired (row_at i n) ≡ Row.Nothing) ⊎ (row_at i n ≡ row_at j n)

put_older : (j i : Known) (m : ℕ) (r : Row) → paired r ≡ Row.Nothing → Older j i → Older j (with_row i m r)
put_older j i m r none s = record {
  of = λ n. elim (row_either i m n r) [
    | inl old ↦ elim (s.of n) [
      | inl e ↦ inl (ap paired old ∙ e)
      | inr e ↦ inr (old ∙ e)
    ]
    | inr new ↦ inl (ap paired new.1 ∙ none)
  ];
}

quiet_none : (r : Row) → is_quiet r ≡ true → paired r ≡ Row.Nothing
quiet_none (Row.Part (PartRow.Forward function block)) e = absurd (let never : false ≡ true = e in cc)
quiet_none (Row.Part (PartRow.Completing first)) e = absurd (let never : false ≡ true = e in cc)
quiet_none (Row.Name (NameRow.Routine assigned number region)) e = absurd (let never : false ≡ true = e in cc)
quiet_none r e = refl

pub older_lasts : (j : Known) → Lasting NoRoutine (Older j)
older_lasts j = record {
  puts = λ i m r quiet s. put_older j i m r (quiet_none r quiet) s;
  stays = λ i m s. record {
    of = λ n. elim (s.of n) [
      | inl e ↦ inl (ap paired (same_row i m n) ∙ e)
      | inr e ↦ inr (same_row i m n ∙ e)
    ];
  };
  bodies = λ i n r same s. record { of = s.of };
  routines = λ i r s. record { of = s.of };
  frames = λ i f s. record { of = s.of };
  regions = λ i token f s. record { of = s.of };
  defines = λ i region d at s. record { of = s.of };
  requires = λ i name d behind s. record { of = s.of };
  chooses = λ i list value s. record { of = s.of };
  records = λ i word packed region cells variants fresh s. put_older j i word (Row.Type (TypeRow.Record packed region cells variants)) refl s;
  waits = λ i r g none s. absurd g;
  completes = λ i region first position r g e s. absurd g;
}

pub older_ends : (j : Known) → Ends (Older j)
older_ends j i region d s = record { of = s.of }

-- labels
older_label : (j : Known) (here : Frame) (token : ℕ) → Keeps (Older j) (define_label here token)
unfolding define_label
older_label j here token = bind-keeps (look-keeps (λ k. label_at k token)) (λ value. bind-keeps (ask-keeps _ token (nat_le value 9999)) (λ _.
    bind-keeps (declare_in-keeps here.region value token (λ k i. record { of = i.of }))
    (λ _. put-keeps token (Row.Name (NameRow.Label false value here.level 0))
    (λ k i. put_older j k token (Row.Name (NameRow.Label false value here.level 0)) refl i))))

older_next : (j : Known) (here : Frame) (u : Unit {0}) (n : NextLabel) → Keeps (Older j) (define_next_label here u n)
unfolding define_next_label
older_next j here u n = older_label j here n.number

pub older_labels : (j : Known) (here : Frame) (labels : Option LabelPartTree) → Keeps (Older j) (define_labels here labels)
older_labels j here None = give-keeps tt
older_labels j here (Some p) =
    bind-keeps (older_label j here p.first) (λ _. each-lasts (define_next_label here) (λ a x. older_next j here a x) tt p.others)

-- ---- at names of the text's procedures and functions

-- They are as before, but for those at some of the names.
pub record Off (t : BlockTree) (X : ℕ → Type 0) (j i : Known) : Type 0 where
  pub of : (n : ℕ) → SomeAt AnyKind n t → (X n → ⊥) → paired (row_at i n) ≡ paired (row_at j n)

pub off_none : (t : BlockTree) (X : ℕ → Type 0) (j : Known) → Off t X j j
off_none t X j = record { of = λ n some out. refl }

pub off_then : (t : BlockTree) (X : ℕ → Type 0) (j i h : Known) → Off t X j i → Off t X i h → Off t X j h
off_then t X j i h one two = record { of = λ n some out. two.of n some out ∙ one.of n some out }

pub off_more : (t : BlockTree) (X Y : ℕ → Type 0) (j i : Known) → ((n : ℕ) → X n → Y n) → Off t X j i → Off t Y j i
off_more t X Y j i more s = record { of = λ n some out. s.of n some (λ x. out (more n x)) }

-- a token at which no procedure or function of the text has its name, or one of these
abbrev pub But : BlockTree → (ℕ → Type 0) → ℕ → Type 0
But t X n = SomeAt AnyKind n t → X n

fast_or : (r : Row) → (is_fast r ≡ true) ⊎ (paired r ≡ Row.Nothing)
fast_or (Row.Item i) = inr refl
fast_or (Row.Type (TypeRow.Pointer domain)) = inr refl
fast_or (Row.Part (PartRow.Forward function None)) = inr refl
fast_or r = inl refl

pub quiet_off : {A : Type 0} (t : BlockTree) (X : ℕ → Type 0) (m : Step A) → Leaves (But t X) m → ((j : Known) → Keeps (Older j) m) → (j : Known)
    → Off t X j (m j).known
quiet_off t X m leaves older j = record {
  of = λ n some out.
      let off : Of (But t X) n → ⊥ = λ o. out (o.is some) in
      let here : Older j j = record { of = λ x. inr refl } in
      elim (((older j).of j here).of n) [
        | inr same ↦ ap paired same
        | inl none ↦ elim (fast_or (row_at j n)) [
          | inl fast ↦ ap paired (leaves.of j n off fast)
          | inr slow ↦ none ∙ sym slow
        ]
      ];
}
