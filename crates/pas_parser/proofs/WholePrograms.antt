-- What reading says of whole programs.
use Rattle.std.proofs.Common.{◌++◌, ◌+◌, ◌<◌, ◌∙◌, ◌∷◌, ◌≡◌, ◌≤◌, [], ℕ, Err, List, Ok, ap, append_assoc, arith, drop, get_or, inl, inr, length, length-append}
use Rattle.std.proofs.Common.{length-drop, refl, subst, suc, sym, take, true, zero}
use Rattle.std.proofs.lemmas.List.{map_push, take_at}
use Rattle.pas_lexer.specs.{Lexed.EndsOnce, declared.kinds.Token.Token, declared.kinds.TokenKind.TokenKind}
use Rattle.grammar.proofs.{Ending.refused_inside, Exact.ok_is, Exact.ok_no_err, Texts.formed_found, Texts.found, Texts.refused_wrong, Texts.surplus_wrong}
use Rattle.grammar.specs.{Ending.Has, Ending.IsLast, Laws.NoneGoesOn, Nodes.Item, Nodes.Node, Nodes.next, Nodes.spell, declared.terminals.Terminal.Terminal}
use Rattle.grammar.specs.Reading.{Deep, Read, Refusal, Unfit, read, unread_of}
use Rattle.grammar.specs.declared.terminals.Terminal.TheVariants as k
use Rattle.pas_tree.{proofs.Decided.pascal_decided, specs.FirstFollow.pascal, specs.Rules.program_rule}
use Rattle.pas_tree.specs.Rules as r
use Rattle.pas_phrases.proofs.NextToken.{items_cons, items_end}
use Rattle.pas_phrases.specs.{Items.Fails, Items.items_from, Items.numbered, declared.fault.ParseFault.ParseFault}
use Rattle.pas_parser.specs.Formed.{IsFormed, IsRefusal, IsRefusedAt, IsTheTree, NoFormedGoesOn}
use Rattle.pas_parser.specs.Kinds.{terminal_of, terminals_of}

-- what the reader makes of the terminals of a source
abbrev pub program_read : List Terminal → Read
program_read ks = read pascal 200 program_rule (items_from ks 0)

-- it reads this tree, up to this place
abbrev pub IsRead : List Terminal → Node → ℕ → Type 0
IsRead ks y after = program_read ks ≡ Ok (y, items_from ks after)

pub length-numbered : (n : ℕ) (ks : List Terminal) → length (numbered n ks) ≡ length ks
length-numbered n [] = refl
length-numbered n (k ∷ ks) = ap suc (length-numbered (n + 1) ks)

length-items : (ks : List Terminal) (n : ℕ) → n ≤ length ks → length (items_from ks n) + n ≡ length ks
unfolding items_from
length-items ks n h = omega (arith, length-numbered n (drop n ks), length-drop n ks)

-- a list cut at a place
begins_at : (ks : List Terminal) (front : List Item) (i : ℕ) (d : Terminal) → i < length ks → items_from ks 0 ≡ front ++ items_from ks i
    → take (i + 1) (items_from ks 0) ≡ front ++ record { kind = get_or ks i d; number = i } ∷ []
begins_at ks front i d h e =
    let here : Item = record { kind = get_or ks i d; number = i } in
    let left : items_from ks i ≡ here ∷ items_from ks (i + 1) = items_cons ks i d h in
    let all : items_from ks 0 ≡ (front ++ here ∷ []) ++ items_from ks (i + 1) =
    e ∙ ap (λ (l : List Item). front ++ l) left ∙ sym (append_assoc front (here ∷ []) (items_from ks (i + 1))) in
    let len : length (front ++ here ∷ []) ≡ i + 1 =
    omega (
      arith,
      length-append front (here ∷ []),
      length-append front (items_from ks i),
      ap length e,
      length-items ks i (omega arith),
      length-items ks 0
          (omega arith),
    ) in
    ap (take (i + 1)) all ∙ take_at (front ++ here ∷ []) (items_from ks (i + 1)) (i + 1) len

-- the token after the last one stands there alone
pascal_ends : IsLast k.End pascal program_rule ≡ true
unfolding r.next_factor_rule r.term_rule r.next_term_rule r.sign_rule r.simple_rule r.relation_rule r.expression_rule r.next_expression_rule r.index_rule
    r.selector_rule r.selectors_rule r.access_rule r.arguments_rule r.member_rule r.next_member_rule r.members_rule r.named_factor_rule r.paren_rule
    r.factor_rule r.next_name_rule r.names_rule r.constant_rule r.next_constant_rule r.constants_rule r.range_rule r.limit_rule r.enumeration_rule
    r.next_denoter_rule r.array_rule r.section_rule r.variants_rule r.fixed_rule r.fields_rule r.arm_rule r.tag_rule r.variant_part_rule r.record_rule
    r.set_rule r.structure_rule r.structured_rule r.named_denoter_rule r.subrange_rule r.denoter_rule r.spec_rule r.next_spec_rule r.specs_rule
    r.formal_type_rule r.packed_schema_rule r.unpacked_schema_rule r.schema_rule r.variables_formal_rule r.formal_rule r.next_formal_rule r.formals_rule
    r.procedure_rule r.result_rule r.function_rule r.heading_rule r.next_statement_rule r.statements_rule r.compound_rule r.actual_rule r.next_actual_rule
    r.actuals_rule r.assignment_rule r.named_statement_rule r.alternative_rule r.else_rule r.if_rule r.branch_rule r.case_rule r.repeat_rule r.while_rule
    r.for_rule r.next_access_rule r.with_rule r.goto_rule r.counted_rule r.plain_rule r.label_rule r.statement_rule r.next_label_rule r.label_part_rule
    r.constant_definition_rule r.constant_part_rule r.type_definition_rule r.type_part_rule r.variable_declaration_rule r.variable_part_rule r.body_rule
    r.routine_rule r.routines_rule r.block_rule r.parameters_rule r.program_rule
pascal_ends = refl

has_drop : (ks : List Terminal) (i m : ℕ) → Has k.End (numbered m (drop i ks)) → i < length ks
has_drop [] zero m h = absurd h
has_drop [] (suc i) m h = absurd h
has_drop (j ∷ ks) zero m h = omega arith
has_drop (j ∷ ks) (suc i) m h = let less : i < length ks = has_drop ks i m h in omega arith

has_inside : (ks : List Terminal) (i : ℕ) → Has k.End (items_from ks i) → i < length ks
unfolding items_from
has_inside ks i h = has_drop ks i i h

has_numbered : (front : List Terminal) (n : ℕ) → Has k.End (numbered n (front ++ k.End ∷ []))
has_numbered [] n = inl refl
has_numbered (j ∷ front) n = inr (has_numbered front (n + 1))

-- the tokens of a source have it
pub ends_there : (tokens : List Token) → EndsOnce tokens → Has k.End (items_from (terminals_of tokens) 0)
unfolding items_from
ends_there tokens e =
    let f : Token → Terminal = λ t. terminal_of t.kind in
    let same : terminals_of tokens ≡ terminals_of e.0 ++ k.End ∷ [] =
    ap terminals_of e.2 ∙ map_push f e.0 e.1 ∙ ap (λ (x : TokenKind). terminals_of e.0 ++ terminal_of x ∷ []) e.3 in
    subst (λ (l : List Terminal). Has k.End (numbered 0 l)) (sym same) (has_numbered (terminals_of e.0) 0)

no_formed_goes_on : (ks : List Terminal) (i : ℕ) → i < length ks → NoneGoesOn IsFormed (items_from ks 0) (items_from ks i) → NoFormedGoesOn ks i
no_formed_goes_on [] i h r = λ x formed b. omega arith
no_formed_goes_on (d ∷ ks') i h r = λ x formed b.
    let ks = d ∷ ks' in
    let here : Item = record { kind = get_or ks i d; number = i } in
    let same : spell x ≡ r.0 ++ (here ∷ b.0) = b.1 ∙ ap (λ (l : List Item). l ++ b.0) (begins_at ks r.0 i d h r.1) ∙ append_assoc r.0 (here ∷ []) b.0 in
    r.2 x (here ∷ b.0) formed same (sym (ap next (items_cons ks i d h)))

at_token : (ks : List Terminal) (i : ℕ) (r : Refusal) → unread_of r ≡ items_from ks i → Has k.End (items_from ks 0) → program_read ks ≡ Err r → IsRefusedAt ks i
at_token ks i r left h given =
    let there = subst (Has k.End) left (refused_inside k.End pascal program_rule pascal_ends 200 (items_from ks 0) r h given) in
    let inside = has_inside ks i there in (
      inside,
      no_formed_goes_on ks i inside (subst (NoneGoesOn IsFormed (items_from ks 0)) left
          (refused_wrong pascal program_rule pascal_decided 200 (items_from ks 0) r given)),
    )

pub refused_there : (tokens : List Token) (e : ParseFault) → EndsOnce tokens → Fails (terminals_of tokens) e (program_read (terminals_of tokens))
    → IsRefusal tokens (Err e)
refused_there tokens (ParseFault.NotProgram i) ended given = at_token (terminals_of tokens) i (Unfit (items_from (terminals_of tokens) i)) refl
    (ends_there tokens ended) given
refused_there tokens (ParseFault.TooDeep i) ended given = at_token (terminals_of tokens) i (Deep (items_from (terminals_of tokens) i)) refl
    (ends_there tokens ended) given
refused_there tokens ParseFault.Memory ended given = tt

again : (ks : List Terminal) (x : Node) → IsFormed x → spell x ≡ items_from ks 0 → program_read ks ≡ Ok (x, [])
again ks x formed same = ap (read pascal 200 program_rule) (sym same) ∙ formed_found pascal program_rule pascal_decided 200 x formed

pub not_that : (ks : List Terminal) (e : ParseFault) (x : Node) → Fails ks e (program_read ks) → IsFormed x → spell x ≡ items_from ks 0 → IsTheTree x (Err e)
not_that ks (ParseFault.NotProgram i) x given formed same = ok_no_err (x, []) (Unfit (items_from ks i)) (sym (again ks x formed same) ∙ given)
not_that ks (ParseFault.TooDeep i) x given formed same = ok_no_err (x, []) (Deep (items_from ks i)) (sym (again ks x formed same) ∙ given)
not_that ks ParseFault.Memory x given formed same = tt

pub that : (ks : List Terminal) (y x : Node) (after : ℕ) → IsRead ks y after → IsFormed x → spell x ≡ items_from ks 0 → y ≡ x
that ks y x after given formed same = ap (λ (z : Node × List Item). z.0) (ok_is (y, items_from ks after) (x, []) (sym given ∙ again ks x formed same))

pub whole : (ks : List Terminal) (y : Node) (after : ℕ) → IsRead ks y after → length ks ≤ after → IsFormed y × (spell y ≡ items_from ks 0)
whole ks y after given h = found pascal program_rule pascal_decided 200 (items_from ks 0) y (given ∙ ap (λ (l : List Item). Ok (y, l)) (items_end ks after h))

pub too_long : (ks : List Terminal) (y : Node) (after : ℕ) → IsRead ks y after → after < length ks → NoFormedGoesOn ks after
too_long [] y after given h = λ x formed b. omega arith
too_long (d ∷ ks') y after given h =
    let ks = d ∷ ks' in
    let here : Item = record { kind = get_or ks after d; number = after } in
    let left : items_from ks after ≡ here ∷ items_from ks (after + 1) = items_cons ks after d h in
    let none = surplus_wrong pascal program_rule pascal_decided 200 (items_from ks 0) y here (items_from ks (after + 1))
    (given ∙ ap (λ (l : List Item). Ok (y, l)) left) in
    no_formed_goes_on ks after h (subst (NoneGoesOn IsFormed (items_from ks 0)) (sym left) none)

pub not_that_either : (ks : List Terminal) (y x : Node) (after : ℕ) → IsRead ks y after → after < length ks → IsFormed x → spell x ≡ items_from ks 0 → ⊥
not_that_either [] y x after given h formed same = absurd (omega arith)
not_that_either (d ∷ ks') y x after given h formed same =
    let rests : items_from (d ∷ ks') after ≡ [] = ap (λ (z : Node × List Item). z.1)
    (ok_is (y, items_from (d ∷ ks') after) (x, []) (sym given ∙ again (d ∷ ks') x formed same)) in
    let more = items_cons (d ∷ ks') after d h in
    cc

-- the same of terminals that are those of tokens
pub failed_there : (ks all : List Terminal) (e : ParseFault) → ks ≡ all → Fails ks e (program_read ks) → Fails all e (program_read all)
failed_there ks all e same f = subst (λ (l : List Terminal). Fails l e (program_read l)) same f

pub read_there : (ks all : List Terminal) (y : Node) (after : ℕ) → ks ≡ all → IsRead ks y after → IsRead all y after
read_there ks all y after same h = subst (λ (l : List Terminal). IsRead l y after) same h
