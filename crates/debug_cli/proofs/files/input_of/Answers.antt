use Rattle.std.proofs.Common.{ℕ, Bor, IfOk, List, Option, ap, inl, inr, option_map, refl, subst, sym}
use Rattle.debug_cli.proofs.files.input_of.Goals as goal
use Rattle.debug_cli.specs.{Named.IsInput, Reading.requested_by}

pub returns-in-Some-clause-input : goal.returns-in-Some-clause-input
returns-in-Some-clause-input g c =
    subst (λ (o : Option (Bor (List ℕ))). IfOk c.fetched.result (λ b. IsInput (g.K.Keeper.files c.args.keeper.now) (option_map (λ n. n.now) o) b))
    (sym c.in-Some.is) c.fetched.ensures.bytes

pub returns-in-Some-clause-refused : goal.returns-in-Some-clause-refused
returns-in-Some-clause-refused g c =
    c.fetched.ensures.refused (requested_by c.args.request.now) (inr (inl (c.requires, ap (option_map (λ n. n.now)) c.in-Some.is, refl)))

pub returns-in-None-clause-input : goal.returns-in-None-clause-input
returns-in-None-clause-input g c =
    subst (λ (o : Option (Bor (List ℕ))). IsInput (g.K.Keeper.files c.args.keeper.now) (option_map (λ n. n.now) o) c.new.result) (sym c.in-None.is)
    c.new.ensures
