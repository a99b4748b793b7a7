use Rattle.std.proofs.Common.{rules, ◌≡◌, ◌++◌, ◌∷◌, [], Some, None, true, inl, refl, ap, ◌∙◌}
use Rattle.std.specs.Option.{is_some}
use Rattle.pool_run.specs.declared.tray.Step.{Step as Action}
use Rattle.pool_run.specs.declared.tray.Entry.TheVariants.{Step}
use Rattle.pool_run.specs.declared.tray.What.TheVariants.{Take}
use Rattle.pool_run.proofs.Trays.{log_with, one_more, kept_marked}
use Rattle.pool_run.proofs.tray.TrayWork.take.Goals as goal

pub returns-then-is_some-clause-took : goal.returns-then-is_some-clause-took
returns-then-is_some-clause-took c = let h : is_some c.args.self.now.fault ≡ true = search rules in (inl refl, kept_marked c.args.self.now.steps.items c.args.self.now.fault h)

pub returns-then-number-eq0-clause-took : goal.returns-then-number-eq0-clause-took
returns-then-number-eq0-clause-took c =
    let none : c.args.self.now.fault ≡ None = search rules in
    let a : Action = record { chair = c.args.chair; what = Take None } in
    let e : c.push_reserved.new.self.items ≡ c.args.self.now.steps.items ++ a ∷ [] = search rules in
    (Step a, refl, ap (λ l. log_with l c.args.self.now.fault) e ∙ one_more c.args.self.now.steps.items c.args.self.now.fault a none, tt)

pub returns-clause-took : goal.returns-clause-took
returns-clause-took c =
    let none : c.args.self.now.fault ≡ None = search rules in
    let a : Action = record { chair = c.args.chair; what = Take (Some c.args.self.now.left) } in
    let e : c.push_reserved-2.new.self.items ≡ c.args.self.now.steps.items ++ a ∷ [] = search rules in
    ((Step a, refl, ap (λ l. log_with l c.args.self.now.fault) e ∙ one_more c.args.self.now.steps.items c.args.self.now.fault a none, search rules), search rules)
