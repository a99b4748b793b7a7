use Rattle.std.proofs.Common.{rules, ◌≡◌, ◌++◌, ◌∷◌, [], None, true, inl, refl, ap, ◌∙◌}
use Rattle.std.specs.Option.{is_some}
use Rattle.pool_run.specs.declared.tray.Step.{Step as Action}
use Rattle.pool_run.specs.declared.tray.Entry.TheVariants.{Step}
use Rattle.pool_run.specs.declared.tray.What.TheVariants.{Finish}
use Rattle.pool_run.specs.Tray.{outcome_of}
use Rattle.pool_run.proofs.Trays.{log_with, one_more, kept_marked}
use Rattle.pool_run.proofs.tray.TrayWork.finish.Goals as goal

pub returns-then-is_some-clause-finished : goal.returns-then-is_some-clause-finished
returns-then-is_some-clause-finished c = let h : is_some c.args.self.now.fault ≡ true = search rules in (inl refl, kept_marked c.args.self.now.steps.items c.args.self.now.fault h)

pub returns-clause-finished : goal.returns-clause-finished
returns-clause-finished c =
    let none : c.args.self.now.fault ≡ None = search rules in
    let a : Action = record { chair = c.args.chair; what = Finish c.args.ticket (outcome_of c.args.attempt) } in
    let e : c.push_reserved.new.self.items ≡ c.args.self.now.steps.items ++ a ∷ [] = search rules in
    (Step a, refl, ap (λ l. log_with l c.args.self.now.fault) e ∙ one_more c.args.self.now.steps.items c.args.self.now.fault a none, (refl, refl))
