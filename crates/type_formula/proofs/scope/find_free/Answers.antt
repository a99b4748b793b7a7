use Rattle.std.proofs.Common.{◌∙◌, ap, sym, Some}
use Rattle.type_formula.proofs.Entries.{free_there, free_wanted}
use Rattle.type_formula.proofs.scope.find_free.Goals as goal

pub returns-in-Some : goal.returns-in-Some
returns-in-Some c = ap Some c.in_ok-of_type.ensures ∙ sym (free_there c.args.env.now c.args.wanted.now c.args.name.now _ (sym c.in-Some.ensures))

pub returns-in-None : goal.returns-in-None
returns-in-None c = c.in-None.ensures ∙ sym (free_wanted c.args.env.now c.args.wanted.now c.args.name.now (sym c.in_default.ensures))

pub returns-in-Some-find_wanted : goal.returns-in-Some-find_wanted
returns-in-Some-find_wanted c = c.in-Some-find_wanted.ensures ∙ sym (free_wanted c.args.env.now c.args.wanted.now c.args.name.now (sym c.in_default.ensures))
