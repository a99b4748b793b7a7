use Rattle.std.proofs.Common.{◌∙◌, ap, sym}
use Rattle.std.specs.BTreeMap as tree
use Rattle.std.specs.Cmp.Lexicographic.{slice_cmp}
use Rattle.std.specs.Option.{option_copied}
use Rattle.std.specs.Ordering.{nat_cmp}
use Rattle.context_check.specs.Views.{visible}
use Rattle.context_check.proofs.Seen.{noted_more}
use Rattle.context_check.proofs.brought.clash_of.Goals as goal

pub returns-in-Some : goal.returns-in-Some
returns-in-Some c = record {
  found = λ named at h.
      h c.args.reference.now.name c.args.context.now c.in-Some.found.now at
      (sym (c.get.ensures.value ∙ ap (λ n. tree.get_by (λ k. slice_cmp nat_cmp n k.now) c.args.clashes.now) c.as_text-name.ensures.text) ∙ ap option_copied c.in-Some.is);
  noted = λ named at h. h;
}

pub returns : goal.returns
returns c = record {
  found = λ named at h. c.in_ok-found.ensures;
  noted = λ named at h.
      noted_more named (visible c.args.view.now) c.as_text-name.result c.args.clashes.now c.insert.new.self c.in_ok-found.found c.args.reference.now.name c.args.context.now
      c.in_ok-insert.ensures.updates c.as_text-name.ensures.text at c.in_ok-found.ensures h;
}
