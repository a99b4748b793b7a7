use Rattle.std.proofs.Common.{◌≡◌, ◌∙◌, ◌||◌, ap, sym, true, bytes_eq}
use Rattle.formula_core.specs.Env.{HasDistinctNames}
use Rattle.model_core.specs.Borrowed.{has}
use Rattle.context_check.specs.Brought.{IsSeen}
use Rattle.context_check.specs.Views.{visible}
use Rattle.context_check.proofs.Seen.{by_known, none_noted, seen_again, seen_once, seen_still}
use Rattle.context_check.proofs.brought.add_once.Goals as goal

pub returns-then-has : goal.returns-then-has
returns-then-has c =
    let known : has c.args.brought.now.names c.args.reference.now.name ≡ true = ap (has c.args.brought.now.names) (sym c.as_text-name.ensures.text) ∙ sym c.has.ensures ∙ c.if-has.true in
    record {
      seen = λ named at h. seen_again c.args.context.now (visible c.args.view.now) (h.seen c.args.reference.now.name c.args.context.now at known);
      brought = λ named at h. h;
      indexed = c.requires;
      distinct = λ named at h. h.distinct c.args.reference.now.name c.args.context.now at known;
    }

pub returns : goal.returns
returns c =
    let old = visible c.args.view.now in
    let new = visible c.add_context.new.view in
    let name = c.args.reference.now.name in
    let context = c.args.context.now in
    let grown = c.in_ok-add_context.ensures.seen in
    record {
      seen = λ named at h. grown;
      brought = λ named at h. record {
        seen = λ key d is known.
            by_known (λ e. IsSeen e new) named key name d context (has c.args.brought.now.names key) (has c.put.new.texts key)
            (c.in_ok-put.ensures key ∙ ap (λ n. has c.args.brought.now.names key || bytes_eq key n) c.as_text-name.ensures.text) known is at
            (λ before. seen_still d context old new grown (h.seen key d is before)) (seen_once context old new grown);
        distinct = λ key d is known.
            by_known (λ e. HasDistinctNames e.env) named key name d context (has c.args.brought.now.names key) (has c.put.new.texts key)
            (c.in_ok-put.ensures key ∙ ap (λ n. has c.args.brought.now.names key || bytes_eq key n) c.as_text-name.ensures.text) known is at
            (λ before. h.distinct key d is before) c.in_ok-add_context.ensures.distinct;
        clashes = none_noted named new c.clear.new.self c.clear.ensures.empty;
      };
      indexed = c.in_ok-add_context.ensures.indexed;
      distinct = λ named at h. c.in_ok-add_context.ensures.distinct;
    }
