use Rattle.std.proofs.Common.{◌≡◌, ◌∙◌, sym, ap, subst, T, rules}
use Rattle.std.specs.FinMap.{is_sorted, from_sorted}
use Rattle.std.specs.FinMap.Entries.{is_sorted-where_key}
use Rattle.std.proofs.lemmas.Fn.{filter_same}
use Rattle.core_steps.specs.Durable.{text_cmp}
use Rattle.core_steps.specs.PrivateNames.{AreAscending, is_none_of}
use Rattle.core_steps.specs.State.{without_all}
use Rattle.core_steps.proofs.Removed.{removed}
use Rattle.core_steps.proofs.maps.PoMap.remove_all.Goals as goal

pub invariant_of-self : goal.invariant_of-self
invariant_of-self g c =
    let names = c.args.names.now in
    let es = c.self.inside.entries.items in
    let order : AreAscending names = c.if-is_sorted.ensures.cases in
    let kept = filter_same _ (λ e. is_none_of names e.0) _ (λ e b f' k. (subst (λ x. b ≡ is_none_of names x.0) k.shows (search (rules, order)), search rules)) _ _ c.retain.ensures.filtered in
    subst (λ fs. T (is_sorted text_cmp fs)) (sym kept) (is_sorted-where_key text_cmp (is_none_of names) es c.self.invariant)

pub returns-then-is_sorted : goal.returns-then-is_sorted
returns-then-is_sorted g c =
    let names = c.args.names.now in
    let order : AreAscending names = c.if-is_sorted.ensures.cases in
    let kept = filter_same _ (λ e. is_none_of names e.0) _ (λ e b f' k. (subst (λ x. b ≡ is_none_of names x.0) k.shows (search (rules, order)), search rules)) _ _ c.retain.ensures.filtered in
    ap (λ fs. from_sorted {R = text_cmp} fs) kept
    ∙ removed c.self.inside.entries.items c.self.invariant names
    ∙ ap (λ m. without_all m names) c.self.view_is
