use Rattle.std.proofs.Common.{rules, ◌≡◌, ◌∙◌, sym, ap, subst, ℕ, List, ◌++◌, ◌∷◌, [], length, cond}
use Rattle.std.specs.Prelude.{Some}
use Rattle.std.specs.BTreeMap.{is_at}
use Rattle.std.specs.Ordering.{nat_cmp}
use Rattle.std.specs.Cmp.Lexicographic.{slice_cmp}
use Rattle.formula_core.specs.PrivatePlaces.{HasPlaces}
use Rattle.formula_core.proofs.Places.{place, places_new}
use Rattle.formula_core.proofs.free.add_with_place.Goals as goal

pub returns-clause-places : goal.returns-clause-places
returns-clause-places c =
    let items : c.push.new.self.items ≡ c.args.found.now.identifiers.items ++ (c.args.name.now, c.args.ty.now) ∷ [] = search rules in
    let at : c.len-place.result ≡ length c.args.found.now.identifiers.items = search rules in
    let named : c.in_ok-copy.field-0 ≡ c.args.name.now = search rules in
    let noted : (q : List ℕ) → place q c.insert.new.self.entries ≡ cond (is_at (slice_cmp nat_cmp c.args.name.now) q) (Some (length c.args.found.now.identifiers.items)) (place q c.args.found.now.places.entries)
    = λ q. c.in_ok-insert.ensures.updates.0 q
    ∙ ap (λ n. cond (is_at (slice_cmp nat_cmp n) q) (Some c.len-place.result) (place q c.args.found.now.places.entries)) named
    ∙ ap (λ n. cond (is_at (slice_cmp nat_cmp c.args.name.now) q) (Some n) (place q c.args.found.now.places.entries)) at in
    subst (λ found. HasPlaces found c.insert.new.self.entries) (sym items)
    (places_new c.args.found.now.identifiers.items (c.args.name.now, c.args.ty.now) c.args.found.now.places.entries c.requires c.insert.new.self.entries noted)
