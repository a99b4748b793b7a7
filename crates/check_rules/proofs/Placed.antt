-- Places of events by their names, one event after another from the last.
use Rattle.std.proofs.Common.{◌≡◌, ◌<◌, ◌+◌, ◌∙◌, sym, ap, refl, ℕ, Bool, true, false, cond, List, drop, length, get_or, bytes_eq}
use Rattle.std.specs.Prelude.{Option, Some}
use Rattle.std.specs.Borrow.{Bor}
use Rattle.std.specs.BTreeMap.{BTreeMap}
use Rattle.std.specs.BTreeMap as tree
use Rattle.std.specs.Cmp.Lexicographic.{slice_cmp}
use Rattle.std.specs.List.{slice_get}
use Rattle.std.specs.Option.{option_and_then}
use Rattle.std.specs.Ordering.{nat_cmp}
use Rattle.std.proofs.lemmas.Cmp.{nat_list_eq_equiv}
use Rattle.std.proofs.lemmas.List.{at_drop_more}
use Rattle.std.proofs.lemmas.Map.Text.{btree_map_updates_str}
use Rattle.std.proofs.lemmas.Option.{slice_get-get_or}
use Rattle.model_core.specs.declared.checked.CheckedEvent.{CheckedEvent}
use Rattle.check_rules.specs.Events.{event_named}
use Rattle.check_rules.specs.Private.{event_placed}

then_chosen : {X Y : Type 0} (f : X → Option Y) (b : Bool) (x : X) (other : Option X) →
    option_and_then f (cond b (Some x) other) ≡ cond b (f x) (option_and_then f other)
then_chosen f true x other = refl
then_chosen f false x other = refl

pub one_placed : (m : List CheckedEvent) (i : ℕ) (d : CheckedEvent) → i < length m → (before after : BTreeMap (Bor (List ℕ)) ℕ) (key : Bor (List ℕ)) → key.now ≡ (get_or m i d).name →
    tree.Updates (λ x y. slice_cmp nat_cmp x.now y.now) before after key (Some i) →
    ((name : List ℕ) → event_placed m before name ≡ event_named (drop (i + 1) m) name) →
    (name : List ℕ) → event_placed m after name ≡ event_named (drop i m) name
one_placed m i d inside before after key is u h name =
    let other : Option ℕ = tree.get_by (λ k. slice_cmp nat_cmp name k.now) before in
    let e : CheckedEvent = get_or m i d in
    ap (option_and_then (slice_get m)) (btree_map_updates_str key.now before after (Some i) u name ∙ ap (λ k. cond (bytes_eq k name) (Some i) other) is)
    ∙ then_chosen (slice_get m) (bytes_eq e.name name) i other
    ∙ (λ j. cond (nat_list_eq_equiv.symm e.name name j) (slice_get-get_or m i d inside j) (h name j))
    ∙ sym (at_drop_more (λ xs. event_named xs name) m i d inside)
