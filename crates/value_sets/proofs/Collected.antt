-- Which set a list of values gives.
use Rattle.std.proofs.Common.{◌≡◌, ◌↔◌, inl, inr, sym, subst, ◌≤◌, List, [], ◌∷◌, Result, Ok, Err}
use Rattle.std.specs.List.{AllByRecursion, Contains}
use Rattle.event_values.specs.declared.value.Value.{Value}
use Rattle.event_values.specs.declared.value.Value.TheVariants as value
use Rattle.event_values.specs.Order.{value_nodes, ascending}
use Rattle.event_values.specs.Reading.{most_nodes}
use Rattle.event_values.proofs.Orders.{ascending_ascends, ascending_members}
use Rattle.value_sets.specs.declared.fault.ValueFault.{ValueFault}
use Rattle.value_sets.specs.Sets.{IsMade, IsCollected, IsTold}
use Rattle.value_sets.proofs.Keeping.{contained_first, contained_later}

pub all_of : (P : Value → Type 0) (us : List Value) → ((x : Value) → Contains us x → P x) → AllByRecursion P us
all_of P [] f = tt
all_of P (u ∷ us) f = (f u (contained_first u us), all_of P us (λ x c. f x (contained_later u us x c)))

collected_of : (vs : List Value) (r : Result Value ValueFault) → IsMade (value.Set (ascending vs)) r → IsCollected (Contains vs) r
collected_of vs (Ok made) m = (ascending vs, m.0, ascending_ascends vs, ascending_members vs, subst (λ v. value_nodes v ≤ most_nodes) (sym m.0) m.1)
collected_of vs (Err fault) m = (m.0, ascending vs, ascending_ascends vs, all_of (Contains vs) (ascending vs) (λ x c. (ascending_members vs x).0 c), m.1)

pub told_collected : (vs set : List Value) (r : Result Value ValueFault) → set ≡ ascending vs → IsMade (value.Set set) r → IsTold (IsCollected (Contains vs)) r
told_collected vs set r e m = inr (collected_of vs r (subst (λ us. IsMade (value.Set us) r) e m))

pub ruleset collections = (told_collected)

-- a set is that of what holds of the same values
all_alike : (P Q : Value → Type 0) → ((x : Value) → P x → Q x) → (us : List Value) → AllByRecursion P us → AllByRecursion Q us
all_alike P Q f [] all = tt
all_alike P Q f (u ∷ us) all = (f u all.0, all_alike P Q f us all.1)

pub collected_alike : (P Q : Value → Type 0) → ((x : Value) → P x ↔ Q x) → (r : Result Value ValueFault) → IsCollected P r → IsCollected Q r
collected_alike P Q same (Ok made) c = (c.0, c.1, c.2, (λ x. ((λ h. (same x).0 ((c.3 x).0 h)), (λ h. (c.3 x).1 ((same x).1 h)))), c.4)
collected_alike P Q same (Err fault) c = (c.0, c.1, c.2, all_alike P Q (λ x. (same x).0) c.1 c.3, c.4)

pub told_alike : (P Q : Value → Type 0) → ((x : Value) → P x ↔ Q x) → (r : Result Value ValueFault) → IsTold (IsCollected P) r → IsTold (IsCollected Q) r
told_alike P Q same r (inl e) = inl e
told_alike P Q same r (inr c) = inr (collected_alike P Q same r c)

-- the set of a list that is this one
pub told_list : (found list : List Value) (P : Value → Type 0) → ((x : Value) → Contains list x ↔ P x) → found ≡ list → (r : Result Value ValueFault)
    → IsTold (IsCollected (Contains found)) r → IsTold (IsCollected P) r
told_list found list P same e r answered =
    told_alike (Contains found) P (λ x. ((λ c. (same x).0 (subst (λ vs. Contains vs x) e c)), (λ p. subst (λ vs. Contains vs x) (sym e) ((same x).1 p)))) r answered
