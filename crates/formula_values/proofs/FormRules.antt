-- Forms over the values of their operands.
use Rattle.std.proofs.Common.{◌≡◌, ◌∙◌, ap, sym, subst, refl, inl, inr, ℤ, ◌≤◌, Bool, true, false, List, [], ◌∷◌, map, length, Option, Some, None, Result, Ok, Err, arith}
use Rattle.std.specs.Prelude.{◌↔◌, MatchOption, IsTrue, not}
use Rattle.std.specs.List.{Contains}
use Rattle.formula_core.specs.declared.op.Op.{Op}
use Rattle.formula_core.specs.declared.op.Op.TheVariants as op
use Rattle.event_values.specs.declared.value.Value.{Value}
use Rattle.event_values.specs.declared.value.Value.TheVariants as value
use Rattle.value_sets.specs.declared.fault.ValueFault.{ValueFault}
use Rattle.value_sets.specs.declared.fault.ValueFault.TheVariants.{NotComputed, Undefined}
use Rattle.value_sets.specs.Sets.{set_members, integer_of, InInterval, Within, IsLeast, IsGreatest, IsCollected, IsTold}
use Rattle.value_sets.proofs.Keeping.{no_true, contains_none}
use Rattle.formula_values.specs.declared.forms.Unary.{Unary}
use Rattle.formula_values.specs.declared.forms.Binary.{Binary}
use Rattle.formula_values.specs.declared.forms.Binary.TheVariants as binary
use Rattle.formula_values.specs.declared.operand.Operand.{Operand}
use Rattle.formula_values.specs.Means.{constant_of, unary_of, binary_of, GivesUnary, GivesBinary, GivesSome, GivesMany, IsEnd}
use Rattle.formula_values.specs.Private.{held, is_extension}

-- THE ENDS OF A SET

end_of : (holds : ℤ → Type 0) (vs : List Value) (x : Value) (n : ℤ) → Contains vs x → holds n → IsEnd holds vs (Ok (value.Int n))
end_of holds [] x n c h = absurd (contains_none x c)
end_of holds (v ∷ vs) x n c h = (n, refl, h)

pub least_end : (s : Value) (n : ℤ) → IsLeast s n → IsEnd (IsLeast s) (set_members s) (Ok (value.Int n))
least_end s n h = end_of (IsLeast s) (set_members s) h.0 n h.1 h

pub greatest_end : (s : Value) (n : ℤ) → IsGreatest s n → IsEnd (IsGreatest s) (set_members s) (Ok (value.Int n))
greatest_end s n h = end_of (IsGreatest s) (set_members s) h.0 n h.1 h

pub greatest_of_some : (s : Value) (n k : ℤ) → k ≡ n → IsGreatest s n → IsEnd (IsGreatest s) (set_members s) (Ok (value.Int k))
greatest_of_some s n k e h = subst (λ m. IsEnd (IsGreatest s) (set_members s) (Ok (value.Int m))) (sym e) (greatest_end s n h)

pub no_end : (holds : ℤ → Type 0) (vs : List Value) → vs ≡ [] → IsEnd holds vs (Err Undefined)
no_end holds vs e = subst (λ us. IsEnd holds us (Err Undefined)) (sym e) refl

pub ruleset least_ends = (least_end, no_end)

pub ruleset greatest_ends = (greatest_end, no_end)

-- TRUTH VALUES

not_true : (b : Bool) → not b ≡ true → b ≡ false
not_true true h = absurd (no_true h)
not_true false h = refl

true_not : (b : Bool) → b ≡ false → not b ≡ true
true_not b e = ap not e

pub both_true : (a b : Bool) → a ≡ true → IsTrue b ↔ (a ≡ b)
both_true a b e = ((λ h. e ∙ sym h), (λ h. sym h ∙ e))

pub both_false : (a b : Bool) → a ≡ false → IsTrue (not b) ↔ (a ≡ b)
both_false a b e = ((λ h. e ∙ sym (not_true b h)), (λ h. true_not b (sym h ∙ e)))

pub ruleset truths = (both_true, both_false)

pub proper : (s t : Value) (a b : Bool) → (IsTrue a ↔ Within s t) → (IsTrue b ↔ Within t s) → a ≡ true → IsTrue (not b) ↔ (Within s t × (Within t s → ⊥))
proper s t a b f g e = (
  (λ h. (f.0 e, (λ w. no_true (sym (not_true b h) ∙ g.1 w)))),
  (λ h. go b refl h.1),
)
  where
    go : (c : Bool) → b ≡ c → (Within t s → ⊥) → not b ≡ true
    go true is n = absurd (n (g.0 is))
    go false is n = true_not b is

pub improper : (s t : Value) (a : Bool) → (IsTrue a ↔ Within s t) → a ≡ false → IsTrue false ↔ (Within s t × (Within t s → ⊥))
improper s t a f e = ((λ h. absurd (no_true h)), (λ h. absurd (no_true (sym e ∙ f.1 h.0))))

pub ruleset propers = (proper, improper)

-- AN INTERVAL

pub between : (form : Binary) (v w : Value) (m n : ℤ) (r : Result Value ValueFault) → form ≡ binary.Interval → m ≡ integer_of v → n ≡ integer_of w
    → IsTold (IsCollected (InInterval m n)) r → IsTold (GivesBinary form v w) r
between form v w m n r is e f answered =
    subst (λ x. IsTold (GivesBinary x v w) r) (sym is)
    (subst (λ z. IsTold (IsCollected (InInterval z (integer_of w))) r) e (subst (λ z. IsTold (IsCollected (InInterval m z)) r) f answered))

-- BY HOW MANY OPERANDS THERE ARE

pub constant_some : (o : Op) (found : Option Value) (v : Value) → found ≡ constant_of o → found ≡ Some v → IsTold (GivesSome o []) (Ok v)
constant_some o found v e f =
    let Q : Option Value → Type 0 = λ x. MatchOption x (◌≡◌ {A = Result Value ValueFault} (Ok v) (Err NotComputed)) (λ w. ◌≡◌ {A = Result Value ValueFault} (Ok v) (Ok w)) in
    inr (subst Q (sym f ∙ e) refl)

pub constant_none : (o : Op) (found : Option Value) → found ≡ constant_of o → found ≡ None → IsTold (GivesSome o []) (Err NotComputed)
constant_none o found e f =
    let Q : Option Value → Type 0 = λ x. MatchOption x (◌≡◌ {A = Result Value ValueFault} (Err NotComputed) (Err NotComputed)) (λ w. ◌≡◌ {A = Result Value ValueFault} (Err NotComputed) (Ok w)) in
    inr (subst Q (sym f ∙ e) refl)

pub ruleset constants = (constant_some, constant_none)

pub unary_some : (o : Op) (form : Unary) (v w : Value) (r : Result Value ValueFault) → unary_of o ≡ Some form → w ≡ v → IsTold (GivesUnary form w) r
    → IsTold (GivesSome o (v ∷ [])) r
unary_some o form v w r e same (inl m) = inl m
unary_some o form v w r e same (inr m) =
    let Q : Option Unary → Type 0 = λ x. MatchOption x (◌≡◌ {A = Result Value ValueFault} r (Err NotComputed)) (λ u. GivesUnary u v r) in
    inr (subst Q (sym e) (subst (λ x. GivesUnary form x r) same m))

pub unary_none : (o : Op) (v : Value) → unary_of o ≡ None → IsTold (GivesSome o (v ∷ [])) (Err NotComputed)
unary_none o v e =
    let Q : Option Unary → Type 0 = λ x. MatchOption x (◌≡◌ {A = Result Value ValueFault} (Err NotComputed) (Err NotComputed)) (λ u. GivesUnary u v (Err NotComputed)) in
    inr (subst Q (sym e) refl)

pub binary_some : (o : Op) (form : Binary) (v w x y : Value) (r : Result Value ValueFault) → binary_of o ≡ Some form → x ≡ v → y ≡ w → IsTold (GivesBinary form x y) r
    → IsTold (GivesSome o (v ∷ w ∷ [])) r
binary_some o form v w x y r e same also (inl m) = inl m
binary_some o form v w x y r e same also (inr m) =
    let Q : Option Binary → Type 0 = λ z. MatchOption z (◌≡◌ {A = Result Value ValueFault} r (Err NotComputed)) (λ u. GivesBinary u v w r) in
    inr (subst Q (sym e) (subst (λ z. GivesBinary form z w r) same (subst (λ z. GivesBinary form x z r) also m)))

pub binary_none : (o : Op) (v w : Value) → binary_of o ≡ None → IsTold (GivesSome o (v ∷ w ∷ [])) (Err NotComputed)
binary_none o v w e =
    let Q : Option Binary → Type 0 = λ z. MatchOption z (◌≡◌ {A = Result Value ValueFault} (Err NotComputed) (Err NotComputed)) (λ u. GivesBinary u v w (Err NotComputed)) in
    inr (subst Q (sym e) refl)

pub many_operands : (o : Op) (operands : List Operand) → 3 ≤ length operands → IsTold (GivesSome o (map held operands)) (Err NotComputed)
many_operands o [] n = absurd (omega (arith, n))
many_operands o (a ∷ []) n = absurd (omega (arith, n))
many_operands o (a ∷ b ∷ []) n = absurd (omega (arith, n))
many_operands o (a ∷ b ∷ c ∷ others) n = inr refl

pub ruleset counts = (unary_some, unary_none, binary_some, binary_none)

-- SET EXTENSIONS

pub extended : (o : Op) (vs members : List Value) (r : Result Value ValueFault) → is_extension o ≡ true → members ≡ vs → IsTold (IsCollected (Contains members)) r
    → IsTold (GivesMany o vs) r
extended op.SetExtension vs members r e same m = subst (λ us. IsTold (IsCollected (Contains us)) r) same m
extended _ vs members r e same m = absurd (no_true e)

pub not_extended : (o : Op) (vs : List Value) (r : Result Value ValueFault) → is_extension o ≡ false → IsTold (GivesSome o vs) r → IsTold (GivesMany o vs) r
not_extended op.SetExtension vs r e m = absurd (no_true (sym e))
not_extended _ vs r e m = m

pub ruleset extensions = (extended, not_extended)
