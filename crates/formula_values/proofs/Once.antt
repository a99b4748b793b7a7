-- A formula has one meaning.
use Rattle.std.proofs.Common.{◌≡◌, ◌∙◌, ap, sym, subst, refl, ◌⊎◌, ◌↔◌, inl, inr, ℕ, ◌<◌, ◌≤◌, ℤ, Bool, true, false, List, [], ◌∷◌, Option, Some, None, Result, Ok, Err, arith}
use Rattle.std.specs.Prelude.{MatchOption, IsTrue, ◌≤ℤ◌, ◌<ℤ◌, pos, not, length, bytes_eq}
use Rattle.std.specs.List.{AllByRecursion, Contains}
use Rattle.std.specs.Map.{lookup}
use Rattle.std.proofs.lemmas.Int.{ints}
use Rattle.formula_core.specs.declared.op.Op.{Op}
use Rattle.formula_core.specs.declared.op.Op.TheVariants as op
use Rattle.formula_core.specs.declared.formula.Formula.{Formula, out-Formula}
use Rattle.formula_core.specs.declared.formula.Formula.TheVariants.{Int, Free, Bound, Node, Bind}
use Rattle.formula_core.proofs.Induction.{formula_induction}
use Rattle.rule_table.specs.ArithmeticLaws.{computed_value}
use Rattle.rule_table.specs.Linear.{fits_i128}
use Rattle.event_values.specs.declared.value.Value.{Value}
use Rattle.event_values.specs.declared.value.Value.TheVariants as value
use Rattle.event_values.specs.Order.{value_nodes}
use Rattle.event_values.specs.Reading.{most_nodes}
use Rattle.value_sets.specs.declared.fault.ValueFault.{ValueFault}
use Rattle.value_sets.specs.declared.fault.ValueFault.TheVariants.{NotComputed, NoValue, Undefined, TooWide}
use Rattle.value_sets.specs.Sets.{integer_of, set_members, In, InDomain, InRange, InConverse, InUnion, InIntersection, InDifference, InProduct, InDomainRestriction, InDomainSubtraction, InRangeRestriction, InRangeSubtraction, InOverriding, InComposition, InImage, InInterval, Within, InCarrier, IsMade, IsCollected, IsApplied, IsLeast, IsGreatest}
use Rattle.value_sets.proofs.Keeping.{no_true}
use Rattle.value_sets.proofs.Once.{collected_once}
use Rattle.formula_values.specs.declared.forms.Unary.{Unary}
use Rattle.formula_values.specs.declared.forms.Unary.TheVariants as unary
use Rattle.formula_values.specs.declared.forms.Binary.{Binary}
use Rattle.formula_values.specs.declared.forms.Binary.TheVariants as binary
use Rattle.formula_values.specs.declared.values.Values.{Values}
use Rattle.formula_values.specs.Means.{Means, NodeMeans, TwoMean, IsConnected, IsMember, AtLeast, IsNotComputed, AllMean, ByOperands, Gives, GivesMany, GivesSome, GivesUnary, GivesBinary, Says, IsNumber, IsComputed, IsEnd, IsNamed, is_carrier, after_first, truth_of, decided, least_at, constant_of, unary_of, binary_of}
use Rattle.formula_values.specs.Private.{BindMeans}
use Rattle.formula_values.proofs.Meaning.{ok_is_no_err, means_int, means_free, means_bound, means_node, means_bind}

abbrev Answer : Type 0
Answer = Result Value ValueFault

-- at most one answer
abbrev Once : {A : Type 0} → (A → Type 0) → Type 0
Once {A} P = (r s : A) → P r → P s → r ≡ s

exact : {A : Type 0} (x : A) → Once (λ r. r ≡ x)
exact x r s e f = e ∙ sym f

no_both : (b : Bool) → b ≡ true → b ≡ false → ⊥
no_both b e f = no_true (sym f ∙ e)

-- FORMS OVER VALUES

same_truth : (what : Type 0) (b c : Bool) → (IsTrue b ↔ what) → (IsTrue c ↔ what) → b ≡ c
same_truth what true true e f = refl
same_truth what true false e f = absurd (no_true (f.1 (e.0 refl)))
same_truth what false true e f = absurd (no_true (e.1 (f.0 refl)))
same_truth what false false e f = refl

says_once : (what : Type 0) → Once (Says what)
says_once what r s a b = a.1 ∙ ap (λ t. Ok (value.Truth t)) (same_truth what a.0 b.0 a.2 b.2) ∙ sym b.1

number_once : (k : ℤ) (wide : ValueFault) → Once (IsNumber k wide)
number_once k wide (Ok v) (Ok w) a b = ap Ok (a.0 ∙ sym b.0)
number_once k wide (Ok v) (Err fault) a b = absurd (no_both (fits_i128 k) a.1 b.1)
number_once k wide (Err fault) (Ok v) a b = absurd (no_both (fits_i128 k) b.1 a.1)
number_once k wide (Err fault) (Err other) a b = ap Err (a.0 ∙ sym b.0)

option_once : {A : Type 0} (P : Answer → Type 0) (Q : A → Answer → Type 0) → Once P → ((x : A) → Once (Q x)) → (o : Option A) → Once (λ r. MatchOption o (P r) (λ x. Q x r))
option_once P Q p q None = p
option_once P Q p q (Some x) = q x

computed_once : (o : Op) (m n : ℤ) → Once (IsComputed o m n)
computed_once o m n = option_once (λ r. r ≡ Err Undefined) (λ k r. IsNumber k (TooWide m n) r) (exact (Err Undefined)) (λ k. number_once k (TooWide m n)) (computed_value o m n)

end_once : (holds : ℤ → Type 0) → ((m n : ℤ) → holds m → holds n → m ≡ n) → (vs : List Value) → Once (IsEnd holds vs)
end_once holds f [] = exact (Err Undefined)
end_once holds f (v ∷ vs) = λ r s a b. a.1 ∙ ap (λ n. Ok (value.Int n)) (f a.0 b.0 a.2 b.2) ∙ sym b.1

both_ways : (m n : ℤ) → m ≤ℤ n → n ≤ℤ m → m ≡ n
both_ways m n h g = omega (arith, ints, h, g)

least_once : (s : Value) (m n : ℤ) → IsLeast s m → IsLeast s n → m ≡ n
least_once s m n a b =
    both_ways m n (subst (λ k. m ≤ℤ k) (sym b.2) (a.3 b.0 b.1)) (subst (λ k. n ≤ℤ k) (sym a.2) (b.3 a.0 a.1))

greatest_once : (s : Value) (m n : ℤ) → IsGreatest s m → IsGreatest s n → m ≡ n
greatest_once s m n a b =
    both_ways m n (subst (λ k. k ≤ℤ n) (sym a.2) (b.3 a.0 a.1)) (subst (λ k. k ≤ℤ m) (sym b.2) (a.3 b.0 b.1))

unfit : (v : Value) (n : ℕ) → n ≡ value_nodes v → n ≤ most_nodes → most_nodes < value_nodes v → ⊥
unfit v n e h g = omega (arith, e, h, g)

made_once : (v : Value) → Once (IsMade v)
made_once v (Ok x) (Ok y) a b = ap Ok (a.0 ∙ sym b.0)
made_once v (Ok x) (Err fault) a b = absurd (unfit v (value_nodes v) refl a.1 b.1)
made_once v (Err fault) (Ok y) a b = absurd (unfit v (value_nodes v) refl b.1 a.1)
made_once v (Err fault) (Err other) a b = ap Err (a.0 ∙ sym b.0)

applied_once : (f x : Value) → Once (IsApplied f x)
applied_once f x (Ok v) (Ok w) a b = ap Ok (a.0 x v w a.1 b.1)
applied_once f x (Ok v) (Err fault) a b = absurd (b.1 ((v, a.1), a.0))
applied_once f x (Err fault) (Ok w) a b = absurd (a.1 ((w, b.1), b.0))
applied_once f x (Err fault) (Err other) a b = ap Err (a.0 ∙ sym b.0)

unary_once : (form : Unary) (v : Value) → Once (GivesUnary form v)
unary_once unary.Not v = exact (Ok (value.Truth (not (truth_of v))))
unary_once unary.Finite v = exact (Ok (value.Truth true))
unary_once unary.BoolOf v = exact (Ok (value.Truth (truth_of v)))
unary_once unary.Negate v = computed_once op.Minus (pos 0) (integer_of v)
unary_once unary.Cardinality v = exact (Ok (value.Int (pos (length (set_members v)))))
unary_once unary.Minimum v = end_once (IsLeast v) (least_once v) (set_members v)
unary_once unary.Maximum v = end_once (IsGreatest v) (greatest_once v) (set_members v)
unary_once unary.Converse v = collected_once (InConverse v)
unary_once unary.Domain v = collected_once (InDomain v)
unary_once unary.Range v = collected_once (InRange v)

binary_once : (form : Binary) (v w : Value) → Once (GivesBinary form v w)
binary_once binary.Equivalent v w = says_once (truth_of v ≡ truth_of w)
binary_once binary.Equal v w = says_once (v ≡ w)
binary_once binary.Member v w = says_once (In v w)
binary_once binary.ProperSubset v w = says_once (Within v w × (Within w v → ⊥))
binary_once binary.Subset v w = says_once (Within v w)
binary_once binary.Less v w = says_once (integer_of v <ℤ integer_of w)
binary_once binary.LessOrEqual v w = says_once (integer_of v ≤ℤ integer_of w)
binary_once binary.Maplet v w = made_once (value.Pair v w)
binary_once binary.Union v w = collected_once (InUnion v w)
binary_once binary.Intersection v w = collected_once (InIntersection v w)
binary_once binary.Difference v w = collected_once (InDifference v w)
binary_once binary.Product v w = collected_once (InProduct v w)
binary_once binary.DomainRestriction v w = collected_once (InDomainRestriction v w)
binary_once binary.DomainSubtraction v w = collected_once (InDomainSubtraction v w)
binary_once binary.RangeRestriction v w = collected_once (InRangeRestriction v w)
binary_once binary.RangeSubtraction v w = collected_once (InRangeSubtraction v w)
binary_once binary.Overriding v w = collected_once (InOverriding v w)
binary_once binary.Composition v w = collected_once (InComposition v w)
binary_once binary.Interval v w = collected_once (InInterval (integer_of v) (integer_of w))
binary_once binary.Plus v w = computed_once op.Plus (integer_of v) (integer_of w)
binary_once binary.Minus v w = computed_once op.Minus (integer_of v) (integer_of w)
binary_once binary.Times v w = computed_once op.Times (integer_of v) (integer_of w)
binary_once binary.Divide v w = computed_once op.Divide (integer_of v) (integer_of w)
binary_once binary.Modulo v w = computed_once op.Modulo (integer_of v) (integer_of w)
binary_once binary.Power v w = computed_once op.Power (integer_of v) (integer_of w)
binary_once binary.Apply v w = applied_once v w
binary_once binary.Image v w = collected_once (InImage v w)

some_once : (o : Op) (vs : List Value) → Once (GivesSome o vs)
some_once o [] = option_once (λ r. r ≡ Err NotComputed) (λ v r. r ≡ Ok v) (exact (Err NotComputed)) (λ v. exact (Ok v)) (constant_of o)
some_once o (v ∷ []) = option_once (λ r. r ≡ Err NotComputed) (λ form r. GivesUnary form v r) (exact (Err NotComputed)) (λ form. unary_once form v) (unary_of o)
some_once o (v ∷ w ∷ []) = option_once (λ r. r ≡ Err NotComputed) (λ form r. GivesBinary form v w r) (exact (Err NotComputed)) (λ form. binary_once form v w) (binary_of o)
some_once o (v ∷ w ∷ u ∷ vs) = exact (Err NotComputed)

many_once : (o : Op) (vs : List Value) → Once (GivesMany o vs)
many_once op.SetExtension vs = collected_once (Contains vs)
many_once o vs = some_once o vs

gives_once : (o : Op) (x : Result (List Value) ValueFault) → Once (Gives o x)
gives_once o (Ok vs) = many_once o vs
gives_once o (Err fault) = exact (Err fault)

-- NAMES

named_once : (values : Values) (name : List ℕ) (b : Bool) → Once (IsNamed values name b)
named_once values name true =
    option_once (λ r. r ≡ Err (NoValue name)) (λ size r. IsCollected (InCarrier name size) r) (exact (Err (NoValue name))) (λ size. collected_once (InCarrier name size))
    (lookup (bytes_eq name) values.sizes)
named_once values name false =
    option_once (λ r. r ≡ Err (NoValue name)) (λ v r. IsMade v r) (exact (Err (NoValue name))) made_once (lookup (bytes_eq name) values.known)

-- THE ORDER OF EVALUATION

err_same : {A : Type 0} {fault other : ValueFault} → ◌≡◌ {A = Answer} (Err fault) (Err other) → ◌≡◌ {A = Result A ValueFault} (Err fault) (Err other)
err_same {A} e = ap again e
  where
    again : Answer → Result A ValueFault
    again (Ok x) = Err NotComputed
    again (Err x) = Err x

abbrev value_in : Value → Answer → Value
value_in v (Ok w) = w
value_in v (Err fault) = v

ok_same : {v w : Value} → ◌≡◌ {A = Answer} (Ok v) (Ok w) → v ≡ w
ok_same {v} {w} e = ap (value_in v) e

module _ (means : Formula → Answer → Type 0) where
  all_once : (parts : List Formula) → AllByRecursion (λ p. Once (means p)) parts → Once (AllMean (λ f. f) means parts)
  all_once [] each = exact (Ok [])
  all_once (p ∷ ps) each = λ r s a b. go r s a b (all_once ps each.1)
    where
      go : (r s : Result (List Value) ValueFault) → AllMean (λ f. f) means (p ∷ ps) r → AllMean (λ f. f) means (p ∷ ps) s → Once (AllMean (λ f. f) means ps) → r ≡ s
      go r s (inl a) (inl b) rest = a.2 ∙ err_same (each.0 (Err a.0) (Err b.0) a.1 b.1) ∙ sym b.2
      go r s (inl a) (inr b) rest = absurd (ok_is_no_err (each.0 (Ok b.0) (Err a.0) b.1 a.1))
      go r s (inr a) (inl b) rest = absurd (ok_is_no_err (each.0 (Ok a.0) (Err b.0) a.1 b.1))
      go r s (inr a) (inr b) rest =
          a.4 ∙ (λ i. after_first (ok_same (each.0 (Ok a.0) (Ok b.0) a.1 b.1) i) (rest a.2 b.2 a.3 b.3 i)) ∙ sym b.4

  operands_once : (o : Op) (parts : List Formula) → AllByRecursion (λ p. Once (means p)) parts → Once (ByOperands (λ f. f) means o parts)
  operands_once o parts each r s a b =
      gives_once o a.0 r s a.2 (subst (λ x. Gives o x s) (all_once parts each b.0 a.0 b.1 a.1) b.2)

  -- one value of the left side, and then one answer
  left_once : (p : Formula) (then_answers : Value → Answer → Type 0) → Once (means p) → ((v : Value) → Once (then_answers v))
      → Once (λ answer. ((fault : ValueFault) × means p (Err fault) × (answer ≡ Err fault)) ⊎ ((v : Value) × means p (Ok v) × then_answers v answer))
  left_once p then_answers one more r s (inl a) (inl b) = a.2 ∙ err_same (one (Err a.0) (Err b.0) a.1 b.1) ∙ sym b.2
  left_once p then_answers one more r s (inl a) (inr b) = absurd (ok_is_no_err (one (Ok b.0) (Err a.0) b.1 a.1))
  left_once p then_answers one more r s (inr a) (inl b) = absurd (ok_is_no_err (one (Ok a.0) (Err b.0) a.1 b.1))
  left_once p then_answers one more r s (inr a) (inr b) =
      more a.0 r s a.2 (subst (λ v. then_answers v s) (ok_same (one (Ok b.0) (Ok a.0) b.1 a.1)) b.2)

  connected_once : (o : Op) (p q : Formula) → Once (means p) → Once (means q) → Once (IsConnected (λ f. f) means o p q)
  connected_once o p q one two =
      left_once p (λ v r. MatchOption (decided o (truth_of v)) (means q r) (λ b. r ≡ Ok (value.Truth b))) one
      (λ v. option_once (means q) (λ b r. r ≡ Ok (value.Truth b)) two (λ b. exact (Ok (value.Truth b))) (decided o (truth_of v)))

  member_once : (least : Option (Option ℤ)) (p q : Formula) → AllByRecursion (λ f. Once (means f)) (p ∷ q ∷ []) → Once (IsMember (λ f. f) means least p q)
  member_once None p q each = operands_once op.Member (p ∷ q ∷ []) each
  member_once (Some least) p q each = left_once p (λ v r. Says (AtLeast least v) r) each.0 (λ v. says_once (AtLeast least v))

  two_once : (o : Op) (p q : Formula) → AllByRecursion (λ f. Once (means f)) (p ∷ q ∷ []) → Once (TwoMean (λ f. f) means o p q)
  two_once op.And p q each = connected_once op.And p q each.0 each.1.0
  two_once op.Or p q each = connected_once op.Or p q each.0 each.1.0
  two_once op.Implies p q each = connected_once op.Implies p q each.0 each.1.0
  two_once op.Member p q each = member_once (least_at (out-Formula q)) p q each
  two_once o p q each = operands_once o (p ∷ q ∷ []) each

  node_once : (o : Op) (parts : List Formula) → AllByRecursion (λ p. Once (means p)) parts → Once (NodeMeans (λ f. f) means o parts)
  node_once o [] each = operands_once o [] each
  node_once o (p ∷ []) each = operands_once o (p ∷ []) each
  node_once o (p ∷ q ∷ []) each = two_once o p q each
  node_once o (p ∷ q ∷ r ∷ ps) each = operands_once o (p ∷ q ∷ r ∷ ps) each

  refused_once : (x : Result (List Value) ValueFault) → Once (IsNotComputed (λ f. f) means x)
  refused_once (Ok vs) = exact (Err NotComputed)
  refused_once (Err fault) = exact (Err fault)

  bind_once : (parts : List Formula) → AllByRecursion (λ p. Once (means p)) parts → Once (BindMeans means parts)
  bind_once parts each r s a b = refused_once a.0 r s a.2 (subst (λ x. IsNotComputed (λ f. f) means x s) (all_once parts each b.0 a.0 b.1 a.1) b.2)

-- A FORMULA

once_by : (P Q : Answer → Type 0) → P ≡ Q → Once Q → Once P
once_by P Q e once = subst (λ (k : Answer → Type 0). Once k) (sym e) once

pub one_meaning : (values : Values) (f : Formula) (r s : Answer) → Means values f r → Means values f s → r ≡ s
one_meaning values =
    formula_induction (λ f. Once (Means values f))
    (λ n. once_by (Means values (Int n)) (λ r. r ≡ Ok (value.Int n)) (means_int values n) (exact (Ok (value.Int n))))
    (λ name t. once_by (Means values (Free name t)) (IsNamed values name (is_carrier name t)) (means_free values name t) (named_once values name (is_carrier name t)))
    (λ i t. once_by (Means values (Bound i t)) (λ r. r ≡ Err NotComputed) (means_bound values i t) (exact (Err NotComputed)))
    (λ o parts t each. once_by (Means values (Node o parts t)) (NodeMeans (λ f. f) (Means values) o parts) (means_node values o parts t) (node_once (Means values) o parts each))
    (λ binder types parts t each. once_by (Means values (Bind binder types parts t)) (BindMeans (Means values) parts) (means_bind values binder types parts t) (bind_once (Means values) parts each))
