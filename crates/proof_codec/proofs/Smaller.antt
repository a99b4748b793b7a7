-- What has bytes may be written.
use Rattle.std.proofs.Common.{◌≡◌, ◌∙◌, sym, ap, subst, refl, ℕ, Bool, true, ◌&&◌, nat_lt, ◌^◌, List, [], ◌∷◌, length, map, Option, Some, None}
use Rattle.std.specs.List.{AllByRecursion}
use Rattle.std.proofs.lemmas.List.{length-map}
use Rattle.formula_core.specs.declared.Ty.{Ty}
use Rattle.formula_core.specs.declared.Formula.{Formula, roll-Formula}
use Rattle.formula_core.specs.declared.Formula.TheOpen.{Formula-F, Int as IntF, Free as FreeF, Bound as BoundF, Node as NodeF, Bind as BindF}
use Rattle.formula_core.specs.declared.Formula.TheFolds.{map-Formula, fold-roll-Formula, ind-Formula}
use Rattle.formula_core.specs.Sizes.{all_hold}
use Rattle.formula_core.proofs.Weakening.{first_true, second_true, both_true}
use Rattle.rule_table.specs.declared.kind.RuleKind.{RuleKind}
use Rattle.rule_table.specs.declared.kind.RuleKind.TheVariants as kind
use Rattle.rule_table.specs.declared.rule.Antecedent.{Antecedent}
use Rattle.rule_table.specs.declared.rule.Rule.{Rule}
use Rattle.sequent_core.specs.declared.tree.Tree.{Tree}
use Rattle.proof_entries.specs.declared.entry.Entry.{Entry}
use Rattle.proof_entries.specs.declared.entry.Entry.TheVariants.{Put, Drop, Build, SetProof, Purge}
use Rattle.proof_entries.specs.declared.proof.Proof.{Proof}
use Rattle.proof_codec.specs.Numbers.{FitsU32, IsInteger}
use Rattle.proof_codec.specs.Parts.{IsAny, IsPair, IsOption, IsList}
use Rattle.proof_codec.specs.Formulas.{is_type, is_coded_step, is_coded, is_counted_step, is_counted, IsGoodFormula, IsFitFormula}
use Rattle.proof_codec.specs.Rules.{IsGoodKind, IsFitKind, IsGoodIdentifier, IsFitIdentifier, IsGoodRule, IsFitRule}
use Rattle.proof_codec.specs.Private.{IsGoodAntecedent, IsFitAntecedent}
use Rattle.proof_codec.specs.ProofTrees.{rules_in, IsWritableTree, IsFitTree, HasChildren}
use Rattle.proof_codec.specs.Entries.{IsPoName, IsGoodProof, IsFitProof, IsGoodOldProof, IsFitOldProof, IsEntryBy, IsFitBy, IsEntry, IsWritable, IsOldEntry, IsOldWritable}

mapped : {A : Type 0} → (P Q : A → Type 0) → ((x : A) → P x → Q x) → (xs : List A) → AllByRecursion P xs → AllByRecursion Q xs
mapped P Q f [] all = tt
mapped P Q f (x ∷ xs) all = (f x all.0, mapped P Q f xs all.1)

listed : {A : Type 0} → (P Q : A → Type 0) → ((x : A) → P x → Q x) → (xs : List A) → IsList P xs → IsList Q xs
listed P Q f xs is = (is.0, mapped P Q f xs is.1)

optional : {A : Type 0} → (P Q : A → Type 0) → ((x : A) → P x → Q x) → (x : Option A) → IsOption P x → IsOption Q x
optional P Q f None is = tt
optional P Q f (Some x) is = f x is

-- a formula whose parts have bytes has few members in its lists
abbrev Counted : Type 0
Counted = (f : Formula) × (is_coded f ≡ true → is_counted f ≡ true)

each_counted : (es : List Counted) → all_hold (map is_coded (map (λ e. e.0) es)) ≡ true → all_hold (map is_counted (map (λ e. e.0) es)) ≡ true
each_counted [] h = refl
each_counted (e ∷ es) h = both_true _ _ (e.1 (first_true (is_coded e.0) _ h)) (each_counted es (second_true (is_coded e.0) _ h))

as_few : (fs : List Formula) → nat_lt (length (map is_coded fs)) (2 ^ 32) ≡ true → nat_lt (length (map is_counted fs)) (2 ^ 32) ≡ true
as_few fs h = ap (λ n. nat_lt n (2 ^ 32)) (length-map fs is_counted ∙ sym (length-map fs is_coded)) ∙ h

counted_step : (y : Formula-F Counted) → is_coded_step (map-Formula Formula Bool is_coded (map-Formula Counted Formula (λ e. e.0) y)) ≡ true
    → is_counted_step (map-Formula Formula Bool is_counted (map-Formula Counted Formula (λ e. e.0) y)) ≡ true
counted_step (IntF n) h = refl
counted_step (FreeF name ty) h = refl
counted_step (BoundF at ty) h = refl
counted_step (NodeF op es ty) h =
    let fs : List Formula = map (λ e. e.0) es in
    let few : Bool = nat_lt (length (map is_coded fs)) (2 ^ 32) in
    let front : (few && all_hold (map is_coded fs)) ≡ true = first_true _ _ h in
    both_true _ _ (as_few fs (first_true few _ front)) (each_counted es (second_true few _ front))
counted_step (BindF binder types es ty) h =
    let fs : List Formula = map (λ e. e.0) es in
    let d : Bool = nat_lt (length types) (2 ^ 32) in
    let c : Bool = d && all_hold (map is_type types) in
    let b : Bool = c && nat_lt (length (map is_coded fs)) (2 ^ 32) in
    let a : Bool = b && all_hold (map is_coded fs) in
    let ha : a ≡ true = first_true a _ h in
    let hb : b ≡ true = first_true b _ ha in
    let hc : c ≡ true = first_true c _ hb in
    both_true _ _ (both_true _ _ (first_true d _ hc) (as_few fs (second_true c _ hb))) (each_counted es (second_true b _ ha))

counted_of : (f : Formula) → is_coded f ≡ true → is_counted f ≡ true
counted_of = ind-Formula (λ f. is_coded f ≡ true → is_counted f ≡ true) (λ x y is.
    let Q : Formula-F Formula → Type 0 = λ z. is_coded (roll-Formula z) ≡ true → is_counted (roll-Formula z) ≡ true in
    subst Q is (λ h.
    let z : Formula-F Formula = map-Formula Counted Formula (λ e. e.0) y in
    fold-roll-Formula Bool is_counted_step z ∙ counted_step y (sym (fold-roll-Formula Bool is_coded_step z) ∙ h)))

small_formula : (f : Formula) → IsGoodFormula f → IsFitFormula f
small_formula f is = record { within = is.within; well = is.well; counted = counted_of f is.coded }

small_identifier : (x : List ℕ × Ty) → IsGoodIdentifier x → IsFitIdentifier x
small_identifier x is = (tt, is.1.small)

small_kind : (k : RuleKind) → IsGoodKind k → IsFitKind k
small_kind (kind.AllL terms) is = listed IsGoodFormula IsFitFormula small_formula terms is
small_kind (kind.ExR terms) is = listed IsGoodFormula IsFitFormula small_formula terms is
small_kind (kind.RwGoal law place) is = (tt, listed FitsU32 IsAny (λ x good. tt) place is.1)
small_kind (kind.RwHyp law place) is = (tt, listed FitsU32 IsAny (λ x good. tt) place is.1)
small_kind (kind.Linear multipliers) is = listed IsInteger IsAny (λ x good. tt) multipliers is
small_kind _ is = tt

small_antecedent : (a : Antecedent) → IsGoodAntecedent a → IsFitAntecedent a
small_antecedent a is = (
  listed IsGoodIdentifier IsFitIdentifier small_identifier a.idents is.0,
  (listed IsGoodFormula IsFitFormula small_formula a.hyps is.1.0, optional IsGoodFormula IsFitFormula small_formula a.goal is.1.1),
)

small_rule : (r : Rule) → IsGoodRule r → IsFitRule r
small_rule r is = (
  small_kind r.kind is.0,
  (
    optional IsGoodFormula IsFitFormula small_formula r.needed_goal is.1.0,
    (
      listed IsGoodFormula IsFitFormula small_formula r.needed_hyps is.1.1.0,
      (
        listed IsGoodIdentifier IsFitIdentifier small_identifier r.used is.1.1.1.0,
        listed IsGoodAntecedent IsFitAntecedent small_antecedent r.antecedents is.1.1.1.1,
      ),
    ),
  ),
)

small_tree : (tree : Tree) → IsWritableTree tree → IsFitTree tree
small_tree tree is = record {
  rules = mapped (HasChildren IsGoodRule) (HasChildren IsFitRule) (λ node good. (small_rule node.0 good.0, good.1)) (rules_in tree) is.rules;
  few = is.few;
}

small_by : (P Q : Proof → Type 0) → ((p : Proof) → P p → Q p) → (e : Entry) → IsEntryBy P e → IsFitBy Q e
small_by P Q f (Put name text) is = (is.0.1, is.1.1)
small_by P Q f (Drop name) is = is.1
small_by P Q f Build is = tt
small_by P Q f (SetProof name proof) is = (tt, f proof is.1)
small_by P Q f (Purge names) is = listed IsPoName IsAny (λ x good. tt) names is

pub writable : (e : Entry) → IsEntry e → IsWritable e
writable = small_by IsGoodProof IsFitProof (λ p is. small_tree p.tree is)

pub old_writable : (e : Entry) → IsOldEntry e → IsOldWritable e
old_writable = small_by IsGoodOldProof IsFitOldProof (λ p is. (small_tree p.tree is.0, is.1))
