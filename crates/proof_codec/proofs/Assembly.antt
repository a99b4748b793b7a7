-- A value is what its parts are.
use Rattle.std.proofs.Common.{◌≡◌, ◌∙◌, sym, ap, subst, refl, ℕ, List, ◌++◌, Option}
use Rattle.formula_core.specs.declared.Ty.{Ty}
use Rattle.formula_core.specs.declared.Formula.{Formula}
use Rattle.rule_table.specs.declared.kind.RuleKind.{RuleKind}
use Rattle.rule_table.specs.declared.rule.Antecedent.{Antecedent}
use Rattle.rule_table.specs.declared.rule.Rule.{Rule}
use Rattle.sequent_core.specs.declared.tree.Tree.{Tree}
use Rattle.proof_entries.specs.declared.proof.Origin.{Origin}
use Rattle.proof_entries.specs.declared.proof.Origin.TheVariants.{Unknown}
use Rattle.proof_entries.specs.declared.proof.Proof.{Proof}
use Rattle.proof_codec.specs.declared.reader.ReadFault.{ReadFault}
use Rattle.proof_codec.specs.declared.reader.ReadFault.TheVariants as faults
use Rattle.proof_codec.specs.Private.{IsReadAs, Misses, IsGoodAntecedent}
use Rattle.proof_codec.specs.Parts.{IsAny, IsPair, pair_bytes, IsOption, option_bytes, IsList, list_bytes}
use Rattle.proof_codec.specs.Formulas.{formula_bytes, IsGoodFormula}
use Rattle.proof_codec.specs.Rules.{kind_bytes, IsGoodKind, identifier_bytes, IsGoodIdentifier, antecedent_parts, antecedent_bytes, rule_parts, rule_bytes, IsGoodRule}
use Rattle.proof_codec.specs.ProofTrees.{tree_bytes, IsWritableTree}
use Rattle.proof_codec.specs.Entries.{origin_bytes, proof_parts, proof_bytes, IsGoodProof, old_proof_bytes, IsGoodOldProof}

module _ {A B : Type 0} (P : A → Type 0) (f : A → List ℕ) (parts : B → A) (made : A → B) (back : (y : B) → made (parts y) ≡ y) (forth : (x : A) → parts (made x) ≡ x) (old : List ℕ) where
  pub made_read : (x : A) (new : List ℕ) → IsReadAs P f old x new → IsReadAs (λ (y : B). P (parts y)) (λ (y : B). f (parts y)) old (made x) new
  made_read x new read = record {
    here = record { good = subst P (sym (forth x)) read.here.good; split = read.here.split ∙ ap (λ z. f z ++ new) (sym (forth x)) };
    only = λ y others begins.
        let same = read.only (parts y) others (record { good = begins.good; split = begins.split }) in
        (sym (back y) ∙ ap made same.0, same.1);
  }

  pub made_none : (fault : ReadFault) → Misses P f old fault → Misses (λ (y : B). P (parts y)) (λ (y : B). f (parts y)) old fault
  made_none faults.OutOfMemory bad = tt
  made_none faults.Bad bad = record { none = λ y others begins. bad.none (parts y) others (record { good = begins.good; split = begins.split }) }

abbrev Antecedents : Type 0
Antecedents = List (List ℕ × Ty) × (List Formula × Option Formula)

abbrev IsAntecedents : Antecedents → Type 0
IsAntecedents = IsPair (IsList IsGoodIdentifier) (IsPair (IsList IsGoodFormula) (IsOption IsGoodFormula))

abbrev antecedents_bytes : Antecedents → List ℕ
antecedents_bytes = pair_bytes (list_bytes identifier_bytes) (pair_bytes (list_bytes formula_bytes) (option_bytes formula_bytes))

abbrev antecedent_of : Antecedents → Antecedent
antecedent_of x = record { idents = x.0; hyps = x.1.0; goal = x.1.1 }

pub antecedent_read : (old new : List ℕ) (idents : List (List ℕ × Ty)) (hyps : List Formula) (goal : Option Formula) → IsReadAs IsAntecedents antecedents_bytes old (idents, (hyps, goal)) new
    → IsReadAs IsGoodAntecedent antecedent_bytes old (antecedent_of (idents, (hyps, goal))) new
antecedent_read old new idents hyps goal read = made_read IsAntecedents antecedents_bytes antecedent_parts antecedent_of (λ y. refl) (λ x. refl) old (idents, (hyps, goal)) new read

pub no_antecedent : (fault : ReadFault) (old : List ℕ) → Misses IsAntecedents antecedents_bytes old fault → Misses IsGoodAntecedent antecedent_bytes old fault
no_antecedent fault old bad = made_none IsAntecedents antecedents_bytes antecedent_parts antecedent_of (λ y. refl) (λ x. refl) old fault bad

abbrev Rules : Type 0
Rules = RuleKind × (Option Formula × (List Formula × (List (List ℕ × Ty) × List Antecedent)))

abbrev IsRules : Rules → Type 0
IsRules = IsPair IsGoodKind (IsPair (IsOption IsGoodFormula) (IsPair (IsList IsGoodFormula) (IsPair (IsList IsGoodIdentifier) (IsList IsGoodAntecedent))))

abbrev rules_bytes : Rules → List ℕ
rules_bytes = pair_bytes kind_bytes (pair_bytes (option_bytes formula_bytes) (pair_bytes (list_bytes formula_bytes) (pair_bytes (list_bytes identifier_bytes) (list_bytes antecedent_bytes))))

abbrev rule_of : Rules → Rule
rule_of x = record { kind = x.0; needed_goal = x.1.0; needed_hyps = x.1.1.0; used = x.1.1.1.0; antecedents = x.1.1.1.1 }

pub rule_read : (old new : List ℕ) (kind : RuleKind) (goal : Option Formula) (hyps : List Formula) (used : List (List ℕ × Ty)) (antecedents : List Antecedent)
    → IsReadAs IsRules rules_bytes old (kind, (goal, (hyps, (used, antecedents)))) new → IsReadAs IsGoodRule rule_bytes old (rule_of (kind, (goal, (hyps, (used, antecedents))))) new
rule_read old new kind goal hyps used antecedents read = made_read IsRules rules_bytes rule_parts rule_of (λ y. refl) (λ x. refl) old (kind, (goal, (hyps, (used, antecedents)))) new read

pub no_rule : (fault : ReadFault) (old : List ℕ) → Misses IsRules rules_bytes old fault → Misses IsGoodRule rule_bytes old fault
no_rule fault old bad = made_none IsRules rules_bytes rule_parts rule_of (λ y. refl) (λ x. refl) old fault bad

abbrev IsProofs : Origin × Tree → Type 0
IsProofs = IsPair IsAny IsWritableTree

abbrev proofs_bytes : Origin × Tree → List ℕ
proofs_bytes = pair_bytes origin_bytes tree_bytes

pub proof_read : (old new : List ℕ) (origin : Origin) (tree : Tree) → IsReadAs IsProofs proofs_bytes old (origin, tree) new → IsReadAs IsGoodProof proof_bytes old (record { tree = tree; origin = origin }) new
proof_read old new origin tree read = record {
  here = record { good = read.here.good.1; split = read.here.split };
  only = λ z others begins.
      let same = read.only (z.origin, z.tree) others (record { good = (tt, begins.good); split = begins.split }) in
      (ap (λ (p : Origin × Tree). let made : Proof = record { tree = p.1; origin = p.0 } in made) same.0, same.1);
}

pub no_proof : (fault : ReadFault) (old : List ℕ) → Misses IsProofs proofs_bytes old fault → Misses IsGoodProof proof_bytes old fault
no_proof faults.OutOfMemory old bad = tt
no_proof faults.Bad old bad = record { none = λ z others begins. bad.none (z.origin, z.tree) others (record { good = (tt, begins.good); split = begins.split }) }

pub old_proof_read : (old new : List ℕ) (tree : Tree) → IsReadAs IsWritableTree tree_bytes old tree new → IsReadAs IsGoodOldProof old_proof_bytes old (record { tree = tree; origin = Unknown }) new
old_proof_read old new tree read = record {
  here = record { good = (read.here.good, refl); split = read.here.split };
  only = λ z others begins.
      let same = read.only z.tree others (record { good = begins.good.0; split = begins.split }) in
      (both z (record { tree = tree; origin = Unknown }) same.0 begins.good.1, same.1);
} where
  both : (y z : Proof) → y.tree ≡ z.tree → y.origin ≡ z.origin → y ≡ z
  both y z t o = λ i. record { tree = t i; origin = o i }

pub no_old_proof : (fault : ReadFault) (old : List ℕ) → Misses IsWritableTree tree_bytes old fault → Misses IsGoodOldProof old_proof_bytes old fault
no_old_proof faults.OutOfMemory old bad = tt
no_old_proof faults.Bad old bad = record { none = λ z others begins. bad.none z.tree others (record { good = begins.good.0; split = begins.split }) }
