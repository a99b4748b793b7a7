-- One value behind the other.
use Rattle.std.proofs.Common.{◌∙◌, sym, ap, ℕ, List, ◌++◌, append_assoc}
use Rattle.proof_codec.specs.declared.reader.ReadFault.{ReadFault}
use Rattle.proof_codec.specs.declared.reader.ReadFault.TheVariants as faults
use Rattle.proof_codec.specs.Private.{IsReadAs, Misses}
use Rattle.proof_codec.specs.Parts.{IsPair, pair_bytes}

module _ {A B : Type 0} (P : A → Type 0) (f : A → List ℕ) (Q : B → Type 0) (g : B → List ℕ) (old mid new : List ℕ) where
  pub pair_read : (x : A) (y : B) → IsReadAs P f old x mid → IsReadAs Q g mid y new → IsReadAs (IsPair P Q) (pair_bytes f g) old (x, y) new
  pair_read x y one two = record {
    here = record { good = (one.here.good, two.here.good); split = one.here.split ∙ ap (λ b. f x ++ b) two.here.split ∙ sym (append_assoc (f x) (g y) new) };
    only = λ z others begins.
        let first = one.only z.0 (g z.1 ++ others) (record { good = begins.good.0; split = begins.split ∙ append_assoc (f z.0) (g z.1) others }) in
        let second = two.only z.1 others (record { good = begins.good.1; split = sym first.1 }) in
        (ap (λ (x : A). (x, z.1)) first.0 ∙ ap (λ (y : B). (x, y)) second.0, second.1);
  }

  pub no_second_there : (x : A) (fault : ReadFault) → IsReadAs P f old x mid → Misses Q g mid fault → Misses (IsPair P Q) (pair_bytes f g) old fault
  no_second_there x faults.OutOfMemory one bad = tt
  no_second_there x faults.Bad one bad = record {
    none = λ z others begins.
        let first = one.only z.0 (g z.1 ++ others) (record { good = begins.good.0; split = begins.split ∙ append_assoc (f z.0) (g z.1) others }) in
        bad.none z.1 others (record { good = begins.good.1; split = sym first.1 });
  }

  pub no_first_there : (fault : ReadFault) → Misses P f old fault → Misses (IsPair P Q) (pair_bytes f g) old fault
  no_first_there faults.OutOfMemory bad = tt
  no_first_there faults.Bad bad = record { none = λ z others begins. bad.none z.0 (g z.1 ++ others) (record { good = begins.good.0; split = begins.split ∙ append_assoc (f z.0) (g z.1) others }) }
