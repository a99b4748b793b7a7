-- A variant is a tag and what stands behind it.
use Rattle.std.proofs.Common.{◌≡◌, ◌∙◌, sym, ap, ℕ, List, ◌∷◌, ◌++◌}
use Rattle.proof_codec.specs.declared.reader.ReadFault.{ReadFault}
use Rattle.proof_codec.specs.declared.reader.ReadFault.TheVariants as faults
use Rattle.proof_codec.specs.Private.{IsReadAs, Misses}
use Rattle.proof_codec.specs.Numbers.{IsByte, byte}

module _ {E : Type 0} (Q : E → Type 0) (g : E → List ℕ) (old mid new : List ℕ) where
  -- what stands behind this tag is the variant of this form
  abbrev pub OnlyAt : {A : Type 0} → ℕ → (A → Type 0) → (A → List ℕ) → (A → E) → Type 0
  OnlyAt {A} tag P f form = (z : E) (others : List ℕ) → Q z → tag ∷ mid ≡ g z ++ others → (x : A) × (z ≡ form x) × P x × (mid ≡ f x ++ others)

  pub tag_read : {A : Type 0} → (tag : ℕ) (P : A → Type 0) (f : A → List ℕ) (form : A → E) → OnlyAt tag P f form → (x : A) → Q (form x) → g (form x) ≡ tag ∷ f x
      → IsReadAs IsByte byte old tag mid → IsReadAs P f mid x new → IsReadAs Q g old (form x) new
  tag_read tag P f form only_at x good is first read = record {
    here = record { good = good; split = first.here.split ∙ ap (λ b. tag ∷ b) read.here.split ∙ ap (λ b. b ++ new) (sym is) };
    only = λ z others begins.
        let w = only_at z others begins.good (sym first.here.split ∙ begins.split) in
        let same = read.only w.0 others (record { good = w.2; split = w.3 }) in
        (w.1 ∙ ap form same.0, same.1);
  }

  pub tag_none : {A : Type 0} → (tag : ℕ) (P : A → Type 0) (f : A → List ℕ) (form : A → E) → OnlyAt tag P f form
      → (fault : ReadFault) → IsReadAs IsByte byte old tag mid → Misses P f mid fault → Misses Q g old fault
  tag_none tag P f form only_at faults.OutOfMemory first bad = tt
  tag_none tag P f form only_at faults.Bad first bad = record {
    none = λ z others begins. let w = only_at z others begins.good (sym first.here.split ∙ begins.split) in bad.none w.0 others (record { good = w.2; split = w.3 });
  }

pub same_behind : (tag : ℕ) (xs ys : List ℕ) → tag ∷ xs ≡ tag ∷ ys → xs ≡ ys
same_behind tag xs ys e = cc
