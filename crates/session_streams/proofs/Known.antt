-- Known bytes through several reads and writes.
use Rattle.std.proofs.Common.{◌≡◌, ℕ, ◌+◌, List, [], ◌++◌, take, drop, sym, ap, ◌∙◌, append_assoc, subst, refl}
use Rattle.std.proofs.lemmas.List.{append-nil}
use Rattle.std.specs.Prelude.{Option, Some, None}
use Rattle.std.specs.Io.KnownBytes.{Appends, Consumes, Keeps}
use Rattle.std.proofs.Math.Seq.{take-add}

pub Appends-both : (a b c : Option (List ℕ)) (xs ys : List ℕ) → Appends a b xs → Appends b c ys → Appends a c (xs ++ ys)
Appends-both None b c xs ys p q = tt
Appends-both (Some xa) None c xs ys p q = absurd p
Appends-both (Some xa) (Some bs) None xs ys p q = absurd q
Appends-both (Some xa) (Some bs) (Some cs) xs ys p q = q ∙ ap (λ zs. zs ++ ys) p ∙ append_assoc xa xs ys

pub Appends-keeps : (a b c : Option (List ℕ)) (xs : List ℕ) → Appends a b xs → Keeps b c → Appends a c xs
Appends-keeps None b c xs p q = tt
Appends-keeps (Some xa) None c xs p q = absurd p
Appends-keeps (Some xa) (Some bs) None xs p q = absurd q
Appends-keeps (Some xa) (Some bs) (Some cs) xs p q = q ∙ p

pub Consumes-both : (a b c : Option (List ℕ)) (xs ys : List ℕ) → Consumes a b xs → Consumes b c ys → Consumes a c (xs ++ ys)
Consumes-both None b c xs ys p q = tt
Consumes-both (Some xa) None c xs ys p q = absurd p
Consumes-both (Some xa) (Some bs) None xs ys p q = absurd q
Consumes-both (Some xa) (Some bs) (Some cs) xs ys p q = p ∙ ap (λ zs. xs ++ zs) q ∙ sym (append_assoc xs ys cs)

pub Consumes-keeps : (a b c : Option (List ℕ)) (xs : List ℕ) → Consumes a b xs → Keeps b c → Consumes a c xs
Consumes-keeps None b c xs p q = tt
Consumes-keeps (Some xa) None c xs p q = absurd p
Consumes-keeps (Some xa) (Some bs) None xs p q = absurd q
Consumes-keeps (Some xa) (Some bs) (Some cs) xs p q = p ∙ ap (λ zs. xs ++ zs) (sym q)

pub Consumes-nothing : (a : Option (List ℕ)) → Consumes a a []
Consumes-nothing None = tt
Consumes-nothing (Some xs) = refl

pub Appends-nothing : (a : Option (List ℕ)) → Appends a a []
Appends-nothing None = tt
Appends-nothing (Some xa) = sym (append-nil xa)

pub Appends-same : (a b : Option (List ℕ)) (xs ys : List ℕ) → xs ≡ ys → Appends a b xs → Appends a b ys
Appends-same a b xs ys e p = subst (λ zs. Appends a b zs) e p

pub take-both : (n m : ℕ) (xs : List ℕ) → take n xs ++ take m (drop n xs) ≡ take (n + m) xs
take-both n m xs = sym (take-add n m xs)

pub Keeps-same : (a : Option (List ℕ)) → Keeps a a
Keeps-same None = tt
Keeps-same (Some xs) = refl
