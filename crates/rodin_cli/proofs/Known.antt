-- Known bytes through several reads and writes.
use Rattle.std.proofs.Common.{◌≡◌, ◌≤◌, inl, inr, ℕ, ◌+◌, List, [], ◌++◌, length, take, drop, sym, ap, ◌∙◌, append_assoc, append-nil, subst, arith}
use Rattle.std.proofs.lemmas.Grind.{common_steps}
use Rattle.std.specs.Prelude.{Some, None}
use Rattle.std.specs.Prelude.{Option}
use Rattle.std.specs.Io.KnownBytes.{Appends, Consumes, Keeps}
use Rattle.std.proofs.Math.Seq.{take-add, take-append-add}
use Rattle.outside.specs.Cause.{Rose}
use Rattle.session_streams.specs.Streams.{AppendsFront, WritesCut, writing}
use Rattle.session_ends.specs.Written.{WritesOrFails}

pub Appends-both : (a b c : Option (List ℕ)) (xs ys : List ℕ) → Appends a b xs → Appends b c ys → Appends a c (xs ++ ys)
Appends-both None b c xs ys p q = tt
Appends-both (Some xa) None c xs ys p q = absurd p
Appends-both (Some xa) (Some bs) None xs ys p q = absurd q
Appends-both (Some xa) (Some bs) (Some cs) xs ys p q = q ∙ ap (λ zs. zs ++ ys) p ∙ append_assoc xa xs ys

pub Consumes-both : (a b c : Option (List ℕ)) (xs ys : List ℕ) → Consumes a b xs → Consumes b c ys → Consumes a c (xs ++ ys)
Consumes-both None b c xs ys p q = tt
Consumes-both (Some xa) None c xs ys p q = absurd p
Consumes-both (Some xa) (Some bs) None xs ys p q = absurd q
Consumes-both (Some xa) (Some bs) (Some cs) xs ys p q = p ∙ ap (λ zs. xs ++ zs) q ∙ sym (append_assoc xs ys cs)

pub Appends-nothing : (a : Option (List ℕ)) → Appends a a []
Appends-nothing None = tt
Appends-nothing (Some xa) = grind (arith, common_steps)

pub Appends-same : (a b : Option (List ℕ)) (xs ys : List ℕ) → xs ≡ ys → Appends a b xs → Appends a b ys
Appends-same a b xs ys e p = subst (λ zs. Appends a b zs) e p

pub take-both : (n m : ℕ) (xs : List ℕ) → take n xs ++ take m (drop n xs) ≡ take (n + m) xs
take-both n m xs = sym (take-add n m xs)

pub Appends-kept : (a b : Option (List ℕ)) → Keeps a b → Appends a b []
Appends-kept None b p = tt
Appends-kept (Some xa) None p = absurd p
Appends-kept (Some xa) (Some bs) p = p ∙ sym (append-nil xa)

-- what was written, and then nothing
pub Appends-then_kept : (a b c : Option (List ℕ)) (xs : List ℕ) → Appends a b xs → Keeps b c → Appends a c xs
Appends-then_kept a b c xs p q = Appends-same a c (xs ++ []) xs (append-nil xs) (Appends-both a b c xs [] p (Appends-kept b c q))

Appends-then_front : (a b c : Option (List ℕ)) (xs ys : List ℕ) → Appends a b xs → AppendsFront b c ys → AppendsFront a c (xs ++ ys)
Appends-then_front a b c xs ys p q = (length xs + q.0, Appends-same a c _ _ (sym (take-append-add xs ys q.0)) (Appends-both a b c xs (take q.0 ys) p q.1))

later_rose : (f g h : ℕ) → f ≤ g → Rose g h → Rose f h
later_rose f g h later rose = omega (arith, later, rose)

-- what was written, and then a text that is cut
pub Writes-then_cut : (a b c : Option (List ℕ)) (f g h : ℕ) (xs ys : List ℕ) → Appends a b xs → f ≤ g → WritesCut (writing b c g h) ys → WritesCut (writing a c f h) (xs ++ ys)
Writes-then_cut a b c f g h xs ys p later q = (later_rose f g h later q.0, Appends-then_front a b c xs ys p q.1)

-- what was written, and then a last line as far as the sink takes it
pub Writes-then_last : (a b c : Option (List ℕ)) (f g h : ℕ) (xs ys : List ℕ) → Appends a b xs → f ≤ g → WritesOrFails (writing b c g h) ys → WritesOrFails (writing a c f h) (xs ++ ys)
Writes-then_last a b c f g h xs ys p later (inl q) = inl (Appends-both a b c xs ys p q)
Writes-then_last a b c f g h xs ys p later (inr q) = inr (Writes-then_cut a b c f g h xs ys p later q)
