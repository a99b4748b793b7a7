-- The rows of one event, one after another.
use Rattle.std.proofs.Common.{◌≡◌, ◌∙◌, ap, sym, List, [], ◌++◌}
use Rattle.std.proofs.lemmas.List.{append-nil}
use Rattle.sequent_core.specs.declared.sequent.Obligation.{Obligation}
use Rattle.po_rules.specs.Gathering.{Gathered, gathered}
use Rattle.po_machine.proofs.Gathering.{both_gathered}

pub last_gathered : (old new : Gathered) (a : List Obligation) → new ≡ gathered old a → new ≡ gathered old (a ++ [])
last_gathered old new a e = e ∙ ap (gathered old) (sym (append-nil a))

pub nine_gathered : (o a b c d e f g h i : Gathered) (r s t u v w x y z : List Obligation) → a ≡ gathered o r → b ≡ gathered a s → c ≡ gathered b t → d ≡ gathered c u
    → e ≡ gathered d v → f ≡ gathered e w → g ≡ gathered f x → h ≡ gathered g y → i ≡ gathered h z
    → i ≡ gathered o (r ++ (s ++ (t ++ (u ++ (v ++ (w ++ (x ++ (y ++ (z ++ [])))))))))
nine_gathered o a b c d e f g h i r s t u v w x y z p1 p2 p3 p4 p5 p6 p7 p8 p9 =
    both_gathered o a i r _ p1 (both_gathered a b i s _ p2 (both_gathered b c i t _ p3 (both_gathered c d i u _ p4 (both_gathered d e i v _ p5
    (both_gathered e f i w _ p6 (both_gathered f g i x _ p7 (both_gathered g h i y _ p8 (last_gathered h i z p9))))))))

pub two_gathered : (o a b : Gathered) (r s : List Obligation) → a ≡ gathered o r → b ≡ gathered a s → b ≡ gathered o (r ++ (s ++ []))
two_gathered o a b r s p1 p2 = both_gathered o a b r _ p1 (last_gathered a b s p2)

pub three_gathered : (o a b c : Gathered) (r s t : List Obligation) → a ≡ gathered o r → b ≡ gathered a s → c ≡ gathered b t → c ≡ gathered o (r ++ (s ++ (t ++ [])))
three_gathered o a b c r s t p1 p2 p3 = both_gathered o a c r _ p1 (two_gathered a b c s t p2 p3)

pub seven_gathered : (o a b c d e f g : Gathered) (r s t u v w x : List Obligation) → a ≡ gathered o r → b ≡ gathered a s → c ≡ gathered b t → d ≡ gathered c u
    → e ≡ gathered d v → f ≡ gathered e w → g ≡ gathered f x
    → g ≡ gathered o (r ++ (s ++ (t ++ (u ++ (v ++ (w ++ (x ++ [])))))))
seven_gathered o a b c d e f g r s t u v w x p1 p2 p3 p4 p5 p6 p7 =
    both_gathered o a g r _ p1 (both_gathered a b g s _ p2 (both_gathered b c g t _ p3 (both_gathered c d g u _ p4 (three_gathered d e f g v w x p5 p6 p7))))
