-- The atoms that are kept, one after another.
use Rattle.std.proofs.Common.{◌≡◌, ◌∙◌, sym, ap, refl, ℤ, pos, Bool, true, false, ◌||◌, if◌then◌else◌, List, [], ◌∷◌, ◌++◌, fold, Ok, Err}
use Rattle.std.proofs.lemmas.List.{append-nil, append_assoc}
use Rattle.formula_core.specs.declared.Formula.{Formula}
use Rattle.formula_core.specs.Same.{same_formula}
use Rattle.rule_table.specs.Linear.{Act, Linear, joined_by, OrTooWide, then_do, with_atom, checked, multiple_of, is_met, kept, further, each_times}
use Rattle.rules_arith.specs.Private.{add_new, with_coefficient, joined_with}

abbrev pub keep : Act → List (Formula × ℤ) → OrTooWide (List (Formula × ℤ)) → Formula × ℤ → OrTooWide (List (Formula × ℤ))
keep act second done a = with_coefficient done a.0 (checked act a.1 (multiple_of second a.0))

abbrev pub scale : (ℤ → OrTooWide ℤ) → OrTooWide (List (Formula × ℤ)) → Formula × ℤ → OrTooWide (List (Formula × ℤ))
scale by done a = with_coefficient done a.0 (by a.1)

after_fault : (act : Act) (second xs : List (Formula × ℤ)) (e : ℤ × ℤ) → fold (keep act second) (Err e) xs ≡ Err e
after_fault act second [] e = refl
after_fault act second (a ∷ xs) e = after_fault act second xs e

behind : (f : Formula) (m : ℤ) (ys : List (Formula × ℤ)) (o : OrTooWide (List (Formula × ℤ)))
    → then_do o (λ zs. Ok ((ys ++ (f, m) ∷ []) ++ zs)) ≡ then_do (then_do o (λ r. Ok ((f, m) ∷ r))) (λ zs. Ok (ys ++ zs))
behind f m ys (Err e) = refl
behind f m ys (Ok r) = ap Ok (append_assoc ys ((f, m) ∷ []) r)

next : (act : Act) (second ys xs : List (Formula × ℤ)) (f : Formula) (n : OrTooWide ℤ)
    → ((zs : List (Formula × ℤ)) → fold (keep act second) (Ok zs) xs ≡ then_do (kept act second xs) (λ r. Ok (zs ++ r)))
    → fold (keep act second) (with_coefficient (Ok ys) f n) xs ≡ then_do (with_atom f n (kept act second xs)) (λ zs. Ok (ys ++ zs))
next act second ys xs f (Err e) each = after_fault act second xs e
next act second ys xs f (Ok m) each = each (ys ++ (f, m) ∷ []) ∙ behind f m ys (kept act second xs)

from : (act : Act) (second ys xs : List (Formula × ℤ)) → fold (keep act second) (Ok ys) xs ≡ then_do (kept act second xs) (λ zs. Ok (ys ++ zs))
from act second ys [] = ap Ok (sym (append-nil ys))
from act second ys (a ∷ xs) = next act second ys xs a.0 (checked act a.1 (multiple_of second a.0)) (λ zs. from act second zs xs)

alone : (o : OrTooWide (List (Formula × ℤ))) → then_do o (λ zs. Ok zs) ≡ o
alone (Ok zs) = refl
alone (Err e) = refl

pub kept_is_fold : (act : Act) (second xs : List (Formula × ℤ)) → fold (keep act second) (Ok []) xs ≡ kept act second xs
kept_is_fold act second xs = from act second [] xs ∙ alone (kept act second xs)

-- the atoms that are new, one after another
either : (c : Bool) (e : ℤ × ℤ) (f : Formula) (n : OrTooWide ℤ) → (if c then Err e else with_coefficient (Err e) f n) ≡ Err e
either true e f n = refl
either false e f n = refl

new_after_fault : (act : Act) (first xs : List (Formula × ℤ)) (e : ℤ × ℤ) → fold (add_new act first) (Err e) xs ≡ Err e
new_after_fault act first [] e = refl
new_after_fault act first (b ∷ xs) e = ap (λ o. fold (add_new act first) o xs) (either (is_met first b.0) e b.0 (checked act (pos 0) b.1)) ∙ new_after_fault act first xs e

new_next : (act : Act) (first ys xs : List (Formula × ℤ)) (f : Formula) (n : OrTooWide ℤ)
    → ((zs : List (Formula × ℤ)) → fold (add_new act first) (Ok zs) xs ≡ then_do (further act first xs) (λ r. Ok (zs ++ r)))
    → fold (add_new act first) (with_coefficient (Ok ys) f n) xs ≡ then_do (with_atom f n (further act first xs)) (λ zs. Ok (ys ++ zs))
new_next act first ys xs f (Err e) each = new_after_fault act first xs e
new_next act first ys xs f (Ok m) each = each (ys ++ (f, m) ∷ []) ∙ behind f m ys (further act first xs)

new_or_met : (c : Bool) (act : Act) (first ys xs : List (Formula × ℤ)) (f : Formula) (n : OrTooWide ℤ)
    → ((zs : List (Formula × ℤ)) → fold (add_new act first) (Ok zs) xs ≡ then_do (further act first xs) (λ r. Ok (zs ++ r)))
    → fold (add_new act first) (if c then Ok ys else with_coefficient (Ok ys) f n) xs
    ≡ then_do (if c then further act first xs else with_atom f n (further act first xs)) (λ zs. Ok (ys ++ zs))
new_or_met true act first ys xs f n each = each ys
new_or_met false act first ys xs f n each = new_next act first ys xs f n each

new_from : (act : Act) (first ys xs : List (Formula × ℤ)) → fold (add_new act first) (Ok ys) xs ≡ then_do (further act first xs) (λ zs. Ok (ys ++ zs))
new_from act first ys [] = ap Ok (sym (append-nil ys))
new_from act first ys (b ∷ xs) = new_or_met (is_met first b.0) act first ys xs b.0 (checked act (pos 0) b.1) (λ zs. new_from act first zs xs)

pub further_is_fold : (act : Act) (first xs : List (Formula × ℤ)) → fold (add_new act first) (Ok []) xs ≡ further act first xs
further_is_fold act first xs = new_from act first [] xs ∙ alone (further act first xs)

-- the atoms that are multiplied, one after another
module _ (by : ℤ → OrTooWide ℤ) where
  scaled_after_fault : (xs : List (Formula × ℤ)) (e : ℤ × ℤ) → fold (scale by) (Err e) xs ≡ Err e
  scaled_after_fault [] e = refl
  scaled_after_fault (a ∷ xs) e = scaled_after_fault xs e

  scaled_next : (ys xs : List (Formula × ℤ)) (f : Formula) (n : OrTooWide ℤ)
      → ((zs : List (Formula × ℤ)) → fold (scale by) (Ok zs) xs ≡ then_do (each_times by xs) (λ r. Ok (zs ++ r)))
      → fold (scale by) (with_coefficient (Ok ys) f n) xs ≡ then_do (with_atom f n (each_times by xs)) (λ zs. Ok (ys ++ zs))
  scaled_next ys xs f (Err e) each = scaled_after_fault xs e
  scaled_next ys xs f (Ok m) each = each (ys ++ (f, m) ∷ []) ∙ behind f m ys (each_times by xs)

  scaled_from : (ys xs : List (Formula × ℤ)) → fold (scale by) (Ok ys) xs ≡ then_do (each_times by xs) (λ zs. Ok (ys ++ zs))
  scaled_from ys [] = ap Ok (sym (append-nil ys))
  scaled_from ys (a ∷ xs) = scaled_next ys xs a.0 (by a.1) (λ zs. scaled_from zs xs)

  pub each_times_is_fold : (xs : List (Formula × ℤ)) → fold (scale by) (Ok []) xs ≡ each_times by xs
  each_times_is_fold xs = scaled_from [] xs ∙ alone (each_times by xs)

-- what is kept has the atoms that were there
of_ok : {X : Type 0} (xs ys : List X) (o : OrTooWide (List X)) → o ≡ Ok xs → o ≡ Ok ys → xs ≡ ys
of_ok xs ys o h k = cc

module _ (g : Formula) where
  met_after : (f : Formula) (n : OrTooWide ℤ) (xs : List (Formula × ℤ)) (o : OrTooWide (List (Formula × ℤ))) (ys : List (Formula × ℤ))
      → ((zs : List (Formula × ℤ)) → o ≡ Ok zs → is_met zs g ≡ is_met xs g) → with_atom f n o ≡ Ok ys → is_met ys g ≡ (same_formula f g || is_met xs g)
  met_after f (Err e) xs o ys each h = absurd (cc)
  met_after f (Ok n) xs (Err e) ys each h = absurd (cc)
  met_after f (Ok n) xs (Ok zs) ys each h = ap (λ met. is_met met g) (sym (of_ok ((f, n) ∷ zs) ys (Ok ((f, n) ∷ zs)) refl h)) ∙ ap (λ b. same_formula f g || b) (each zs refl)

  pub met_in_kept : (act : Act) (second xs ys : List (Formula × ℤ)) → kept act second xs ≡ Ok ys → is_met ys g ≡ is_met xs g
  met_in_kept act second [] ys h = ap (λ met. is_met met g) (sym (of_ok [] ys (Ok []) refl h))
  met_in_kept act second (a ∷ xs) ys h = met_after a.0 (checked act a.1 (multiple_of second a.0)) xs (kept act second xs) ys (λ zs e. met_in_kept act second xs zs e) h

added_or_not : (f : Formula) (n : OrTooWide ℤ) (b c : Bool) (o p : OrTooWide (List (Formula × ℤ))) → b ≡ c → o ≡ p → (if b then o else with_atom f n o) ≡ (if c then p else with_atom f n p)
added_or_not f n b c o p e h = λ i. if e i then h i else with_atom f n (h i)

pub further_of_kept : (act other : Act) (second xs ys zs : List (Formula × ℤ)) → kept act second xs ≡ Ok ys → further other ys zs ≡ further other xs zs
further_of_kept act other second xs ys [] h = refl
further_of_kept act other second xs ys (z ∷ zs) h = added_or_not z.0 (checked other (pos 0) z.1) _ _ _ _ (met_in_kept z.0 act second xs ys h) (further_of_kept act other second xs ys zs h)

-- the sum or the difference of two forms, by what is kept
abbrev linear_of : ℤ → List (Formula × ℤ) → OrTooWide Linear
linear_of c atoms = Ok (record { constant = c; atoms = atoms })

add_others : (act : Act) (c : ℤ) (kept : OrTooWide (List (Formula × ℤ))) (o : List (Formula × ℤ) → OrTooWide (List (Formula × ℤ))) (p : OrTooWide (List (Formula × ℤ)))
    → ((ks : List (Formula × ℤ)) → kept ≡ Ok ks → o ks ≡ p)
    → then_do kept (λ ks. then_do p (λ fs. linear_of c (ks ++ fs))) ≡ then_do kept (λ ks. then_do (o ks) (λ fs. linear_of c (ks ++ fs)))
add_others act c (Err e) o p each = refl
add_others act c (Ok ks) o p each = ap (λ q. then_do q (λ fs. linear_of c (ks ++ fs))) (sym (each ks refl))

joined_after : (act : Act) (a b : Linear) (c : OrTooWide ℤ)
    → then_do c (λ c. then_do (kept act b.atoms a.atoms) (λ ks. then_do (further act a.atoms b.atoms) (λ fs. linear_of c (ks ++ fs)))) ≡ joined_with act c (kept act b.atoms a.atoms) b.atoms
joined_after act a b (Err e) = refl
joined_after act a b (Ok c) = add_others act c (kept act b.atoms a.atoms) (λ ks. further act ks b.atoms) (further act a.atoms b.atoms)
    (λ ks h. further_of_kept act act b.atoms a.atoms ks b.atoms h)

pub joined_by_parts : (act : Act) (a b : Linear) → joined_by act a b ≡ joined_with act (checked act a.constant b.constant) (kept act b.atoms a.atoms) b.atoms
joined_by_parts act a b = joined_after act a b (checked act a.constant b.constant)
