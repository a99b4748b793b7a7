-- What the components of an input are.
use Rattle.std.proofs.Common.{◌≡◌, ◌∙◌, ap, refl, sym, subst, ℕ, ◌+◌, ◌<◌, ◌≤◌, Bool, true, false, cond, nat_le, nat_lt, List, [], ◌∷◌, ◌++◌, length, Option, Some, None, Result, Ok, Err, inl, inr, arith, length-append}
use Rattle.std.specs.List.{AllByRecursion}
use Rattle.std.proofs.lemmas.Bool.Decides.{nat_tests}
use Rattle.formula_core.specs.Names.{is_identifier}
use Rattle.model_core.specs.Each.{is_among}
use Rattle.check_input.specs.declared.input.InputFault.{InputFault}
use Rattle.check_input.specs.declared.input.InputFault.TheVariants as fault
use Rattle.check_input.specs.Headings.{heading_of, is_blank_text}
use Rattle.check_input.specs.Inputs.{Component, Numbered, whole_lines, line_feeds, headed, numbered, after_front, without_lines, first_fault, without_fault, made_of, input_parts, IsInput}
use Rattle.check_input.specs.Laws.{AreGoodFrom, PartsAreGood}
use Rattle.check_input.proofs.HeadingLines.{heading_is_identifier}

abbrev IsNamed : Component → Type 0
IsNamed p = is_identifier p.0 ≡ true

abbrev AreNamed : List Numbered → Type 0
AreNamed ns = AllByRecursion (λ n. IsNamed n.1) ns

-- ---- names
one_named : (line : List ℕ) (lines : List (List ℕ)) (name : Option (List ℕ)) → heading_of line ≡ name → AllByRecursion IsNamed (headed lines).parts → AllByRecursion IsNamed (headed (line ∷ lines)).parts
one_named line lines None e h = rw e h
one_named line lines (Some name) e h = rw e (heading_is_identifier line name e, h)

headed_named : (lines : List (List ℕ)) → AllByRecursion IsNamed (headed lines).parts
headed_named [] = tt
headed_named (line ∷ lines) = one_named line lines (heading_of line) refl (headed_named lines)

numbered_named : (line : ℕ) (parts : List Component) → AllByRecursion IsNamed parts → AreNamed (numbered line parts)
numbered_named line [] h = tt
numbered_named line (p ∷ parts) h = (h.0, numbered_named (line + line_feeds p.1) parts h.1)

front_named : (front : List ℕ) (ns : List Numbered) → AreNamed ns → AreNamed (after_front front ns)
front_named front [] h = tt
front_named front (n ∷ ns) h = h

named : (bytes : List ℕ) → AreNamed (input_parts bytes)
named bytes =
    let h = headed (whole_lines bytes) in
    front_named h.front (numbered (1 + line_feeds h.front) h.parts) (numbered_named (1 + line_feeds h.front) h.parts (headed_named (whole_lines bytes)))

-- ---- bounds
tests : (known many long : Bool) (a b c rest : Option InputFault) → (a ≡ None → ⊥) → (b ≡ None → ⊥) → (c ≡ None → ⊥) →
    cond known a (cond many b (cond long c rest)) ≡ None → (many ≡ false) × (long ≡ false) × (rest ≡ None)
tests true many long a b c rest na nb nc h = absurd (na h)
tests false true long a b c rest na nb nc h = absurd (nb h)
tests false false true a b c rest na nb nc h = absurd (nc h)
tests false false false a b c rest na nb nc h = (refl, refl, h)

good : (before : List (List ℕ)) (ns : List Numbered) → AreNamed ns → first_fault before ns ≡ None → AreGoodFrom (length before) (without_lines ns)
good before [] names h = tt
good before (n ∷ ns) names h =
    let t = tests (is_among before n.1.0) (nat_le 256 (length before)) (nat_lt 65536 (length n.1.1)) _ _ _ (first_fault (before ++ n.1.0 ∷ []) ns) (λ e. cc) (λ e. cc) (λ e. cc) h in
    let few : length before < 256 = grind (arith, nat_tests) in
    let short : length n.1.1 ≤ 65536 = grind (arith, nat_tests) in
    (names.0, short, few, subst (λ k. AreGoodFrom k (without_lines ns)) (length-append before (n.1.0 ∷ [])) (good (before ++ n.1.0 ∷ []) ns names.1 t.2))

-- ---- an input
no_fault : (ns : List Numbered) (o : Option InputFault) (found : List Component) → without_fault ns o ≡ Ok found → (o ≡ None) × (without_lines ns ≡ found)
no_fault ns None found h = (refl, cc)
no_fault ns (Some f) found h = cc

made : (ns : List Numbered) (found : List Component) → AreNamed ns → made_of ns ≡ Ok found → AreGoodFrom 0 found
made [] found names h = cc
made (n ∷ ns) found names h =
    let o = no_fault (n ∷ ns) (first_fault [] (n ∷ ns)) found h in
    subst (AreGoodFrom 0) o.1 (good [] (n ∷ ns) names o.0)

chosen : (blank : Bool) (bytes : List ℕ) (found : List Component) → Ok found ≡ cond blank (Ok []) (made_of (input_parts bytes)) → AreGoodFrom 0 found
chosen true bytes found h = let none : [] ≡ found = cc in subst (AreGoodFrom 0) none tt
chosen false bytes found h = made (input_parts bytes) found (named bytes) (sym h)

pub parts_are_good : PartsAreGood
parts_are_good bytes parts h = elim h [
  | inl bad ↦ cc
  | inr fine ↦ chosen (is_blank_text bytes) bytes parts fine.1
]
