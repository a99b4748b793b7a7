-- The first fault of components.
use Rattle.std.proofs.Common.{◌≡◌, ◌∙◌, ap, refl, sym, ℕ, Bool, true, false, cond, nat_le, nat_lt, List, [], ◌∷◌, ◌++◌, length, Option, Some, None, Err, append_assoc}
use Rattle.model_core.specs.Each.{is_among}
use Rattle.check_input.specs.declared.input.InputFault.{InputFault}
use Rattle.check_input.specs.declared.input.InputFault.TheVariants as fault
use Rattle.check_input.specs.Inputs.{Component, Numbered, first_fault, without_lines, without_fault}
use Rattle.check_input.specs.PrivateParts.{component_names, fault_here, validated}
use Rattle.check_input.proofs.Sets.{map-push}

abbrev among : Bool → Bool → Bool → InputFault → InputFault → InputFault → Option InputFault → Option InputFault
among a b c x y z later = cond a (Some x) (cond b (Some y) (cond c (Some z) later))

none_before : (a b c : Bool) (x y z : InputFault) (later : Option InputFault) → among a b c x y z None ≡ None → among a b c x y z later ≡ later
none_before true b c x y z later h = cc
none_before false true c x y z later h = cc
none_before false false true x y z later h = cc
none_before false false false x y z later h = refl

some_before : (a b c : Bool) (x y z f : InputFault) (later : Option InputFault) → among a b c x y z None ≡ Some f → among a b c x y z later ≡ Some f
some_before true b c x y z f later h = h
some_before false true c x y z f later h = h
some_before false false true x y z f later h = h
some_before false false false x y z f later h = cc

module _ (before : List (List ℕ)) (p : Numbered) (parts : List Numbered) where
  pub later_fault : fault_here before p ≡ None → first_fault before (p ∷ parts) ≡ first_fault (before ++ p.1.0 ∷ []) parts
  later_fault h =
      none_before (is_among before p.1.0) (nat_le 256 (length before)) (nat_lt 65536 (length p.1.1)) (fault.Second p.0 p.1.0) (fault.TooMany p.0) (fault.TextTooLong p.0)
      (first_fault (before ++ p.1.0 ∷ []) parts) h

  pub fault_now : (f : InputFault) → fault_here before p ≡ Some f → first_fault before (p ∷ parts) ≡ Some f
  fault_now f h =
      some_before (is_among before p.1.0) (nat_le 256 (length before)) (nat_lt 65536 (length p.1.1)) (fault.Second p.0 p.1.0) (fault.TooMany p.0) (fault.TextTooLong p.0) f
      (first_fault (before ++ p.1.0 ∷ []) parts) h

-- these stand before the rest of all components, and none of them is a fault
pub record AreBefore (all : List Numbered) (parts : List Component) (rest : List Numbered) : Type 0 where
  pub fault_of_all : first_fault [] all ≡ first_fault (component_names parts) rest
  pub all_parts : without_lines all ≡ parts ++ without_lines rest

module _ (all : List Numbered) (parts : List Component) (rest : List Numbered) (h : AreBefore all parts rest) where
  pub one_added : (p : Numbered) (behind : List Numbered) (more : List Component) → p ∷ behind ≡ rest → fault_here (component_names parts) p ≡ None → more ≡ parts ++ p.1 ∷ [] → AreBefore all more behind
  one_added p behind more first right added = record {
    fault_of_all = h.fault_of_all ∙ (ap (first_fault (component_names parts)) (sym first) ∙ (later_fault (component_names parts) p behind right
        ∙ ap (λ xs. first_fault xs behind) (sym (ap component_names added ∙ map-push (λ (q : Component). q.0) parts p.1))));
    all_parts = h.all_parts ∙ (ap (λ ps. parts ++ without_lines ps) (sym first) ∙ (sym (append_assoc parts (p.1 ∷ []) (without_lines behind)) ∙ ap (λ xs. xs ++ without_lines behind) (sym added)));
  }

  pub fault_found : (p : Numbered) (behind : List Numbered) (f : InputFault) → p ∷ behind ≡ rest → fault_here (component_names parts) p ≡ Some f → validated all ≡ Err f
  fault_found p behind f first wrong =
      ap (without_fault all) (h.fault_of_all ∙ (ap (first_fault (component_names parts)) (sym first) ∙ fault_now (component_names parts) p behind f wrong))
