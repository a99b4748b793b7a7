-- The texts of the models, put together from their lines.
use Rattle.std.proofs.Common.{◌≡◌, ◌∙◌, ap, ◌-◌, ℕ, List, ◌++◌, append_assoc}
use Rattle.std.specs.Prelude.{codes}
use Rattle.std.specs.Fmt.{decimal}
use Rattle.demo_models.specs.Models.{context_with, machine_with}

abbrev pub context_head : List ℕ → List ℕ → List ℕ
context_head digits extends = codes "context c" ++ (digits ++ (codes "\n" ++ (extends ++ (codes "constants k" ++ (digits ++ codes "\naxioms\n")))))

abbrev pub axiom_line : List ℕ → ℕ → List ℕ
axiom_line digits value = codes "  @a" ++ (digits ++ (codes " k" ++ (digits ++ (codes " = " ++ (decimal value ++ codes "\n")))))

abbrev pub theorem_line : List ℕ → ℕ → List ℕ
theorem_line digits less = codes "  theorem @t" ++ (digits ++ (codes " " ++ (decimal less ++ (codes " < k" ++ (digits ++ codes "\nend\n")))))

context_front : (digits extends : List ℕ) (value : ℕ) → (context_head digits extends ++ axiom_line digits value) ++ theorem_line digits (value - 1) ≡ context_with digits extends value
context_front digits extends value = simp append_assoc

-- a context from its lines
pub context_lines : (digits extends : List ℕ) (value : ℕ) (a b c : List ℕ) → a ≡ context_head digits extends → b ≡ a ++ axiom_line digits value → c ≡ b ++ theorem_line digits (value - 1) →
    c ≡ context_with digits extends value
context_lines digits extends value a b c p q r =
    r ∙ ap (λ t. t ++ theorem_line digits (value - 1)) (q ∙ ap (λ t. t ++ axiom_line digits value) p) ∙ context_front digits extends value

abbrev pub machine_head : List ℕ → List ℕ
machine_head digits = codes "machine m" ++ (digits ++ (codes "\nsees c" ++ (digits ++ (codes "\nvariables n" ++ (digits ++ codes "\ninvariants\n")))))

abbrev pub invariant_lines : List ℕ → List ℕ → List ℕ
invariant_lines digits more =
    codes "  @inv1 n" ++ (digits ++ (codes " : NAT\n  @inv2 n" ++ (digits ++ (codes " <= k" ++ (digits ++ (codes "\n" ++ (more ++ codes "events\n")))))))

abbrev pub start_lines : List ℕ → List ℕ
start_lines digits = codes "  event INITIALISATION\n  then\n    @act1 n" ++ (digits ++ codes " := 0\n  end\n")

abbrev pub guard_lines : List ℕ → List ℕ
guard_lines digits = codes "  event up\n  where\n    @grd1 n" ++ (digits ++ (codes " < k" ++ (digits ++ codes "\n  then\n")))

abbrev pub action_lines : List ℕ → List ℕ
action_lines digits = codes "    @act1 n" ++ (digits ++ (codes " := n" ++ (digits ++ codes " + 1\n  end\nend\n")))

machine_front : (digits more : List ℕ) →
    (((machine_head digits ++ invariant_lines digits more) ++ start_lines digits) ++ guard_lines digits) ++ action_lines digits ≡ machine_with digits more
machine_front digits more = simp append_assoc

-- a machine from its lines
pub machine_lines : (digits more a b c d e : List ℕ) → a ≡ machine_head digits → b ≡ a ++ invariant_lines digits more → c ≡ b ++ start_lines digits → d ≡ c ++ guard_lines digits →
    e ≡ d ++ action_lines digits → e ≡ machine_with digits more
machine_lines digits more a b c d e p q r s t =
    t ∙ ap (λ x. x ++ action_lines digits) (s ∙ ap (λ x. x ++ guard_lines digits) (r ∙ ap (λ x. x ++ start_lines digits) (q ∙ ap (λ x. x ++ invariant_lines digits more) p)))
    ∙ machine_front digits more
