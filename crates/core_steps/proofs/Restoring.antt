-- Builds and edits that change nothing.
use Rattle.std.proofs.Common.{◌≡◌, ◌⊎◌, inl, inr, ◌∙◌, refl, sym, ap, subst, ℕ, Bool, true, false, cond, List}
use Rattle.std.specs.Prelude.{Option, Some, None}
use Rattle.std.specs.Ordering.{eq_by_cmp, is_eq}
use Rattle.std.specs.declared.cmp.Ordering.{Ordering}
use Rattle.std.specs.declared.cmp.Ordering.TheVariants.{Less, Equal, Greater}
use Rattle.std.specs.Cmp.Lexicographic.{nat_list_cmp_total}
use Rattle.std.specs.FinMap.{FinMap, get, insert, get-insert, same_map}
use Rattle.proof_entries.specs.declared.Entry.TheVariants.{Put}
use Rattle.core_steps.specs.Durable.{text_cmp}
use Rattle.core_steps.specs.declared.durable.Durable.{Durable}
use Rattle.core_steps.specs.State.{State, entered}
use Rattle.core_steps.specs.Outcomes.{StepOutcome}
use Rattle.core_steps.specs.Editing.{Builds}
use Rattle.core_steps.proofs.NameMaps.{same_name}
use Rattle.core_steps.proofs.OneWay.{Laws, builds}

equal_of : (r : Ordering) → is_eq r ≡ true → r ≡ Equal
equal_of Less e = cc
equal_of Equal e = cc
equal_of Greater e = cc

module _ {X : Type 0} (m : FinMap text_cmp X) (name : List ℕ) (old new : X) (was : get m name ≡ Some old) where
  at_name : (q : List ℕ) (b : Bool) → eq_by_cmp text_cmp q name ≡ b → cond b (Some old) (cond b (Some new) (get m q)) ≡ get m q
  at_name q true tied = sym was ∙ ap (get m) (sym (same_name q name (equal_of _ tied)))
  at_name q false apart = refl

  pub inserted_back : insert (insert m name new) name old ≡ m
  inserted_back = same_map nat_list_cmp_total same_name _ m (λ q.
      get-insert nat_list_cmp_total (insert m name new) name old q
      ∙ ap (cond (eq_by_cmp text_cmp q name) (Some old)) (get-insert nat_list_cmp_total m name new q)
      ∙ at_name q (eq_by_cmp text_cmp q name) refl)

pub edited_back : (d : Durable) (name old text : List ℕ) → get d.texts name ≡ Some old → entered (entered d (Put name text)) (Put name old) ≡ d
edited_back d name old text was i = record d { texts = inserted_back d.texts name old text was i }

abbrev built_of : State → State
built_of s = record s { durable = record s.durable { built = s.durable.texts } }

pub built_once : Laws → (s : State) (x y : StepOutcome) → Builds s x → Builds x.new y → y.new ≡ x.new
built_once laws s x y (inl a) b =
    let same : x.new ≡ s = ap (λ z. z.new) a.2 in
    ap (λ z. z.new) (sym (builds laws s x y (inl a) (subst (λ t. Builds t y) same b)))
built_once laws s x y (inr a) (inl b) = ap (λ z. z.new) b.2
built_once laws s x y (inr a) (inr b) =
    let e : x.new ≡ built_of s = ap (λ z. z.new) a.4 in
    ap (λ z. z.new) b.4 ∙ ap built_of e ∙ sym e
