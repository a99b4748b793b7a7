-- A step gives at most one ticket, and stores at most one proof.
use Rattle.std.proofs.Common.{◌≡◌, sym, subst, refl, ℕ, ◌+◌, ◌-◌, ◌≤◌, Bool, true, false, cond, List, [], ◌∷◌, arith}
use Rattle.std.specs.Cmp.Lexicographic.{nat_list_cmp_total}
use Rattle.std.specs.FinMap.{FinMap, len, contains_key, remove, len-insert, len-remove}
use Rattle.proof_entries.specs.declared.Proof.{Proof}
use Rattle.proof_entries.specs.declared.Entry.{Entry}
use Rattle.proof_entries.specs.declared.Entry.TheVariants.{Put, Drop, Build, SetProof, Purge}
use Rattle.core_steps.specs.Durable.{text_cmp}
use Rattle.core_steps.specs.declared.durable.Durable.{Durable}
use Rattle.core_steps.specs.State.{State, entered, without_all}
use Rattle.core_steps.specs.Outcomes.{StepOutcome}
use Rattle.core_steps.proofs.Sorts.{Sort, tells, enters, takes, hands_in, stores}

one_more : (b : Bool) (n : ℕ) → cond b n (n + 1) ≤ n + 1
one_more true n = omega arith
one_more false n = omega arith

no_more : (b : Bool) (n : ℕ) → cond b (n - 1) n ≤ n
no_more true n = omega arith
no_more false n = omega arith

fewer : (proofs : FinMap text_cmp Proof) (names : List (List ℕ)) → len (without_all proofs names) ≤ len proofs
fewer proofs [] = omega arith
fewer proofs (name ∷ names) =
    omega (arith, fewer (remove proofs name) names, len-remove nat_list_cmp_total proofs name, no_more (contains_key proofs name) (len proofs))

entered_slowly : (d : Durable) (entry : Entry) → len (entered d entry).proofs ≤ len d.proofs + 1
entered_slowly d (Put name text) = omega arith
entered_slowly d (Drop name) = omega arith
entered_slowly d Build = omega arith
entered_slowly d (SetProof name proof) = omega (arith, len-insert nat_list_cmp_total d.proofs name proof, one_more (contains_key d.proofs name) (len d.proofs))
entered_slowly d (Purge names) = omega (arith, fewer d.proofs names)

abbrev Slow : State → StepOutcome → Type 0
Slow s x = (x.new.next ≤ s.next + 1) × (len x.new.durable.proofs ≤ len s.durable.proofs + 1)

pub slowly : (s : State) (x : StepOutcome) → Sort s x → Slow s x
slowly s x (tells reply is) = subst (Slow s) (sym is) (omega arith, omega arith)
slowly s x (enters reply entry is) = subst (Slow s) (sym is) (omega arith, entered_slowly s.durable entry)
slowly s x (takes o is) = subst (Slow s) (sym is) (omega arith, omega arith)
slowly s x (hands_in before k behind cut tried reply is) = subst (Slow s) (sym is) (omega arith, omega arith)
slowly s x (stores before k behind cut reply entry is) = subst (Slow s) (sym is) (omega arith, entered_slowly s.durable entry)
