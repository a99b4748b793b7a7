-- Obligations of components, one component after another, and what is counted of them.
use Rattle.std.proofs.Common.{◌≡◌, ◌∙◌, inl, inr, sym, ap, subst, refl, ℕ, ◌<◌, ◌≤◌, ◌+◌, ◌-◌, ◌^◌, Bool, true, false, cond, List, [], ◌∷◌, ◌++◌, Option, Some, None, min, append_assoc, nat_lt, arith}
use Rattle.std.specs.Prelude.{Ok, Err, IfSome}
use Rattle.std.specs.List.{Contains}
use Rattle.std.proofs.lemmas.Bool.Decides.{Decides-ltb}
use Rattle.std.proofs.lemmas.List.{append-nil}
use Rattle.sequent_core.specs.declared.sequent.Obligation.{Obligation}
use Rattle.model_core.specs.declared.component.RawComponent.{RawComponent}
use Rattle.model_core.specs.declared.checked.Checked.{Checked}
use Rattle.check_rules.specs.Contexts.{Outcome}
use Rattle.static_check.specs.Settling.{own_name}
use Rattle.po_rules.specs.Gathering.{Gathered, nodes_of, with_one, gathered, table_nodes, table_limit}
use Rattle.po_generate.specs.Laws as gathering
use Rattle.po_rules.specs.Tables.{obligations_of}
use Rattle.build_core.specs.declared.owns.Own.{Own}
use Rattle.build_core.specs.Projects.{Project, has_text}
use Rattle.build_core.specs.Tables.{refined_in, counted_nodes}
use Rattle.build_core.specs.Private.{Outcomes, found, Sets, abstraction_in, IsOwn, OwnFrom, OwnsOf, HaveComponents, PassesLimitAt}
use Rattle.build_core.proofs.EachOwn.{AreOwn, HaveOwns}
use Rattle.build_core.proofs.Found.{set_cases, named_one}
use Rattle.build_core.proofs.Limits.{table_cons, all_fit}

pub table_both : (xs ys : List Obligation) → table_nodes (xs ++ ys) ≡ table_nodes xs + table_nodes ys
table_both [] ys = omega arith
table_both (x ∷ xs) ys = omega (arith, table_both xs ys, table_cons x xs, table_cons x (xs ++ ys))

-- WHAT IS COUNTED

abbrev count_one : ℕ → ℕ → ℕ
count_one n more = cond (nat_lt table_limit n) n (min (n + more) (2 ^ 64 - 1))

abbrev count : ℕ → List Obligation → ℕ
count n [] = n
count n (o ∷ os) = count (count_one n (nodes_of o)) os

one_counted : (g : Gathered) (o : Obligation) → (with_one g o).nodes ≡ count_one g.nodes (nodes_of o)
one_counted g o = by (nat_lt table_limit g.nodes)
  where
    by : (b : Bool) → (cond b g (record {
      obligations = cond (nat_lt table_limit (g.nodes + nodes_of o)) g.obligations (g.obligations ++ o ∷ []);
      nodes = min (g.nodes + nodes_of o) (2 ^ 64 - 1);
    })).nodes ≡ cond b g.nodes (min (g.nodes + nodes_of o) (2 ^ 64 - 1))
    by true = refl
    by false = refl

counted : (g : Gathered) (os : List Obligation) → (gathered g os).nodes ≡ count g.nodes os
counted g [] = refl
counted g (o ∷ os) = counted (with_one g o) os ∙ ap (λ n. count n os) (one_counted g o)

count_more : (n : ℕ) (xs ys : List Obligation) → count n (xs ++ ys) ≡ count (count n xs) ys
count_more n [] ys = refl
count_more n (x ∷ xs) ys = count_more (count_one n (nodes_of x)) xs ys

count_full : (n : ℕ) (os : List Obligation) → table_limit < n → count n os ≡ n
count_full n [] more = refl
count_full n (o ∷ os) more = ap (λ m. count m os) (by (nat_lt table_limit n) refl) ∙ count_full n os more
  where
    by : (b : Bool) → nat_lt table_limit n ≡ b → cond b n (min (n + nodes_of o) (2 ^ 64 - 1)) ≡ n
    by true e = refl
    by false e = let f = (Decides-ltb table_limit n).1 more in absurd (never (sym e ∙ f))
      where
        never : false ≡ true → ⊥
        never h = cc

count_fits : (n : ℕ) (os : List Obligation) → n + table_nodes os ≤ table_limit → count n os ≡ n + table_nodes os
count_fits n [] few = omega arith
count_fits n (o ∷ os) few =
    ap (λ m. count m os) one ∙ count_fits (n + nodes_of o) os (omega (arith, few, table_cons o os)) ∙ omega (arith, table_cons o os)
  where
    by : (b : Bool) → nat_lt table_limit n ≡ b → cond b n (min (n + nodes_of o) (2 ^ 64 - 1)) ≡ n + nodes_of o
    by true e = let more = (Decides-ltb table_limit n).0 e in absurd (omega (arith, more, few))
    by false e = omega (arith, few, table_cons o os)

    one : count_one n (nodes_of o) ≡ n + nodes_of o
    one = by (nat_lt table_limit n) refl

-- the count of a table, where it passes the limit in the obligations of one component
pub passes_whole : (table list others : List Obligation) (nodes n : ℕ) → nodes ≡ table_nodes table → nodes ≤ table_limit → PassesLimitAt list nodes n → n ≡ counted_nodes (table ++ (list ++ others))
passes_whole table list others nodes n is few passes =
    let here : n ≡ count nodes list = passes.1 ∙ counted (gathering.begun_at nodes) list in
    let before : count 0 table ≡ nodes = count_fits 0 table (omega (arith, is, few)) ∙ omega (arith, is) in
    let whole : count 0 (table ++ (list ++ others)) ≡ n =
    count_more 0 table (list ++ others) ∙ ap (λ m. count m (list ++ others)) before ∙ count_more nodes list others
    ∙ ap (λ m. count m others) (sym here) ∙ count_full n others passes.0 in
    sym (counted (record { obligations = []; nodes = 0 }) (table ++ (list ++ others)) ∙ whole)

-- ONE COMPONENT

-- what is gathered of a component, within the limit
pub gathered_made : (n : ℕ) (list : List Obligation) (g : Gathered) → n ≤ table_limit → g ≡ gathered (gathering.begun_at n) list → g.nodes ≤ table_limit →
    (g.obligations ≡ list) × (g.nodes ≡ n + table_nodes list)
gathered_made n list g few is fits =
    let all = all_fit (gathering.begun_at n) list few (subst (λ (h : Gathered). h.nodes ≤ table_limit) is fits) in
    (ap (λ (h : Gathered). h.obligations) is ∙ all.0, ap (λ (h : Gathered). h.nodes) is ∙ all.1)

-- what is found
pub if_found : {X : Type 0} (P : X → Type 0) (o : Option X) → ((x : X) → o ≡ Some x → P x) → IfSome o P
if_found P None f = tt
if_found P (Some x) f = f x refl

-- all is done where nothing is left
pub done_all : {X : Type 0} (done rest all : List X) → rest ≡ [] → done ++ rest ≡ all → done ≡ all
done_all done rest all none is = sym (append-nil done) ∙ ap (λ xs. done ++ xs) (sym none) ∙ is

-- COMPONENTS

module _ (components : List RawComponent) (outcomes : Outcomes) where
  pub own_both : (done entries : Project) (table others : List Obligation) → AreOwn components outcomes done table → AreOwn components outcomes entries others →
      AreOwn components outcomes (done ++ entries) (table ++ others)
  own_both [] entries table others a b = subst (AreOwn components outcomes entries) (ap (λ t. t ++ others) (sym a)) b
  own_both (d ∷ done) entries table others a b =
      (a.0, a.1 ++ others, a.2, own_both done entries a.1 others a.3 b, ap (λ t. t ++ others) a.4 ∙ append_assoc a.0 a.1 others)

  -- those of a component without fault
  pub own_from : (name : List ℕ) (checked : Checked) (own : List Obligation) (c : RawComponent) → found outcomes name ≡ Some (Ok checked) → Contains components c → own_name c ≡ name →
      own ≡ obligations_of checked (abstraction_in outcomes (refined_in c)) → IsOwn components outcomes name own
  own_from name checked own c e there named is = subst (λ o. OwnFrom components outcomes name o own) (sym e) (c, there, named, is)

  -- each component has its obligations
  own_there : HaveComponents components outcomes → (name : List ℕ) (outcome : Option Outcome) → found outcomes name ≡ outcome → (own : List Obligation) × OwnFrom components outcomes name outcome own
  own_there have name None e = ([], refl)
  own_there have name (Some (Err fault)) e = ([], refl)
  own_there have name (Some (Ok checked)) e =
      let c = named_one components name (have name checked e) in
      (obligations_of checked (abstraction_in outcomes (refined_in c.0)), (c.0, c.1, c.2, refl))

  pub owns_there : HaveComponents components outcomes → (entries : Project) → (table : List Obligation) × AreOwn components outcomes entries table
  owns_there have [] = ([], refl)
  owns_there have (entry ∷ entries) =
      let own = own_there have entry.0 (found outcomes entry.0) refl in
      let others = owns_there have entries in
      (own.0 ++ others.0, (own.0, others.0, own.1, others.1, refl))

  pub haves_more : (project : Project) (owns next : List (List ℕ × Own)) (name : List ℕ) (own : Own) →
      HaveOwns components outcomes project owns → Sets owns name own next → has_text project name ≡ true → OwnsOf components outcomes name own → HaveOwns components outcomes project next
  haves_more project owns next name own have sets there of = λ n o e. elim (set_cases owns name own next sets n o e) [
    | inl here ↦ subst (λ m. (has_text project m ≡ true) × OwnsOf components outcomes m o) here.0 (there, subst (OwnsOf components outcomes name) here.1 of)
    | inr old ↦ have n o old
  ]
