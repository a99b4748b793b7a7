-- The clashes that a context brings.
use Rattle.std.proofs.Common.{◌≡◌, ◌<◌, ◌≤◌, ◌+◌, ◌∙◌, sym, ap, refl, ℕ, zero, suc, Bool, true, false, cond, ◌&&◌, ◌||◌, ◌==◌, nat_lt, List, [], ◌∷◌, ◌++◌, map, take, drop, length, get_or, arith}
use Rattle.std.specs.Prelude.{Option, Some, None}
use Rattle.std.specs.Borrow.{Bor}
use Rattle.std.specs.BTreeMap.{BTreeMap}
use Rattle.std.specs.Map.{lookup}
use Rattle.std.specs.List.{zip}
use Rattle.std.specs.Option.{option_map}
use Rattle.std.specs.Cmp.Lexicographic.{slice_cmp}
use Rattle.std.specs.Ordering.{nat_cmp, is_eq}
use Rattle.std.proofs.lemmas.Bool.Decides.{nat_tests}
use Rattle.std.proofs.lemmas.Slice.Zip.{get_or-zip, length-zip}
use Rattle.std.proofs.lemmas.List.{map-append, get_or-map, length-map, take-map, take_all}
use Rattle.formula_core.specs.declared.ty.Ty.{Ty}
use Rattle.formula_core.specs.declared.raw.Ref.{Ref}
use Rattle.model_core.specs.declared.fault.Fault.{Fault}
use Rattle.model_core.specs.declared.fault.FaultKind.TheVariants as kind
use Rattle.model_core.specs.declared.checked.CheckedContext.{CheckedContext}
use Rattle.model_core.specs.Faults.{comes_before, earlier, first_by_place, fault_at}
use Rattle.model_core.proofs.Firsts.{first_more, taken_more}
use Rattle.model_core.proofs.Lists.{at_index}
use Rattle.check_rules.specs.Declarations.{brings_clash, brings_clash_row}
use Rattle.check_rules.specs.Visible.{Identifiers, Visible, all_visible, seen_from, with_context, of_context, clashing}
use Rattle.context_check.specs.declared.visible.Origin.{Origin}
use Rattle.context_check.specs.Views.{differs, clashes, clashes_with, placed}
use Rattle.context_check.specs.Private.{first_clashing}

pub none_noted : (m : BTreeMap (Bor (List ℕ)) Origin) → m.entries ≡ [] → (x o : List ℕ) → clashes m x o ≡ false
none_noted m e x o = ap (λ es. differs (lookup (λ k. is_eq (slice_cmp nat_cmp x k.now)) es) o) e

pub clash_step : (clash : List ℕ → List ℕ → Bool) (xs : List (Bor (List ℕ × Ty) × Bor (List ℕ))) (i : ℕ) (x : Bor (List ℕ × Ty) × Bor (List ℕ)) (b : Bool) → i < length xs → x ≡ get_or xs i x →
    b ≡ clash x.0.now.0 x.1.now →
    first_clashing clash (map placed (drop i xs)) ≡ cond b (Some x.0.now.0) (first_clashing clash (map placed (drop (i + 1) xs)))
clash_step clash xs i x b lt is e =
    ap (λ ys. first_clashing clash (map placed ys)) (at_index xs i x lt is) ∙ ap (λ c. cond c (Some x.0.now.0) (first_clashing clash (map placed (drop (i + 1) xs)))) (sym e)

never_first : (b : Bool) (p r : ℕ) → b ≡ (nat_lt p p || p == p && nat_lt r r) → b ≡ false
never_first b p r e = e ∙ at (nat_lt p p) (nat_lt r r) (p == p) (grind (arith, nat_tests)) (grind (arith, nat_tests))
  where
    at : (x y z : Bool) → x ≡ false → y ≡ false → (x || (z && y)) ≡ false
    at true y z e f = e
    at false true z e f = absurd (unequal f)
      where
        unequal : true ≡ false → ⊥
        unequal h = cc
    at false false true e f = refl
    at false false false e f = refl

abbrev pub told : List ℕ → ℕ → List ℕ → Fault
told component place name = fault_at component kind.DeclaredTwice place name

first_of_tied : (component : List ℕ) (place : ℕ) (name : List ℕ) (o : Option (List ℕ)) → earlier (Some (told component place name)) (option_map (told component place) o) ≡ Some (told component place name)
first_of_tied component place name None = refl
first_of_tied component place name (Some other) =
    ap (λ b. cond b (Some (told component place other)) (Some (told component place name))) (never_first (comes_before (told component place other) (told component place name)) place 10 refl)

pub first_told : (component : List ℕ) (place : ℕ) (clash : List ℕ → List ℕ → Bool) (old more : Identifiers) → ((x o : List ℕ) → clash x o ≡ clashes_with old x o) →
    first_by_place (map (λ n. told component place n.0.0) (clashing old more)) ≡ option_map (told component place) (first_clashing clash more)
first_told component place clash old [] h = refl
first_told component place clash old (x ∷ more) h = step (first_told component place clash old more h) (clashes_with old x.0.0 x.1) (clash x.0.0 x.1) (h x.0.0 x.1)
  where
    step : first_by_place (map (λ n. told component place n.0.0) (clashing old more)) ≡ option_map (told component place) (first_clashing clash more) → (a b : Bool) → b ≡ a →
        first_by_place (map (λ n. told component place n.0.0) (cond a (x ∷ clashing old more) (clashing old more))) ≡ option_map (told component place) (cond b (Some x.0.0) (first_clashing clash more))
    step later true b e = ap (earlier (Some (told component place x.0.0))) later ∙ first_of_tied component place x.0.0 (first_clashing clash more)
        ∙ ap (λ c. option_map (told component place) (cond c (Some x.0.0) (first_clashing clash more))) (sym e)
    step later false b e = later ∙ ap (λ c. option_map (told component place) (cond c (Some x.0.0) (first_clashing clash more))) (sym e)

-- the contexts of the first references
second_of_zip : {K X : Type 0} (xs : List K) (ys : List X) (i : ℕ) → length xs ≡ length ys → map (λ p. p.1) (take i (zip xs ys)) ≡ take i ys
second_of_zip [] [] zero e = refl
second_of_zip [] [] (suc i) e = refl
second_of_zip [] (y ∷ ys) i e = absurd (omega (arith, e))
second_of_zip (x ∷ xs) [] i e = absurd (omega (arith, e))
second_of_zip (x ∷ xs) (y ∷ ys) zero e = refl
second_of_zip (x ∷ xs) (y ∷ ys) (suc i) e = ap (λ r. y ∷ r) (second_of_zip xs ys i (omega (arith, e)))

pub seen_more : (v w n : Visible) (cs : List CheckedContext) (c : CheckedContext) → w ≡ seen_from v cs → n ≡ with_context w c → n ≡ seen_from v (cs ++ c ∷ [])
seen_more v w n [] c e f = f ∙ ap (λ u. with_context u c) e
seen_more v w n (d ∷ cs) c e f = seen_more (with_context v d) w n cs c e f

pub clash_more : (component : List ℕ) (v w : Visible) (refs : List Ref) (cs : List CheckedContext) (i : ℕ) (r : Ref) (c : CheckedContext) (first here : Option Fault) →
    length refs ≡ length cs → i < length cs → r ≡ get_or refs i r → c ≡ get_or cs i c → w ≡ seen_from v (take i cs) →
    first ≡ first_by_place (brings_clash component v (take i (zip refs cs))) →
    here ≡ first_by_place (map (λ n. told component r.place n.0.0) (clashing (all_visible w) (of_context c))) →
    earlier first here ≡ first_by_place (brings_clash component v (take (i + 1) (zip refs cs)))
clash_more component v w refs cs i r c first here same lt is at seen e f =
    first_more (brings_clash_row component v) (zip refs cs) i (r, c) first here (omega (arith, lt, same, length-zip refs cs))
    (sym (get_or-zip refs cs i (r, c) (omega (arith, lt, same)) lt ∙ (λ j. (sym is j, sym at j)))) e
    (f ∙ ap (λ u. first_by_place (map (λ n. told component r.place n.0.0) (clashing (all_visible u) (of_context c)))) (seen ∙ ap (seen_from v) (sym (second_of_zip refs cs i same))))

abbrev pub now : List (Bor CheckedContext) → List CheckedContext
now contexts = map (λ c. c.now) contexts

pub borrowed_clash_more : (component : List ℕ) (v w : Visible) (refs : List Ref) (contexts : List (Bor CheckedContext)) (i : ℕ) (r : Ref) (c : Bor CheckedContext) (first here : Option Fault) →
    length refs ≡ length contexts → i < length contexts → r ≡ get_or refs i r → c ≡ get_or contexts i c → w ≡ seen_from v (now (take i contexts)) →
    first ≡ first_by_place (brings_clash component v (take i (zip refs (now contexts)))) →
    here ≡ first_by_place (map (λ n. told component r.place n.0.0) (clashing (all_visible w) (of_context c.now))) →
    earlier first here ≡ first_by_place (brings_clash component v (take (i + 1) (zip refs (now contexts))))
borrowed_clash_more component v w refs contexts i r c first here same lt is at seen e f =
    clash_more component v w refs (now contexts) i r c.now first here (same ∙ sym (length-map contexts (λ d. d.now))) (omega (arith, lt, length-map contexts (λ d. d.now))) is
    (ap (λ d. d.now) at ∙ sym (get_or-map (λ d. d.now) contexts i c c.now lt)) (seen ∙ ap (seen_from v) (sym (take-map (λ d. d.now) i contexts))) e f

pub borrowed_seen_more : (v w n : Visible) (contexts : List (Bor CheckedContext)) (i : ℕ) (c : Bor CheckedContext) → i < length contexts → c ≡ get_or contexts i c →
    w ≡ seen_from v (now (take i contexts)) → n ≡ with_context w c.now → n ≡ seen_from v (now (take (i + 1) contexts))
borrowed_seen_more v w n contexts i c lt at e f =
    seen_more v w n (now (take i contexts)) c.now e f ∙ ap (seen_from v) (sym (map-append (λ d. d.now) (take i contexts) (c ∷ [])) ∙ ap now (sym (taken_more contexts i c lt at)))

pub all_clashes : (component : List ℕ) (v : Visible) (refs : List Ref) (contexts : List (Bor CheckedContext)) (i : ℕ) (first : Option Fault) → length refs ≡ length contexts → length contexts ≤ i →
    first ≡ first_by_place (brings_clash component v (take i (zip refs (now contexts)))) → first ≡ first_by_place (brings_clash component v (zip refs (now contexts)))
all_clashes component v refs contexts i first same done e =
    e ∙ ap (λ ps. first_by_place (brings_clash component v ps)) (take_all i (zip refs (now contexts)) (omega (arith, length-zip refs (now contexts), same, done, length-map contexts (λ d. d.now))))
