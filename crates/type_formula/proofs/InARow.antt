-- Lists of trees in a row.
use Rattle.std.proofs.Common.{◌≡◌, ◌∙◌, sym, ap, refl, ℕ, List, [], ◌∷◌, ◌++◌, map, Option}
use Rattle.type_formula.specs.Bare.{Bares, BareBounds, nothing, more}
use Rattle.type_formula.specs.CoreForms.{bounds, bound_before}
use Rattle.type_formula.specs.Views.{bare_of}
use Rattle.type_formula.specs.PrivateViews.{bound_of, in_a_row}
use Rattle.type_formula.specs.declared.tree.Tree.{Tree}

-- trees before a row
abbrev pub row_before : List Tree → Bares → Bares
row_before [] row = row
row_before (t ∷ ts) row = more (bare_of t) (row_before ts row)

row_before-append : (ts : List Tree) (t : Tree) (row : Bares) → row_before (ts ++ t ∷ []) row ≡ row_before ts (more (bare_of t) row)
row_before-append [] t row = refl
row_before-append (u ∷ ts) t row = ap (more (bare_of u)) (row_before-append ts t row)

pub row_before-nothing : (ts : List Tree) → row_before ts nothing ≡ in_a_row (map bare_of ts)
row_before-nothing [] = refl
row_before-nothing (t ∷ ts) = ap (more (bare_of t)) (row_before-nothing ts)

pub row_step : (old rest : List Tree) (t : Tree) (row new all : Bares) → old ≡ rest ++ t ∷ [] → new ≡ more (bare_of t) row → row_before old row ≡ all → row_before rest new ≡ all
row_step old rest t row new all e n h = ap (row_before rest) n ∙ sym (ap (λ ts. row_before ts row) e ∙ row_before-append rest t row) ∙ h

-- names before others
abbrev pub names_before : List (List ℕ × Option Tree) → BareBounds → BareBounds
names_before [] names = names
names_before (b ∷ bs) names = bound_before (bound_of b) (names_before bs names)

names_before-append : (bs : List (List ℕ × Option Tree)) (b : List ℕ × Option Tree) (names : BareBounds) → names_before (bs ++ b ∷ []) names ≡ names_before bs (bound_before (bound_of b) names)
names_before-append [] b names = refl
names_before-append (c ∷ bs) b names = ap (bound_before (bound_of c)) (names_before-append bs b names)

pub names_before-nothing : (bs : List (List ℕ × Option Tree)) → names_before bs (bounds []) ≡ bounds (map bound_of bs)
names_before-nothing [] = refl
names_before-nothing (b ∷ bs) = ap (bound_before (bound_of b)) (names_before-nothing bs)

pub names_step : (old rest : List (List ℕ × Option Tree)) (b : List ℕ × Option Tree) (names new all : BareBounds) → old ≡ rest ++ b ∷ [] → new ≡ bound_before (bound_of b) names → names_before old names ≡ all → names_before rest new ≡ all
names_step old rest b names new all e n h = ap (names_before rest) n ∙ sym (ap (λ bs. names_before bs names) e ∙ names_before-append rest b names) ∙ h
