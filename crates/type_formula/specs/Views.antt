-- What the values of the code are as plain data.
use Rattle.type_formula.specs.Bare.{Bare, Bares, BareBounds, Number, Identifier, Form, Partition, Binding, Ascribed, Broken, nothing, more, unbound, plain, typed}
use Rattle.type_formula.specs.declared.tree.Tree.{Tree}
use Rattle.type_formula.specs.declared.tree.Tree.TheVariants as tree
use Rattle.type_formula.specs.declared.tree.Trees.{Trees}
use Rattle.type_formula.specs.declared.tree.Trees.TheVariants as trees
use Rattle.type_formula.specs.declared.tree.BoundNames.{BoundNames}
use Rattle.type_formula.specs.declared.tree.BoundNames.TheVariants as names

-- a tree of the code, wherever it lies in memory
abbrev mutual
  pub bare_of : Tree → Bare
  bare_of (tree.Number n) = Number n
  bare_of (tree.Identifier x place) = Identifier x place
  bare_of (tree.Form' op p parts) = Form op (bares_of parts)
  bare_of (tree.Partition' p parts) = Partition (bares_of parts)
  bare_of (tree.Binding' binder p bound q parts) = Binding binder (bounds_of bound) (bares_of parts)
  bare_of (tree.Ascribed' p e q t) = Ascribed (bare_of e) (bare_of t)
  bare_of (tree.Broken' p parts) = Broken (bares_of parts)

  pub bares_of : Trees → Bares
  bares_of trees.End = nothing
  bares_of (trees.More' p b q bs) = more (bare_of b) (bares_of bs)

  pub bounds_of : BoundNames → BareBounds
  bounds_of names.End = unbound
  bounds_of (names.Plain' x p bs) = plain x (bounds_of bs)
  bounds_of (names.Typed' x p t q bs) = typed x (bare_of t) (bounds_of bs)
