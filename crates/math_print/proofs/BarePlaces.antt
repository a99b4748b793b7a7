-- Bare formulas without the places of their names: each place is 0.
use Rattle.type_formula.specs.Bare.{Bare, Bares, BareBounds, Number, Identifier, Form, Partition, Binding, Ascribed, Broken, nothing, more, unbound, plain, typed}

abbrev mutual
  pub unplaced_bare : Bare → Bare
  unplaced_bare (Number n) = Number n
  unplaced_bare (Identifier x place) = Identifier x 0
  unplaced_bare (Form op parts) = Form op (unplaced_bares parts)
  unplaced_bare (Partition parts) = Partition (unplaced_bares parts)
  unplaced_bare (Binding binder names parts) = Binding binder (unplaced_bounds names) (unplaced_bares parts)
  unplaced_bare (Ascribed e written) = Ascribed (unplaced_bare e) (unplaced_bare written)
  unplaced_bare (Broken parts) = Broken (unplaced_bares parts)

  pub unplaced_bares : Bares → Bares
  unplaced_bares nothing = nothing
  unplaced_bares (more b bs) = more (unplaced_bare b) (unplaced_bares bs)

  pub unplaced_bounds : BareBounds → BareBounds
  unplaced_bounds unbound = unbound
  unplaced_bounds (plain x names) = plain x (unplaced_bounds names)
  unplaced_bounds (typed x written names) = typed x (unplaced_bare written) (unplaced_bounds names)
