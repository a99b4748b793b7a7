use Rattle.search_facts.proofs.facts.Facts.+known.Given as goal

abbrev pub decreases-known : goal.decreases-known
decreases-known l = l.levels

abbrev pub decreases-known_by_form : goal.decreases-known_by_form
decreases-known_by_form l = l.levels

abbrev pub decreases-known_by_law : goal.decreases-known_by_law
decreases-known_by_law l = l.levels

abbrev pub decreases-known_equation : goal.decreases-known_equation
decreases-known_equation l = l.levels

abbrev pub decreases-known_witness : goal.decreases-known_witness
decreases-known_witness l = l.levels

abbrev pub decreases-witness : goal.decreases-witness
decreases-witness l = l.levels
