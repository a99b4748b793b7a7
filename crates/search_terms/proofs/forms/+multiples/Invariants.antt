use Rattle.search_terms.proofs.forms.+multiples.Given as goal

abbrev pub decreases-add_multiple : goal.decreases-add_multiple
decreases-add_multiple l = l.levels

abbrev pub decreases-add_product : goal.decreases-add_product
decreases-add_product l = l.levels
