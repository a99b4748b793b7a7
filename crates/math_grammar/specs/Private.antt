-- What only private contracts cite.
use Rattle.std.specs.Prelude.{ℕ, List, map}
use Rattle.std.specs.Borrow.{Bor}
use Rattle.formula_core.specs.declared.op.Op.{Op}
use Rattle.math_grammar.specs.declared.operators.Form.{Form}
use Rattle.math_grammar.specs.declared.symbols.Symbol.{Symbol}
use Rattle.math_grammar.specs.Operators.{Spelling}

abbrev pub table_entries : List (Bor (List ℕ) × Symbol) → List (List ℕ × Symbol)
table_entries table = map (λ e. (e.0.now, e.1)) table

-- the spellings in the table of a program
abbrev pub spellings_of : List (Op × Bor (List ℕ) × Form) → List Spelling
spellings_of table = map (λ row. (row.0, row.1.now, row.2)) table
