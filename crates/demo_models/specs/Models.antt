-- The models of `demo`, made from a seed.
use Rattle.std.specs.Prelude.{ℕ, suc, zero, ◌+◌, ◌-◌, ◌*◌, ◌/◌, ◌%◌, ◌^◌, nat_le, List, [], ◌∷◌, ◌++◌, codes, if◌then◌else◌}
use Rattle.std.specs.Fmt.{decimal}

-- a number that follows from the seed, for each context
abbrev pub number_at : ℕ → ℕ → ℕ
number_at seed zero = seed % 2 ^ 31
number_at seed (suc i) = (number_at seed i * 1103515245 + 12345) % 2 ^ 31

-- the value of a context's constant, from 1 to 1,000
abbrev pub value_at : ℕ → ℕ → ℕ
value_at seed i = number_at seed i % 1000 + 1

-- a number below 1,000, written with three digits
abbrev pub three_digits : ℕ → List ℕ
three_digits i = decimal (i / 100) ++ decimal (i / 10 % 10) ++ decimal (i % 10)

abbrev pub context_name : ℕ → List ℕ
context_name i = codes "c" ++ three_digits i

abbrev pub machine_name : ℕ → List ℕ
machine_name i = codes "m" ++ three_digits i

-- each context but the first extends the one before
abbrev pub extends_line : ℕ → List ℕ
extends_line i = if nat_le i 1 then [] else (codes "extends " ++ context_name (i - 1) ++ codes "\n")

-- A context with the constant k, which equals the value, and the theorem that it is greater than the number before; the
-- three digits end each name.
abbrev pub context_with : List ℕ → List ℕ → ℕ → List ℕ
context_with digits extends value =
    codes "context c" ++ digits ++ codes "\n" ++ extends ++ codes "constants k" ++ digits
    ++ codes "\naxioms\n  @a" ++ digits ++ codes " k" ++ digits ++ codes " = " ++ decimal value
    ++ codes "\n  theorem @t" ++ digits ++ codes " " ++ decimal (value - 1) ++ codes " < k" ++ digits ++ codes "\nend\n"

abbrev pub context_text : ℕ → ℕ → List ℕ
context_text seed i = context_with (three_digits i) (extends_line i) (value_at seed i)

-- A machine that counts up to the constant, with these lines behind its invariants.
abbrev pub machine_with : List ℕ → List ℕ → List ℕ
machine_with digits more =
    codes "machine m" ++ digits ++ codes "\nsees c" ++ digits ++ codes "\nvariables n" ++ digits
    ++ codes "\ninvariants\n  @inv1 n" ++ digits ++ codes " : NAT\n  @inv2 n" ++ digits ++ codes " <= k" ++ digits ++ codes "\n" ++ more
    ++ codes "events\n  event INITIALISATION\n  then\n    @act1 n" ++ digits
    ++ codes " := 0\n  end\n  event up\n  where\n    @grd1 n" ++ digits ++ codes " < k" ++ digits
    ++ codes "\n  then\n    @act1 n" ++ digits ++ codes " := n" ++ digits ++ codes " + 1\n  end\nend\n"

abbrev pub machine_text : ℕ → List ℕ
machine_text i = machine_with (three_digits i) []

-- the machine with a third invariant
abbrev pub edited_text : ℕ → List ℕ
edited_text i = machine_with (three_digits i) (codes "  @inv3 n" ++ three_digits i ++ codes " : INT\n")

-- each context with its machine, from the first to this one
abbrev pub models : ℕ → ℕ → List (List ℕ × List ℕ)
models seed zero = []
models seed (suc i) = models seed i ++ (context_name (i + 1), context_text seed (i + 1)) ∷ (machine_name (i + 1), machine_text (i + 1)) ∷ []

abbrev pub edited_machine : ℕ → List ℕ × List ℕ
edited_machine i = (machine_name i, edited_text i)
